-- What the listing of the loops asks and gives, over the edges b of a simple boundary. Definitions only.
use Rattle.std.specs.Prelude.{◌≡◌, not, ◌&&◌, cond, ℕ, suc, ◌+◌, ◌%◌, ◌^◌, ◌≤◌, ◌<◌, eqb, length, get_or, take}
use mathlib.Core.List.{List, [], map, Memᴰ}
use Rattle.rows.specs.Region.{Apart, Only, Only2, Holds}
use Rattle.rules.specs.Lists.{below, filter, any, each, through, has}
use Rattle.rules.specs.Mesh.{faces_of}
use Rattle.rules.specs.Steps.{Step}
use Rattle.rules.specs.Refusal.{ok}
use Rattle.rules.specs.Rooms.{filled}
use Rattle.rules.specs.Edges.{boundary, next, add_loop, no8, loop_vertices, loop_ends}
use Rattle.rule_laws.proofs.Next.{Simple}

-- where the boundary goes on from x; P where no edge begins at x
abbrev pub onward : ℕ → List Step → ℕ → ℕ
onward P b x = get_or (map (λ s. s.to) (filter (λ s. eqb s.from x) b)) 0 P

-- and where x is in one of the loops ls
abbrev pub left : ℕ → List Step → List (List ℕ) → ℕ → ℕ
left P b ls x = cond (any (λ s. eqb s.from x) b && not (any (has x) ls)) (next b x) P

-- the loops that vertices below v start
abbrev pub loops_to : List Step → ℕ → List (List ℕ)
loops_to b v = through (add_loop b) [] (below v)

-- running totals of the loops' lengths
abbrev pub ends_of : List (List ℕ) → List ℕ
ends_of ls = map (λ k. length (each (λ l. l) (take (suc k) ls))) (below (length ls))

-- a simple boundary over P points, and room for its edges; the last three are the lengths of the rooms
pub record Plan (b : List Step) (P next spare w vs es : ℕ) : Type 0 where
  pub simple : Simple b
  pub inside : (s : Step) → Memᴰ s b → (s.from < P) × (s.to < P)
  pub few : P < 2 ^ 32
  pub short : length b < 2 ^ 32
  pub next_fit : next + P ≤ w
  pub spare_fit : spare + length b ≤ w
  pub apart : Apart next P spare (length b)
  pub room_vertices : length b ≤ vs
  pub room_ends : length b ≤ es

-- the loops that vertices below v start are listed
pub record Listed (b : List Step) (P next : ℕ) (w : List ℕ) (v : ℕ) (vs es : List ℕ) (total count : ℕ) : Type 0 where
  pub row : Holds next P (left P b (loops_to b v)) w
  pub total_is : total ≡ length (each (λ l. l) (loops_to b v))
  pub vertices : take total vs ≡ each (λ l. l) (loops_to b v)
  pub count_is : count ≡ length (loops_to b v)
  pub ends : take count es ≡ ends_of (loops_to b v)

-- one vertex more
pub record AddAsks (w : List ℕ) (P next spare v : ℕ) (vs es : List ℕ) (total count : ℕ) : Type 0 where
  pub b : List Step
  pub plan : Plan b P next spare (length w) (length vs) (length es)
  pub here : v < P
  pub listed : Listed b P next w v vs es total count

-- what follows the loops so far may change, and the two regions of the work room
pub record AddGives {w : List ℕ} {P next spare v : ℕ} {vs es : List ℕ} {total count : ℕ} (q : AddAsks w P next spare v vs es total count) (w' vs' es' : List ℕ) (total' count' : ℕ) : Type 0 where
  pub more : total ≤ total'
  pub more_ends : count ≤ count'
  pub only_work : Only2 next P spare (length q.b) w w'
  pub only_vertices : Only 0 total' vs vs'
  pub only_ends : Only 0 count' es es'
  pub listed : Listed q.b P next w' (v + 1) vs' es' total' count'

-- no loop is listed yet
pub record TraceAsks (w : List ℕ) (P next spare : ℕ) (vs es : List ℕ) : Type 0 where
  pub b : List Step
  pub plan : Plan b P next spare (length w) (length vs) (length es)
  pub row : Holds next P (onward P b) w

-- all loops are
pub record TraceGives {w : List ℕ} {P next spare : ℕ} {vs es : List ℕ} (q : TraceAsks w P next spare vs es) (w' vs' es' : List ℕ) (total count : ℕ) : Type 0 where
  pub only_work : Only2 next P spare (length q.b) w w'
  pub only_vertices : Only 0 total vs vs'
  pub only_ends : Only 0 count es es'
  pub listed : Listed q.b P next w' P vs' es' total count
  pub total_fits : total ≤ length q.b
  pub count_fits : count ≤ length q.b

-- faces whose boundary is simple, a row that has where it goes on, a region of 3F entries, and two rooms of 3F entries
pub record LoopsAsks (w xs : List ℕ) (P next spare : ℕ) (vs es : List ℕ) : Type 0 where
  pub whole : length xs % 3 ≡ 0
  pub inside : (i : ℕ) → i < length xs → get_or xs i 0 < P
  pub simple : no8 P (faces_of xs) ≡ ok
  pub few : P < 2 ^ 32
  pub short : length xs < 2 ^ 32
  pub next_fit : next + P ≤ length w
  pub spare_fit : spare + length xs ≤ length w
  pub apart : Apart next P spare (length xs)
  pub row : Holds next P (onward P (boundary (faces_of xs))) w
  pub room_vertices : length xs ≤ length vs
  pub room_ends : length xs ≤ length es

-- both rooms are the rules', and so are the counts
pub record LoopsGives (w xs : List ℕ) (P next spare : ℕ) (vs es w' vs' es' : List ℕ) (total count : ℕ) : Type 0 where
  pub only : Only2 next P spare (length xs) w w'
  pub total_is : total ≡ length (loop_vertices P (faces_of xs))
  pub count_is : count ≡ length (loop_ends P (faces_of xs))
  pub vertices : vs' ≡ filled 0 (length xs) (loop_vertices P (faces_of xs)) vs
  pub ends : es' ≡ filled 0 (length xs) (loop_ends P (faces_of xs)) es
