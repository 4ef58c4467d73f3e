-- The words of this crate's contracts, over a work room w, a flat list of faces xs, P points and the rows from `row` on. Definitions only.
use Rattle.std.specs.Prelude.{◌≡◌, Option, Some, None, Result, Ok, Bool, true, false, not, ◌&&◌, List, [], ◌∷◌, ◌++◌, map, ℕ, ◌+◌, ◌*◌, ◌^◌, ◌≤◌, ◌<◌, length, get_or, take, eqb, leb, ltb}
use Rattle.rows.specs.Region.{Apart, Only, Holds}
use Rattle.rules.specs.Lists.{filter, count, each}
use Rattle.rules.specs.Mesh.{Face, faces_of}
use Rattle.rules.specs.Steps.{Step, step, edge, same, users, edges}
use Rattle.rules.specs.Refusal.{decided}
use Rattle.rules.specs.Edges.{no7, no8, boundary}
use Rattle.refuse.specs.Verdicts.{check_of}
use Rattle.refuse.specs.declared.Refusal.{Refusal}
use Rattle.table.specs.Table.{Tabled}

-- the test is true at none of the first n places
pub record NoneOf (at : ℕ → Bool) (n : ℕ) : Type 0 where
  pub none : (j : ℕ) → j < n → at j ≡ false

-- i is the first of n places where it is true
pub record FirstAt (at : ℕ → Bool) (n i : ℕ) : Type 0 where
  pub within : i < n
  pub before : NoneOf at i
  pub found : at i ≡ true

-- the first of n places where it is true, if there is one
abbrev pub FirstOf : (ℕ → Bool) → ℕ → Option ℕ → Type 0
FirstOf at n (Some i) = FirstAt at n i
FirstOf at n None = NoneOf at n

-- run r has more than two entries, by where the runs begin
abbrev pub long : List ℕ → ℕ → ℕ → Bool
long w starts r = ltb (get_or w (starts + r) 0 + 2) (get_or w (starts + r + 1) 0)

-- a vertex is at fault, by the rows of what it begins and ends
abbrev pub uneven : List ℕ → ℕ → ℕ → ℕ → Bool
uneven w begins ends v = not (eqb (get_or w (begins + v) 0) (get_or w (ends + v) 0) && leb (get_or w (begins + v) 0) 1)

-- the edge of a step occurs once
abbrev pub alone : List Face → Step → Bool
alone fs s = eqb (length (users fs (edge s))) 1

-- the boundary edges along the first r of the different edges
unfoldable pub boundary_to : ℕ → List Face → ℕ → List Step
boundary_to P fs r = each (λ e. filter (λ s. same e (edge s)) (boundary fs)) (take r (edges P fs))

-- where the boundary b goes on from v: the rules' `next`, but P where no edge begins at v
unfoldable pub onward : ℕ → List Step → ℕ → ℕ
onward P b v = get_or (map (λ s. s.to) (filter (λ s. eqb s.from v) b)) 0 P

-- the rows say of the edges b how many begin and end at each vertex, and where the boundary goes on from one that begins at most one
pub record Counted (P row : ℕ) (b : List Step) (w : List ℕ) : Type 0 where
  pub begins : Holds row P (λ v. count (λ s. eqb s.from v) b) w
  pub ends : Holds (row + P) P (λ v. count (λ s. eqb s.to v) b) w
  pub next : (v : ℕ) → v < P → count (λ s. eqb s.from v) b ≤ 1 → get_or w (row + 2 * P + v) 0 ≡ onward P b v

-- an edge from v to u, and room for one more
pub record AddAsks (w : List ℕ) (P row v u : ℕ) : Type 0 where
  pub points : P < 2 ^ 32
  pub fit : row + 3 * P ≤ length w
  pub from : v < P
  pub to : u < P
  pub more_begin : get_or w (row + v) 0 + 1 < 2 ^ 32
  pub more_end : get_or w (row + P + u) 0 + 1 < 2 ^ 32

-- the rows say the same of the edges with this one
pub record AddGives (w : List ℕ) (P row v u : ℕ) (w' : List ℕ) : Type 0 where
  pub only : Only row (3 * P) w w'
  pub counted : (b : List Step) → Counted P row b w → Counted P row (b ++ (step v u ∷ [])) w'

-- a table with m runs, and apart from it rows that say what is so of no edges
pub record TraceAsks (w xs : List ℕ) (P at m row : ℕ) : Type 0 where
  pub points : P < 2 ^ 32
  pub tabled : Tabled w xs P false at m
  pub fit : row + 3 * P ≤ length w
  pub apart : Apart at (5 * length xs + 1) row (3 * P)
  pub counted : Counted P row [] w

-- rows that say it of the boundary
pub record TraceGives (w xs : List ℕ) (P at row : ℕ) (w' : List ℕ) : Type 0 where
  pub only : Only row (3 * P) w w'
  pub counted : Counted P row (boundary (faces_of xs)) w'

-- a table of the undirected edges with m runs
pub record CrowdAsks (w xs : List ℕ) (at m : ℕ) : Type 0 where
  pub P : ℕ
  pub tabled : Tabled w xs P false at m

-- the verdict is the rules' of 7
abbrev pub CrowdGives : {w xs : List ℕ} {at m : ℕ} → CrowdAsks w xs at m → Result Unit Refusal → Type 0
CrowdGives {w} {xs} q r = check_of r ≡ decided (no7 q.P (faces_of xs) ∷ [])

-- a table of the undirected edges with m runs, and room for the rows apart from it
pub record BoundaryAsks (w xs : List ℕ) (P at m row : ℕ) : Type 0 where
  pub points : P < 2 ^ 32
  pub tabled : Tabled w xs P false at m
  pub fit : row + 3 * P ≤ length w
  pub apart : Apart at (5 * length xs + 1) row (3 * P)

-- only the rows are written, the table stands; the verdict is the rules' of 7 and 8; where it is Ok, the third row has where the boundary goes on
pub record BoundaryGives (w xs : List ℕ) (P at m row : ℕ) (w' : List ℕ) (r : Result Unit Refusal) : Type 0 where
  pub only : Only row (3 * P) w w'
  pub tabled : Tabled w' xs P false at m
  pub says : check_of r ≡ decided (no7 P (faces_of xs) ∷ no8 P (faces_of xs) ∷ [])
  pub next : r ≡ Ok tt → Holds (row + 2 * P) P (onward P (boundary (faces_of xs))) w'
