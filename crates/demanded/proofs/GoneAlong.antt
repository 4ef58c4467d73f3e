-- Demand 3's last words of the loop call as it is lent: the vertices in one room, cut at the ends in the other, are the rules' loops, and so they go along
-- each boundary edge exactly once. Assumes nothing.
use Rattle.std.specs.Prelude.{Result, Ok, Err}
use Rattle.refuse.specs.declared.Refusal.{Refusal}
use mathlib.Core.Path.{◌≡◌, sym, ap, ◌∙◌, subst}
use mathlib.Core.List.{List, [], ◌∷◌, Memᴰ}
use Prim.Native.Nat.{ℕ, ◌*◌, ◌/◌, ◌<◌}
use lib.ListN.{length, get_or, take}
use lib.Ieee.{Float}
use Rattle.rules.specs.Lists.{count, any, each}
use Rattle.rules.specs.Mesh.{Face, faces_of}
use Rattle.rules.specs.Steps.{Step, same}
use Rattle.rules.specs.Rooms.{accepted}
use Rattle.rules.specs.RepairCall.{repair}
use Rattle.rules.specs.Edges.{boundary, loops, loop_vertices}
use Rattle.rules.specs.LoopsCall.{LoopsRooms, loops_check, find_loops}
use Rattle.rule_laws.proofs.Demand.{Looped, LoopsEnough, loop_steps}
use Rattle.rule_laws.proofs.Called.{outcome_ok, filled_front, find_loops_looped}
use Rattle.rule_laws.proofs.Reading.{cut, loops_read}
use Rattle.repair.specs.Answers as repaired-as
use Rattle.loops.specs.declared.Loops.{Loops}
use Rattle.boundary_loops.specs.Answers.{outcome_of}
use Rattle.demanded.proofs.Edged.{LoopsDone, looped_too}

-- a row of vertices, cut at the ends into loops, goes along each boundary edge of the faces fs exactly once
pub record GoneAlong (fs : List Face) (vertices ends : List ℕ) : Type 0 where
  -- the loops are the whole row
  pub whole : each (λ l. l) (cut vertices 0 ends) ≡ vertices
  -- one loop goes along each boundary edge, and no other
  pub one_has_each : (s : Step) → Memᴰ s (boundary fs) → count (λ l. any (same s) (loop_steps l)) (cut vertices 0 ends) ≡ 1
  -- all loops together go along it once
  pub each_in_one : (s : Step) → Memᴰ s (boundary fs) → count (same s) (each loop_steps (cut vertices 0 ends)) ≡ 1
  -- and a loop has a vertex and goes along boundary edges alone
  pub each_closes :
      (l : List ℕ) → Memᴰ l (cut vertices 0 ends) → (0 < length l) × ((s : Step) → Memᴰ s (loop_steps l) → Memᴰ s (boundary fs))

-- what the rules say of their loops holds of a row that is cut into them
from_loops :
    (P : ℕ) (fs : List Face) (vertices ends : List ℕ) → Looped P fs → cut vertices 0 ends ≡ loops P fs → vertices ≡ loop_vertices P fs → GoneAlong fs vertices ends
unfolding loop_vertices
from_loops P fs vertices ends l c v =
    record {
      whole = ap (each (λ k. k)) c ∙ sym v;
      one_has_each = λ s m. ap (count (λ k. any (same s) (loop_steps k))) c ∙ l.one_has_each s m;
      each_in_one = λ s m. ap (λ ls. count (same s) (each loop_steps ls)) c ∙ l.each_in_one s m;
      each_closes = λ k m. l.each_closes k (subst (Memᴰ k) c m);
    }

-- the vertices stand at the front of their room
row :
    (points : List Float) (faces : List ℕ) (r : LoopsRooms) (n : List ℕ) → (find_loops points faces r).answer ≡ accepted n
    → take (get_or n 0 0) (find_loops points faces r).rooms.loop_vertices ≡ loop_vertices (length points / 3) (faces_of faces)
unfolding find_loops
row points faces r n e =
    let o = outcome_ok (loops_check points faces r) r _ _ n e in
    ap (λ k. take (get_or n 0 0) k.loop_vertices) o.2
    ∙ filled_front 0 (3 * (length faces / 3)) (get_or n 0 0) (loop_vertices (length points / 3) (faces_of faces)) r.loop_vertices (ap (λ l. get_or l 0 0) o.1)

-- what an accepted loop call leaves in its rooms, by the rules
pub gone_along :
    (points : List Float) (faces : List ℕ) (r : LoopsRooms) (n : List ℕ) → (find_loops points faces r).answer ≡ accepted n
    → GoneAlong (faces_of faces) (take (get_or n 0 0) (find_loops points faces r).rooms.loop_vertices) (take (get_or n 1 0) (find_loops points faces r).rooms.loop_ends)
gone_along points faces r n e =
    from_loops (length points / 3) (faces_of faces) _ _ (find_loops_looped points faces r n e) (loops_read points faces r n e) (row points faces r n e)

-- what `find_loops` leaves there when it is done
pub found_along :
    (points : List Float) (faces : List ℕ) (q q' : LoopsRooms) {d e : ℕ} → outcome_of (Ok (record { loop_vertices = d; loop_ends = e })) q' ≡ find_loops points faces q
    → GoneAlong (faces_of faces) (take d q'.loop_vertices) (take e q'.loop_ends)
found_along points faces q q' {d} {e} o =
    subst (λ t. GoneAlong (faces_of faces) (take d t.rooms.loop_vertices) (take e t.rooms.loop_ends)) (sym o)
    (gone_along points faces q (d ∷ e ∷ []) (ap (λ t. t.answer) (sym o)))

-- a call is done, and its loops go along each boundary edge of the faces fs exactly once
unfoldable pub DoneAlong : List Face → Result Loops Refusal → LoopsRooms → Type 0
DoneAlong fs (Ok r) q = GoneAlong fs (take r.loop_vertices q.loop_vertices) (take r.loop_ends q.loop_ends)
DoneAlong fs (Err e) q = ⊥

-- so does each that is done
done_along :
    (points : List Float) (faces : List ℕ) (q q' : LoopsRooms) (f : Result Loops Refusal) → LoopsDone f → outcome_of f q' ≡ find_loops points faces q → DoneAlong (faces_of faces) f q'
unfolding LoopsDone DoneAlong
done_along points faces q q' (Ok r) h o = found_along points faces q q' o
done_along points faces q q' (Err e) h o = h

-- after an accepted repair with options 63 the loop call on what stands in the rooms is done, and goes along each boundary edge exactly once
pub looped_along :
    (points : List Float) (faces : List ℕ) (s : Float) (ps : List Float) (xs rs os w : List ℕ) {ps' : List Float} {xs' rs' os' w' : List ℕ} {a b n : ℕ}
    → repaired-as.outcome_of (Ok (record { points = a; faces = b; origins = n })) ps' xs' rs' os' w' ≡ repair points faces s 63 (repaired-as.rooms_of ps xs rs os w)
    → (q q' : LoopsRooms) (f : Result Loops Refusal) → LoopsEnough (length (take a ps') / 3) (length (take b xs') / 3) q
    → outcome_of f q' ≡ find_loops (take a ps') (take b xs') q → DoneAlong (faces_of (take b xs')) f q'
looped_along points faces s ps xs rs os w {ps'} {xs'} {rs'} {os'} {w'} {a} {b} e q q' f enough o =
    done_along (take a ps') (take b xs') q q' f (looped_too points faces s ps xs rs os w e q q' f enough o) o
