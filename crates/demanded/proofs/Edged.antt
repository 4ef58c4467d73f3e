-- The edge call and the loop call, given the front of a repair's rooms and enough room of their own, answer Ok. Assumes nothing.
use Rattle.std.specs.Prelude.{Result, Ok, Err}
use Rattle.refuse.specs.declared.Refusal.{Refusal}
use mathlib.Core.Path.{◌≡◌, ap, sym, ◌∙◌, subst}
use mathlib.Core.List.{List}
use Prim.Native.Nat.{ℕ, ◌/◌}
use lib.ListN.{length, take}
use lib.Ieee.{Float}
use Rattle.rules.specs.Rooms.{Answer, accepted, refused}
use Rattle.rules.specs.RepairCall.{repair}
use Rattle.rules.specs.EdgesCall.{EdgesRooms, find_edges}
use Rattle.rules.specs.LoopsCall.{LoopsRooms, find_loops}
use Rattle.rule_laws.proofs.Demand.{EdgesEnough, LoopsEnough}
use Rattle.repair.specs.Answers as repaired-as
use Rattle.edges.specs.declared.Found.{Found}
use Rattle.edges.specs.Answers as edged-as
use Rattle.loops.specs.declared.Loops.{Loops}
use Rattle.boundary_loops.specs.Answers as looped-as
use Rattle.demanded.proofs.Mended.{demanded_edges, demanded_loop_call}

-- an answer is accepted
unfoldable pub IsAccepted : Answer → Type 0
IsAccepted (accepted k) = Unit {0}
IsAccepted (refused n p) = ⊥

-- an edge call is done
unfoldable pub EdgesDone : Result Found Refusal → Type 0
EdgesDone (Ok r) = Unit {0}
EdgesDone (Err e) = ⊥

-- a loop call is done
unfoldable pub LoopsDone : Result Loops Refusal → Type 0
LoopsDone (Ok r) = Unit {0}
LoopsDone (Err e) = ⊥

-- one whose answer is accepted is done
edges_done_if : (f : Result Found Refusal) → IsAccepted (edged-as.answer_of f) → EdgesDone f
unfolding IsAccepted EdgesDone
edges_done_if (Ok r) h = tt
edges_done_if (Err e) h = h

loops_done_if : (f : Result Loops Refusal) → IsAccepted (looped-as.answer_of f) → LoopsDone f
unfolding IsAccepted LoopsDone
loops_done_if (Ok r) h = tt
loops_done_if (Err e) h = h

-- after an accepted repair with options 63, on what stands in the rooms
module _ (points : List Float) (faces : List ℕ) (s : Float) (ps : List Float) (xs rs os w : List ℕ) {ps' : List Float} {xs' rs' os' w' : List ℕ} {a b n : ℕ}
    (e : repaired-as.outcome_of (Ok (record { points = a; faces = b; origins = n })) ps' xs' rs' os' w' ≡ repair points faces s 63 (repaired-as.rooms_of ps xs rs os w)) where
  -- the edge call is done
  pub edged :
      (q q' : EdgesRooms) (f : Result Found Refusal) → EdgesEnough (length (take a ps') / 3) (length (take b xs') / 3) q
      → edged-as.outcome_of f q' ≡ find_edges (take a ps') (take b xs') q → EdgesDone f
  unfolding IsAccepted
  edged q q' f enough o =
      let k = demanded_edges points faces s ps xs rs os w e q enough in
      edges_done_if f (subst IsAccepted (sym (ap (λ t. t.answer) o ∙ k.1)) tt)

  -- and so is the loop call
  pub looped_too :
      (q q' : LoopsRooms) (f : Result Loops Refusal) → LoopsEnough (length (take a ps') / 3) (length (take b xs') / 3) q
      → looped-as.outcome_of f q' ≡ find_loops (take a ps') (take b xs') q → LoopsDone f
  unfolding IsAccepted
  looped_too q q' f enough o =
      let k = demanded_loop_call points faces s ps xs rs os w e q enough in
      loops_done_if f (subst IsAccepted (sym (ap (λ t. t.answer) o ∙ k.1)) tt)
