-- The edge check: given the front of a repair's rooms and enough work room, it answers Ok with yes; and what it says yes to is refused neither 7 nor 8 by
-- the edge call and the loop call. Assumes nothing.
use Rattle.std.specs.Prelude.{Bool, Result, Ok, Err}
use Rattle.refuse.specs.declared.Refusal.{Refusal}
use Rattle.refuse.specs.Verdicts.{number_of}
use mathlib.Core.Path.{◌≡◌, refl, sym, ap, ◌∙◌, subst}
use mathlib.Core.Bool.{true, false}
use mathlib.Core.List.{List, [], ◌∷◌}
use Prim.Native.Nat.{ℕ, ◌/◌, ◌<◌}
use lib.ListN.{length, take}
use lib.Ieee.{Float}
use Rattle.rules.specs.Rooms.{accepted}
use Rattle.rules.specs.RepairCall.{repair}
use Rattle.rules.specs.EdgesCall.{EdgesRooms, find_edges}
use Rattle.rules.specs.LoopsCall.{LoopsRooms, find_loops}
use Rattle.rules.specs.CheckCall.{check}
use Rattle.rule_laws.proofs.Demand.{CheckEnough}
use Rattle.rule_laws.proofs.Checked.{no_is_not_yes}
use Rattle.rule_laws.proofs.Called.{IfRefused, Fine, check_fine}
use Rattle.repair.specs.Answers as repaired-as
use Rattle.edges.specs.Answers as edged-as
use Rattle.boundary_loops.specs.Answers as looped-as
use Rattle.edge_check.specs.Answers.{answer_of, outcome_of}
use Rattle.demanded.proofs.Mended.{demanded_yes}
use Rattle.demanded.proofs.Edged.{IsAccepted}

-- an edge check whose answer is 1 says yes
yes_if : (r : Result Bool Refusal) → answer_of r ≡ accepted (1 ∷ []) → r ≡ Ok true
unfolding IsAccepted
yes_if (Ok true) e = refl
yes_if (Ok false) e = absurd (no_is_not_yes e)
yes_if (Err r) e = absurd (subst IsAccepted (sym e) tt)

-- after an accepted repair with options 63 the edge check on what stands in the rooms says yes
pub checked :
    (points : List Float) (faces : List ℕ) (s : Float) (ps : List Float) (xs rs os w : List ℕ) {ps' : List Float} {xs' rs' os' w' : List ℕ} {a b n : ℕ}
    → repaired-as.outcome_of (Ok (record { points = a; faces = b; origins = n })) ps' xs' rs' os' w' ≡ repair points faces s 63 (repaired-as.rooms_of ps xs rs os w)
    → (work work' : List ℕ) (r : Result Bool Refusal) → CheckEnough (length (take a ps') / 3) (length (take b xs') / 3) work
    → outcome_of r work' ≡ check (length (take a ps') / 3) (take b xs') work → r ≡ Ok true
checked points faces s ps xs rs os w e work work' r enough o = yes_if r (ap (λ t. t.answer) o ∙ demanded_yes points faces s ps xs rs os w e work enough)

-- after an edge check that says yes, on the same faces over as many points
module _ (points : List Float) (faces work : List ℕ) {work' : List ℕ} (e : outcome_of (Ok true) work' ≡ check (length points / 3) faces work) where
  -- the rules' word on the other calls
  fine : Fine points faces
  fine = check_fine points faces work (ap (λ t. t.answer) (sym e))

  -- an edge call that refuses does so with a number below 7
  pub edges_fine : (q q' : EdgesRooms) (d : Refusal) → edged-as.outcome_of (Err d) q' ≡ find_edges points faces q → number_of d < 7
  edges_fine q q' d o = subst (λ t. IfRefused (λ k. k < 7) t.answer) (sym o) (fine.edge_call q)

  -- and so does a loop call
  pub loops_fine : (q q' : LoopsRooms) (d : Refusal) → looped-as.outcome_of (Err d) q' ≡ find_loops points faces q → number_of d < 7
  loops_fine q q' d o = subst (λ t. IfRefused (λ k. k < 7) t.answer) (sym o) (fine.loop_call q)
