-- `mend_mesh::put_four` meets its contract: the first four of a list that has as many are set. Assumes nothing.
use mathlib.Core.Path.{◌≡◌, refl}
use mathlib.Core.List.{List, [], ◌∷◌}
use Prim.Native.Nat.{ℕ, ◌≤◌}
use native.Mathlib.Omega.{arith}
use lib.ListN.{length, take, set, length-set}
use Rattle.mend_mesh.proofs.put_four.Goals as goal

-- they stand in front
four_set : (w : List ℕ) (a b c d : ℕ) → 4 ≤ length w → take 4 (set (set (set (set w 0 a) 1 b) 2 c) 3 d) ≡ a ∷ b ∷ c ∷ d ∷ []
four_set [] a b c d h = absurd (omega arith)
four_set (x ∷ []) a b c d h = absurd (omega arith)
four_set (x ∷ y ∷ []) a b c d h = absurd (omega arith)
four_set (x ∷ y ∷ z ∷ []) a b c d h = absurd (omega arith)
four_set (x ∷ y ∷ z ∷ u ∷ w) a b c d h = refl

pub bounds-four-1 : goal.bounds-four-1
bounds-four-1 c = simp length-set (omega (arith, c.requires))

pub bounds-four-2 : goal.bounds-four-2
bounds-four-2 c = simp length-set (omega (arith, c.requires))

pub returns : goal.returns
returns c = four_set c.args.four.now c.args.number c.args.place c.args.points c.args.faces c.requires
