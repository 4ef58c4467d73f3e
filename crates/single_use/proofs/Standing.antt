-- The entries of faces under their states: an exchanged face makes its steps the opposite way and from the last to the first. Assumes nothing.
use mathlib.Core.Path.{◌≡◌, refl, ap}
use mathlib.Core.Bool.{Bool, true, false, cond}
use mathlib.Core.List.{List, [], ◌∷◌}
use Prim.Native.Nat.{ℕ, zero, suc, ◌*◌, ◌/◌, ◌<◌}
use native.Mathlib.Omega.{arith}
use lib.Dec.{eqb}
use lib.ListN.{length, get_or}
use Rattle.rules.specs.Lists.{each}
use Rattle.rules.specs.Mesh.{Face, exchanged}
use Rattle.rules.specs.Steps.{opposite}
use Rattle.table.specs.Entries.{step_at}
use Rattle.orienting.specs.Reaching.{turn, turned_by}

-- the entry of the same face, counted from its last step
unfoldable pub mirror : ℕ → ℕ
mirror zero = 2
mirror (suc zero) = 1
mirror (suc (suc zero)) = 0
mirror (suc (suc (suc i))) = suc (suc (suc (mirror i)))

-- it is of the same face
pub mirror_face : (i : ℕ) → mirror i / 3 ≡ i / 3
unfolding mirror
mirror_face zero = refl
mirror_face (suc zero) = refl
mirror_face (suc (suc zero)) = refl
mirror_face (suc (suc (suc i))) = let h = mirror_face i in omega arith

-- twice is back
pub mirror_twice : (i : ℕ) → mirror (mirror i) ≡ i
unfolding mirror
mirror_twice zero = refl
mirror_twice (suc zero) = refl
mirror_twice (suc (suc zero)) = refl
mirror_twice (suc (suc (suc i))) = ap (λ k. suc (suc (suc k))) (mirror_twice i)

-- the entry as it was of an entry of a face under its state
abbrev pub before : List ℕ → ℕ → ℕ
before ss id = cond (eqb (get_or ss (id / 3) 0) 2) (mirror id) id

-- the steps of the first face, under its state
module _ (f : Face) (fs gs : List Face) where
  first_step : (b : Bool) → step_at (cond b (exchanged f) f ∷ gs) 0 ≡ cond b (opposite (step_at (f ∷ fs) 2)) (step_at (f ∷ fs) 0)
  unfolding step_at each exchanged opposite
  first_step true = refl
  first_step false = refl

  second_step : (b : Bool) → step_at (cond b (exchanged f) f ∷ gs) 1 ≡ cond b (opposite (step_at (f ∷ fs) 1)) (step_at (f ∷ fs) 1)
  unfolding step_at each exchanged opposite
  second_step true = refl
  second_step false = refl

  third_step : (b : Bool) → step_at (cond b (exchanged f) f ∷ gs) 2 ≡ cond b (opposite (step_at (f ∷ fs) 0)) (step_at (f ∷ fs) 2)
  unfolding step_at each exchanged opposite
  third_step true = refl
  third_step false = refl

-- the steps behind the first face
pub step_behind : (f : Face) (fs : List Face) (i : ℕ) → step_at (f ∷ fs) (suc (suc (suc i))) ≡ step_at fs i
unfolding step_at each
step_behind f fs i = refl

-- the step of an entry of faces under their states
pub step_turned : (ss : List ℕ) (fs : List Face) (id : ℕ) → id < 3 * length fs → step_at (turned_by ss fs) id ≡ cond (eqb (get_or ss (id / 3) 0) 2) (opposite (step_at fs (mirror id))) (step_at fs id)
unfolding turned_by mirror turn
step_turned [] fs id h = refl
step_turned (s ∷ ss) [] id h = absurd (omega arith)
step_turned (s ∷ ss) (f ∷ fs) zero h = first_step f fs (turned_by ss fs) (eqb s 2)
step_turned (s ∷ ss) (f ∷ fs) (suc zero) h = second_step f fs (turned_by ss fs) (eqb s 2)
step_turned (s ∷ ss) (f ∷ fs) (suc (suc zero)) h = third_step f fs (turned_by ss fs) (eqb s 2)
step_turned (s ∷ ss) (f ∷ fs) (suc (suc (suc i))) h =
    let q : suc (suc (suc i)) / 3 ≡ suc (i / 3) = omega arith in
    rw (q, step_behind (turn s f) (turned_by ss fs) i, step_behind f fs (mirror i), step_behind f fs i) (step_turned ss fs i (omega arith))
