-- What the work room says of the walk: states, the stack, and a step of a face as it stands. Assumes nothing.
use mathlib.Core.Path.{◌≡◌, refl, sym, ap, ap₂, ◌∙◌}
use mathlib.Core.Bool.{Bool, true, false, not, cond, or-false}
use mathlib.Core.List.{List, ◌∷◌}
use Prim.Native.Nat.{ℕ, zero, suc, ◌+◌, ◌*◌, ◌/◌, ◌≤◌, ◌<◌}
use native.Mathlib.Omega.{arith}
use borrow.Author.Tests.{ne_eqb}
use lib.Dec.{eqb}
use lib.ListN.{length, get_or}
use Rattle.rows.specs.Region.{part}
use Rattle.rows.proofs.Regions.{length_part, get_d_part}
use Rattle.rules.specs.Lists.{any}
use Rattle.rules.specs.Mesh.{Face, faces_of, face, exchanged}
use Rattle.rules.specs.Steps.{step, opposite, same, walks}
use Rattle.rule_laws.proofs.Lists.{get_or_map_in}
use Rattle.rule_laws.proofs.Flat.{face_in}
use Rattle.orienting.specs.Reaching.{turn}
use Rattle.orienting.proofs.Turns.{walks_exchanged, face_turned}
use Rattle.reaching.specs.Walking.{stack_of, walk_of, StandsAsks}

-- ---- rows

-- the same entries make the same stack
pub stack_same : (w w' : List ℕ) (a k : ℕ) → ((j : ℕ) → j < k → get_or w' (a + j) 0 ≡ get_or w (a + j) 0) → stack_of w' a k ≡ stack_of w a k
unfolding stack_of
stack_same w w' a zero h = refl
stack_same w w' a (suc k) h = ap₂ (λ x l. x ∷ l) (h k (omega arith)) (stack_same w w' a k (λ j q. h j (omega arith)))

-- as many as it says
pub length_stack : (w : List ℕ) (a k : ℕ) → length (stack_of w a k) ≡ k
unfolding stack_of
length_stack w a zero = refl
length_stack w a (suc k) = ap suc (length_stack w a k)

-- ---- states

module _ (fs : List Face) (n : ℕ) (w : List ℕ) (h : 3 + n ≤ length w) (i : ℕ) (l : i < n) where
  -- a face is visited where its state is not 0
  pub visited_at : get_or (walk_of fs n w).visited i false ≡ not (eqb (get_or w (3 + i) 0) 0)
  unfolding walk_of
  visited_at =
      get_or_map_in (λ s. not (eqb s 0)) (part w 3 n) i 0 false (omega (arith, length_part w 3 n h))
      ∙ ap (λ s. not (eqb s 0)) (get_d_part w 3 n i l)

  -- and it is under its state
  pub turned_at : face (walk_of fs n w).faces i ≡ turn (get_or w (3 + i) 0) (face fs i)
  unfolding walk_of
  turned_at = face_turned (part w 3 n) fs i ∙ ap (λ s. turn s (face fs i)) (get_d_part w 3 n i l)

-- ---- the step of a face

module _ (xs : List ℕ) (i x y : ℕ) (h : i < length xs / 3) where
  -- the first, second and third step of the face, by its corners
  abbrev first : Bool
  first = same (step x y) (step (get_or xs (3 * i) 0) (get_or xs (3 * i + 1) 0))

  abbrev second : Bool
  second = same (step x y) (step (get_or xs (3 * i + 1) 0) (get_or xs (3 * i + 2) 0))

  abbrev third : Bool
  third = same (step x y) (step (get_or xs (3 * i + 2) 0) (get_or xs (3 * i) 0))

  -- it makes one of them
  pub makes_first : true ≡ first → true ≡ walks (face (faces_of xs) i) (step x y)
  unfolding walks any
  makes_first e = rw (face_in xs i h, ← e)

  -- or the second
  pub makes_second : false ≡ first → true ≡ second → true ≡ walks (face (faces_of xs) i) (step x y)
  unfolding walks any
  makes_second d e = rw (face_in xs i h, ← d, ← e)

  -- or the third decides
  pub makes_third : false ≡ first → false ≡ second → {r : Bool} → r ≡ third → r ≡ walks (face (faces_of xs) i) (step x y)
  unfolding walks any
  makes_third d e f = rw (face_in xs i h, ← d, ← e, or-false third) f

module _ {w xs : List ℕ} {n i : ℕ} (p : StandsAsks w xs n i) where
  -- a face is one of the list
  pub is_face : i < length xs / 3
  is_face = omega (arith, p.here, p.fits.long)

  module _ (x y : ℕ) {r : Bool} where
    -- an exchanged face makes a step where it made the opposite one
    pub stands_turned : get_or w (3 + i) 0 ≡ 2 → r ≡ walks (face (faces_of xs) i) (step y x) → r ≡ walks (face (walk_of (faces_of xs) n w).faces i) (step x y)
    unfolding turn opposite
    stands_turned e f =
        f
        ∙ sym (walks_exchanged (face (faces_of xs) i) (step x y))
        ∙ ap (λ s. walks (turn s (face (faces_of xs) i)) (step x y)) (sym e)
        ∙ ap (λ g. walks g (step x y)) (sym (turned_at (faces_of xs) n w (omega (arith, p.fits.fit)) i p.here))

    -- another as it did
    pub stands_straight : (get_or w (3 + i) 0 ≡ 2 → ⊥) → r ≡ walks (face (faces_of xs) i) (step x y) → r ≡ walks (face (walk_of (faces_of xs) n w).faces i) (step x y)
    unfolding turn
    stands_straight e f =
        f
        ∙ ap (λ b. walks (cond b (exchanged (face (faces_of xs) i)) (face (faces_of xs) i)) (step x y)) (sym (ne_eqb (get_or w (3 + i) 0) 2 e))
        ∙ ap (λ g. walks g (step x y)) (sym (turned_at (faces_of xs) n w (omega (arith, p.fits.fit)) i p.here))
