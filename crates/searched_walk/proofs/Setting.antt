-- Lists by the faces that stand, when what is said of one face is changed. Assumes nothing.
use mathlib.Core.Path.{◌≡◌, refl, sym, ap, ap₂, ◌∙◌}
use mathlib.Core.Bool.{Bool, true, false, cond}
use mathlib.Core.List.{List, [], ◌∷◌, ◌++◌, map, map-append}
use Prim.Native.Nat.{ℕ, zero, suc, ◌/◌, ◌<◌}
use native.Mathlib.Omega.{arith}
use native.Mathlib.Nat.{le_of_suc-le-suc, not-suc-le-zero}
use native.Mathlib.Decide.{ℕ_discrete}
use lib.Dec.{T}
use lib.Ieee.Bits.{is_true}
use lib.ListN.{length, get_or, set, length-map}
use Rattle.rule_laws.proofs.Rising.{All, all_imp, map_same}
use Rattle.rule_laws.proofs.Lists.{get_or_map_in}
use Rattle.rule_laws.proofs.Counting.{count_strict}
use Rattle.face_words.specs.Words.{stands, there, place}
use Rattle.face_words.proofs.Places.{there_next, there_all, there_length, there_at}
use Rattle.searched_walk.specs.Walking.{chain}

module _ {A : Type 0} where
  -- a change in the first of two lists
  set_left : (xs ys : List A) (i : ℕ) (a : A) → i < length xs → set (xs ++ ys) i a ≡ set xs i a ++ ys
  set_left [] ys i a h = absurd (not-suc-le-zero h)
  set_left (x ∷ xs) ys zero a h = refl
  set_left (x ∷ xs) ys (suc i) a h = ap (λ l. x ∷ l) (set_left xs ys i a (le_of_suc-le-suc h))

  -- a change of the last
  set_end : (xs : List A) (x a : A) → set (xs ++ (x ∷ [])) (length xs) a ≡ xs ++ (a ∷ [])
  set_end [] x a = refl
  set_end (y ∷ xs) x a = ap (λ l. y ∷ l) (set_end xs x a)

module _ {A : Type 0} (w : List ℕ) (p q : ℕ → A) (g : ℕ) (t : T (stands w g)) (other : (f : ℕ) → (f ≡ g → ⊥) → q f ≡ p f) where
  -- what is said of the faces that stand changes at one place
  pub map_there_set : (k : ℕ) → g < k → map q (there w k) ≡ set (map p (there w k)) (place w g) (q g)
  map_there_set zero h = absurd (not-suc-le-zero h)
  map_there_set (suc k) h =
      ap (map q) (there_next w k)
      ∙ go (ℕ_discrete g k) (λ l. map_there_set k l)
      ∙ ap (λ l. set (map p l) (place w g) (q g)) (sym (there_next w k))
    where
      same : map q (there w g) ≡ map p (there w g)
      same =
          map_same q p (there w g)
          (all_imp (λ f. (f < g) × T (stands w f)) (λ f. q f ≡ p f) (λ f l. other f (λ e. absurd (omega (arith, l.0)))) (there w g) (there_all w g))

      last : (b : Bool) → (k ≡ g → ⊥) → map q (cond b (k ∷ []) []) ≡ map p (cond b (k ∷ []) [])
      last true n = ap (λ x. x ∷ []) (other k n)
      last false n = refl

      go : Dec (g ≡ k) → (g < k → map q (there w k) ≡ set (map p (there w k)) (place w g) (q g))
          → map q (there w k ++ cond (stands w k) (k ∷ []) []) ≡ set (map p (there w k ++ cond (stands w k) (k ∷ []) [])) (place w g) (q g)
      go (yes e) r =
          rw (← e, is_true (stands w g) t)
          (map-append q (there w g) (g ∷ [])
          ∙ ap (λ l. l ++ (q g ∷ [])) same
          ∙ sym (set_end (map p (there w g)) (p g) (q g))
          ∙ ap (λ i. set (map p (there w g) ++ (p g ∷ [])) i (q g)) (length-map (there w g) p ∙ there_length w g)
          ∙ ap (λ l. set l (place w g) (q g)) (sym (map-append p (there w g) (g ∷ []))))
      go (no n) r =
          let l : g < k = omega arith in
          map-append q (there w k) (cond (stands w k) (k ∷ []) [])
          ∙ ap₂ (λ x y. x ++ y) (r l) (last (stands w k) (λ e. n (sym e)))
          ∙ sym (set_left (map p (there w k)) (map p (cond (stands w k) (k ∷ []) [])) (place w g) (q g) (rw (length-map (there w k) p, there_length w k) (count_strict (stands w) g k l t)))
          ∙ ap (λ x. set x (place w g) (q g)) (sym (map-append p (there w k) (cond (stands w k) (k ∷ []) [])))

-- what is said of a face stands at its place
pub map_there_at : {A : Type 0} (w : List ℕ) (p : ℕ → A) (d : A) (g k : ℕ) → g < k → T (stands w g) → get_or (map p (there w k)) (place w g) d ≡ p g
map_there_at w p d g k h t =
    get_or_map_in p (there w k) (place w g) 0 d (rw (there_length w k) (count_strict (stands w) g k h t)) ∙ ap p (there_at w k g h t)

-- ---- the chain

-- a face that is not on it may change
pub chain_same : (w w' : List ℕ) (g : ℕ) → ((f : ℕ) → (f ≡ g → ⊥) → get_or w' f 0 ≡ get_or w f 0) → (n h : ℕ) → All (λ f. f ≡ g → ⊥) (chain w n h) → chain w' n h ≡ chain w n h
unfolding chain
chain_same w w' g same zero h a = refl
chain_same w w' g same (suc n) h a =
    ap (λ l. h ∷ l) (ap (λ x. chain w' n (x / 256)) (same h a.0) ∙ chain_same w w' g same n (get_or w h 0 / 256) a.1)

-- it has n faces
pub chain_length : (w : List ℕ) (n h : ℕ) → length (chain w n h) ≡ n
unfolding chain
chain_length w zero h = refl
chain_length w (suc n) h = ap suc (chain_length w n (get_or w h 0 / 256))
