-- Ranking carried along a map of numbers that keeps their order and their values: of the faces that stand and their places. Assumes nothing.
use mathlib.Core.Path.{◌≡◌, refl, sym, ap, ap₂, ◌∙◌}
use mathlib.Core.Bool.{Bool, true, false, not, ◌&&◌, ◌||◌, beq, cond}
use mathlib.Core.List.{List, [], ◌∷◌, map}
use Prim.Native.Nat.{ℕ, suc, ◌<◌}
use native.Mathlib.Omega.{arith}
use lib.Dec.{T, eqb, ltb}
use lib.ListN.{length}
use lib.Ieee.{Float, lt}
use Rattle.rules.specs.Lists.{filter, any, has, through}
use Rattle.rules.specs.Mesh.{Face, face}
use Rattle.rules.specs.Steps.{Step, walks}
use Rattle.rules.specs.Rank.{outranks, better, best, without}
use Rattle.rules.specs.Pass3.{second, kept}
use Rattle.rule_laws.proofs.Lists.{under_cond, filter_map}
use Rattle.rule_laws.proofs.Rising.{All, all_imp, all_filter}
use Rattle.rules.specs.Lists.{below, count}
use Rattle.face_words.specs.Words.{stands, place}
use Rattle.face_words.proofs.Places.{filter_agree, ltb_place, eqb_place}

-- what the map h keeps of the numbers that S holds of
pub record Keeps (h : ℕ → ℕ) (S : ℕ → Type 0) : Type 0 where
  pub order : (x y : ℕ) → S x → S y → ltb (h x) (h y) ≡ ltb x y
  pub differs : (x y : ℕ) → S x → S y → eqb (h x) (h y) ≡ eqb x y
  pub zero : h 0 ≡ 0

module _ {h : ℕ → ℕ} {S : ℕ → Type 0} (k : Keeps h S) where
  -- membership
  pub has_map : (i : ℕ) (us : List ℕ) → S i → All S us → has (h i) (map h us) ≡ has i us
  unfolding has any
  has_map i [] s a = refl
  has_map i (j ∷ us) s a = ap₂ (λ x y. x || y) (k.differs i j s a.0) (has_map i us s a.1)

  -- the list without one of them
  pub without_map : (i : ℕ) (us : List ℕ) → S i → All S us → without (h i) (map h us) ≡ map h (without i us)
  unfolding without
  without_map i [] s a = refl
  without_map i (j ∷ us) s a =
      rw (k.differs i j s a.0, without_map i us s a.1)
      (sym (under_cond (map h) (eqb i j) us (j ∷ without i us)))

  -- what is left holds too
  pub without_all : (i : ℕ) (us : List ℕ) → All S us → All S (without i us)
  unfolding without
  without_all i [] a = tt
  without_all i (j ∷ us) a = go (eqb i j) (without_all i us a.1)
    where
      go : (b : Bool) → All S (without i us) → All S (cond b us (j ∷ without i us))
      go true r = a.1
      go false r = (a.0, r)

  module _ (q q' : ℕ → Float) (value : (x : ℕ) → S x → q (h x) ≡ q' x) where
    -- the better of two
    better_map : (i j : ℕ) → S i → S j → better q (h i) (h j) ≡ h (better q' i j)
    unfolding better outranks
    better_map i j s t =
        rw (value i s, value j t, k.order j i t s)
        (sym (under_cond h (lt (q' i) (q' j) || not (lt (q' j) (q' i)) && ltb j i) j i))

    better_in : (i j : ℕ) → S i → S j → S (better q' i j)
    unfolding better
    better_in i j s t = go (outranks q' j i)
      where
        go : (b : Bool) → S (cond b j i)
        go true = t
        go false = s

    -- of one and a list
    best_on : (i : ℕ) (us : List ℕ) → S i → All S us → (through (better q) (h i) (map h us) ≡ h (through (better q') i us)) × S (through (better q') i us)
    unfolding through
    best_on i [] s a = (refl, s)
    best_on i (j ∷ us) s a =
        let r = best_on (better q' i j) us (better_in i j s a.0) a.1 in
        (ap (λ x. through (better q) x (map h us)) (better_map i j s a.0) ∙ r.0, r.1)

    -- the best of a list
    pub best_map : (us : List ℕ) → All S us → best q (map h us) ≡ h (best q' us)
    unfolding best
    best_map [] a = sym k.zero
    best_map (i ∷ us) a = (best_on i us a.0 a.1).0

    -- it is one of them
    pub best_in : (us : List ℕ) → 0 < length us → All S us → S (best q' us)
    unfolding best
    best_in [] l a = absurd (omega arith)
    best_in (i ∷ us) l a = (best_on i us a.0 a.1).1

    -- pass 3's second choice
    second_map : (one : ℕ) (us os : List ℕ) → S one → All S us → All S os → second q (h one) (map h us) (map h os) ≡ h (second q' one us os)
    unfolding second
    second_map one us [] s a b = ap (best q) (without_map one us s a) ∙ best_map (without one us) (without_all one us a)
    second_map one us (o ∷ os) s a b = best_map (o ∷ os) b

    -- one fewer
    without_most : (i : ℕ) (us : List ℕ) → length us < suc (suc (length (without i us)))
    unfolding without
    without_most i [] = omega arith
    without_most i (j ∷ us) = go (eqb i j) (without_most i us)
      where
        go : (b : Bool) → length us < suc (suc (length (without i us))) → suc (length us) < suc (suc (length (cond b us (j ∷ without i us))))
        go true l = omega arith
        go false l = omega arith

    second_in : (one : ℕ) (us os : List ℕ) → 1 < length us → All S us → All S os → S (second q' one us os)
    unfolding second
    second_in one us [] l a b = best_in (without one us) (let m = without_most one us in omega arith) (without_all one us a)
    second_in one us (o ∷ os) l a b = best_in (o ∷ os) (omega arith) b

    -- who is kept at an edge
    pub kept_map :
        (fs gs : List Face) → ((x : ℕ) → S x → face fs (h x) ≡ face gs x) → (e : Step) (us : List ℕ) (i : ℕ) → 1 < length us → S i → All S us
        → kept q fs e (map h us) (h i) ≡ kept q' gs e us i
    unfolding kept
    kept_map fs gs faces e us i l s a =
        ap₂ (λ x y. eqb (h i) x || eqb (h i) y) one_is two_is
        ∙ ap₂ (λ x y. x || y) (k.differs i one s one_in) (k.differs i two s (second_in one us os l a os_all))
      where
        one : ℕ
        one = best q' us

        os : List ℕ
        os = filter (λ j. not (beq (walks (face gs j) e) (walks (face gs one) e))) us

        two : ℕ
        two = second q' one us os

        one_in : S one
        one_in = best_in us (omega arith) a

        os_all : All S os
        os_all =
            all_imp (λ x. S x × T (not (beq (walks (face gs x) e) (walks (face gs one) e)))) S (λ x r. r.0) os
            (all_filter S (λ j. not (beq (walks (face gs j) e) (walks (face gs one) e))) us a)

        one_is : best q (map h us) ≡ h one
        one_is = best_map us a

        others : filter (λ j. not (beq (walks (face fs j) e) (walks (face fs (best q (map h us))) e))) (map h us) ≡ map h os
        others =
            rw one_is
            (filter_map (λ j. not (beq (walks (face fs j) e) (walks (face fs (h one)) e))) h us
            ∙ ap (map h)
            (filter_agree (λ j. not (beq (walks (face fs (h j)) e) (walks (face fs (h one)) e))) (λ j. not (beq (walks (face gs j) e) (walks (face gs one) e))) us
            (all_imp S (λ j. not (beq (walks (face fs (h j)) e) (walks (face fs (h one)) e)) ≡ not (beq (walks (face gs j) e) (walks (face gs one) e)))
            (λ j t. ap₂ (λ x y. not (beq (walks x e) (walks y e))) (faces j t) (faces one one_in)) us a)))

        two_is :
            second q (best q (map h us)) (map h us) (filter (λ j. not (beq (walks (face fs j) e) (walks (face fs (best q (map h us))) e))) (map h us)) ≡ h two
        two_is = rw (others, one_is) (second_map one us os one_in a os_all)

-- a face that stands
abbrev pub Standing : List ℕ → ℕ → Type 0
Standing w f = (f < length w) × T (stands w f)

-- places keep the order of the faces that stand
pub place_keeps : (w : List ℕ) → Keeps (place w) (Standing w)
place_keeps w =
    record {
      order = λ x y s t. ltb_place w x y s.1 t.1;
      differs = λ x y s t. eqb_place w x y s.1 t.1;
      zero = unfold count filter below in refl;
    }
