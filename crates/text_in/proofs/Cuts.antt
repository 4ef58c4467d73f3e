-- A line cut at its tabs: three fields, four, or another number. Assumes nothing.
use mathlib.Core.Path.{◌≡◌, refl, ap, ◌∙◌}
use mathlib.Core.Bool.{Bool, true, false, cond}
use mathlib.Core.Option.{none}
use mathlib.Core.List.{List, [], ◌∷◌}
use Prim.Native.Nat.{ℕ, ◌+◌, ◌-◌, ◌<◌}
use native.Mathlib.Omega.{arith}
use lib.Dec.{eqb}
use lib.ListN.{length, take, drop}
use Rattle.rows.specs.Region.{part}
use Rattle.rules.specs.Text.{onto, parted, Job, first_line, with_line}
use Rattle.text_fields.specs.Fields.{Piece}
use Rattle.text_in.specs.Asked.{PartsThree, PartsFour, PartsOther}

-- a list with a first element
pub record Some (ps : List (List ℕ)) : Type 0 where
  pub first : List ℕ
  pub others : List (List ℕ)
  pub is : ps ≡ first ∷ others

-- a byte before the first piece
onto_some : (b : ℕ) (ps : List (List ℕ)) → Some (onto b ps)
unfolding onto
onto_some b [] = record { first = b ∷ []; others = []; is = refl }
onto_some b (p ∷ ps) = record { first = b ∷ p; others = ps; is = refl }

-- there is always a piece
pub parted_some : (at : ℕ) (xs : List ℕ) → Some (parted at xs)
unfolding parted
parted_some at [] = record { first = []; others = []; is = refl }
parted_some at (b ∷ bs) = go (eqb b at)
  where
    go : (t : Bool) → Some (cond t ([] ∷ parted at bs) (onto b (parted at bs)))
    go true = record { first = []; others = parted at bs; is = refl }
    go false = onto_some b (parted at bs)

-- lines of one, of two and of more than four fields have no form
first_one : (k : List ℕ) → first_line (k ∷ []) ≡ none
unfolding first_line
first_one k = refl

first_two : (k x : List ℕ) → first_line (k ∷ x ∷ []) ≡ none
unfolding first_line
first_two k x = refl

pub first_four : (k x y z : List ℕ) (rest : List (List ℕ)) → first_line (k ∷ x ∷ y ∷ z ∷ rest) ≡ none
unfolding first_line
first_four k x y z rest = refl

with_one : (j : Job) (k : List ℕ) → with_line j (k ∷ []) ≡ none
unfolding with_line
with_one j k = refl

with_two : (j : Job) (k x : List ℕ) → with_line j (k ∷ x ∷ []) ≡ none
unfolding with_line
with_two j k x = refl

pub with_three : (j : Job) (k x y : List ℕ) → with_line j (k ∷ x ∷ y ∷ []) ≡ none
unfolding with_line
with_three j k x y = refl

with_five : (j : Job) (k x y z u : List ℕ) (rest : List (List ℕ)) → with_line j (k ∷ x ∷ y ∷ z ∷ u ∷ rest) ≡ none
unfolding with_line
with_five j k x y z u rest = refl

module _ {xs : List ℕ} {a : ℕ} (p : Piece xs 0 9 a) where
  -- one field
  pub one : a ≡ length xs → PartsOther xs
  one h =
      let e = p.last h in
      record { first = ap first_line e ∙ first_one _; further = λ j. ap (with_line j) e ∙ with_one j _ }

  module _ (h : a ≡ length xs → ⊥) {b : ℕ} (q : Piece xs (a + 1) 9 b) where
    -- the first cut is a tab
    abbrev at_a : parted 9 xs ≡ take (a - 0) xs ∷ parted 9 (drop (a + 1) xs)
    at_a =
        let l : a < length xs = omega (arith, p.ends) in
        p.more l

    -- two fields
    pub two : b ≡ length xs → PartsOther xs
    two e =
        let f = at_a ∙ ap (λ (z : List (List ℕ)). take (a - 0) xs ∷ z) (q.last e) in
        record { first = ap first_line f ∙ first_two _ _; further = λ j. ap (with_line j) f ∙ with_two j _ _ }

    module _ (i : b ≡ length xs → ⊥) {c : ℕ} (r : Piece xs (b + 1) 9 c) where
      -- so is the second
      abbrev at_b : parted 9 xs ≡ take (a - 0) xs ∷ part xs (a + 1) (b - (a + 1)) ∷ parted 9 (drop (b + 1) xs)
      at_b =
          let l : b < length xs = omega (arith, q.ends) in
          at_a ∙ ap (λ (z : List (List ℕ)). take (a - 0) xs ∷ z) (q.more l)

      -- three fields
      pub three : c ≡ length xs → PartsThree xs a b
      three e =
          let z : a - 0 ≡ a = omega arith in
          let f = at_b ∙ ap (λ (w : List (List ℕ)). take (a - 0) xs ∷ part xs (a + 1) (b - (a + 1)) ∷ w) (r.last e) in
          record { cuts = record { rise_a = omega (arith, q.begins); rise_b = omega (arith, q.ends) }; fields = rw (z, e) at f }

      module _ (k : c ≡ length xs → ⊥) {d : ℕ} (s : Piece xs (c + 1) 9 d) where
        -- so is the third
        abbrev at_c : parted 9 xs ≡ take (a - 0) xs ∷ part xs (a + 1) (b - (a + 1)) ∷ part xs (b + 1) (c - (b + 1)) ∷ parted 9 (drop (c + 1) xs)
        at_c =
            let l : c < length xs = omega (arith, r.ends) in
            at_b ∙ ap (λ (w : List (List ℕ)). take (a - 0) xs ∷ part xs (a + 1) (b - (a + 1)) ∷ w) (r.more l)

        -- four fields
        pub four : d ≡ length xs → PartsFour xs a b c
        four e =
            let z : a - 0 ≡ a = omega arith in
            let f = at_c ∙ ap (λ (w : List (List ℕ)). take (a - 0) xs ∷ part xs (a + 1) (b - (a + 1)) ∷ part xs (b + 1) (c - (b + 1)) ∷ w) (s.last e) in
            record { cuts = record { rise_a = omega (arith, q.begins); rise_b = omega (arith, r.begins); rise_c = omega (arith, r.ends) }; fields = rw (z, e) at f }

        -- more
        pub more : (d ≡ length xs → ⊥) → PartsOther xs
        more e =
            let l : d < length xs = omega (arith, s.ends) in
            let n = parted_some 9 (drop (d + 1) xs) in
            let f = at_c ∙ ap (λ (w : List (List ℕ)). take (a - 0) xs ∷ part xs (a + 1) (b - (a + 1)) ∷ part xs (b + 1) (c - (b + 1)) ∷ w) (s.more l ∙ ap (λ (w : List (List ℕ)). part xs (c + 1) (d - (c + 1)) ∷ w) n.is) in
            record { first = ap first_line f ∙ first_four _ _ _ _ _; further = λ j. ap (with_line j) f ∙ with_five j _ _ _ _ _ _ }
