-- The pieces of a text, found by walking forward to the next separator. Assumes nothing.
use Rattle.std.specs.Prelude.{Some, None}
use Rattle.std.specs.List.{position, position_or_len}
use Rattle.std.proofs.lemmas.List.Quantifiers.{position-Some}
use Rattle.std.proofs.lemmas.List.Sums.{fails_before_first}
use mathlib.Core.Path.{◌≡◌, refl, sym, ap, subst, ◌∙◌}
use mathlib.Core.Bool.{Bool, true, false, cond, true≢false}
use mathlib.Core.List.{List, [], ◌∷◌, ◌++◌}
use Prim.Native.Nat.{ℕ, zero, suc, ◌+◌, ◌-◌, ◌≤◌, ◌<◌}
use native.Mathlib.Omega.{arith}
use borrow.Author.Tests.{eq-eqb, ne_eqb, ltb-false}
use lib.Dec.{T, eqb, ltb, eqb→eq}
use lib.ListN.{length, get_or, take, drop, length-drop}
use lib.Seq.{drop-cons, drop-length, get_or-drop, take_all}
use native.Mathlib.Numerals.{add-one}
use Rattle.rows.specs.Region.{part}
use Rattle.rows.proofs.Regions.{part_suc}
use Rattle.rules.specs.Text.{onto, parted}
use Rattle.text_fields.specs.Fields.{Piece}

-- bytes put before the first piece
unfoldable pub before_all : List ℕ → List (List ℕ) → List (List ℕ)
before_all [] ps = ps
before_all (b ∷ bs) ps = onto b (before_all bs ps)

-- a byte more at their end
before_append : (xs ys : List ℕ) (ps : List (List ℕ)) → before_all (xs ++ ys) ps ≡ before_all xs (before_all ys ps)
unfolding before_all
before_append [] ys ps = refl
before_append (x ∷ xs) ys ps = ap (onto x) (before_append xs ys ps)

-- before an empty piece they are the piece
before_empty : (xs : List ℕ) (ps : List (List ℕ)) → before_all xs ([] ∷ ps) ≡ xs ∷ ps
unfolding before_all onto
before_empty [] ps = refl
before_empty (x ∷ xs) ps = ap (onto x) (before_empty xs ps)

-- no separator from `from` to i: those bytes stand before the pieces from i on
pub record Clear (xs : List ℕ) (from at i : ℕ) : Type 0 where
  pub begins : from ≤ i
  pub ends : i ≤ length xs
  pub pieces : parted at (drop from xs) ≡ before_all (part xs from (i - from)) (parted at (drop i xs))

-- before the first turn there are no bytes
pub begin : {xs : List ℕ} {from at : ℕ} → from ≤ length xs → Clear xs from at from
unfolding before_all
begin {xs} {from} {at} h =
    let e : from - from ≡ 0 = omega arith in
    record { begins = omega arith; ends = h; pieces = rw e refl }

module _ {xs : List ℕ} {from at i : ℕ} (v : Clear xs from at i) where
  -- another byte goes before
  pub again : i < length xs → (get_or xs i 0 ≡ at → ⊥) → Clear xs from at (i + 1)
  unfolding parted before_all
  again h n =
      let b = v.begins in
      let e : i + 1 - from ≡ (i - from) + 1 = omega arith in
      let f : from + (i - from) ≡ i = omega arith in
      let p : part xs from (i + 1 - from) ≡ part xs from (i - from) ++ (get_or xs i 0 ∷ []) =
      rw (e, add-one) (part_suc xs from (i - from) (omega arith) ∙ ap (λ (k : ℕ). part xs from (i - from) ++ (get_or xs k 0 ∷ [])) f) in
      let q : parted at (drop i xs) ≡ onto (get_or xs i 0) (parted at (drop (i + 1) xs)) =
      rw add-one (ap (parted at) (drop-cons xs i 0 h) ∙ rw (ne_eqb _ _ n) refl) in
      record {
        begins = omega arith;
        ends = omega arith;
        pieces = v.pieces ∙ ap (before_all (part xs from (i - from))) q ∙ sym (ap (λ (z : List ℕ). before_all z (parted at (drop (i + 1) xs))) p ∙ before_append (part xs from (i - from)) (get_or xs i 0 ∷ []) (parted at (drop (i + 1) xs)));
      }

  -- at a separator the piece ends
  pub found : i < length xs → get_or xs i 0 ≡ at → Piece xs from at i
  unfolding parted
  found h e =
      let q : parted at (drop i xs) ≡ [] ∷ parted at (drop (i + 1) xs) =
      rw add-one (ap (parted at) (drop-cons xs i 0 h) ∙ rw (eq-eqb _ _ e) refl) in
      record {
        begins = v.begins;
        ends = v.ends;
        last = λ z. absurd (omega arith);
        more = λ z. v.pieces ∙ ap (before_all (part xs from (i - from))) q ∙ before_empty (part xs from (i - from)) (parted at (drop (i + 1) xs));
      }

  -- at the end of the text it is the last
  pub done : length xs ≤ i → Piece xs from at i
  unfolding parted
  done h =
      let e : i ≡ length xs = omega (arith, v.ends) in
      let z : drop i xs ≡ [] = rw e (drop-length xs) in
      let q : parted at (drop i xs) ≡ [] ∷ [] = ap (parted at) z in
      record {
        begins = v.begins;
        ends = v.ends;
        last = λ z. v.pieces ∙ ap (before_all (part xs from (i - from))) q ∙ before_empty (part xs from (i - from)) [];
        more = λ z. absurd (omega arith);
      }

-- none among the first k bytes
none_before : (xs : List ℕ) (from at k : ℕ) → from + k ≤ length xs → ((j : ℕ) → j < k → get_or xs (from + j) 0 ≡ at → ⊥) → Clear xs from at (from + k)
none_before xs from at zero h n =
    let e : from ≡ from + 0 = omega arith in
    subst (Clear xs from at) e (begin (omega arith))
none_before xs from at (suc k) h n =
    let v = none_before xs from at k (omega arith) (λ j l. n j (omega arith)) in
    let e : from + k + 1 ≡ from + suc k = omega arith in
    subst (Clear xs from at) e (again v (omega arith) (n k (omega arith)))

-- where no byte of the rest is one, none of the text is
none_at : (xs : List ℕ) (from at j : ℕ) → eqb (get_or (drop from xs) j 0) at ≡ false → get_or xs (from + j) 0 ≡ at → ⊥
none_at xs from at j e f = true≢false (sym (eq-eqb _ _ (get_or-drop from xs j 0 ∙ f)) ∙ e)

-- the rest of the text, as a slice of it
rest_of : (xs : List ℕ) (from : ℕ) → take (length xs - from) (drop from xs) ≡ drop from xs
rest_of xs from = take_all (length xs - from) (drop from xs) (omega (arith, length-drop from xs))

-- the first separator is k bytes further
pub piece_some : (xs : List ℕ) (from at k : ℕ) → from ≤ length xs → position (λ b. eqb b at) (take (length xs - from) (drop from xs)) ≡ Some k → Piece xs from at (from + k)
piece_some xs from at k h e =
    let p = position-Some (λ b. eqb b at) (drop from xs) k 0 (rw rest_of at e) in
    let l : from + k < length xs = omega (arith, p.0, length-drop from xs) in
    found (none_before xs from at k (omega arith) (λ j m. none_at xs from at j (p.2 j m))) l (sym (get_or-drop from xs k 0) ∙ eqb→eq _ _ (subst T (sym p.1) tt))

-- there is none
pub piece_none : (xs : List ℕ) (from at : ℕ) → from ≤ length xs → position (λ b. eqb b at) (take (length xs - from) (drop from xs)) ≡ None → Piece xs from at (length xs)
piece_none xs from at h e =
    let test = λ (b : ℕ). eqb b at in
    let rest = drop from xs in
    let k : length rest ≤ position_or_len test rest = past (position_or_len test rest) (length rest) (rw rest_of at e) in
    let l : from + (length xs - from) ≡ length xs = omega arith in
    let v = none_before xs from at (length xs - from) (omega arith) (λ j m. none_at xs from at j (fails_before_first test rest j 0 (omega (arith, k, length-drop from xs)))) in
    done (subst (Clear xs from at) l v) (omega arith)
  where
    past : (i n : ℕ) → cond (ltb i n) (Some i) None ≡ None → n ≤ i
    past i n e = go (ltb i n) refl e
      where
        go : (t : Bool) → ltb i n ≡ t → cond t (Some i) None ≡ None → n ≤ i
        go true q z = absurd (cc)
        go false q z = ltb-false i n q
