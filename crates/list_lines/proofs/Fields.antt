-- The first of the fields after a tab, and the fields after it. Assumes nothing.
use mathlib.Core.Path.{◌≡◌, refl, sym, ap, ◌∙◌}
use mathlib.Core.Logic.{⊎_elim}
use mathlib.Core.Option.{none, some}
use mathlib.Core.List.{List, [], ◌∷◌}
use Prim.Native.Nat.{ℕ, zero, suc, ◌+◌, ◌-◌, ◌≤◌, ◌<◌}
use native.Mathlib.Nat.{eq-or-lt_of_le}
use native.Mathlib.Omega.{arith}
use native.Mathlib.Numerals.{add-one}
use lib.ListN.{length, get_or, take, drop, length-drop}
use lib.Seq.{drop-cons, drop-drop, drop-length, take-nil}
use Rattle.rows.specs.Region.{part}
use Rattle.rows.proofs.Regions.{length_part}
use Rattle.rules.specs.Text.{parted, whole}
use Rattle.text_fields.specs.Fields.{Piece}
use Rattle.mending_laws.proofs.Parting.{parted_some}
use Rattle.list_lines.specs.Lines.{tabbed, fields_in, NumberIs, NumberNone, one_of}

-- ---- parts of a text

-- the front of a list, from its k-th on
drop_take : (k n : ℕ) (xs : List ℕ) → drop k (take n xs) ≡ take (n - k) (drop k xs)
drop_take zero n xs = let e : n - 0 ≡ n = omega arith in rw e refl
drop_take (suc k) zero xs = let e : 0 - suc k ≡ 0 = omega arith in rw e refl
drop_take (suc k) (suc n) [] = sym (take-nil (suc n - suc k))
drop_take (suc k) (suc n) (x ∷ xs) = let e : suc n - suc k ≡ n - k = omega arith in drop_take k n xs ∙ rw e refl

-- what a part has from its k-th byte on
pub part_from : (text : List ℕ) (a k e : ℕ) → drop k (part text a (e - a)) ≡ part text (a + k) (e - (a + k))
part_from text a k e =
    let q : e - a - k ≡ e - (a + k) = omega arith in
    drop_take k (e - a) (drop a text) ∙ rw (drop-drop k a text, q) refl

-- the first byte of a part
pub part_cons : (text : List ℕ) (a e : ℕ) → a < e → e ≤ length text → part text a (e - a) ≡ get_or text a 0 ∷ part text (a + 1) (e - (a + 1))
part_cons text a e h l =
    let q : e - a ≡ suc (e - (a + 1)) = omega arith in
    let k : a < length text = omega arith in
    rw (drop-cons text a 0 k, q, add-one) refl

-- how long a part is
pub part_long : (text : List ℕ) (a e : ℕ) → a ≤ e → e ≤ length text → length (part text a (e - a)) ≡ e - a
part_long text a e h l = length_part text a (e - a) (omega arith)

-- ---- the first field

-- behind the first tab
tabbed_first : (xs : List ℕ) → 0 < length xs → tabbed xs ≡ parted 9 (drop 1 xs)
unfolding tabbed
tabbed_first [] h = absurd (omega arith)
tabbed_first (x ∷ xs) h = refl

-- behind the tab at k
pub tabbed_at : (xs : List ℕ) (k : ℕ) → k < length xs → tabbed (drop k xs) ≡ parted 9 (drop (k + 1) xs)
tabbed_at xs k h = tabbed_first (drop k xs) (simp length-drop (omega arith)) ∙ ap (parted 9) (drop-drop 1 k xs)

-- no field is left
pub tabbed_end : (xs : List ℕ) (k : ℕ) → k ≡ length xs → tabbed (drop k xs) ≡ []
unfolding tabbed
tabbed_end xs k e = rw e (ap tabbed (drop-length xs))

-- the first field ends where the others begin
pub first_field : {xs : List ℕ} {k : ℕ} → Piece xs 1 9 k → 0 < length xs → tabbed xs ≡ part xs 1 (k - 1) ∷ tabbed (drop k xs)
first_field {xs} {k} p h =
    tabbed_first xs h
    ∙ ⊎_elim
    (λ (e : k ≡ length xs). p.last e ∙ ap (λ (z : List (List ℕ)). part xs 1 (k - 1) ∷ z) (sym (tabbed_end xs k e)))
    (λ (l : k < length xs). p.more l ∙ ap (λ (z : List (List ℕ)). part xs 1 (k - 1) ∷ z) (sym (tabbed_at xs k l)))
    (eq-or-lt_of_le p.ends)

-- it holds a number
pub number_is : {xs : List ℕ} {k n : ℕ} → Piece xs 1 9 k → 0 < length xs → some n ≡ whole (part xs 1 (k - 1)) → NumberIs xs n k
number_is p h e = record { begins = omega (arith, p.begins); ends = p.ends; first = sym e; fields = first_field p h }

-- it holds none
pub number_none : {xs : List ℕ} {k : ℕ} → Piece xs 1 9 k → 0 < length xs → none ≡ whole (part xs 1 (k - 1)) → NumberNone xs
number_none {xs} {k} p h e = record { field = part xs 1 (k - 1); others = tabbed (drop k xs); first = sym e; fields = first_field p h }

-- ---- exactly one

-- the first holds none
pub one_none : {xs : List ℕ} → NumberNone xs → none ≡ one_of (tabbed xs)
unfolding one_of
one_none {xs} p = rw p.fields (go p.others)
  where
    go : (others : List (List ℕ)) → none ≡ one_of (p.field ∷ others)
    go [] = sym p.first
    go (g ∷ rest) = refl

-- there is no other
pub one_is : {xs : List ℕ} {n k : ℕ} → NumberIs xs n k → k ≡ length xs → some n ≡ one_of (tabbed xs)
unfolding one_of
one_is {xs} {n} {k} p e = rw (p.fields, tabbed_end xs k e) (sym p.first)

-- there is another
pub one_more : {xs : List ℕ} {n k : ℕ} → NumberIs xs n k → (k ≡ length xs → ⊥) → none ≡ one_of (tabbed xs)
unfolding one_of
one_more {xs} {n} {k} p e =
    let l : k < length xs = omega (arith, p.ends) in
    let s = parted_some 9 (drop (k + 1) xs) in
    rw (p.fields, tabbed_at xs k l, s.is) refl

-- ---- fields from a place to the end of the line

-- none is left
pub fields_none : (text : List ℕ) (a e : ℕ) → a ≡ e → fields_in text a e ≡ []
unfolding tabbed
fields_none text a e q = let z : e - a ≡ 0 = omega arith in rw z refl

module _ (text : List ℕ) (from end : ℕ) {n k : ℕ} (p : NumberIs (part text from (end - from)) n k) where
  -- the first field
  abbrev pub front : List ℕ
  front = part (part text from (end - from)) 1 (k - 1)

  -- the others begin behind it
  pub fields_on : fields_in text from end ≡ front ∷ fields_in text (from + k) end
  fields_on = p.fields ∙ ap (λ (z : List ℕ). front ∷ tabbed z) (part_from text from k end)

  -- within the line
  pub on_fits : from ≤ end → end ≤ length text → from + k ≤ end
  on_fits h l = omega (arith, p.ends, part_long text from end h l)
