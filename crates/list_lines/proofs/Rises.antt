-- Fields that are numbers which rise: read one after the other. Assumes nothing.
use mathlib.Core.Path.{◌≡◌, refl, sym, ap, ◌∙◌}
use mathlib.Core.Bool.{Bool, true, false, ◌&&◌}
use mathlib.Core.Option.{Option, none, some}
use mathlib.Core.List.{List, [], ◌∷◌}
use Prim.Native.Nat.{ℕ, suc, ◌+◌, ◌-◌, ◌≤◌, ◌<◌}
use native.Mathlib.Omega.{arith}
use native.Mathlib.Numerals.{add-one}
use borrow.Author.Tests.{le-leb, lt-leb}
use lib.Dec.{leb}
use lib.ListN.{length}
use lib.Seq.{take-length}
use Rattle.rows.specs.Region.{part}
use Rattle.rules.specs.Text.{whole}
use Rattle.rules.specs.Applying.{wholes, rising}
use Rattle.list_lines.specs.Lines.{tabbed, fields_in, rise_from, NumberIs, NumberNone}
use Rattle.list_lines.proofs.Fields.{part_long, fields_none, front, fields_on, on_fits}

-- ---- one field

-- a first field that holds no number
rise_bad : (k : ℕ) (f : List ℕ) (fs : List (List ℕ)) → whole f ≡ none → rise_from k (f ∷ fs) ≡ false
unfolding rise_from
rise_bad k f fs e = ap (λ (o : Option ℕ). elim o [ none ↦ false | some n ↦ leb k n && rise_from (suc n) fs ]) e

-- one that holds n
rise_good : (k : ℕ) (f : List ℕ) (fs : List (List ℕ)) (n : ℕ) → whole f ≡ some n → rise_from k (f ∷ fs) ≡ (leb k n && rise_from (suc n) fs)
unfolding rise_from
rise_good k f fs n e = ap (λ (o : Option ℕ). elim o [ none ↦ false | some n ↦ leb k n && rise_from (suc n) fs ]) e

-- ---- the loop

-- the fields before `at` are numbers that rise, and the next is to be `least` or more
pub record Rise (xs : List ℕ) (at least : ℕ) : Type 0 where
  pub at_most : at ≤ length xs
  pub few : least ≤ 4294967296
  pub left : rise_from least (fields_in xs at (length xs)) ≡ rise_from 0 (tabbed xs)

-- before the first turn
pub rise_begin : {xs : List ℕ} → Rise xs 0 0
rise_begin {xs} =
    let e : length xs - 0 ≡ length xs = omega arith in
    record { at_most = omega arith; few = omega arith; left = rw e (ap (λ (z : List ℕ). rise_from 0 (tabbed z)) (take-length xs)) }

-- the rest of a row is not empty
pub rest_long : (xs : List ℕ) (at : ℕ) → at < length xs → 0 < length (part xs at (length xs - at))
rest_long xs at h = omega (arith, part_long xs at (length xs) (omega arith) (omega arith))

-- what a turn needs
pub record Turn (xs : List ℕ) (at n k : ℕ) : Type 0 where
  pub on : 0 < k
  pub fits : at + k ≤ length xs

module _ {xs : List ℕ} {at least : ℕ} (v : Rise xs at least) where
  -- a field that holds no number
  pub rise_none : NumberNone (part xs at (length xs - at)) → false ≡ rise_from 0 (tabbed xs)
  rise_none p = sym (sym v.left ∙ ap (rise_from least) p.fields ∙ rise_bad least p.field p.others p.first)

  module _ {n k : ℕ} (p : NumberIs (part xs at (length xs - at)) n k) where
    -- what stands behind the number
    on : rise_from least (fields_in xs at (length xs)) ≡ (leb least n && rise_from (suc n) (fields_in xs (at + k) (length xs)))
    on =
        ap (rise_from least) (fields_on xs at (length xs) p)
        ∙ rise_good least (front xs at (length xs) p) (fields_in xs (at + k) (length xs)) n p.first

    -- a number that does not rise
    pub rise_not : n < least → false ≡ rise_from 0 (tabbed xs)
    rise_not h = sym (sym v.left ∙ on ∙ rw (lt-leb least n h) refl)

    -- the next place
    pub rise_turn : Turn xs at n k
    rise_turn = record { on = p.begins; fits = on_fits xs at (length xs) p v.at_most (omega arith) }

    -- one that does
    pub rise_again : n < 4294967296 → least ≤ n → Rise xs (at + k) (n + 1)
    rise_again l h =
        record {
          at_most = rise_turn.fits;
          few = omega arith;
          left = rw add-one (sym (sym v.left ∙ on ∙ rw (le-leb least n h) refl));
        }

-- all have been read
pub rise_done : {xs : List ℕ} {at least : ℕ} → Rise xs at least → length xs ≤ at → true ≡ rise_from 0 (tabbed xs)
unfolding rise_from
rise_done {xs} {at} {least} v h =
    let e : at ≡ length xs = omega (arith, v.at_most) in
    sym (sym v.left ∙ ap (rise_from least) (fields_none xs at (length xs) e))

-- ---- in the rules' words

-- numbers that rise, from k on
unfoldable rise : ℕ → List ℕ → Bool
rise k [] = true
rise k (n ∷ ns) = leb k n && rise (suc n) ns

-- or no numbers
unfoldable rise_read : ℕ → Option (List ℕ) → Bool
rise_read k none = false
rise_read k (some ns) = rise k ns

-- a false test makes both false
and_false : (b : Bool) → (b && false) ≡ false
and_false true = refl
and_false false = refl

-- the numbers are read first
rise_wholes : (k : ℕ) (fs : List (List ℕ)) → rise_from k fs ≡ rise_read k (wholes fs)
unfolding rise_from rise_read rise wholes
rise_wholes k [] = refl
rise_wholes k (f ∷ fs) = go (whole f) (λ n. rise_wholes (suc n) fs)
  where
    rest : (n : ℕ) (o : Option (List ℕ)) → (leb k n && rise_read (suc n) o) ≡ rise_read k (elim o [ none ↦ none | some ns ↦ some (n ∷ ns) ])
    rest n none = and_false (leb k n)
    rest n (some ns) = refl

    go : (o : Option ℕ) → ((n : ℕ) → rise_from (suc n) fs ≡ rise_read (suc n) (wholes fs))
        → ◌≡◌ {A = Bool} (elim o [ none ↦ false | some n ↦ leb k n && rise_from (suc n) fs ]) (rise_read k (elim o [ none ↦ none | some n ↦ elim (wholes fs) [ none ↦ none | some ns ↦ some (n ∷ ns) ] ]))
    go none r = refl
    go (some n) r = ap (λ (t : Bool). leb k n && t) (r n) ∙ rest n (wholes fs)

-- behind a number
rise_rising : (n : ℕ) (ns : List ℕ) → rise (suc n) ns ≡ rising (n ∷ ns)
unfolding rise rising
rise_rising n [] = refl
rise_rising n (m ∷ ms) = ap (λ (t : Bool). leb (suc n) m && t) (rise_rising m ms)

-- from 0 on
rise_all : (ns : List ℕ) → rise 0 ns ≡ rising ns
unfolding rise
rise_all [] = unfold rising in refl
rise_all (n ∷ ns) = rw (le-leb 0 n (omega arith)) (rise_rising n ns)

-- numbers that were read do rise or do not
pub rise_some : (fs : List (List ℕ)) (ns : List ℕ) → wholes fs ≡ some ns → rise_from 0 fs ≡ rising ns
unfolding rise_read
rise_some fs ns e = rise_wholes 0 fs ∙ ap (rise_read 0) e ∙ rise_all ns

-- where they do, they were numbers
pub rise_no : (fs : List (List ℕ)) → wholes fs ≡ none → rise_from 0 fs ≡ false
unfolding rise_read
rise_no fs e = rise_wholes 0 fs ∙ ap (rise_read 0) e
