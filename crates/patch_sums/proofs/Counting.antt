-- The loop that counts the faces of each patch. Assumes nothing.
use mathlib.Core.Path.{◌≡◌, sym, ap, subst, ◌∙◌}
use mathlib.Core.Logic.{◌⊎◌, inl, inr}
use mathlib.Core.List.{List, [], ◌∷◌}
use Prim.Native.Nat.{ℕ, ◌+◌, ◌≤◌, ◌<◌, ◌^◌}
use native.Mathlib.Nat.{zero-add}
use native.Mathlib.Numerals.{add-one}
use native.Mathlib.Omega.{arith}
use native.Mathlib.Decide.{ℕ_discrete}
use borrow.Author.Tests.{ne_eqb, eq-eqb}
use lib.Dec.{T, eqb}
use lib.ListN.{length, get_or, set, take, length-take}
use lib.Seq.{take-suc, take_all, get_or-set_same, get_or-set_other}
use Rattle.rows.specs.Region.{Only, Filled}
use Rattle.rows.proofs.Regions.{only_both, only_none, only_set}
use Rattle.rules.specs.Lists.{filter, count}
use Rattle.rules.specs.Refusal.{no_patch}
use Rattle.rule_laws.proofs.Counting.{count_append, count_one, count_not, filter_le}
use Rattle.patch_sums.specs.Sums.{CountAsks, CountGives}

-- each count is that of the labels passed
pub record Counted (labels cs₀ : List ℕ) (C : ℕ) (cs : List ℕ) (i : ℕ) : Type 0 where
  pub at_most : i ≤ length labels
  pub only : Only 0 C cs₀ cs
  pub each : (k : ℕ) → k < C → get_or cs k 0 ≡ count (eqb k) (take i labels)

-- what a turn that counts writes to
pub record Turn (cs : List ℕ) (label : ℕ) : Type 0 where
  pub fit : label < length cs
  pub small : label < 2 ^ 32
  pub room : get_or cs label 0 + 1 < 2 ^ 32

-- one label more
more : (labels : List ℕ) (i k : ℕ) → i < length labels → count (eqb k) (take (i + 1) labels) ≡ count (eqb k) (take i labels) + count (eqb k) (get_or labels i 0 ∷ [])
more labels i k h = rw (add-one, take-suc labels i 0 h) (count_append (eqb k) (take i labels) (get_or labels i 0 ∷ []))

-- no more are counted than there are
count_few : (k i : ℕ) (labels : List ℕ) → count (eqb k) (take i labels) ≤ i
unfolding count
count_few k i labels = omega (arith, filter_le (eqb k) (take i labels), length-take i labels)

module _ {labels cs₀ : List ℕ} {C : ℕ} (p : CountAsks labels cs₀ C) where
  -- all counts are 0
  pub begin : {cs : List ℕ} → Only 0 C cs₀ cs → Filled 0 C 0 cs → Counted labels cs C cs 0
  unfolding filter
  begin {cs} o z = record { at_most = omega arith; only = only_none 0 C cs; each = λ k h. unfold count in rw (zero-add k) at (z.each k h) }

  module _ {cs₁ cs : List ℕ} {i : ℕ} (l₁ : length cs₁ ≡ length cs₀) (v : Counted labels cs₁ C cs i) (h : i < length labels) where
    module _ (n : get_or labels i 0 ≡ no_patch → ⊥) where
      -- the label is that of a patch
      label_in : get_or labels i 0 < C
      label_in = go (p.labelled.known i h)
        where
          go : (get_or labels i 0 ≡ no_patch) ⊎ (get_or labels i 0 < C) → get_or labels i 0 < C
          go (inl e) = absurd (n e)
          go (inr l) = l

      -- its count can be raised
      pub turn : Turn cs (get_or labels i 0)
      turn =
          let l = label_in in
          record {
            fit = omega (arith, p.fit, v.only.long);
            small = omega (arith, p.least);
            room = omega (arith, v.each (get_or labels i 0) l, count_few (get_or labels i 0) i labels, p.few);
          }

      -- it is raised by one
      pub counts : Counted labels cs₁ C (set cs (get_or labels i 0) (get_or cs (get_or labels i 0) 0 + 1)) (i + 1)
      counts =
          record {
            at_most = omega arith;
            only = only_both v.only (only_set cs (get_or labels i 0) _ (omega arith) (omega (arith, label_in)));
            each = λ k l. go k l (ℕ_discrete k (get_or labels i 0));
          }
        where
          go : (k : ℕ) → k < C → Dec (k ≡ get_or labels i 0)
              → get_or (set cs (get_or labels i 0) (get_or cs (get_or labels i 0) 0 + 1)) k 0 ≡ count (eqb k) (take (i + 1) labels)
          go k l (yes e) =
              let one = count_one (eqb k) (get_or labels i 0) (subst T (sym (eq-eqb k (get_or labels i 0) e)) tt) in
              rw (more labels i k h, one, ← v.each k l, ← e) (get_or-set_same cs k (get_or cs k 0 + 1) 0 (rw e turn.fit))
          go k l (no e) =
              let none = count_not (eqb k) (get_or labels i 0) (ne_eqb k (get_or labels i 0) e) in
              get_or-set_other cs (get_or labels i 0) k _ 0 e ∙ v.each k l ∙ omega (arith, more labels i k h)

    -- a face in no patch
    pub skips : get_or labels i 0 ≡ no_patch → Counted labels cs₁ C cs (i + 1)
    skips e =
        record {
          at_most = omega arith;
          only = v.only;
          each = λ k l.
              let none = count_not (eqb k) (get_or labels i 0) (ne_eqb k (get_or labels i 0) (omega (arith, p.least))) in
              v.each k l ∙ omega (arith, more labels i k h);
        }

  -- all labels are counted
  pub done : {cs₁ cs : List ℕ} {i : ℕ} → Only 0 C cs₀ cs₁ → Counted labels cs₁ C cs i → length labels ≤ i → CountGives labels cs₀ C cs
  done {cs₁} {cs} {i} o v h =
      record { only = only_both o v.only; counted = λ k l. v.each k l ∙ ap (count (eqb k)) (take_all i labels h) }
