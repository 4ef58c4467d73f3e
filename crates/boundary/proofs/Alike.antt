-- Boundary edges in another order: lists of which each test counts as many, and the rows, which say the same of both. Assumes nothing.
use mathlib.Core.Path.{◌≡◌, refl, sym, ap, ◌∙◌, subst}
use mathlib.Core.Bool.{Bool}
use mathlib.Core.List.Memᴰ
use mathlib.Core.List.{List, [], ◌∷◌, map, Memᴰ}
use Prim.Native.Nat.{ℕ, zero, suc, ◌≤◌}
use native.Mathlib.Omega.{arith}
use lib.ListN.{length, get_or}
use lib.Dec.{eqb}
use Rattle.rules.specs.Lists.{filter, count}
use Rattle.rules.specs.Steps.{Step, same}
use Rattle.rule_laws.proofs.Members.{mem_filter}
use Rattle.rule_laws.proofs.Counting.{count_some, some_count}
use Rattle.rule_laws.proofs.Once.{same_is}
use Rattle.rule_laws.proofs.TwoUsers.{eq_same}
use Rattle.boundary.specs.Rows.{onward, Counted}

module _ {A : Type 0} where
  -- a list without elements
  pub empty : (xs : List A) → length xs ≡ 0 → xs ≡ []
  empty [] e = refl
  empty (x ∷ xs) e = absurd (omega arith)

  -- a list of at most one element, by that element
  pub only : (x : A) (xs : List A) → Memᴰ x xs → length xs ≤ 1 → xs ≡ x ∷ []
  only x [] m h = absurd (Memᴰ.not-nil m)
  only x (y ∷ []) m h = ap (λ z. z ∷ []) (sym (Memᴰ.eq_of_singleton m))
  only x (y ∷ z ∷ zs) m h = absurd (omega arith)

-- each test counts as many of both
pub record Alike (b c : List Step) : Type 0 where
  pub counts : (p : Step → Bool) → count p b ≡ count p c

module _ {b c : List Step} (a : Alike b c) where
  -- what is in the one is in the other
  mem_alike : (s : Step) → Memᴰ s b → Memᴰ s c
  mem_alike s m =
      let n = count_some (same s) s b m (eq_same s s refl refl) in
      let k = a.counts (same s) in
      let w = some_count (same s) c (omega arith) in
      subst (λ t. Memᴰ t c) (sym (same_is s w.0 w.2)) w.1

  -- where at most one passes a test, it is the same one
  filter_alike : (p : Step → Bool) → count p c ≤ 1 → filter p b ≡ filter p c
  unfolding count
  filter_alike p h = go (count p b) refl (a.counts p)
    where
      go : (n : ℕ) → length (filter p b) ≡ n → length (filter p b) ≡ length (filter p c) → filter p b ≡ filter p c
      go zero e k = empty (filter p b) e ∙ sym (empty (filter p c) (sym k ∙ e))
      go (suc n) e k =
          let w = some_count p b (omega arith) in
          only w.0 (filter p b) (mem_filter p w.0 b w.1 w.2) (omega (arith, h))
          ∙ sym (only w.0 (filter p c) (mem_filter p w.0 c (mem_alike w.0 w.1) w.2) (omega (arith, h)))

  -- so rows that say what is so of the one say it of the other
  pub counted_alike : {P row : ℕ} {w : List ℕ} → Counted P row b w → Counted P row c w
  unfolding onward
  counted_alike {P} {row} {w} d =
      record {
        begins = record { each = λ v l. d.begins.each v l ∙ a.counts (λ s. eqb s.from v) };
        ends = record { each = λ v l. d.ends.each v l ∙ a.counts (λ s. eqb s.to v) };
        next = λ v l h. d.next v l (rw (a.counts (λ s. eqb s.from v)) h) ∙ ap (λ ys. get_or (map (λ s. s.to) ys) 0 P) (filter_alike (λ s. eqb s.from v) h);
      }
