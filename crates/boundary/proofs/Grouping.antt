-- A list group by group: where each element is in one group, a test counts as many as in the list itself. Assumes nothing.
use mathlib.Core.Path.{◌≡◌, refl, sym, ◌∙◌, subst}
use mathlib.Core.Bool.{Bool, true, false, cond}
use mathlib.Core.List.{List, [], ◌∷◌, ◌++◌, Memᴰ}
use Prim.Native.Nat.{◌+◌, ◌*◌, ◌≤◌}
use native.Mathlib.Omega.{arith}
use lib.ListN.{length}
use lib.Dec.{T}
use Rattle.rules.specs.Lists.{filter, count, each}
use Rattle.rules.specs.Steps.{Step, same}
use Rattle.rule_laws.proofs.Lists.{filter_cons}
use Rattle.rule_laws.proofs.Rising.{All}
use Rattle.rule_laws.proofs.Members.{all_in}
use Rattle.rule_laws.proofs.Counting.{count_one, count_not, count_append, count_zero}
use Rattle.rule_laws.proofs.Once.{same_is}
use Rattle.table.proofs.Rows.{Rise, Less, less_same}

-- a first element that does not pass is left out
filter_not : {A : Type 0} (p : A → Bool) (x : A) (xs : List A) → p x ≡ false → filter p (x ∷ xs) ≡ filter p xs
unfolding filter
filter_not p x xs e = rw e

module _ {A E : Type 0} (in_group : E → A → Bool) (p : A → Bool) where
  -- the groups of a list, one after the other
  abbrev groups : List A → List E → List A
  groups xs es = each (λ e. filter (in_group e) xs) es

  -- no element is in no group
  groups_none : (es : List E) → count p (groups [] es) ≡ 0
  unfolding each filter count
  groups_none [] = refl
  groups_none (e ∷ es) = groups_none es

  -- an element is met once for each group that it is in
  groups_more : (x : A) (xs : List A) (es : List E) → count p (groups (x ∷ xs) es) ≡ count p (x ∷ []) * count (λ e. in_group e x) es + count p (groups xs es)
  unfolding each
  groups_more x xs [] = unfold count filter in (omega arith)
  groups_more x xs (e ∷ es) =
      count_append p (filter (in_group e) (x ∷ xs)) (groups (x ∷ xs) es)
      ∙ go (in_group e x) refl (groups_more x xs es) (count_append p (filter (in_group e) xs) (groups xs es))
    where
      go : (b : Bool) → in_group e x ≡ b
          → count p (groups (x ∷ xs) es) ≡ count p (x ∷ []) * count (λ e. in_group e x) es + count p (groups xs es)
          → count p (filter (in_group e) xs ++ groups xs es) ≡ count p (filter (in_group e) xs) + count p (groups xs es)
          → count p (filter (in_group e) (x ∷ xs)) + count p (groups (x ∷ xs) es) ≡ count p (x ∷ []) * count (λ e. in_group e x) (e ∷ es) + count p (filter (in_group e) xs ++ groups xs es)
      go true q r s =
          let t : T (in_group e x) = subst T (sym q) tt in
          let k : count (λ d. in_group d x) (e ∷ es) ≡ 1 + count (λ d. in_group d x) es =
          omega (arith, count_append (λ d. in_group d x) (e ∷ []) es, count_one (λ d. in_group d x) e t) in
          rw (k, filter_cons (in_group e) x xs t) (omega (arith, count_append p (x ∷ []) (filter (in_group e) xs)))
      go false q r s =
          let k : count (λ d. in_group d x) (e ∷ es) ≡ count (λ d. in_group d x) es =
          omega (arith, count_append (λ d. in_group d x) (e ∷ []) es, count_not (λ d. in_group d x) e q) in
          rw (k, filter_not (in_group e) x xs q) (omega arith)

  -- where each is in one group, all are met once
  pub grouped : (xs : List A) (es : List E) → All (λ x. count (λ e. in_group e x) es ≡ 1) xs → count p (groups xs es) ≡ count p xs
  grouped [] es a = groups_none es ∙ (unfold count filter in refl)
  grouped (x ∷ xs) es a =
      let r = grouped xs es a.1 in
      groups_more x xs es ∙ rw a.0 (omega (arith, count_append p (x ∷ []) xs))

-- of rising steps at most one is the same as a given one
pub rise_once : (t : Step) (es : List Step) → Rise es → count (λ e. same e t) es ≤ 1
unfolding count filter
rise_once t [] a = omega arith
rise_once t (e ∷ es) a = go (same e t) refl (rise_once t es a.1)
  where
    later : same e t ≡ true → (d : Step) → Memᴰ d es → T (same d t) → ⊥
    later q d m k =
        let f : t ≡ e = sym (same_is e t (subst T (sym q) tt)) in
        subst T (less_same (all_in (Less e) d es a.0 m)) (subst (λ u. T (same d u)) f k)

    go : (b : Bool) → same e t ≡ b → length (filter (λ d. same d t) es) ≤ 1 → length (cond b (e ∷ filter (λ d. same d t) es) (filter (λ d. same d t) es)) ≤ 1
    go true q r = let z = count_zero (λ d. same d t) es (later q) in omega arith
    go false q r = r
