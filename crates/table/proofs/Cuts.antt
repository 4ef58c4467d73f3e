-- A list that is one list after another, for each element of es: where each begins, what stands in it. Assumes nothing.
use mathlib.Core.Path.{◌≡◌, refl, sym, ap, subst, ◌∙◌}
use mathlib.Core.List.{List, [], ◌∷◌, ◌++◌, append-nil}
use Prim.Native.Nat.{ℕ, zero, suc, ◌+◌, ◌-◌, ◌≤◌, ◌<◌}
use native.Mathlib.Omega.{arith}
use native.Mathlib.Nat.{not-suc-le-zero}
use native.Mathlib.Decide.{le_ind, dec_lt}
use lib.ListN.{length, get_or, take, drop, length-append}
use lib.Seq.{take-suc, take_all, take-length, split_at, take_at, drop_at}
use Rattle.rows.specs.Region.{part}
use Rattle.rows.proofs.Regions.{get_d_part}
use Rattle.rules.specs.Lists.{each}
use Rattle.rule_laws.proofs.Lists.{each_append}
use Rattle.rule_laws.proofs.Rising.{All, all_at}

module _ {A : Type 0} (h : A → List ℕ) (z : A) (es : List A) where
  -- where run r begins
  abbrev pub start : ℕ → ℕ
  start r = length (each h (take r es))

  -- the list of one element
  each_one : (x : A) → each h (x ∷ []) ≡ h x
  unfolding each
  each_one x = append-nil (h x)

  -- the next one begins after its members
  pub start_suc : (r : ℕ) → r < length es → start (suc r) ≡ start r + length (h (get_or es r z))
  start_suc r l = rw (take-suc es r z l, each_append h (take r es) (get_or es r z ∷ []), each_one (get_or es r z)) (length-append (each h (take r es)) (h (get_or es r z)))

  -- the last one ends where the list does
  pub start_all : start (length es) ≡ length (each h es)
  start_all = ap (λ l. length (each h l)) (take-length es)

  -- no run ends before it begins
  start_step : (r : ℕ) → start r ≤ start (suc r)
  start_step r = go (dec_lt r (length es))
    where
      go : Dec (r < length es) → start r ≤ start (suc r)
      go (yes l) = omega (arith, start_suc r l)
      go (no l) = rw (take_all r es (omega arith), take_all (suc r) es (omega arith)) (omega arith)

  -- a later run begins no sooner
  pub start_mono : (r s : ℕ) → r ≤ s → start r ≤ start s
  start_mono r s l = le_ind (λ (n : ℕ). start r ≤ start n) (omega arith) (λ n q t. omega (arith, start_step n)) s l

  -- the list at run r: what is before, the run, what is behind
  cut : (r : ℕ) → r < length es → each h es ≡ each h (take r es) ++ (h (get_or es r z) ++ each h (drop (suc r) es))
  cut r l = ap (each h) (split_at es r z l) ∙ each_append h (take r es) (get_or es r z ∷ drop (suc r) es) ∙ unfold each in refl

  -- run r as a part of the list
  pub run_part : (r : ℕ) → r < length es → part (each h es) (start r) (length (h (get_or es r z))) ≡ h (get_or es r z)
  run_part r l = rw (cut r l, drop_at (each h (take r es)) (h (get_or es r z) ++ each h (drop (suc r) es)) _ refl, take_at (h (get_or es r z)) (each h (drop (suc r) es)) _ refl)

  -- what holds of the members of a run holds of what stands at its places
  pub run_at : (Q : A → ℕ → Type 0) → ((e : A) → All (Q e) (h e)) → (r i : ℕ) → r < length es → start r ≤ i → i < start (suc r) → Q (get_or es r z) (get_or (each h es) i 0)
  run_at Q a r i l p q =
      let e = get_or es r z in
      let k : i - start r < length (h e) = omega (arith, start_suc r l) in
      let s : start r + (i - start r) ≡ i = omega arith in
      let t : get_or (h e) (i - start r) 0 ≡ get_or (each h es) i 0 =
      ap (λ x. get_or x (i - start r) 0) (sym (run_part r l)) ∙ get_d_part (each h es) (start r) (length (h e)) (i - start r) k ∙ ap (λ j. get_or (each h es) j 0) s in
      subst (λ x. Q e x) t (all_at (Q e) (h e) 0 (i - start r) (a e) k)

  -- the run that a place is in
  pub run_of_is : (i : ℕ) → i < length (each h es) → (r : ℕ) × (r < length es) × (start r ≤ i) × (i < start (suc r))
  run_of_is i l = find (length es) (omega (arith, start_all))
    where
      find : (k : ℕ) → i < start k → (r : ℕ) × (r < length es) × (start r ≤ i) × (i < start (suc r))
      find zero q = absurd (unfold each in (not-suc-le-zero q))
      find (suc k) q = go (dec_lt i (start k)) (dec_lt k (length es)) (λ t. find k t)
        where
          go : Dec (i < start k) → Dec (k < length es) → (i < start k → (r : ℕ) × (r < length es) × (start r ≤ i) × (i < start (suc r))) → (r : ℕ) × (r < length es) × (start r ≤ i) × (i < start (suc r))
          go (yes t) b f = f t
          go (no t) (yes b) f = (k, b, omega arith, q)
          go (no t) (no b) f = absurd (omega (arith, start_mono (length es) k (omega arith), start_all, ap (λ l. length (each h l)) (take_all (suc k) es (omega arith))))
