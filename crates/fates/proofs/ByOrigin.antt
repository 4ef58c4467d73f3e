-- Where origins rise, what each place tells, in order, is what each input face tells, in order; and what is added at an origin is the amount of its place.
-- Assumes nothing.
use mathlib.Core.Path.{◌≡◌, refl, sym, ap, ◌∙◌}
use mathlib.Core.Logic.{⊎_elim}
use mathlib.Core.List.{List, [], ◌∷◌, ◌++◌, append-nil}
use Prim.Native.Nat.{ℕ, zero, suc, ◌+◌, ◌<◌}
use native.Mathlib.Nat.{eq-or-lt_of_le, le_of_suc-le-suc}
use native.Mathlib.Omega.{arith}
use native.Mathlib.Decide.{ℕ_discrete}
use borrow.Author.Tests.{eq-eqb, ne_eqb}
use lib.ListN.{get_or}
use Rattle.rules.specs.Lists.{below, each}
use Rattle.rule_laws.proofs.Lists.{each_append}
use Rattle.fates.specs.Adding.{added}

-- ---- lines

module _ {A : Type 0} where
  -- the last number tells last
  each_last : (g : ℕ → List A) (n : ℕ) → each g (below (suc n)) ≡ each g (below n) ++ g n
  unfolding below
  each_last g n = each_append g (below n) (n ∷ []) ∙ ap (λ (l : List A). each g (below n) ++ l) (unfold each in (append-nil (g n)))

  -- what agrees below n tells the same
  pub each_agree : (g h : ℕ → List A) (n : ℕ) → ((f : ℕ) → f < n → g f ≡ h f) → each g (below n) ≡ each h (below n)
  each_agree g h zero e = unfold below each in refl
  each_agree g h (suc n) e = each_last g n ∙ (λ k. each_agree g h n (λ f l. e f (omega arith)) k ++ e n (omega arith) k) ∙ sym (each_last h n)

  -- where none tells anything, nothing is told
  pub each_none : (g : ℕ → List A) (n : ℕ) → ((f : ℕ) → f < n → g f ≡ []) → each g (below n) ≡ []
  each_none g zero e = unfold below each in refl
  each_none g (suc n) e = each_last g n ∙ (λ k. each_none g n (λ f l. e f (omega arith)) k ++ e n (omega arith) k)

  -- n places with origins below F, which rise; a place tells what its origin does, and a number that is no origin tells nothing
  pub record Spread (o : ℕ → ℕ) (h g : ℕ → List A) (n F : ℕ) : Type 0 where
    pub up : (i j : ℕ) → i < j → j < n → o i < o j
    pub low : (i : ℕ) → i < n → o i < F
    pub at : (i : ℕ) → i < n → h i ≡ g (o i)
    pub off : (f : ℕ) → f < F → ((i : ℕ) → i < n → o i ≡ f → ⊥) → g f ≡ []

  -- so both tell the same
  pub by_origin : (o : ℕ → ℕ) (h g : ℕ → List A) (n F : ℕ) → Spread o h g n F → each h (below n) ≡ each g (below F)
  by_origin o h g zero zero s = unfold below each in refl
  by_origin o h g (suc n) zero s = absurd (omega (arith, s.low n (omega arith)))
  by_origin o h g zero (suc F) s =
      by_origin o h g zero F (record { up = s.up; low = λ i l. absurd (omega arith); at = s.at; off = λ f l e. s.off f (omega arith) e })
      ∙ sym (each_last g F ∙ ap (λ (l : List A). each g (below F) ++ l) (s.off F (omega arith) (λ i l e. absurd (omega arith))) ∙ append-nil (each g (below F)))
  by_origin o h g (suc n) (suc F) s = go (ℕ_discrete (o n) F) (by_origin o h g n F) (by_origin o h g (suc n) F)
    where
      last_or : (i : ℕ) → i < suc n → (Q : Type 0) → (i ≡ n → Q) → (i < n → Q) → Q
      last_or i l Q p q = ⊎_elim p q (eq-or-lt_of_le (le_of_suc-le-suc l))

      go : Dec (o n ≡ F) → (Spread o h g n F → each h (below n) ≡ each g (below F)) → (Spread o h g (suc n) F → each h (below (suc n)) ≡ each g (below F))
          → each h (below (suc n)) ≡ each g (below (suc F))
      go (yes e) r q =
          each_last h n
          ∙ (λ k.
          r (record {
            up = λ i j l m. s.up i j l (omega arith);
            low = λ i l. omega (arith, s.up i n l (omega arith));
            at = λ i l. s.at i (omega arith);
            off = λ f l none. s.off f (omega arith) (λ i m d. last_or i m ⊥ (λ c. absurd (omega (arith, e, ap o c))) (λ c. none i c d));
          }) k ++ (s.at n (omega arith) ∙ ap g e) k)
          ∙ sym (each_last g F)
      go (no e) r q =
          let m : o n < F = omega (arith, s.low n (omega arith)) in
          let rest : (i : ℕ) → i < suc n → o i < F = λ i l. last_or i l (o i < F) (λ c. omega (arith, ap o c)) (λ c. omega (arith, s.up i n c (omega arith))) in
          q (record { up = s.up; low = rest; at = s.at; off = λ f l none. s.off f (omega arith) none })
          ∙ sym (each_last g F ∙ ap (λ (l : List A). each g (below F) ++ l) (s.off F (omega arith) (λ i l d. absurd (omega (arith, rest i l)))) ∙ append-nil (each g (below F)))

-- ---- what is added

module _ (amount : ℕ → ℕ) (os : List ℕ) where
  -- nothing where no place has the origin
  pub added_off : (k f : ℕ) → ((i : ℕ) → i < k → get_or os i 0 ≡ f → ⊥) → added amount os k f ≡ 0
  added_off zero f none = refl
  added_off (suc k) f none = rw (ne_eqb (get_or os k 0) f (none k (omega arith))) (omega (arith, added_off k f (λ i l. none i (omega arith))))

  -- where origins rise, the amount of the place
  pub added_at : (n : ℕ) → ((i j : ℕ) → i < j → j < n → get_or os i 0 < get_or os j 0) → (i : ℕ) → i < n → added amount os n (get_or os i 0) ≡ amount i
  added_at zero up i h = absurd (omega arith)
  added_at (suc n) up i h = go (ℕ_discrete i n) (added_at n (λ j k l m. up j k l (omega arith)) i)
    where
      go : Dec (i ≡ n) → (i < n → added amount os n (get_or os i 0) ≡ amount i) → added amount os (suc n) (get_or os i 0) ≡ amount i
      go (yes e) r =
          rw e
          (rw (eq-eqb (get_or os n 0) (get_or os n 0) refl)
          (omega (arith, added_off n (get_or os n 0) (λ j l d. absurd (omega (arith, up j n l (omega arith), d))))))
      go (no e) r =
          let l : i < n = omega arith in
          rw (ne_eqb (get_or os n 0) (get_or os i 0) (λ d. absurd (omega (arith, up i n l (omega arith), d)))) (omega (arith, r l))

-- a number is the origin of a place, or of none
pub data Found (os : List ℕ) (n f : ℕ) : Type 0 where
  here : (i : ℕ) → i < n → get_or os i 0 ≡ f → Found os n f
  nowhere : ((i : ℕ) → i < n → get_or os i 0 ≡ f → ⊥) → Found os n f

-- which of the two is decided place by place
pub found : (os : List ℕ) (n f : ℕ) → Found os n f
found os zero f = nowhere (λ i l e. absurd (omega arith))
found os (suc n) f = go (ℕ_discrete (get_or os n 0) f) (found os n f)
  where
    go : Dec (get_or os n 0 ≡ f) → Found os n f → Found os (suc n) f
    go (yes e) q = here n (omega arith) e
    go (no e) (here i l d) = here i (omega arith) d
    go (no e) (nowhere none) = nowhere (λ i l d. ⊎_elim (λ (c : i ≡ n). e (ap (λ (z : ℕ). get_or os z 0) (sym c) ∙ d)) (λ (c : i < n). none i c d) (eq-or-lt_of_le (le_of_suc-le-suc l)))

-- the fate of f before and after amounts are added: that of its place, where it was 0, or as before
pub data Met (amount : ℕ → ℕ) (os : List ℕ) (n f a b : ℕ) : Type 0 where
  met : (i : ℕ) → i < n → get_or os i 0 ≡ f → a ≡ 0 → b ≡ amount i → Met amount os n f a b
  passed : ((i : ℕ) → i < n → get_or os i 0 ≡ f → ⊥) → b ≡ a → Met amount os n f a b

-- so it is where origins rise and have no fate yet
pub met_at :
    (amount : ℕ → ℕ) (os : List ℕ) (n f a b : ℕ) → ((i j : ℕ) → i < j → j < n → get_or os i 0 < get_or os j 0)
    → ((i : ℕ) → i < n → get_or os i 0 ≡ f → a ≡ 0) → b ≡ a + added amount os n f → Met amount os n f a b
met_at amount os n f a b up none e = go (found os n f)
  where
    go : Found os n f → Met amount os n f a b
    go (here i l d) =
        let z = none i l d in
        met i l d z (omega (arith, e, z, ap (added amount os n) d, added_at amount os n up i l))
    go (nowhere q) = passed q (omega (arith, e, added_off amount os n f q))
