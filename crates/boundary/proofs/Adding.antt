-- What one more boundary edge makes of the rows. Assumes nothing.
use mathlib.Core.Path.{◌≡◌, sym, ap, ◌∙◌}
use mathlib.Core.Bool.{Bool, false}
use mathlib.Core.List.{List, [], ◌∷◌, ◌++◌, append-nil}
use Prim.Native.Nat.{ℕ, ◌+◌, ◌*◌, ◌≤◌, ◌<◌}
use native.Mathlib.Omega.{arith}
use native.Mathlib.Decide.{ℕ_discrete}
use borrow.Author.Tests.{ne_eqb}
use lib.ListN.{length, get_or, set, length-set}
use lib.Seq.{get_or-set_same, get_or-set_other}
use lib.Dec.{T, eqb, eqb_refl}
use Rattle.rows.specs.Region.{Only, Holds, Apart.before, Apart.after}
use Rattle.rows.proofs.Regions.{only_set, only_both, only_more, holds_set, holds_kept}
use Rattle.rules.specs.Lists.{filter, count}
use Rattle.rules.specs.Steps.{Step, step}
use Rattle.rule_laws.proofs.Lists.{filter_append, filter_cons}
use Rattle.rule_laws.proofs.Counting.{count_append, count_one, count_not}
use Rattle.boundary.specs.Rows.{onward, Counted, AddAsks, AddGives}
use Rattle.boundary.proofs.Alike.{empty}

-- ---- a list with one more at its end

module _ {A : Type 0} (p : A → Bool) (b : List A) (s : A) where
  -- it passes
  count_more : T (p s) → count p (b ++ (s ∷ [])) ≡ count p b + 1
  count_more t = omega (arith, count_append p b (s ∷ []), count_one p s t)

  -- it does not
  count_stays : p s ≡ false → count p (b ++ (s ∷ [])) ≡ count p b
  count_stays e = omega (arith, count_append p b (s ∷ []), count_not p s e)

  -- so what passes is as before
  filter_stays : p s ≡ false → filter p (b ++ (s ∷ [])) ≡ filter p b
  filter_stays e = filter_append p b (s ∷ []) ∙ ap (λ l. filter p b ++ l) none ∙ append-nil (filter p b)
    where
      none : filter p (s ∷ []) ≡ []
      none = unfold filter in (rw e)

  -- where it passes, it is the last
  filter_more : T (p s) → filter p (b ++ (s ∷ [])) ≡ filter p b ++ (s ∷ [])
  filter_more t = filter_append p b (s ∷ []) ∙ ap (λ l. filter p b ++ l) one
    where
      one : filter p (s ∷ []) ≡ s ∷ []
      one = unfold filter in (filter_cons p s [] t)

  -- and where none passed before, the only one
  filter_one : T (p s) → count p b ≡ 0 → filter p (b ++ (s ∷ [])) ≡ s ∷ []
  unfolding count
  filter_one t z = filter_more t ∙ ap (λ l. l ++ (s ∷ [])) (empty (filter p b) z)

-- the boundary goes on from v along a first edge there
onward_new : (P : ℕ) (b : List Step) (v u : ℕ) → count (λ s. eqb s.from v) b ≡ 0 → onward P (b ++ (step v u ∷ [])) v ≡ u
unfolding onward
onward_new P b v u z = rw (filter_one (λ s. eqb s.from v) b (step v u) (eqb_refl v) z)

-- and from any other vertex as before
onward_stays : (P : ℕ) (b : List Step) (v u x : ℕ) → (v ≡ x → ⊥) → onward P (b ++ (step v u ∷ [])) x ≡ onward P b x
unfolding onward
onward_stays P b v u x n = rw (filter_stays (λ s. eqb s.from x) b (step v u) (ne_eqb v x n))

-- ---- the three stores

module _ {w : List ℕ} {P row v u : ℕ} (p : AddAsks w P row v u) where
  -- after the first
  abbrev w₁ : List ℕ
  w₁ = set w (row + v) (get_or w (row + v) 0 + 1)

  -- after the second
  abbrev w₂ : List ℕ
  w₂ = set w₁ (row + P + u) (get_or w₁ (row + P + u) 0 + 1)

  -- after the third
  abbrev w₃ : List ℕ
  w₃ = set w₂ (row + 2 * P + v) u

  -- each leaves the row as long
  pub long₁ : length w₁ ≡ length w
  long₁ = length-set w (row + v) (get_or w (row + v) 0 + 1)

  -- also the second
  pub long₂ : length w₂ ≡ length w
  long₂ = length-set w₁ (row + P + u) (get_or w₁ (row + P + u) 0 + 1) ∙ long₁

  -- and writes one entry of its own row
  only₁ : Only row P w w₁
  only₁ = only_set w (row + v) (get_or w (row + v) 0 + 1) (omega arith) (omega (arith, p.from))

  -- the second
  only₂ : Only (row + P) P w₁ w₂
  only₂ = only_set w₁ (row + P + u) (get_or w₁ (row + P + u) 0 + 1) (omega arith) (omega (arith, p.to))

  -- the third
  only₃ : Only (row + 2 * P) P w₂ w₃
  only₃ = only_set w₂ (row + 2 * P + v) u (omega arith) (omega (arith, p.from))

  -- so that the second reads what stood there
  pub second_read : get_or w₁ (row + P + u) 0 ≡ get_or w (row + P + u) 0
  second_read = get_or-set_other w (row + v) (row + P + u) (get_or w (row + v) 0 + 1) 0 (omega (arith, p.from))

  module _ (b : List Step) (c : Counted P row b w) where
    -- one more begins at v
    begins₁ : Holds row P (λ x. count (λ s. eqb s.from x) (b ++ (step v u ∷ []))) w₁
    begins₁ =
        holds_set v (get_or w (row + v) 0 + 1) (omega (arith, p.fit)) p.from
        (omega (arith, c.begins.each v p.from, count_more (λ s. eqb s.from v) b (step v u) (eqb_refl v)))
        (λ x l n. sym (count_stays (λ s. eqb s.from x) b (step v u) (ne_eqb v x n))) c.begins

    -- one more ends at u
    ends₂ : Holds (row + P) P (λ x. count (λ s. eqb s.to x) (b ++ (step v u ∷ []))) w₂
    ends₂ =
        holds_set u (get_or w₁ (row + P + u) 0 + 1) (omega (arith, p.fit, long₁)) p.to
        (omega (arith, second_read, c.ends.each u p.to, count_more (λ s. eqb s.to u) b (step v u) (eqb_refl u)))
        (λ x l n. sym (count_stays (λ s. eqb s.to x) b (step v u) (ne_eqb u x n))) (holds_kept only₁ (after (omega arith)) c.ends)

    -- what the third row held
    third_kept : (x : ℕ) → x < P → get_or w₂ (row + 2 * P + x) 0 ≡ get_or w (row + 2 * P + x) 0
    third_kept x h =
        get_or-set_other w₁ (row + P + u) (row + 2 * P + x) (get_or w₁ (row + P + u) 0 + 1) 0 (omega (arith, p.to))
        ∙ get_or-set_other w (row + v) (row + 2 * P + x) (get_or w (row + v) 0 + 1) 0 (omega (arith, p.from))

    -- where the boundary goes on
    next₃ : (x : ℕ) → x < P → count (λ s. eqb s.from x) (b ++ (step v u ∷ [])) ≤ 1 → get_or w₃ (row + 2 * P + x) 0 ≡ onward P (b ++ (step v u ∷ [])) x
    next₃ x h l = go (ℕ_discrete v x)
      where
        go : Dec (v ≡ x) → get_or w₃ (row + 2 * P + x) 0 ≡ onward P (b ++ (step v u ∷ [])) x
        go (yes e) =
            let k = count_more (λ s. eqb s.from v) b (step v u) (eqb_refl v) in
            let f = rw (← e) at l in
            rw (← e) (get_or-set_same w₂ (row + 2 * P + v) u 0 (omega (arith, long₂, p.fit, p.from)) ∙ sym (onward_new P b v u (omega arith)))
        go (no n) =
            get_or-set_other w₂ (row + 2 * P + v) (row + 2 * P + x) u 0 (omega arith) ∙ third_kept x h
            ∙ c.next x h (rw (count_stays (λ s. eqb s.from x) b (step v u) (ne_eqb v x n)) at l) ∙ sym (onward_stays P b v u x n)

  -- the rows say the same of one edge more
  pub added : AddGives w P row v u w₃
  added =
      record {
        only = only_both (only_more (omega arith) (omega arith) only₁) (only_both (only_more (omega arith) (omega arith) only₂) (only_more (omega arith) (omega arith) only₃));
        counted = λ b c. record {
          begins = holds_kept only₃ (before (omega arith)) (holds_kept only₂ (before (omega arith)) (begins₁ b c));
          ends = holds_kept only₃ (before (omega arith)) (ends₂ b c);
          next = next₃ b c;
        };
      }
