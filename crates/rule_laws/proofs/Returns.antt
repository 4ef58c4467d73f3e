-- A step function that stays on a finite list and goes no two ways into one place comes back to where it began; before that, no place is met
-- twice. Assumes nothing.
use mathlib.Core.Path.{◌≡◌, refl, sym, ap, ◌∙◌, subst}
use mathlib.Core.Logic.{◌≢◌}
use mathlib.Core.Bool.{Bool, true, false}
use mathlib.Core.List.{List, Memᴰ}
use Prim.Native.Nat.{ℕ, zero, suc, ◌+◌, ◌-◌, ◌≤◌, ◌<◌}
use native.Mathlib.Omega.{arith}
use lib.ListN.{length}
use lib.Dec.{T, eqb, eqb→eq, eqb_refl}
use Rattle.rules.specs.Lists.{below, any, first, times}
use Rattle.rule_laws.proofs.Lists.{length_below, times_add}
use Rattle.rule_laws.proofs.Rising.{get_or_below}
use Rattle.rule_laws.proofs.Members.{any_intro, mem_below}
use Rattle.rule_laws.proofs.Firsts.{first_before, first_found}
use Rattle.rule_laws.proofs.Pigeons.{fewer}

module _ (f : ℕ → ℕ) (On : ℕ → Type 0) (stays : (u : ℕ) → On u → On (f u)) (back : (u w : ℕ) → On u → On w → f u ≡ f w → u ≡ w) where
  -- the walk stays
  pub times_on : (k v : ℕ) → On v → On (times k f v)
  unfolding times
  times_on zero v h = h
  times_on (suc k) v h = stays (times k f v) (times_on k v h)

  -- as many steps from two places lead to two places
  cancel : (k u w : ℕ) → On u → On w → times k f u ≡ times k f w → u ≡ w
  unfolding times
  cancel zero u w hu hw e = e
  cancel (suc k) u w hu hw e = cancel k u w hu hw (back (times k f u) (times k f w) (times_on k u hu) (times_on k w hw) e)

  -- until the walk is back, it meets no place twice
  pub apart_until :
      (v m : ℕ) → On v → ((d : ℕ) → d < m → times (suc d) f v ≢ v) → (k l : ℕ) → k < l → l < suc m → times k f v ≢ times l f v
  apart_until v m h out k l kl lm e = out d (omega arith) (sym (cancel k v (times (suc d) f v) h (times_on (suc d) v h) (e ∙ far)))
    where
      d : ℕ
      d = l - suc k

      far : times l f v ≡ times k f (times (suc d) f v)
      far = let q : l ≡ k + suc d = omega arith in ap (λ n. times n f v) q ∙ times_add f k (suc d) v

  module _ (n : ℕ) (ys : List ℕ) (small : length ys ≤ n) (among : (u : ℕ) → On u → Memᴰ u ys) (v : ℕ) (h : On v) where
    -- back after k + 1 steps
    abbrev back_at : ℕ → Bool
    back_at k = eqb (times (suc k) f v) v

    -- it is back within as many steps as there are places
    is_back : T (any back_at (below n))
    is_back = go (any back_at (below n)) refl
      where
        go : (b : Bool) → any back_at (below n) ≡ b → T b
        go true e = tt
        go false e =
            let l = fewer (λ k. times k f v) (suc n) ys (λ k q. among (times k f v) (times_on k v h)) (apart_until v n h out) in
            absurd (omega arith)
          where
            out : (d : ℕ) → d < n → times (suc d) f v ≢ v
            out d l q =
                subst T e
                (any_intro back_at d (below n) (mem_below d n l) (subst (λ w. T (eqb (times (suc d) f v) w)) q (eqb_refl (times (suc d) f v))))

    -- so the first return is within n steps
    pub returns_within : first back_at (below n) < n
    returns_within = rw (length_below n) at (first_found back_at (below n) 0 is_back).0

    -- at the first return it is back
    at_first : T (back_at (first back_at (below n)))
    at_first =
        subst (λ k. T (back_at k)) (get_or_below n (first back_at (below n)) returns_within)
        (first_found back_at (below n) 0 is_back).1

    -- it returns
    pub returns : times (suc (first back_at (below n))) f v ≡ v
    returns = eqb→eq (times (suc (first back_at (below n))) f v) v at_first

    -- it meets no place twice before
    pub apart : (k l : ℕ) → k < l → l < suc (first back_at (below n)) → times k f v ≢ times l f v
    apart = apart_until v (first back_at (below n)) h out
      where
        out : (d : ℕ) → d < first back_at (below n) → times (suc d) f v ≢ v
        out d l q =
            first_before back_at (below n) 0 d l
            (rw (get_or_below n d (omega (arith, returns_within))) (subst (λ w. T (eqb (times (suc d) f v) w)) q (eqb_refl (times (suc d) f v))))
