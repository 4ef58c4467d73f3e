-- The old points that are used after pass 5, by their first corners in face order. Assumes nothing.
use mathlib.Core.Path.{◌≡◌, refl, sym, ap, ap₂, ◌∙◌, subst}
use mathlib.Core.Bool.{Bool, true, false, not, ◌&&◌, ◌||◌, cond}
use mathlib.Core.List.{List, [], ◌∷◌, ◌++◌}
use Prim.Native.Nat.{ℕ, zero, suc, ◌+◌, ◌*◌, ◌/◌, ◌≤◌, ◌<◌}
use native.Mathlib.Omega.{arith}
use native.Mathlib.Decide.{dec_lt, ℕ_discrete}
use borrow.Author.Tests.{eq-eqb, ne_eqb}
use lib.Dec.{T, eqb, eqb→eq, not_T}
use lib.Ieee.Bits.{is_true, is_false}
use lib.ListN.{length}
use Rattle.rules.specs.Lists.{below, filter, any, each}
use Rattle.rules.specs.Mesh.{Face, face}
use Rattle.rule_laws.proofs.Tests.{and_elim}
use Rattle.rule_laws.proofs.Members.{any_intro, any_mem, mem_below, below_mem}
use Rattle.rule_laws.proofs.Once.{Inside}
use Rattle.splitting.specs.Corners.{corner_at}
use Rattle.splitting.proofs.Agreeing.{on_below, filter_agree}
use Rattle.fan_laws.specs.Sums.{sum_of}
use Rattle.fan_laws.specs.Opening.{met, single, kept, keeps}
use Rattle.fan_laws.proofs.Sums.{sum_append, sum_agree, sum_plus, sum_below, all_classes}
use Rattle.fan_laws.proofs.Takers.{corner_low}

-- sums of lists, one after the other
sum_each : (g : ℕ → ℕ) (f : ℕ → List ℕ) (xs : List ℕ) → sum_of g (each f xs) ≡ sum_of (λ x. sum_of g (f x)) xs
unfolding each sum_of
sum_each g f [] = refl
sum_each g f (x ∷ xs) = sum_append g (f x) (each f xs) ∙ ap (λ (n : ℕ). sum_of g (f x) + n) (sum_each g f xs)

-- a test of a list and one more
any_append : (p : ℕ → Bool) (xs : List ℕ) (n : ℕ) → any p (xs ++ (n ∷ [])) ≡ (any p xs || p n)
unfolding any
any_append p [] n = last (p n)
  where
    last : (b : Bool) → (b || false) ≡ b
    last true = refl
    last false = refl
any_append p (x ∷ xs) n = ap (λ (b : Bool). p x || b) (any_append p xs n) ∙ step (p x) (any p xs) (p n)
  where
    step : (a b c : Bool) → (a || (b || c)) ≡ ((a || b) || c)
    step true b c = refl
    step false b c = refl

-- where at most one number passes, the sum is its own or none
sum_only : (h : ℕ → ℕ) (p : ℕ → Bool) (c n : ℕ) → ((x : ℕ) → x < n → T (p x) → h x ≡ c) → ((x y : ℕ) → x < n → y < n → T (p x) → T (p y) → x ≡ y) → sum_of h (filter p (below n)) ≡ cond (any p (below n)) c 0
sum_only h p c zero own one = unfold below filter any sum_of in refl
sum_only h p c (suc n) own one =
    sum_below h p n
    ∙ go (p n) refl (any p (below n)) refl (sum_only h p c n (λ x l. own x (omega arith)) (λ x y l k. one x y (omega arith) (omega arith)))
    ∙ ap (λ (b : Bool). cond b c 0) (sym (last n))
  where
    last : (n : ℕ) → any p (below (suc n)) ≡ (any p (below n) || p n)
    last n = unfold below in (any_append p (below n) n)

    go : (a : Bool) → p n ≡ a → (b : Bool) → any p (below n) ≡ b → sum_of h (filter p (below n)) ≡ cond (any p (below n)) c 0 → sum_of h (filter p (below n)) + cond (p n) (h n) 0 ≡ cond (any p (below n) || p n) c 0
    go true e true f i =
        let w = any_mem p (below n) (subst T (sym f) tt) in
        let l = below_mem w.0 n w.1 in
        absurd (omega (arith, one w.0 n (omega arith) (omega arith) w.2 (subst T (sym e) tt)))
    go true e false f i = rw (e, i, f) (omega (arith, own n (omega arith) (subst T (sym e) tt)))
    go false e b f i = rw (e, i) (omega (arith, ap (λ (t : Bool). cond t c 0) (right (any p (below n)))))
      where
        right : (b : Bool) → (b || false) ≡ b
        right true = refl
        right false = refl

module _ (fs : List Face) (P : ℕ) (inside : Inside P fs) (g : ℕ → ℕ) where
  abbrev all : ℕ
  all = 3 * length fs

  -- the corner that keeps v
  abbrev keeper : ℕ → ℕ → Bool
  keeper v y = eqb (corner_at fs y) v && keeps fs y

  -- it is the one of the definition
  keeper_is : (v y : ℕ) → keeper v y ≡ (eqb (corner_at fs y) v && (not (met fs v y) && not (single (face fs (y / 3)))))
  unfolding keeps
  keeper_is v y = go (ℕ_discrete (corner_at fs y) v)
    where
      go : Dec (corner_at fs y ≡ v) → (eqb (corner_at fs y) v && (not (met fs (corner_at fs y) y) && not (single (face fs (y / 3))))) ≡ (eqb (corner_at fs y) v && (not (met fs v y) && not (single (face fs (y / 3)))))
      go (yes e) = ap (λ u. eqb (corner_at fs y) v && (not (met fs u y) && not (single (face fs (y / 3))))) e
      go (no n) = ap (λ (a : Bool). a && (not (met fs (corner_at fs y) y) && not (single (face fs (y / 3))))) (ne_eqb (corner_at fs y) v n) ∙ sym (ap (λ (a : Bool). a && (not (met fs v y) && not (single (face fs (y / 3))))) (ne_eqb (corner_at fs y) v n))

  -- there is one if v is kept
  kept_is : (v : ℕ) → any (keeper v) (below all) ≡ kept fs v
  unfolding kept
  kept_is v = ap (λ (p : ℕ → Bool). any p (below all)) (λ j y. keeper_is v y j)

  -- it is at v, and none at v stands before it
  keeper_first : (v y : ℕ) → T (keeper v y) → (corner_at fs y ≡ v) × (met fs v y ≡ false)
  keeper_first v y t =
      let a = and_elim (eqb (corner_at fs y) v) (not (met fs v y) && not (single (face fs (y / 3)))) (subst T (keeper_is v y) t) in
      let b = and_elim (not (met fs v y)) (not (single (face fs (y / 3)))) a.1 in
      (eqb→eq (corner_at fs y) v a.0, flip (met fs v y) b.0)
    where
      flip : (b : Bool) → T (not b) → b ≡ false
      flip true t = absurd t
      flip false t = refl

  -- so there is one at most
  keeper_one : (v x y : ℕ) → T (keeper v x) → T (keeper v y) → x ≡ y
  unfolding met
  keeper_one v x y s t = go (dec_lt x y) (dec_lt y x)
    where
      hit : (a b : ℕ) → a < b → corner_at fs a ≡ v → met fs v b ≡ false → ⊥
      hit a b l c e = subst T e (any_intro (λ y. eqb (corner_at fs y) v) a (below b) (mem_below a b l) (rw (eq-eqb (corner_at fs a) v c) tt))

      go : Dec (x < y) → Dec (y < x) → x ≡ y
      go (yes l) d = absurd (hit x y l (keeper_first v x s).0 (keeper_first v y t).1)
      go (no l) (yes k) = absurd (hit y x k (keeper_first v y t).0 (keeper_first v x s).1)
      go (no l) (no k) = omega arith

  -- what the kept points make, by their first corners in face order
  pub kept_sum : sum_of (λ id. g (corner_at fs id)) (filter (keeps fs) (below all)) ≡ sum_of (λ v. cond (kept fs v) (g v) 0) (below P)
  kept_sum =
      sym (all_classes (corner_at fs) (keeps fs) (λ id. g (corner_at fs id)) P (below all) (on_below (λ y. corner_at fs y < P) all (corner_low fs P inside)))
      ∙ sum_each (λ id. g (corner_at fs id)) (λ v. filter (keeper v) (below all)) (below P)
      ∙ sum_agree (λ v. sum_of (λ id. g (corner_at fs id)) (filter (keeper v) (below all))) (λ v. cond (kept fs v) (g v) 0) (below P)
      (on_below (λ v. sum_of (λ id. g (corner_at fs id)) (filter (keeper v) (below all)) ≡ cond (kept fs v) (g v) 0) P
      (λ v h.
      sum_only (λ id. g (corner_at fs id)) (keeper v) (g v) all (λ x l t. ap g (keeper_first v x t).0) (λ x y l k s t. keeper_one v x y s t)
      ∙ ap (λ (b : Bool). cond b (g v) 0) (kept_is v)))

  -- so what the others make and they make is what all make
  pub kept_rest : sum_of (λ v. cond (kept fs v) 0 (g v)) (below P) + sum_of (λ id. g (corner_at fs id)) (filter (keeps fs) (below all)) ≡ sum_of g (below P)
  kept_rest =
      ap (λ (n : ℕ). sum_of (λ v. cond (kept fs v) 0 (g v)) (below P) + n) kept_sum
      ∙ sym (sum_plus (λ v. cond (kept fs v) 0 (g v)) (λ v. cond (kept fs v) (g v) 0) (below P))
      ∙ sum_agree (λ v. cond (kept fs v) 0 (g v) + cond (kept fs v) (g v) 0) g (below P) (on_below (λ v. cond (kept fs v) 0 (g v) + cond (kept fs v) (g v) 0 ≡ g v) P (λ v h. either (kept fs v) (g v)))
    where
      either : (b : Bool) (n : ℕ) → cond b 0 n + cond b n 0 ≡ n
      either true n = omega arith
      either false n = omega arith
