-- The rank of a corner is how many corners that open a group come before it. Assumes nothing.
use mathlib.Core.Path.{◌≡◌, refl, sym, ap, ap₂, ◌∙◌, subst}
use mathlib.Core.Bool.{Bool, true, false, ◌&&◌, ◌||◌, cond}
use mathlib.Core.List.{List, [], ◌∷◌}
use Prim.Native.Nat.{ℕ, zero, suc, ◌+◌, ◌*◌, ◌≤◌, ◌<◌}
use native.Mathlib.Omega.{arith}
use native.Mathlib.Decide.{dec_lt, ℕ_discrete}
use borrow.Author.Tests.{eq-eqb, ne_eqb, lt-ltb, le-ltb}
use lib.Dec.{T, eqb, ltb}
use lib.ListN.{length, length-map}
use Rattle.rules.specs.Lists.{below, filter, count, each}
use Rattle.rules.specs.Mesh.{Face}
use Rattle.rule_laws.proofs.Lists.{length_below, count_below}
use Rattle.rule_laws.proofs.Counting.{count_either, count_below_agree}
use Rattle.splitting.specs.Corners.{corner_at, base}
use Rattle.fan_laws.specs.Sums.{sum_of}
use Rattle.fan_laws.specs.Opening.{opens, opens_at, openers, rank, before}
use Rattle.fan_laws.proofs.Sums.{class_sum}
use Rattle.fan_laws.proofs.Filtered.{length_count}
use Rattle.fan_laws.proofs.Order.{ranks_line}
use Rattle.fan_laws.proofs.Lengths.{long}

-- those below k among those below n
count_to : (p : ℕ → Bool) (k n : ℕ) → k ≤ n → count (λ y. ltb y k && p y) (below n) ≡ count p (below k)
count_to p k zero h = let e : k ≡ 0 = omega arith in rw e (unfold count filter below in refl)
count_to p k (suc n) h = go (dec_lt n k) (λ l. count_to p k n l)
  where
    all_to : (n : ℕ) → n ≤ k → count (λ y. ltb y k && p y) (below n) ≡ count p (below n)
    all_to n l = count_below_agree (λ y. ltb y k && p y) p n (λ i b. ap (λ (t : Bool). t && p i) (lt-ltb i k (omega arith)))

    go : Dec (n < k) → (k ≤ n → count (λ y. ltb y k && p y) (below n) ≡ count p (below k)) → count (λ y. ltb y k && p y) (below (suc n)) ≡ count p (below k)
    go (yes l) i = let e : k ≡ suc n = omega arith in all_to (suc n) (omega arith) ∙ ap (λ j. count p (below j)) (sym e)
    go (no l) i = count_below (λ y. ltb y k && p y) n ∙ rw (le-ltb n k (omega arith)) (omega (arith, i (omega arith)))

module _ (fs : List Face) where
  abbrev all : ℕ
  all = 3 * length fs

  -- as many are split off at the points below v as corners there open a group
  pub base_count : (v : ℕ) → base fs 0 v ≡ count (λ y. ltb (corner_at fs y) v && opens fs y) (below all)
  unfolding openers opens_at
  base_count v =
      sym (length_below (base fs 0 v))
      ∙ ap length (sym (ranks_line fs v))
      ∙ length-map (openers fs v) (rank fs)
      ∙ long (openers fs v)
      ∙ class_sum (corner_at fs) (opens fs) (λ y. 1) v (below all)
      ∙ sym (long (filter (λ y. ltb (corner_at fs y) v && opens fs y) (below all)))
      ∙ length_count (λ y. ltb (corner_at fs y) v && opens fs y) all

  -- so a rank is a count over all corners
  pub rank_count : (id : ℕ) → id < all → rank fs id ≡ count (λ y. before fs y id && opens fs y) (below all)
  unfolding rank opens_at before
  rank_count id h =
      let v = corner_at fs id in
      ap₂ (λ (a b : ℕ). a + b) (base_count v) (sym (count_to (λ y. eqb (corner_at fs y) v && opens fs y) id all (omega arith)))
      ∙ sym (count_either (λ y. ltb (corner_at fs y) v && opens fs y) (λ y. ltb y id && (eqb (corner_at fs y) v && opens fs y)) apart (below all))
      ∙ ap (λ (p : ℕ → Bool). count p (below all)) (λ j y. parts (ltb (corner_at fs y) v) (eqb (corner_at fs y) v) (ltb y id) (opens fs y) j)
    where
      parts : (a b c d : Bool) → ((a && d) || (c && (b && d))) ≡ ((a || (b && c)) && d)
      parts true b c true = refl
      parts true b true false = off b
        where
          off : (b : Bool) → (b && false) ≡ false
          off true = refl
          off false = refl
      parts true b false false = refl
      parts false true true d = refl
      parts false true false d = refl
      parts false false true d = refl
      parts false false false d = refl

      apart : (y : ℕ) → ((ltb (corner_at fs y) (corner_at fs id) && opens fs y) && (ltb y id && (eqb (corner_at fs y) (corner_at fs id) && opens fs y))) ≡ false
      apart y = go (ℕ_discrete (corner_at fs y) (corner_at fs id))
        where
          off : (a b : Bool) → (a && (b && false)) ≡ false
          off true true = refl
          off true false = refl
          off false b = refl

          go : Dec (corner_at fs y ≡ corner_at fs id) → ((ltb (corner_at fs y) (corner_at fs id) && opens fs y) && (ltb y id && (eqb (corner_at fs y) (corner_at fs id) && opens fs y))) ≡ false
          go (yes e) = rw (le-ltb (corner_at fs y) (corner_at fs id) (omega arith))
          go (no n) = rw (ne_eqb (corner_at fs y) (corner_at fs id) n) (off (ltb (corner_at fs y) (corner_at fs id) && opens fs y) (ltb y id))
