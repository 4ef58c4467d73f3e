-- What the answer rooms hold, as lists: by their entries, and by the records of seven numbers. Assumes nothing.
use mathlib.Core.Path.{◌≡◌, refl, sym, ap, ap₂, ◌∙◌}
use mathlib.Core.List.{List, [], ◌∷◌, ◌++◌, map, map-append}
use Prim.Native.Nat.{ℕ, zero, suc, ◌+◌, ◌*◌, ◌≤◌, ◌<◌}
use native.Mathlib.Nat.{add-zero}
use native.Mathlib.Omega.{arith}
use lib.ListN.{length, get_or, take, length-map}
use lib.Seq.{get_or-take, ext_get_or}
use lib.Ieee.{Float, nan}
use Rattle.rows.specs.Region.{part}
use Rattle.rows.proofs.Regions.{length_part, part_add, get_or_part_of}
use Rattle.rules.specs.Lists.{below, each}
use Rattle.rules.specs.Patches as rule
use Rattle.rule_laws.proofs.Lists.{length_below, get_or_map_in, each_append}
use Rattle.rule_laws.proofs.Rising.{get_or_below}
use Rattle.patch_sums.specs.Sums.{record_at}

-- a list with nothing behind it
one : {A : Type 0} (l : List A) → l ++ [] ≡ l
one [] = refl
one (x ∷ l) = ap (λ t. x ∷ t) (one l)

module _ {A : Type 0} (d : A) where
  -- a row by its entries
  pub front_is : (g : ℕ → A) (n : ℕ) (w : List A) → n ≤ length w → ((k : ℕ) → k < n → get_or w k d ≡ g k) → take n w ≡ map g (below n)
  front_is g n w h f =
      ext_get_or d (take n w) (map g (below n)) (long ∙ sym (length-map (below n) g ∙ length_below n))
      (λ i k.
      let q : i < n = omega (arith, long) in
      get_or-take n w i d q ∙ f i q ∙ sym (get_or_map_in g (below n) i 0 d (omega (arith, length_below n)) ∙ ap g (get_or_below n i q)))
    where
      long : length (take n w) ≡ n
      long = length_part w 0 n (omega arith)

-- ---- the numbers room

-- seven entries are a record's numbers
seven_is : (xs : List Float) (k : ℕ) → 7 * k + 7 ≤ length xs → part xs (7 * k) 7 ≡ rule.seven (record_at xs k)
unfolding rule.seven
seven_is xs k h =
    ext_get_or nan (part xs (7 * k) 7) (rule.seven (record_at xs k)) (length_part xs (7 * k) 7 h)
    (λ i l. get_or_part_of nan xs (7 * k) 7 i (omega (arith, length_part xs (7 * k) 7 h)) ∙ go i (omega (arith, length_part xs (7 * k) 7 h)))
  where
    go : (i : ℕ) → i < 7 → get_or xs (7 * k + i) nan ≡ get_or (rule.seven (record_at xs k)) i nan
    go zero l = ap (λ j. get_or xs j nan) (add-zero (7 * k))
    go (suc zero) l = refl
    go (suc (suc zero)) l = refl
    go (suc (suc (suc zero))) l = refl
    go (suc (suc (suc (suc zero)))) l = refl
    go (suc (suc (suc (suc (suc zero))))) l = refl
    go (suc (suc (suc (suc (suc (suc zero)))))) l = refl
    go (suc (suc (suc (suc (suc (suc (suc i))))))) l = absurd (omega arith)

-- the records of the first n patches, one after the other
pub sevens_are :
    (f : ℕ → rule.Patch) (n : ℕ) (xs : List Float) → 7 * n ≤ length xs → ((k : ℕ) → k < n → record_at xs k ≡ f k) → take (7 * n) xs ≡ each rule.seven (map f (below n))
unfolding below each
sevens_are f zero xs h e = refl
sevens_are f (suc n) xs h e =
    let s : 7 * suc n ≡ 7 * n + 7 = omega arith in
    let z : 0 + 7 * n ≡ 7 * n = omega arith in
    ap (λ m. take m xs) s
    ∙ part_add xs 0 (7 * n) 7
    ∙ ap₂ (λ u v. u ++ v) (sevens_are f n xs (omega arith) (λ k l. e k (omega arith)))
    (ap (λ m. part xs m 7) z ∙ seven_is xs n (omega arith) ∙ ap rule.seven (e n (omega arith)) ∙ sym (one (rule.seven (f n))))
    ∙ sym (ap (each rule.seven) (map-append f (below n) (n ∷ [])) ∙ each_append rule.seven (map f (below n)) (f n ∷ []))
