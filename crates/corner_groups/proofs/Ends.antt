-- The corners at the two ends of a step. Assumes nothing.
use mathlib.Core.Path.{◌≡◌, sym, ap, ◌∙◌, subst}
use mathlib.Core.Bool.{Bool, true, false, cond}
use mathlib.Core.List.{List}
use Prim.Native.Nat.{ℕ, ◌≤◌, ◌<◌}
use native.Mathlib.Omega.{arith}
use borrow.Author.Tests.{eq-eqb, ne_eqb, lt-ltb, le-ltb}
use lib.ListN.{length, get_or}
use lib.Dec.{eqb, ltb}
use Rattle.table.specs.Entries.{next}
use Rattle.table.proofs.Ids.{next_in}
use Rattle.corner_groups.specs.Sides.{lower_of, higher_of, SideAsks}

-- the step's other end is a corner
pub side_next : {xs : List ℕ} {s : ℕ} → SideAsks xs s → next s < length xs
side_next {xs} {s} p = next_in (length xs) s p.whole p.here

module _ {xs : List ℕ} {s : ℕ} (p : SideAsks xs s) {t : ℕ} (e : t ≡ next s) where
  -- both ends are one point
  pub lower_same : get_or xs s 0 ≡ get_or xs t 0 → 0 ≡ lower_of xs s
  lower_same q = let r : get_or xs s 0 ≡ get_or xs (next s) 0 = q ∙ ap (λ k. get_or xs k 0) e in rw (eq-eqb (get_or xs s 0) (get_or xs (next s) 0) r)

  -- so are the higher ones
  pub higher_same : get_or xs s 0 ≡ get_or xs t 0 → 0 ≡ higher_of xs s
  higher_same q = let r : get_or xs s 0 ≡ get_or xs (next s) 0 = q ∙ ap (λ k. get_or xs k 0) e in rw (eq-eqb (get_or xs s 0) (get_or xs (next s) 0) r)

  -- the step goes up
  pub lower_up : get_or xs s 0 < get_or xs t 0 → s ≡ lower_of xs s
  lower_up q =
      let r : get_or xs s 0 < get_or xs (next s) 0 = subst (λ k. get_or xs s 0 < get_or xs k 0) e q in
      rw (ne_eqb (get_or xs s 0) (get_or xs (next s) 0) (λ z. absurd (omega arith)), lt-ltb (get_or xs s 0) (get_or xs (next s) 0) r)

  -- its higher end is the other corner
  pub higher_up : get_or xs s 0 < get_or xs t 0 → t ≡ higher_of xs s
  higher_up q =
      let r : get_or xs s 0 < get_or xs (next s) 0 = subst (λ k. get_or xs s 0 < get_or xs k 0) e q in
      rw (ne_eqb (get_or xs s 0) (get_or xs (next s) 0) (λ z. absurd (omega arith)), lt-ltb (get_or xs s 0) (get_or xs (next s) 0) r) e

  -- it goes down
  pub lower_down : (get_or xs s 0 ≡ get_or xs t 0 → ⊥) → get_or xs t 0 ≤ get_or xs s 0 → t ≡ lower_of xs s
  lower_down n q =
      let m : get_or xs s 0 ≡ get_or xs (next s) 0 → ⊥ = λ z. n (z ∙ ap (λ k. get_or xs k 0) (sym e)) in
      let r : get_or xs (next s) 0 ≤ get_or xs s 0 = subst (λ k. get_or xs k 0 ≤ get_or xs s 0) e q in
      rw (ne_eqb (get_or xs s 0) (get_or xs (next s) 0) m, le-ltb (get_or xs s 0) (get_or xs (next s) 0) r) e

  -- its higher end is where it begins
  pub higher_down : (get_or xs s 0 ≡ get_or xs t 0 → ⊥) → get_or xs t 0 ≤ get_or xs s 0 → s ≡ higher_of xs s
  higher_down n q =
      let m : get_or xs s 0 ≡ get_or xs (next s) 0 → ⊥ = λ z. n (z ∙ ap (λ k. get_or xs k 0) (sym e)) in
      let r : get_or xs (next s) 0 ≤ get_or xs s 0 = subst (λ k. get_or xs k 0 ≤ get_or xs s 0) e q in
      rw (ne_eqb (get_or xs s 0) (get_or xs (next s) 0) m, le-ltb (get_or xs s 0) (get_or xs (next s) 0) r)

-- one of three that are all below
pick : (a b : Bool) (n x y : ℕ) → x < n → y < n → cond a 0 (cond b x y) < n
pick true b n x y h k = omega arith
pick false true n x y h k = h
pick false false n x y h k = k

-- the lower one is a corner
pub lower_in : {xs : List ℕ} {s : ℕ} → SideAsks xs s → lower_of xs s < length xs
lower_in {xs} {s} p = pick (eqb (get_or xs s 0) (get_or xs (next s) 0)) (ltb (get_or xs s 0) (get_or xs (next s) 0)) (length xs) s (next s) p.here (side_next p)

-- so is the higher one
pub higher_in : {xs : List ℕ} {s : ℕ} → SideAsks xs s → higher_of xs s < length xs
higher_in {xs} {s} p = pick (eqb (get_or xs s 0) (get_or xs (next s) 0)) (ltb (get_or xs s 0) (get_or xs (next s) 0)) (length xs) (next s) s (side_next p) p.here
