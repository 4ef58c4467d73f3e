-- `root::place` meets its contract. What is left of it are facts of `proofs/Units.antt`. Assumes nothing.
use mathlib.Core.Path.{◌≡◌, sym, ap, ◌∙◌, subst}
use Prim.Native.Nat.{ℕ, ◌+◌, ◌-◌, ◌*◌, ◌/◌, ◌%◌, ◌^◌, ◌≤◌, ◌<◌}
use native.Mathlib.Omega.{arith}
use lib.Count.{count_leading_zeros}
use Rattle.root.specs.Root.{near_root}
use Rattle.root.proofs.Units.{Norm, norm, offset, units_at, packed, shifted, argument, near_at}
use Rattle.root.proofs.place.Goals as goal
use Rattle.root.proofs.place.Goals.{After-settle, Start}

-- m has at most 53 digits, so at least 11 zeros stand before them
at : (c : Start) → Norm c.args.m (count_leading_zeros 64 c.args.m)
at c = norm c.args.m c.requires.0 c.requires.1

-- 11 can be taken from the zeros
pub overflow_sub-s : goal.overflow_sub-s
overflow_sub-s c = omega (arith, at c)

-- the shift fits
pub overflow_cast-s : goal.overflow_cast-s
overflow_cast-s c = omega (arith, at c)

-- the shift is below 64
pub overflow_shl-w : goal.overflow_shl-w
overflow_shl-w c = omega (arith, at c)

-- the shift can be taken from them
pub overflow_sub-c : goal.overflow_sub-c
overflow_sub-c c = omega (arith, at c)

-- the significand, shifted, has 53 digits
moved : (c : Start)
    → (2 ^ 52 ≤ c.args.m * 2 ^ (count_leading_zeros 64 c.args.m - 11) % 2 ^ 64) × (c.args.m * 2 ^ (count_leading_zeros 64 c.args.m - 11) % 2 ^ 64 < 2 ^ 53)
moved c = subst (λ (w : ℕ). (2 ^ 52 ≤ w) × (w < 2 ^ 53)) (sym (shifted c.args.m (count_leading_zeros 64 c.args.m) (at c))) ((at c).lo, (at c).hi)

-- what `settle` is handed has 53 or 54
handed : (c : Start)
    → (2 ^ 52 ≤ c.args.m * 2 ^ (count_leading_zeros 64 c.args.m - 11) % 2 ^ 64 * (1 + offset c.args.k (count_leading_zeros 64 c.args.m) % 2))
    × (c.args.m * 2 ^ (count_leading_zeros 64 c.args.m - 11) % 2 ^ 64 * (1 + offset c.args.k (count_leading_zeros 64 c.args.m) % 2) < 2 ^ 54)
handed c = argument (c.args.m * 2 ^ (count_leading_zeros 64 c.args.m - 11) % 2 ^ 64) (offset c.args.k (count_leading_zeros 64 c.args.m) % 2) (moved c).0 (moved c).1 (omega arith)

-- so it fits
pub overflow_mul-w : goal.overflow_mul-w
overflow_mul-w c = omega (arith, handed c)

-- and so with the significand added
pub overflow_add-p-3 : goal.overflow_add-p-3
overflow_add-p-3 c = omega (arith, moved c)

-- the pattern that `guess` is handed is that of a float from 1 up and below 4
pub guess-requires : goal.guess-requires
guess-requires c = omega (arith, moved c)

-- `settle` is handed numbers in bounds
pub settle-requires : goal.settle-requires
settle-requires c = ((handed c.before).0, (handed c.before).1, c.guess.ensures.0, c.guess.ensures.1)

-- what `settle` gives back
given : (c : After-settle)
    → c.settle.result
    ≡ near_root (c.args.m * 2 ^ (count_leading_zeros 64 c.args.m - 11) * (1 + offset c.args.k (count_leading_zeros 64 c.args.m) % 2) * 2 ^ 52)
given c =
    let m = c.args.m in
    let k = c.args.k in
    let z : ℕ = count_leading_zeros 64 m in
    c.settle.ensures ∙ ap (λ (w : ℕ). near_root (w * (1 + offset k z % 2) * 2 ^ 52)) (shifted m z (at c.before.before))

-- it has 53 digits, or is 2 ^ 53
bounds : (c : After-settle) → (2 ^ 52 ≤ c.settle.result) × (c.settle.result ≤ 2 ^ 53)
bounds c =
    let n = near_at c.args.m c.args.k (count_leading_zeros 64 c.args.m) (at c.before.before) in
    subst (λ (r : ℕ). (2 ^ 52 ≤ r) × (r ≤ 2 ^ 53)) (sym (given c)) (n.lo, n.hi)

-- the answer fits
pub overflow_add-result : goal.overflow_add-result
overflow_add-result c = omega (arith, bounds c, c.requires)

-- it is the pattern of the root
pub returns : goal.returns
returns c = let m = c.args.m in
    let k = c.args.k in
    let z : ℕ = count_leading_zeros 64 m in
    let g = bounds c in
    let p = packed c.settle.result (offset k z / 2) g.0 g.1 (omega (arith, c.requires)) in
    rw (units_at m k z (at c.before.before), ← given c) p
