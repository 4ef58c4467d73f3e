-- `halves::evens` meets its contract. Assumes nothing.
use mathlib.Core.Path.{◌≡◌, sym, ap}
use mathlib.Core.List.{List}
use Prim.Native.Nat.{ℕ, ◌+◌, ◌*◌, ◌%◌, ◌≤◌, ◌<◌}
use native.Mathlib.Omega.{arith}
use native.Mathlib.Numerals.{add-one}
use lib.ListN.{length, get_or}
use Rattle.halves.specs.Split.{hit, EvensGives}
use Rattle.halves.proofs.Tallies.{tally_zero, tally_suc, hit_same, hit_other}
use Rattle.halves.proofs.evens.Invariants.{Inv}
use Rattle.halves.proofs.evens.Goals as goal
use Rattle.halves.proofs.evens.Goals.{else-buffer-s-eq0, then-buffer-s-eq0}

-- before the first
begin : {a : List ℕ} {s n : ℕ} → s + n ≤ length a → Inv a s n 0 0
begin {a} {s} p = record { at_most = omega arith; fewer = omega arith; even = λ k h. sym (tally_zero a s (2 * k)); odd = λ k h. omega (arith, tally_zero a s (2 * k + 1)) }

module _ {a : List ℕ} {s n b i : ℕ} (p : s + n ≤ length a) (v : Inv a s n b i) (h : i < n) where
  -- an even one
  counts : get_or a (s + i) 0 % 2 ≡ 0 → Inv a s n (b + 1) (i + 1)
  counts e =
      record {
        at_most = omega arith;
        fewer = omega (arith, v.fewer);
        even = λ k g.
            let y = g i (omega arith) in
            let x : get_or a (s + i) 0 ≡ 2 * k = omega arith in
            rw (add-one i) (omega (arith, tally_suc a s i (2 * k), v.even k (λ j l. g j (omega arith)), ap (λ (z : ℕ). hit z (2 * k)) x, hit_same (2 * k)));
        odd = λ k g.
            let y = g i (omega arith) in
            rw (add-one i) (omega (arith, tally_suc a s i (2 * k + 1), v.odd k (λ j l. g j (omega arith)), hit_other (get_or a (s + i) 0) (2 * k + 1) (omega arith)));
      }

  -- an odd one
  skips : (get_or a (s + i) 0 % 2 ≡ 0 → ⊥) → Inv a s n b (i + 1)
  skips e =
      record {
        at_most = omega arith;
        fewer = omega (arith, v.fewer);
        even = λ k g.
            let y = g i (omega arith) in
            rw (add-one i) (omega (arith, tally_suc a s i (2 * k), v.even k (λ j l. g j (omega arith)), hit_other (get_or a (s + i) 0) (2 * k) (omega arith)));
        odd = λ k g.
            let y = g i (omega arith) in
            let x : get_or a (s + i) 0 ≡ 2 * k + 1 = omega arith in
            rw (add-one i) (omega (arith, tally_suc a s i (2 * k + 1), v.odd k (λ j l. g j (omega arith)), ap (λ (z : ℕ). hit z (2 * k + 1)) x, hit_same (2 * k + 1)));
      }

-- after the last
done : {a : List ℕ} {s n b i : ℕ} → s + n ≤ length a → Inv a s n b i → n ≤ i → EvensGives a s n b
done {a} {s} {n} {b} {i} p v l =
    let m = v.at_most in
    let e : i ≡ n = omega arith in
    record { fewer = rw e at v.fewer; even = rw e at v.even; odd = rw e at v.odd }

pub loop-i-init : goal.loop-i-init
loop-i-init c = begin c.requires

pub overflow_add-s : goal.overflow_add-s
overflow_add-s c = omega (arith, c.requires, c.loop-i.invariant.fewer, c.loop-i-test.true)

pub offset_bounds-buffer-s : goal.offset_bounds-buffer-s
offset_bounds-buffer-s c = omega (arith, c.requires, c.loop-i.invariant.fewer, c.loop-i-test.true)

pub bounds-buffer-s : goal.bounds-buffer-s
bounds-buffer-s c = omega (arith, c.requires, c.loop-i.invariant.fewer, c.loop-i-test.true)

pub overflow_add-b : goal.overflow_add-b
overflow_add-b c = omega (arith, c.requires, c.loop-i.invariant.fewer, c.loop-i-test.true)

pub loop-i-preserved : goal.loop-i-preserved
loop-i-preserved c = elim c.if-buffer-s-eq0.branch [ then-buffer-s-eq0 w ↦ rw w.b-is (counts c.requires c.loop-i.invariant c.loop-i-test.true w.if-buffer-s-eq0.true) | else-buffer-s-eq0 w ↦ rw w.b-is (skips c.requires c.loop-i.invariant c.loop-i-test.true w.if-buffer-s-eq0.false) ]

pub returns : goal.returns
returns c = done c.requires c.loop-i.invariant c.loop-i-test.false
