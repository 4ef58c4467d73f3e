-- `halves::span` meets its contract. Assumes nothing.
use mathlib.Core.Path.{◌≡◌}
use mathlib.Core.List.{List}
use Prim.Native.Nat.{ℕ, ◌+◌, ◌/◌, ◌≤◌, ◌<◌, min, max}
use native.Mathlib.Omega.{arith}
use native.Mathlib.Decide.{ℕ_discrete}
use lib.ListN.{length, get_or}
use Rattle.halves.specs.Split.{SpanGives}
use Rattle.halves.proofs.span.Invariants.{Inv}
use Rattle.halves.proofs.span.Goals as goal

-- of the first key
begin : {a : List ℕ} {s n : ℕ} → (s + n ≤ length a) × (0 < n) → Inv a s n (get_or a s 0 / 2) (get_or a s 0 / 2) 1
begin {a} {s} {n} p =
    let z : s + 0 ≡ s = omega arith in
    record {
      at_most = omega (arith, p.1);
      each_low = λ j h. let e : s + j ≡ s = omega arith in rw e (omega arith);
      each_high = λ j h. let e : s + j ≡ s = omega arith in rw e (omega arith);
      low_at = λ from h. rw z at (h 0 p.1);
      high_at = λ to h. rw z at (h 0 p.1);
    }

module _ {a : List ℕ} {s n low high i : ℕ} (p : (s + n ≤ length a) × (0 < n)) (v : Inv a s n low high i) (h : i < n) where
  -- one more key
  again : {low' high' : ℕ} → low' ≡ min low (get_or a (s + i) 0 / 2) → high' ≡ max high (get_or a (s + i) 0 / 2) → Inv a s n low' high' (i + 1)
  again {low'} {high'} e f =
      record {
        at_most = omega arith;
        each_low = λ j l. from j l (ℕ_discrete j i);
        each_high = λ j l. to j l (ℕ_discrete j i);
        low_at = λ x g. omega (arith, v.low_at x g, g i h);
        high_at = λ x g. omega (arith, v.high_at x g, g i h);
      }
    where
      from : (j : ℕ) → j < i + 1 → Dec (j ≡ i) → low' ≤ get_or a (s + j) 0 / 2
      from j l (yes t) = rw t (omega arith)
      from j l (no t) = omega (arith, v.each_low j (omega arith))

      to : (j : ℕ) → j < i + 1 → Dec (j ≡ i) → get_or a (s + j) 0 / 2 ≤ high'
      to j l (yes t) = rw t (omega arith)
      to j l (no t) = omega (arith, v.each_high j (omega arith))

-- after the last
done : {a : List ℕ} {s n low high i : ℕ} → (s + n ≤ length a) × (0 < n) → Inv a s n low high i → n ≤ i → SpanGives a s n low high
done {a} {s} {n} {low} {high} {i} p v l = record { each_low = λ j h. v.each_low j (omega arith); each_high = λ j h. v.each_high j (omega arith); low_at = v.low_at; high_at = v.high_at }

pub loop-i-init : goal.loop-i-init
loop-i-init c = begin c.requires

pub overflow_add-k : goal.overflow_add-k
overflow_add-k c = omega (arith, c.requires.0, c.loop-i-test.true)

pub offset_bounds-buffer-s-in-loop-i : goal.offset_bounds-buffer-s-in-loop-i
offset_bounds-buffer-s-in-loop-i c = omega (arith, c.requires.0, c.loop-i-test.true)

pub bounds-buffer-s-in-loop-i : goal.bounds-buffer-s-in-loop-i
bounds-buffer-s-in-loop-i c = omega (arith, c.requires.0, c.loop-i-test.true)

pub loop-i-preserved : goal.loop-i-preserved
loop-i-preserved c = again c.requires c.loop-i.invariant c.loop-i-test.true c.min-low.ensures c.max-high.ensures

pub returns : goal.returns
returns c = done c.requires c.loop-i.invariant c.loop-i-test.false
