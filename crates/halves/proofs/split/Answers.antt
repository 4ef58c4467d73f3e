-- `halves::split` meets its contract. The invariant: of the first i entries the m whose key is below `mid` stand first. Assumes nothing.
use mathlib.Core.Path.{◌≡◌, refl, ◌∙◌}
use mathlib.Core.List.{List}
use Prim.Native.Nat.{ℕ, ◌+◌, ◌/◌, ◌≤◌, ◌<◌}
use native.Mathlib.Omega.{arith}
use native.Mathlib.Decide.{ℕ_discrete}
use lib.ListN.{length, get_or, set, length-set}
use lib.Seq.{get_or-set_same, get_or-set_other}
use Rattle.rows.proofs.Regions.{only_none, only_both, only_set}
use Rattle.halves.specs.Split.{SplitGives}
use Rattle.halves.proofs.Tallies.{tally_swap}
use Rattle.halves.proofs.split.Invariants.{Inv}
use Rattle.halves.proofs.split.Goals as goal
use Rattle.halves.proofs.split.Goals.{else-x-mid, then-x-mid}

-- the bounds of a turn
record Turn (s n : ℕ) (a : List ℕ) (i m : ℕ) : Type 0 where
  fit : s + n ≤ length a
  fewer : m ≤ i

-- before the first
begin : {a : List ℕ} {s n mid : ℕ} → s + n ≤ length a → Inv a s n mid a 0 0
begin p = record { at_most = omega arith; fewer = omega arith; only = only_none _ _ _; low = λ j l. omega arith; high = λ j l h. omega arith; same = λ x. refl }

module _ {a₀ : List ℕ} {s n mid : ℕ} {a : List ℕ} {i m : ℕ} (p : s + n ≤ length a₀) (v : Inv a₀ s n mid a i m) (h : i < n) where
  -- they hold
  turn : Turn s n a i m
  turn = let l = v.only.long in record { fit = omega arith; fewer = v.fewer }

  -- an entry that stays
  skips : mid ≤ get_or a (s + i) 0 / 2 → Inv a₀ s n mid a (i + 1) m
  skips e = record { at_most = omega arith; fewer = omega (arith, v.fewer); only = v.only; low = v.low; high = λ j l q. go j l q (ℕ_discrete j i); same = v.same }
    where
      go : (j : ℕ) → m ≤ j → j < i + 1 → Dec (j ≡ i) → mid ≤ get_or a (s + j) 0 / 2
      go j l q (yes t) = rw t e
      go j l q (no t) = v.high j l (omega arith)

  -- an entry that is exchanged with the first of those not below mid
  keeps : get_or a (s + i) 0 / 2 < mid → Inv a₀ s n mid (set (set a (s + i) (get_or a (s + m) 0)) (s + m) (get_or a (s + i) 0)) (i + 1) (m + 1)
  keeps e =
      let f = v.fewer in
      record {
        at_most = omega arith;
        fewer = omega arith;
        only = only_both v.only (only_both (only_set _ _ _ (omega arith) (omega arith)) (only_set _ _ _ (omega arith) (omega arith)));
        low = λ j l. low' j l (ℕ_discrete j m);
        high = λ j l q. high' j l q (ℕ_discrete j i);
        same = λ x. tally_swap a s n i m x h (omega arith) turn.fit ∙ v.same x;
      }
    where
      b : List ℕ
      b = set a (s + i) (get_or a (s + m) 0)

      long : length b ≡ length a
      long = length-set a (s + i) (get_or a (s + m) 0)

      low' : (j : ℕ) → j < m + 1 → Dec (j ≡ m) → get_or (set b (s + m) (get_or a (s + i) 0)) (s + j) 0 / 2 < mid
      low' j l (yes t) =
          let f = v.fewer in
          let g = turn.fit in
          let g2 = long in
          rw (t, get_or-set_same b (s + m) (get_or a (s + i) 0) 0 (omega arith)) e
      low' j l (no t) =
          let f = v.fewer in
          rw (get_or-set_other b (s + m) (s + j) (get_or a (s + i) 0) 0 (omega arith), get_or-set_other a (s + i) (s + j) (get_or a (s + m) 0) 0 (omega arith)) (v.low j (omega arith))

      high' : (j : ℕ) → m + 1 ≤ j → j < i + 1 → Dec (j ≡ i) → mid ≤ get_or (set b (s + m) (get_or a (s + i) 0)) (s + j) 0 / 2
      high' j l q (yes t) =
          let g = turn.fit in
          rw (t, get_or-set_other b (s + m) (s + i) (get_or a (s + i) 0) 0 (omega arith), get_or-set_same a (s + i) (get_or a (s + m) 0) 0 (omega arith)) (v.high m (omega arith) (omega arith))
      high' j l q (no t) =
          rw (get_or-set_other b (s + m) (s + j) (get_or a (s + i) 0) 0 (omega arith), get_or-set_other a (s + i) (s + j) (get_or a (s + m) 0) 0 (omega arith)) (v.high j (omega arith) (omega arith))

-- after the last
done : {a₀ : List ℕ} {s n mid : ℕ} {a : List ℕ} {i m : ℕ} → s + n ≤ length a₀ → Inv a₀ s n mid a i m → n ≤ i → SplitGives a₀ s n mid a m
done {a₀} {s} {n} {mid} {a} {i} {m} p v l = let f = v.fewer in let g = v.at_most in record { only = v.only; fewer = omega arith; low = v.low; high = λ j q r. v.high j q (omega arith); same = v.same }

pub loop-i-init : goal.loop-i-init
loop-i-init c = begin c.requires

pub overflow_add-x : goal.overflow_add-x
overflow_add-x c = omega (arith, turn c.requires c.loop-i.invariant c.loop-i-test.true)

pub offset_bounds-buffer-s : goal.offset_bounds-buffer-s
offset_bounds-buffer-s c = omega (arith, turn c.requires c.loop-i.invariant c.loop-i-test.true)

pub bounds-buffer-s : goal.bounds-buffer-s
bounds-buffer-s c = omega (arith, turn c.requires c.loop-i.invariant c.loop-i-test.true)

pub overflow_add-buffer : goal.overflow_add-buffer
overflow_add-buffer c = omega (arith, turn c.requires c.loop-i.invariant c.loop-i-test.true)

pub offset_bounds-buffer-s-then-x-mid : goal.offset_bounds-buffer-s-then-x-mid
offset_bounds-buffer-s-then-x-mid c = omega (arith, turn c.requires c.loop-i.invariant c.loop-i-test.true)

pub bounds-buffer-s-then-x-mid : goal.bounds-buffer-s-then-x-mid
bounds-buffer-s-then-x-mid c = omega (arith, turn c.requires c.loop-i.invariant c.loop-i-test.true)

pub overflow_add-buffer-then-x-mid : goal.overflow_add-buffer-then-x-mid
overflow_add-buffer-then-x-mid c = omega (arith, turn c.requires c.loop-i.invariant c.loop-i-test.true)

pub offset_bounds-buffer-s-then-x-mid-2 : goal.offset_bounds-buffer-s-then-x-mid-2
offset_bounds-buffer-s-then-x-mid-2 c = omega (arith, turn c.requires c.loop-i.invariant c.loop-i-test.true)

pub bounds-buffer-s-then-x-mid-2 : goal.bounds-buffer-s-then-x-mid-2
bounds-buffer-s-then-x-mid-2 c = omega (arith, turn c.requires c.loop-i.invariant c.loop-i-test.true)

pub overflow_add-buffer-then-x-mid-2 : goal.overflow_add-buffer-then-x-mid-2
overflow_add-buffer-then-x-mid-2 c = omega (arith, turn c.requires c.loop-i.invariant c.loop-i-test.true)

pub offset_bounds-buffer-s-then-x-mid-3 : goal.offset_bounds-buffer-s-then-x-mid-3
offset_bounds-buffer-s-then-x-mid-3 c = omega (arith, turn c.requires c.loop-i.invariant c.loop-i-test.true)

pub bounds-buffer-s-then-x-mid-3 : goal.bounds-buffer-s-then-x-mid-3
bounds-buffer-s-then-x-mid-3 c = simp length-set (omega (arith, turn c.requires c.loop-i.invariant c.loop-i-test.true))

pub overflow_add-m : goal.overflow_add-m
overflow_add-m c = omega (arith, turn c.requires c.loop-i.invariant c.loop-i-test.true)

pub loop-i-preserved : goal.loop-i-preserved
loop-i-preserved c = elim c.if-x-mid.branch [ then-x-mid w ↦ rw (w.buffer-is, w.m-is) (keeps c.requires c.loop-i.invariant c.loop-i-test.true w.if-x-mid.true) | else-x-mid w ↦ rw (w.buffer-is, w.m-is) (skips c.requires c.loop-i.invariant c.loop-i-test.true w.if-x-mid.false) ]

pub shape_of-buffer : goal.shape_of-buffer
shape_of-buffer c = c.loop-i.invariant.only.long

pub returns : goal.returns
returns c = done c.requires c.loop-i.invariant c.loop-i-test.false
