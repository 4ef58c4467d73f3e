-- `table::begins` meets its contract. Past the first place, the first keys and then the second ones decide.
-- Assumes nothing.
use mathlib.Core.Path.{◌≡◌, refl}
use mathlib.Core.Bool.{not}
use mathlib.Core.List.{List}
use Prim.Native.Nat.{ℕ, zero, suc, ◌+◌, ◌*◌, ◌-◌, ◌≤◌, ◌<◌}
use native.Mathlib.Omega.{arith}
use borrow.Author.Tests.{eq-eqb, ne_eqb}
use lib.Dec.{eqb}
use lib.ListN.{length, get_or}
use Rattle.rules.specs.Steps.{same}
use Rattle.table.specs.Runs.{entry, key_at, begins, BeginsAsks}
use Rattle.table.proofs.begins.Goals as goal

-- what the two reads need
record Reading (w : List ℕ) (n at i : ℕ) : Type 0 where
  fit : at + 5 * n + 1 ≤ length w
  here : i < n
  id_in : entry w n at i < n
  before_in : entry w n at (i - 1) < n

reading : {w : List ℕ} {n at i : ℕ} → BeginsAsks w n at i → Reading w n at i
reading {w} {n} {at} {i} p = record { fit = p.rows.fit; here = p.here; id_in = p.rows.id i p.here; before_in = p.rows.id (i - 1) (omega (arith, p.here)) }

-- past the first place the keys are compared with those of the place before
compared : (w : List ℕ) (n at i : ℕ) → (i ≡ 0 → ⊥) → begins w n at i ≡ not (same (key_at w n at i) (key_at w n at (i - 1)))
compared w n at zero h = absurd (h refl)
compared w n at (suc i) h = let e : suc i - 1 ≡ i = omega arith in rw e

module _ (w : List ℕ) (n at i : ℕ) (h : i ≡ 0 → ⊥) where
  -- the first keys differ
  first_other : (get_or w (at + entry w n at i) 0 ≡ get_or w (at + entry w n at (i - 1)) 0 → ⊥) → not (eqb (get_or w (at + entry w n at i) 0) (get_or w (at + entry w n at (i - 1)) 0)) ≡ begins w n at i
  unfolding same
  first_other e = rw (compared w n at i h, ne_eqb (get_or w (at + entry w n at i) 0) (get_or w (at + entry w n at (i - 1)) 0) e)

  -- the first keys are equal, so the second ones decide
  second_decides : get_or w (at + entry w n at i) 0 ≡ get_or w (at + entry w n at (i - 1)) 0 → not (eqb (get_or w (at + n + entry w n at i) 0) (get_or w (at + n + entry w n at (i - 1)) 0)) ≡ begins w n at i
  unfolding same
  second_decides e = rw (compared w n at i h, eq-eqb (get_or w (at + entry w n at i) 0) (get_or w (at + entry w n at (i - 1)) 0) e)

pub overflow_cast-j : goal.overflow_cast-j
overflow_cast-j c = omega (arith, reading c.requires)

pub overflow_cast-k : goal.overflow_cast-k
overflow_cast-k c = omega (arith, reading c.requires)

pub overflow_add-at : goal.overflow_add-at
overflow_add-at c = omega (arith, reading c.requires)

pub offset_bounds-work-at-3 : goal.offset_bounds-work-at-3
offset_bounds-work-at-3 c = omega (arith, reading c.requires)

pub bounds-work-at-3 : goal.bounds-work-at-3
bounds-work-at-3 c = omega (arith, reading c.requires)

pub overflow_add-at-2 : goal.overflow_add-at-2
overflow_add-at-2 c = omega (arith, reading c.requires)

pub offset_bounds-work-at-4 : goal.offset_bounds-work-at-4
offset_bounds-work-at-4 c = omega (arith, reading c.requires)

pub bounds-work-at-4 : goal.bounds-work-at-4
bounds-work-at-4 c = omega (arith, reading c.requires)

pub returns-then-work-at : goal.returns-then-work-at
returns-then-work-at c = first_other c.args.work.now c.args.n c.args.at c.args.i c.if-i-eq0.false c.if-work-at.true

pub returns-else-work-at : goal.returns-else-work-at
returns-else-work-at c = second_decides c.args.work.now c.args.n c.args.at c.args.i c.if-i-eq0.false c.if-work-at.false
