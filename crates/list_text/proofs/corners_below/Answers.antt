-- `list_text::corners_below` meets its contract: the corners passed are at points below v. Assumes nothing.
use mathlib.Core.Path.{◌≡◌}
use mathlib.Core.List.{List}
use Prim.Native.Nat.{ℕ, ◌+◌, ◌*◌, ◌≤◌, ◌<◌}
use native.Mathlib.Omega.{arith}
use lib.ListN.{get_or}
use Rattle.list_text.specs.declared.Rows.{Rows}
use Rattle.list_text.specs.Written.{start_of, BelowAsks}
use Rattle.list_text.proofs.Corners.{id_below, start_most, ahead, not_ahead}
use Rattle.list_text.proofs.corners_below.Invariants.{Inv}
use Rattle.list_text.proofs.corners_below.Goals as goal
use Rattle.list_text.proofs.corners_below.Invariants.{Turn}

module _ {w : List ℕ} {rows : Rows} {from v : ℕ} (a : BelowAsks w rows from v) where
  turn : (q : ℕ) → q < 3 * rows.left → Turn w rows q
  turn q h = record { here = h; place = a.sorted.sorted_fit; column = a.sorted.column_fit; id = id_below a.sorted q h }

  again : {q : ℕ} → q < 3 * rows.left → get_or w (rows.column + get_or w (rows.sorted + q) 0) 0 < v → Inv w rows v (q + 1)
  again {q} h l = record { most = omega (arith, ahead a.sorted v a.most q h l) }

  stops : {q : ℕ} → Inv w rows v q → q < 3 * rows.left → v ≤ get_or w (rows.column + get_or w (rows.sorted + q) 0) 0 → q ≡ start_of w rows v
  stops {q} i h l = omega (arith, i.most, not_ahead a.sorted v a.most q h l)

  done : {q : ℕ} → Inv w rows v q → 3 * rows.left ≤ q → 3 * rows.left ≡ start_of w rows v
  done i h = omega (arith, i.most, start_most a.sorted v a.most)

pub loop-q-init : goal.loop-q-init
loop-q-init c = record { most = c.requires.begun }

pub overflow_add-id : goal.overflow_add-id
overflow_add-id c = omega (arith, turn c.requires c.loop-q.q c.loop-q-test.true)

pub offset_bounds-work-rows : goal.offset_bounds-work-rows
offset_bounds-work-rows c = omega (arith, turn c.requires c.loop-q.q c.loop-q-test.true)

pub bounds-work-rows : goal.bounds-work-rows
bounds-work-rows c = omega (arith, turn c.requires c.loop-q.q c.loop-q-test.true)

pub overflow_cast-id : goal.overflow_cast-id
overflow_cast-id c = omega (arith, turn c.requires c.loop-q.q c.loop-q-test.true)

pub overflow_add-rows : goal.overflow_add-rows
overflow_add-rows c = omega (arith, turn c.requires c.loop-q.q c.loop-q-test.true)

pub offset_bounds-work-rows-in-loop-q : goal.offset_bounds-work-rows-in-loop-q
offset_bounds-work-rows-in-loop-q c = omega (arith, turn c.requires c.loop-q.q c.loop-q-test.true)

pub bounds-work-rows-in-loop-q : goal.bounds-work-rows-in-loop-q
bounds-work-rows-in-loop-q c = omega (arith, turn c.requires c.loop-q.q c.loop-q-test.true)

pub overflow_cast-work : goal.overflow_cast-work
overflow_cast-work c = omega (arith, c.shared_slice_known-in-loop-q-1.given (c.args.rows.column + get_or c.args.work.now (c.args.rows.sorted + c.loop-q.q) 0))

pub returns-then-work-rows : goal.returns-then-work-rows
returns-then-work-rows c = stops c.requires c.loop-q.invariant c.loop-q-test.true c.if-work-rows.true

pub loop-q-preserved : goal.loop-q-preserved
loop-q-preserved c = again c.requires c.loop-q-test.true c.if-work-rows.false

pub returns : goal.returns
returns c = done c.requires c.loop-q.invariant c.loop-q-test.false
