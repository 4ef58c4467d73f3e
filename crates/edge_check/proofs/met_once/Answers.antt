-- `edge_check::met_once` meets its contract: each mark is the number of groups met at its point. Assumes nothing.
use native.Mathlib.Omega.{arith}
use Rattle.edge_check.proofs.Meeting.{begin, bounds, turn, passed, again, marked, done}
use Rattle.edge_check.proofs.met_once.Goals as goal
use Rattle.edge_check.proofs.met_once.Goals.{else-work-leads, then-work-leads+else-work-row-ne0}

pub overflow_mul-leads : goal.overflow_mul-leads
overflow_mul-leads c = omega (arith, bounds c.requires)

pub overflow_add-leads : goal.overflow_add-leads
overflow_add-leads c = omega (arith, bounds c.requires)

pub overflow_add-leads-2 : goal.overflow_add-leads-2
overflow_add-leads-2 c = omega (arith, bounds c.requires)

pub overflow_mul-row : goal.overflow_mul-row
overflow_mul-row c = omega (arith, bounds c.requires)

pub overflow_add-row : goal.overflow_add-row
overflow_add-row c = omega (arith, bounds c.requires)

pub overflow_add-row-2 : goal.overflow_add-row-2
overflow_add-row-2 c = omega (arith, bounds c.requires)

pub loop-c-init : goal.loop-c-init
loop-c-init c = begin c.requires

pub overflow_add-leads-in-loop-c : goal.overflow_add-leads-in-loop-c
overflow_add-leads-in-loop-c c = omega (arith, turn c.requires c.loop-c.invariant c.loop-c-test.true)

pub offset_bounds-work-leads : goal.offset_bounds-work-leads
offset_bounds-work-leads c = omega (arith, turn c.requires c.loop-c.invariant c.loop-c-test.true)

pub bounds-work-leads : goal.bounds-work-leads
bounds-work-leads c = omega (arith, turn c.requires c.loop-c.invariant c.loop-c-test.true)

pub overflow_cast-work : goal.overflow_cast-work
overflow_cast-work c = omega (arith, turn c.requires c.loop-c.invariant c.loop-c-test.true)

pub offset_bounds-faces-c : goal.offset_bounds-faces-c
offset_bounds-faces-c c = omega (arith, turn c.requires c.loop-c.invariant c.loop-c-test.true)

pub bounds-faces-c : goal.bounds-faces-c
bounds-faces-c c = omega (arith, turn c.requires c.loop-c.invariant c.loop-c-test.true)

pub overflow_cast-v : goal.overflow_cast-v
overflow_cast-v c = omega (arith, turn c.requires c.loop-c.invariant c.loop-c-test.true)

pub overflow_add-row-then-work-leads : goal.overflow_add-row-then-work-leads
overflow_add-row-then-work-leads c = omega (arith, turn c.requires c.loop-c.invariant c.loop-c-test.true)

pub offset_bounds-work-row : goal.offset_bounds-work-row
offset_bounds-work-row c = omega (arith, turn c.requires c.loop-c.invariant c.loop-c-test.true)

pub bounds-work-row : goal.bounds-work-row
bounds-work-row c = omega (arith, turn c.requires c.loop-c.invariant c.loop-c-test.true)

pub shape_of-work-then-work-row-ne0 : goal.shape_of-work-then-work-row-ne0
shape_of-work-then-work-row-ne0 c = c.loop-c.invariant.only.long

pub returns-then-work-row-ne0 : goal.returns-then-work-row-ne0
returns-then-work-row-ne0 c = let l = c.loop-c.invariant in
    record { only = l.only; says = again c.requires l c.loop-c-test.true (omega arith) c.if-work-row-ne0.true }

pub overflow_add-work : goal.overflow_add-work
overflow_add-work c = omega (arith, turn c.requires c.loop-c.invariant c.loop-c-test.true)

pub offset_bounds-work-row-then-work-leads : goal.offset_bounds-work-row-then-work-leads
offset_bounds-work-row-then-work-leads c = omega (arith, turn c.requires c.loop-c.invariant c.loop-c-test.true)

pub bounds-work-row-then-work-leads : goal.bounds-work-row-then-work-leads
bounds-work-row-then-work-leads c = omega (arith, turn c.requires c.loop-c.invariant c.loop-c-test.true)

pub loop-c-preserved : goal.loop-c-preserved
loop-c-preserved c = elim c.if-work-leads.branch [ then-work-leads+else-work-row-ne0 w ↦ rw w.work-is (marked c.requires c.loop-c.invariant c.loop-c-test.true (omega (arith, w.if-work-leads.true)) (omega (arith, w.if-work-row-ne0.false))) | else-work-leads w ↦ rw w.work-is (passed c.requires c.loop-c.invariant c.loop-c-test.true w.if-work-leads.false) ]

pub shape_of-work : goal.shape_of-work
shape_of-work c = c.loop-c.invariant.only.long

pub returns : goal.returns
returns c = let l = c.loop-c.invariant in record { only = l.only; says = done c.requires l c.loop-c-test.false }
