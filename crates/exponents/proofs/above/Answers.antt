-- `exponents::above` meets its contract: its tests make the exponents' room. Assumes nothing.
use native.Mathlib.Omega.{arith}
use borrow.Author.Tests.{ltb-true}
use Rattle.exponents.proofs.Compared.{sure, silent}
use Rattle.exponents.proofs.above.Goals as goal

pub returns-then-z-eq0 : goal.returns-then-z-eq0
returns-then-z-eq0 c = silent

pub returns-then-z-ge2047 : goal.returns-then-z-ge2047
returns-then-z-ge2047 c = silent

pub returns-then-x-ge2047 : goal.returns-then-x-ge2047
returns-then-x-ge2047 c = silent

pub returns-then-y-ge2047 : goal.returns-then-y-ge2047
returns-then-y-ge2047 c = silent

pub returns-then-t-ge1024 : goal.returns-then-t-ge1024
returns-then-t-ge1024 c = silent

pub returns : goal.returns
returns c w = let at_b = c.before.before.before in
    let at_a = at_b.before.before in
    let at_c = at_a.before.before.before in
    let start = at_c.before in
    sure _ _ _ _ start.well_formed.0.1 start.well_formed.1.0.1 start.well_formed.1.1.0.1 start.well_formed.1.1.1.0.1
    c.exponent-t.ensures at_a.exponent-x.ensures at_b.exponent-y.ensures at_c.exponent-z.ensures
    (omega (arith, ltb-true, at_a.if-z-eq0.false, at_a.if-z-ge2047.false, at_b.if-x-ge2047.false, c.if-y-ge2047.false, c.if-t-ge1024.false))
