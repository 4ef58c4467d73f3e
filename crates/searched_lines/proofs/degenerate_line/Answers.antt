-- `searched_lines::degenerate_line` meets its contract: by its shape. Assumes nothing.
use native.Mathlib.Omega.{arith}
use Rattle.rule_laws.proofs.Digits.{decimal_short}
use Rattle.searched_marks.proofs.Degenerate.{shape_ok}
use Rattle.searched_lines.proofs.Lining.{gone_none, good_none, repeated_line, thin_line}
use Rattle.searched_lines.proofs.degenerate_line.Goals as goal

pub returns-then-not-stands : goal.returns-then-not-stands
returns-then-not-stands c = gone_none c.args.s c.args.points.now c.args.faces.now c.args.words.now c.args.f c.stands.ensures c.if-not-stands.true

pub shape-requires : goal.shape-requires
shape-requires c = shape_ok c.requires c.view-g.ensures

pub overflow_add-result : goal.overflow_add-result
overflow_add-result c = omega (arith, c.number_length.ensures, decimal_short c.args.f)

pub overflow_add-result-in-Thin : goal.overflow_add-result-in-Thin
overflow_add-result-in-Thin c = omega (arith, c.number_length-in-Thin.ensures, decimal_short c.args.f)

pub returns-in-Good : goal.returns-in-Good
returns-in-Good c = good_none c.args.s c.args.points.now c.args.faces.now c.args.words.now c.args.f c.stands.ensures c.if-not-stands.false c.view-g.ensures c.in-Good.ensures

pub returns-in-Repeated : goal.returns-in-Repeated
returns-in-Repeated c = repeated_line c.args.s c.args.points.now c.args.faces.now c.args.words.now c.args.f c.stands.ensures c.if-not-stands.false c.view-g.ensures c.number_length.ensures c.in-Repeated.ensures

pub returns-in-Thin : goal.returns-in-Thin
returns-in-Thin c = thin_line c.args.s c.args.points.now c.args.faces.now c.args.words.now c.args.f c.stands.ensures c.if-not-stands.false c.view-g.ensures c.number_length-in-Thin.ensures c.in-Thin.ensures
