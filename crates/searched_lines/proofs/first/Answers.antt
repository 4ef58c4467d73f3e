-- `searched_lines::first` meets its contract: off, or both kinds leave together. Assumes nothing.
use native.Mathlib.Omega.{arith}
use Rattle.rules.specs.Pass1.{pass1}
use Rattle.rules.specs.Mending.{lines1}
use Rattle.searched_lines.proofs.Passing.{off_told, on_told, pass_ask, first_told}
use Rattle.searched_lines.proofs.first.Goals as goal

pub returns-then-not-on : goal.returns-then-not-on
returns-then-not-on c = off_told 2 (pass1 c.args.s) (lines1 c.args.s) (omega arith) c.requires c.args.on c.if-not-on.true

pub pass1-requires : goal.pass1-requires
pass1-requires c = pass_ask c.requires

pub returns : goal.returns
returns c = on_told 2 (pass1 c.args.s) (lines1 c.args.s) (first_told c.requires c.args.s c.degenerate_length-bytes.ensures c.pass1.ensures) c.args.on c.if-not-on.false
