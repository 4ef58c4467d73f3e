-- `entry_search::admits` meets its contract: how many steps there are, and how the face walks. Assumes nothing.
use native.Mathlib.Omega.{arith}
use Rattle.rules.specs.Steps.{step}
use Rattle.face_words.specs.Views.{seen_as}
use Rattle.entry_search.proofs.Wanting.{passed_is, admits_none, admits_any, admits_so}
use Rattle.entry_search.proofs.admits.Goals as goal

pub returns-then-u-passed : goal.returns-then-u-passed
returns-then-u-passed c = admits_none c.args.walk c.args.but c.args.directed (step c.args.a c.args.b) (seen_as c.args.g 0) c.args.f c.uses-u.ensures (passed_is c.args.but c.args.f c.from-passed.ensures c.eq.ensures) (omega arith)

pub returns-in-None : goal.returns-in-None
returns-in-None c = admits_any c.args.walk c.args.but c.args.directed (step c.args.a c.args.b) (seen_as c.args.g 0) c.args.f c.uses-u.ensures (passed_is c.args.but c.args.f c.from-passed.ensures c.eq.ensures) (omega (arith, c.if-u-passed.false)) c.in-None.is

pub returns-in-Some : goal.returns-in-Some
returns-in-Some c =
    admits_so c.args.walk c.args.but c.args.directed (step c.args.a c.args.b) (seen_as c.args.g 0) c.args.f c.uses-u.ensures (passed_is c.args.but c.args.f c.from-passed.ensures c.eq.ensures)
    (omega (arith, c.if-u-passed.false)) c.in-Some.is c.min.ensures c.max.ensures c.walks.ensures
