-- `patches::diagonal` meets its contract: 0, or the norm of the difference. Assumes nothing.
use mathlib.Core.Path.{◌∙◌, ap}
use Rattle.patches.proofs.Limits.{diagonal_empty, diagonal_full}
use Rattle.rules.specs.Float.{norm}
use Rattle.patches.proofs.diagonal.Goals as goal

pub returns-then-n-eq0 : goal.returns-then-n-eq0
returns-then-n-eq0 c = diagonal_empty _ _ c.if-n-eq0.true

pub returns : goal.returns
returns c = c.norm.ensures ∙ ap norm c.difference.ensures ∙ diagonal_full _ _ c.if-n-eq0.false
