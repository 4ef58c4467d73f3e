-- `shell::place_of` meets its contract: the place, or the largest. Assumes nothing.
use Rattle.shell.proofs.Patching.{clip_small, clip_large}
use Rattle.shell.proofs.place_of.Goals as goal

pub returns-then-at-lt4294967295 : goal.returns-then-at-lt4294967295
returns-then-at-lt4294967295 c = clip_small _ c.if-at-lt4294967295.true

pub returns-else-at-lt4294967295 : goal.returns-else-at-lt4294967295
returns-else-at-lt4294967295 c = clip_large _ c.if-at-lt4294967295.false
