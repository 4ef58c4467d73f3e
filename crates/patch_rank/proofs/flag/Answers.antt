-- `patch_rank::flag` meets its contract: three tests decide. Assumes nothing.
use borrow.Author.Tests.{lt-ltb, le-ltb}
use Rattle.patch_rank.proofs.flag.Goals as goal

pub returns-then-t-key : goal.returns-then-t-key
returns-then-t-key c = rw (lt-ltb _ _ c.if-t-key.true)

pub returns-then-key-t : goal.returns-then-key-t
returns-then-key-t c = rw (le-ltb _ _ c.if-t-key.false, lt-ltb _ _ c.if-key-t.true)

pub returns-then-place-n : goal.returns-then-place-n
returns-then-place-n c = rw (le-ltb _ _ c.if-t-key.false, le-ltb _ _ c.if-key-t.false, lt-ltb _ _ c.if-place-n.true)

pub returns-else-place-n : goal.returns-else-place-n
returns-else-place-n c = rw (le-ltb _ _ c.if-t-key.false, le-ltb _ _ c.if-key-t.false, le-ltb _ _ c.if-place-n.false)
