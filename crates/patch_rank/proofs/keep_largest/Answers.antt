-- `patch_rank::keep_largest` meets its contract: all, none, or those before the cut. Assumes nothing.
use Rattle.patch_rank.proofs.Keeping.{all_kept, none_kept, cut_asks, some_kept}
use Rattle.patch_rank.proofs.keep_largest.Goals as goal

pub returns-then-count-n : goal.returns-then-count-n
returns-then-count-n c = all_kept c.requires c.if-count-n.true c.fill.ensures.only c.fill.ensures.filled

pub returns-then-n-eq0 : goal.returns-then-n-eq0
returns-then-n-eq0 c = none_kept c.requires c.if-n-eq0.true c.fill-then-n-eq0.ensures.only c.fill-then-n-eq0.ensures.filled

pub cut-t-requires : goal.cut-t-requires
cut-t-requires c = cut_asks c.requires c.if-count-n.false c.lay_keys.ensures c.if-n-eq0.false

pub returns : goal.returns
returns c = some_kept c.requires c.if-count-n.false c.lay_keys.ensures c.mark.ensures
