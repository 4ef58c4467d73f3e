-- `patch_mask::filter` meets its contract: each limit counts if its bit is set. Assumes nothing.
use Rattle.patch_mask.proofs.Masking.{masked_is}
use Rattle.patch_mask.proofs.filter.Goals as goal

pub returns : goal.returns
returns c = let a = c.args in
    masked_is a.limits a.min_faces a.min_area a.min_aabb_diagonal a.min_area_fraction a.keep_largest_n
    c.limit.ensures c.limit-2.ensures c.limit-3.ensures c.limit-4.ensures c.limit-5.ensures
