-- `point_bits::set_bit` meets its contract: a power of two is joined to the entry. Assumes nothing.
use Rattle.point_bits.proofs.Setting.{set_gives, shifted}
use Rattle.point_bits.proofs.set_bit.Goals as goal

pub returns : goal.returns
returns c = rw (shifted c.args.v) (set_gives c.args.bits.now c.args.v c.requires)
