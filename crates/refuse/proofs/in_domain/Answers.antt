-- `refuse::in_domain` meets its contract: the bits of its limits are 2^100 and its negative. Assumes nothing.
use lib.Ieee.{of_bits, neg}
use Rattle.rules.specs.Refusal.{in_domain}
use Rattle.refuse.proofs.in_domain.Goals as goal

pub returns : goal.returns
unfolding in_domain of_bits neg
returns c = c.within.ensures
