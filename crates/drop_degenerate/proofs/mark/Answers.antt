-- `drop_degenerate::mark` meets its contract: the flags stand at the front. Assumes nothing.
use Rattle.drop_degenerate.proofs.mark.Goals as goal

pub returns : goal.returns
returns c = record { mark_gives = c.flag_all-repeated.ensures.mark_gives; found_value = c.flag_all-repeated.ensures.value }
