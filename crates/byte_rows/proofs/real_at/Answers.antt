-- `bytes::real_at` meets its contract: eight bytes are the bits. Assumes nothing.
use mathlib.Core.Path.{◌∙◌}
use Rattle.byte_rows.proofs.Reading.{eight_bytes}
use Rattle.byte_rows.proofs.real_at.Goals as goal

pub returns : goal.returns
returns c = eight_bytes _ _ _ _ _ (c.from.ensures ∙ c.u32_at-low.ensures) (c.from-2.ensures ∙ c.u32_at-high.ensures) c.float.ensures
