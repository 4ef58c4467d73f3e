-- `bytes::u32_at` meets its contract: four bytes, the lowest first. Assumes nothing.
use native.Mathlib.Omega.{arith}
use Rattle.rules.specs.Bytes.{u32_at}
use Rattle.byte_rows.proofs.u32_at.Goals as goal

pub returns : goal.returns
unfolding u32_at
returns c = omega (arith, c.from_le_bytes.ensures)
