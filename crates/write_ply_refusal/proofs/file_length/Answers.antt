-- `write_ply_refusal::file_length` meets its contract: the digits of both counts, and the rest by their rules. Assumes nothing.
use native.Mathlib.Omega.{arith}
use Rattle.rule_laws.proofs.PlyHeader.{header_long}
use Rattle.write_ply_refusal.proofs.file_length.Goals as goal

pub returns : goal.returns
returns c = omega (arith, header_long c.args.p c.args.f, c.digits.ensures, c.digits-2.ensures)
