-- `refuse::astray` meets its contract. Assumes nothing.
use Prim.Native.Nat.{◌+◌, ◌*◌}
use Rattle.refuse.proofs.Scans.{astray_a, astray_b, astray_c}
use native.Mathlib.Omega.{arith}
use Rattle.refuse.proofs.astray.Goals as goal

pub overflow_cast-faces : goal.overflow_cast-faces
overflow_cast-faces c = omega (arith, c.shared_slice_known-1.given (3 * c.args.i))

pub returns-then-p-faces : goal.returns-then-p-faces
returns-then-p-faces c = astray_a _ _ _ c.requires c.if-p-faces.true

pub overflow_cast-faces-2 : goal.overflow_cast-faces-2
overflow_cast-faces-2 c = omega (arith, c.shared_slice_known-2-1.given (3 * c.args.i + 1))

pub returns-then-p-faces-2 : goal.returns-then-p-faces-2
returns-then-p-faces-2 c = astray_b _ _ _ c.requires c.if-p-faces.false c.if-p-faces-2.true

pub overflow_cast-result : goal.overflow_cast-result
overflow_cast-result c = omega (arith, c.shared_slice_known-3-1.given (3 * c.args.i + 2))

pub returns : goal.returns
returns c = astray_c _ _ _ c.requires c.if-p-faces.false c.if-p-faces-2.false
