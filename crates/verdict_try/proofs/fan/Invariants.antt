-- `verdict_try::fan` is safe and ends. The invariant: the list keeps its length. Assumes nothing.
use mathlib.Core.Path.{◌≡◌}
use Prim.Native.Nat.{◌≤◌}
use lib.ListN.{length}
use Rattle.verdict_try.proofs.fan.Given as goal

abbrev pub invariant-loop-i : goal.invariant-loop-i
invariant-loop-i l = (l.i ≤ 2049) × (length l.faces ≡ 12303) × (length l.faces ≡ length l.initial.faces)

abbrev pub invariant-loop-i-2 : goal.invariant-loop-i-2
invariant-loop-i-2 l = (l.i ≤ 4101) × (length l.faces ≡ 12303) × (length l.faces ≡ length l.initial.faces)
