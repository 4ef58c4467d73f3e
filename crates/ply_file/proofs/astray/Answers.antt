-- `ply_file::astray` meets its contract: corners 0 and 1 first, then corner 2. Assumes nothing.
use mathlib.Core.Path.{◌≡◌, sym, ◌∙◌}
use mathlib.Core.Bool.{◌||◌}
use Prim.Native.Nat.{◌+◌}
use borrow.Author.Tests.{le-leb, lt-leb}
use lib.Dec.{leb}
use Rattle.rules.specs.Bytes.{u32_at}
use Rattle.ply_file.proofs.Scanning.{astray_is}
use Rattle.ply_file.proofs.astray.Goals as goal
use Rattle.ply_file.proofs.astray.Goals.{then-p-u32_at, else-p-u32_at}

pub returns-then-p-u32_at-2 : goal.returns-then-p-u32_at-2
returns-then-p-u32_at-2 c =
    let file = c.args.file.now in
    let two : c.if-p-u32_at.value ≡ (leb c.args.p (u32_at file (c.args.i + 1)) || leb c.args.p (u32_at file (c.args.i + 5))) =
    elim c.if-p-u32_at.branch [
      | then-p-u32_at w ↦ rw (← c.u32_at.ensures, le-leb _ _ w.if-p-u32_at.true) (w.value-is ∙ le-leb _ _ w.if-p-u32_at.true)
      | else-p-u32_at w ↦ rw (← c.u32_at.ensures, ← w.u32_at-else-p-u32_at.ensures, lt-leb _ _ w.if-p-u32_at.false) w.value-is
    ] in
    rw c.if-p-u32_at-2.true (rw (sym two ∙ c.if-p-u32_at-2.true) at (astray_is c.args.p file c.args.i))

pub returns-else-p-u32_at-2 : goal.returns-else-p-u32_at-2
returns-else-p-u32_at-2 c =
    let file = c.args.file.now in
    let two : c.if-p-u32_at.value ≡ (leb c.args.p (u32_at file (c.args.i + 1)) || leb c.args.p (u32_at file (c.args.i + 5))) =
    elim c.if-p-u32_at.branch [
      | then-p-u32_at w ↦ rw (← c.u32_at.ensures, le-leb _ _ w.if-p-u32_at.true) (w.value-is ∙ le-leb _ _ w.if-p-u32_at.true)
      | else-p-u32_at w ↦ rw (← c.u32_at.ensures, ← w.u32_at-else-p-u32_at.ensures, lt-leb _ _ w.if-p-u32_at.false) w.value-is
    ] in
    rw c.u32_at-else-p-u32_at-2.ensures (rw (sym two ∙ c.if-p-u32_at-2.false) at (astray_is c.args.p file c.args.i))
