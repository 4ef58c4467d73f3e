-- `ply_file::far` meets its contract: its coordinates one after the other. Assumes nothing.
use mathlib.Core.Path.{◌≡◌, sym, ap, ◌∙◌}
use mathlib.Core.Bool.{true, false, not, ◌&&◌}
use Prim.Native.Nat.{◌+◌}
use Rattle.rules.specs.Refusal.{in_domain}
use Rattle.rules.specs.Ply.{real_at}
use Rattle.ply_file.proofs.Scanning.{far_is, inside}
use Rattle.ply_file.proofs.far.Goals as goal
use Rattle.ply_file.proofs.far.Goals.{then-in_domain, else-in_domain, then-in_domain-2, else-in_domain-2}

pub returns : goal.returns
returns c =
    let file = c.args.file.now in
    let i = c.args.i in
    let two : c.if-in_domain.value ≡ (in_domain (real_at file i) && in_domain (real_at file (i + 8))) =
    elim c.if-in_domain.branch [
      | then-in_domain w ↦ rw (inside true c.real_at.ensures c.in_domain.ensures w.if-in_domain.true)
          (w.value-is ∙ w.in_domain-then-in_domain.ensures ∙ ap in_domain w.real_at-then-in_domain.ensures)
      | else-in_domain w ↦ rw (inside false c.real_at.ensures c.in_domain.ensures w.if-in_domain.false) (w.value-is ∙ w.if-in_domain.false)
    ] in
    let three : c.if-in_domain-2.result ≡ ((in_domain (real_at file i) && in_domain (real_at file (i + 8))) && in_domain (real_at file (i + 16))) =
    elim c.if-in_domain-2.branch [
      | then-in_domain-2 w ↦ rw (sym two ∙ w.if-in_domain-2.true)
          (w.result-is ∙ w.in_domain-then-in_domain-2.ensures ∙ ap in_domain w.real_at-then-in_domain-2.ensures)
      | else-in_domain-2 w ↦ rw (sym two ∙ w.if-in_domain-2.false) (w.result-is ∙ w.if-in_domain-2.false)
    ] in
    ap not three ∙ far_is file i
