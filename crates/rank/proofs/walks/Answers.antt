-- `rank::walks` meets its contract. Assumes nothing.
use mathlib.Core.Path.{sym, ◌∙◌}
use mathlib.Core.Bool.{true≢false}
use mathlib.Core.List.{List}
use Prim.Native.Nat.{ℕ, ◌+◌, ◌*◌, ◌≤◌}
use native.Mathlib.Omega.{arith}
use lib.ListN.{length}
use Rattle.rules.specs.Steps.{step}
use Rattle.rank.specs.Ranks.{WalksAsks}
use Rattle.rank.proofs.RankLaws.{walks_flat, or_false}
use Rattle.rank.proofs.walks.Goals as goal
use Rattle.rank.proofs.walks.Goals.{then-same, else-same}

-- the face's three corners are in the list
in_list : {xs : List ℕ} {i : ℕ} → WalksAsks xs i → 3 * i + 3 ≤ length xs
in_list p = let w = p.whole in let h = p.here in omega arith

pub returns-then-same-2 : goal.returns-then-same-2
returns-then-same-2 c =
    rw (walks_flat c.args.faces.now c.args.i (step c.args.from c.args.to) (in_list c.requires), ← c.same.ensures)
    (elim c.if-same.branch [
      | then-same w ↦ rw (w.value-is, w.if-same.true)
      | else-same w ↦ rw (w.if-same.false, ← w.same-else-same.ensures, ← w.value-is, c.if-same-2.true)
    ])

pub returns-else-same-2 : goal.returns-else-same-2
returns-else-same-2 c =
    rw (walks_flat c.args.faces.now c.args.i (step c.args.from c.args.to) (in_list c.requires), ← c.same.ensures)
    (elim c.if-same.branch [
      | then-same w ↦ absurd (true≢false (sym w.if-same.true ∙ sym w.value-is ∙ c.if-same-2.false))
      | else-same w ↦ rw (w.if-same.false, ← w.same-else-same.ensures, ← w.value-is, c.if-same-2.false, ← c.same-else-same-2.ensures) (or_false c.same-else-same-2.result)
    ])
