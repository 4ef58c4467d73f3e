-- `searched_ranks::rank_corner` meets its contract, test after test. Assumes nothing.
use mathlib.Core.Path.{sym, ap, ◌∙◌}
use mathlib.Core.Bool.{true, false}
use Prim.Native.Nat.{◌+◌, ◌*◌}
use Rattle.face_words.specs.Words.{view}
use Rattle.searched_splits.proofs.Reading.{corner_picked}
use Rattle.searched_ranks.specs.Ranks.{before_in}
use Rattle.searched_ranks.proofs.Counting.{unmarked, by_order}
use Rattle.searched_ranks.proofs.rank_corner.Goals as goal

-- src/lib.rt:47:9
pub returns-then-not-marked : goal.returns-then-not-marked
returns-then-not-marked c = unmarked c.args.faces.now c.args.words.now c.args.v c.args.id c.args.g c.args.j (sym c.marked.ensures ∙ c.if-not-marked.true)

-- src/lib.rt:51:9
pub returns-then-comes_before : goal.returns-then-comes_before
returns-then-comes_before c = let p = c.args in
    by_order p.faces.now p.words.now p.v p.id p.g p.j true (sym c.marked.ensures ∙ c.if-not-marked.false)
    (ap (λ x. before_in x p.v (3 * p.g + p.j) p.id) (sym (c.corner.ensures ∙ corner_picked (view p.faces.now p.words.now p.g) p.j c.requires.corner)) ∙ sym c.comes_before.ensures ∙ c.if-comes_before.true)

-- src/lib.rt:35:1
pub returns : goal.returns
returns c = let p = c.args in
    by_order p.faces.now p.words.now p.v p.id p.g p.j false (sym c.marked.ensures ∙ c.if-not-marked.false)
    (ap (λ x. before_in x p.v (3 * p.g + p.j) p.id) (sym (c.corner.ensures ∙ corner_picked (view p.faces.now p.words.now p.g) p.j c.requires.corner)) ∙ sym c.comes_before.ensures ∙ c.if-comes_before.false)
