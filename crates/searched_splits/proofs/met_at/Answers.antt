-- `searched_splits::met_at` meets its contract: a face before, or a corner before. Assumes nothing.
use mathlib.Core.Path.{sym, ap, ◌∙◌}
use mathlib.Core.Bool.{Bool, ◌||◌}
use Rattle.face_words.specs.Words.{view}
use Rattle.searched_splits.specs.Splits.{earlier_in, met_at}
use Rattle.searched_splits.proofs.met_at.Goals as goal

-- src/lib.rt:111:9
pub returns-then-met : goal.returns-then-met
unfolding met_at
returns-then-met c = let f = view c.args.faces.now c.args.words.now c.args.f in
    ap (λ (b : Bool). b || earlier_in f.a f.b c.args.k c.args.v) (sym c.if-met.true ∙ c.met.ensures)

-- src/lib.rt:106:1
pub returns : goal.returns
unfolding met_at
returns c = c.earlier.ensures
    ∙ ap (λ f. earlier_in f.a f.b c.args.k c.args.v) c.view-c.ensures
    ∙ ap (λ (b : Bool). b || earlier_in (view c.args.faces.now c.args.words.now c.args.f).a (view c.args.faces.now c.args.words.now c.args.f).b c.args.k c.args.v) (sym c.if-met.false ∙ c.met.ensures)
