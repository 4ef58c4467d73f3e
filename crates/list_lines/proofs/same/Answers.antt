-- `list_lines::same` meets its contract: texts are equal byte by byte. Assumes nothing.
use mathlib.Core.Path.{◌≡◌, refl, ap, ◌∙◌}
use mathlib.Core.Bool.{Bool, ◌&&◌}
use mathlib.Core.List.{List, [], ◌∷◌}
use Prim.Native.Nat.{ℕ}
use lib.Dec.{eqb}
use lib.Pointwise.{pointwise}
use Rattle.rules.specs.Text.{equal}
use Rattle.list_lines.proofs.same.Goals as goal

alike : (xs ys : List ℕ) → pointwise eqb xs ys ≡ equal xs ys
unfolding equal
alike [] [] = refl
alike [] (y ∷ ys) = refl
alike (x ∷ xs) [] = refl
alike (x ∷ xs) (y ∷ ys) = ap (λ (t : Bool). eqb x y && t) (alike xs ys)

pub returns : goal.returns
returns c = c.eq.ensures ∙ alike c.args.field.now c.args.text.now
