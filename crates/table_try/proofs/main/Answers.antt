-- `table_try::main` meets what its calls ask: antt computes the faces' corners. Assumes nothing.
use mathlib.Core.Path.{◌≡◌, refl}
use mathlib.Core.Bool.{true}
use mathlib.Core.List.{List}
use Prim.Native.Nat.{ℕ}
use native.Mathlib.Omega.{arith}
use lib.ListN.{length}
use borrow.Author.Rules.{rules}
use Rattle.table.specs.Table.{TableAsks}
use Rattle.table_try.proofs.Bounded.{within, bounded}
use Rattle.table_try.proofs.main.Goals as goal

-- a room of 52 entries is enough for three faces over four points
ready : (w xs : List ℕ) → length w ≡ 52 → length xs ≡ 9 → within xs 9 4 ≡ true → TableAsks w xs 4 1
ready w xs l k e =
    record { whole = rw k refl; few = omega arith; fit = omega arith; inside = λ i h. bounded xs 9 4 e i (omega arith) }

pub tabled-requires : goal.tabled-requires
tabled-requires c = ready _ _ refl refl refl

pub tabled-requires-2 : goal.tabled-requires-2
tabled-requires-2 c = ready _ _ (search rules) refl refl
