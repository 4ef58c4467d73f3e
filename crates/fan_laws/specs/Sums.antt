-- Sums over lists, and the length of a field of a line. Definitions only.
use Rattle.std.specs.Prelude.{ℕ, suc, ◌+◌, List, [], ◌∷◌, length}
use Rattle.rules.specs.Line.{decimal}

-- what g makes of the members, added up
unfoldable pub sum_of : {A : Type 0} → (A → ℕ) → List A → ℕ
sum_of g [] = 0
sum_of g (x ∷ xs) = g x + sum_of g xs

-- the bytes of a tab and a number
unfoldable pub field : ℕ → ℕ
field n = suc (length (decimal n))
