-- What becomes of each face and point, as rows, and the lines of a mending list that they tell. Definitions only.
use Rattle.std.specs.Prelude.{ℕ, ◌+◌, ◌%◌, Bool, cond, List, [], ◌∷◌, ◌++◌, map, eqb, leb}
use Rattle.rules.specs.Lists.{below, each}
use Rattle.rules.specs.Mending.{Reason, Line, dropped_face, exchange, split_point, isolated_point, for_repeated, for_thin, for_duplicate, for_edge, for_direction}

-- The fate of an input face: 0 it stays, 1 to 5 it leaves for that reason; 8 more where its corners were exchanged. How many points were split
-- off; of the j-th of them the old point, and the input faces that take the new one. The points that are unused at the end.
pub record Fates : Type 0 where
  pub fate : ℕ → ℕ
  pub splits : ℕ
  pub old : ℕ → ℕ
  pub takers : ℕ → List ℕ
  pub unused : ℕ → Bool

-- the number of a reason
unfoldable pub code : Reason → ℕ
code for_repeated = 1
code for_thin = 2
code for_duplicate = 3
code for_edge = 4
code for_direction = 5

-- the line of a face, if it leaves for the reason
unfoldable pub drop_told : (ℕ → ℕ) → Reason → ℕ → List Line
drop_told fate why f = cond (eqb (fate f % 8) (code why)) (dropped_face f why ∷ []) []

-- the lines of the faces that leave for the reason
unfoldable pub drops_told : (ℕ → ℕ) → Reason → ℕ → List Line
drops_told fate why F = each (drop_told fate why) (below F)

-- pass 1 has two reasons, and tells both in one go
unfoldable pub first_told : (ℕ → ℕ) → ℕ → List Line
first_told fate F = each (λ f. drop_told fate for_repeated f ++ drop_told fate for_thin f) (below F)

-- the lines of the exchanges
unfoldable pub exchanges_told : (ℕ → ℕ) → ℕ → List Line
exchanges_told fate F = each (λ f. cond (leb 8 (fate f)) (exchange f ∷ []) []) (below F)

-- the lines of the splits, for P points of the input
unfoldable pub splits_told : ℕ → Fates → List Line
splits_told P t = map (λ j. split_point (t.old j) (P + j) (t.takers j)) (below t.splits)

-- the lines of the unused points
unfoldable pub unused_told : ℕ → Fates → List Line
unused_told P t = each (λ v. cond (t.unused v) (isolated_point v ∷ []) []) (below (P + t.splits))

-- all lines, for P points and F faces of the input
unfoldable pub told : ℕ → ℕ → Fates → List Line
told P F t =
    first_told t.fate F
    ++ drops_told t.fate for_duplicate F
    ++ drops_told t.fate for_edge F
    ++ exchanges_told t.fate F
    ++ drops_told t.fate for_direction F
    ++ splits_told P t
    ++ unused_told P t
