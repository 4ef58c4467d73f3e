-- The points that pass 5 splits off, in the order of their numbers: the old point of each, and the faces that take it. Definitions only.
use Rattle.std.specs.Prelude.{ℕ, List, map, length, get_or, replicate}
use Rattle.rules.specs.Lists.{below, filter, each, has}
use Rattle.rules.specs.Mesh.{Face, face, corners}
use Rattle.splitting.specs.Corners.{extras}

-- the old points of those that are split off at the points below k: v once for each group at v but the first
unfoldable pub olds_to : List Face → ℕ → List ℕ
olds_to fs k = each (λ v. replicate (extras fs v) v) (below k)

-- the old point of the j-th of all, where there are P points at first
unfoldable pub old_of : List Face → ℕ → ℕ → ℕ
old_of fs P j = get_or (olds_to fs P) j 0

-- the origins of those faces fs that have the point p when they are gs
unfoldable pub takers_of : List Face → List Face → ℕ → List ℕ
takers_of fs gs p = map (λ i. (face fs i).origin) (filter (λ i. has p (corners (face gs i))) (below (length fs)))
