-- The corners of a face list by their numbers: corner 3 * i + k is corner k of face i. Definitions only.
use Rattle.std.specs.Prelude.{ℕ, zero, suc, ◌+◌, ◌*◌, ◌/◌, Bool, ◌&&◌, cond, List, length, get_or, drop, eqb, ltb}
use Rattle.rules.specs.Lists.{below, filter, count}
use Rattle.rules.specs.Mesh.{Face, face, flat_faces}
use Rattle.rules.specs.Groups.{leads}
use Rattle.rules.specs.Pass5.{share, fans}
use Rattle.rule_laws.proofs.Splitting.{target}

-- the point at a corner
unfoldable pub corner_at : List Face → ℕ → ℕ
corner_at fs id = get_or (flat_faces fs) id 0

-- two corners are joined: they are at one point, and their faces share another one
unfoldable pub joined_at : List Face → ℕ → ℕ → Bool
joined_at fs x y = eqb (corner_at fs x) (corner_at fs y) && share (corner_at fs x) (face fs (x / 3)) (face fs (y / 3))

-- the corners at v, in face order
unfoldable pub corners_at : List Face → ℕ → List ℕ
corners_at fs v = filter (λ id. eqb (corner_at fs id) v) (below (3 * length fs))

-- the j-th corner at v stands first in a group that is not the first one
unfoldable pub extra : List Face → ℕ → ℕ → Bool
extra fs v j = ltb 0 j && leads (joined_at fs) (3 * length fs) (get_or (corners_at fs v) j 0)

-- how many groups at v are split off
unfoldable pub extras : List Face → ℕ → ℕ
extras fs v = count (extra fs v) (below (length (corners_at fs v)))

-- the number of the group that the j-th corner at v leads, where `next` is the first new one
unfoldable pub number_at : List Face → ℕ → ℕ → ℕ → ℕ
number_at fs v next j = cond (extra fs v j) (next + count (extra fs v) (below j)) v

-- how many points there are when the groups at the points below v have been split off, where there are P at first
unfoldable pub base : List Face → ℕ → ℕ → ℕ
base fs P zero = P
base fs P (suc v) = base fs P v + extras fs v

-- the number that face i has for x after the pass
unfoldable pub goal_of : List Face → ℕ → ℕ → ℕ → ℕ
goal_of fs P i x = target x (base fs P x) (drop 1 (fans fs x)) i
