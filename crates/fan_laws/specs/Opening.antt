-- The corners that lead a group which is not the first one of its point: pass 5 splits one point off for each. Definitions only.
use Rattle.std.specs.Prelude.{ℕ, ◌+◌, ◌*◌, ◌/◌, Bool, not, ◌&&◌, ◌||◌, cond, List, map, length, eqb, ltb}
use Rattle.rules.specs.Lists.{below, filter, count, any, each, has}
use Rattle.rules.specs.Mesh.{Face, face}
use Rattle.rules.specs.Groups.{group, leads}
use Rattle.splitting.specs.Corners.{corner_at, joined_at, base}
use Rattle.fan_laws.specs.Sums.{sum_of, field}

-- a corner before corner id is at v
unfoldable pub met : List Face → ℕ → ℕ → Bool
met fs v id = any (λ y. eqb (corner_at fs y) v) (below id)

-- corner id leads its group, which is not the first one of its point
unfoldable pub opens : List Face → ℕ → Bool
opens fs id = met fs (corner_at fs id) id && leads (joined_at fs) (3 * length fs) id

-- it does so at v
unfoldable pub opens_at : List Face → ℕ → ℕ → Bool
opens_at fs v id = eqb (corner_at fs id) v && opens fs id

-- these corners in the order of the new points, for P points at first
unfoldable pub openers : List Face → ℕ → List ℕ
openers fs P = each (λ v. filter (opens_at fs v) (below (3 * length fs))) (below P)

-- how many of them stand before corner id in that order
unfoldable pub rank : List Face → ℕ → ℕ
rank fs id = base fs 0 (corner_at fs id) + count (opens_at fs (corner_at fs id)) (below id)

-- a face with three equal corners
unfoldable pub single : Face → Bool
single f = eqb f.a f.b && eqb f.b f.c

-- the corner by whose number a face with three equal corners is renamed
unfoldable pub giver : List Face → ℕ → ℕ
giver fs i = cond (opens fs (3 * i)) (3 * i) (3 * i + 1)

-- face i has a corner in the group of corner id
unfoldable pub is_in_group : List Face → ℕ → ℕ → Bool
is_in_group fs id i = has i (map (λ y. y / 3) (group (joined_at fs) (3 * length fs) id))

-- face i takes the point that is split off for corner id
unfoldable pub takes : List Face → ℕ → ℕ → Bool
takes fs id i = cond (single (face fs i)) (eqb id (giver fs i)) (is_in_group fs id i)

-- the bytes of the line for corner id, but for the new point's number
unfoldable pub weight : List Face → ℕ → ℕ
weight fs id = 2 + field (corner_at fs id) + sum_of (λ i. field (face fs i).origin) (filter (takes fs id) (below (length fs)))

-- no face takes the point that is split off for corner id: its face has three equal corners and takes another
unfoldable pub lost : List Face → ℕ → Bool
lost fs id = single (face fs (id / 3)) && not (eqb id (giver fs (id / 3)))

-- the first corner at v is one of a face with different corners
unfoldable pub kept : List Face → ℕ → Bool
kept fs v = any (λ id. eqb (corner_at fs id) v && (not (met fs v id) && not (single (face fs (id / 3))))) (below (3 * length fs))

-- corner y comes before corner id in the order of points, and of corners at one point
unfoldable pub before : List Face → ℕ → ℕ → Bool
before fs y id = ltb (corner_at fs y) (corner_at fs id) || (eqb (corner_at fs y) (corner_at fs id) && ltb y id)

-- corner id is the first at its point, and its face has different corners
unfoldable pub keeps : List Face → ℕ → Bool
keeps fs id = not (met fs (corner_at fs id) id) && not (single (face fs (id / 3)))
