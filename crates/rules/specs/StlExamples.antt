-- Request 1: files of a few facets, read, and refused; each computed.
use Rattle.std.specs.Prelude.{◌≡◌, refl, List, [], ◌∷◌, ◌++◌, map, ℕ, ◌+◌, ◌*◌, ◌/◌, ◌%◌, replicate}
use Rattle.std.specs.Float.{binary64}
use Rattle.std.specs.Float.Ieee.{to_bits}
use Rattle.rules.specs.Lists.{each}
use Rattle.rules.specs.Mesh.{zero64}
use Rattle.rules.specs.Float.{one64}
use Rattle.rules.specs.Rooms.{Answer, accepted, refused}
use Rattle.rules.specs.Line.{bytes}
use Rattle.rules.specs.Stl.{read_stl}
use Rattle.rules.specs.Open.{every_rule}
use Rattle.rules.specs.Bench.{Row}

-- ---- what an example looks at

-- a u32 as four bytes, the lowest first
four : ℕ → List ℕ
four n = n % 256 ∷ n / 256 % 256 ∷ n / 65536 % 256 ∷ n / 16777216 ∷ []

-- a facet from the bits of its corners' nine f32: its normal is three NaNs, its attribute bytes are 7 and 9
facet : List ℕ → List ℕ
facet corners = replicate 12 255 ++ each four corners ++ (7 ∷ 9 ∷ [])

-- a file of F facets, whose header holds 115 in every byte
file_of : ℕ → List ℕ → List ℕ
file_of F body = replicate 80 115 ++ four F ++ body

-- an answer: the entries that stand in each room; or the number and the place
answered : Answer → List ℕ
answered (accepted entries) = entries
answered (refused number place) = number ∷ place ∷ []

-- a file read with rooms of one entry more than stated for F facets, that each hold 1 or 7: the answer, the bits of the points, the faces, the work room's length and what it holds at its end
reading : ℕ → List ℕ → List (List ℕ)
reading F file =
    let o = read_stl file (record { points = replicate (9 * F + 1) one64; faces = replicate (3 * F + 1) 7; work = replicate (64 * F + 65) 7 }) in
    answered o.answer ∷ map (to_bits binary64) o.rooms.points ∷ o.rooms.faces ∷ o.rooms.work ∷ []

-- only the answer of it
answering : ℕ → List ℕ → List (List ℕ)
answering F file =
    answered (read_stl file (record { points = replicate (9 * F) one64; faces = replicate (3 * F) 7; work = replicate (64 * F + 64) 7 })).answer ∷ []

-- the bits of some f32

-- 1
one32 : ℕ
one32 = 0x3f80_0000

-- 2
two32 : ℕ
two32 = 0x4000_0000

-- 2^-149
least32 : ℕ
least32 = 1

-- 2^100
far32 : ℕ
far32 = 0x7180_0000

-- the next f32 above it
too_far32 : ℕ
too_far32 = 0x7180_0001

-- -infinity
infinite32 : ℕ
infinite32 = 0xff80_0000

-- a NaN
nan32 : ℕ
nan32 = 0x7fc0_0001

-- -0
minus32 : ℕ
minus32 = 0x8000_0000

-- two facets (0,0,0) (1,0,0) (0,1,0) and (1,0,0) (0,0,0) (0,-0,2), that share an edge
two_facets : List ℕ
two_facets =
    facet (0 ∷ 0 ∷ 0 ∷ one32 ∷ 0 ∷ 0 ∷ 0 ∷ one32 ∷ 0 ∷ [])
    ++ facet (one32 ∷ 0 ∷ 0 ∷ 0 ∷ 0 ∷ 0 ∷ 0 ∷ minus32 ∷ two32 ∷ [])

-- a facet with corners (-0,+0,2^-149) (+0,-0,2^-149) (+0,+0,2^-149)
zeros : List ℕ
zeros = facet (minus32 ∷ 0 ∷ least32 ∷ 0 ∷ minus32 ∷ least32 ∷ 0 ∷ 0 ∷ least32 ∷ [])

-- a facet whose one corner has the given coordinate
with_last : ℕ → List ℕ
with_last x = facet (0 ∷ 0 ∷ 0 ∷ 0 ∷ 0 ∷ 0 ∷ 0 ∷ x ∷ 0 ∷ [])

-- ---- the examples

-- one example: what the rules give, and what is stated
row : List (List ℕ) → List (List ℕ) → Row
row found stated = record { found = found; stated = stated }

-- files that are read
pub stl_answers : List Row
stl_answers =
    -- no facet: no point, and of the rooms only the work room is cleared
    row (reading 0 (file_of 0 [])) ((0 ∷ 0 ∷ []) ∷ (0x3ff0_0000_0000_0000 ∷ []) ∷ (7 ∷ []) ∷ (replicate 64 0 ++ (7 ∷ [])) ∷ [])
    -- two facets that share an edge: four points, numbered by first appearance; the rest of each stated room is zero, and what lies beyond is unchanged
    ∷ row (reading 2 (file_of 2 two_facets))
    ((12 ∷ 6 ∷ [])
    ∷ (0 ∷ 0 ∷ 0 ∷ 0x3ff0_0000_0000_0000 ∷ 0 ∷ 0 ∷ 0 ∷ 0x3ff0_0000_0000_0000 ∷ 0 ∷ 0 ∷ 0x8000_0000_0000_0000 ∷ 0x4000_0000_0000_0000
    ∷ 0 ∷ 0 ∷ 0 ∷ 0 ∷ 0 ∷ 0 ∷ 0x3ff0_0000_0000_0000 ∷ [])
    ∷ (0 ∷ 1 ∷ 2 ∷ 1 ∷ 0 ∷ 3 ∷ 7 ∷ []) ∷ (replicate 192 0 ++ (7 ∷ [])) ∷ [])
    -- both zeros are equal: one point, with the bits that appear first; the smallest f32 is widened exactly
    ∷ row (reading 1 (file_of 1 zeros))
    ((3 ∷ 3 ∷ [])
    ∷ (0x8000_0000_0000_0000 ∷ 0 ∷ 0x36a0_0000_0000_0000 ∷ 0 ∷ 0 ∷ 0 ∷ 0 ∷ 0 ∷ 0 ∷ 0x3ff0_0000_0000_0000 ∷ [])
    ∷ (0 ∷ 0 ∷ 0 ∷ 7 ∷ []) ∷ (replicate 128 0 ++ (7 ∷ [])) ∷ [])
    -- 2^100 passes
    ∷ row (answering 1 (file_of 1 (with_last far32))) ((6 ∷ 3 ∷ []) ∷ [])
    ∷ []

-- each stands there
pub stl_answered : map (λ r. r.found) stl_answers ≡ map (λ r. r.stated) stl_answers
unfolding stl_answers row reading answering answered file_of facet four two_facets zeros with_last one32 two32 least32 far32 minus32 every_rule
stl_answered = refl

-- files that are refused
pub stl_refusals : List Row
stl_refusals =
    -- 12: the empty file, 83 bytes, a byte more than 84, a count that is one too large, a text
    row (answering 0 []) ((12 ∷ 0 ∷ []) ∷ [])
    ∷ row (answering 0 (replicate 83 0)) ((12 ∷ 0 ∷ []) ∷ [])
    ∷ row (answering 0 (replicate 85 0)) ((12 ∷ 0 ∷ []) ∷ [])
    ∷ row (answering 2 (file_of 3 two_facets)) ((12 ∷ 0 ∷ []) ∷ [])
    ∷ row (answering 1 (bytes "solid cube\n facet normal 0 0 1\n  outer loop\n   vertex 0 0 0\n   vertex 1 0 0\n   vertex 0 1 0\n  endloop\n endfacet\nendsolid cube\n")) ((12 ∷ 0 ∷ []) ∷ [])
    -- 12 before 2: a count whose file would be of 200 GB; a refusal changes nothing
    ∷ row (reading 0 (file_of 4294967295 [])) ((12 ∷ 0 ∷ []) ∷ (0x3ff0_0000_0000_0000 ∷ []) ∷ (7 ∷ []) ∷ replicate 65 7 ∷ [])
    -- 4, before 6, at the first such corner: corner 2 of facet 1 is corner 5 of the file
    ∷ row (answering 0 (file_of 2 (zeros ++ with_last nan32))) ((4 ∷ 5 ∷ []) ∷ [])
    ∷ row (answering 0 (file_of 2 (with_last infinite32 ++ with_last nan32))) ((4 ∷ 2 ∷ []) ∷ [])
    ∷ row (answering 0 (file_of 1 (with_last too_far32))) ((4 ∷ 2 ∷ []) ∷ [])
    -- 6: points, faces, work, each one short; `answering` brings rooms exactly as long as stated
    ∷ row (answered (read_stl (file_of 1 zeros) (record { points = replicate 8 zero64; faces = replicate 3 0; work = replicate 128 0 })).answer ∷ []) ((6 ∷ 0 ∷ []) ∷ [])
    ∷ row (answering 0 (file_of 1 zeros)) ((6 ∷ 0 ∷ []) ∷ [])
    ∷ row (answered (read_stl (file_of 1 zeros) (record { points = replicate 9 zero64; faces = replicate 2 0; work = [] })).answer ∷ []) ((6 ∷ 1 ∷ []) ∷ [])
    ∷ row (answered (read_stl (file_of 1 zeros) (record { points = replicate 9 zero64; faces = replicate 3 0; work = replicate 127 0 })).answer ∷ []) ((6 ∷ 2 ∷ []) ∷ [])
    ∷ []

-- each has its number and place
pub stl_refused : map (λ r. r.found) stl_refusals ≡ map (λ r. r.stated) stl_refusals
unfolding stl_refusals row reading answering answered file_of facet four two_facets zeros with_last one32 two32 least32 too_far32 infinite32 nan32 minus32 every_rule
stl_refused = refl
