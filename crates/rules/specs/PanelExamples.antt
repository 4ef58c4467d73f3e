-- Request 9: packs of meshes, mended and refused, each computed. Rooms hold something, and where a call is accepted they are one entry too long. The sizes
-- are written here as numbers, not taken from the rules.
use Rattle.std.specs.Prelude.{◌≡◌, refl, List, [], ◌∷◌, ◌++◌, ℕ, length, replicate}
use Rattle.std.specs.Float.{binary64}
use Rattle.std.specs.Float.Ieee.{of_bits}
use Rattle.rules.specs.Bench.{Row}
use Rattle.rules.specs.Calls.{PanelRooms, repair_panel}
use Rattle.rules.specs.CallRows.{row, faults, said, floats, bits_of, dirty, dirt, left, legs, every_word}
use Rattle.rules.specs.Open.{every_rule}

-- a pack by its points, faces, point counts, face counts, threshold and options, in rooms of the given lengths: the answer and every room
packing : List ℕ → List ℕ → List ℕ → List ℕ → ℕ → ℕ → ℕ → ℕ → ℕ → ℕ → ℕ → ℕ → List (List ℕ)
packing points faces ps fs s options a b c d e f =
    let lent : PanelRooms = record { out_points = dirty a; out_faces = replicate b 7; report = replicate c 7; origins = replicate d 7; meshes = replicate e 7; work = replicate f 7 } in
    let o = repair_panel (floats points) faces ps fs (of_bits binary64 s) options lent in
    said o.answer
    ∷ bits_of o.rooms.out_points ∷ o.rooms.out_faces ∷ o.rooms.report ∷ o.rooms.origins ∷ o.rooms.meshes ∷ o.rooms.work ∷ []

-- what stands in rooms one entry longer than stated: the stated lengths, then the answers
packed_to : ℕ → ℕ → ℕ → ℕ → ℕ → ℕ → List ℕ → List ℕ → List ℕ → List ℕ → List ℕ → List (List ℕ)
packed_to a b c d e f points faces counts origins meshes =
    (length points ∷ length faces ∷ length counts ∷ length origins ∷ length meshes ∷ [])
    ∷ left a dirt points ∷ left b 7 faces ∷ left c 7 counts ∷ left d 7 origins ∷ left e 7 meshes ∷ left f 7 [] ∷ []

-- the threshold 2^-10
low : ℕ
low = 0x3f50_0000_0000_0000

-- not a number
nan : ℕ
nan = 0x7ff8_0000_0000_0000

-- the report of one crowded edge, and of one crowded edge with one face dropped there
crowded : ℕ → List ℕ
crowded dropped = 0 ∷ 0 ∷ 0 ∷ 1 ∷ dropped ∷ 0 ∷ 0 ∷ 0 ∷ 0 ∷ 0 ∷ 0 ∷ []

-- the unit legs' three faces on one edge
on_one_edge : List ℕ
on_one_edge = 0 ∷ 1 ∷ 2 ∷ 0 ∷ 1 ∷ 3 ∷ 0 ∷ 1 ∷ 4 ∷ []

-- packs that are accepted
pub packs : List Row
packs =
    -- a face 0 0 0, a corner that is no point, the legs: the second gives nothing but its number and place, and no gap is left where it stood
    row (packing (replicate 6 0 ++ legs) (0 ∷ 0 ∷ 0 ∷ 0 ∷ 0 ∷ 1 ∷ on_one_edge) (1 ∷ 1 ∷ 5 ∷ []) (1 ∷ 1 ∷ 3 ∷ []) low 4 67 16 34 6 13 337)
    (packed_to 66 15 33 5 12 336
    (0 ∷ 0 ∷ 0 ∷ legs) (0 ∷ 0 ∷ 0 ∷ 0 ∷ 1 ∷ 2 ∷ 0 ∷ 1 ∷ 3 ∷ []) (crowded 0 ++ crowded 1) (0 ∷ 0 ∷ 1 ∷ []) (0 ∷ 0 ∷ 1 ∷ 1 ∷ 5 ∷ 0 ∷ 0 ∷ 0 ∷ 0 ∷ 0 ∷ 5 ∷ 2 ∷ []))
    -- the first is refused, by its second point, and the last, by its second face
    ∷ row (packing (0 ∷ 0 ∷ 0 ∷ nan ∷ 0 ∷ 0 ∷ replicate 6 0) (1 ∷ 1 ∷ 1 ∷ 0 ∷ 0 ∷ 0 ∷ 0 ∷ 0 ∷ 0 ∷ 0 ∷ 0 ∷ 1 ∷ []) (2 ∷ 1 ∷ 1 ∷ []) (1 ∷ 1 ∷ 2 ∷ []) 0 63 49 13 34 5 13 209)
    (packed_to 48 12 33 4 12 208 [] [] (1 ∷ 0 ∷ 0 ∷ 0 ∷ 0 ∷ 0 ∷ 0 ∷ 0 ∷ 0 ∷ 0 ∷ 1 ∷ []) [] (4 ∷ 1 ∷ 0 ∷ 0 ∷ 0 ∷ 0 ∷ 0 ∷ 0 ∷ 5 ∷ 1 ∷ 0 ∷ 0 ∷ []))
    -- all are refused: nothing but numbers and places
    ∷ row (packing (0 ∷ 0 ∷ nan ∷ []) (0 ∷ 0 ∷ 0 ∷ []) (1 ∷ 0 ∷ []) (0 ∷ 1 ∷ []) 0 63 13 4 23 2 9 129)
    (packed_to 12 3 22 1 8 128 [] [] [] [] (4 ∷ 0 ∷ 0 ∷ 0 ∷ 5 ∷ 0 ∷ 0 ∷ 0 ∷ []))
    -- no mesh: nothing is stated, and nothing is changed
    ∷ row (packing [] [] [] [] 0 0 1 1 1 1 1 1)
    (packed_to 0 0 0 0 0 0 [] [] [] [] [])
    -- a mesh of no points and no faces contributes eleven zeros and four
    ∷ row (packing [] [] (0 ∷ 0 ∷ []) (0 ∷ 0 ∷ []) 0 63 1 1 23 1 9 65)
    (packed_to 0 0 22 0 8 64 [] [] (replicate 22 0) [] (replicate 8 0))
    -- one mesh: two faces that meet in a point; the sixth point is its copy
    ∷ row (packing legs (0 ∷ 1 ∷ 2 ∷ 0 ∷ 3 ∷ 4 ∷ []) (5 ∷ []) (2 ∷ []) low 63 34 7 12 3 5 273)
    (packed_to 33 6 11 2 4 272
    (legs ++ (0 ∷ 0 ∷ 0 ∷ [])) (0 ∷ 1 ∷ 2 ∷ 5 ∷ 3 ∷ 4 ∷ []) (0 ∷ 0 ∷ 0 ∷ 0 ∷ 0 ∷ 0 ∷ 1 ∷ 1 ∷ 0 ∷ 0 ∷ 0 ∷ []) (0 ∷ 1 ∷ []) (0 ∷ 0 ∷ 6 ∷ 2 ∷ []))
    -- the same mesh twice: corners and origins count from 0 in each
    ∷ row (packing (legs ++ legs) (on_one_edge ++ on_one_edge) (5 ∷ 5 ∷ []) (3 ∷ 3 ∷ []) low 63 85 19 23 7 9 337)
    (packed_to 84 18 22 6 8 336
    (0 ∷ 0 ∷ 0 ∷ 0x3ff0_0000_0000_0000 ∷ 0 ∷ 0 ∷ 0 ∷ 0x3ff0_0000_0000_0000 ∷ 0 ∷ 0 ∷ 0xbff0_0000_0000_0000 ∷ 0
    ∷ 0 ∷ 0 ∷ 0 ∷ 0x3ff0_0000_0000_0000 ∷ 0 ∷ 0 ∷ 0 ∷ 0x3ff0_0000_0000_0000 ∷ 0 ∷ 0 ∷ 0xbff0_0000_0000_0000 ∷ 0 ∷ [])
    (0 ∷ 1 ∷ 2 ∷ 0 ∷ 3 ∷ 1 ∷ 0 ∷ 1 ∷ 2 ∷ 0 ∷ 3 ∷ 1 ∷ [])
    (0 ∷ 0 ∷ 0 ∷ 1 ∷ 1 ∷ 0 ∷ 0 ∷ 0 ∷ 1 ∷ 0 ∷ 1 ∷ 0 ∷ 0 ∷ 0 ∷ 1 ∷ 1 ∷ 0 ∷ 0 ∷ 0 ∷ 1 ∷ 0 ∷ 1 ∷ [])
    (0 ∷ 1 ∷ 0 ∷ 1 ∷ []) (0 ∷ 0 ∷ 4 ∷ 2 ∷ 0 ∷ 0 ∷ 4 ∷ 2 ∷ []))
    -- as many meshes as may be; -0 keeps its bits
    ∷ row (packing (0x8000_0000_0000_0000 ∷ 0 ∷ 0 ∷ []) [] (replicate 255 0 ++ (1 ∷ [])) (replicate 256 0) 0 0 4 1 2817 1 1025 81)
    (packed_to 3 0 2816 0 1024 80 (0x8000_0000_0000_0000 ∷ 0 ∷ 0 ∷ []) [] (replicate 2816 0) [] (replicate 1022 0 ++ (1 ∷ 0 ∷ [])))
    ∷ []

-- each is so
pub packs_so : faults packs ≡ []
unfolding packs packing packed_to low nan crowded on_one_edge every_word every_rule
packs_so = refl

-- number n with place p, and the rooms as they were
packs_kept : ℕ → ℕ → ℕ → ℕ → ℕ → ℕ → ℕ → ℕ → List (List ℕ)
packs_kept n p a b c d e f =
    (n ∷ p ∷ []) ∷ replicate a dirt ∷ replicate b 7 ∷ replicate c 7 ∷ replicate d 7 ∷ replicate e 7 ∷ replicate f 7 ∷ []

-- two meshes, of nine points and of one point with one face: the first has the larger work room, 208, and the second the faces
two : ℕ → ℕ → ℕ → ℕ → ℕ → ℕ → List (List ℕ)
two a b c d e f = packing (replicate 30 0) (0 ∷ 0 ∷ 0 ∷ []) (9 ∷ 1 ∷ []) (0 ∷ 1 ∷ []) 0 0 a b c d e f

-- refusals of the whole call
pub panel_refusals : List Row
panel_refusals =
    -- each room one short of what is stated for them; of two short rooms the first
    row (two 38 3 22 1 8 208) (packs_kept 6 0 38 3 22 1 8 208)
    ∷ row (two 39 2 22 1 8 208) (packs_kept 6 1 39 2 22 1 8 208)
    ∷ row (two 39 3 21 1 8 208) (packs_kept 6 2 39 3 21 1 8 208)
    ∷ row (two 39 3 22 0 8 208) (packs_kept 6 3 39 3 22 0 8 208)
    ∷ row (two 39 3 22 1 7 208) (packs_kept 6 4 39 3 22 1 7 208)
    ∷ row (two 39 3 22 1 8 207) (packs_kept 6 5 39 3 22 1 8 207)
    ∷ row (two 39 3 22 0 7 0) (packs_kept 6 3 39 3 22 0 7 0)
    -- a mesh that is refused by itself counts in the sums, and is not looked at before 6: a coordinate and a corner
    ∷ row (packing (nan ∷ 0 ∷ 0 ∷ []) (0 ∷ 0 ∷ 1 ∷ []) (1 ∷ []) (1 ∷ []) 0 0 11 3 11 1 4 144) (packs_kept 6 0 11 3 11 1 4 144)
    ∷ row (packing (nan ∷ 0 ∷ 0 ∷ []) (0 ∷ 0 ∷ 1 ∷ []) (1 ∷ 0 ∷ []) (0 ∷ 1 ∷ []) 0 0 12 3 22 1 8 127) (packs_kept 6 5 12 3 22 1 8 127)
    -- rows that differ in length, each the longer one, though the sums are right; before the sums
    ∷ row (packing [] [] (0 ∷ 0 ∷ []) (0 ∷ []) 0 0 0 0 0 0 0 0) (packs_kept 1 0 0 0 0 0 0 0)
    ∷ row (packing [] [] (0 ∷ []) (0 ∷ 0 ∷ []) 0 0 0 0 0 0 0 0) (packs_kept 1 0 0 0 0 0 0 0)
    ∷ row (packing [] (0 ∷ 0 ∷ 0 ∷ []) [] (0 ∷ []) 0 0 0 0 0 0 0 0) (packs_kept 1 0 0 0 0 0 0 0)
    -- points that are one point more or fewer, or end within one; faces; both
    ∷ row (packing (replicate 6 0) [] (1 ∷ []) (0 ∷ []) 0 0 0 0 0 0 0 0) (packs_kept 1 0 0 0 0 0 0 0)
    ∷ row (packing (replicate 3 0) [] (1 ∷ 1 ∷ []) (0 ∷ 0 ∷ []) 0 0 0 0 0 0 0 0) (packs_kept 1 0 0 0 0 0 0 0)
    ∷ row (packing (replicate 4 0) [] (1 ∷ []) (0 ∷ []) 0 0 0 0 0 0 0 0) (packs_kept 1 0 0 0 0 0 0 0)
    ∷ row (packing (replicate 3 0) (0 ∷ 0 ∷ 0 ∷ []) (1 ∷ []) (0 ∷ []) 0 0 0 0 0 0 0 0) (packs_kept 1 1 0 0 0 0 0 0)
    ∷ row (packing (replicate 3 0) (0 ∷ 0 ∷ []) (1 ∷ []) (1 ∷ []) 0 0 0 0 0 0 0 0) (packs_kept 1 1 0 0 0 0 0 0)
    ∷ row (packing [] [] (1 ∷ []) (1 ∷ []) 0 0 0 0 0 0 0 0) (packs_kept 1 0 0 0 0 0 0 0)
    -- three times 1431655766 is 2 in 32 bits
    ∷ row (packing (0 ∷ 0 ∷ []) [] (1431655766 ∷ []) (0 ∷ []) 0 0 0 0 0 0 0 0) (packs_kept 1 0 0 0 0 0 0 0)
    ∷ row (packing [] (0 ∷ 0 ∷ []) (0 ∷ []) (1431655766 ∷ []) 0 0 0 0 0 0 0 0) (packs_kept 1 1 0 0 0 0 0 0)
    -- 1 before 2; 2 from both sides, and before 3; 3 before 6, also where there is no mesh; the threshold before the options
    ∷ row (packing [] (0 ∷ 0 ∷ 0 ∷ []) (replicate 257 0) (replicate 257 0) nan 64 0 0 0 0 0 0) (packs_kept 1 1 0 0 0 0 0 0)
    ∷ row (packing [] [] (replicate 257 0) (replicate 257 0) nan 64 0 0 0 0 0 0) (packs_kept 2 0 0 0 0 0 0 0)
    ∷ row (packing [] [] (replicate 256 0) (replicate 256 0) 0 0 0 0 0 0 0 0) (packs_kept 6 2 0 0 0 0 0 0)
    ∷ row (packing [] [] (0 ∷ []) (0 ∷ []) nan 64 0 0 0 0 0 0) (packs_kept 3 0 0 0 0 0 0 0)
    ∷ row (packing [] [] [] [] 0 64 0 0 0 0 0 0) (packs_kept 3 1 0 0 0 0 0 0)
    ∷ []

-- each is so
pub panel_refused_so : faults panel_refusals ≡ []
unfolding panel_refusals packing packs_kept two nan every_word every_rule
panel_refused_so = refl
