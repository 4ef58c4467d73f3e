-- What the tables of a call share: each call in rooms of one entry more than stated, that all hold something, and what must then stand in them.
-- The sizes are written here as the documents have them, not taken from the rules.
use Rattle.std.specs.Prelude.{List, [], ◌∷◌, ◌++◌, map, ℕ, ◌+◌, ◌-◌, ◌*◌, ◌/◌, length, replicate, Float}
use Rattle.std.specs.Float.{binary64}
use Rattle.std.specs.Float.Ieee.{of_bits, to_bits}
use Rattle.rules.specs.Rooms.{Answer, accepted, refused, Outcome}
use Rattle.rules.specs.Patches.{Limit, Filter}
use Rattle.rules.specs.Calls.{RepairRooms, repair, EdgesRooms, find_edges, LoopsRooms, find_loops, check, PatchesRooms, find_patches}
use Rattle.rules.specs.Bench.{Row}
unfoldable pub use Rattle.rules.specs.Bench.{same_list, same_lists, faults_from, faults}

-- one example: what a call gives, and what document 01 says
unfoldable pub row : List (List ℕ) → List (List ℕ) → Row
row found stated = record { found = found; stated = stated }

-- an answer: the entries that stand in each room; or the number and the place
unfoldable pub said : Answer → List ℕ
said (accepted entries) = entries
said (refused number place) = number ∷ place ∷ []

-- floats from their bits
unfoldable pub floats : List ℕ → List Float
floats bits = map (of_bits binary64) bits

-- floats as their bits
unfoldable pub bits_of : List Float → List ℕ
bits_of xs = map (to_bits binary64) xs

-- what each entry of a room of floats holds before a call: the bits of 1
abbrev pub dirt : ℕ
dirt = 0x3ff0_0000_0000_0000

-- a room of floats that holds something
unfoldable pub dirty : ℕ → List Float
dirty n = floats (replicate n dirt)

-- what stands in a room of one entry more than the `stated` ones: the answer, zero up to what is stated, and beyond it what stood there
unfoldable pub left : ℕ → ℕ → List ℕ → List ℕ
left stated beyond answer = answer ++ replicate (stated - length answer) 0 ++ (beyond ∷ [])

-- ---- repair

-- the rooms of a repair, of the given lengths
unfoldable pub repair_lent : ℕ → ℕ → ℕ → ℕ → ℕ → RepairRooms
repair_lent a b c d e = record { out_points = dirty a; out_faces = replicate b 7; report = replicate c 7; origins = replicate d 7; work = replicate e 7 }

-- the answer and every room
unfoldable pub repair_shown : Outcome RepairRooms → List (List ℕ)
repair_shown o = said o.answer ∷ bits_of o.rooms.out_points ∷ o.rooms.out_faces ∷ o.rooms.report ∷ o.rooms.origins ∷ o.rooms.work ∷ []

-- a repair of points and a threshold, both by their bits, in rooms one entry too long
unfoldable pub repairing : List ℕ → List ℕ → ℕ → ℕ → List (List ℕ)
repairing points faces s options =
    let P = length points / 3 in
    let F = length faces / 3 in
    repair_shown
    (repair (floats points) faces (of_bits binary64 s) options
    (repair_lent (3 * (P + 3 * F) + 1) (3 * F + 1) 12 (F + 1) (16 * P + 64 * F + 65)))

-- what a repair of P points and F faces leaves there
unfoldable pub repaired_to : ℕ → ℕ → List ℕ → List ℕ → List ℕ → List ℕ → List (List ℕ)
repaired_to P F points faces report origins =
    (length points ∷ length faces ∷ 11 ∷ length origins ∷ [])
    ∷ left (3 * (P + 3 * F)) dirt points ∷ left (3 * F) 7 faces ∷ left 11 7 report ∷ left F 7 origins ∷ left (16 * P + 64 * F + 64) 7 [] ∷ []

-- ---- edges

-- the rooms of an edge call, of the given lengths
unfoldable pub edges_lent : ℕ → ℕ → ℕ → ℕ → EdgesRooms
edges_lent a b c d = record { edges = replicate a 7; lengths = dirty b; face_edges = replicate c 7; work = replicate d 7 }

-- the answer and every room
unfoldable pub edges_shown : Outcome EdgesRooms → List (List ℕ)
edges_shown o = said o.answer ∷ o.rooms.edges ∷ bits_of o.rooms.lengths ∷ o.rooms.face_edges ∷ o.rooms.work ∷ []

-- an edge call in rooms one entry too long
unfoldable pub edging : List ℕ → List ℕ → List (List ℕ)
edging points faces =
    let P = length points / 3 in
    let F = length faces / 3 in
    edges_shown (find_edges (floats points) faces (edges_lent (6 * F + 1) (3 * F + 1) (3 * F + 1) (16 * P + 64 * F + 65)))

-- what an edge call for P points and F faces leaves there
unfoldable pub edged_to : ℕ → ℕ → List ℕ → List ℕ → List ℕ → List (List ℕ)
edged_to P F edges lengths face_edges =
    (length edges ∷ length lengths ∷ length face_edges ∷ [])
    ∷ left (6 * F) 7 edges ∷ left (3 * F) dirt lengths ∷ left (3 * F) 7 face_edges ∷ left (16 * P + 64 * F + 64) 7 [] ∷ []

-- ---- loops

-- the rooms of a loop call, of the given lengths
unfoldable pub loops_lent : ℕ → ℕ → ℕ → LoopsRooms
loops_lent a b c = record { loop_vertices = replicate a 7; loop_ends = replicate b 7; work = replicate c 7 }

-- the answer and every room
unfoldable pub loops_shown : Outcome LoopsRooms → List (List ℕ)
loops_shown o = said o.answer ∷ o.rooms.loop_vertices ∷ o.rooms.loop_ends ∷ o.rooms.work ∷ []

-- a loop call in rooms one entry too long
unfoldable pub looping : List ℕ → List ℕ → List (List ℕ)
looping points faces =
    let P = length points / 3 in
    let F = length faces / 3 in
    loops_shown (find_loops (floats points) faces (loops_lent (3 * F + 1) (3 * F + 1) (16 * P + 64 * F + 65)))

-- what a loop call for P points and F faces leaves there
unfoldable pub looped_to : ℕ → ℕ → List ℕ → List ℕ → List (List ℕ)
looped_to P F loop_vertices loop_ends =
    (length loop_vertices ∷ length loop_ends ∷ [])
    ∷ left (3 * F) 7 loop_vertices ∷ left (3 * F) 7 loop_ends ∷ left (16 * P + 64 * F + 64) 7 [] ∷ []

-- ---- edge check

-- the answer and the room
unfoldable pub check_shown : Outcome (List ℕ) → List (List ℕ)
check_shown o = said o.answer ∷ o.rooms ∷ []

-- an edge check in a room one entry too long
unfoldable pub checking : ℕ → List ℕ → List (List ℕ)
checking P faces = check_shown (check P faces (replicate (16 * P + 64 * (length faces / 3) + 65) 7))

-- what it leaves there
unfoldable pub checked_to : ℕ → ℕ → ℕ → List (List ℕ)
checked_to P F verdict = (verdict ∷ []) ∷ left (16 * P + 64 * F + 64) 7 [] ∷ []

-- ---- patches

-- the filter of five settings
unfoldable pub limits : Limit ℕ → Limit Float → Limit Float → Limit Float → Limit ℕ → Filter
limits faces area diagonal fraction largest =
    record { min_faces = faces; min_area = area; min_diagonal = diagonal; min_fraction = fraction; keep_largest = largest }

-- the rooms of a patch call, of the given lengths
unfoldable pub patches_lent : ℕ → ℕ → ℕ → ℕ → PatchesRooms
patches_lent a b c d = record { face_counts = replicate a 7; numbers = dirty b; flags = replicate c 7; work = replicate d 7 }

-- the answer and every room
unfoldable pub patches_shown : Outcome PatchesRooms → List (List ℕ)
patches_shown o = said o.answer ∷ o.rooms.face_counts ∷ bits_of o.rooms.numbers ∷ o.rooms.flags ∷ o.rooms.work ∷ []

-- a patch call for C patches in rooms one entry too long
unfoldable pub patching : List ℕ → List ℕ → List ℕ → ℕ → Filter → List (List ℕ)
patching points faces labels C by =
    patches_shown (find_patches (floats points) faces labels C by (patches_lent (C + 1) (7 * C + 1) (C + 1) (4 * C + 1)))

-- what it leaves there
unfoldable pub patched_to : ℕ → List ℕ → List ℕ → List ℕ → List (List ℕ)
patched_to C counts numbers flags =
    (C ∷ 7 * C ∷ C ∷ []) ∷ left C 7 counts ∷ left (7 * C) dirt numbers ∷ left C 7 flags ∷ left (4 * C) 7 [] ∷ []

-- only the flags, in rooms as long as stated
unfoldable pub flagging : List ℕ → List ℕ → List ℕ → ℕ → Filter → List (List ℕ)
flagging points faces labels C by =
    (find_patches (floats points) faces labels C by (patches_lent C (7 * C) C (4 * C))).rooms.flags ∷ []

-- ---- meshes, by the bits of their points

-- the unit legs (0,0,0) (1,0,0) (0,1,0) (0,-1,0) (0,0,1)
unfoldable pub legs : List ℕ
legs =
    0 ∷ 0 ∷ 0 ∷ 0x3ff0_0000_0000_0000 ∷ 0 ∷ 0 ∷ 0 ∷ 0x3ff0_0000_0000_0000 ∷ 0 ∷ 0 ∷ 0xbff0_0000_0000_0000 ∷ 0 ∷ 0 ∷ 0 ∷ 0x3ff0_0000_0000_0000 ∷ []

-- (0,0,0) (1,0,0) (0,1,0) (0,3,0) (0,2,0): over the edge 0 1, the higher the point the lower the quality and the larger the area
unfoldable pub high : List ℕ
high =
    0 ∷ 0 ∷ 0 ∷ 0x3ff0_0000_0000_0000 ∷ 0 ∷ 0 ∷ 0 ∷ 0x3ff0_0000_0000_0000 ∷ 0 ∷ 0 ∷ 0x4008_0000_0000_0000 ∷ 0 ∷ 0 ∷ 0x4000_0000_0000_0000 ∷ 0 ∷ []

-- the points (-0.5,0.7,0.2) (0.8,0.5,0.9) (0.2,0.4,0.3) (-0.1,-0.8,0.8), each coordinate the f64 nearest to it
unfoldable pub askew : List ℕ
askew =
    0xbfe0_0000_0000_0000 ∷ 0x3fe6_6666_6666_6666 ∷ 0x3fc9_9999_9999_999a ∷ 0x3fe9_9999_9999_999a ∷ 0x3fe0_0000_0000_0000 ∷ 0x3fec_cccc_cccc_cccd ∷ 0x3fc9_9999_9999_999a ∷ 0x3fd9_9999_9999_999a ∷ 0x3fd3_3333_3333_3333 ∷ 0xbfb9_9999_9999_999a ∷ 0xbfe9_9999_9999_999a ∷ 0x3fe9_9999_9999_999a ∷ []

-- every definition of this file under one name
unfoldable pub every_word : Unit {0}
unfolding row same_list same_lists faults_from faults said floats bits_of dirty left repair_lent repair_shown repairing repaired_to edges_lent edges_shown edging edged_to loops_lent loops_shown looping looped_to check_shown checking
    checked_to limits patches_lent patches_shown patching patched_to flagging legs high askew
every_word = tt
