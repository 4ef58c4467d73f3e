-- Document 01's examples that are not starred, the program's among them, its expected slips, and what an open place was read as: each computed.
use Rattle.std.specs.Prelude.{◌≡◌, refl, true, false, List, [], ◌∷◌, ◌++◌, map, ℕ, ◌+◌, ◌-◌, ◌*◌, ◌/◌, ◌^◌, length, replicate, pos, negsuc, Float}
use Prim.Native.String.{String}
use Rattle.std.specs.Float.{fin, inf, nan, binary64}
use Rattle.std.specs.Float.Ieee.{to_bits}
use Rattle.rules.specs.Mesh.{zero64}
use Rattle.rules.specs.Float.{one64, half64}
use Rattle.rules.specs.State.{report_counts}
use Rattle.rules.specs.Refusal.{no2, no_patch, most_points, most_faces, most_patches}
use Rattle.rules.specs.Rooms.{Answer, accepted, refused, work_room}
use Rattle.rules.specs.Patches.{Limit, absent, limit, Filter}
use Rattle.rules.specs.Line.{bytes}
use Rattle.rules.specs.Calls.{repair, find_edges, find_loops, check, find_patches, write_line}
use Rattle.rules.specs.Text.{meshfix}
use Rattle.rules.specs.Open.{every_rule}
use Rattle.rules.specs.Bench.{Row, legs, origins, mended, shown}

-- ---- what an example looks at

-- an answer: the entries that stand in each room; or the number and the place
answered : Answer → List ℕ
answered (accepted entries) = entries
answered (refused number place) = number ∷ place ∷ []

-- floats as their bits
bits : List Float → List ℕ
bits xs = map (to_bits binary64) xs

-- a repair of points and faces with rooms as long as stated: its answer
repairing : List Float → List ℕ → Float → ℕ → List (List ℕ)
repairing points faces s options =
    let P = length points / 3 in
    let F = length faces / 3 in
    answered
    (repair points faces s options
    (record {
      out_points = replicate (3 * (P + 3 * F)) zero64;
      out_faces = replicate (3 * F) 0;
      report = replicate report_counts 0;
      origins = replicate F 0;
      work = replicate (work_room P F) 0;
    })).answer
    ∷ []

-- an edge call over P points at the origin with rooms as long as stated: its answer
edging : ℕ → List ℕ → List (List ℕ)
edging P faces =
    let F = length faces / 3 in
    answered
    (find_edges (origins P) faces
    (record {
      edges = replicate (6 * F) 0;
      lengths = replicate (3 * F) zero64;
      face_edges = replicate (3 * F) 0;
      work = replicate (work_room P F) 0;
    })).answer
    ∷ []

-- a loop call there: its answer
looping : ℕ → List ℕ → List (List ℕ)
looping P faces =
    let F = length faces / 3 in
    answered
    (find_loops (origins P) faces
    (record { loop_vertices = replicate (3 * F) 0; loop_ends = replicate (3 * F) 0; work = replicate (work_room P F) 0 })).answer
    ∷ []

-- an edge check with a work room as long as stated: its answer
checking : ℕ → List ℕ → List (List ℕ)
checking P faces = answered (check P faces (replicate (work_room P (length faces / 3)) 0)).answer ∷ []

-- the filter that keeps everything
all_kept : Filter
all_kept = record { min_faces = absent; min_area = absent; min_diagonal = absent; min_fraction = absent; keep_largest = absent }

-- a patch call for C patches, with rooms as long as stated: its answer, the face counts, the numbers' bits, the flags
patching : List Float → List ℕ → List ℕ → ℕ → Filter → List (List ℕ)
patching points faces labels C by =
    let o =
    find_patches points faces labels C by
    (record { face_counts = replicate C 0; numbers = replicate (7 * C) zero64; flags = replicate C 0; work = replicate (4 * C) 0 }) in
    answered o.answer ∷ o.rooms.face_counts ∷ bits o.rooms.numbers ∷ o.rooms.flags ∷ []

-- only the flags of it
flagging : List Float → List ℕ → List ℕ → ℕ → Filter → List (List ℕ)
flagging points faces labels C by =
    (find_patches points faces labels C by
    (record { face_counts = replicate C 0; numbers = replicate (7 * C) zero64; flags = replicate C 0; work = replicate (4 * C) 0 })
    ).rooms.flags ∷ []

-- the filters of one limit: on the area, and on the fraction of the largest area
by_area : Limit Float → Filter
by_area m = record { min_faces = absent; min_area = m; min_diagonal = absent; min_fraction = absent; keep_largest = absent }

-- on the fraction
by_fraction : Limit Float → Filter
by_fraction m = record { min_faces = absent; min_area = absent; min_diagonal = absent; min_fraction = m; keep_largest = absent }

-- a report line with a room of 514 bytes that each hold 7: its answer, and what stands in the room
lining : List ℕ → List (List ℕ)
lining counts = let o = write_line counts (replicate 514 7) in answered o.answer ∷ o.rooms ∷ []

-- what then stands in that room: the line, zero up to 512, and beyond it what stood there
lined : String → List (List ℕ)
lined text = let l = bytes text in (length l ∷ []) ∷ (l ++ replicate (512 - length l) 0 ++ (7 ∷ 7 ∷ [])) ∷ []

-- the program's output for a text
printing : String → List (List ℕ)
printing text = meshfix (bytes text) ∷ []

-- one example: what the rules give, and what is stated
row : List (List ℕ) → List (List ℕ) → Row
row found stated = record { found = found; stated = stated }

-- the largest f64 below 1
below_one64 : Float
below_one64 = fin false (2 ^ 53 - 1) (negsuc 52)

-- -0
minus_zero64 : Float
minus_zero64 = fin true 0 (pos 0)

-- three corners at the origin, whose zeros have different signs: (-0,+0,-0) (+0,-0,+0) (+0,-0,-0)
zeros : List Float
zeros =
    minus_zero64 ∷ zero64 ∷ minus_zero64
    ∷ zero64 ∷ minus_zero64 ∷ zero64
    ∷ zero64 ∷ minus_zero64 ∷ minus_zero64 ∷ []

-- ---- document 01's examples

-- those that are not starred
pub not_starred : List Row
not_starred =
    -- face 0 1 2 of the unit legs with s = 1 is degenerate; with the f64 just below 1 it isn't
    row (mended legs (0 ∷ 1 ∷ 2 ∷ []) 1 one64) ((5 ∷ []) ∷ [] ∷ (1 ∷ replicate 9 0) ∷ [])
    ∷ row (mended legs (0 ∷ 1 ∷ 2 ∷ []) 1 below_one64) ((5 ∷ []) ∷ (0 ∷ 1 ∷ 2 ∷ []) ∷ replicate 10 0 ∷ [])
    -- coordinate 2^100 passes; the next f64 is refused 4
    ∷ row (repairing (zero64 ∷ fin true 1 (pos 100) ∷ fin false 1 (pos 100) ∷ []) [] zero64 0) ((3 ∷ 0 ∷ 11 ∷ 0 ∷ []) ∷ [])
    ∷ row (repairing (origins 1 ++ (fin false (2 ^ 52 + 1) (pos 48) ∷ zero64 ∷ zero64 ∷ [])) [] zero64 0) ((4 ∷ 1 ∷ []) ∷ [])
    -- faces 0 1 2; 0 3 4: loop call refused 8, and the edge call accepts. Three faces on one edge: refused 7 by both
    ∷ row (looping 5 (0 ∷ 1 ∷ 2 ∷ 0 ∷ 3 ∷ 4 ∷ [])) ((8 ∷ 0 ∷ []) ∷ [])
    ∷ row (edging 5 (0 ∷ 1 ∷ 2 ∷ 0 ∷ 3 ∷ 4 ∷ [])) ((12 ∷ 6 ∷ 6 ∷ []) ∷ [])
    ∷ row (looping 5 (0 ∷ 1 ∷ 2 ∷ 0 ∷ 1 ∷ 3 ∷ 0 ∷ 1 ∷ 4 ∷ [])) ((7 ∷ 0 ∷ []) ∷ [])
    ∷ row (edging 5 (0 ∷ 1 ∷ 2 ∷ 0 ∷ 1 ∷ 3 ∷ 0 ∷ 1 ∷ 4 ∷ [])) ((7 ∷ 0 ∷ []) ∷ [])
    ∷ []

-- every one holds
pub examples : map (λ r. r.found) not_starred ≡ map (λ r. r.stated) not_starred
unfolding not_starred row answered bits repairing edging looping printing below_one64 legs origins mended shown every_rule
examples = refl

-- ---- slips

-- those that document 01 expects
pub slips : List Row
slips =
    -- Dropping faces edge by edge in pass 3: face 2 leaves at the edge 0 1, and face 4 leaves at the edge 1 2 all the same, where face 2 is an entry.
    row (mended (origins 7) (0 ∷ 1 ∷ 3 ∷ 1 ∷ 0 ∷ 4 ∷ 0 ∷ 1 ∷ 2 ∷ 2 ∷ 1 ∷ 5 ∷ 1 ∷ 2 ∷ 6 ∷ []) 4 zero64)
    ((7 ∷ []) ∷ (0 ∷ 1 ∷ 3 ∷ 1 ∷ 0 ∷ 4 ∷ 2 ∷ 1 ∷ 5 ∷ []) ∷ (0 ∷ 0 ∷ 2 ∷ 2 ∷ replicate 6 0) ∷ [])
    -- Joining fans at a shared face: the two entries of face 0 0 1 share the corner 1 and stay together, the three of face 2 2 2 share none.
    ∷ row (mended (origins 3) (0 ∷ 0 ∷ 1 ∷ 2 ∷ 2 ∷ 2 ∷ []) 8 zero64)
    ((5 ∷ []) ∷ (0 ∷ 0 ∷ 1 ∷ 3 ∷ 3 ∷ 3 ∷ []) ∷ (0 ∷ 0 ∷ 0 ∷ 0 ∷ 0 ∷ 1 ∷ 2 ∷ 0 ∷ 0 ∷ 0 ∷ []) ∷ [])
    -- Ranking only patches that earlier limits kept: patch 0 is the largest and has too few faces, patch 1 ranks second and falls too.
    ∷ row
    (flagging legs (0 ∷ 1 ∷ 2 ∷ 0 ∷ 0 ∷ 0 ∷ 0 ∷ 0 ∷ 0 ∷ []) (0 ∷ 1 ∷ 1 ∷ []) 2
    (record { min_faces = limit 2; min_area = absent; min_diagonal = absent; min_fraction = absent; keep_largest = limit 1 }))
    ((0 ∷ 0 ∷ []) ∷ [])
    ∷ []

-- none is made
pub no_slip : map (λ r. r.found) slips ≡ map (λ r. r.stated) slips
unfolding slips row flagging legs origins mended every_rule
no_slip = refl

-- ---- refusals

-- each number with its places, and what just passes
pub refusals : List Row
refusals =
    -- 1: points, then faces; and before all that follows
    row (repairing (zero64 ∷ []) (9 ∷ []) nan 64) ((1 ∷ 0 ∷ []) ∷ [])
    ∷ row (repairing (origins 1) (9 ∷ 9 ∷ []) nan 64) ((1 ∷ 1 ∷ []) ∷ [])
    ∷ row (checking 0 (9 ∷ [])) ((1 ∷ 1 ∷ []) ∷ [])
    -- 2: the largest sizes pass, and one more does not; P and the patch count are numbers of any size
    ∷ row (shown (no2 0 4194304 most_points)) []
    ∷ row (shown (no2 0 4194305 most_points)) ((2 ∷ 0 ∷ []) ∷ [])
    ∷ row (answered (check 4194305 [] []).answer ∷ []) ((2 ∷ 0 ∷ []) ∷ [])
    ∷ row (answered (check (2 ^ 64 - 1) (9 ∷ 9 ∷ 9 ∷ []) []).answer ∷ []) ((2 ∷ 0 ∷ []) ∷ [])
    ∷ row (shown (no2 1 1048576 most_faces)) []
    ∷ row (shown (no2 1 1048577 most_faces)) ((2 ∷ 1 ∷ []) ∷ [])
    ∷ row (shown (no2 2 1048576 most_patches)) []
    ∷ row (shown (no2 2 1048577 most_patches)) ((2 ∷ 2 ∷ []) ∷ [])
    -- 3: NaN, below 0 and above 1 are refused, -0 is not; settings are checked whatever the options are
    ∷ row (repairing [] [] nan 64) ((3 ∷ 0 ∷ []) ∷ [])
    ∷ row (repairing [] [] (fin true 1 (negsuc 1073)) 0) ((3 ∷ 0 ∷ []) ∷ [])
    ∷ row (repairing [] [] (fin false (2 ^ 52 + 1) (negsuc 51)) 0) ((3 ∷ 0 ∷ []) ∷ [])
    ∷ row (repairing [] [] minus_zero64 64) ((3 ∷ 1 ∷ []) ∷ [])
    -- 4 before 5, and unused points too
    ∷ row (repairing (origins 2 ++ (zero64 ∷ zero64 ∷ inf true ∷ [])) (0 ∷ 0 ∷ 3 ∷ []) zero64 0) ((4 ∷ 2 ∷ []) ∷ [])
    ∷ row (repairing (nan ∷ zero64 ∷ zero64 ∷ []) [] zero64 0) ((4 ∷ 0 ∷ []) ∷ [])
    -- 5 at the first such face
    ∷ row (checking 2 (0 ∷ 1 ∷ 1 ∷ 0 ∷ 2 ∷ 0 ∷ 5 ∷ 5 ∷ 5 ∷ [])) ((5 ∷ 1 ∷ []) ∷ [])
    -- 6 at the first room that is too short
    ∷ row (answered (check 0 [] (replicate 63 0)).answer ∷ []) ((6 ∷ 0 ∷ []) ∷ [])
    ∷ row
    (answered (repair [] [] zero64 0 (record { out_points = []; out_faces = []; report = replicate 10 0; origins = []; work = [] })).answer ∷ [])
    ((6 ∷ 2 ∷ []) ∷ [])
    -- the origins before the work room
    ∷ row
    (answered (repair (origins 1) (0 ∷ 0 ∷ 0 ∷ []) zero64 0 (record { out_points = origins 4; out_faces = replicate 3 0; report = replicate 11 0; origins = []; work = [] })).answer ∷ [])
    ((6 ∷ 3 ∷ []) ∷ [])
    -- 7: the position among all sorted unique edges; 8: the lowest vertex at fault
    ∷ row (edging 5 (0 ∷ 1 ∷ 2 ∷ 1 ∷ 2 ∷ 3 ∷ 1 ∷ 2 ∷ 4 ∷ [])) ((7 ∷ 2 ∷ []) ∷ [])
    ∷ row (looping 5 (0 ∷ 1 ∷ 2 ∷ 3 ∷ 4 ∷ 2 ∷ [])) ((8 ∷ 2 ∷ []) ∷ [])
    -- 8 also where as many edges begin as end at no vertex: two faces that walk their common edge the same way
    ∷ row (looping 4 (0 ∷ 1 ∷ 2 ∷ 0 ∷ 1 ∷ 3 ∷ [])) ((8 ∷ 0 ∷ []) ∷ [])
    -- 9 in all labels given, before 10
    ∷ row (patching (origins 1) (0 ∷ 0 ∷ 0 ∷ []) (0 ∷ 1 ∷ []) 1 all_kept) ((9 ∷ 1 ∷ []) ∷ (0 ∷ []) ∷ replicate 7 0 ∷ (0 ∷ []) ∷ [])
    ∷ row (patching (origins 1) (0 ∷ 0 ∷ 0 ∷ []) (0 ∷ no_patch ∷ []) 1 all_kept) ((10 ∷ 0 ∷ []) ∷ (0 ∷ []) ∷ replicate 7 0 ∷ (0 ∷ []) ∷ [])
    -- the line: a count too few, a room of 511 bytes; a refusal changes nothing
    ∷ row (lining (replicate 10 0)) ((1 ∷ 2 ∷ []) ∷ replicate 514 7 ∷ [])
    ∷ row (answered (write_line (replicate report_counts 0) (replicate 511 7)).answer ∷ []) ((6 ∷ 0 ∷ []) ∷ [])
    ∷ []

-- each has its number and place
pub refused_so : map (λ r. r.found) refusals ≡ map (λ r. r.stated) refusals
unfolding refusals row answered bits repairing edging looping checking patching all_kept lining printing minus_zero64 legs origins shown every_rule
refused_so = refl

-- ---- answers

-- what stands in the rooms of accepted calls
pub answers : List Row
answers =
    -- the edge check: no faces; both sides of a face; a directed edge twice; a repeated corner
    row (checking 0 []) ((1 ∷ []) ∷ [])
    ∷ row (checking 3 (0 ∷ 1 ∷ 2 ∷ 0 ∷ 2 ∷ 1 ∷ [])) ((1 ∷ []) ∷ [])
    ∷ row (checking 4 (0 ∷ 1 ∷ 2 ∷ 0 ∷ 1 ∷ 3 ∷ [])) ((0 ∷ []) ∷ [])
    ∷ row (checking 2 (0 ∷ 0 ∷ 1 ∷ [])) ((0 ∷ []) ∷ [])
    -- the work room is zero up to what is stated, and beyond it as it was
    ∷ row ((check 0 [] (replicate 66 7)).rooms ∷ []) ((replicate 64 0 ++ (7 ∷ 7 ∷ [])) ∷ [])
    -- a repair in longer rooms that hold something: face 0 0 1 leaves, point 1 is isolated
    ∷ row
    (let o =
    repair (origins 2) (0 ∷ 0 ∷ 1 ∷ []) zero64 33
    (record { out_points = replicate 16 one64; out_faces = replicate 4 7; report = replicate 12 7; origins = replicate 2 7; work = replicate 161 7 }) in
    answered o.answer ∷ bits o.rooms.out_points ∷ o.rooms.out_faces ∷ o.rooms.report ∷ o.rooms.origins ∷ o.rooms.work ∷ [])
    ((0 ∷ 0 ∷ 11 ∷ 0 ∷ []) ∷ (replicate 15 0 ++ (0x3ff0_0000_0000_0000 ∷ [])) ∷ (0 ∷ 0 ∷ 0 ∷ 7 ∷ []) ∷ (1 ∷ replicate 9 0 ++ (2 ∷ 7 ∷ []))
    ∷ (0 ∷ 7 ∷ []) ∷ (replicate 160 0 ++ (7 ∷ [])) ∷ [])
    -- a face of the unit legs: its area and its box
    ∷ row (patching legs (0 ∷ 1 ∷ 2 ∷ []) (0 ∷ []) 1 all_kept)
    ((1 ∷ 7 ∷ 1 ∷ []) ∷ (1 ∷ [])
    ∷ (0x3fe0_0000_0000_0000 ∷ 0 ∷ 0 ∷ 0 ∷ 0x3ff0_0000_0000_0000 ∷ 0x3ff0_0000_0000_0000 ∷ 0 ∷ []) ∷ (1 ∷ []) ∷ [])
    -- an empty patch: area 0, min +infinity, max -infinity, diagonal 0
    ∷ row
    (patching legs (0 ∷ 1 ∷ 2 ∷ []) (no_patch ∷ []) 1
    (record { min_faces = limit 0; min_area = limit zero64; min_diagonal = limit zero64; min_fraction = limit one64; keep_largest = limit 1 }))
    ((1 ∷ 7 ∷ 1 ∷ []) ∷ (0 ∷ [])
    ∷ (0 ∷ 0x7ff0_0000_0000_0000 ∷ 0x7ff0_0000_0000_0000 ∷ 0x7ff0_0000_0000_0000
    ∷ 0xfff0_0000_0000_0000 ∷ 0xfff0_0000_0000_0000 ∷ 0xfff0_0000_0000_0000 ∷ [])
    ∷ (1 ∷ []) ∷ [])
    -- of two zeros a box number keeps the one held
    ∷ row (patching zeros (0 ∷ 1 ∷ 2 ∷ []) (0 ∷ []) 1 all_kept)
    ((1 ∷ 7 ∷ 1 ∷ []) ∷ (1 ∷ [])
    ∷ (0 ∷ 0x8000_0000_0000_0000 ∷ 0 ∷ 0x8000_0000_0000_0000 ∷ 0x8000_0000_0000_0000 ∷ 0 ∷ 0x8000_0000_0000_0000 ∷ [])
    ∷ (1 ∷ []) ∷ [])
    -- a limit that the value meets keeps it, NaN drops nothing, infinity drops, and of no area no fraction is left
    ∷ row (flagging legs (0 ∷ 1 ∷ 2 ∷ []) (0 ∷ []) 1 (by_area (limit half64))) ((1 ∷ []) ∷ [])
    ∷ row (flagging legs (0 ∷ 1 ∷ 2 ∷ []) (0 ∷ []) 1 (by_area (limit nan))) ((1 ∷ []) ∷ [])
    ∷ row (flagging legs (0 ∷ 1 ∷ 2 ∷ []) (0 ∷ []) 1 (by_area (limit (inf false)))) ((0 ∷ []) ∷ [])
    ∷ row (flagging legs (0 ∷ 1 ∷ 2 ∷ 0 ∷ 0 ∷ 0 ∷ []) (0 ∷ 1 ∷ []) 2 (by_fraction (limit one64))) ((1 ∷ 0 ∷ []) ∷ [])
    ∷ row (flagging legs (0 ∷ 0 ∷ 0 ∷ []) (0 ∷ []) 1 (by_fraction (limit (inf false)))) ((1 ∷ []) ∷ [])
    -- the line: all zero; two that are not; the sum of the first two, however it is divided; all at their largest, the sum exact
    ∷ row (lining (replicate report_counts 0)) (lined "mesh was already manifold, nothing changed")
    ∷ row (lining (3 ∷ 7 ∷ 0 ∷ 2 ∷ replicate 7 0)) (lined "10 degenerate faces removed, 2 non-manifold edges")
    ∷ row (lining (1 ∷ replicate 10 0)) (lined "1 degenerate faces removed")
    ∷ row (lining (0 ∷ 1 ∷ replicate 9 0)) (lined "1 degenerate faces removed")
    ∷ row (lining (replicate report_counts 4294967295))
    (lined
    "8589934590 degenerate faces removed, 4294967295 duplicate faces removed, 4294967295 non-manifold edges, 4294967295 faces dropped there, 4294967295 faces dropped as unorientable, 4294967295 bowtie vertices split, 4294967295 points added, 4294967295 faces reoriented, 4294967295 non-orientable components, 4294967295 isolated vertices removed")
    ∷ []

-- each stands there
pub answered_so : map (λ r. r.found) answers ≡ map (λ r. r.stated) answers
unfolding answers row answered bits checking patching flagging all_kept by_area by_fraction lining lined zeros minus_zero64 legs origins every_rule
answered_so = refl

-- ---- the program

-- its input in document 01
pub input : String
input =
    "o\t63\t3f50000000000000\np\t0000000000000000\t0000000000000000\t0000000000000000\np\t3ff0000000000000\t0000000000000000\t0000000000000000\np\t0000000000000000\t3ff0000000000000\t0000000000000000\np\tbff0000000000000\t0000000000000000\t0000000000000000\np\t0000000000000000\tbff0000000000000\t0000000000000000\nf\t0\t1\t2\nf\t0\t3\t4\n"

-- its output there
pub output : String
output =
    "p\t0000000000000000\t0000000000000000\t0000000000000000\np\t3ff0000000000000\t0000000000000000\t0000000000000000\np\t0000000000000000\t3ff0000000000000\t0000000000000000\np\tbff0000000000000\t0000000000000000\t0000000000000000\np\t0000000000000000\tbff0000000000000\t0000000000000000\np\t0000000000000000\t0000000000000000\t0000000000000000\nf\t0\t1\t2\nf\t5\t3\t4\nr\t0\t0\t0\t0\t0\t0\t1\t1\t0\t0\t0\n"

-- the one follows from the other
pub program : meshfix (bytes input) ≡ bytes output
unfolding input output every_rule
program = refl

-- texts that are refused, and the shortest that is not
pub texts : List Row
texts =
    -- text without an `o` line, the empty text too, is refused 11
    row (printing "p\t0000000000000000\t0000000000000000\t0000000000000000\n") (bytes "x\t11\n" ∷ [])
    ∷ row (printing "") (bytes "x\t11\n" ∷ [])
    -- the program: a bad line before all else; a number that is well formed and out of its domain
    ∷ row (printing "o\t64\t3f50000000000000\np\t0\n") (bytes "x\t11\n" ∷ [])
    ∷ row (printing "o\t64\t3f50000000000000\n") (bytes "x\t3\n" ∷ [])
    ∷ row (printing "o\t0\t0000000000000000\nf\t0\t0\t0\n") (bytes "x\t5\n" ∷ [])
    ∷ row (printing "o\t0\t0000000000000000") (bytes "x\t11\n" ∷ [])
    ∷ row (printing "o\t00\t0000000000000000\n") (bytes "x\t11\n" ∷ [])
    ∷ row (printing "o\t0\t000000000000000A\n") (bytes "x\t11\n" ∷ [])
    ∷ row (printing "o\t0\t0000000000000000\no\t0\t0000000000000000\n") (bytes "x\t11\n" ∷ [])
    ∷ row (printing "o\t0\t0000000000000000\n") (bytes "r\t0\t0\t0\t0\t0\t0\t0\t0\t0\t0\t0\n" ∷ [])
    ∷ []

-- each has its output
pub printed_so : map (λ r. r.found) texts ≡ map (λ r. r.stated) texts
unfolding texts row printing every_rule
printed_so = refl
