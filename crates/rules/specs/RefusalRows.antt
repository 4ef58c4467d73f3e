-- Refusals, each by the call: rooms exactly long and one short, two faults in one input, each limit from both sides. A refusal changes no room.
use Rattle.std.specs.Prelude.{◌≡◌, refl, List, [], ◌∷◌, ◌++◌, true, false, ℕ, ◌+◌, ◌*◌, ◌%◌, ◌/◌, length, replicate, eqb, leb, Float}
use Rattle.std.specs.Float.{binary64}
use Rattle.std.specs.Float.Ieee.{of_bits}
use Rattle.rules.specs.Refusal.{no, decided, unless, no1, no2}
use Rattle.rules.specs.Patches.{absent}
use Rattle.rules.specs.Line.{bytes}
use Rattle.rules.specs.Stl.{facets, no12}
use Rattle.rules.specs.Calls.{RepairRooms, repair, repair_check, EdgesRooms, find_edges, edges_check, LoopsRooms, find_loops, loops_check, check, check_check, PatchesRooms, find_patches, patches_check, write_line, StlRooms, stl_check}
use Rattle.rules.specs.CallRows.{row, faults, floats, dirt, limits, repair_lent, repair_shown, edges_lent, edges_shown, loops_lent, loops_shown, check_shown, patches_lent, patches_shown, every_word}
use Rattle.rules.specs.Open.{every_rule}
use Rattle.rules.specs.Bench.{Row}

-- a repair in rooms of the given lengths
repair_at : List ℕ → List ℕ → ℕ → ℕ → ℕ → ℕ → ℕ → ℕ → ℕ → List (List ℕ)
repair_at points faces s options a b c d e = repair_shown (repair (floats points) faces (of_bits binary64 s) options (repair_lent a b c d e))

-- number n with place p, and those rooms as they were
repair_kept : ℕ → ℕ → ℕ → ℕ → ℕ → ℕ → ℕ → List (List ℕ)
repair_kept n p a b c d e = (n ∷ p ∷ []) ∷ replicate a dirt ∷ replicate b 7 ∷ replicate c 7 ∷ replicate d 7 ∷ replicate e 7 ∷ []

-- an edge call in rooms of the given lengths
edges_at : List ℕ → List ℕ → ℕ → ℕ → ℕ → ℕ → List (List ℕ)
edges_at points faces a b c d = edges_shown (find_edges (floats points) faces (edges_lent a b c d))

-- number n with place p, and those rooms as they were
edges_kept : ℕ → ℕ → ℕ → ℕ → ℕ → ℕ → List (List ℕ)
edges_kept n p a b c d = (n ∷ p ∷ []) ∷ replicate a 7 ∷ replicate b dirt ∷ replicate c 7 ∷ replicate d 7 ∷ []

-- a loop call in rooms of the given lengths
loops_at : List ℕ → List ℕ → ℕ → ℕ → ℕ → List (List ℕ)
loops_at points faces a b c = loops_shown (find_loops (floats points) faces (loops_lent a b c))

-- number n with place p, and those rooms as they were
loops_kept : ℕ → ℕ → ℕ → ℕ → ℕ → List (List ℕ)
loops_kept n p a b c = (n ∷ p ∷ []) ∷ replicate a 7 ∷ replicate b 7 ∷ replicate c 7 ∷ []

-- a patch call without limits, in rooms of the given lengths
patches_at : List ℕ → List ℕ → List ℕ → ℕ → ℕ → ℕ → ℕ → ℕ → List (List ℕ)
patches_at points faces labels C a b c d =
    patches_shown (find_patches (floats points) faces labels C (limits absent absent absent absent absent) (patches_lent a b c d))

-- number n with place p, and those rooms as they were
patches_kept : ℕ → ℕ → ℕ → ℕ → ℕ → ℕ → List (List ℕ)
patches_kept n p a b c d = (n ∷ p ∷ []) ∷ replicate a 7 ∷ replicate b dirt ∷ replicate c 7 ∷ replicate d 7 ∷ []

-- of repairs
pub repair_refusals : List Row
repair_refusals =
    -- rooms exactly as long as stated for one point and one face, and each of them one short; a refusal changes no room
    row (repair_at (0 ∷ 0 ∷ 0 ∷ []) (0 ∷ 0 ∷ 0 ∷ []) 0 0 12 3 11 1 144) ((3 ∷ 3 ∷ 11 ∷ 1 ∷ []) ∷ replicate 12 0 ∷ replicate 3 0 ∷ replicate 11 0 ∷ replicate 1 0 ∷ replicate 144 0 ∷ [])
    ∷ row (repair_at (0 ∷ 0 ∷ 0 ∷ []) (0 ∷ 0 ∷ 0 ∷ []) 0 0 11 3 11 1 144) (repair_kept 6 0 11 3 11 1 144)
    ∷ row (repair_at (0 ∷ 0 ∷ 0 ∷ []) (0 ∷ 0 ∷ 0 ∷ []) 0 0 12 2 11 1 144) (repair_kept 6 1 12 2 11 1 144)
    ∷ row (repair_at (0 ∷ 0 ∷ 0 ∷ []) (0 ∷ 0 ∷ 0 ∷ []) 0 0 12 3 10 1 144) (repair_kept 6 2 12 3 10 1 144)
    ∷ row (repair_at (0 ∷ 0 ∷ 0 ∷ []) (0 ∷ 0 ∷ 0 ∷ []) 0 0 12 3 11 0 144) (repair_kept 6 3 12 3 11 0 144)
    ∷ row (repair_at (0 ∷ 0 ∷ 0 ∷ []) (0 ∷ 0 ∷ 0 ∷ []) 0 0 12 3 11 1 143) (repair_kept 6 4 12 3 11 1 143)
    -- of two short rooms the first
    ∷ row (repair_at (0 ∷ 0 ∷ 0 ∷ []) (0 ∷ 0 ∷ 0 ∷ []) 0 0 12 2 11 1 0) (repair_kept 6 1 12 2 11 1 0)
    ∷ row (repair_at (0 ∷ 0 ∷ 0 ∷ []) (0 ∷ 0 ∷ 0 ∷ []) 0 0 12 3 11 0 143) (repair_kept 6 3 12 3 11 0 143)
    -- two faults in one input, for each two neighbouring numbers: 1 at the points before 1 at the faces, 1 before 3
    ∷ row (repair_at (0 ∷ 0 ∷ []) (0 ∷ []) 0 0 0 0 0 0 0) (repair_kept 1 0 0 0 0 0 0)
    ∷ row (repair_at [] (0 ∷ []) 0x7ff8_0000_0000_0000 64 0 0 0 0 0) (repair_kept 1 1 0 0 0 0 0)
    -- 3 at the threshold before 3 at the options; 3 before 4
    ∷ row (repair_at (0 ∷ 0 ∷ 0 ∷ []) (0 ∷ 0 ∷ 0 ∷ []) 0x7ff8_0000_0000_0000 64 0 0 0 0 0) (repair_kept 3 0 0 0 0 0 0)
    ∷ row (repair_at (0x7ff8_0000_0000_0000 ∷ 0 ∷ 0 ∷ []) (0 ∷ 0 ∷ 0 ∷ []) 0 64 0 0 0 0 0) (repair_kept 3 1 0 0 0 0 0)
    -- 4 before 5; 5 before 6
    ∷ row (repair_at (0x7ff8_0000_0000_0000 ∷ 0 ∷ 0 ∷ []) (0 ∷ 0 ∷ 1 ∷ []) 0 0 0 0 0 0 0) (repair_kept 4 0 0 0 0 0 0)
    ∷ row (repair_at (0 ∷ 0 ∷ 0 ∷ []) (0 ∷ 0 ∷ 1 ∷ []) 0 0 0 0 0 0 0) (repair_kept 5 0 0 0 0 0 0)
    -- the limits from both sides, before 6: s from 0 to 1, options up to 63
    ∷ row (repair_at (0 ∷ 0 ∷ 0 ∷ []) (0 ∷ 0 ∷ 0 ∷ []) 0x3ff0_0000_0000_0000 63 0 0 0 0 0) (repair_kept 6 0 0 0 0 0 0)
    ∷ row (repair_at (0 ∷ 0 ∷ 0 ∷ []) (0 ∷ 0 ∷ 0 ∷ []) 0x3ff0_0000_0000_0001 63 0 0 0 0 0) (repair_kept 3 0 0 0 0 0 0)
    ∷ row (repair_at (0 ∷ 0 ∷ 0 ∷ []) (0 ∷ 0 ∷ 0 ∷ []) 0x8000_0000_0000_0000 63 0 0 0 0 0) (repair_kept 6 0 0 0 0 0 0)
    ∷ row (repair_at (0 ∷ 0 ∷ 0 ∷ []) (0 ∷ 0 ∷ 0 ∷ []) 0x8000_0000_0000_0001 63 0 0 0 0 0) (repair_kept 3 0 0 0 0 0 0)
    ∷ row (repair_at (0 ∷ 0 ∷ 0 ∷ []) (0 ∷ 0 ∷ 0 ∷ []) 0 64 0 0 0 0 0) (repair_kept 3 1 0 0 0 0 0)
    -- coordinates up to 2^100 in magnitude, each of the three; the first point at fault
    ∷ row (repair_at (0x4630_0000_0000_0000 ∷ 0xc630_0000_0000_0000 ∷ 0x4630_0000_0000_0000 ∷ []) [] 0 0 0 0 0 0 0) (repair_kept 6 0 0 0 0 0 0)
    ∷ row (repair_at (0 ∷ 0 ∷ 0 ∷ 0x4630_0000_0000_0001 ∷ 0 ∷ 0 ∷ []) [] 0 0 0 0 0 0 0) (repair_kept 4 1 0 0 0 0 0)
    ∷ row (repair_at (0 ∷ 0xc630_0000_0000_0001 ∷ 0 ∷ 0x4630_0000_0000_0001 ∷ 0 ∷ 0 ∷ []) [] 0 0 0 0 0 0 0) (repair_kept 4 0 0 0 0 0 0)
    ∷ row (repair_at (0 ∷ 0 ∷ 0x4630_0000_0000_0001 ∷ []) [] 0 0 0 0 0 0 0) (repair_kept 4 0 0 0 0 0 0)
    -- corners below P, each of the three; the first face at fault
    ∷ row (repair_at (replicate 6 0) (1 ∷ 1 ∷ 1 ∷ []) 0 0 0 0 0 0 0) (repair_kept 6 0 0 0 0 0 0)
    ∷ row (repair_at (replicate 6 0) (1 ∷ 0 ∷ 1 ∷ 2 ∷ 0 ∷ 0 ∷ []) 0 0 0 0 0 0 0) (repair_kept 5 1 0 0 0 0 0)
    ∷ row (repair_at (replicate 6 0) (1 ∷ 0 ∷ 1 ∷ 0 ∷ 2 ∷ 0 ∷ []) 0 0 0 0 0 0 0) (repair_kept 5 1 0 0 0 0 0)
    ∷ row (repair_at (replicate 6 0) (1 ∷ 0 ∷ 1 ∷ 0 ∷ 0 ∷ 2 ∷ []) 0 0 0 0 0 0 0) (repair_kept 5 1 0 0 0 0 0)
    ∷ []

-- every row holds
pub repairs_refused : faults repair_refusals ≡ []
unfolding repair_refusals repair_at repair_kept every_word every_rule
repairs_refused = refl

-- of edge calls
pub edges_refusals : List Row
edges_refusals =
    -- rooms exactly as long as stated for three points and one face, and each of them one short
    row (edges_at (replicate 9 0) (0 ∷ 1 ∷ 2 ∷ []) 6 3 3 176) ((6 ∷ 3 ∷ 3 ∷ []) ∷ (0 ∷ 1 ∷ 0 ∷ 2 ∷ 1 ∷ 2 ∷ []) ∷ replicate 3 0 ∷ (2 ∷ 1 ∷ 0 ∷ []) ∷ replicate 176 0 ∷ [])
    ∷ row (edges_at (replicate 9 0) (0 ∷ 1 ∷ 2 ∷ []) 5 3 3 176) (edges_kept 6 0 5 3 3 176)
    ∷ row (edges_at (replicate 9 0) (0 ∷ 1 ∷ 2 ∷ []) 6 2 3 176) (edges_kept 6 1 6 2 3 176)
    ∷ row (edges_at (replicate 9 0) (0 ∷ 1 ∷ 2 ∷ []) 6 3 2 176) (edges_kept 6 2 6 3 2 176)
    ∷ row (edges_at (replicate 9 0) (0 ∷ 1 ∷ 2 ∷ []) 6 3 3 175) (edges_kept 6 3 6 3 3 175)
    -- two faults in one input: 1 and 1, 1 and 4, 4 and 5, 5 and 6, 6 and 7
    ∷ row (edges_at (0 ∷ 0 ∷ []) (0 ∷ []) 0 0 0 0) (edges_kept 1 0 0 0 0 0)
    ∷ row (edges_at (0x7ff8_0000_0000_0000 ∷ 0 ∷ 0 ∷ []) (0 ∷ []) 0 0 0 0) (edges_kept 1 1 0 0 0 0)
    ∷ row (edges_at (0x7ff8_0000_0000_0000 ∷ 0 ∷ 0 ∷ []) (0 ∷ 0 ∷ 1 ∷ []) 0 0 0 0) (edges_kept 4 0 0 0 0 0)
    ∷ row (edges_at (0 ∷ 0 ∷ 0 ∷ []) (0 ∷ 0 ∷ 1 ∷ []) 0 0 0 0) (edges_kept 5 0 0 0 0 0)
    ∷ row (edges_at (replicate 15 0) (0 ∷ 2 ∷ 3 ∷ 1 ∷ 2 ∷ 3 ∷ 2 ∷ 3 ∷ 4 ∷ []) 18 9 9 335) (edges_kept 6 3 18 9 9 335)
    -- 7 at the position among all edges; one face three times on one edge of its own
    ∷ row (edges_at (replicate 15 0) (0 ∷ 2 ∷ 3 ∷ 1 ∷ 2 ∷ 3 ∷ 2 ∷ 3 ∷ 4 ∷ []) 18 9 9 336) (edges_kept 7 4 18 9 9 336)
    ∷ row (edges_at (replicate 3 0) (0 ∷ 0 ∷ 0 ∷ []) 6 3 3 144) (edges_kept 7 0 6 3 3 144)
    ∷ []

-- every row holds
pub edges_refused : faults edges_refusals ≡ []
unfolding edges_refusals edges_at edges_kept every_word every_rule
edges_refused = refl

-- of loop calls
pub loops_refusals : List Row
loops_refusals =
    -- rooms exactly as long as stated for three points and one face, and each of them one short
    row (loops_at (replicate 9 0) (0 ∷ 1 ∷ 2 ∷ []) 3 3 176) ((3 ∷ 1 ∷ []) ∷ (2 ∷ 1 ∷ 0 ∷ []) ∷ (3 ∷ 0 ∷ 0 ∷ []) ∷ replicate 176 0 ∷ [])
    ∷ row (loops_at (replicate 9 0) (0 ∷ 1 ∷ 2 ∷ []) 2 3 176) (loops_kept 6 0 2 3 176)
    ∷ row (loops_at (replicate 9 0) (0 ∷ 1 ∷ 2 ∷ []) 3 2 176) (loops_kept 6 1 3 2 176)
    ∷ row (loops_at (replicate 9 0) (0 ∷ 1 ∷ 2 ∷ []) 3 3 175) (loops_kept 6 2 3 3 175)
    -- two faults in one input: 1 and 1, 1 and 4, 4 and 5, 5 and 6, 6 and 7, 6 and 8, 7 and 8
    ∷ row (loops_at (0 ∷ 0 ∷ []) (0 ∷ []) 0 0 0) (loops_kept 1 0 0 0 0)
    ∷ row (loops_at (0x7ff8_0000_0000_0000 ∷ 0 ∷ 0 ∷ []) (0 ∷ []) 0 0 0) (loops_kept 1 1 0 0 0)
    ∷ row (loops_at (0x7ff8_0000_0000_0000 ∷ 0 ∷ 0 ∷ []) (0 ∷ 0 ∷ 1 ∷ []) 0 0 0) (loops_kept 4 0 0 0 0)
    ∷ row (loops_at (0 ∷ 0 ∷ 0 ∷ []) (0 ∷ 0 ∷ 1 ∷ []) 0 0 0) (loops_kept 5 0 0 0 0)
    ∷ row (loops_at (replicate 15 0) (0 ∷ 2 ∷ 3 ∷ 1 ∷ 2 ∷ 3 ∷ 2 ∷ 3 ∷ 4 ∷ []) 9 9 335) (loops_kept 6 2 9 9 335)
    ∷ row (loops_at (replicate 15 0) (0 ∷ 1 ∷ 2 ∷ 0 ∷ 3 ∷ 4 ∷ []) 6 6 271) (loops_kept 6 2 6 6 271)
    ∷ row (loops_at (replicate 15 0) (0 ∷ 2 ∷ 3 ∷ 1 ∷ 2 ∷ 3 ∷ 2 ∷ 3 ∷ 4 ∷ []) 9 9 336) (loops_kept 7 4 9 9 336)
    -- a point that no face uses is looked at too
    ∷ row (loops_at (0x7ff8_0000_0000_0000 ∷ 0 ∷ 0 ∷ []) [] 0 0 80) (loops_kept 4 0 0 0 80)
    -- 8 at the lowest vertex
    ∷ row (loops_at (replicate 18 0) (0 ∷ 1 ∷ 2 ∷ 2 ∷ 3 ∷ 4 ∷ 4 ∷ 5 ∷ 1 ∷ []) 9 9 352) (loops_kept 8 1 9 9 352)
    ∷ []

-- every row holds
pub loops_refused : faults loops_refusals ≡ []
unfolding loops_refusals loops_at loops_kept every_word every_rule
loops_refused = refl

-- of edge checks
pub check_refusals : List Row
check_refusals =
    -- a room exactly as long as stated, and one short
    row (check_shown (check 1 (0 ∷ 0 ∷ 0 ∷ []) (replicate 144 7))) ((0 ∷ []) ∷ replicate 144 0 ∷ [])
    ∷ row (check_shown (check 1 (0 ∷ 0 ∷ 0 ∷ []) (replicate 143 7))) ((6 ∷ 0 ∷ []) ∷ replicate 143 7 ∷ [])
    -- two faults in one input: 1 and 2, 2 and 5, 5 and 6
    ∷ row (check_shown (check 4194305 (0 ∷ []) (replicate 0 7))) ((1 ∷ 1 ∷ []) ∷ [] ∷ [])
    ∷ row (check_shown (check 4194305 (0 ∷ 4194305 ∷ 0 ∷ []) (replicate 0 7))) ((2 ∷ 0 ∷ []) ∷ [] ∷ [])
    ∷ row (check_shown (check 1 (0 ∷ 0 ∷ 1 ∷ []) (replicate 0 7))) ((5 ∷ 0 ∷ []) ∷ [] ∷ [])
    -- P up to 4,194,304, from both sides
    ∷ row (check_shown (check 4194304 [] (replicate 0 7))) ((6 ∷ 0 ∷ []) ∷ [] ∷ [])
    ∷ row (check_shown (check 4194305 [] (replicate 0 7))) ((2 ∷ 0 ∷ []) ∷ [] ∷ [])
    ∷ []

-- every row holds
pub checks_refused : faults check_refusals ≡ []
unfolding check_refusals every_word every_rule
checks_refused = refl

-- of patch calls
pub patch_refusals : List Row
patch_refusals =
    -- rooms exactly as long as stated for one patch, and each of them one short
    row (patches_at (0 ∷ 0 ∷ 0 ∷ []) (0 ∷ 0 ∷ 0 ∷ []) (0 ∷ []) 1 1 7 1 4) ((1 ∷ 7 ∷ 1 ∷ []) ∷ (1 ∷ []) ∷ replicate 7 0 ∷ (1 ∷ []) ∷ replicate 4 0 ∷ [])
    ∷ row (patches_at (0 ∷ 0 ∷ 0 ∷ []) (0 ∷ 0 ∷ 0 ∷ []) (0 ∷ []) 1 0 7 1 4) (patches_kept 6 0 0 7 1 4)
    ∷ row (patches_at (0 ∷ 0 ∷ 0 ∷ []) (0 ∷ 0 ∷ 0 ∷ []) (0 ∷ []) 1 1 6 1 4) (patches_kept 6 1 1 6 1 4)
    ∷ row (patches_at (0 ∷ 0 ∷ 0 ∷ []) (0 ∷ 0 ∷ 0 ∷ []) (0 ∷ []) 1 1 7 0 4) (patches_kept 6 2 1 7 0 4)
    ∷ row (patches_at (0 ∷ 0 ∷ 0 ∷ []) (0 ∷ 0 ∷ 0 ∷ []) (0 ∷ []) 1 1 7 1 3) (patches_kept 6 3 1 7 1 3)
    -- two faults in one input: 1 and 1, 1 and 2, 2 and 4, 4 and 5, 5 and 9, 9 and 10, 9 and 6, 10 and 6
    ∷ row (patches_at (0 ∷ []) (0 ∷ 0 ∷ []) (0 ∷ []) 1 0 0 0 0) (patches_kept 1 0 0 0 0 0)
    ∷ row (patches_at (0 ∷ 0 ∷ 0 ∷ []) (0 ∷ 0 ∷ []) (0 ∷ []) 1048577 0 0 0 0) (patches_kept 1 1 0 0 0 0)
    ∷ row (patches_at (0x7ff8_0000_0000_0000 ∷ 0 ∷ 0 ∷ []) (0 ∷ 0 ∷ 0 ∷ []) (0 ∷ []) 1048577 0 0 0 0) (patches_kept 2 2 0 0 0 0)
    ∷ row (patches_at (0x7ff8_0000_0000_0000 ∷ 0 ∷ 0 ∷ []) (0 ∷ 1 ∷ 0 ∷ []) (0 ∷ []) 1 0 0 0 0) (patches_kept 4 0 0 0 0 0)
    ∷ row (patches_at (0 ∷ 0 ∷ 0 ∷ []) (0 ∷ 1 ∷ 0 ∷ []) (1 ∷ []) 1 0 0 0 0) (patches_kept 5 0 0 0 0 0)
    ∷ row (patches_at (0 ∷ 0 ∷ 0 ∷ []) (0 ∷ 0 ∷ 0 ∷ []) (0 ∷ 1 ∷ []) 1 0 0 0 0) (patches_kept 9 1 0 0 0 0)
    ∷ row (patches_at (0 ∷ 0 ∷ 0 ∷ []) (0 ∷ 0 ∷ 0 ∷ []) (1 ∷ []) 1 0 0 0 0) (patches_kept 9 0 0 0 0 0)
    ∷ row (patches_at (0 ∷ 0 ∷ 0 ∷ []) (0 ∷ 0 ∷ 0 ∷ []) [] 1 0 0 0 0) (patches_kept 10 0 0 0 0 0)
    ∷ row (patches_at (0 ∷ 0 ∷ 0 ∷ []) (0 ∷ 0 ∷ 0 ∷ []) (0 ∷ 0 ∷ []) 1 0 0 0 0) (patches_kept 10 0 0 0 0 0)
    -- up to 1,048,576 patches, from both sides
    ∷ row (patches_at [] [] [] 1048576 0 0 0 0) (patches_kept 6 0 0 0 0 0)
    ∷ row (patches_at [] [] [] 1048577 0 0 0 0) (patches_kept 2 2 0 0 0 0)
    -- labels: 4,294,967,295 passes, and 4,294,967,294 does not
    ∷ row (patches_at (0 ∷ 0 ∷ 0 ∷ []) (0 ∷ 0 ∷ 0 ∷ []) (4294967295 ∷ []) 1 0 0 0 0) (patches_kept 6 0 0 0 0 0)
    ∷ row (patches_at (0 ∷ 0 ∷ 0 ∷ []) (0 ∷ 0 ∷ 0 ∷ []) (4294967294 ∷ []) 1 0 0 0 0) (patches_kept 9 0 0 0 0 0)
    ∷ []

-- every row holds
pub patches_refused : faults patch_refusals ≡ []
unfolding patch_refusals patches_at patches_kept every_word every_rule
patches_refused = refl

-- of report lines
pub line_refusals : List Row
line_refusals =
    -- a room of 512 bytes is enough, one of 511 is not
    row (check_shown (write_line (replicate 10 0 ++ (5 ∷ [])) (replicate 512 7))) ((27 ∷ []) ∷ (bytes "5 isolated vertices removed" ++ replicate 485 0) ∷ [])
    ∷ row (check_shown (write_line (replicate 11 0) (replicate 511 7))) ((6 ∷ 0 ∷ []) ∷ replicate 511 7 ∷ [])
    -- 1 before 6; ten counts and twelve
    ∷ row (check_shown (write_line (replicate 10 0) [])) ((1 ∷ 2 ∷ []) ∷ [] ∷ [])
    ∷ row (check_shown (write_line (replicate 12 0) [])) ((1 ∷ 2 ∷ []) ∷ [] ∷ [])
    -- one digit and two; the first number is a sum
    ∷ row (check_shown (write_line (4 ∷ 5 ∷ 10 ∷ 99 ∷ 100 ∷ replicate 6 0) (replicate 512 7))) ((102 ∷ []) ∷ (bytes "9 degenerate faces removed, 10 duplicate faces removed, 99 non-manifold edges, 100 faces dropped there" ++ replicate 410 0) ∷ [])
    ∷ []

-- every row holds
pub lines_refused : faults line_refusals ≡ []
unfolding line_refusals every_word every_rule
lines_refused = refl

-- ---- 2, where a list would be too long to be written: of any input whose lengths are multiples of 3, whatever else is wrong with it

-- a repair of more than 4,194,304 points
pub repair_points : (points : List Float) (faces : List ℕ) (s : Float) (options : ℕ) (r : RepairRooms) → eqb (length points % 3) 0 ≡ true →
    eqb (length faces % 3) 0 ≡ true → leb (length points / 3) 4194304 ≡ false → repair_check points faces s options r ≡ no 2 0
unfolding repair_check decided unless no1 no2
repair_points points faces s options r p f many = rw (p, f, many)

-- a repair of more than 1,048,576 faces
pub repair_faces : (points : List Float) (faces : List ℕ) (s : Float) (options : ℕ) (r : RepairRooms) → eqb (length points % 3) 0 ≡ true →
    eqb (length faces % 3) 0 ≡ true → leb (length points / 3) 4194304 ≡ true → leb (length faces / 3) 1048576 ≡ false →
    repair_check points faces s options r ≡ no 2 1
unfolding repair_check decided unless no1 no2
repair_faces points faces s options r p f few many = rw (p, f, few, many)

-- an edge call for more than 4,194,304 points
pub edges_points : (points : List Float) (faces : List ℕ) (r : EdgesRooms) → eqb (length points % 3) 0 ≡ true →
    eqb (length faces % 3) 0 ≡ true → leb (length points / 3) 4194304 ≡ false → edges_check points faces r ≡ no 2 0
unfolding edges_check decided unless no1 no2
edges_points points faces r p f many = rw (p, f, many)

-- an edge call for more than 1,048,576 faces
pub edges_faces : (points : List Float) (faces : List ℕ) (r : EdgesRooms) → eqb (length points % 3) 0 ≡ true →
    eqb (length faces % 3) 0 ≡ true → leb (length points / 3) 4194304 ≡ true → leb (length faces / 3) 1048576 ≡ false →
    edges_check points faces r ≡ no 2 1
unfolding edges_check decided unless no1 no2
edges_faces points faces r p f few many = rw (p, f, few, many)

-- a loop call for more than 4,194,304 points
pub loops_points : (points : List Float) (faces : List ℕ) (r : LoopsRooms) → eqb (length points % 3) 0 ≡ true →
    eqb (length faces % 3) 0 ≡ true → leb (length points / 3) 4194304 ≡ false → loops_check points faces r ≡ no 2 0
unfolding loops_check decided unless no1 no2
loops_points points faces r p f many = rw (p, f, many)

-- a loop call for more than 1,048,576 faces
pub loops_faces : (points : List Float) (faces : List ℕ) (r : LoopsRooms) → eqb (length points % 3) 0 ≡ true →
    eqb (length faces % 3) 0 ≡ true → leb (length points / 3) 4194304 ≡ true → leb (length faces / 3) 1048576 ≡ false →
    loops_check points faces r ≡ no 2 1
unfolding loops_check decided unless no1 no2
loops_faces points faces r p f few many = rw (p, f, few, many)

-- an edge check of more than 1,048,576 faces
pub check_faces : (P : ℕ) (faces work : List ℕ) → eqb (length faces % 3) 0 ≡ true → leb P 4194304 ≡ true →
    leb (length faces / 3) 1048576 ≡ false → check_check P faces work ≡ no 2 1
unfolding check_check decided unless no1 no2
check_faces P faces work f few many = rw (f, few, many)

-- a patch call for more than 4,194,304 points
pub patch_points : (points : List Float) (faces labels : List ℕ) (C : ℕ) (r : PatchesRooms) → eqb (length points % 3) 0 ≡ true →
    eqb (length faces % 3) 0 ≡ true → leb (length points / 3) 4194304 ≡ false → patches_check points faces labels C r ≡ no 2 0
unfolding patches_check decided unless no1 no2
patch_points points faces labels C r p f many = rw (p, f, many)

-- a patch call for more than 1,048,576 faces
pub patch_faces : (points : List Float) (faces labels : List ℕ) (C : ℕ) (r : PatchesRooms) → eqb (length points % 3) 0 ≡ true →
    eqb (length faces % 3) 0 ≡ true → leb (length points / 3) 4194304 ≡ true → leb (length faces / 3) 1048576 ≡ false →
    patches_check points faces labels C r ≡ no 2 1
unfolding patches_check decided unless no1 no2
patch_faces points faces labels C r p f few many = rw (p, f, few, many)

-- a file of more than 1,048,576 facets
pub stl_facets : (file : List ℕ) (r : StlRooms) → eqb (length file) (84 + 50 * facets file) ≡ true → leb (facets file) 1048576 ≡ false →
    stl_check file r ≡ no 2 1
unfolding stl_check no12 decided unless no2
stl_facets file r whole many = rw (whole, many)
