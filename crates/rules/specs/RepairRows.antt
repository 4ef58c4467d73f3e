-- Repairs, each by the call in rooms that hold something, one entry too long: the answer and every room, as document 01 has them.
use Rattle.std.specs.Prelude.{◌≡◌, refl, List, [], ◌∷◌, ◌++◌, ℕ, replicate}
use Rattle.rules.specs.CallRows.{row, faults, repairing, repaired_to, legs, high, every_word}
use Rattle.rules.specs.Open.{every_rule}
use Rattle.rules.specs.Bench.{Row}

-- no pass, and passes 1 and 2
pub face_rows : List Row
face_rows =
    -- no points, no faces, all passes: the rooms are cleared up to what is stated for none
    row (repairing [] [] 0 63)
    (repaired_to 0 0 [] [] (0 ∷ 0 ∷ 0 ∷ 0 ∷ 0 ∷ 0 ∷ 0 ∷ 0 ∷ 0 ∷ 0 ∷ 0 ∷ []) [])
    -- no pass: the input is the answer, zeros keep their signs
    ∷ row (repairing (0 ∷ 0x8000_0000_0000_0000 ∷ 0x3ff0_0000_0000_0000 ∷ 0x4000_0000_0000_0000 ∷ 0 ∷ 0 ∷ []) (0 ∷ 1 ∷ 0 ∷ []) 0x3ff0_0000_0000_0000 0)
    (repaired_to 2 1 (0 ∷ 0x8000_0000_0000_0000 ∷ 0x3ff0_0000_0000_0000 ∷ 0x4000_0000_0000_0000 ∷ 0 ∷ 0 ∷ []) (0 ∷ 1 ∷ 0 ∷ []) (0 ∷ 0 ∷ 0 ∷ 0 ∷ 0 ∷ 0 ∷ 0 ∷ 0 ∷ 0 ∷ 0 ∷ 0 ∷ []) (0 ∷ []))
    -- the threshold is multiplied by |e1| first: by s·(|e1|·|e2|) this face would leave
    ∷ row (repairing (0xbfb9_9999_9999_999a ∷ 0 ∷ 0xbfec_cccc_cccc_cccd ∷ 0xbfe0_0000_0000_0000 ∷ 0x3fd9_9999_9999_999a ∷ 0x3fe9_9999_9999_999a ∷ 0x3fc9_9999_9999_999a ∷ 0x3fec_cccc_cccc_cccd ∷ 0x3fb9_9999_9999_999a ∷ []) (0 ∷ 1 ∷ 2 ∷ []) 0x3fe3_cd38_b1b7_73f1 1)
    (repaired_to 3 1 (0xbfb9_9999_9999_999a ∷ 0 ∷ 0xbfec_cccc_cccc_cccd ∷ 0xbfe0_0000_0000_0000 ∷ 0x3fd9_9999_9999_999a ∷ 0x3fe9_9999_9999_999a ∷ 0x3fc9_9999_9999_999a ∷ 0x3fec_cccc_cccc_cccd ∷ 0x3fb9_9999_9999_999a ∷ []) (0 ∷ 1 ∷ 2 ∷ []) (0 ∷ 0 ∷ 0 ∷ 0 ∷ 0 ∷ 0 ∷ 0 ∷ 0 ∷ 0 ∷ 0 ∷ 0 ∷ []) (0 ∷ []))
    -- and this one would stay; it stays too if `<` is asked for `<=`
    ∷ row (repairing (0x3fe3_3333_3333_3333 ∷ 0xbfec_cccc_cccc_cccd ∷ 0x3fe3_3333_3333_3333 ∷ 0x3fc9_9999_9999_999a ∷ 0xbfe6_6666_6666_6666 ∷ 0xbfe3_3333_3333_3333 ∷ 0x3fd3_3333_3333_3333 ∷ 0xbfd3_3333_3333_3333 ∷ 0x3fe3_3333_3333_3333 ∷ []) (0 ∷ 1 ∷ 2 ∷ []) 0x3fee_b9d1_8242_3bc9 1)
    (repaired_to 3 1 (0x3fe3_3333_3333_3333 ∷ 0xbfec_cccc_cccc_cccd ∷ 0x3fe3_3333_3333_3333 ∷ 0x3fc9_9999_9999_999a ∷ 0xbfe6_6666_6666_6666 ∷ 0xbfe3_3333_3333_3333 ∷ 0x3fd3_3333_3333_3333 ∷ 0xbfd3_3333_3333_3333 ∷ 0x3fe3_3333_3333_3333 ∷ []) [] (0 ∷ 1 ∷ 0 ∷ 0 ∷ 0 ∷ 0 ∷ 0 ∷ 0 ∷ 0 ∷ 0 ∷ 0 ∷ []) [])
    -- the sine is asked at corner 0 alone: of the unit legs it is 1 at corner 0 of the first face, and root(1/2), which is below s = 3/4, at that of the others
    ∷ row (repairing legs (0 ∷ 1 ∷ 2 ∷ 1 ∷ 2 ∷ 0 ∷ 2 ∷ 0 ∷ 1 ∷ []) 0x3fe8_0000_0000_0000 1)
    (repaired_to 5 3 legs (0 ∷ 1 ∷ 2 ∷ []) (0 ∷ 2 ∷ 0 ∷ 0 ∷ 0 ∷ 0 ∷ 0 ∷ 0 ∷ 0 ∷ 0 ∷ 0 ∷ []) (0 ∷ []))
    -- pass 1 before pass 2: both faces are degenerate, and neither is counted as a duplicate
    ∷ row (repairing (replicate 6 0) (0 ∷ 0 ∷ 1 ∷ 0 ∷ 1 ∷ 0 ∷ []) 0 3)
    (repaired_to 2 2 (replicate 6 0) [] (2 ∷ 0 ∷ 0 ∷ 0 ∷ 0 ∷ 0 ∷ 0 ∷ 0 ∷ 0 ∷ 0 ∷ 0 ∷ []) [])
    -- pass 2: sorted corners, with their repetitions: 0 0 1 and 0 1 1 are different; of equal ones the first stays as it stands
    ∷ row (repairing (replicate 9 0) (2 ∷ 0 ∷ 1 ∷ 0 ∷ 0 ∷ 1 ∷ 0 ∷ 1 ∷ 1 ∷ 1 ∷ 0 ∷ 0 ∷ 0 ∷ 1 ∷ 2 ∷ 1 ∷ 2 ∷ 0 ∷ []) 0 2)
    (repaired_to 3 6 (replicate 9 0) (2 ∷ 0 ∷ 1 ∷ 0 ∷ 0 ∷ 1 ∷ 0 ∷ 1 ∷ 1 ∷ []) (0 ∷ 0 ∷ 3 ∷ 0 ∷ 0 ∷ 0 ∷ 0 ∷ 0 ∷ 0 ∷ 0 ∷ 0 ∷ []) (0 ∷ 1 ∷ 2 ∷ []))
    ∷ []

-- every row holds
pub faces_so : faults face_rows ≡ []
unfolding face_rows every_word every_rule
faces_so = refl

-- pass 1: why a face leaves
pub why_rows : List Row
why_rows =
    -- each kind with a good face between: 0 0 1 and 3 3 3 repeat a corner, of 0 2 3 the corners are in line
    row (repairing legs (0 ∷ 0 ∷ 1 ∷ 2 ∷ 1 ∷ 0 ∷ 3 ∷ 3 ∷ 3 ∷ 0 ∷ 2 ∷ 3 ∷ []) 0x3f50_0000_0000_0000 1)
    (repaired_to 5 4 legs (2 ∷ 1 ∷ 0 ∷ []) (2 ∷ 1 ∷ 0 ∷ 0 ∷ 0 ∷ 0 ∷ 0 ∷ 0 ∷ 0 ∷ 0 ∷ 0 ∷ []) (1 ∷ []))
    -- corners 1 and 2, or 2 and 0, are repeated as well as 0 and 1; at s = 1 every face of the legs is thin too, and a repeated corner wins
    ∷ row (repairing legs (0 ∷ 1 ∷ 1 ∷ 1 ∷ 0 ∷ 1 ∷ 0 ∷ 1 ∷ 2 ∷ 2 ∷ 2 ∷ 0 ∷ []) 0x3ff0_0000_0000_0000 1)
    (repaired_to 5 4 legs [] (3 ∷ 1 ∷ 0 ∷ 0 ∷ 0 ∷ 0 ∷ 0 ∷ 0 ∷ 0 ∷ 0 ∷ 0 ∷ []) [])
    -- corners are compared by number: three points at one place are thin
    ∷ row (repairing (replicate 9 0) (0 ∷ 1 ∷ 2 ∷ []) 0 1)
    (repaired_to 3 1 (replicate 9 0) [] (0 ∷ 1 ∷ 0 ∷ 0 ∷ 0 ∷ 0 ∷ 0 ∷ 0 ∷ 0 ∷ 0 ∷ 0 ∷ []) [])
    -- without pass 1 neither is counted
    ∷ row (repairing (replicate 9 0) (0 ∷ 1 ∷ 2 ∷ 0 ∷ 0 ∷ 1 ∷ []) 0x3ff0_0000_0000_0000 2)
    (repaired_to 3 2 (replicate 9 0) (0 ∷ 1 ∷ 2 ∷ 0 ∷ 0 ∷ 1 ∷ []) (replicate 11 0) (0 ∷ 1 ∷ []))
    ∷ []

-- every row holds
pub why_so : faults why_rows ≡ []
unfolding why_rows every_word every_rule
why_so = refl

-- (0,0,0) (2^-548,0,0) (0,2^-548,0) (0,2^100,0) (0,0,2^100)
tiny : List ℕ
tiny = 0 ∷ 0 ∷ 0 ∷ 0x1db0_0000_0000_0000 ∷ 0 ∷ 0 ∷ 0 ∷ 0x1db0_0000_0000_0000 ∷ 0 ∷ 0 ∷ 0x4630_0000_0000_0000 ∷ 0 ∷ 0 ∷ 0 ∷ 0x4630_0000_0000_0000 ∷ []

-- pass 3
pub crowd_rows : List Row
crowd_rows =
    -- pass 3 ranks by quality, whose steps decide here in the last place: a triangle from each of its corners, all walking alike
    row (repairing (0xbfd9_9999_9999_999a ∷ 0xbfc9_9999_9999_999a ∷ 0x3fe9_9999_9999_999a ∷ 0x3fb9_9999_9999_999a ∷ 0x3fc9_9999_9999_999a ∷ 0xbfb9_9999_9999_999a ∷ 0x3fd9_9999_9999_999a ∷ 0x3fd9_9999_9999_999a ∷ 0x3fe3_3333_3333_3333 ∷ []) (0 ∷ 1 ∷ 2 ∷ 1 ∷ 2 ∷ 0 ∷ 2 ∷ 0 ∷ 1 ∷ []) 0 4)
    (repaired_to 3 3 (0xbfd9_9999_9999_999a ∷ 0xbfc9_9999_9999_999a ∷ 0x3fe9_9999_9999_999a ∷ 0x3fb9_9999_9999_999a ∷ 0x3fc9_9999_9999_999a ∷ 0xbfb9_9999_9999_999a ∷ 0x3fd9_9999_9999_999a ∷ 0x3fd9_9999_9999_999a ∷ 0x3fe3_3333_3333_3333 ∷ []) (1 ∷ 2 ∷ 0 ∷ 2 ∷ 0 ∷ 1 ∷ []) (0 ∷ 0 ∷ 0 ∷ 3 ∷ 1 ∷ 0 ∷ 0 ∷ 0 ∷ 0 ∷ 0 ∷ 0 ∷ []) (1 ∷ 2 ∷ []))
    -- the next whose walk differs is taken by rank, not by face order: face 0 ranks below face 2
    ∷ row (repairing high (1 ∷ 0 ∷ 3 ∷ 0 ∷ 1 ∷ 2 ∷ 1 ∷ 0 ∷ 4 ∷ []) 0 4)
    (repaired_to 5 3 high (0 ∷ 1 ∷ 2 ∷ 1 ∷ 0 ∷ 4 ∷ []) (0 ∷ 0 ∷ 0 ∷ 1 ∷ 1 ∷ 0 ∷ 0 ∷ 0 ∷ 0 ∷ 0 ∷ 0 ∷ []) (1 ∷ 2 ∷ []))
    -- so is the second entry where none differs
    ∷ row (repairing high (0 ∷ 1 ∷ 3 ∷ 0 ∷ 1 ∷ 2 ∷ 0 ∷ 1 ∷ 4 ∷ []) 0 4)
    (repaired_to 5 3 high (0 ∷ 1 ∷ 2 ∷ 0 ∷ 1 ∷ 4 ∷ []) (0 ∷ 0 ∷ 0 ∷ 1 ∷ 1 ∷ 0 ∷ 0 ∷ 0 ∷ 0 ∷ 0 ∷ 0 ∷ []) (1 ∷ 2 ∷ []))
    -- a walk is from the lower to the higher end: 0 1 0 walks like 0 1 2, though it goes back too, and 1 0 3 is kept
    ∷ row (repairing (0 ∷ 0 ∷ 0 ∷ 0x3ff0_0000_0000_0000 ∷ 0 ∷ 0 ∷ 0 ∷ 0x3ff0_0000_0000_0000 ∷ 0 ∷ 0 ∷ 0 ∷ 0 ∷ []) (0 ∷ 1 ∷ 2 ∷ 0 ∷ 1 ∷ 0 ∷ 1 ∷ 0 ∷ 3 ∷ []) 0 4)
    (repaired_to 4 3 (0 ∷ 0 ∷ 0 ∷ 0x3ff0_0000_0000_0000 ∷ 0 ∷ 0 ∷ 0 ∷ 0x3ff0_0000_0000_0000 ∷ 0 ∷ 0 ∷ 0 ∷ 0 ∷ []) (0 ∷ 1 ∷ 2 ∷ 1 ∷ 0 ∷ 3 ∷ []) (0 ∷ 0 ∷ 0 ∷ 1 ∷ 1 ∷ 0 ∷ 0 ∷ 0 ∷ 0 ∷ 0 ∷ 0 ∷ []) (0 ∷ 2 ∷ []))
    -- where the sum is 0 the quality is 0, below any other: face 0 has sides of 2^-548, whose squares vanish, and the others reach to 2^100
    ∷ row (repairing tiny (0 ∷ 1 ∷ 2 ∷ 0 ∷ 1 ∷ 3 ∷ 0 ∷ 1 ∷ 4 ∷ []) 0 4)
    (repaired_to 5 3 tiny (0 ∷ 1 ∷ 3 ∷ 0 ∷ 1 ∷ 4 ∷ []) (0 ∷ 0 ∷ 0 ∷ 1 ∷ 1 ∷ 0 ∷ 0 ∷ 0 ∷ 0 ∷ 0 ∷ 0 ∷ []) (1 ∷ 2 ∷ []))
    -- a face kept by one entry is not marked by another
    ∷ row (repairing (replicate 3 0) (0 ∷ 0 ∷ 0 ∷ []) 0 4)
    (repaired_to 1 1 (replicate 3 0) (0 ∷ 0 ∷ 0 ∷ []) (0 ∷ 0 ∷ 0 ∷ 1 ∷ 0 ∷ 0 ∷ 0 ∷ 0 ∷ 0 ∷ 0 ∷ 0 ∷ []) (0 ∷ []))
    ∷ []

-- every row holds
pub crowds_so : faults crowd_rows ≡ []
unfolding crowd_rows tiny every_word every_rule
crowds_so = refl

-- pass 4
pub turn_rows : List Row
turn_rows =
    -- pass 4: the order of starts, of the stack and of steps, and which corners are exchanged, all show in this answer
    row (repairing (replicate 15 0) (2 ∷ 3 ∷ 1 ∷ 2 ∷ 0 ∷ 1 ∷ 4 ∷ 0 ∷ 2 ∷ 3 ∷ 2 ∷ 0 ∷ []) 0 16)
    (repaired_to 5 4 (replicate 15 0) (2 ∷ 3 ∷ 1 ∷ 2 ∷ 1 ∷ 0 ∷ 4 ∷ 2 ∷ 0 ∷ []) (0 ∷ 0 ∷ 0 ∷ 0 ∷ 0 ∷ 1 ∷ 0 ∷ 0 ∷ 2 ∷ 1 ∷ 0 ∷ []) (0 ∷ 1 ∷ 2 ∷ []))
    -- the order of users shows in this one
    ∷ row (repairing (replicate 15 0) (2 ∷ 0 ∷ 1 ∷ 4 ∷ 0 ∷ 1 ∷ 0 ∷ 3 ∷ 1 ∷ 3 ∷ 1 ∷ 4 ∷ []) 0 16)
    (repaired_to 5 4 (replicate 15 0) (2 ∷ 0 ∷ 1 ∷ 4 ∷ 1 ∷ 0 ∷ []) (0 ∷ 0 ∷ 0 ∷ 0 ∷ 0 ∷ 2 ∷ 0 ∷ 0 ∷ 2 ∷ 1 ∷ 0 ∷ []) (0 ∷ 1 ∷ []))
    -- a marked component before a sound one: the mark is not carried over
    ∷ row (repairing (replicate 15 0) (0 ∷ 1 ∷ 2 ∷ 0 ∷ 1 ∷ 3 ∷ 0 ∷ 1 ∷ 4 ∷ 2 ∷ 3 ∷ 4 ∷ []) 0 16)
    (repaired_to 5 4 (replicate 15 0) (0 ∷ 1 ∷ 2 ∷ 0 ∷ 3 ∷ 1 ∷ 2 ∷ 3 ∷ 4 ∷ []) (0 ∷ 0 ∷ 0 ∷ 0 ∷ 0 ∷ 1 ∷ 0 ∷ 0 ∷ 2 ∷ 1 ∷ 0 ∷ []) (0 ∷ 1 ∷ 3 ∷ []))
    -- a directed edge keeps the best by quality, not by face order: face 1 ranks below face 2
    ∷ row (repairing high (0 ∷ 1 ∷ 2 ∷ 0 ∷ 1 ∷ 3 ∷ 0 ∷ 1 ∷ 4 ∷ []) 0 16)
    (repaired_to 5 3 high (0 ∷ 1 ∷ 2 ∷ 0 ∷ 4 ∷ 1 ∷ []) (0 ∷ 0 ∷ 0 ∷ 0 ∷ 0 ∷ 1 ∷ 0 ∷ 0 ∷ 2 ∷ 1 ∷ 0 ∷ []) (0 ∷ 2 ∷ []))
    -- the second half marks the first entry's own face if it repeats
    ∷ row (repairing (replicate 3 0) (0 ∷ 0 ∷ 0 ∷ []) 0 16)
    (repaired_to 1 1 (replicate 3 0) [] (0 ∷ 0 ∷ 0 ∷ 0 ∷ 0 ∷ 1 ∷ 0 ∷ 0 ∷ 0 ∷ 0 ∷ 0 ∷ []) [])
    ∷ []

-- every row holds
pub turns_so : faults turn_rows ≡ []
unfolding turn_rows every_word every_rule
turns_so = refl

-- passes 5 and 6
pub fan_rows : List Row
fan_rows =
    -- pass 5: a copy of the point itself; vertices rise: 0 gets copy 7, 1 gets copy 8
    row (repairing (0x3ff0_0000_0000_0000 ∷ 0 ∷ 0 ∷ 0 ∷ 0x3ff0_0000_0000_0000 ∷ 0 ∷ 0 ∷ 0 ∷ 0x3ff0_0000_0000_0000 ∷ 0x4000_0000_0000_0000 ∷ 0 ∷ 0 ∷ 0 ∷ 0x4000_0000_0000_0000 ∷ 0 ∷ 0 ∷ 0 ∷ 0x4000_0000_0000_0000 ∷ 0x3ff0_0000_0000_0000 ∷ 0x3ff0_0000_0000_0000 ∷ 0 ∷ []) (0 ∷ 1 ∷ 2 ∷ 0 ∷ 3 ∷ 4 ∷ 1 ∷ 5 ∷ 6 ∷ []) 0 8)
    (repaired_to 7 3 (0x3ff0_0000_0000_0000 ∷ 0 ∷ 0 ∷ 0 ∷ 0x3ff0_0000_0000_0000 ∷ 0 ∷ 0 ∷ 0 ∷ 0x3ff0_0000_0000_0000 ∷ 0x4000_0000_0000_0000 ∷ 0 ∷ 0 ∷ 0 ∷ 0x4000_0000_0000_0000 ∷ 0 ∷ 0 ∷ 0 ∷ 0x4000_0000_0000_0000 ∷ 0x3ff0_0000_0000_0000 ∷ 0x3ff0_0000_0000_0000 ∷ 0 ∷ 0x3ff0_0000_0000_0000 ∷ 0 ∷ 0 ∷ 0 ∷ 0x3ff0_0000_0000_0000 ∷ 0 ∷ []) (0 ∷ 1 ∷ 2 ∷ 7 ∷ 3 ∷ 4 ∷ 8 ∷ 5 ∷ 6 ∷ []) (0 ∷ 0 ∷ 0 ∷ 0 ∷ 0 ∷ 0 ∷ 2 ∷ 2 ∷ 0 ∷ 0 ∷ 0 ∷ []) (0 ∷ 1 ∷ 2 ∷ []))
    -- three fans at a vertex: counted once, two copies
    ∷ row (repairing (replicate 21 0) (0 ∷ 1 ∷ 2 ∷ 3 ∷ 4 ∷ 0 ∷ 5 ∷ 0 ∷ 6 ∷ []) 0 8)
    (repaired_to 7 3 (replicate 27 0) (0 ∷ 1 ∷ 2 ∷ 3 ∷ 4 ∷ 7 ∷ 5 ∷ 8 ∷ 6 ∷ []) (0 ∷ 0 ∷ 0 ∷ 0 ∷ 0 ∷ 0 ∷ 1 ∷ 2 ∷ 0 ∷ 0 ∷ 0 ∷ []) (0 ∷ 1 ∷ 2 ∷ []))
    -- pass 6: unused points leave, order is kept
    ∷ row (repairing (0x3ff0_0000_0000_0000 ∷ 0 ∷ 0 ∷ 0x4000_0000_0000_0000 ∷ 0 ∷ 0 ∷ 0x4008_0000_0000_0000 ∷ 0 ∷ 0 ∷ 0x4010_0000_0000_0000 ∷ 0 ∷ 0 ∷ 0x4014_0000_0000_0000 ∷ 0 ∷ 0 ∷ []) (3 ∷ 1 ∷ 1 ∷ []) 0 32)
    (repaired_to 5 1 (0x4000_0000_0000_0000 ∷ 0 ∷ 0 ∷ 0x4010_0000_0000_0000 ∷ 0 ∷ 0 ∷ []) (1 ∷ 0 ∷ 0 ∷ []) (0 ∷ 0 ∷ 0 ∷ 0 ∷ 0 ∷ 0 ∷ 0 ∷ 0 ∷ 0 ∷ 0 ∷ 3 ∷ []) (0 ∷ []))
    ∷ []

-- every row holds
pub fans_so : faults fan_rows ≡ []
unfolding fan_rows every_word every_rule
fans_so = refl

-- two passes that follow each other, on faces 0 0 0, where the other order gives another answer
pub order_rows : List Row
order_rows =
    -- 2 before 3: the second face leaves as a duplicate, not at the edge (0,0)
    row (repairing (replicate 3 0) (replicate 6 0) 0 6)
    (repaired_to 1 2 (replicate 3 0) (replicate 3 0) (0 ∷ 0 ∷ 1 ∷ 1 ∷ 0 ∷ 0 ∷ 0 ∷ 0 ∷ 0 ∷ 0 ∷ 0 ∷ []) (0 ∷ []))
    -- 3 before 4: the edge is counted before the face leaves
    ∷ row (repairing (replicate 3 0) (replicate 3 0) 0 20)
    (repaired_to 1 1 (replicate 3 0) [] (0 ∷ 0 ∷ 0 ∷ 1 ∷ 0 ∷ 1 ∷ 0 ∷ 0 ∷ 0 ∷ 0 ∷ 0 ∷ []) [])
    -- 4 before 5: the face leaves and nothing is split
    ∷ row (repairing (replicate 3 0) (replicate 3 0) 0 24)
    (repaired_to 1 1 (replicate 3 0) [] (0 ∷ 0 ∷ 0 ∷ 0 ∷ 0 ∷ 1 ∷ 0 ∷ 0 ∷ 0 ∷ 0 ∷ 0 ∷ []) [])
    -- 5 before 6: of three points two are left unused and leave
    ∷ row (repairing (replicate 3 0) (replicate 3 0) 0 40)
    (repaired_to 1 1 (replicate 3 0) (replicate 3 0) (0 ∷ 0 ∷ 0 ∷ 0 ∷ 0 ∷ 0 ∷ 1 ∷ 2 ∷ 0 ∷ 0 ∷ 2 ∷ []) (0 ∷ []))
    ∷ []

-- every row holds
pub orders_so : faults order_rows ≡ []
unfolding order_rows every_word every_rule
orders_so = refl

-- where faces come from
pub origin_rows : List Row
origin_rows =
    -- two passes drop: face 0 leaves in pass 1, faces 2 and 3 in pass 2, and an origin is the place in the input
    row (repairing legs (0 ∷ 0 ∷ 1 ∷ 0 ∷ 1 ∷ 2 ∷ 0 ∷ 1 ∷ 2 ∷ 0 ∷ 2 ∷ 1 ∷ 3 ∷ 4 ∷ 0 ∷ []) 0 3)
    (repaired_to 5 5 legs (0 ∷ 1 ∷ 2 ∷ 3 ∷ 4 ∷ 0 ∷ []) (1 ∷ 0 ∷ 2 ∷ 0 ∷ 0 ∷ 0 ∷ 0 ∷ 0 ∷ 0 ∷ 0 ∷ 0 ∷ []) (1 ∷ 4 ∷ []))
    -- an exchange and a new number keep the origin
    ∷ row (repairing legs (0 ∷ 1 ∷ 2 ∷ 0 ∷ 1 ∷ 3 ∷ 0 ∷ 1 ∷ 4 ∷ []) 0 63)
    (repaired_to 5 3 (0 ∷ 0 ∷ 0 ∷ 0x3ff0_0000_0000_0000 ∷ 0 ∷ 0 ∷ 0 ∷ 0x3ff0_0000_0000_0000 ∷ 0 ∷ 0 ∷ 0xbff0_0000_0000_0000 ∷ 0 ∷ []) (0 ∷ 1 ∷ 2 ∷ 0 ∷ 3 ∷ 1 ∷ []) (0 ∷ 0 ∷ 0 ∷ 1 ∷ 1 ∷ 0 ∷ 0 ∷ 0 ∷ 1 ∷ 0 ∷ 1 ∷ []) (0 ∷ 1 ∷ []))
    -- so does a split that renames all corners
    ∷ row (repairing (replicate 3 0) (replicate 3 0) 0 8)
    (repaired_to 1 1 (replicate 9 0) (1 ∷ 1 ∷ 1 ∷ []) (0 ∷ 0 ∷ 0 ∷ 0 ∷ 0 ∷ 0 ∷ 1 ∷ 2 ∷ 0 ∷ 0 ∷ 0 ∷ []) (0 ∷ []))
    ∷ []

-- every row holds
pub origins_so : faults origin_rows ≡ []
unfolding origin_rows every_word every_rule
origins_so = refl

-- the unit legs, and a point (0,0,2) that no face uses
spare : List ℕ
spare = legs ++ (0 ∷ 0 ∷ 0x4000_0000_0000_0000 ∷ [])

-- five faces over them that give each pass something to do
five : List ℕ
five = 0 ∷ 0 ∷ 1 ∷ 0 ∷ 1 ∷ 2 ∷ 1 ∷ 2 ∷ 0 ∷ 0 ∷ 1 ∷ 3 ∷ 2 ∷ 4 ∷ 3 ∷ []

-- each pass under its own bit
pub bit_rows : List Row
bit_rows =
    -- pass 1
    row (repairing spare five 0x3f50_0000_0000_0000 1)
    (repaired_to 6 5 spare (0 ∷ 1 ∷ 2 ∷ 1 ∷ 2 ∷ 0 ∷ 0 ∷ 1 ∷ 3 ∷ 2 ∷ 4 ∷ 3 ∷ []) (1 ∷ 0 ∷ 0 ∷ 0 ∷ 0 ∷ 0 ∷ 0 ∷ 0 ∷ 0 ∷ 0 ∷ 0 ∷ []) (1 ∷ 2 ∷ 3 ∷ 4 ∷ []))
    -- pass 2
    ∷ row (repairing spare five 0x3f50_0000_0000_0000 2)
    (repaired_to 6 5 spare (0 ∷ 0 ∷ 1 ∷ 0 ∷ 1 ∷ 2 ∷ 0 ∷ 1 ∷ 3 ∷ 2 ∷ 4 ∷ 3 ∷ []) (0 ∷ 0 ∷ 1 ∷ 0 ∷ 0 ∷ 0 ∷ 0 ∷ 0 ∷ 0 ∷ 0 ∷ 0 ∷ []) (0 ∷ 1 ∷ 3 ∷ 4 ∷ []))
    -- pass 3
    ∷ row (repairing spare five 0x3f50_0000_0000_0000 4)
    (repaired_to 6 5 spare (0 ∷ 1 ∷ 2 ∷ 1 ∷ 2 ∷ 0 ∷ 2 ∷ 4 ∷ 3 ∷ []) (0 ∷ 0 ∷ 0 ∷ 1 ∷ 2 ∷ 0 ∷ 0 ∷ 0 ∷ 0 ∷ 0 ∷ 0 ∷ []) (1 ∷ 2 ∷ 4 ∷ []))
    -- pass 5
    ∷ row (repairing spare five 0x3f50_0000_0000_0000 8)
    (repaired_to 6 5 (0 ∷ 0 ∷ 0 ∷ 0x3ff0_0000_0000_0000 ∷ 0 ∷ 0 ∷ 0 ∷ 0x3ff0_0000_0000_0000 ∷ 0 ∷ 0 ∷ 0xbff0_0000_0000_0000 ∷ 0 ∷ 0 ∷ 0 ∷ 0x3ff0_0000_0000_0000 ∷ 0 ∷ 0 ∷ 0x4000_0000_0000_0000 ∷ 0 ∷ 0x3ff0_0000_0000_0000 ∷ 0 ∷ 0 ∷ 0xbff0_0000_0000_0000 ∷ 0 ∷ []) (0 ∷ 0 ∷ 1 ∷ 0 ∷ 1 ∷ 2 ∷ 1 ∷ 2 ∷ 0 ∷ 0 ∷ 1 ∷ 3 ∷ 6 ∷ 4 ∷ 7 ∷ []) (0 ∷ 0 ∷ 0 ∷ 0 ∷ 0 ∷ 0 ∷ 2 ∷ 2 ∷ 0 ∷ 0 ∷ 0 ∷ []) (0 ∷ 1 ∷ 2 ∷ 3 ∷ 4 ∷ []))
    -- pass 4
    ∷ row (repairing spare five 0x3f50_0000_0000_0000 16)
    (repaired_to 6 5 spare (0 ∷ 2 ∷ 1 ∷ 2 ∷ 4 ∷ 3 ∷ []) (0 ∷ 0 ∷ 0 ∷ 0 ∷ 0 ∷ 3 ∷ 0 ∷ 0 ∷ 3 ∷ 1 ∷ 0 ∷ []) (1 ∷ 4 ∷ []))
    -- pass 6
    ∷ row (repairing spare five 0x3f50_0000_0000_0000 32)
    (repaired_to 6 5 (0 ∷ 0 ∷ 0 ∷ 0x3ff0_0000_0000_0000 ∷ 0 ∷ 0 ∷ 0 ∷ 0x3ff0_0000_0000_0000 ∷ 0 ∷ 0 ∷ 0xbff0_0000_0000_0000 ∷ 0 ∷ 0 ∷ 0 ∷ 0x3ff0_0000_0000_0000 ∷ []) five (0 ∷ 0 ∷ 0 ∷ 0 ∷ 0 ∷ 0 ∷ 0 ∷ 0 ∷ 0 ∷ 0 ∷ 1 ∷ []) (0 ∷ 1 ∷ 2 ∷ 3 ∷ 4 ∷ []))
    -- all of them
    ∷ row (repairing spare five 0x3f50_0000_0000_0000 63)
    (repaired_to 6 5 (0 ∷ 0 ∷ 0 ∷ 0x3ff0_0000_0000_0000 ∷ 0 ∷ 0 ∷ 0 ∷ 0x3ff0_0000_0000_0000 ∷ 0 ∷ 0 ∷ 0xbff0_0000_0000_0000 ∷ 0 ∷ 0 ∷ 0 ∷ 0x3ff0_0000_0000_0000 ∷ 0 ∷ 0x3ff0_0000_0000_0000 ∷ 0 ∷ 0 ∷ 0xbff0_0000_0000_0000 ∷ 0 ∷ []) (0 ∷ 1 ∷ 2 ∷ 0 ∷ 3 ∷ 1 ∷ 5 ∷ 4 ∷ 6 ∷ []) (1 ∷ 0 ∷ 1 ∷ 0 ∷ 0 ∷ 0 ∷ 2 ∷ 2 ∷ 1 ∷ 0 ∷ 1 ∷ []) (1 ∷ 3 ∷ 4 ∷ []))
    ∷ []

-- every row holds
pub bits_so : faults bit_rows ≡ []
unfolding bit_rows spare five every_word every_rule
bits_so = refl
