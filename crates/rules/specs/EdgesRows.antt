-- Edge calls, loop calls and edge checks, each by the call in rooms that hold something, one entry too long: the answer and every room, as the documents have them.
use Rattle.std.specs.Prelude.{◌≡◌, refl, List, [], ◌∷◌, replicate}
use Rattle.rules.specs.CallRows.{row, faults, edging, edged_to, looping, looped_to, checking, checked_to, askew, every_word}
use Rattle.rules.specs.Open.{every_rule}
use Rattle.rules.specs.Bench.{Row}

-- edges, lengths, face edges
pub edges_rows : List Row
edges_rows =
    -- no faces: every room but work is as it was
    row (edging [] [])
    (edged_to 0 0 [] [] [])
    -- two faces: edges sorted by (lower, higher), so (0,3) before (1,2); their lengths, of which that of (1,3) is another if the squares are summed otherwise
    ∷ row (edging askew (0 ∷ 3 ∷ 1 ∷ 1 ∷ 3 ∷ 2 ∷ []))
    (edged_to 4 2 (0 ∷ 1 ∷ 0 ∷ 3 ∷ 1 ∷ 2 ∷ 1 ∷ 3 ∷ 2 ∷ 3 ∷ []) (0x3ff7_d6e7_0d6f_f66d ∷ 0x3ffa_a11a_4635_b928 ∷ 0x3feb_573f_7449_baa0 ∷ 0x3ff9_5948_cf1f_ed8e ∷ 0x3ff5_58be_dfaf_6cfa ∷ []) (3 ∷ 0 ∷ 1 ∷ 4 ∷ 2 ∷ 3 ∷ []))
    -- both sides of a face: three edges where six have room
    ∷ row (edging askew (0 ∷ 1 ∷ 2 ∷ 0 ∷ 2 ∷ 1 ∷ []))
    (edged_to 4 2 (0 ∷ 1 ∷ 0 ∷ 2 ∷ 1 ∷ 2 ∷ []) (0x3ff7_d6e7_0d6f_f66d ∷ 0x3fe8_9465_0449_4be2 ∷ 0x3feb_573f_7449_baa0 ∷ []) (2 ∷ 1 ∷ 0 ∷ 2 ∷ 0 ∷ 1 ∷ []))
    -- two faces apart
    ∷ row (edging (replicate 18 0) (2 ∷ 0 ∷ 1 ∷ 3 ∷ 5 ∷ 4 ∷ []))
    (edged_to 6 2 (0 ∷ 1 ∷ 0 ∷ 2 ∷ 1 ∷ 2 ∷ 3 ∷ 4 ∷ 3 ∷ 5 ∷ 4 ∷ 5 ∷ []) (replicate 6 0) (0 ∷ 2 ∷ 1 ∷ 5 ∷ 3 ∷ 4 ∷ []))
    -- a repeated corner: the edges (0,0) and (0,1), of which the second occurs twice
    ∷ row (edging (replicate 6 0) (0 ∷ 0 ∷ 1 ∷ []))
    (edged_to 2 1 (0 ∷ 0 ∷ 0 ∷ 1 ∷ []) (replicate 2 0) (1 ∷ 1 ∷ 0 ∷ []))
    -- boundaries that are not simple are no matter here: two faces that meet in one vertex; two that walk their common edge the same way; a repeated corner where another boundary goes on
    ∷ row (edging (replicate 15 0) (0 ∷ 1 ∷ 2 ∷ 0 ∷ 3 ∷ 4 ∷ []))
    (edged_to 5 2 (0 ∷ 1 ∷ 0 ∷ 2 ∷ 0 ∷ 3 ∷ 0 ∷ 4 ∷ 1 ∷ 2 ∷ 3 ∷ 4 ∷ []) (replicate 6 0) (4 ∷ 1 ∷ 0 ∷ 5 ∷ 3 ∷ 2 ∷ []))
    ∷ row (edging (replicate 12 0) (0 ∷ 1 ∷ 2 ∷ 0 ∷ 1 ∷ 3 ∷ []))
    (edged_to 4 2 (0 ∷ 1 ∷ 0 ∷ 2 ∷ 0 ∷ 3 ∷ 1 ∷ 2 ∷ 1 ∷ 3 ∷ []) (replicate 5 0) (3 ∷ 1 ∷ 0 ∷ 4 ∷ 2 ∷ 0 ∷ []))
    ∷ row (edging (replicate 12 0) (0 ∷ 0 ∷ 1 ∷ 0 ∷ 2 ∷ 3 ∷ []))
    (edged_to 4 2 (0 ∷ 0 ∷ 0 ∷ 1 ∷ 0 ∷ 2 ∷ 0 ∷ 3 ∷ 2 ∷ 3 ∷ []) (replicate 5 0) (1 ∷ 1 ∷ 0 ∷ 4 ∷ 3 ∷ 2 ∷ []))
    ∷ []

-- every row holds
pub edges_so : faults edges_rows ≡ []
unfolding edges_rows every_word every_rule
edges_so = refl

-- loops
pub loops_rows : List Row
loops_rows =
    -- no faces: every room but work is as it was
    row (looping [] [])
    (looped_to 0 0 [] [])
    -- two faces with one loop of four; where the points lie is no matter
    ∷ row (looping askew (0 ∷ 3 ∷ 1 ∷ 1 ∷ 3 ∷ 2 ∷ []))
    (looped_to 4 2 (1 ∷ 2 ∷ 3 ∷ 0 ∷ []) (4 ∷ []))
    -- both sides of a face have no boundary
    ∷ row (looping askew (0 ∷ 1 ∷ 2 ∷ 0 ∷ 2 ∷ 1 ∷ []))
    (looped_to 4 2 [] [])
    -- two loops, each from its lowest vertex and listed reversed; their ends are running totals
    ∷ row (looping (replicate 18 0) (2 ∷ 0 ∷ 1 ∷ 3 ∷ 5 ∷ 4 ∷ []))
    (looped_to 6 2 (2 ∷ 1 ∷ 0 ∷ 4 ∷ 5 ∷ 3 ∷ []) (3 ∷ 6 ∷ []))
    -- a repeated corner: the edge (0,0) occurs once and is a loop, the edge (0,1) occurs twice; where (0,0) occurs twice there is none
    ∷ row (looping (replicate 6 0) (0 ∷ 0 ∷ 1 ∷ []))
    (looped_to 2 1 (0 ∷ []) (1 ∷ []))
    ∷ row (looping (replicate 9 0) (0 ∷ 0 ∷ 1 ∷ 2 ∷ 0 ∷ 0 ∷ []))
    (looped_to 3 2 [] [])
    ∷ []

-- every row holds
pub loops_so : faults loops_rows ≡ []
unfolding loops_rows every_word every_rule
loops_so = refl

-- yes and no
pub check_rows : List Row
check_rows =
    -- no faces; both sides of a face; each side walked once
    row (checking 0 []) (checked_to 0 0 1)
    ∷ row (checking 3 (0 ∷ 1 ∷ 2 ∷ 0 ∷ 2 ∷ 1 ∷ [])) (checked_to 3 2 1)
    -- a directed edge twice
    ∷ row (checking 4 (0 ∷ 1 ∷ 2 ∷ 0 ∷ 1 ∷ 3 ∷ [])) (checked_to 4 2 0)
    -- a repeated corner, at each two places: no directed edge is used twice there
    ∷ row (checking 2 (0 ∷ 0 ∷ 1 ∷ [])) (checked_to 2 1 0)
    ∷ row (checking 2 (0 ∷ 1 ∷ 1 ∷ [])) (checked_to 2 1 0)
    ∷ row (checking 2 (0 ∷ 1 ∷ 0 ∷ [])) (checked_to 2 1 0)
    -- two groups at a point: two faces that share a corner alone; two closed shells with a common tip; one patch, all of it joined across edges, that
    -- meets point 2 twice
    ∷ row (checking 5 (0 ∷ 1 ∷ 2 ∷ 0 ∷ 3 ∷ 4 ∷ [])) (checked_to 5 2 0)
    ∷ row (checking 7 (0 ∷ 2 ∷ 1 ∷ 0 ∷ 1 ∷ 3 ∷ 1 ∷ 2 ∷ 3 ∷ 2 ∷ 0 ∷ 3 ∷ 0 ∷ 5 ∷ 4 ∷ 0 ∷ 4 ∷ 6 ∷ 4 ∷ 5 ∷ 6 ∷ 5 ∷ 0 ∷ 6 ∷ [])) (checked_to 7 8 0)
    ∷ row (checking 5 (0 ∷ 1 ∷ 2 ∷ 3 ∷ 4 ∷ 2 ∷ 3 ∷ 0 ∷ 4 ∷ 1 ∷ 0 ∷ 3 ∷ [])) (checked_to 5 4 0)
    -- one of the two shells; unused points, below, between and above the used ones
    ∷ row (checking 4 (0 ∷ 2 ∷ 1 ∷ 0 ∷ 1 ∷ 3 ∷ 1 ∷ 2 ∷ 3 ∷ 2 ∷ 0 ∷ 3 ∷ [])) (checked_to 4 4 1)
    ∷ row (checking 9 (4 ∷ 6 ∷ 2 ∷ 1 ∷ 7 ∷ 5 ∷ [])) (checked_to 9 2 1)
    ∷ []

-- every row holds
pub checks_so : faults check_rows ≡ []
unfolding check_rows every_word every_rule
checks_so = refl
