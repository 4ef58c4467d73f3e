-- No refusal has the number 0, so that to C the number 0 says that a call was accepted. Assumes nothing.
use mathlib.Core.Bool.{Bool}
use mathlib.Core.List.{List}
use Prim.Native.Nat.{ℕ, ◌<◌}
use native.Mathlib.Omega.{arith}
use lib.Ieee.{Float}
use Rattle.rules.specs.Refusal.{Check, decided, unless, at_first, no1, no1_counts, no2, no3_threshold, no3_options, no4, no5, no6, no9, no10}
use Rattle.rules.specs.Rooms.{Answer, outcome}
use Rattle.rules.specs.Edges.{no7, no8}
use Rattle.rules.specs.Patches.{Filter}
use Rattle.rules.specs.Calls.{RepairRooms, EdgesRooms, LoopsRooms, PatchesRooms, repair, repair_check, find_edges, edges_check, find_loops, loops_check, check, check_check, find_patches, patches_check, write_line, line_check, StlRooms, read_stl, stl_check, ReadPlyRooms, read_ply, read_ply_check, WritePlyRooms, write_ply, write_ply_check, ply_counts, ply_counts_check, ApplyRooms, apply_list, apply_check, ListRooms, write_list, list_check, PanelRooms, repair_panel, panel_check}
use Rattle.rules.specs.Stl.{no12}
use Rattle.rules.specs.Ply.{no13, no14}
use Rattle.rules.specs.Applying.{no15}
use Rattle.rules.specs.PanelCall.{no1_rows, no1_total}
use Rattle.rule_laws.proofs.Rising.{All}
use Rattle.rule_laws.proofs.Decided.{IfFound, found_by, found_first}
use Rattle.rule_laws.proofs.Called.{IfRefused, outcome_number}

-- a number is not 0
abbrev Counts : ℕ → Type 0
Counts n = 0 < n

-- a refusal's number is not 0
abbrev pub Numbered : Answer → Type 0
Numbered a = IfRefused Counts a

-- a check by a number that is not 0
by_number : (n p : ℕ) (b : Bool) → 0 < n → IfFound Counts (unless n p b)
by_number = found_by Counts

-- the one that decides is one of the list
decides : (cs : List Check) → All (IfFound Counts) cs → IfFound Counts (decided cs)
decides = found_first Counts

-- the answer is the check's
answers : {R : Type 0} (c : Check) (given after : R) (entries : List ℕ) → IfFound Counts c → Numbered (outcome c given entries after).answer
answers = outcome_number Counts

-- 1, at a place
one : (p l : ℕ) → IfFound Counts (no1 p l)
unfolding no1
one p l = by_number 1 p _ (omega arith)

-- 2
two : (p n most : ℕ) → IfFound Counts (no2 p n most)
unfolding no2
two p n most = by_number 2 p _ (omega arith)

-- a repair
pub repair_numbered : (points : List Float) (faces : List ℕ) (s : Float) (options : ℕ) (r : RepairRooms) → Numbered (repair points faces s options r).answer
unfolding repair repair_check no3_threshold no3_options no4 no5 no6 at_first
repair_numbered points faces s options r =
    answers (repair_check points faces s options r) _ _ _
    (decides _ (one 0 _, (one 1 _, (two 0 _ _, (two 1 _ _, (by_number 3 0 _ (omega arith), (by_number 3 1 _ (omega arith), (by_number 4 _ _ (omega arith), (by_number 5 _ _ (omega arith), (by_number 6 _ _ (omega arith), tt))))))))))

-- the edge call
pub edges_numbered : (points : List Float) (faces : List ℕ) (r : EdgesRooms) → Numbered (find_edges points faces r).answer
unfolding find_edges edges_check no4 no5 no6 no7 at_first
edges_numbered points faces r =
    answers (edges_check points faces r) _ _ _
    (decides _ (one 0 _, (one 1 _, (two 0 _ _, (two 1 _ _, (by_number 4 _ _ (omega arith), (by_number 5 _ _ (omega arith), (by_number 6 _ _ (omega arith), (by_number 7 _ _ (omega arith), tt)))))))))

-- the loop call
pub loops_numbered : (points : List Float) (faces : List ℕ) (r : LoopsRooms) → Numbered (find_loops points faces r).answer
unfolding find_loops loops_check no4 no5 no6 no7 no8 at_first
loops_numbered points faces r =
    answers (loops_check points faces r) _ _ _
    (decides _ (one 0 _, (one 1 _, (two 0 _ _, (two 1 _ _, (by_number 4 _ _ (omega arith), (by_number 5 _ _ (omega arith), (by_number 6 _ _ (omega arith), (by_number 7 _ _ (omega arith), (by_number 8 _ _ (omega arith), tt))))))))))

-- the edge check
pub check_numbered : (P : ℕ) (faces work : List ℕ) → Numbered (check P faces work).answer
unfolding check check_check no5 no6 at_first
check_numbered P faces work =
    answers (check_check P faces work) _ _ _
    (decides _ (one 1 _, (two 0 _ _, (two 1 _ _, (by_number 5 _ _ (omega arith), (by_number 6 _ _ (omega arith), tt))))))

-- the patch call
pub patches_numbered : (points : List Float) (faces labels : List ℕ) (C : ℕ) (by : Filter) (r : PatchesRooms) → Numbered (find_patches points faces labels C by r).answer
unfolding find_patches patches_check no4 no5 no6 no9 no10 at_first
patches_numbered points faces labels C by r =
    answers (patches_check points faces labels C r) _ _ _
    (decides _ (one 0 _, (one 1 _, (two 0 _ _, (two 1 _ _, (two 2 _ _, (by_number 4 _ _ (omega arith), (by_number 5 _ _ (omega arith), (by_number 9 _ _ (omega arith), (by_number 10 _ _ (omega arith), (by_number 6 _ _ (omega arith), tt)))))))))))

-- the report line
pub line_numbered : (counts room : List ℕ) → Numbered (write_line counts room).answer
unfolding write_line line_check no1_counts no6 at_first
line_numbered counts room = answers (line_check counts room) _ _ _ (decides _ (by_number 1 2 _ (omega arith), (by_number 6 _ _ (omega arith), tt)))

-- reading an STL file
pub read_numbered : (file : List ℕ) (r : StlRooms) → Numbered (read_stl file r).answer
unfolding read_stl stl_check no12 no4 no6 at_first
read_numbered file r =
    answers (stl_check file r) _ _ _
    (decides _ (by_number 12 0 _ (omega arith), (two 1 _ _, (by_number 4 _ _ (omega arith), (by_number 6 _ _ (omega arith), tt)))))

-- reading a PLY file
pub read_ply_numbered : (file : List ℕ) (r : ReadPlyRooms) → Numbered (read_ply file r).answer
unfolding read_ply read_ply_check no13 no14 no4 no5 no6 at_first
read_ply_numbered file r =
    answers (read_ply_check file r) _ _ _
    (decides _ (by_number 13 0 _ (omega arith), (two 0 _ _, (two 1 _ _, (by_number 14 _ _ (omega arith), (by_number 4 _ _ (omega arith), (by_number 5 _ _ (omega arith), (by_number 6 _ _ (omega arith), tt))))))))

-- writing one
pub write_ply_numbered : (points : List Float) (faces : List ℕ) (r : WritePlyRooms) → Numbered (write_ply points faces r).answer
unfolding write_ply write_ply_check no4 no5 no6 at_first
write_ply_numbered points faces r =
    answers (write_ply_check points faces r) _ _ _
    (decides _ (one 0 _, (one 1 _, (two 0 _ _, (two 1 _ _, (by_number 4 _ _ (omega arith), (by_number 5 _ _ (omega arith), (by_number 6 _ _ (omega arith), tt))))))))

-- its counts
pub ply_counts_numbered : (file : List ℕ) → Numbered (ply_counts file).answer
unfolding ply_counts ply_counts_check no13
ply_counts_numbered file = answers (ply_counts_check file) _ _ _ (decides _ (by_number 13 0 _ (omega arith), (two 0 _ _, (two 1 _ _, tt))))

-- a mending list applied
pub apply_numbered : (points : List Float) (faces text : List ℕ) (r : ApplyRooms) → Numbered (apply_list points faces text r).answer
unfolding apply_list apply_check no4 no5 no6 no15 at_first
apply_numbered points faces text r =
    answers (apply_check points faces text r) _ _ _
    (decides _ (one 0 _, (one 1 _, (two 0 _ _, (two 1 _ _, (by_number 4 _ _ (omega arith), (by_number 5 _ _ (omega arith), (by_number 15 _ _ (omega arith), (by_number 6 _ _ (omega arith), tt)))))))))

-- a mending list written
pub list_numbered : (points : List Float) (faces : List ℕ) (s : Float) (options : ℕ) (r : ListRooms) → Numbered (write_list points faces s options r).answer
unfolding write_list list_check no3_threshold no3_options no4 no5 no6 at_first
list_numbered points faces s options r =
    answers (list_check points faces s options r) _ _ _
    (decides _ (one 0 _, (one 1 _, (two 0 _ _, (two 1 _ _, (by_number 3 0 _ (omega arith), (by_number 3 1 _ (omega arith), (by_number 4 _ _ (omega arith), (by_number 5 _ _ (omega arith), (by_number 6 _ _ (omega arith), tt))))))))))

-- many meshes
pub panel_numbered :
    (points : List Float) (faces ps fs : List ℕ) (s : Float) (options : ℕ) (r : PanelRooms) → Numbered (repair_panel points faces ps fs s options r).answer
unfolding repair_panel panel_check no1_rows no1_total no3_threshold no3_options no6 at_first
panel_numbered points faces ps fs s options r =
    answers (panel_check points faces ps fs s options r) _ _ _
    (decides _ (by_number 1 0 _ (omega arith), (by_number 1 0 _ (omega arith), (by_number 1 1 _ (omega arith), (two 0 _ _, (by_number 3 0 _ (omega arith), (by_number 3 1 _ (omega arith), (by_number 6 _ _ (omega arith), tt))))))))
