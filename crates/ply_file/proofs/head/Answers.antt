-- `ply_file::head` meets its contract: part after part, and then the length of the body. Assumes nothing.
use mathlib.Core.Path.{ap}
use mathlib.Core.Bool.{not}
use native.Mathlib.Omega.{arith}
use Rattle.rules.specs.Line.{bytes}
use Rattle.rules.specs.Ply.{before_vertices, before_faces, after_counts}
use Rattle.ply_file.proofs.Heading.{not_true, not_false, no_first, first_fits, no_vertices, no_second, second_fits, no_faces, no_third, third_fits, no_body, is_whole}
use Rattle.ply_file.proofs.head.Goals as goal

pub returns-then-not-stands : goal.returns-then-not-stands
unfolding before_vertices bytes
returns-then-not-stands c = let file = c.args.file.now in
    no_first file (omega arith) c.stands.ensures (not_true c.stands.result (ap not c.if-not-stands.true))

pub read_line-requires : goal.read_line-requires
unfolding before_vertices bytes
read_line-requires c = let file = c.args.file.now in
    first_fits file (omega arith) c.stands.ensures (not_false c.stands.result (ap not c.if-not-stands.false))

pub returns-in_err-vertices : goal.returns-in_err-vertices
returns-in_err-vertices c = let file = c.args.file.now in
    rw c.from_residual.ensures (no_vertices file (omega arith) c.in_err-vertices.ensures)

pub stands-requires-2 : goal.stands-requires-2
stands-requires-2 c = let file = c.args.file.now in
    c.in_ok-vertices.ensures.inside

pub returns-then-not-stands-2 : goal.returns-then-not-stands-2
unfolding before_faces bytes
returns-then-not-stands-2 c = let file = c.args.file.now in
    no_second file (omega arith) c.in_ok-vertices.ensures c.stands-2.ensures (not_true c.stands-2.result (ap not c.if-not-stands-2.true))

pub overflow_add-vertices : goal.overflow_add-vertices
unfolding before_faces bytes
overflow_add-vertices c = let file = c.args.file.now in
    omega (arith, second_fits file (omega arith) c.in_ok-vertices.ensures c.stands-2.ensures (not_false c.stands-2.result (ap not c.if-not-stands-2.false)))

pub read_line-requires-2 : goal.read_line-requires-2
unfolding before_faces bytes
read_line-requires-2 c = let file = c.args.file.now in
    second_fits file (omega arith) c.in_ok-vertices.ensures c.stands-2.ensures (not_false c.stands-2.result (ap not c.if-not-stands-2.false))

pub returns-in_err-faces : goal.returns-in_err-faces
returns-in_err-faces c = let file = c.args.file.now in
    rw c.from_residual-in_err-faces.ensures (no_faces file (omega arith) c.in_ok-vertices.ensures c.in_err-faces.ensures)

pub stands-requires-3 : goal.stands-requires-3
stands-requires-3 c = let file = c.args.file.now in
    c.in_ok-faces.ensures.inside

pub returns-then-not-stands-3 : goal.returns-then-not-stands-3
unfolding after_counts bytes
returns-then-not-stands-3 c = let file = c.args.file.now in
    no_third file (omega arith) c.in_ok-vertices.ensures c.in_ok-faces.ensures c.stands-3.ensures (not_true c.stands-3.result (ap not c.if-not-stands-3.true))

pub overflow_add-body : goal.overflow_add-body
unfolding after_counts bytes
overflow_add-body c = let file = c.args.file.now in
    omega (arith, third_fits file (omega arith) c.in_ok-vertices.ensures c.in_ok-faces.ensures c.stands-3.ensures (not_false c.stands-3.result (ap not c.if-not-stands-3.false)))

pub overflow_sub-file : goal.overflow_sub-file
unfolding after_counts bytes
overflow_sub-file c = let file = c.args.file.now in
    omega (arith, third_fits file (omega arith) c.in_ok-vertices.ensures c.in_ok-faces.ensures c.stands-3.ensures (not_false c.stands-3.result (ap not c.if-not-stands-3.false)))

pub returns-then-fills : goal.returns-then-fills
unfolding before_vertices before_faces after_counts bytes
returns-then-fills c = let file = c.args.file.now in
    is_whole file (omega arith) c.in_ok-vertices.ensures c.in_ok-faces.ensures c.stands.ensures (not_false c.stands.result (ap not c.if-not-stands.false))
    c.stands-2.ensures (not_false c.stands-2.result (ap not c.if-not-stands-2.false))
    c.stands-3.ensures (not_false c.stands-3.result (ap not c.if-not-stands-3.false))
    (third_fits file (omega arith) c.in_ok-vertices.ensures c.in_ok-faces.ensures c.stands-3.ensures (not_false c.stands-3.result (ap not c.if-not-stands-3.false))) c.fills.ensures c.if-fills.true

pub returns : goal.returns
unfolding after_counts bytes
returns c = let file = c.args.file.now in
    no_body file (omega arith) c.in_ok-vertices.ensures c.in_ok-faces.ensures (third_fits file (omega arith) c.in_ok-vertices.ensures c.in_ok-faces.ensures c.stands-3.ensures (not_false c.stands-3.result (ap not c.if-not-stands-3.false))) c.fills.ensures c.if-fills.false
