-- `lending::in_turn` meets its contract: what holds between two passes (`Going.antt`) is carried from each to the next. Assumes nothing.
use Rattle.lending.proofs.Going.{begins, ready1, ready2, ready3, ready4, ready5, ready6, next1, next2, next3, next4, next5, next6, ends}
use Rattle.lending.proofs.in_turn.Goals as goal

-- pass 1 may start
pub drop_degenerate-a-requires : goal.drop_degenerate-a-requires
drop_degenerate-a-requires c =
    let v1 = begins c.requires c.args.s c.args.options _ c.new-report.ensures in
    ready1 c.requires c.args.s c.args.options v1

-- pass 2 may start
pub drop_duplicate_faces-b-requires : goal.drop_duplicate_faces-b-requires
drop_duplicate_faces-b-requires c =
    let v1 = begins c.requires c.args.s c.args.options _ c.new-report.ensures in
    let v2 = next1 c.requires c.args.s c.args.options v1 c.drop_degenerate-a.ensures in
    ready2 c.requires c.args.s c.args.options c.drop_degenerate-a.result v2

-- pass 3 may start
pub resolve_nonmanifold_edges-c-requires : goal.resolve_nonmanifold_edges-c-requires
resolve_nonmanifold_edges-c-requires c =
    let v1 = begins c.requires c.args.s c.args.options _ c.new-report.ensures in
    let v2 = next1 c.requires c.args.s c.args.options v1 c.drop_degenerate-a.ensures in
    let v3 = next2 c.requires c.args.s c.args.options c.drop_degenerate-a.result v2 c.drop_duplicate_faces-b.ensures in
    ready3 c.requires c.args.s c.args.options c.drop_duplicate_faces-b.result v3

-- pass 4 may start
pub orient_consistently-d-requires : goal.orient_consistently-d-requires
orient_consistently-d-requires c =
    let v1 = begins c.requires c.args.s c.args.options _ c.new-report.ensures in
    let v2 = next1 c.requires c.args.s c.args.options v1 c.drop_degenerate-a.ensures in
    let v3 = next2 c.requires c.args.s c.args.options c.drop_degenerate-a.result v2 c.drop_duplicate_faces-b.ensures in
    let v4 = next3 c.requires c.args.s c.args.options c.drop_duplicate_faces-b.result v3 c.resolve_nonmanifold_edges-c.ensures in
    ready4 c.requires c.args.s c.args.options c.resolve_nonmanifold_edges-c.result v4

-- pass 5 may start
pub split_bowtie_vertices-e-requires : goal.split_bowtie_vertices-e-requires
split_bowtie_vertices-e-requires c =
    let v1 = begins c.requires c.args.s c.args.options _ c.new-report.ensures in
    let v2 = next1 c.requires c.args.s c.args.options v1 c.drop_degenerate-a.ensures in
    let v3 = next2 c.requires c.args.s c.args.options c.drop_degenerate-a.result v2 c.drop_duplicate_faces-b.ensures in
    let v4 = next3 c.requires c.args.s c.args.options c.drop_duplicate_faces-b.result v3 c.resolve_nonmanifold_edges-c.ensures in
    let v5 = next4 c.requires c.args.s c.args.options c.resolve_nonmanifold_edges-c.result v4 c.orient_consistently-d.ensures in
    ready5 c.requires c.args.s c.args.options c.orient_consistently-d.result v5

-- pass 6 may start
pub drop_isolated_vertices-f-requires : goal.drop_isolated_vertices-f-requires
drop_isolated_vertices-f-requires c =
    let v1 = begins c.requires c.args.s c.args.options _ c.new-report.ensures in
    let v2 = next1 c.requires c.args.s c.args.options v1 c.drop_degenerate-a.ensures in
    let v3 = next2 c.requires c.args.s c.args.options c.drop_degenerate-a.result v2 c.drop_duplicate_faces-b.ensures in
    let v4 = next3 c.requires c.args.s c.args.options c.drop_duplicate_faces-b.result v3 c.resolve_nonmanifold_edges-c.ensures in
    let v5 = next4 c.requires c.args.s c.args.options c.resolve_nonmanifold_edges-c.result v4 c.orient_consistently-d.ensures in
    let v6 = next5 c.requires c.args.s c.args.options c.orient_consistently-d.result v5 c.split_bowtie_vertices-e.ensures in
    ready6 c.requires c.args.s c.args.options c.split_bowtie_vertices-e.result v6

-- after the last one the rules' passes are done
pub returns : goal.returns
returns c =
    let v1 = begins c.requires c.args.s c.args.options _ c.new-report.ensures in
    let v2 = next1 c.requires c.args.s c.args.options v1 c.drop_degenerate-a.ensures in
    let v3 = next2 c.requires c.args.s c.args.options c.drop_degenerate-a.result v2 c.drop_duplicate_faces-b.ensures in
    let v4 = next3 c.requires c.args.s c.args.options c.drop_duplicate_faces-b.result v3 c.resolve_nonmanifold_edges-c.ensures in
    let v5 = next4 c.requires c.args.s c.args.options c.resolve_nonmanifold_edges-c.result v4 c.orient_consistently-d.ensures in
    let v6 = next5 c.requires c.args.s c.args.options c.orient_consistently-d.result v5 c.split_bowtie_vertices-e.ensures in
    let v7 = next6 c.requires c.args.s c.args.options c.split_bowtie_vertices-e.result v6 c.drop_isolated_vertices-f.ensures in
    ends c.requires c.args.s c.args.options c.drop_isolated_vertices-f.result v7
