use native.Mathlib.Omega.{arith}
use Rattle.mend_mesh.proofs.Next.{one_asks, below_all, ends, gives}
use Rattle.mend_mesh.proofs.mend_next.Goals as goal

pub overflow_mul-a_end : goal.overflow_mul-a_end
overflow_mul-a_end c = omega (arith, c.requires)

pub overflow_add-a_end : goal.overflow_add-a_end
overflow_add-a_end c = omega (arith, c.requires)

pub overflow_mul-b_end : goal.overflow_mul-b_end
overflow_mul-b_end c = omega (arith, c.requires)

pub overflow_add-b_end : goal.overflow_add-b_end
overflow_add-b_end c = omega (arith, c.requires)

pub overflow_mul-c_end : goal.overflow_mul-c_end
overflow_mul-c_end c = omega (arith, c.requires)

pub overflow_add-c_end : goal.overflow_add-c_end
overflow_add-c_end c = omega (arith, c.requires)

pub overflow_mul-c_end-2 : goal.overflow_mul-c_end-2
overflow_mul-c_end-2 c = omega (arith, c.requires)

pub overflow_add-c_end-2 : goal.overflow_add-c_end-2
overflow_add-c_end-2 c = omega (arith, c.requires)

pub overflow_mul-d_end : goal.overflow_mul-d_end
overflow_mul-d_end c = omega (arith, c.requires)

pub overflow_add-d_end : goal.overflow_add-d_end
overflow_add-d_end c = omega (arith, c.requires)

pub overflow_add-e_end : goal.overflow_add-e_end
overflow_add-e_end c = omega (arith, c.requires)

pub overflow_add-g_end : goal.overflow_add-g_end
overflow_add-g_end c = omega (arith, c.requires)

pub overflow_mul-m : goal.overflow_mul-m
overflow_mul-m c = omega (arith, c.requires)

pub overflow_add-m_end : goal.overflow_add-m_end
overflow_add-m_end c = omega (arith, c.requires)

pub offset_bounds-points-a : goal.offset_bounds-points-a
offset_bounds-points-a c = omega (arith, c.requires)

pub slice_bounds-mend_one-count : goal.slice_bounds-mend_one-count
slice_bounds-mend_one-count c = omega (arith, c.requires)

pub offset_bounds-faces-b : goal.offset_bounds-faces-b
offset_bounds-faces-b c = omega (arith, c.requires)

pub slice_bounds-mend_one-count-2 : goal.slice_bounds-mend_one-count-2
slice_bounds-mend_one-count-2 c = omega (arith, c.requires)

pub offset_bounds-out_points-c : goal.offset_bounds-out_points-c
offset_bounds-out_points-c c = omega (arith, c.requires)

pub slice_bounds-mend_one-count-3 : goal.slice_bounds-mend_one-count-3
slice_bounds-mend_one-count-3 c = omega (arith, c.requires)

pub offset_bounds-out_faces-d : goal.offset_bounds-out_faces-d
offset_bounds-out_faces-d c = omega (arith, c.requires)

pub slice_bounds-mend_one-count-4 : goal.slice_bounds-mend_one-count-4
slice_bounds-mend_one-count-4 c = omega (arith, c.requires)

pub offset_bounds-report-e : goal.offset_bounds-report-e
offset_bounds-report-e c = omega (arith, c.requires)

pub slice_bounds-mend_one-count-5 : goal.slice_bounds-mend_one-count-5
slice_bounds-mend_one-count-5 c = omega (arith, c.requires)

pub offset_bounds-origins-g : goal.offset_bounds-origins-g
offset_bounds-origins-g c = omega (arith, c.requires)

pub slice_bounds-mend_one-count-6 : goal.slice_bounds-mend_one-count-6
slice_bounds-mend_one-count-6 c = omega (arith, c.requires)

pub offset_bounds-meshes-m : goal.offset_bounds-meshes-m
offset_bounds-meshes-m c = omega (arith, c.requires)

pub slice_bounds-mend_one-count-7 : goal.slice_bounds-mend_one-count-7
slice_bounds-mend_one-count-7 c = omega (arith, c.requires)

pub mend_one-share-requires : goal.mend_one-share-requires
mend_one-share-requires c = let a = c.args in
    one_asks a.points.now a.faces.now a.p a.f a.out_points.now a.out_faces.now a.report.now a.origins.now a.meshes.now a.work.now a.k a.at c.requires

pub overflow_add-result : goal.overflow_add-result
overflow_add-result c = let a = c.args in
    record { fits = below_all (ends a.points.now a.faces.now a.p a.f a.out_points.now a.out_faces.now a.report.now a.origins.now a.meshes.now a.work.now a.k a.at c.requires a.s a.options c.mend_one-share.ensures).mended_end c.well_formed.1.1.1.1.1.1.0.0 }

pub overflow_add-result-2 : goal.overflow_add-result-2
overflow_add-result-2 c = let a = c.args in
    record { fits = below_all (ends a.points.now a.faces.now a.p a.f a.out_points.now a.out_faces.now a.report.now a.origins.now a.meshes.now a.work.now a.k a.at c.requires a.s a.options c.mend_one-share.ensures).triples_end c.well_formed.1.1.1.1.1.1.1.0.0 }

pub overflow_add-result-3 : goal.overflow_add-result-3
overflow_add-result-3 c = let a = c.args in
    record { fits = below_all (ends a.points.now a.faces.now a.p a.f a.out_points.now a.out_faces.now a.report.now a.origins.now a.meshes.now a.work.now a.k a.at c.requires a.s a.options c.mend_one-share.ensures).counts_end c.well_formed.1.1.1.1.1.1.1.1.0.0 }

pub overflow_add-result-4 : goal.overflow_add-result-4
overflow_add-result-4 c = let a = c.args in
    record { fits = below_all (ends a.points.now a.faces.now a.p a.f a.out_points.now a.out_faces.now a.report.now a.origins.now a.meshes.now a.work.now a.k a.at c.requires a.s a.options c.mend_one-share.ensures).origins_end c.well_formed.1.1.1.1.1.1.1.1.1.0.0 }

pub shape_of-out_points : goal.shape_of-out_points
shape_of-out_points c = let a = c.args in
    (gives a.points.now a.faces.now a.p a.f a.out_points.now a.out_faces.now a.report.now a.origins.now a.meshes.now a.work.now a.k a.at c.requires a.s a.options c.mend_one-share.ensures c.mend_one-share.auto.out_points c.mend_one-share.auto.out_faces c.mend_one-share.auto.report c.mend_one-share.auto.origins c.mend_one-share.auto.four).out_points.only.long

pub returns : goal.returns
returns c = let a = c.args in
    gives a.points.now a.faces.now a.p a.f a.out_points.now a.out_faces.now a.report.now a.origins.now a.meshes.now a.work.now a.k a.at c.requires a.s a.options c.mend_one-share.ensures c.mend_one-share.auto.out_points c.mend_one-share.auto.out_faces c.mend_one-share.auto.report c.mend_one-share.auto.origins c.mend_one-share.auto.four
