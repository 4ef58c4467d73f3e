-- Each pass keeps: no more faces, corners that are points, the length of the report. Assumes nothing.
use mathlib.Core.Path.{◌≡◌, refl, ◌∙◌}
use mathlib.Core.Bool.{Bool, cond}
use mathlib.Core.List.{List, Memᴰ}
use Prim.Native.Nat.{ℕ, ◌+◌, ◌≤◌, ◌<◌}
use native.Mathlib.Omega.{arith}
use lib.Dec.{T, ltb}
use lib.Ieee.{Float}
use lib.ListN.{length, get_or, drop, length-set, length-map}
use Rattle.rules.specs.Lists.{below, count, leave}
use Rattle.rules.specs.Mesh.{Face, renamed}
use Rattle.rules.specs.State.{State, Count, report_counts, place, more, counted, with_faces, dropped, repeateds, thins, duplicates, crowded_edges, dropped_at_edges, dropped_for_direction, vertices_split, points_added, reoriented, components, isolated}
use Rattle.rules.specs.Pass1.{repeated1, thin1, marked1, pass1}
use Rattle.rules.specs.Pass2.{marked2, pass2}
use Rattle.rules.specs.Pass3.{crowded, marked3, pass3}
use Rattle.rules.specs.Pass4.{oriented, marked4, pass4}
use Rattle.rules.specs.Pass5.{fans, split_off, split, pass5}
use Rattle.rules.specs.Pass6.{used, marked6, number, pass6}
use Rattle.rule_laws.proofs.Lists.{leave_length, leave_count, through_keeps}
use Rattle.rule_laws.proofs.Rising.{all_leave, all_map}
use Rattle.rule_laws.proofs.Members.{in_all, all_in}
use Rattle.rule_laws.proofs.Counting.{count_strict}
use Rattle.rule_laws.proofs.Once.{CornersBelow}
use Rattle.rule_laws.proofs.Turning.{oriented_turned}
use Rattle.rule_laws.proofs.Manifold.{Fine, pass4_fine}
use Rattle.rule_laws.proofs.Splitting.{length_map_below}
use Rattle.rule_laws.proofs.Pass5.{pass5_inside}
use Rattle.rule_laws.proofs.Pass6.{corner_used}

-- at most F faces, corners that are points, as many counts as a report has
pub record Kept (F : ℕ) (m : State) : Type 0 where
  pub faces : length m.faces ≤ F
  pub inside : Fine m
  pub report : length m.report ≡ report_counts

-- the first and the last of these
record Sized (F : ℕ) (m : State) : Type 0 where
  faces : length m.faces ≤ F
  report : length m.report ≡ report_counts

-- a count more is no entry more
length_more : (c : Count) (n : ℕ) (report : List ℕ) → length (more c n report) ≡ length report
unfolding more
length_more c n report = length-set report (place c) (get_or report (place c) 0 + n)

-- a point that is used stays, and its new number is below how many stay
number_left : (m : State) (v : ℕ) → v < length m.points → T (used m.faces v) → number m.faces v < length (leave (marked6 m.faces) m.points)
unfolding number marked6
number_left m v l u = rw (leave_count (used m.faces) m.points) (count_strict (used m.faces) v (length m.points) l u)

-- a corner is used, so after pass 6 it is a point
pass6_fine : (m : State) → Fine m → Fine (pass6 m)
unfolding pass6 renamed
pass6_fine m h =
    all_map (CornersBelow (length (leave (marked6 m.faces) m.points))) (renamed (number m.faces)) m.faces
    (in_all (λ f. CornersBelow (length (leave (marked6 m.faces) m.points)) (renamed (number m.faces) f)) m.faces corners_in)
  where
    corners_in : (f : Face) → Memᴰ f m.faces → CornersBelow (length (leave (marked6 m.faces) m.points)) (renamed (number m.faces) f)
    corners_in f i =
        let c = all_in (CornersBelow (length m.points)) f m.faces h i in (
          number_left m f.a c.0 (corner_used m.faces f f.a i (Memᴰ.head refl)),
          number_left m f.b c.1 (corner_used m.faces f f.b i (Memᴰ.tail (Memᴰ.head refl))),
          number_left m f.c c.2 (corner_used m.faces f f.c i (Memᴰ.tail (Memᴰ.tail (Memᴰ.head refl)))),
        )

module _ {F : ℕ} where
  -- faces that leave
  left_kept : (marked : ℕ → Bool) (m : State) → Kept F m → Kept F (with_faces (leave marked m.faces) m)
  unfolding with_faces
  left_kept marked m k =
      record { faces = omega (arith, leave_length marked m.faces, k.faces); inside = all_leave (CornersBelow (length m.points)) marked m.faces k.inside; report = k.report }

  -- a count
  counted_kept : (c : Count) (n : ℕ) (m : State) → Kept F m → Kept F (counted c n m)
  unfolding counted
  counted_kept c n m k = record { faces = k.faces; inside = k.inside; report = length_more c n m.report ∙ k.report }

  -- faces that leave and are counted
  dropped_kept : (c : Count) (marked : ℕ → Bool) (m : State) → Kept F m → Kept F (dropped c marked m)
  unfolding dropped
  dropped_kept c marked m k = counted_kept c (count marked (below (length m.faces))) (with_faces (leave marked m.faces) m) (left_kept marked m k)

  -- passes 1, 2 and 3
  pub pass1_kept : (s : Float) (m : State) → Kept F m → Kept F (pass1 s m)
  unfolding pass1 dropped counted with_faces
  pass1_kept s m k =
      let n = length m.faces in
      counted_kept thins (count (thin1 s m.points m.faces) (below n)) _
      (counted_kept repeateds (count (repeated1 s m.points m.faces) (below n)) _ (left_kept (marked1 s m.points m.faces) m k))

  pub pass2_kept : (m : State) → Kept F m → Kept F (pass2 m)
  unfolding pass2
  pass2_kept m k = dropped_kept duplicates (marked2 m.faces) m k

  pub pass3_kept : (m : State) → Kept F m → Kept F (pass3 m)
  unfolding pass3
  pass3_kept m k =
      let n = length (crowded (length m.points) m.faces) in
      dropped_kept dropped_at_edges (marked3 m.points m.faces) (counted crowded_edges n m) (counted_kept crowded_edges n m k)

  -- pass 4: the first half exchanges corners, the second lets faces leave
  pub pass4_kept : (m : State) → Kept F m → Kept F (pass4 m)
  unfolding pass4 dropped counted with_faces
  pass4_kept m k =
      let o = oriented m.faces in
      record {
        faces = omega (arith, leave_length (marked4 m.points o.walk.faces) o.walk.faces, (oriented_turned m.faces).0, k.faces);
        inside = pass4_fine m k.inside;
        report = length_more dropped_for_direction _ _ ∙ length_more components _ _ ∙ length_more reoriented _ _ ∙ k.report;
      }

  -- pass 5: one group that is split off
  off_sized : (v : ℕ) (m : State) (fan : List ℕ) → Sized F m → Sized F (split_off v m fan)
  unfolding split_off
  off_sized v m fan k = record { faces = rw (length_map_below _ (length m.faces)) k.faces; report = length_more points_added 1 m.report ∙ k.report }

  -- one vertex
  split_sized : (m : State) (v : ℕ) → Sized F m → Sized F (split m v)
  unfolding split counted
  split_sized m v k =
      let gs = fans m.faces v in
      let n : ℕ = cond (ltb 1 (length gs)) 1 0 in
      through_keeps (Sized F) (split_off v) (off_sized v) (drop 1 gs) (counted vertices_split n m) (record { faces = k.faces; report = length_more vertices_split n m.report ∙ k.report })

  -- all of them
  pub pass5_kept : (m : State) → Kept F m → Kept F (pass5 m)
  pass5_kept m k =
      let r : Sized F (pass5 m) = unfold pass5 in (through_keeps (Sized F) split split_sized (below (length m.points)) m (record { faces = k.faces; report = k.report })) in
      record { faces = r.faces; inside = pass5_inside m k.inside; report = r.report }

  -- pass 6
  pub pass6_kept : (m : State) → Kept F m → Kept F (pass6 m)
  pass6_kept m k =
      record {
        faces = unfold pass6 in (rw (length-map m.faces (renamed (number m.faces))) k.faces);
        inside = pass6_fine m k.inside;
        report = unfold pass6 in (length_more isolated _ m.report ∙ k.report);
      }
