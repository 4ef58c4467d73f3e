-- The two rooms of the loops, once their rest is cleared, and what the faces' boundary gives the walk. Assumes nothing.
use mathlib.Core.Path.{refl, sym, ◌∙◌}
use mathlib.Core.List.{List}
use Prim.Native.Nat.{ℕ, suc, ◌+◌, ◌-◌, ◌*◌, ◌/◌, ◌≤◌, ◌<◌}
use native.Mathlib.Omega.{arith}
use lib.Dec.{eqb}
use lib.ListN.{length, take, length-map}
use Rattle.rows.specs.Region.{Only, Filled}
use Rattle.rules.specs.Lists.{below, each}
use Rattle.rules.specs.Mesh.{faces_of, face}
use Rattle.rules.specs.Steps.{steps, edge, users}
use Rattle.rules.specs.Edges.{boundary, loops, loop_vertices, loop_ends}
use Rattle.rule_laws.proofs.Lists.{length_each, length_below}
use Rattle.rule_laws.proofs.Rising.{all_from}
use Rattle.rule_laws.proofs.Counting.{filter_le}
use Rattle.rule_laws.proofs.Flat.{face_in, length_faces}
use Rattle.rule_laws.proofs.Once.{CornersBelow, Inside}
use Rattle.rule_laws.proofs.Next.{no8_simple, boundary_inside}
use Rattle.filling.proofs.Filling.{filled_is}
use Rattle.loops.specs.Loops.{TraceAsks, TraceGives, LoopsAsks, LoopsGives}
use Rattle.loops.proofs.Adding.{apart_less, only2_more}

module _ {w xs : List ℕ} {P next spare : ℕ} {vs es : List ℕ} (q : LoopsAsks w xs P next spare vs es) where
  -- the corners are points
  pub corners_inside : Inside P (faces_of xs)
  unfolding face
  corners_inside =
      all_from (CornersBelow P) (record { a = 0; b = 0; c = 0; origin = 0 }) (faces_of xs)
      (λ i l.
      let h : i < length xs / 3 = omega (arith, length_faces xs) in
      rw (face_in xs i h) (q.inside (3 * i) (omega arith), q.inside (3 * i + 1) (omega arith), q.inside (3 * i + 2) (omega arith)))

  -- there are no more boundary edges than corners
  pub boundary_short : length (boundary (faces_of xs)) ≤ length xs
  unfolding boundary
  boundary_short =
      omega (arith, filter_le (λ s. eqb (length (users (faces_of xs) (edge s))) 1) (each steps (faces_of xs)), length_each 3 steps (λ f. refl) (faces_of xs), length_faces xs)

  -- what the walks ask
  abbrev pub trace_asks : TraceAsks w P next spare vs es
  trace_asks =
      let s = boundary_short in
      record {
        b = boundary (faces_of xs);
        plan = record {
          simple = no8_simple P (faces_of xs) corners_inside q.simple;
          inside = boundary_inside P (faces_of xs) corners_inside;
          few = q.few;
          short = omega (arith, q.short);
          next_fit = q.next_fit;
          spare_fit = omega (arith, q.spare_fit);
          apart = apart_less s q.apart;
          room_vertices = omega (arith, q.room_vertices);
          room_ends = omega (arith, q.room_ends);
        };
        row = q.row;
      }

  module _ {w' vs' es' : List ℕ} {total count : ℕ} (g : (a : TraceAsks w P next spare vs es) → TraceGives a w' vs' es' total count) where
    -- what they gave
    abbrev y : TraceGives trace_asks w' vs' es' total count
    y = g trace_asks

    -- the rest of the rooms is there
    pub fits : (total ≤ length xs) × (count ≤ length xs) × (total + (length xs - total) ≤ length vs') × (count + (length xs - count) ≤ length es')
    fits =
        let s = boundary_short in
        let t = y.total_fits in
        let c = y.count_fits in
        let l = y.only_vertices.long in
        let k = y.only_ends.long in
        (omega arith, omega arith, omega (arith, q.room_vertices), omega (arith, q.room_ends))

    -- once it is cleared, both rooms are the rules'
    pub done :
        {vs'' es'' : List ℕ} → Only total (length xs - total) vs' vs'' → Filled total (length xs - total) 0 vs'' → Only count (length xs - count) es' es'' → Filled count (length xs - count) 0 es''
        → LoopsGives w xs P next spare vs es w' vs'' es'' total count
    unfolding loops loop_vertices loop_ends
    done o z p u =
        let d = y.listed in
        record {
          only = only2_more boundary_short y.only_work;
          total_is = d.total_is;
          count_is =
              d.count_is
              ∙ sym (length-map (below (length (loops P (faces_of xs)))) (λ k. length (each (λ l. l) (take (suc k) (loops P (faces_of xs))))) ∙ length_below (length (loops P (faces_of xs))));
          vertices = filled_is q.room_vertices fits.0 y.only_vertices d.vertices o z;
          ends = filled_is q.room_ends fits.1 y.only_ends d.ends p u;
        }
