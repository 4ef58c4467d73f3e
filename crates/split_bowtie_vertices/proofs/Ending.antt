-- The rooms after pass 5 hold what the rule says. Assumes nothing.
use mathlib.Core.Path.{◌≡◌, sym, ap, ◌∙◌, subst}
use mathlib.Core.List.{List}
use Prim.Native.Nat.{ℕ, ◌+◌, ◌*◌, ◌-◌, ◌/◌, ◌≤◌, ◌<◌}
use native.Mathlib.Omega.{arith}
use lib.Dec.{ltb}
use lib.Ieee.{Float}
use lib.ListN.{length, get_or, take}
use lib.Seq.{get_or-take, length-take-le, ext_get_or}
use Rattle.leaving.proofs.Leaving.{length_points_take}
use Rattle.leaving.specs.Pass.{state_of}
use Rattle.rows.proofs.Regions.{only_both, only_more}
use Rattle.rules.specs.Lists.{below, count}
use Rattle.rules.specs.Mesh.{face, faces_of, flat_points, flat_faces, renamed}
use Rattle.rules.specs.State.{State, more, vertices_split, points_added}
use Rattle.rules.specs.Pass5.{pass5}
use Rattle.rule_laws.proofs.Counting.{filter_le}
use Rattle.rule_laws.proofs.Lists.{length_below}
use Rattle.rule_laws.proofs.Rising.{all_from}
use Rattle.rule_laws.proofs.Flat.{face_at, length_flat_faces, length_faces_take}
use Rattle.rule_laws.proofs.Once.{Inside, CornersBelow}
use Rattle.rule_laws.proofs.Pass5.{pass5_inside}
use Rattle.rule_laws.proofs.Splitting.{length_map_below}
use Rattle.splitting.specs.Corners.{corner_at, extras, base, goal_of}
use Rattle.splitting.proofs.Goals.{base_least, faces_are, points_many, report_is}
use Rattle.corner_numbers.specs.Numbers.{SortAsks, SortGives, new_by}
use Rattle.split_bowtie_vertices.specs.Splits.{Rows, AllAsks, AllGives, RenameAsks, RenameGives, SplitAsks, SplitGives}
use Rattle.split_bowtie_vertices.specs.declared.Split.{Split}
use Rattle.split_bowtie_vertices.proofs.Places.{base_most, all_places}
use Rattle.split_bowtie_vertices.proofs.Renamed.{corner_made, corner_within, leader_row, new_is}
use Rattle.split_bowtie_vertices.proofs.Copied.{points_flat}

module _ {ps : List Float} {P : ℕ} {xs : List ℕ} {n : ℕ} {w : List ℕ} (p : SplitAsks ps P xs n w) where
  -- the corners of the faces
  abbrev ys : List ℕ
  ys = take (3 * n) xs

  -- there are 3n of them
  pub long : length ys ≡ 3 * n
  long = length-take-le (3 * n) xs p.stand.fit

  -- they are points
  corner_in : (i : ℕ) → i < length ys → get_or ys i 0 < P
  corner_in i h = let e = get_or-take (3 * n) xs i 0 (omega (arith, long)) in omega (arith, p.stand.inside i (omega (arith, long)))

  -- the work room holds the rows
  room : 14 * (3 * n) + 2 + P ≤ length w
  room = omega (arith, p.stand.room)

  -- what the sort of the corners asks
  pub sort_ok : SortAsks w ys P
  sort_ok = let l = long in let r = room in record { whole = omega arith; few = omega (arith, p.stand.few); fit = omega arith; inside = corner_in }

  -- the corners are points, in the words of the rules
  inside : Inside P (faces_of ys)
  unfolding face
  inside = all_from (CornersBelow P) (record { a = 0; b = 0; c = 0; origin = 0 }) (faces_of ys) each
    where
      each : (k : ℕ) → k < length (faces_of ys) → CornersBelow P (face (faces_of ys) k)
      each k h =
          let l = long in
          let f = length_faces_take xs n p.stand.fit in
          subst (CornersBelow P) (sym (face_at ys k (omega arith))) (corner_in (3 * k) (omega arith), corner_in (3 * k + 1) (omega arith), corner_in (3 * k + 2) (omega arith))

  module _ {w₁ : List ℕ} (g : SortGives w ys P w₁) where
    pub rows : Rows ys P w₁
    rows =
        let l = long in
        let s = sort_ok in
        record {
          whole = s.whole;
          few = omega (arith, p.stand.few, p.stand.points);
          fit = omega (arith, s.fit, g.only.long);
          inside = s.inside;
          column = g.column;
          led = g.led;
          sorted = g.sorted;
        }

    abbrev pub all-ok : AllAsks ps w₁ P (3 * n)
    all-ok = record { ys = ys; long = sym long; rows = rows; room = p.room }

    module _ {ps' : List Float} {w₂ : List ℕ} {r : Split} (s : AllGives all-ok ps' w₂ r) where
      leading_is : 10 * (3 * n) + 2 + P ≡ 10 * length ys + 2 + P
      leading_is = omega (arith, long)

      numbers_is : 13 * (3 * n) + 2 + P ≡ 13 * length ys + 2 + P
      numbers_is = omega (arith, long)

      pub rename_ok : RenameAsks xs w₂ (10 * (3 * n) + 2 + P) (13 * (3 * n) + 2 + P) (3 * n)
      rename_ok =
          record {
            fit = p.stand.fit;
            each = λ id h.
                let l = long in
                let f = s.reached.rows.fit in
                let e : 10 * (3 * n) + 2 + P + id ≡ 10 * length ys + 2 + P + id = omega arith in
                let k = (leader_row s.reached id (omega arith)).0 in
                let t = length_faces_take xs n p.stand.fit in
                record {
                  whole = omega arith;
                  here = h;
                  column = omega arith;
                  leads_fit = omega arith;
                  numbers_fit = omega arith;
                  lead = omega (arith, ap (λ z. get_or w₂ z 0) e);
                };
          }

      module _ {xs' : List ℕ} (h : RenameGives xs w₂ (10 * (3 * n) + 2 + P) (13 * (3 * n) + 2 + P) (3 * n) xs') where
        fit_points : 3 * P ≤ length ps
        fit_points = omega (arith, p.room)

        module _ (R : List ℕ) where
          abbrev m : State
          m = state_of ps P xs n R

          many : length m.points ≡ P
          many = length_points_take ps P fit_points

          in_points : Inside (length m.points) m.faces
          in_points = subst (λ k. Inside k (faces_of ys)) (sym many) inside

          number : r.points ≡ length (pass5 m).points
          number = s.reached.next_is ∙ sym (points_many m in_points ∙ ap (λ k. base (faces_of ys) k k) many)

          points : take (3 * r.points) ps' ≡ flat_points (pass5 m).points
          points = s.reached.points ∙ sym (points_flat ps P fit_points ys R in_points)

          -- each corner, and the faces
          corner_is : (id : ℕ) → id < 3 * n → get_or xs' id 0 ≡ corner_at (pass5 m).faces id
          corner_is id l =
              let f = length_faces_take xs n p.stand.fit in
              h.renamed id l
              ∙ ap (λ k. new_by w₂ k (13 * (3 * n) + 2 + P) id) leading_is
              ∙ ap (λ k. new_by w₂ (10 * length ys + 2 + P) k id) numbers_is
              ∙ new_is s.reached id (omega (arith, long))
              ∙ ap (λ k. goal_of (faces_of ys) k (id / 3) (corner_at (faces_of ys) id)) (sym many)
              ∙ sym (ap (λ fs. corner_at fs id) (faces_are m in_points) ∙ corner_made (faces_of ys) (goal_of (faces_of ys) (length m.points)) id (omega arith))

          faces_long : length (pass5 m).faces ≡ n
          faces_long = ap length (faces_are m in_points) ∙ length_map_below (λ i. renamed (goal_of (faces_of ys) (length m.points) i) (face (faces_of ys) i)) (length (faces_of ys)) ∙ length_faces_take xs n p.stand.fit

          faces : take (3 * n) xs' ≡ flat_faces (pass5 m).faces
          unfolding corner_at
          faces =
              let l = length-take-le (3 * n) xs' (omega (arith, p.stand.fit, h.only.long)) in
              ext_get_or 0 (take (3 * n) xs') (flat_faces (pass5 m).faces) (l ∙ omega (arith, length_flat_faces (pass5 m).faces, faces_long))
              (λ i b. let k : i < 3 * n = omega arith in get_or-take (3 * n) xs' i 0 k ∙ (unfold corner_at in corner_is i k))

          within : (i : ℕ) → i < 3 * n → get_or xs' i 0 < r.points
          within i b = omega (arith, corner_is i b, number, corner_within (length (pass5 m).points) (pass5 m).faces (pass5_inside m in_points) i (omega (arith, faces_long)))

          report : P ≤ r.points → (pass5 m).report ≡ more points_added (r.points - P) (more vertices_split r.splits R)
          report l =
              report_is m in_points (r.points - P) (omega (arith, number, many))
              ∙ ap (λ k. more points_added (r.points - P) (more vertices_split k R)) (ap (λ k. count (λ v. ltb 0 (extras (faces_of ys) v)) (below k)) many ∙ sym s.splits)

        least : P ≤ r.points
        least = omega (arith, s.reached.next_is, base_least (faces_of ys) P P)

        -- no more vertices are split than there are
        few : r.splits ≤ P
        unfolding count
        few = omega (arith, s.splits, filter_le (λ v. ltb 0 (extras (faces_of ys) v)) (below P), length_below P)

        pub done : SplitGives P ps xs n w ps' xs' w₂ r
        done =
            let l = long in
            record {
              number = number;
              points = points;
              faces = faces;
              report = λ R. report R least;
              few = few;
              least = least;
              most = omega (arith, s.reached.next_is, base_most (faces_of ys) P P, all_places s.reached.rows);
              inside = within (w);
              only_points = only_more (omega arith) (omega arith) s.only_points;
              only_faces = h.only;
              only_work = only_both (only_more (omega arith) (omega arith) g.only) (only_more (omega arith) (omega arith) s.only_work);
            }
