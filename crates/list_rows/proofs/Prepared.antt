-- The rows of a mending list one behind the other, and that they tell the list. Assumes nothing.
use mathlib.Core.Path.{◌≡◌, refl, sym, ap, ap₂, ◌∙◌}
use mathlib.Core.Bool.{cond}
use mathlib.Core.List.{List, [], ◌++◌, append_assoc, map}
use Prim.Native.Nat.{ℕ, ◌+◌, ◌*◌, ◌/◌, ◌≤◌, ◌<◌}
use native.Mathlib.Omega.{arith}
use lib.Ieee.{Float}
use lib.ListN.{length, get_or, take}
use lib.Seq.{get_or-take, length-take-le}
use Rattle.rows.specs.Region.{part, Only, Apart.before, Apart.after}
use Rattle.rows.specs.Retain.{up_to}
use Rattle.rows.proofs.Regions.{kept, kept_at, kept2_at, only_both, only_more}
use Rattle.sorting.specs.Groups.{sorted_by, key_in}
use Rattle.rules.specs.Lists.{below, filter, each, has}
use Rattle.rules.specs.Mesh.{face, corners, points_of, faces_of, flat_faces}
use Rattle.rules.specs.State.{State, start}
use Rattle.rules.specs.Repair.{bit, optional}
use Rattle.rules.specs.Pass5.{pass5}
use Rattle.rules.specs.Mending.{Line, lines5, lines6, line_text, list, list_text, for_duplicate, for_edge, for_direction}
use Rattle.rule_laws.proofs.Flat.{flat_faces_back, length_points, length_faces_take}
use Rattle.rule_laws.proofs.Lists.{get_or_map_in}
use Rattle.rule_laws.proofs.Carried.{flat_same}
use Rattle.leaving.specs.Pass.{standing, carried}
use Rattle.leaving.proofs.Standing.{stands_alike, carried_origins}
use Rattle.mending_rows.specs.Told.{Fates, first_told, drops_told, exchanges_told, splits_told, unused_told, told}
use Rattle.split_laws.proofs.Taken.{listed_same}
use Rattle.split_rows.specs.Rows.{SplitAsks, Stands, TakersAsks, TakersGives, FlagsAsks}
use Rattle.list_text.specs.Written.{fates_of, ListAsks}
use Rattle.list_text.specs.declared.Rows.{Rows}
use Rattle.list_rows.specs.Prepared.{SplitIf, FlagsIf, PrepareAsks, PrepareGives}
use Rattle.fates.specs.Fating.{FourGives, after4}
use Rattle.list_rows.proofs.Same.{first_same, drops_same, exchanges_same}
use Rattle.list_rows.proofs.Wider.{only_two}

-- the origin of a face that is carried
origin_of : (xs os : List ℕ) (n : ℕ) → 3 * n ≤ length xs → n ≤ length os → (i : ℕ) → i < n → (face (carried xs os n) i).origin ≡ get_or os i 0
unfolding face
origin_of xs os n fit own i h =
    let a = stands_alike xs os n fit own in
    let l : i < length (carried xs os n) = omega (arith, a.long, length_faces_take xs n fit) in
    sym (get_or_map_in (λ f. f.origin) (carried xs os n) i (record { a = 0; b = 0; c = 0; origin = 0 }) 0 l)
    ∙ ap (λ l. get_or l i 0) (carried_origins xs os n fit own) ∙ get_or-take n os i 0 h

-- five groups of lines and two: the fourth is two
seven : (a b c x y e f : List Line) → a ++ b ++ c ++ (x ++ y) ++ e ++ f ≡ a ++ b ++ c ++ x ++ y ++ e ++ f
seven a b c x y e f = ap (λ l. l ++ e ++ f) (sym (append_assoc (a ++ b ++ c) x y))

module _ {ps : List Float} {fs xs os w : List ℕ} (p : PrepareAsks ps fs xs os w) where
  -- the number of points
  abbrev P : ℕ
  P = length ps / 3

  -- that of faces
  abbrev F : ℕ
  F = length os

  -- where the fates stand
  abbrev fates : ℕ
  fates = 42 * F + 4 + P

  -- the old points
  abbrev olds : ℕ
  olds = fates + F

  -- and the flags
  abbrev unused : ℕ
  unused = olds + 3 * F

  -- the numbers are not too large, and all rows have room
  pub record Sizes : Type 0 where
    pub points : P ≤ 4194304
    pub faces : F ≤ 1048576
    pub corners : length xs ≡ 3 * F
    pub input : length fs ≡ 3 * F
    pub room : 16 * P + 60 * F + 64 ≤ length w

  pub sizes : Sizes
  sizes =
      let a = p.input.faces_fine in
      let o = p.origins_are in
      record {
        points = a.points;
        faces = omega (arith, a.few);
        corners = omega (arith, p.corners_are);
        input = omega (arith, a.whole);
        room = omega (arith, p.rest_fits);
      }

  module _ {options : ℕ} {s : Float} {xs₁ os₁ w₁ : List ℕ} {n : ℕ} (g : FourGives options s ps fs xs os w fates xs₁ os₁ w₁ n) where
    -- the state after them
    abbrev m4 : State
    m4 = after4 options s (start (points_of ps) (faces_of fs))

    -- what stands then
    pub record Four : Type 0 where
      pub long_corners : length xs₁ ≡ 3 * F
      pub long_origins : length os₁ ≡ F
      pub long_work : length w₁ ≡ length w
      pub own : n ≤ F

    pub four : Four
    four =
        let z = sizes in
        let o = g.only_origins.long in
        record { long_corners = omega (arith, z, g.only_faces.long); long_origins = o; long_work = g.only_work.long; own = omega (arith, g.left.own) }

    -- what pass 5 asks
    pub split_asks : SplitAsks xs₁ n P w₁ olds
    split_asks =
        let z = sizes in
        let y = four in
        record {
          stand = record { points = z.points; few = omega (arith, z, y); fit = omega (arith, y); inside = g.left.inside; room = omega (arith, z, y) };
          behind = omega (arith, y);
          room = omega (arith, z, y);
        }

    -- the state's faces stand at the front of the room
    stands : Stands P xs₁ n m4
    stands =
        let y = four in
        let fit : 3 * n ≤ length xs₁ = omega (arith, y) in
        let own : n ≤ length os₁ = omega (arith, y) in
        record {
          many = ap length g.has.points ∙ length_points ps;
          corners =
              ap flat_faces g.has.faces ∙ sym (flat_same (standing xs₁ n) (carried xs₁ os₁ n) (stands_alike xs₁ os₁ n fit own))
              ∙ flat_faces_back (take (3 * n) xs₁) (let l = length-take-le (3 * n) xs₁ fit in omega arith);
        }

    module _ {xs₂ w₂ : List ℕ} {r : ℕ} (h : SplitIf options xs₁ n P w₁ olds xs₂ w₂ r) where
      -- the state after pass 5
      abbrev m5 : State
      m5 = optional (bit 3 options) pass5 m4

      -- the rooms
      pub record Five : Type 0 where
        pub long_corners : length xs₂ ≡ 3 * F
        pub long_work : length w₂ ≡ length w
        pub most : r ≤ 3 * n

      pub five : Five
      five =
          let y = four in
          record { long_corners = omega (arith, y, h.only_faces.long); long_work = omega (arith, y, h.only_work.long); most = h.most }

      -- what the sort asks
      pub takers_ask : TakersAsks w₂ xs₂ n (P + r) (3 * n) (3 * n + (P + r))
      takers_ask =
          let z = sizes in
          let y = four in
          let x = five in
          record {
            few = omega (arith, z, y);
            fit = omega (arith, y, x);
            inside = h.inside;
            first = omega arith;
            second = omega arith;
            room = omega (arith, z, y, x);
          }

      module _ {w₃ : List ℕ} (k : TakersGives w₂ xs₂ n (P + r) (3 * n) (3 * n + (P + r)) w₃) where
        -- what the flags ask
        pub flags_ask : FlagsAsks xs₂ n (P + r) w₃ unused
        flags_ask =
            let z = sizes in
            let y = four in
            let x = five in
            record { fit = omega (arith, y, x); inside = h.inside; room = omega (arith, z, y, x, k.only.long) }

        module _ {w₄ : List ℕ} (l : FlagsIf options xs₂ n (P + r) w₃ unused w₄) where
          -- where the rows stand
          abbrev rows : Rows
          rows =
              record {
                points = P;
                faces = F;
                fates = fates;
                splits = r;
                olds = olds;
                left = n;
                column = 0;
                sorted = 3 * n + (P + r);
                unused = unused;
              }

          -- what they tell
          abbrev t : Fates
          t = fates_of w₄ os₁ rows

          -- the work room is as long as it was
          long : length w₄ ≡ length w
          long = omega (arith, five, k.only.long, l.only.long)

          -- the fates are as the first passes left them
          fate_same : (f : ℕ) → f < F → get_or w₁ (fates + f) 0 ≡ get_or w₄ (fates + f) 0
          fate_same f q =
              let y = four in
              let x = five in
              sym (kept2_at h.only_work {d = fates} {l = F} (after (omega (arith, y))) (before (omega arith)) f q)
              ∙ sym (kept_at k.only {b = fates} {m = F} (after (omega (arith, y, x))) f q)
              ∙ sym (kept_at l.only {b = fates} {m = F} (before (omega arith)) f q)

          -- the old points as pass 5 left them
          old_same : (j : ℕ) → j < r → get_or w₄ (olds + j) 0 ≡ get_or w₂ (olds + j) 0
          old_same j q =
              let y = four in
              let x = five in
              kept_at l.only {b = olds} {m = r} (before (omega (arith, y, x))) j q ∙ kept_at k.only {b = olds} {m = r} (after (omega (arith, y, x))) j q

          -- the corners as they stand
          column_same : part w₄ 0 (3 * n) ≡ part w₃ 0 (3 * n)
          column_same = let z = sizes in let y = four in let x = five in kept l.only 0 (3 * n) (before (omega (arith, y))) (omega (arith, z, y, x, k.only.long))

          -- the faces that take a point
          takers_same : (j : ℕ) → j < r → t.takers j ≡ map (λ i. (face m4.faces i).origin) (filter (λ i. has (P + j) (corners (face (standing xs₂ n) i))) (below n))
          takers_same j q =
              let y = four in
              ap (λ c. map (λ i. get_or os₁ i 0) (filter (λ i. has (P + j) (corners (face (faces_of c) i))) (below n))) (column_same ∙ k.column)
              ∙ listed_same n (λ i. get_or os₁ i 0) (λ i. (face m4.faces i).origin) (λ i. has (P + j) (corners (face (standing xs₂ n) i))) (λ i. has (P + j) (corners (face (standing xs₂ n) i)))
              (λ i a. sym (ap (λ gs. (face gs i).origin) g.has.faces ∙ origin_of xs₁ os₁ n (omega (arith, y)) (omega (arith, y)) i a)) (λ i a. refl)

          -- the lines of pass 5
          fifth : cond (bit 3 options) (lines5 m4) [] ≡ splits_told P t
          fifth = h.tells m4 stands t refl old_same takers_same

          -- the lines of pass 6
          sixth : cond (bit 5 options) (lines6 m5) [] ≡ unused_told P t
          sixth = l.tells m5 (sym (h.number m4 stands)) (sym (h.faces m4 stands)) P t refl (λ v q. refl)

          -- all lines
          lines_are : told P F t ≡ list s options (points_of ps) (faces_of fs)
          unfolding told list
          lines_are =
              let fate : ℕ → ℕ = λ f. get_or w₁ (fates + f) 0 in
              let same : ℕ → ℕ = λ f. get_or w₄ (fates + f) 0 in
              let a = g.first ∙ first_same fate same F fate_same in
              let b = g.second ∙ drops_same fate same F fate_same for_duplicate in
              let c = g.third ∙ drops_same fate same F fate_same for_edge in
              let d = g.fourth ∙ ap₂ (λ u v. u ++ v) (exchanges_same fate same F fate_same) (drops_same fate same F fate_same for_direction) in
              let e = fifth in
              let f = sixth in
              sym (seven (first_told same F) (drops_told same for_duplicate F) (drops_told same for_edge F) (exchanges_told same F) (drops_told same for_direction F) (splits_told P t) (unused_told P t))
              ∙ sym (λ i. a i ++ b i ++ c i ++ d i ++ e i ++ f i)

          -- the rows are as the text asks
          asks : ListAsks w₄ os₁ rows
          asks =
              let z = sizes in
              let y = four in
              let x = five in
              let e = long in
              record {
                fates = record { fit = omega (arith, z); few = omega (arith, z) };
                splits = record {
                  sorted = record {
                    column_fit = omega (arith, z, y);
                    sorted_fit = omega (arith, z, y, x);
                    few = omega (arith, z, y);
                    top = P + r;
                    enough = omega arith;
                    sorted =
                        kept l.only (3 * n + (P + r)) (3 * n) (before (omega (arith, y, x))) (omega (arith, z, y, x, k.only.long))
                        ∙ k.sorted_are ∙ ap (λ c. sorted_by (key_in c) (P + r) (up_to (3 * n))) (sym column_same);
                  };
                  origins_fit = omega (arith, y);
                  olds_fit = omega (arith, z, y, x);
                  few_points = omega (arith, z, y, x);
                };
                unused = record { fit = omega (arith, z, y, x); few = omega (arith, z, y, x) };
              }

          -- only what is stated is changed
          only : Only 0 (16 * P + 60 * (length fs / 3) + 64) w w₄
          only =
              let z = sizes in
              let y = four in
              let x = five in
              let o = p.origins_are in
              only_both (only_two (omega arith) (omega arith) g.only_work)
              (only_both (only_two (omega (arith, y)) (omega (arith, y)) h.only_work)
              (only_both (only_more (omega arith) (omega (arith, y, x)) k.only) (only_more (omega arith) (omega (arith, y, x)) l.only)))

          -- the rows tell the list
          pub prepared : PrepareGives options s ps fs xs os w xs₂ os₁ w₄ rows
          unfolding list_text
          prepared =
              let z = sizes in
              let y = four in
              let x = five in
              record {
                long_corners = omega (arith, z, x);
                long_origins = y.long_origins;
                only_rest = only;
                asks = asks;
                tells = ap (each line_text) lines_are;
              }
