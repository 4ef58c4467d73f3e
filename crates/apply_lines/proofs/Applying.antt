-- A list that applies, as a whole: the input stands in the rooms, the lines run, and what they make is finished. Assumes nothing.
use mathlib.Core.Path.{◌≡◌, refl, sym, ap, ◌∙◌, subst}
use mathlib.Core.Bool.{Bool, true, false, not, cond}
use mathlib.Core.Option.{Option, none, some}
use mathlib.Core.List.{List, [], ◌∷◌}
use Prim.Native.Nat.{ℕ, zero, suc, ◌+◌, ◌*◌, ◌/◌, ◌≤◌, ◌<◌}
use native.Mathlib.Nat.{zero-add}
use native.Mathlib.Omega.{arith}
use lib.Dec.{T}
use lib.Ieee.{Float, nan}
use lib.ListN.{length, get_or, take, drop}
use lib.Seq.{take-length, length-take-le, get_or-take}
use Rattle.rows.specs.Region.{Only, Filled, RowAsks, RowGives}
use Rattle.rows.proofs.Regions.{only_both, only_more}
use Rattle.rules.specs.Lists.{below, filter, count, any, has, through}
use Rattle.rules.specs.Mesh.{Point, Face, points_of, faces_of, flat_points, flat_faces}
use Rattle.rules.specs.Refusal.{ok}
use Rattle.rules.specs.Rooms.{work_room}
use Rattle.rules.specs.Mending.{Line}
use Rattle.rules.specs.Applying.{Bench, bench_of, after_lines, is_none, lines_read, with_list_line, no15, finished, applied}
use Rattle.rule_laws.proofs.Flat.{length_points, length_faces}
use Rattle.rule_laws.proofs.Firsts.{at_first_all}
use Rattle.rule_laws.proofs.Members.{all_in, mem_below}
use Rattle.leaving.specs.Pass.{standing}
use Rattle.list_changes.specs.declared.Finished.{Finished}
use Rattle.list_changes.specs.Changes.{Stands}
use Rattle.list_changes.specs.Finish.{FinishAsks, FinishGives}
use Rattle.list_changes.proofs.Ending.{finish-asks, finished_points, finished_faces}
use Rattle.apply_lines.specs.Runs.{Run, Within, RunAsks, RunGives, ApplyAsks, ApplyGives}

-- ---- a list without a bad line

-- something is there
pub record Made (ps : List Point) (fs : List Face) (text : List ℕ) : Type 0 where
  pub bench : Bench
  pub is : after_lines ps fs (lines_read text) ≡ some bench

-- what is not nothing
some_of : (ps : List Point) (fs : List Face) (text : List ℕ) (o : Option Bench) → after_lines ps fs (lines_read text) ≡ o → T (not (is_none o)) → Made ps fs text
unfolding is_none
some_of ps fs text none e t = absurd t
some_of ps fs text (some b) e t = record { bench = b; is = e }

-- all lines apply where none is the first bad one
pub made : (ps : List Point) (fs : List Face) (text : List ℕ) → no15 ps fs text ≡ ok → Made ps fs text
unfolding no15
made ps fs text e = go (lines_read text) refl
  where
    ls : List (Option Line)
    ls = lines_read text

    last : (k : ℕ) → length ls ≡ suc k → T (not (is_none (after_lines ps fs (take (suc k) ls))))
    last k l = all_in (λ k. T (not (is_none (after_lines ps fs (take (suc k) ls))))) k (below (length ls)) (at_first_all 15 (λ k. is_none (after_lines ps fs (take (suc k) ls))) (below (length ls)) e) (mem_below k (length ls) (omega arith))

    go : (ms : List (Option Line)) → ls ≡ ms → Made ps fs text
    go [] q = record { bench = bench_of ps fs; is = ap (after_lines ps fs) q ∙ unfold after_lines through in refl }
    go (m ∷ ms) q =
        let l : length ls ≡ suc (length ms) = ap length q in
        some_of ps fs text (after_lines ps fs ls) refl (subst (λ xs. T (not (is_none (after_lines ps fs xs)))) (ap (λ k. take k ls) (sym l) ∙ take-length ls) (last (length ms) l))

-- what the rules then make
applied_is : (ps : List Point) (fs : List Face) (text : List ℕ) (b : Bench) → after_lines ps fs (lines_read text) ≡ some b → applied ps fs text ≡ finished b
unfolding applied
applied_is ps fs text b e = λ i. elim (e i) [ none ↦ record { points = ps; faces = fs } | some c ↦ finished c ]

-- ---- the input in the rooms

-- none has left
filter_all : {A : Type 0} (xs : List A) → filter (λ x. not false) xs ≡ xs
unfolding filter
filter_all [] = refl
filter_all (x ∷ xs) = ap (λ l. x ∷ l) (filter_all xs)

module _ {points : List Float} {faces text : List ℕ} {ps : List Float} {xs w : List ℕ} (p : ApplyAsks points faces text ps xs w) where
  -- how many points and faces are given
  abbrev pub P : ℕ
  P = length points / 3

  abbrev pub F : ℕ
  F = length faces / 3

  -- the numbers that the code reckons with
  pub record Sizes : Type 0 where
    pub few_points : P ≤ 4194304
    pub few_faces : F ≤ 1048576
    pub points_whole : length points ≡ 3 * P
    pub faces_whole : length faces ≡ 3 * F
    pub points_long : 3 * (P + 3 * F) ≤ length ps
    pub faces_long : 3 * F ≤ length xs
    pub work_long : 16 * P + 64 * F + 64 ≤ length w

  pub sizes : Sizes
  unfolding work_room
  sizes =
      record {
        few_points = p.input.faces_fine.points;
        few_faces = p.input.faces_fine.few;
        points_whole = omega (arith, p.input.whole);
        faces_whole = omega (arith, p.input.faces_fine.whole);
        points_long = p.room_points;
        faces_long = p.room_faces;
        work_long = p.room_work;
      }

  -- the bench that the lines make
  abbrev pub z : Bench
  z = (made (points_of points) (faces_of faces) text p.applies).bench

  module _ {ps1 : List Float} {xs1 w1 : List ℕ} (a : RowGives nan points (3 * P) ps ps1) (b : RowGives 0 faces (3 * F) xs xs1) (o : Only 0 (P + 4 * F) w w1) (c : Filled 0 (P + 4 * F) 0 w1) where
    -- the copied points are the given ones
    all_points : take (3 * P) ps1 ≡ points
    all_points = let s = sizes in a.copied ∙ ap (λ k. take k points) (sym s.points_whole) ∙ take-length points

    -- and so are the faces
    all_faces : take (3 * F) xs1 ≡ faces
    all_faces = let s = sizes in b.copied ∙ ap (λ k. take k faces) (sym s.faces_whole) ∙ take-length faces

    -- a corner is of the points
    inside : (i : ℕ) → i < 3 * F → get_or xs1 i 0 < P
    inside i h =
        let s = sizes in
        let e : get_or xs1 i 0 ≡ get_or faces i 0 = sym (get_or-take (3 * F) xs1 i 0 h) ∙ ap (λ l. get_or l i 0) all_faces in
        omega (arith, p.input.faces_fine.below i (omega (arith, s)))

    -- the input stands in the rooms
    pub stands : Stands P F (bench_of (points_of points) (faces_of faces)) ps1 P xs1 w1
    unfolding bench_of
    stands =
        let s = sizes in
        let lp = a.only.long in
        let lf = b.only.long in
        let lw = o.long in
        record {
          points_fit = omega (arith, s);
          faces_fit = omega (arith, s);
          work_fit = omega (arith, s);
          splits = omega arith;
          most = omega arith;
          inside = inside;
          points = ap points_of (sym all_points);
          gone = λ i. false;
          flags = record { each = λ i h. c.each i (omega arith) };
          faces = ap faces_of (sym all_faces) ∙ sym (filter_all (standing xs1 F));
          named = record { each = λ i h. unfold has any in (ap (λ k. get_or w1 k 0) (sym (zero-add (F + i))) ∙ c.each (F + i) (omega arith)) };
        }

    -- all lines make the bench
    pub lines_make : through (with_list_line P F) (some (bench_of (points_of points) (faces_of faces))) (lines_read text) ≡ some z
    unfolding after_lines
    lines_make =
        ap (λ n. through (with_list_line n F) (some (bench_of (points_of points) (faces_of faces))) (lines_read text)) (sym (length_points points))
        ∙ ap (λ n. through (with_list_line (length (points_of points)) n) (some (bench_of (points_of points) (faces_of faces))) (lines_read text)) (sym (length_faces faces))
        ∙ (made (points_of points) (faces_of faces) text p.applies).is

    -- and all are left
    abbrev pub run_asks : RunAsks text ps1 xs1 w1 F P
    run_asks = record { P = P; z = z; run = record { bench = bench_of (points_of points) (faces_of faces); stands = stands; goes = lines_make } }

    module _ {ps2 : List Float} {xs2 w2 : List ℕ} {n : ℕ} (g : RunGives run_asks ps2 xs2 w2 n) where
      -- what they make may be finished
      abbrev pub may-finish : FinishAsks ps2 n xs2 F w2
      may-finish = let s = sizes in finish-asks g.stands s.few_points s.few_faces

      -- and then it is done
      pub done :
          {ps3 : List Float} {xs3 w3 : List ℕ} {r : Finished}
          → ((q : FinishAsks ps2 n xs2 F w2) → FinishGives q.gone q.named ps2 n xs2 F w2 ps3 xs3 w3 r)
          → ApplyGives points faces text ps xs w ps3 xs3 w3 r.points r.faces
      unfolding work_room
      done {ps3} {xs3} {w3} {r} f =
          let s = sizes in
          let t = f may-finish in
          let e = applied_is (points_of points) (faces_of faces) text z (made (points_of points) (faces_of faces) text p.applies).is in
          let m = g.stands.most in
          let i = g.within in
          record {
            points_are = finished_points g.stands s.few_points s.few_faces t ∙ ap (λ x. flat_points x.points) (sym e);
            faces_are = finished_faces g.stands s.few_points s.few_faces t ∙ ap (λ x. flat_faces x.faces) (sym e);
            points_fit = omega (arith, t.points_left);
            faces_fit = omega (arith, t.faces_left);
            only_points = only_both (only_both (only_more (omega arith) (omega arith) a.only) i.only_points) (only_more (omega arith) (omega arith) t.only_points);
            only_faces = only_both (only_both b.only i.only_faces) t.only_faces;
            only_work = only_both (only_both (only_more (omega arith) (omega arith) o) (only_more (omega arith) (omega arith) i.only_work)) (only_more (omega arith) (omega arith) t.only_work);
          }
