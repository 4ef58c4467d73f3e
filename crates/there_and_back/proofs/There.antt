-- Writing then reading: a mesh that writing accepts is read back from its file, bit by bit. Assumes nothing.
use mathlib.Core.Path.{◌≡◌, sym, ap, ap₂, ◌∙◌}
use mathlib.Core.List.{List, [], ◌∷◌}
use Prim.Native.Nat.{ℕ, ◌+◌, ◌*◌, ◌/◌, ◌%◌, ◌^◌, ◌≤◌, ◌<◌}
use native.Mathlib.Omega.{arith}
use lib.Dec.{T, eqb, eqb→eq}
use lib.ListN.{length, get_or}
use lib.Ieee.{Float, nan, binary64, fits}
use Rattle.rules.specs.Mesh.{points_of, faces_of, flat_points, flat_faces, zero64}
use Rattle.rules.specs.Refusal.{ok, no1, no4, no5, most_points, most_faces}
use Rattle.rules.specs.Rooms.{work_room, filled, cleared, accepted, outcome}
use Rattle.rules.specs.Ply.{ply, vertices_in, faces_in_is, points_of_bytes, triples_of}
use Rattle.rules.specs.ReadPlyCall.{ReadPlyRooms, read_ply_check, read_ply}
use Rattle.rules.specs.WritePlyCall.{WritePlyRooms, write_ply_check}
use Rattle.rule_laws.proofs.Decided.{decided_all, decided_ok, unless_ok}
use Rattle.rule_laws.proofs.Flat.{length_points, length_faces, point_in, face_in, flat_points_back, flat_faces_back, numbered}
use Rattle.rule_laws.proofs.PlyWritten.{Writable, vertices_are, faces_are, points_are, triples_are, is_triple, in_form}
use Rattle.refuse.proofs.Singles.{few, no2_fine}
use Rattle.ply_file.proofs.Short.{long}

-- the coordinates are f64, and the corners u32, as those of slices are
pub record Owned (ps : List Float) (fs : List ℕ) : Type 0 where
  pub floats : (i : ℕ) → i < length ps → T (fits binary64 (get_or ps i nan))
  pub numbers : (i : ℕ) → i < length fs → get_or fs i 0 < 2 ^ 32

-- rooms for P points and F triples
pub record RoomFor (P F : ℕ) (r : ReadPlyRooms) : Type 0 where
  pub points : 3 * P ≤ length r.points
  pub faces : 3 * F ≤ length r.faces
  pub work : work_room P F ≤ length r.work

-- where 1 finds nothing
thirds : (p n : ℕ) → no1 p n ≡ ok → n % 3 ≡ 0
unfolding no1
thirds p n e = eqb→eq (n % 3) 0 (unless_ok 1 p (eqb (n % 3) 0) e)

module _ (ps : List Float) (fs : List ℕ) (r : WritePlyRooms) (e : write_ply_check ps fs r ≡ ok) (own : Owned ps fs) where
  -- what writing asked of the mesh
  pub record Mesh : Type 0 where
    pub points_three : length ps % 3 ≡ 0
    pub faces_three : length fs % 3 ≡ 0
    pub few_points : length ps / 3 ≤ most_points
    pub few_faces : length fs / 3 ≤ most_faces
    pub domain : no4 (points_of ps) ≡ ok
    pub corners : no5 (length ps / 3) (faces_of fs) ≡ ok

  -- by its checks
  mesh : Mesh
  unfolding write_ply_check
  mesh =
      let a = decided_all _ e in
      record {
        points_three = thirds 0 (length ps) a.0;
        faces_three = thirds 1 (length fs) a.1.0;
        few_points = no2_fine 0 (length ps / 3) most_points a.1.1.0;
        few_faces = no2_fine 1 (length fs / 3) most_faces a.1.1.1.0;
        domain = a.1.1.1.1.0;
        corners = a.1.1.1.1.1.0;
      }

  -- it can be written
  writable : Writable (points_of ps) (faces_of fs)
  writable =
      let lp = length_points ps in
      let lf = length_faces fs in
      record {
        points_fit = λ i h.
            let k : i < length ps / 3 = omega arith in
            rw (point_in ps nan i k) (record { x_fits = own.floats (3 * i) (omega arith); y_fits = own.floats (3 * i + 1) (omega arith); z_fits = own.floats (3 * i + 2) (omega arith) });
        corners_small = λ i h.
            let k : i < length fs / 3 = omega arith in
            rw (face_in fs i k) (record { a_small = own.numbers (3 * i) (omega arith); b_small = own.numbers (3 * i + 1) (omega arith); c_small = own.numbers (3 * i + 2) (omega arith) });
        own_origins = numbered fs;
        few_points = omega (arith, mesh.few_points);
        few_faces = omega (arith, mesh.few_faces);
      }

  -- its file
  abbrev file : List ℕ
  file = ply (points_of ps) (faces_of fs)

  -- as many vertices as points
  p_is : vertices_in file ≡ length ps / 3
  p_is = vertices_are (points_of ps) (faces_of fs) writable ∙ length_points ps

  -- and as many faces
  f_is : faces_in_is file ≡ length fs / 3
  f_is = faces_are (points_of ps) (faces_of fs) writable ∙ length_faces fs

  -- reading its file finds nothing
  pub there_fine : (q : ReadPlyRooms) → RoomFor (length ps / 3) (length fs / 3) q → read_ply_check file q ≡ ok
  unfolding read_ply_check
  there_fine q room =
      let m = mesh in
      decided_ok _ (
        in_form (points_of ps) (faces_of fs) writable,
        (
          sym (few 0 (vertices_in file) most_points (omega (arith, p_is, m.few_points))),
          (
            sym (few 1 (faces_in_is file) most_faces (omega (arith, f_is, m.few_faces))),
            (
              is_triple (points_of ps) (faces_of fs) writable,
              (
                ap no4 (points_are (points_of ps) (faces_of fs) writable) ∙ m.domain,
                (
                  ap₂ no5 p_is (triples_are (points_of ps) (faces_of fs) writable) ∙ m.corners,
                  (
                    sym (long (vertices_in file) (faces_in_is file) (length q.points) (length q.faces) (length q.work) (omega (arith, p_is, room.points)) (omega (arith, f_is, room.faces)) (rw (p_is, f_is) room.work)),
                    tt,
                  ),
                ),
              ),
            ),
          ),
        ),
      )

  -- and the mesh stands in the rooms
  pub there : (q : ReadPlyRooms) → RoomFor (length ps / 3) (length fs / 3) q → read_ply file q ≡ record {
    answer = accepted (length ps ∷ length fs ∷ []);
    rooms = record { points = filled zero64 (length ps) ps q.points; faces = filled 0 (length fs) fs q.faces; work = cleared (work_room (length ps / 3) (length fs / 3)) q.work };
  }
  unfolding read_ply outcome
  there q room =
      let m = mesh in
      let x : 3 * vertices_in file ≡ length ps = omega (arith, p_is, m.points_three) in
      let y : 3 * faces_in_is file ≡ length fs = omega (arith, f_is, m.faces_three) in
      let a : flat_points (points_of_bytes file) ≡ ps = ap flat_points (points_are (points_of ps) (faces_of fs) writable) ∙ flat_points_back ps m.points_three in
      let b : flat_faces (triples_of file) ≡ fs = ap flat_faces (triples_are (points_of ps) (faces_of fs) writable) ∙ flat_faces_back fs m.faces_three in
      let s : filled zero64 (3 * vertices_in file) (flat_points (points_of_bytes file)) q.points ≡ filled zero64 (length ps) ps q.points = ap₂ (λ (n : ℕ) (l : List Float). filled zero64 n l q.points) x a in
      let t : filled 0 (3 * faces_in_is file) (flat_faces (triples_of file)) q.faces ≡ filled 0 (length fs) fs q.faces = ap₂ (λ (n : ℕ) (l : List ℕ). filled 0 n l q.faces) y b in
      let u : cleared (work_room (vertices_in file) (faces_in_is file)) q.work ≡ cleared (work_room (length ps / 3) (length fs / 3)) q.work = ap₂ (λ (n k : ℕ). cleared (work_room n k) q.work) p_is f_is in
      ap (λ c. outcome c q (3 * vertices_in file ∷ 3 * faces_in_is file ∷ []) (record { points = filled zero64 (3 * vertices_in file) (flat_points (points_of_bytes file)) q.points; faces = filled 0 (3 * faces_in_is file) (flat_faces (triples_of file)) q.faces; work = cleared (work_room (vertices_in file) (faces_in_is file)) q.work })) (there_fine q room)
      ∙ ap₂ (λ (l : List ℕ) (rooms : ReadPlyRooms). record { answer = accepted l; rooms = rooms }) (ap₂ (λ (i j : ℕ). i ∷ j ∷ []) x y) (λ i. record { points = s i; faces = t i; work = u i })
