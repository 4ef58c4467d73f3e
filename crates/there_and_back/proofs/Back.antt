-- Reading then writing: what reading gives of a file that it accepts is written as that file. Assumes nothing.
use mathlib.Core.Path.{◌≡◌, sym, ap, ap₂, ◌∙◌}
use mathlib.Core.List.{List, [], ◌∷◌}
use Prim.Native.Nat.{ℕ, ◌+◌, ◌*◌, ◌/◌, ◌≤◌}
use native.Mathlib.Omega.{arith}
use lib.ListN.{length}
use lib.Ieee.{Float}
use Rattle.rules.specs.Mesh.{face, points_of, faces_of, flat_points, flat_faces}
use Rattle.rules.specs.Refusal.{ok, no4, no5, most_points, most_faces}
use Rattle.rules.specs.Rooms.{work_room, filled, cleared, accepted, outcome}
use Rattle.rules.specs.Ply.{header, ply, vertices_in, faces_in_is, points_of_bytes, triples_of}
use Rattle.rules.specs.ReadPlyCall.{ReadPlyRooms, read_ply_check}
use Rattle.rules.specs.WritePlyCall.{WritePlyRooms, write_ply_check, write_ply}
use Rattle.rule_laws.proofs.Decided.{decided_ok}
use Rattle.rule_laws.proofs.Flat.{length_flat_points, length_flat_faces, points_flat, own_flat}
use Rattle.rule_laws.proofs.Bytes.{Bytes}
use Rattle.rule_laws.proofs.PlyForm.{form_in}
use Rattle.rule_laws.proofs.PlyRead.{file_again}
use Rattle.refuse.proofs.Singles.{few, thirds}
use Rattle.ply_file.specs.Files.{PlyAccepted}
use Rattle.ply_file.proofs.Accept.{ply_is, ply_accepted}
use Rattle.ply_file.proofs.Scanning.{length_points, length_triples, face_is}
use Rattle.write_ply_refusal.proofs.Short.{long}

module _ (file : List ℕ) (by : Bytes file) (q : ReadPlyRooms) (e : read_ply_check file q ≡ ok) where
  -- the count of vertices
  abbrev P : ℕ
  P = vertices_in file

  -- that of faces
  abbrev F : ℕ
  F = faces_in_is file

  -- what reading asked of the file
  asked : PlyAccepted file (length q.points) (length q.faces) (length q.work)
  asked = ply_accepted file (length q.points) (length q.faces) (length q.work) (ply_is file q ∙ e)

  -- the coordinates that reading gives
  abbrev ps : List Float
  ps = flat_points (points_of_bytes file)

  -- and the corners
  abbrev fs : List ℕ
  fs = flat_faces (triples_of file)

  -- three a vertex
  points_long : length ps ≡ 3 * P
  points_long = length_flat_points (points_of_bytes file) ∙ ap (λ (n : ℕ). 3 * n) (length_points file)

  -- three a face
  faces_long : length fs ≡ 3 * F
  faces_long = length_flat_faces (triples_of file) ∙ ap (λ (n : ℕ). 3 * n) (length_triples file)

  -- as many points
  p_is : length ps / 3 ≡ P
  p_is = omega (arith, points_long)

  -- as many faces
  f_is : length fs / 3 ≡ F
  f_is = omega (arith, faces_long)

  -- each triple is its own origin, so it is the same made flat and read again
  faces_same : faces_of fs ≡ triples_of file
  unfolding face
  faces_same = own_flat (triples_of file) (λ i h. ap (λ f. f.origin) (face_is file i _ (omega (arith, length_triples file))))

  -- their file is the one that was read
  made : ply (points_of ps) (faces_of fs) ≡ file
  made = ap₂ ply (points_flat (points_of_bytes file)) faces_same ∙ file_again by asked.form asked.triple asked.domain

  -- the header's length and the file's
  whole : length file ≡ length (header P F) + 24 * P + 13 * F
  whole = (form_in file asked.form).long

  -- writing them finds nothing
  pub back_fine : (r : WritePlyRooms) → length file ≤ length r.file → work_room P F ≤ length r.work → write_ply_check ps fs r ≡ ok
  unfolding write_ply_check
  back_fine r a b =
      let l : length (header (length ps / 3) (length fs / 3)) + 24 * (length ps / 3) + 13 * (length fs / 3) ≡ length file = ap₂ (λ (n m : ℕ). length (header n m) + 24 * n + 13 * m) p_is f_is ∙ sym whole in
      decided_ok _ (
        sym (thirds 0 (length ps) (omega (arith, points_long))),
        (
          sym (thirds 1 (length fs) (omega (arith, faces_long))),
          (
            sym (few 0 (length ps / 3) most_points (omega (arith, p_is, asked.limits.points))),
            (
              sym (few 1 (length fs / 3) most_faces (omega (arith, f_is, asked.limits.faces))),
              (
                ap no4 (points_flat (points_of_bytes file)) ∙ asked.domain,
                (
                  ap₂ no5 p_is faces_same ∙ asked.corners,
                  (
                    sym (long (length ps / 3) (length fs / 3) (length r.file) (length r.work) (omega (arith, l)) (rw (p_is, f_is) b)),
                    tt,
                  ),
                ),
              ),
            ),
          ),
        ),
      )

  -- and the file stands in its room
  pub back : (r : WritePlyRooms) → length file ≤ length r.file → work_room P F ≤ length r.work → write_ply ps fs r ≡ record {
    answer = accepted (length file ∷ []);
    rooms = record { file = filled 0 (length file) file r.file; work = cleared (work_room P F) r.work };
  }
  unfolding write_ply outcome
  back r a b =
      let m = ply (points_of ps) (faces_of fs) in
      ap (λ c. outcome c r (length m ∷ []) (record { file = filled 0 (length m) m r.file; work = cleared (work_room (length ps / 3) (length fs / 3)) r.work })) (back_fine r a b)
      ∙ ap₂ (λ (f : List ℕ) (w : ℕ). record { answer = accepted (length f ∷ []); rooms = record { file = filled 0 (length f) f r.file; work = cleared w r.work } }) made (ap₂ work_room p_is f_is)
