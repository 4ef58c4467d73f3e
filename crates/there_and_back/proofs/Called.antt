-- The same of the calls: what writing left in its room is read as the mesh, and what reading left in its rooms is written as the file. Assumes nothing.
use Rattle.std.specs.Prelude.{Result, Ok}
use mathlib.Core.Path.{◌≡◌, refl, sym, ap, ap₂, subst, ◌∙◌}
use mathlib.Core.List.{List, [], ◌∷◌}
use Prim.Native.Nat.{ℕ, ◌*◌, ◌/◌, ◌≤◌}
use lib.ListN.{length, get_or, take}
use lib.Ieee.{Float}
use Rattle.rules.specs.Mesh.{points_of, faces_of, flat_points, flat_faces, zero64}
use Rattle.rules.specs.Refusal.{Check, ok, no}
use Rattle.rules.specs.Rooms.{work_room, filled, cleared, Answer, accepted, refused, Outcome, outcome}
use Rattle.rules.specs.Ply.{ply, vertices_in, faces_in_is, points_of_bytes, triples_of}
use Rattle.rules.specs.ReadPlyCall.{ReadPlyRooms, read_ply_check, read_ply}
use Rattle.rules.specs.WritePlyCall.{WritePlyRooms, write_ply_check, write_ply}
use Rattle.rule_laws.proofs.Called.{filled_front}
use Rattle.rule_laws.proofs.Flat.{length_flat_points, length_flat_faces}
use Rattle.rule_laws.proofs.Bytes.{Bytes}
use Rattle.ply_file.proofs.Scanning.{length_points, length_triples}
use Rattle.refuse.specs.declared.Refusal.{Refusal}
use Rattle.read_ply.specs.Answers as reading
use Rattle.read_ply.specs.declared.Read.{Read}
use Rattle.write_ply.specs.Written as writing
use Rattle.there_and_back.proofs.There.{Owned, RoomFor, there}
use Rattle.there_and_back.proofs.Back.{back}

-- an answer that is accepted
abbrev taken : Answer → Type 0
taken (accepted l) = Unit {0}
taken (refused n p) = ⊥

-- its entries
abbrev entries : Answer → List ℕ
entries (accepted l) = l
entries (refused n p) = []

-- its call found nothing
found_nothing : {R : Type 0} (c : Check) (given after : R) (l : List ℕ) → taken (outcome c given l after).answer → c ≡ ok
unfolding outcome
found_nothing ok given after l t = refl
found_nothing (no n p) given after l t = absurd t

-- ---- what writing left
module _ (ps : List Float) (fs file w file' w' : List ℕ) (n : ℕ) (e : writing.outcome_of (Ok n) file' w' ≡ write_ply ps fs (writing.rooms_of file w)) where
  -- it refused nothing
  pub wrote_fine : write_ply_check ps fs (writing.rooms_of file w) ≡ ok
  unfolding write_ply
  wrote_fine = found_nothing (write_ply_check ps fs (writing.rooms_of file w)) _ _ _ (subst (λ (o : Outcome WritePlyRooms). taken o.answer) e tt)

  -- the file of the mesh
  abbrev made : List ℕ
  made = ply (points_of ps) (faces_of fs)

  -- its outcome, as the rules have it where nothing is refused
  done_as : write_ply ps fs (writing.rooms_of file w) ≡ record { answer = accepted (length made ∷ []); rooms = record { file = filled 0 (length made) made file; work = cleared (work_room (length ps / 3) (length fs / 3)) w } }
  unfolding write_ply outcome
  done_as = ap (λ c. outcome c (writing.rooms_of file w) (length made ∷ []) (record { file = filled 0 (length made) made file; work = cleared (work_room (length ps / 3) (length fs / 3)) w })) wrote_fine

  -- the file is the mesh's
  pub wrote_file : take n file' ≡ made
  wrote_file =
      let q = e ∙ done_as in
      let l : n ≡ length made = ap (λ (o : Outcome WritePlyRooms). get_or (entries o.answer) 0 0) q in
      let f : file' ≡ filled 0 (length made) made file = ap (λ (o : Outcome WritePlyRooms). o.rooms.file) q in
      ap₂ (λ (k : ℕ) (xs : List ℕ). take k xs) l f ∙ filled_front 0 (length made) (length made) made file refl

  -- and reading it gives the mesh
  pub written_read : Owned ps fs → (r : Result Read Refusal) (a a' : List Float) (b b' v v' : List ℕ) → RoomFor (length ps / 3) (length fs / 3) (reading.rooms_of a b v)
      → reading.outcome_of r a' b' v' ≡ read_ply (take n file') (reading.rooms_of a b v)
      → (reading.answer_of r ≡ accepted (length ps ∷ length fs ∷ [])) × (take (length ps) a' ≡ ps) × (take (length fs) b' ≡ fs)
  written_read own r a a' b b' v v' room q =
      let s = q ∙ ap (λ (f : List ℕ). read_ply f (reading.rooms_of a b v)) wrote_file ∙ there ps fs (writing.rooms_of file w) wrote_fine own (reading.rooms_of a b v) room in (
        ap (λ (o : Outcome ReadPlyRooms). o.answer) s,
        ap (λ (o : Outcome ReadPlyRooms). take (length ps) o.rooms.points) s ∙ filled_front zero64 (length ps) (length ps) ps a refl,
        ap (λ (o : Outcome ReadPlyRooms). take (length fs) o.rooms.faces) s ∙ filled_front 0 (length fs) (length fs) fs b refl,
      )

-- ---- what reading left
module _ (file : List ℕ) (a a' : List Float) (b b' v v' : List ℕ) (p f : ℕ) (e : reading.outcome_of (Ok (record { points = p; faces = f })) a' b' v' ≡ read_ply file (reading.rooms_of a b v)) where
  -- it refused nothing
  pub read_fine : read_ply_check file (reading.rooms_of a b v) ≡ ok
  unfolding read_ply
  read_fine = found_nothing (read_ply_check file (reading.rooms_of a b v)) _ _ _ (subst (λ (o : Outcome ReadPlyRooms). taken o.answer) e tt)

  -- the rooms of an accepted call
  abbrev after : ReadPlyRooms
  after =
      record {
        points = filled zero64 (3 * vertices_in file) (flat_points (points_of_bytes file)) a;
        faces = filled 0 (3 * faces_in_is file) (flat_faces (triples_of file)) b;
        work = cleared (work_room (vertices_in file) (faces_in_is file)) v;
      }

  -- its outcome, as the rules have it where nothing is refused
  read_as : read_ply file (reading.rooms_of a b v) ≡ record { answer = accepted (3 * vertices_in file ∷ 3 * faces_in_is file ∷ []); rooms = after }
  unfolding read_ply outcome
  read_as = ap (λ c. outcome c (reading.rooms_of a b v) (3 * vertices_in file ∷ 3 * faces_in_is file ∷ []) after) read_fine

  -- the points are the file's
  pub read_points : take p a' ≡ flat_points (points_of_bytes file)
  read_points =
      let q = e ∙ read_as in
      let l : p ≡ 3 * vertices_in file = ap (λ (o : Outcome ReadPlyRooms). get_or (entries o.answer) 0 0) q in
      let k : length (flat_points (points_of_bytes file)) ≡ 3 * vertices_in file = length_flat_points (points_of_bytes file) ∙ ap (λ (n : ℕ). 3 * n) (length_points file) in
      ap₂ (λ (n : ℕ) (xs : List Float). take n xs) (l ∙ sym k) (ap (λ (o : Outcome ReadPlyRooms). o.rooms.points) q) ∙ filled_front zero64 (3 * vertices_in file) _ (flat_points (points_of_bytes file)) a refl

  -- and so are the triples
  pub read_triples : take f b' ≡ flat_faces (triples_of file)
  read_triples =
      let q = e ∙ read_as in
      let l : f ≡ 3 * faces_in_is file = ap (λ (o : Outcome ReadPlyRooms). get_or (entries o.answer) 1 0) q in
      let k : length (flat_faces (triples_of file)) ≡ 3 * faces_in_is file = length_flat_faces (triples_of file) ∙ ap (λ (n : ℕ). 3 * n) (length_triples file) in
      ap₂ (λ (n : ℕ) (xs : List ℕ). take n xs) (l ∙ sym k) (ap (λ (o : Outcome ReadPlyRooms). o.rooms.faces) q) ∙ filled_front 0 (3 * faces_in_is file) _ (flat_faces (triples_of file)) b refl

  -- and writing them gives the file
  pub read_written : Bytes file → (r : Result ℕ Refusal) (out out' w w' : List ℕ) → length file ≤ length out → work_room (vertices_in file) (faces_in_is file) ≤ length w
      → writing.outcome_of r out' w' ≡ write_ply (take p a') (take f b') (writing.rooms_of out w)
      → (writing.answer_of r ≡ accepted (length file ∷ [])) × (take (length file) out' ≡ file)
  read_written by r out out' w w' h k q =
      let s = q ∙ ap₂ (λ (xs : List Float) (ys : List ℕ). write_ply xs ys (writing.rooms_of out w)) read_points read_triples ∙ back file by (reading.rooms_of a b v) read_fine (writing.rooms_of out w) h k in
      (ap (λ (o : Outcome WritePlyRooms). o.answer) s, ap (λ (o : Outcome WritePlyRooms). take (length file) o.rooms.file) s ∙ filled_front 0 (length file) (length file) file out refl)
