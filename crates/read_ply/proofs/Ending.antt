-- The outcome of reading: a refusal that leaves every room as it was, or points and triples in their rooms. Assumes nothing.
use Rattle.std.specs.Prelude.{Ok, Err}
use mathlib.Core.Path.{◌≡◌, refl, sym, ap, ap₂, subst, ◌∙◌}
use mathlib.Core.List.{List, [], ◌∷◌}
use Prim.Native.Nat.{ℕ, ◌+◌, ◌*◌, ◌≤◌, ◌<◌}
use native.Mathlib.Nat.{zero-add}
use native.Mathlib.Omega.{arith}
use lib.ListN.{length, get_or, take}
use lib.Seq.{get_or-take, length-take-le, ext_get_or}
use lib.Ieee.{Float, nan}
use Rattle.rows.specs.Region.{Only, Filled}
use Rattle.filling.proofs.Filling.{filled_whole, cleared_is}
use Rattle.rules.specs.Mesh.{Point, Face, point, face, points_of, faces_of, flat_points, flat_faces, zero64}
use Rattle.rules.specs.Refusal.{Check, ok, no, decided}
use Rattle.rules.specs.Rooms.{work_room, filled, cleared, outcome, accepted}
use Rattle.rules.specs.Ply.{vertices_in, faces_in_is, real_at, points_of_bytes, triples_of}
use Rattle.rules.specs.ReadPlyCall.{ReadPlyRooms, read_ply_check, read_ply}
use Rattle.rule_laws.proofs.Flat.{length_points, length_faces, point_in, face_in, flat_points_back, flat_faces_back, same_point, same_face}
use Rattle.refuse.specs.declared.Refusal.{Refusal}
use Rattle.refuse.specs.Verdicts.{number_of, place_of, Limits}
use Rattle.ply_file.specs.Files.{Whole, point_at, face_at, PlyAccepted, ply_list}
use Rattle.ply_file.proofs.Scanning as scan
use Rattle.ply_file.proofs.Accept.{ply_is, ply_accepted}
use Rattle.read_ply.specs.Answers.{rooms_of, outcome_of}
use Rattle.read_ply.specs.Bodies.{CoordinatesAsk, CoordinatesGive, TriplesAsk, TriplesGive}

-- the bounds of what is reckoned and cleared
pub record Sizes (p f at file work : ℕ) : Type 0 where
  pub few_p : p ≤ 4194304
  pub few_f : f ≤ 1048576
  pub file_long : at + 24 * p + 13 * f ≤ file
  pub work_long : work_room p f ≤ work

module _ (file : List ℕ) (ps : List Float) (xs w : List ℕ) where
  -- the entries that stand in each room
  abbrev entries : List ℕ
  entries = 3 * vertices_in file ∷ 3 * faces_in_is file ∷ []

  -- the rooms of an accepted call
  abbrev after : ReadPlyRooms
  after =
      record {
        points = filled zero64 (3 * vertices_in file) (flat_points (points_of_bytes file)) ps;
        faces = filled 0 (3 * faces_in_is file) (flat_faces (triples_of file)) xs;
        work = cleared (work_room (vertices_in file) (faces_in_is file)) w;
      }

  -- the rules' check is what the checks found
  found_is : {c : Check} → c ≡ decided (ply_list file (length ps) (length xs) (length w)) → c ≡ read_ply_check file (rooms_of ps xs w)
  found_is e = e ∙ ply_is file (rooms_of ps xs w)

  -- a refusal changes no buffer
  pub is_refused :
      (r : Refusal) → no (number_of r) (place_of r) ≡ decided (ply_list file (length ps) (length xs) (length w))
      → outcome_of (Err r) ps xs w ≡ read_ply file (rooms_of ps xs w)
  unfolding read_ply outcome
  is_refused r e = ap (λ c. outcome c (rooms_of ps xs w) entries after) (found_is e)

  module _ (e : ok ≡ decided (ply_list file (length ps) (length xs) (length w))) {p f at : ℕ} (h : Whole file p f at) where
    -- what an accepted file says
    is_accepted : PlyAccepted file (length ps) (length xs) (length w)
    is_accepted = ply_accepted file (length ps) (length xs) (length w) (sym e)

    -- so everything can be reckoned
    pub sizes : Sizes p f at (length file) (length w)
    sizes =
        let a = is_accepted in
        let b = h.vertices in
        let c = h.faces in
        record {
          few_p = omega (arith, a.limits.points);
          few_f = omega (arith, a.limits.faces);
          file_long = omega (arith, h.long);
          work_long = subst (λ (n : ℕ). n ≤ length w) (ap₂ work_room b c) a.room_work;
        }

    -- there is room for the points
    points_long : 3 * p ≤ length ps
    points_long = omega (arith, is_accepted.room_points, h.vertices)

    -- and for the faces
    faces_long : 3 * f ≤ length xs
    faces_long = omega (arith, is_accepted.room_faces, h.faces)

    -- P and F are not too large
    pub limits : Limits p f
    limits = record { points = sizes.few_p; faces = sizes.few_f }

    -- the work room can be cleared
    pub wipe_ask : {n : ℕ} → n ≡ work_room p f → 0 + n ≤ length w
    wipe_ask e = omega (arith, sizes.work_long)

    -- the coordinates can be stored
    pub coordinates_ask : CoordinatesAsk file at (3 * p) ps
    coordinates_ask = record { few = omega (arith, sizes); fit = omega (arith, sizes); room = points_long }

    -- and the triples
    pub triples_ask : TriplesAsk file (at + 24 * p) f xs
    triples_ask = record { few = sizes.few_f; fit = omega (arith, sizes); room = faces_long }

    -- coordinate j, by the byte at which it begins
    stored : {ps1 : List Float} → CoordinatesGive file at (3 * p) ps ps1 → (j : ℕ) {i : ℕ} → j < 3 * p → at + 8 * j ≡ i → get_or ps1 j nan ≡ real_at file i
    stored g j h e = rw zero-add at (g.stand.each j h) ∙ ap (real_at file) e

    -- the points in the room are the file's
    points_are : {ps1 : List Float} → CoordinatesGive file at (3 * p) ps ps1 → take (3 * p) ps1 ≡ flat_points (points_of_bytes file)
    unfolding point
    points_are {ps1} g =
        let l = g.only.long in
        let n = length-take-le (3 * p) ps1 (omega (arith, points_long)) in
        let d : Point = record { x = zero64; y = zero64; z = zero64 } in
        let m = scan.length_points file in
        let q = h.vertices in
        let o : points_of (take (3 * p) ps1) ≡ points_of_bytes file =
        ext_get_or d (points_of (take (3 * p) ps1)) (points_of_bytes file) (length_points (take (3 * p) ps1) ∙ omega arith)
        (λ i k.
        let r : i < p = omega (arith, length_points (take (3 * p) ps1)) in
        point_in (take (3 * p) ps1) nan i (omega arith)
        ∙ same_point _ _
        (get_or-take (3 * p) ps1 (3 * i) nan (omega arith) ∙ stored g (3 * i) (omega arith) (omega arith))
        (get_or-take (3 * p) ps1 (3 * i + 1) nan (omega arith) ∙ stored g (3 * i + 1) (omega arith) (omega arith))
        (get_or-take (3 * p) ps1 (3 * i + 2) nan (omega arith) ∙ stored g (3 * i + 2) (omega arith) (omega arith))
        ∙ sym (scan.vertex_is file i d (omega arith) ∙ ap (λ (j : ℕ). point_at file (j + 24 * i)) h.head)) in
        sym (flat_points_back (take (3 * p) ps1) (omega arith)) ∙ ap flat_points o

    -- and the triples
    triples_are : {xs1 : List ℕ} → TriplesGive file (at + 24 * p) f xs xs1 → take (3 * f) xs1 ≡ flat_faces (triples_of file)
    unfolding face
    triples_are {xs1} g =
        let l = g.only.long in
        let n = length-take-le (3 * f) xs1 (omega (arith, faces_long)) in
        let d : Face = record { a = 0; b = 0; c = 0; origin = 0 } in
        let m = scan.length_triples file in
        let q = h.faces in
        let o : faces_of (take (3 * f) xs1) ≡ triples_of file =
        ext_get_or d (faces_of (take (3 * f) xs1)) (triples_of file) (length_faces (take (3 * f) xs1) ∙ omega arith)
        (λ i k.
        let r : i < f = omega (arith, length_faces (take (3 * f) xs1)) in
        let s = g.stands i r in
        face_in (take (3 * f) xs1) i (omega arith)
        ∙ same_face _ _
        (get_or-take (3 * f) xs1 (3 * i) 0 (omega arith) ∙ s.a)
        (get_or-take (3 * f) xs1 (3 * i + 1) 0 (omega arith) ∙ s.b)
        (get_or-take (3 * f) xs1 (3 * i + 2) 0 (omega arith) ∙ s.c) refl
        ∙ sym (scan.face_is file i d (omega arith) ∙ ap₂ (λ (j n : ℕ). scan.numbered i (face_at file (j + 24 * n + 13 * i))) h.head h.vertices)) in
        sym (flat_faces_back (take (3 * f) xs1) (omega arith)) ∙ ap flat_faces o

    -- the answers in their rooms and the work room cleared: the rules' outcome
    pub is_done :
        {ps1 : List Float} {xs1 w1 : List ℕ} → CoordinatesGive file at (3 * p) ps ps1 → TriplesGive file (at + 24 * p) f xs xs1
        → {n : ℕ} → n ≡ work_room p f → Only 0 n w w1 → Filled 0 n 0 w1
        → outcome_of (Ok (record { points = 3 * p; faces = 3 * f })) ps1 xs1 w1 ≡ read_ply file (rooms_of ps xs w)
    unfolding read_ply outcome
    is_done {ps1} {xs1} {w1} g k q ow hw =
        let a : ps1 ≡ after.points = filled_whole zero64 points_long g.only (points_are g) ∙ ap (λ (j : ℕ). filled zero64 (3 * j) (flat_points (points_of_bytes file)) ps) (sym h.vertices) in
        let b : xs1 ≡ after.faces = filled_whole 0 faces_long k.only (triples_are k) ∙ ap (λ (j : ℕ). filled 0 (3 * j) (flat_faces (triples_of file)) xs) (sym h.faces) in
        let c : w1 ≡ after.work = cleared_is sizes.work_long (rw q at ow) (rw q at hw) ∙ ap₂ (λ (i j : ℕ). cleared (work_room i j) w) (sym h.vertices) (sym h.faces) in
        ap₂ (λ (l : List ℕ) (rooms : ReadPlyRooms). record { answer = accepted l; rooms = rooms })
        (ap₂ (λ (i j : ℕ). 3 * i ∷ 3 * j ∷ []) (sym h.vertices) (sym h.faces))
        (λ i. record { points = a i; faces = b i; work = c i })
        ∙ ap (λ c. outcome c (rooms_of ps xs w) entries after) (found_is e)
