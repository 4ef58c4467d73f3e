-- Writing then reading: the file of points and triples is read as these. Assumes nothing.
use mathlib.Core.Path.{◌≡◌, refl, sym, ap, ap₂, subst, ◌∙◌}
use mathlib.Core.Bool.{not}
use mathlib.Core.List.{List, ◌++◌, map, append_assoc}
use Prim.Native.Nat.{ℕ, suc, ◌+◌, ◌*◌, ◌^◌, ◌<◌}
use native.Mathlib.Omega.{arith}
use lib.Dec.{T, eqb}
use lib.ListN.{length, get_or, take, drop, length-append}
use lib.Seq.{get_or-append-add}
use lib.Ieee.{Float, binary64, fits, of_bits, to_bits}
use lib.Ieee.Bits.{of_bits-to_bits, to_bits-lt}
use Rattle.rules.specs.Lists.{below, each}
use Rattle.rules.specs.Mesh.{Point, Face, point, face, zero64}
use Rattle.rules.specs.Refusal.{ok}
use Rattle.rules.specs.Bytes.{little, u32_at, u64_at}
use Rattle.rules.specs.Ply.{header, vertex, triple, ply, vertices_in, faces_in_is, header_in, real_at, vertex_at, face_place, triple_at, points_of_bytes, triples_of, no13, no14}
use Rattle.rule_laws.proofs.Lists.{length_each, length_below}
use Rattle.rule_laws.proofs.Rising.{get_or_below}
use Rattle.rule_laws.proofs.Firsts.{none_at_fault}
use Rattle.rule_laws.proofs.Flat.{same_point, same_face}
use Rattle.rule_laws.proofs.Bytes.{u32_behind, u64_behind}
use Rattle.rule_laws.proofs.Blocks.{tabulated, each_parted, each_front}
use Rattle.rule_laws.proofs.PlyForm as form
use Rattle.rule_laws.proofs.PlyForm.{Form}

-- ---- one vertex and one face

-- each coordinate of a point fits
pub record Fits (p : Point) : Type 0 where
  pub x_fits : T (fits binary64 p.x)
  pub y_fits : T (fits binary64 p.y)
  pub z_fits : T (fits binary64 p.z)

-- each corner is a u32
pub record Small (f : Face) : Type 0 where
  pub a_small : f.a < 2 ^ 32
  pub b_small : f.b < 2 ^ 32
  pub c_small : f.c < 2 ^ 32

-- a vertex is 24 bytes
pub vertex_long : (p : Point) → length (vertex p) ≡ 24
unfolding vertex each little
vertex_long p = refl

-- a face is 13
pub triple_long : (f : Face) → length (triple f) ≡ 13
unfolding triple each little
triple_long f = refl

-- the number that bits stand for
real_is : (file : List ℕ) (i : ℕ) (x : Float) → T (fits binary64 x) → u64_at file i ≡ to_bits binary64 x → real_at file i ≡ x
unfolding real_at
real_is file i x f e = ap (of_bits binary64) e ∙ of_bits-to_bits binary64 x f

-- the three coordinates of a vertex, byte by byte
module _ (p : Point) (f : Fits p) (rest : List ℕ) where
  -- x
  vertex_x : u64_at (vertex p ++ rest) 0 ≡ to_bits binary64 p.x
  unfolding vertex each u32_at little
  vertex_x = let h = to_bits-lt binary64 p.x f.x_fits in omega arith

  -- y
  vertex_y : u64_at (vertex p ++ rest) 8 ≡ to_bits binary64 p.y
  unfolding vertex each u32_at little
  vertex_y = let h = to_bits-lt binary64 p.y f.y_fits in omega arith

  -- z
  vertex_z : u64_at (vertex p ++ rest) 16 ≡ to_bits binary64 p.z
  unfolding vertex each u32_at little
  vertex_z = let h = to_bits-lt binary64 p.z f.z_fits in omega arith

-- the three corners of a face
module _ (g : Face) (s : Small g) (rest : List ℕ) where
  -- corner 0
  triple_a : u32_at (triple g ++ rest) 1 ≡ g.a
  unfolding triple each u32_at little
  triple_a = let h = s.a_small in omega arith

  -- corner 1
  triple_b : u32_at (triple g ++ rest) 5 ≡ g.b
  unfolding triple each u32_at little
  triple_b = let h = s.b_small in omega arith

  -- corner 2
  triple_c : u32_at (triple g ++ rest) 9 ≡ g.c
  unfolding triple each u32_at little
  triple_c = let h = s.c_small in omega arith

-- ---- all of them

-- the origin, which stands beyond a list of points
abbrev origin : Point
origin = record { x = zero64; y = zero64; z = zero64 }

-- the face that stands beyond a list of faces
abbrev nowhere : Face
nowhere = record { a = 0; b = 0; c = 0; origin = 0 }

-- a mesh whose coordinates are f64 and whose corners are u32, with counts that a file can tell; each face is its own origin
pub record Writable (ps : List Point) (fs : List Face) : Type 0 where
  pub points_fit : (i : ℕ) → i < length ps → Fits (point ps i)
  pub corners_small : (i : ℕ) → i < length fs → Small (face fs i)
  pub own_origins : (i : ℕ) → i < length fs → (face fs i).origin ≡ i
  pub few_points : length ps < 10 ^ 20
  pub few_faces : length fs < 10 ^ 20

module _ (ps : List Point) (fs : List Face) (w : Writable ps fs) where
  -- the number of points
  abbrev pub P : ℕ
  P = length ps

  -- that of faces
  abbrev pub F : ℕ
  F = length fs

  -- what stands behind the header
  abbrev body : List ℕ
  body = each vertex ps ++ each triple fs

  -- a header and a body
  in_two : ply ps fs ≡ header P F ++ body
  unfolding ply
  in_two = append_assoc (header P F) (each vertex ps) (each triple fs)

  -- the file has the form: its body is 24 bytes a vertex and 13 a face
  of_form : Form (ply ps fs) P F
  of_form =
      let l = length-append (each vertex ps) (each triple fs) in
      subst (λ (z : List ℕ). Form z P F) (sym in_two)
      (form.form_made P F body w.few_points w.few_faces (omega (arith, length_each 24 vertex vertex_long ps, length_each 13 triple triple_long fs)))

  -- 13 finds nothing
  pub in_form : no13 (ply ps fs) ≡ ok
  in_form = form.has_form of_form w.few_points w.few_faces

  -- the count of vertices that is read
  pub vertices_are : vertices_in (ply ps fs) ≡ P
  vertices_are = form.vertices_is of_form w.few_points w.few_faces

  -- the count of faces
  pub faces_are : faces_in_is (ply ps fs) ≡ F
  faces_are = form.faces_is of_form w.few_points w.few_faces

  -- the header that reading expects
  header_is : header_in (ply ps fs) ≡ header P F
  header_is = form.header_is of_form w.few_points w.few_faces

  -- where a vertex stands
  module _ (i : ℕ) (h : i < P) where
    -- what stands before it
    abbrev before-v : List ℕ
    before-v = header P F ++ each vertex (take i ps)

    -- and behind it
    abbrev behind-v : List ℕ
    behind-v = each vertex (drop (suc i) ps) ++ each triple fs

    -- the file is cut there
    cut_v : ply ps fs ≡ before-v ++ (vertex (point ps i) ++ behind-v)
    unfolding ply point
    cut_v =
        ap (λ l. header P F ++ l ++ each triple fs) (each_parted vertex 24 vertex_long ps origin i h)
        ∙ ap (λ l. l ++ each triple fs) (sym (append_assoc (header P F) (each vertex (take i ps)) (vertex (point ps i) ++ each vertex (drop (suc i) ps))))
        ∙ append_assoc before-v (vertex (point ps i) ++ each vertex (drop (suc i) ps)) (each triple fs)
        ∙ ap (λ l. before-v ++ l) (append_assoc (vertex (point ps i)) (each vertex (drop (suc i) ps)) (each triple fs))

    -- so many bytes stand before it
    long_v : length (header_in (ply ps fs)) + 24 * i ≡ length before-v
    long_v = ap (λ l. length l + 24 * i) header_is ∙ ap (λ (n : ℕ). length (header P F) + n) (sym (each_front vertex 24 vertex_long ps origin i h)) ∙ sym (length-append (header P F) (each vertex (take i ps)))

    -- what is read j bytes from there
    at_v : (j : ℕ) → u64_at (ply ps fs) (length (header_in (ply ps fs)) + 24 * i + j) ≡ u64_at (vertex (point ps i) ++ behind-v) j
    at_v j = ap₂ (λ (l : List ℕ) (n : ℕ). u64_at l (n + j)) cut_v long_v ∙ u64_behind before-v (vertex (point ps i) ++ behind-v) j

    -- and what is read right there
    front_v : u64_at (ply ps fs) (length (header_in (ply ps fs)) + 24 * i) ≡ u64_at (vertex (point ps i) ++ behind-v) 0
    front_v = ap (u64_at (ply ps fs)) (omega arith) ∙ at_v 0

    -- the vertex that is read is the point
    vertex_is : vertex_at (ply ps fs) i ≡ point ps i
    unfolding vertex_at
    vertex_is =
        let f = w.points_fit i h in
        same_point _ (point ps i)
        (real_is (ply ps fs) _ (point ps i).x f.x_fits (front_v ∙ vertex_x (point ps i) f behind-v))
        (real_is (ply ps fs) _ (point ps i).y f.y_fits (at_v 8 ∙ vertex_y (point ps i) f behind-v))
        (real_is (ply ps fs) _ (point ps i).z f.z_fits (at_v 16 ∙ vertex_z (point ps i) f behind-v))

  -- where a face stands
  module _ (i : ℕ) (h : i < F) where
    -- what stands before it
    abbrev before-f : List ℕ
    before-f = header P F ++ each vertex ps ++ each triple (take i fs)

    -- and behind it
    abbrev behind-f : List ℕ
    behind-f = each triple (drop (suc i) fs)

    -- the file is cut there
    cut_f : ply ps fs ≡ before-f ++ (triple (face fs i) ++ behind-f)
    unfolding ply face
    cut_f =
        ap (λ l. header P F ++ each vertex ps ++ l) (each_parted triple 13 triple_long fs nowhere i h)
        ∙ sym (append_assoc (header P F ++ each vertex ps) (each triple (take i fs)) (triple (face fs i) ++ behind-f))

    -- so many bytes stand before it
    long_f : face_place (ply ps fs) i ≡ length before-f
    unfolding face_place
    long_f =
        ap₂ (λ (l : List ℕ) (n : ℕ). length l + 24 * n + 13 * i) header_is vertices_are
        ∙ ap₂ (λ (a b : ℕ). length (header P F) + a + b) (sym (length_each 24 vertex vertex_long ps)) (sym (each_front triple 13 triple_long fs nowhere i h))
        ∙ sym (length-append (header P F ++ each vertex ps) (each triple (take i fs)) ∙ ap (λ (n : ℕ). n + length (each triple (take i fs))) (length-append (header P F) (each vertex ps)))

    -- what is read j bytes from there
    at_f : (j : ℕ) → u32_at (ply ps fs) (face_place (ply ps fs) i + j) ≡ u32_at (triple (face fs i) ++ behind-f) j
    at_f j = ap₂ (λ (l : List ℕ) (n : ℕ). u32_at l (n + j)) cut_f long_f ∙ u32_behind before-f (triple (face fs i) ++ behind-f) j

    -- the triple that is read is the face
    triple_is : triple_at (ply ps fs) i ≡ face fs i
    unfolding triple_at
    triple_is =
        let s = w.corners_small i h in
        same_face _ (face fs i) (at_f 1 ∙ triple_a (face fs i) s behind-f) (at_f 5 ∙ triple_b (face fs i) s behind-f) (at_f 9 ∙ triple_c (face fs i) s behind-f) (sym (w.own_origins i h))

    -- and its count is 3
    count_is : get_or (ply ps fs) (face_place (ply ps fs) i) 0 ≡ 3
    count_is =
        ap₂ (λ (l : List ℕ) (n : ℕ). get_or l n 0) cut_f (long_f ∙ omega arith)
        ∙ get_or-append-add before-f (triple (face fs i) ++ behind-f) 0 0
        ∙ unfold triple in refl

  -- the points that are read are those written
  pub points_are : points_of_bytes (ply ps fs) ≡ ps
  unfolding points_of_bytes
  points_are = ap (λ (n : ℕ). map (vertex_at (ply ps fs)) (below n)) vertices_are ∙ tabulated (vertex_at (ply ps fs)) ps origin P refl (λ i h. unfold point in vertex_is i h)

  -- and so are the triples
  pub triples_are : triples_of (ply ps fs) ≡ fs
  unfolding triples_of
  triples_are = ap (λ (n : ℕ). map (triple_at (ply ps fs)) (below n)) faces_are ∙ tabulated (triple_at (ply ps fs)) fs nowhere F refl (λ i h. unfold face in triple_is i h)

  -- 14 finds nothing
  pub is_triple : no14 (ply ps fs) ≡ ok
  unfolding no14
  is_triple =
      none_at_fault (λ i. not (eqb (get_or (ply ps fs) (face_place (ply ps fs) i) 0) 3)) 0 14 (below (faces_in_is (ply ps fs)))
      (λ j l. let q : j < faces_in_is (ply ps fs) = rw (length_below (faces_in_is (ply ps fs))) at l in
      ap (λ (n : ℕ). not (eqb (get_or (ply ps fs) (face_place (ply ps fs) n) 0) 3)) (get_or_below (faces_in_is (ply ps fs)) j q)
      ∙ rw (count_is j (rw faces_are at q)) refl)
