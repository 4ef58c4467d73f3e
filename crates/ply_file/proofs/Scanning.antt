-- The vertices and faces of a file, and the first at fault. Assumes nothing.
use mathlib.Core.Path.{◌≡◌, refl, sym, ap, ap₂, ◌∙◌}
use mathlib.Core.Bool.{Bool, true, false, not, ◌&&◌, ◌||◌}
use mathlib.Core.List.{List}
use Prim.Native.Nat.{ℕ, ◌+◌, ◌*◌, ◌≤◌, ◌<◌}
use native.Mathlib.Omega.{arith}
use borrow.Author.Tests.{eq-eqb, ne_eqb}
use lib.Dec.{leb, eqb}
use lib.ListN.{length, get_or, length-map}
use lib.Ieee.{Float}
use Rattle.rules.specs.Lists.{below, all, any}
use Rattle.rules.specs.Mesh.{Point, Face, zero64}
use Rattle.rules.specs.Refusal.{ok, no, in_domain, no4, no5}
use Rattle.rules.specs.Bytes.{u32_at}
use Rattle.rules.specs.Ply.{vertices_in, faces_in_is, header_in, real_at, vertex_at, face_place, triple_at, points_of_bytes, triples_of, no14}
use Rattle.rule_laws.proofs.Lists.{length_below, get_or_map_in}
use Rattle.rule_laws.proofs.Rising.{get_or_below}
use Rattle.rule_laws.proofs.Firsts.{none_at_fault, at_fault}
use Rattle.refuse.specs.Verdicts.{far, astray}
use Rattle.refuse.proofs.Scans.{Clean}
use Rattle.ply_file.specs.Files.{point_at, face_at, VerticesAsk, FacesAsk}

-- ---- one vertex is far unless all its coordinates are inside
pub far_is :
    (file : List ℕ) (i : ℕ) → not ((in_domain (real_at file i) && in_domain (real_at file (i + 8))) && in_domain (real_at file (i + 16))) ≡ far (point_at file i)
unfolding all
far_is file i = ap not (go (in_domain (real_at file i)) (in_domain (real_at file (i + 8))) (in_domain (real_at file (i + 16))))
  where
    go : (a b c : Bool) → ((a && b) && c) ≡ (a && (b && (c && true)))
    go false b c = refl
    go true false c = refl
    go true true false = refl
    go true true true = refl

-- what the test of a coordinate found
pub inside : {x y : Float} {b : Bool} (t : Bool) → x ≡ y → b ≡ in_domain x → b ≡ t → in_domain y ≡ t
inside t e q r = ap in_domain (sym e) ∙ sym q ∙ r

-- ---- one face

-- it is astray if one of its corners is
pub astray_is :
    (P : ℕ) (file : List ℕ) (i : ℕ) → ((leb P (u32_at file (i + 1)) || leb P (u32_at file (i + 5))) || leb P (u32_at file (i + 9))) ≡ astray P (face_at file i)
unfolding any
astray_is P file i = go (leb P (u32_at file (i + 1))) (leb P (u32_at file (i + 5))) (leb P (u32_at file (i + 9)))
  where
    go : (a b c : Bool) → ((a || b) || c) ≡ (a || (b || (c || false)))
    go true b c = refl
    go false true c = refl
    go false false true = refl
    go false false false = refl

-- ---- all vertices and all faces

-- as many points as the count tells
pub length_points : (file : List ℕ) → length (points_of_bytes file) ≡ vertices_in file
unfolding points_of_bytes
length_points file = length-map (below (vertices_in file)) (vertex_at file) ∙ length_below (vertices_in file)

-- as many faces
pub length_triples : (file : List ℕ) → length (triples_of file) ≡ faces_in_is file
unfolding triples_of
length_triples file = length-map (below (faces_in_is file)) (triple_at file) ∙ length_below (faces_in_is file)

-- vertex i of the file
pub vertex_is : (file : List ℕ) (i : ℕ) (d : Point) → i < vertices_in file → get_or (points_of_bytes file) i d ≡ point_at file (length (header_in file) + 24 * i)
unfolding points_of_bytes vertex_at
vertex_is file i d h =
    get_or_map_in (vertex_at file) (below (vertices_in file)) i 0 d (rw (length_below (vertices_in file)) h)
    ∙ ap (vertex_at file) (get_or_below (vertices_in file) i h)

-- a face with its number
abbrev pub numbered : ℕ → Face → Face
numbered i f = record { a = f.a; b = f.b; c = f.c; origin = i }

-- face i
pub face_is : (file : List ℕ) (i : ℕ) (d : Face) → i < faces_in_is file → get_or (triples_of file) i d ≡ numbered i (face_at file (length (header_in file) + 24 * vertices_in file + 13 * i))
unfolding triples_of triple_at face_place
face_is file i d h =
    get_or_map_in (triple_at file) (below (faces_in_is file)) i 0 d (rw (length_below (faces_in_is file)) h)
    ∙ ap (triple_at file) (get_or_below (faces_in_is file) i h)

-- the fault of 14, by place
abbrev pub other_at : List ℕ → ℕ → ℕ → Bool
other_at file at i = not (eqb (get_or file (at + 13 * i) 0) 3)

-- that of 4
abbrev pub far_at : List ℕ → ℕ → ℕ → Bool
far_at file at i = far (point_at file (at + 24 * i))

-- that of 5
abbrev pub astray_at : ℕ → List ℕ → ℕ → ℕ → Bool
astray_at P file at i = astray P (face_at file (at + 13 * i))

-- a count that is 3
pub is_three : (b : ℕ) → b ≡ 3 → not (eqb b 3) ≡ false
is_three b e = ap not (eq-eqb b 3 e)

-- another count
pub is_other : (b : ℕ) → (b ≡ 3 → ⊥) → not (eqb b 3) ≡ true
is_other b e = ap not (ne_eqb b 3 e)

-- what a turn needs
pub record Turn (wide len at i : ℕ) : Type 0 where
  pub few : i < 4194304
  pub room : at + wide * i + wide ≤ len

-- of the loop over the vertices
pub turn_v : {file : List ℕ} {at p i : ℕ} → VerticesAsk file at p → i < p → Turn 24 (length file) at i
turn_v q h = record { few = omega (arith, q.few); room = omega (arith, q.fit) }

-- of those over the faces
pub turn_f : {file : List ℕ} {at f i : ℕ} → FacesAsk file at f → i < f → Turn 13 (length file) at i
turn_f q h = record { few = omega (arith, q.few); room = omega (arith, q.fit) }

-- ---- 14
module _ {file : List ℕ} {at f : ℕ} (q : FacesAsk file at f) (i : ℕ) (v : Clean (other_at file at) f i) where
  -- the rules' place
  fault_14 : (j : ℕ) → j < f → not (eqb (get_or file (face_place file (get_or (below (faces_in_is file)) j 0)) 0) 3) ≡ other_at file at j
  unfolding face_place
  fault_14 j h =
      ap₂ (λ (k n : ℕ). not (eqb (get_or file (n + 13 * k) 0) 3)) (get_or_below (faces_in_is file) j (rw q.faces h)) q.head

  -- no face is at fault
  pub no14_none : f ≤ i → ok ≡ no14 file
  unfolding no14
  no14_none h =
      sym
      (none_at_fault (λ k. not (eqb (get_or file (face_place file k) 0) 3)) 0 14 (below (faces_in_is file))
      (λ j l. let d : j < f = omega (arith, length_below (faces_in_is file), q.faces) in fault_14 j d ∙ v.none j (omega arith)))

  -- face i is the first
  pub no14_at : i < f → other_at file at i ≡ true → no 14 i ≡ no14 file
  unfolding no14
  no14_at h t =
      let d = q.faces in
      let e : get_or (below (faces_in_is file)) i 0 ≡ i = get_or_below (faces_in_is file) i (omega arith) in
      sym
      (at_fault (λ k. not (eqb (get_or file (face_place file k) 0) 3)) 0 14 (below (faces_in_is file)) i (omega (arith, length_below (faces_in_is file)))
      (λ j l. fault_14 j (omega arith) ∙ v.none j l) (fault_14 i h ∙ t))

-- ---- 4
module _ {file : List ℕ} {at p : ℕ} (q : VerticesAsk file at p) (i : ℕ) (v : Clean (far_at file at) p i) where
  -- the point that stands beyond a list
  abbrev origin : Point
  origin = record { x = zero64; y = zero64; z = zero64 }

  -- the rules' vertex is the one at its place
  fault_4 : (j : ℕ) → j < p → far (get_or (points_of_bytes file) j origin) ≡ far_at file at j
  fault_4 j h = ap far (vertex_is file j origin (rw q.vertices h)) ∙ ap (λ (n : ℕ). far (point_at file (n + 24 * j))) q.head

  -- no vertex is at fault
  pub no4_none : p ≤ i → ok ≡ no4 (points_of_bytes file)
  unfolding no4
  no4_none h =
      sym
      (none_at_fault far origin 4 (points_of_bytes file)
      (λ j l. let d : j < p = omega (arith, length_points file, q.vertices) in fault_4 j d ∙ v.none j (omega arith)))

  -- vertex i is the first
  pub no4_at : i < p → far_at file at i ≡ true → no 4 i ≡ no4 (points_of_bytes file)
  unfolding no4
  no4_at h t =
      sym
      (at_fault far origin 4 (points_of_bytes file) i (omega (arith, length_points file, q.vertices))
      (λ j l. fault_4 j (omega arith) ∙ v.none j l) (fault_4 i h ∙ t))

-- ---- 5
module _ {file : List ℕ} {at f : ℕ} (P : ℕ) (q : FacesAsk file at f) (i : ℕ) (v : Clean (astray_at P file at) f i) where
  -- the face that stands beyond a list
  abbrev nowhere : Face
  nowhere = record { a = 0; b = 0; c = 0; origin = 0 }

  -- the rules' face is the one at its place
  fault_5 : (j : ℕ) → j < f → astray P (get_or (triples_of file) j nowhere) ≡ astray_at P file at j
  fault_5 j h = ap (astray P) (face_is file j nowhere (rw q.faces h)) ∙ ap (λ (n : ℕ). astray P (face_at file (n + 13 * j))) q.head

  -- no face is at fault
  pub no5_none : f ≤ i → ok ≡ no5 P (triples_of file)
  unfolding no5
  no5_none h =
      sym
      (none_at_fault (astray P) nowhere 5 (triples_of file)
      (λ j l. let d : j < f = omega (arith, length_triples file, q.faces) in fault_5 j d ∙ v.none j (omega arith)))

  -- face i is the first
  pub no5_at : i < f → astray_at P file at i ≡ true → no 5 i ≡ no5 P (triples_of file)
  unfolding no5
  no5_at h t =
      sym
      (at_fault (astray P) nowhere 5 (triples_of file) i (omega (arith, length_triples file, q.faces))
      (λ j l. fault_5 j (omega arith) ∙ v.none j l) (fault_5 i h ∙ t))
