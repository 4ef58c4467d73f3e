-- Reading then writing: what is read of a file is written as that file. Assumes nothing.
use mathlib.Core.Path.{◌≡◌, refl, sym, ap, ap₂, ◌∙◌}
use mathlib.Core.Bool.{Bool, true, false, not, true≢false}
use mathlib.Core.List.{List, [], ◌∷◌, ◌++◌, map, append-nil}
use Prim.Native.Nat.{ℕ, ◌+◌, ◌*◌, ◌≤◌, ◌<◌}
use native.Mathlib.Nat.{add_assoc}
use native.Mathlib.Omega.{arith}
use borrow.Author.Tests.{eqb-true}
use lib.Dec.{T, eqb}
use lib.ListN.{length, get_or, take, drop, length-map}
use lib.Seq.{drop-cons, drop-drop, take-add, take_all, take-append_seam}
use lib.Ieee.{binary64, is_nan, to_bits}
use lib.Ieee.Bits.{to_bits-of_bits}
use Rattle.rules.specs.Lists.{below, each, all}
use Rattle.rules.specs.Mesh.{Point, coordinates, zero64}
use Rattle.rules.specs.Bytes.{little, u64_at}
use Rattle.rules.specs.Refusal.{ok, in_domain, no4}
use Rattle.rules.specs.Ply.{header, vertex, triple, ply, vertices_in, faces_in_is, header_in, real_at, vertex_at, face_place, triple_at, points_of_bytes, triples_of, no13, no14}
use Rattle.rule_laws.proofs.Lists.{each_map, length_below, get_or_map_in}
use Rattle.rule_laws.proofs.Rising.{get_or_below}
use Rattle.rule_laws.proofs.Firsts.{fine_exactly}
use Rattle.rule_laws.proofs.Equal.{no_nan, near_all}
use Rattle.rule_laws.proofs.Bytes.{Bytes, small_at, four_at, eight_at, more_at}
use Rattle.rule_laws.proofs.Blocks.{each_below, blocks}
use Rattle.rule_laws.proofs.PlyForm.{form_in}

-- ---- a file's own numbers, written again
module _ {file : List ℕ} (by : Bytes file) where
  -- a number in eight bytes of the file
  real_bits : (j : ℕ) → j + 8 ≤ length file → T (not (is_nan (real_at file j))) → little 8 (to_bits binary64 (real_at file j)) ≡ take 8 (drop j file)
  unfolding real_at
  real_bits j h n =
      let a = small_at by j (omega arith) in
      let b = small_at by (j + 4) (omega arith) in
      ap (little 8) (to_bits-of_bits binary64 (u64_at file j) (omega arith) n) ∙ eight_at by j h

  module _ (e13 : no13 file ≡ ok) (e14 : no14 file ≡ ok) (e4 : no4 (points_of_bytes file) ≡ ok) where
    -- the count of vertices
    abbrev P : ℕ
    P = vertices_in file

    -- that of faces
    abbrev F : ℕ
    F = faces_in_is file

    -- the length of the header
    abbrev n : ℕ
    n = length (header_in file)

    -- the file begins with its header
    starts : take n file ≡ header_in file
    unfolding header_in
    starts = ap (take n) (form_in file e13).starts ∙ take-append_seam (header_in file) (drop n file)

    -- and is as long as that tells
    long : length file ≡ n + 24 * P + 13 * F
    unfolding header_in
    long = (form_in file e13).long

    -- the coordinates are numbers
    numbers : (i : ℕ) → i < P → T (not (is_nan (vertex_at file i).x)) × T (not (is_nan (vertex_at file i).y)) × T (not (is_nan (vertex_at file i).z))
    unfolding no4 all points_of_bytes
    numbers i h =
        let l : i < length (below P) = rw (length_below P) h in
        let q : get_or (map (vertex_at file) (below P)) i (record { x = zero64; y = zero64; z = zero64 }) ≡ vertex_at file i = get_or_map_in (vertex_at file) (below P) i 0 _ l ∙ ap (vertex_at file) (get_or_below P i h) in
        let m : i < length (map (vertex_at file) (below P)) = rw (length-map (below P) (vertex_at file)) l in
        let f = (fine_exactly (λ p. not (all in_domain (coordinates p))) (record { x = zero64; y = zero64; z = zero64 }) 4 (map (vertex_at file) (below P))).0 e4 i m in
        let p = vertex_at file i in
        let d = near_all p (ap (λ (r : Point). not (all in_domain (coordinates r))) (sym q) ∙ f) in
        (no_nan p.x d.0, no_nan p.y d.1, no_nan p.z d.2)

    -- a vertex written again
    vertex_again : (i : ℕ) → i < P → vertex (vertex_at file i) ≡ take 24 (drop (24 * i) (drop n file))
    unfolding vertex each vertex_at
    vertex_again i h =
        let d = numbers i h in
        let k = long in
        ap₂ (λ (a b : List ℕ). a ++ b) (real_bits (n + 24 * i) (omega arith) d.0)
        (ap₂ (λ (a b : List ℕ). a ++ b) (real_bits (n + 24 * i + 8) (omega arith) d.1) (append-nil _ ∙ real_bits (n + 24 * i + 16) (omega arith) d.2))
        ∙ sym (more_at by (n + 24 * i) 8 16 ∙ ap (λ (l : List ℕ). take 8 (drop (n + 24 * i) file) ++ l) (more_at by (n + 24 * i + 8) 8 8 ∙ ap (λ (m : ℕ). take 8 (drop (n + 24 * i + 8) file) ++ take 8 (drop m file)) (add_assoc (n + 24 * i) 8 8)))
        ∙ ap (take 24) (sym (drop-drop (24 * i) n file))

    -- the count of a face
    count_three : (i : ℕ) → i < F → get_or file (face_place file i) 0 ≡ 3
    unfolding no14
    count_three i h =
        let l : i < length (below F) = rw (length_below F) h in
        let f = (fine_exactly (λ j. not (eqb (get_or file (face_place file j) 0) 3)) 0 14 (below F)).0 e14 i l in
        go (eqb (get_or file (face_place file i) 0) 3) refl (ap (λ (j : ℕ). not (eqb (get_or file (face_place file j) 0) 3)) (sym (get_or_below F i h)) ∙ f)
      where
        go : (b : Bool) → eqb (get_or file (face_place file i) 0) 3 ≡ b → not b ≡ false → get_or file (face_place file i) 0 ≡ 3
        go true e q = eqb-true _ _ e
        go false e q = absurd (true≢false q)

    -- one byte
    one_more : (j : ℕ) → j < length file → get_or file j 0 ∷ [] ≡ take 1 (drop j file)
    one_more j h = ap (take 1) (sym (drop-cons file j 0 h))

    -- a face written again
    triple_again : (i : ℕ) → i < F → triple (triple_at file i) ≡ take 13 (drop (13 * i) (drop (n + 24 * P) file))
    unfolding triple each triple_at
    triple_again i h =
        let k = long in
        let c = count_three i h in
        let p : face_place file i ≡ n + 24 * P + 13 * i = unfold face_place in refl in
        rw p (ap₂ (λ (a b : List ℕ). a ++ b) (ap (λ (b : ℕ). b ∷ []) (sym c ∙ ap (λ (j : ℕ). get_or file j 0) p) ∙ one_more (n + 24 * P + 13 * i) (omega arith))
        (ap₂ (λ (a b : List ℕ). a ++ b) (four_at by (n + 24 * P + 13 * i + 1) (omega arith))
        (ap₂ (λ (a b : List ℕ). a ++ b) (four_at by (n + 24 * P + 13 * i + 5) (omega arith)) (append-nil _ ∙ four_at by (n + 24 * P + 13 * i + 9) (omega arith))))
        ∙ sym (more_at by (n + 24 * P + 13 * i) 1 12
        ∙ ap (λ (l : List ℕ). take 1 (drop (n + 24 * P + 13 * i) file) ++ l)
        (more_at by (n + 24 * P + 13 * i + 1) 4 8
        ∙ ap (λ (l : List ℕ). take 4 (drop (n + 24 * P + 13 * i + 1) file) ++ l) (ap (λ (m : ℕ). take 8 (drop m file)) (add_assoc (n + 24 * P + 13 * i) 1 4) ∙ more_at by (n + 24 * P + 13 * i + 5) 4 4 ∙ ap (λ (m : ℕ). take 4 (drop (n + 24 * P + 13 * i + 5) file) ++ take 4 (drop m file)) (add_assoc (n + 24 * P + 13 * i) 5 4))))
        ∙ ap (take 13) (sym (drop-drop (13 * i) (n + 24 * P) file)))

    -- all of the file, block after block
    pub file_again : ply (points_of_bytes file) (triples_of file) ≡ file
    unfolding ply points_of_bytes triples_of
    file_again =
        let lp : length (map (vertex_at file) (below P)) ≡ P = length-map (below P) (vertex_at file) ∙ length_below P in
        let lf : length (map (triple_at file) (below F)) ≡ F = length-map (below F) (triple_at file) ∙ length_below F in
        let k = long in
        let hs : header (length (map (vertex_at file) (below P))) (length (map (triple_at file) (below F))) ≡ take n file = ap₂ header lp lf ∙ sym (unfold header_in in starts) in
        let vs : each vertex (map (vertex_at file) (below P)) ≡ take (24 * P) (drop n file) = each_map vertex (vertex_at file) (below P) ∙ each_below _ _ P vertex_again ∙ blocks 24 P (drop n file) in
        let ts : each triple (map (triple_at file) (below F)) ≡ take (13 * F) (drop (n + 24 * P) file) = each_map triple (triple_at file) (below F) ∙ each_below _ _ F triple_again ∙ blocks 13 F (drop (n + 24 * P) file) in
        ap₂ (λ (a b : List ℕ). a ++ b) (ap₂ (λ (a b : List ℕ). a ++ b) hs vs ∙ sym (take-add n (24 * P) file)) ts
        ∙ sym (take-add (n + 24 * P) (13 * F) file)
        ∙ take_all (n + 24 * P + 13 * F) file (omega arith)
