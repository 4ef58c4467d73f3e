-- A file has the form of a PLY file exactly if it is a header and a body of the length that the header tells. Assumes nothing.
use mathlib.Core.Path.{◌≡◌, refl, sym, ap, ap₂, subst, ◌∙◌}
use mathlib.Core.Bool.{Bool, true, false, ◌&&◌}
use mathlib.Core.List.{List, ◌++◌, append_assoc}
use Prim.Native.Nat.{ℕ, ◌+◌, ◌*◌, ◌^◌, ◌<◌}
use native.Mathlib.Omega.{arith}
use borrow.Author.Tests.{eq-eqb}
use lib.Dec.{T, eqb, leb, eqb→eq}
use lib.ListN.{length, take, drop, length-append, take-append-drop}
use lib.Seq.{drop-append_seam, take-append_seam}
use lib.Ieee.Bits.{is_true}
use Rattle.rules.specs.Line.{plain}
use Rattle.rules.specs.Refusal.{ok, no, unless}
use Rattle.rules.specs.Text.{equal}
use Rattle.rules.specs.Ply.{before_vertices, before_faces, after_counts, header, line_end, vertices_in, faces_in_is, header_in, no13}
use Rattle.rules.specs.Calls.{ReadPlyRooms, read_ply_check}
use Rattle.rules.specs.PlyExamples.{read_points}
use Rattle.rule_laws.proofs.Tests.{and_elim}
use Rattle.rule_laws.proofs.Decided.{unless_ok, unless_is}
use Rattle.rule_laws.proofs.Texts.{equal_same, equal_self, line_end_at}
use Rattle.rule_laws.proofs.PlyHeader.{no_newline, faces_line, after_line, parted_first, parted_second, vertices_written, faces_written}

-- a file of P vertices and F faces: a header, and a body as long as it tells
pub record Form (file : List ℕ) (P F : ℕ) : Type 0 where
  pub starts : file ≡ header P F ++ drop (length (header P F)) file
  pub long : length file ≡ length (header P F) + 24 * P + 13 * F

-- the test that 13 makes
abbrev of_form : List ℕ → Bool
of_form file = equal (take (length (header_in file)) file) (header_in file) && eqb (length file) (length (header_in file) + 24 * vertices_in file + 13 * faces_in_is file)

-- where it passes the file has the form, with the counts that stand in it: its front is the header
form_of : (file : List ℕ) → T (of_form file) → Form file (vertices_in file) (faces_in_is file)
unfolding header_in
form_of file t =
    let n = length (header_in file) in
    let b = and_elim (equal (take n file) (header_in file)) (eqb (length file) (n + 24 * vertices_in file + 13 * faces_in_is file)) t in
    record {
      starts = sym (take-append-drop n file) ∙ ap (λ (l : List ℕ). l ++ drop n file) (equal_same (take n file) (header_in file) (is_true _ b.0));
      long = eqb→eq (length file) (n + 24 * vertices_in file + 13 * faces_in_is file) b.1;
    }

-- what has no such form is refused
pub no_form : (file : List ℕ) → (Form file (vertices_in file) (faces_in_is file) → ⊥) → no 13 0 ≡ no13 file
unfolding no13 unless
no_form file h = go (of_form file) refl
  where
    go : (b : Bool) → of_form file ≡ b → no 13 0 ≡ unless 13 0 b
    go true e = absurd (h (form_of file (subst T (sym e) tt)))
    go false e = refl

-- what is not refused has it
pub form_in : (file : List ℕ) → no13 file ≡ ok → Form file (vertices_in file) (faces_in_is file)
unfolding no13
form_in file e = form_of file (unless_ok 13 0 (of_form file) e)

-- ---- a file of the form, whatever its counts are
module _ {file : List ℕ} {P F : ℕ} (f : Form file P F) (p-few : P < 10 ^ 20) (f-few : F < 10 ^ 20) where
  -- what stands behind the header
  abbrev body : List ℕ
  body = drop (length (header P F)) file

  -- the count of vertices that is read is P
  pub vertices_is : vertices_in file ≡ P
  vertices_is = ap vertices_in f.starts ∙ vertices_written P F body p-few f-few

  -- that of faces is F
  pub faces_is : faces_in_is file ≡ F
  faces_is = ap faces_in_is f.starts ∙ faces_written P F body p-few f-few

  -- so the header that reading expects is the one that stands there
  pub header_is : header_in file ≡ header P F
  unfolding header_in
  header_is = ap₂ header vertices_is faces_is

  -- and 13 finds nothing
  pub has_form : no13 file ≡ ok
  unfolding no13
  has_form =
      let h = header_is in
      let front : take (length (header_in file)) file ≡ header P F = ap₂ (λ (l m : List ℕ). take (length l) m) h f.starts ∙ take-append_seam (header P F) body in
      let l : length file ≡ length (header_in file) + 24 * vertices_in file + 13 * faces_in_is file =
      f.long ∙ sym (ap (λ (l : List ℕ). length l + 24 * vertices_in file + 13 * faces_in_is file) h ∙ ap₂ (λ (a b : ℕ). length (header P F) + 24 * a + 13 * b) vertices_is faces_is) in
      unless_is 13 0 _ (ap₂ (λ (a b : Bool). a && b) (ap₂ equal front h ∙ equal_self (header P F)) (eq-eqb _ _ l))

-- 13 finds nothing exactly in files of the form
pub form_exactly : (file : List ℕ) → (no13 file ≡ ok → Form file (vertices_in file) (faces_in_is file)) × ((P F : ℕ) → P < 10 ^ 20 → F < 10 ^ 20 → Form file P F → no13 file ≡ ok)
form_exactly file = (form_in file, λ P F p q f. has_form f p q)

-- ---- a header and a body
module _ (P F : ℕ) (body : List ℕ) (p-few : P < 10 ^ 20) (f-few : F < 10 ^ 20) where
  -- a body as long as the header tells
  pub form_made : length body ≡ 24 * P + 13 * F → Form (header P F ++ body) P F
  form_made l =
      let e : drop (length (header P F)) (header P F ++ body) ≡ body = drop-append_seam (header P F) body in
      record { starts = ap (λ (z : List ℕ). header P F ++ z) (sym e); long = omega (arith, length-append (header P F) body) }

  -- one of another length is refused 13, be it by one byte
  pub other_length : (length body ≡ 24 * P + 13 * F → ⊥) → no 13 0 ≡ no13 (header P F ++ body)
  other_length h =
      no_form (header P F ++ body)
      (λ f.
      let e = ap₂ (λ (a b : ℕ). length (header a b) + 24 * a + 13 * b) (vertices_written P F body p-few f-few) (faces_written P F body p-few f-few) in
      h (omega (arith, f.long, length-append (header P F) body)))

-- a vertex more than the most, with all its bytes: 2, not 13
pub one_too_many : (body : List ℕ) (r : ReadPlyRooms) → length body ≡ 100663320 → read_ply_check (header 4194305 0 ++ body) r ≡ no 2 0
one_too_many body r l =
    let f = form_made 4194305 0 body (omega arith) (omega arith) (omega arith) in
    read_points (header 4194305 0 ++ body) r (has_form f (omega arith) (omega arith)) (ap (λ (n : ℕ). leb n 4194304) (vertices_is f (omega arith) (omega arith)))

-- ---- the parts of a header, where they stand

-- each part is there, behind those before it
pub record Parts (file : List ℕ) (P F : ℕ) : Type 0 where
  pub first : take (length before_vertices) (drop 0 file) ≡ before_vertices
  pub vertices : line_end (drop (length before_vertices) file) ≡ plain P
  pub second : take (length before_faces) (drop (length before_vertices + length (plain P)) file) ≡ before_faces
  pub faces : line_end (drop (length before_vertices + length (plain P) + length before_faces) file) ≡ plain F
  pub third : take (length after_counts) (drop (length before_vertices + length (plain P) + length before_faces + length (plain F)) file) ≡ after_counts

-- behind a list of the length n
behind : (n : ℕ) (file xs ys : List ℕ) → file ≡ xs ++ ys → length xs ≡ n → drop n file ≡ ys
behind n file xs ys e l = ap₂ (λ (m : ℕ) (f : List ℕ). drop m f) (sym l) e ∙ drop-append_seam xs ys

-- a file of the form has them all
pub parts_of : {file : List ℕ} {P F : ℕ} → Form file P F → Parts file P F
parts_of {file} {P} {F} f =
    let body = drop (length (header P F)) file in
    let e1 = f.starts ∙ parted_first P F body in
    let e2 = f.starts ∙ parted_second P F body in
    let d1 = behind (length before_vertices) file before_vertices _ e1 refl in
    let d2 : drop (length before_vertices + length (plain P)) file ≡ before_faces ++ (plain F ++ (after_counts ++ body)) =
    behind _ file (before_vertices ++ plain P) _ (e1 ∙ sym (append_assoc before_vertices (plain P) (before_faces ++ (plain F ++ (after_counts ++ body))))) (length-append before_vertices (plain P)) in
    let l3 : length (before_vertices ++ plain P ++ before_faces) ≡ length before_vertices + length (plain P) + length before_faces =
    length-append (before_vertices ++ plain P) before_faces ∙ ap (λ (n : ℕ). n + length before_faces) (length-append before_vertices (plain P)) in
    let d3 = behind _ file (before_vertices ++ plain P ++ before_faces) _ e2 l3 in
    let d4 : drop (length before_vertices + length (plain P) + length before_faces + length (plain F)) file ≡ after_counts ++ body =
    behind _ file ((before_vertices ++ plain P ++ before_faces) ++ plain F) _ (e2 ∙ sym (append_assoc (before_vertices ++ plain P ++ before_faces) (plain F) (after_counts ++ body)))
    (length-append (before_vertices ++ plain P ++ before_faces) (plain F) ∙ ap (λ (n : ℕ). n + length (plain F)) l3) in
    record {
      first = ap (take (length before_vertices)) e1 ∙ take-append_seam before_vertices _;
      vertices = ap line_end (d1 ∙ ap (λ (l : List ℕ). plain P ++ l) (faces_line _)) ∙ line_end_at (plain P) _ (no_newline P);
      second = ap (take (length before_faces)) d2 ∙ take-append_seam before_faces _;
      faces = ap line_end (d3 ∙ ap (λ (l : List ℕ). plain F ++ l) (after_line _)) ∙ line_end_at (plain F) _ (no_newline F);
      third = ap (take (length after_counts)) d4 ∙ take-append_seam after_counts _;
    }
