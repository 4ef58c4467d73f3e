-- The header of a file, part after part: what stands, and what does not. Assumes nothing.
use mathlib.Core.Path.{◌≡◌, refl, sym, ap, ap₂, ◌∙◌}
use mathlib.Core.Bool.{Bool, true, false, not, true≢false}
use mathlib.Core.List.{List, ◌++◌}
use Prim.Native.Nat.{ℕ, ◌+◌, ◌-◌, ◌*◌, ◌/◌, ◌^◌, ◌≤◌, ◌<◌}
use native.Mathlib.Omega.{arith}
use borrow.Author.Tests.{eq-eqb, ne_eqb, eqb-true}
use lib.Dec.{eqb}
use lib.ListN.{length, take, drop, length-take, length-drop, take-append-drop}
use lib.Seq.{take-add}
use Rattle.rows.specs.Region.{part}
use Rattle.rules.specs.Line.{plain}
use Rattle.rules.specs.Text.{equal, of_decimal}
use Rattle.rules.specs.Ply.{before_vertices, before_faces, after_counts, header, line_end, vertices_in, faces_in_is}
use Rattle.rule_laws.proofs.Digits.{digits_of}
use Rattle.rule_laws.proofs.Texts.{equal_same, equal_self}
use Rattle.rule_laws.proofs.PlyHeader.{lengths, header_long}
use Rattle.rule_laws.proofs.PlyForm.{Form, no_form, vertices_is, faces_is, header_is, has_form, parts_of}
use Rattle.ply_file.specs.Files.{LineIs, LineNone, Whole, Formless}

-- a test turned round that passes
pub not_true : (b : Bool) → not b ≡ true → b ≡ false
not_true true e = sym e
not_true false e = refl

-- and one that does not
pub not_false : (b : Bool) → not b ≡ false → b ≡ true
not_false true e = refl
not_false false e = sym e

-- ---- the length of the body

module _ (body p f : ℕ) where
  -- more vertices than bytes for them
  pub many_vertices : body / 24 < p → false ≡ eqb body (24 * p + 13 * f)
  many_vertices h = sym (ne_eqb body (24 * p + 13 * f) (λ e. omega arith))

  -- more faces than bytes for them
  pub many_faces : p ≤ body / 24 → (body - 24 * p) / 13 < f → false ≡ eqb body (24 * p + 13 * f)
  many_faces g h = sym (ne_eqb body (24 * p + 13 * f) (λ e. omega arith))

  -- where neither is so, nothing wraps, and the rest must be the faces
  pub fills_is : p ≤ body / 24 → f ≤ (body - 24 * p) / 13 → eqb (body - 24 * p) (13 * f) ≡ eqb body (24 * p + 13 * f)
  fills_is g h = go (eqb (body - 24 * p) (13 * f)) refl
    where
      go : (b : Bool) → eqb (body - 24 * p) (13 * f) ≡ b → b ≡ eqb body (24 * p + 13 * f)
      go true e = let q = eqb-true (body - 24 * p) (13 * f) e in sym (eq-eqb body (24 * p + 13 * f) (omega arith))
      go false e = sym (ne_eqb body (24 * p + 13 * f) (λ q. true≢false (sym (eq-eqb (body - 24 * p) (13 * f) (omega arith)) ∙ e)))

-- ---- the parts

-- a text that stands is there, and fits
there : (file : List ℕ) (at : ℕ) (text : List ℕ) {b : Bool} → b ≡ equal (part file at (length text)) text → b ≡ true → part file at (length text) ≡ text
there file at text e t = equal_same _ text (sym e ∙ t)

-- and it ends within the file
fits : (file : List ℕ) (at : ℕ) (text : List ℕ) → 0 < length text → part file at (length text) ≡ text → at + length text ≤ length file
fits file at text z e = omega (arith, ap length e, length-drop at file, simp length-take at (short (length text) (drop at file)), length-take (length text) (drop at file))
  where
    short : (n : ℕ) (xs : List ℕ) → length (take n xs) ≤ length xs
    short n xs = simp length-take (omega arith)

-- a text that does not
not_there : (file : List ℕ) (at : ℕ) (text : List ℕ) {b : Bool} → b ≡ equal (part file at (length text)) text → b ≡ false → part file at (length text) ≡ text → ⊥
not_there file at text e t q = true≢false (sym (equal_self text) ∙ ap (λ (l : List ℕ). equal l text) (sym q) ∙ sym e ∙ t)

-- numbers written alike are one
same_number : (n m : ℕ) → n < 10 ^ 19 → m < 10 ^ 19 → plain n ≡ plain m → n ≡ m
unfolding plain
same_number n m h k e = sym (digits_of 20 n (omega arith)) ∙ ap of_decimal e ∙ digits_of 20 m (omega arith)

-- ---- the file
module _ (file : List ℕ) (lim : length file < 2 ^ 64) where
  -- the count of vertices that stands in the file
  abbrev Vs : ℕ
  Vs = vertices_in file

  -- that of faces
  abbrev Fs : ℕ
  Fs = faces_in_is file

  -- of a file in the form it has at most 19 digits, since a vertex has 24 bytes
  few_v : Form file Vs Fs → Vs < 10 ^ 19
  few_v f = omega (arith, f.long)

  -- and so has that of faces, since a face has 13
  few_w : Form file Vs Fs → Fs < 10 ^ 19
  few_w f = omega (arith, f.long)

  -- a text is missing in front
  pub no_first : {b : Bool} → b ≡ equal (part file 0 51) before_vertices → b ≡ false → Formless file
  no_first e t =
      record { form = no_form file (λ f. not_there file 0 before_vertices (rw lengths.first e) t (parts_of f).first) }

  -- the first text stands
  pub first_fits : {b : Bool} → b ≡ equal (part file 0 51) before_vertices → b ≡ true → 51 ≤ length file
  first_fits e t =
      let l = lengths.first in
      omega (arith, fits file 0 before_vertices (omega arith) (there file 0 before_vertices (rw lengths.first e) t))

  -- no count of vertices
  pub no_vertices : LineNone file 51 → Formless file
  no_vertices n = record { form = no_form file (λ f. n.none Vs (few_v f) (ap (λ (k : ℕ). line_end (drop k file)) (sym lengths.first) ∙ (parts_of f).vertices)) }

  module _ {p a : ℕ} (k : LineIs file 51 p a) where
    -- it is the rules'
    v_is : Form file Vs Fs → Vs ≡ p
    v_is f = same_number Vs p (few_v f) k.few (sym (parts_of f).vertices ∙ ap (λ (j : ℕ). line_end (drop j file)) lengths.first ∙ k.line)

    -- so the second text stands behind it
    at_second : Form file Vs Fs → length before_vertices + length (plain Vs) ≡ a
    at_second f = ap₂ (λ (i j : ℕ). i + length (plain j)) lengths.first (v_is f) ∙ sym k.ends

    -- that text is missing
    pub no_second : {b : Bool} → b ≡ equal (part file a 68) before_faces → b ≡ false → Formless file
    no_second e t =
        record { form = no_form file (λ f. not_there file a before_faces (rw lengths.second e) t (ap (λ (j : ℕ). part file j (length before_faces)) (sym (at_second f)) ∙ (parts_of f).second)) }

    -- it stands there
    pub second_fits : {b : Bool} → b ≡ equal (part file a 68) before_faces → b ≡ true → a + 68 ≤ length file
    second_fits e t =
        let l = lengths.second in
        omega (arith, fits file a before_faces (omega arith) (there file a before_faces (rw lengths.second e) t))

    -- the count of faces stands behind it
    at_faces : Form file Vs Fs → length before_vertices + length (plain Vs) + length before_faces ≡ a + 68
    at_faces f = ap₂ (λ (i j : ℕ). i + j) (at_second f) lengths.second

    -- no count of faces
    pub no_faces : LineNone file (a + 68) → Formless file
    no_faces n = record { form = no_form file (λ f. n.none Fs (few_w f) (ap (λ (j : ℕ). line_end (drop j file)) (sym (at_faces f)) ∙ (parts_of f).faces)) }

    module _ {q b : ℕ} (m : LineIs file (a + 68) q b) where
      -- it is the rules'
      w_is : Form file Vs Fs → Fs ≡ q
      w_is f = same_number Fs q (few_w f) m.few (sym (parts_of f).faces ∙ ap (λ (j : ℕ). line_end (drop j file)) (at_faces f) ∙ m.line)

      -- so the third text stands behind it
      at_third : Form file Vs Fs → length before_vertices + length (plain Vs) + length before_faces + length (plain Fs) ≡ b
      at_third f = ap₂ (λ (i j : ℕ). i + length (plain j)) (at_faces f) (w_is f) ∙ sym m.ends

      -- that text is missing
      pub no_third : {t : Bool} → t ≡ equal (part file b 51) after_counts → t ≡ false → Formless file
      no_third e t =
          record { form = no_form file (λ f. not_there file b after_counts (rw lengths.third e) t (ap (λ (j : ℕ). part file j (length after_counts)) (sym (at_third f)) ∙ (parts_of f).third)) }

      -- it stands there
      pub third_fits : {t : Bool} → t ≡ equal (part file b 51) after_counts → t ≡ true → b + 51 ≤ length file
      third_fits e t =
          let l = lengths.third in
          omega (arith, fits file b after_counts (omega arith) (there file b after_counts (rw lengths.third e) t))

      -- another body
      pub no_body : {t : Bool} → b + 51 ≤ length file → t ≡ eqb (length file - (b + 51)) (24 * p + 13 * q) → t ≡ false → Formless file
      no_body r e t =
          record {
            form = no_form file
                (λ f.
                let l = header_long Vs Fs in
                let c = at_third f in
                let x = v_is f in
                let y = w_is f in
                let g = f.long in
                true≢false (sym (eq-eqb (length file - (b + 51)) (24 * p + 13 * q) (omega (arith, lengths))) ∙ (sym e ∙ t)));
          }

      -- all parts stand
      module _ {t₁ t₂ t₃ : Bool} (e₁ : t₁ ≡ equal (part file 0 51) before_vertices) (s₁ : t₁ ≡ true) (e₂ : t₂ ≡ equal (part file a 68) before_faces) (s₂ : t₂ ≡ true)
          (e₃ : t₃ ≡ equal (part file b 51) after_counts) (s₃ : t₃ ≡ true) where
        -- the file begins with the first text
        front_1 : take 51 file ≡ before_vertices
        front_1 = ap (λ (j : ℕ). take j file) (sym lengths.first) ∙ there file 0 before_vertices (rw lengths.first e₁) s₁

        -- then the count of vertices
        front_2 : take a file ≡ before_vertices ++ plain p
        front_2 = ap (λ (j : ℕ). take j file) k.ends ∙ take-add 51 (length (plain p)) file ∙ ap₂ (λ (x y : List ℕ). x ++ y) front_1 k.field

        -- then the second text
        front_3 : take (a + 68) file ≡ before_vertices ++ plain p ++ before_faces
        front_3 = take-add a 68 file ∙ ap₂ (λ (x y : List ℕ). x ++ y) front_2 (ap (part file a) (sym lengths.second) ∙ there file a before_faces (rw lengths.second e₂) s₂)

        -- then the count of faces
        front_4 : take b file ≡ before_vertices ++ plain p ++ before_faces ++ plain q
        front_4 = ap (λ (j : ℕ). take j file) m.ends ∙ take-add (a + 68) (length (plain q)) file ∙ ap₂ (λ (x y : List ℕ). x ++ y) front_3 m.field

        -- then the third text: that is the header
        front_5 : take (b + 51) file ≡ header p q
        unfolding header
        front_5 = take-add b 51 file ∙ ap₂ (λ (x y : List ℕ). x ++ y) front_4 (ap (part file b) (sym lengths.third) ∙ there file b after_counts (rw lengths.third e₃) s₃)

        -- which is so long
        head_is : length (header p q) ≡ b + 51
        head_is =
            let l = header_long p q in
            omega (arith, k.ends, m.ends)

        -- with a body as long as it tells the file has the form
        pub is_whole : {t : Bool} → b + 51 ≤ length file → t ≡ eqb (length file - (b + 51)) (24 * p + 13 * q) → t ≡ true → Whole file p q (b + 51)
        is_whole r e s =
            let g : length file - (b + 51) ≡ 24 * p + 13 * q = eqb-true _ _ (sym e ∙ s) in
            let h = head_is in
            let f : Form file p q =
            record { starts = sym (take-append-drop (length (header p q)) file) ∙ ap (λ (l : List ℕ). l ++ drop (length (header p q)) file) (ap (λ (j : ℕ). take j file) h ∙ front_5); long = omega arith } in
            let x : p < 10 ^ 20 = omega (arith, k.few) in
            let y : q < 10 ^ 20 = omega (arith, m.few) in
            record {
              form = has_form f x y;
              vertices = vertices_is f x y;
              faces = faces_is f x y;
              head = ap length (header_is f x y) ∙ h;
              long = omega arith;
            }
