-- The checks of a file in their order: what is found in its header, in its body, and by the rooms. Assumes nothing.
use mathlib.Core.Path.{◌≡◌, sym, ap, ap₂, ◌∙◌}
use mathlib.Core.List.{List, [], ◌∷◌, ◌++◌}
use Prim.Native.Nat.{ℕ}
use Rattle.rules.specs.Refusal.{Check, ok, no, decided, no5, no6}
use Rattle.rules.specs.Ply.{vertices_in, faces_in_is, triples_of, no13}
use Rattle.rules.specs.ReadPlyCall.{read_ply_rooms}
use Rattle.refuse.specs.Verdicts.{counts}
use Rattle.refuse.proofs.Groups.{stop_at, go_past}
use Rattle.refuse.proofs.Singles.{counts_fine}
use Rattle.ply_file.specs.Files.{Whole, Formless, BodyAsks, opening}

-- ---- 13 and 2

-- a file that has not the form is refused 13, whatever comes after
pub is_formless : (file : List ℕ) (ys : List Check) → Formless file → no 13 0 ≡ decided (opening file ++ ys)
is_formless file ys h = stop_at _ _ _ _ h.form

module _ {file : List ℕ} {p f at : ℕ} (w : Whole file p f at) where
  -- in one that has it 2 decides, of the counts that stand there
  pub is_opened : {c : Check} → c ≡ decided (counts p f) → c ≡ decided (opening file)
  is_opened e = go_past (no13 file) _ _ (sym w.form) (e ∙ ap₂ (λ (a b : ℕ). decided (counts a b)) (sym w.vertices) (sym w.faces))

  -- and where 2 finds nothing the body can be reckoned
  pub body_asks : ok ≡ decided (counts p f) → BodyAsks file at p f
  body_asks e = record { whole = w; limits = counts_fine p f (sym e) }

-- ---- 5 and 6

module _ {file : List ℕ} {at p f : ℕ} (b : BodyAsks file at p f) where
  -- 5, of the P that stands in the file
  pub five : {c : Check} → c ≡ no5 p (triples_of file) → c ≡ no5 (vertices_in file) (triples_of file)
  five q = q ∙ ap (λ (n : ℕ). no5 n (triples_of file)) (sym b.whole.vertices)

  -- 6, of the counts that stand there
  pub six : {c : Check} (points faces work : ℕ) → c ≡ no6 (read_ply_rooms p f) (points ∷ faces ∷ work ∷ [])
      → c ≡ no6 (read_ply_rooms (vertices_in file) (faces_in_is file)) (points ∷ faces ∷ work ∷ [])
  six points faces work q = q ∙ ap₂ (λ (i j : ℕ). no6 (read_ply_rooms i j) (points ∷ faces ∷ work ∷ [])) (sym b.whole.vertices) (sym b.whole.faces)
