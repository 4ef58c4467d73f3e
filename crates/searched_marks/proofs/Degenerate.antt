-- Pass 1's mark by faces. Assumes nothing.
use mathlib.Core.Path.{◌≡◌, refl, sym, ap, subst, ◌∙◌}
use mathlib.Core.Bool.{Bool, true, not, ◌&&◌, ◌||◌}
use mathlib.Core.List.{List}
use Prim.Native.Nat.{ℕ}
use lib.Dec.{T}
use denote.Enum.Bare.{sameb}
use lib.ListN.{length}
use lib.Ieee.{Float}
use Rattle.rules.specs.Float.{Shape, repeats, shape, is_repeated, is_thin}
use Rattle.rules.specs.Mesh.{points_of}
use Rattle.rules.specs.Pass1.{repeated1, thin1, marked1}
use Rattle.rule_laws.proofs.Once.{CornersBelow}
use Rattle.rule_laws.proofs.Flat.{length_points}
use Rattle.measure.specs.Measure as measured
use Rattle.measure.specs.contracts.Form.{the_type}
use Rattle.measure.specs.declared.Form.{Form}
use Rattle.measure.specs.declared.Form.TheVariants.{Good, Repeated, Thin}
use Rattle.face_words.specs.Words.{stands, view, viewed, place}
use Rattle.face_words.specs.Views.{seen_as}
use Rattle.face_words.specs.declared.Corners.{Corners}
use Rattle.face_words.proofs.Places.{viewed_face}
use Rattle.searched_marks.specs.Marks.{mark_at, FaceAsks}
use Rattle.searched_marks.proofs.Losing.{view_inside}

-- only a good face leaves nothing to mark
pub not_good : (x : Form) → not (sameb the_type x Good) ≡ (is_repeated (measured.shape_of x) || is_thin (measured.shape_of x))
unfolding is_repeated is_thin
not_good Good = refl
not_good Repeated = refl
not_good Thin = refl

module _ {ps : List Float} {xs w : List ℕ} {f : ℕ} (p : FaceAsks ps xs w f) {g : Corners} (s : seen_as g f ≡ view xs w f) where
  pub shape_ok : measured.Corners ps g.a g.b g.c
  shape_ok =
      let b : CornersBelow (length (points_of ps)) (seen_as g f) = subst (CornersBelow (length (points_of ps))) (sym s) (view_inside p.asks f p.here) in
      let e = length_points ps in
      record { a_in = rw e at b.0; b_in = rw e at b.1; c_in = rw e at b.2 }

  pub mark1_is : {r : Bool} → r ≡ stands w f → r ≡ true → (t : Float) {form : Shape} → form ≡ shape t (points_of ps) (seen_as g 0) → {b : Bool} → b ≡ (is_repeated form || is_thin form)
      → b ≡ mark_at (marked1 t (points_of ps)) xs w f
  unfolding mark_at marked1 repeated1 thin1 shape repeats
  mark1_is {r} e k t ef eb =
      eb
      ∙ ap (λ x. is_repeated x || is_thin x) (ef ∙ ap (shape t (points_of ps)) (s ∙ sym (viewed_face xs w f p.here (subst T (sym (sym e ∙ k)) tt))))
      ∙ sym (ap (λ b. b && marked1 t (points_of ps) (viewed xs w) (place w f)) (sym e ∙ k))
