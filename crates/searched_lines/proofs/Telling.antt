-- The lines of passes 1 to 4 by the faces: what stands at a place in the rules' list is told of its face. Assumes nothing.
use mathlib.Core.Path.{◌≡◌, refl, sym, ap, ap₂, subst, ◌∙◌}
use mathlib.Core.Bool.{Bool, true, false, not, ◌&&◌, ◌||◌, cond}
use mathlib.Core.List.{List, [], ◌∷◌, ◌++◌, append-nil}
use Prim.Native.Nat.{ℕ, ◌+◌, ◌*◌, ◌<◌}
use native.Mathlib.Omega.{arith}
use lib.Dec.{T, eqb, eqb_refl}
use lib.ListN.{length, get_or}
use lib.Ieee.{Float}
use lib.Ieee.Bits.{is_true}
use Rattle.rules.specs.Lists.{below, count, each}
use Rattle.rules.specs.Float.{Shape, good, repeated, thin, shape, is_repeated, is_thin}
use Rattle.rules.specs.Mesh.{Face, face, faces_of, points_of, exchanged}
use Rattle.rules.specs.Line.{bytes, decimal}
use Rattle.rules.specs.Pass1.{repeated1, thin1, marked1}
use Rattle.rules.specs.Mending.{Reason, for_repeated, for_thin, word_of, Line, dropped_face, exchange, line_text, drops, reason_of, turned}
use Rattle.rule_laws.proofs.Lists.{each_append}
use Rattle.rule_laws.proofs.Rising.{all_imp, below_all}
use Rattle.rule_laws.proofs.Flat.{face_at}
use Rattle.fan_laws.specs.Sums.{sum_of}
use Rattle.fan_laws.proofs.Sums.{length_each_sum, sum_agree}
use Rattle.face_words.specs.Words.{stands, straight, view, viewed, place}
use Rattle.face_words.specs.Views.{Worded}
use Rattle.face_words.proofs.Places.{viewed_face, each_places}
use Rattle.searched_fans.proofs.Grouping.{view_origin}
use Rattle.searched_marks.specs.Marks.{mark_at}
use Rattle.searched_lines.specs.Lines.{bytes_of, drop_line, shape_line, degenerate_line, shows, exchange_line}
use Rattle.searched_lines.proofs.Texts.{drop_text, exchange_text}

-- lists of lists of lists
each_each : {A B C : Type 0} (g : B → List C) (h : A → List B) (xs : List A) → each g (each h xs) ≡ each (λ x. each g (h x)) xs
unfolding each
each_each g h [] = refl
each_each g h (x ∷ xs) = each_append g (h x) (each h xs) ∙ ap (λ l. each g (h x) ++ l) (each_each g h xs)

-- the text of one line
one_text : (l : Line) → bytes_of (l ∷ []) ≡ length (line_text l)
unfolding each
one_text l = ap length (append-nil (line_text l))

-- lines made place by place are told face by face
pub places_bytes : (xs w : List ℕ) (h : ℕ → List Line) (g : ℕ → ℕ) → ((f : ℕ) → f < length w → bytes_of (cond (stands w f) (h (place w f)) []) ≡ g f) → bytes_of (each h (below (length (viewed xs w)))) ≡ sum_of g (below (length w))
places_bytes xs w h g a =
    ap bytes_of (each_places xs w h)
    ∙ ap length (each_each line_text (λ f. cond (stands w f) (h (place w f)) []) (below (length w)))
    ∙ length_each_sum (λ f. each line_text (cond (stands w f) (h (place w f)) [])) (below (length w))
    ∙ sum_agree (λ f. bytes_of (cond (stands w f) (h (place w f)) [])) g (below (length w))
    (all_imp (λ f. f < length w) (λ f. bytes_of (cond (stands w f) (h (place w f)) []) ≡ g f) a (below (length w)) (below_all (length w)))

-- no line
none_text : bytes_of [] ≡ 0
unfolding each
none_text = refl

module _ {xs w : List ℕ} (p : Worded xs w) where
  -- the origin of what stands at the place of a face
  origin_at : (f : ℕ) → f < length w → T (stands w f) → (face (viewed xs w) (place w f)).origin ≡ f
  origin_at f h t = ap (λ v. v.origin) (viewed_face xs w f h t) ∙ view_origin xs w f p h

  -- faces that leave for one reason
  pub drops_bytes :
      (m : List Face → ℕ → Bool) (why : Reason) → bytes_of (drops (m (viewed xs w)) (λ i. why) (viewed xs w)) ≡ sum_of (λ f. cond (mark_at m xs w f) (drop_line (length (bytes (word_of why))) f) 0) (below (length w))
  unfolding drops mark_at
  drops_bytes m why =
      places_bytes xs w (λ i. cond (m (viewed xs w) i) (dropped_face (face (viewed xs w) i).origin why ∷ []) []) (λ f. cond (stands w f && m (viewed xs w) (place w f)) (drop_line (length (bytes (word_of why))) f) 0)
      (λ f h. go f h (stands w f) refl (m (viewed xs w) (place w f)))
    where
      go : (f : ℕ) → f < length w → (b : Bool) → stands w f ≡ b → (c : Bool) → bytes_of (cond b (cond c (dropped_face (face (viewed xs w) (place w f)).origin why ∷ []) []) []) ≡ cond (b && c) (drop_line (length (bytes (word_of why))) f) 0
      go f h false e c = none_text
      go f h true e false = none_text
      go f h true e true =
          one_text (dropped_face (face (viewed xs w) (place w f)).origin why)
          ∙ drop_text (face (viewed xs w) (place w f)).origin why
          ∙ ap (drop_line (length (bytes (word_of why)))) (origin_at f h (subst T (sym e) tt))

  -- faces that leave in pass 1
  pub degenerate_bytes :
      (s : Float) (ps : List Float) → bytes_of (drops (marked1 s (points_of ps) (viewed xs w)) (λ i. reason_of (shape s (points_of ps) (face (viewed xs w) i))) (viewed xs w)) ≡ sum_of (degenerate_line s ps xs w) (below (length w))
  unfolding drops marked1 repeated1 thin1 degenerate_line
  degenerate_bytes s ps =
      places_bytes xs w
      (λ i. cond (is_repeated (shape s (points_of ps) (face (viewed xs w) i)) || is_thin (shape s (points_of ps) (face (viewed xs w) i))) (dropped_face (face (viewed xs w) i).origin (reason_of (shape s (points_of ps) (face (viewed xs w) i))) ∷ []) [])
      (λ f. cond (stands w f) (shape_line (shape s (points_of ps) (view xs w f)) f) 0)
      (λ f h. go f h (stands w f) refl)
    where
      line : (x : Shape) (o : ℕ) → bytes_of (cond (is_repeated x || is_thin x) (dropped_face o (reason_of x) ∷ []) []) ≡ shape_line x o
      line good o = unfold is_repeated is_thin shape_line in none_text
      line repeated o = unfold is_repeated is_thin shape_line reason_of in (one_text (dropped_face o for_repeated) ∙ drop_text o for_repeated ∙ ap (λ n. drop_line n o) (unfold word_of bytes in refl))
      line thin o = unfold is_repeated is_thin shape_line reason_of in (one_text (dropped_face o for_thin) ∙ drop_text o for_thin ∙ ap (λ n. drop_line n o) (unfold word_of bytes in refl))

      go : (f : ℕ) → f < length w → (b : Bool) → stands w f ≡ b
          → bytes_of (cond b (cond (is_repeated (shape s (points_of ps) (face (viewed xs w) (place w f))) || is_thin (shape s (points_of ps) (face (viewed xs w) (place w f)))) (dropped_face (face (viewed xs w) (place w f)).origin (reason_of (shape s (points_of ps) (face (viewed xs w) (place w f)))) ∷ []) []) []) ≡ cond b (shape_line (shape s (points_of ps) (view xs w f)) f) 0
      go f h false e = none_text
      go f h true e =
          let t : T (stands w f) = subst T (sym e) tt in
          line (shape s (points_of ps) (face (viewed xs w) (place w f))) (face (viewed xs w) (place w f)).origin
          ∙ ap₂ (λ v o. shape_line (shape s (points_of ps) v) o) (viewed_face xs w f h t) (origin_at f h t)

  -- the faces that an orientation exchanged, where all were straight
  pub exchange_bytes :
      (w₀ : List ℕ) → length w ≡ length w₀ → stands w ≡ stands w₀ → ((f : ℕ) → f < length w₀ → straight w₀ f ≡ true)
      → bytes_of (each (λ i. cond (turned (viewed xs w₀) (viewed xs w) i) (exchange (face (viewed xs w) i).origin ∷ []) []) (below (length (viewed xs w)))) ≡ sum_of (exchange_line xs w) (below (length w))
  unfolding turned exchange_line shows
  exchange_bytes w₀ long same plain =
      places_bytes xs w (λ i. cond (not (eqb (face (viewed xs w₀) i).b (face (viewed xs w) i).b)) (exchange (face (viewed xs w) i).origin ∷ []) []) (λ f. cond (stands w f && (not (straight w f) && not (eqb (get_or xs (3 * f + 1) 0) (get_or xs (3 * f + 2) 0)))) (3 + length (decimal f)) 0)
      (λ f h. go f h (stands w f) refl)
    where
      before : (f : ℕ) → f < length w → T (stands w f) → face (viewed xs w₀) (place w f) ≡ face (faces_of xs) f
      before f h t =
          ap (λ (q : ℕ → Bool). face (viewed xs w₀) (count q (below f))) same
          ∙ viewed_face xs w₀ f (omega (arith, long)) (subst (λ (q : ℕ → Bool). T (q f)) same t)
          ∙ unfold view in (ap (λ b. cond b (face (faces_of xs) f) (exchanged (face (faces_of xs) f))) (plain f (omega (arith, long))))

      test : (v : Face) (b : Bool) → not (eqb v.b (cond b v (exchanged v)).b) ≡ (not b && not (eqb v.b v.c))
      test v true = ap not (is_true (eqb v.b v.b) (eqb_refl v.b))
      test v false = unfold exchanged in refl

      now : (f : ℕ) → not (eqb (face (faces_of xs) f).b (view xs w f).b) ≡ (not (straight w f) && not (eqb (face (faces_of xs) f).b (face (faces_of xs) f).c))
      now f = unfold view in (test (face (faces_of xs) f) (straight w f))

      corners : (f : ℕ) → f < length w → not (eqb (face (faces_of xs) f).b (face (faces_of xs) f).c) ≡ not (eqb (get_or xs (3 * f + 1) 0) (get_or xs (3 * f + 2) 0))
      corners f h = ap (λ v. not (eqb v.b v.c)) (face_at xs f (omega (arith, p.long)))

      pick : (c : Bool) (o : ℕ) → bytes_of (cond c (exchange o ∷ []) []) ≡ cond c (3 + length (decimal o)) 0
      pick true o = one_text (exchange o) ∙ exchange_text o
      pick false o = none_text

      go : (f : ℕ) → f < length w → (b : Bool) → stands w f ≡ b
          → bytes_of (cond b (cond (not (eqb (face (viewed xs w₀) (place w f)).b (face (viewed xs w) (place w f)).b)) (exchange (face (viewed xs w) (place w f)).origin ∷ []) []) [])
          ≡ cond (b && (not (straight w f) && not (eqb (get_or xs (3 * f + 1) 0) (get_or xs (3 * f + 2) 0)))) (3 + length (decimal f)) 0
      go f h false e = none_text
      go f h true e =
          let t : T (stands w f) = subst T (sym e) tt in
          pick (not (eqb (face (viewed xs w₀) (place w f)).b (face (viewed xs w) (place w f)).b)) (face (viewed xs w) (place w f)).origin
          ∙ ap₂ (λ c o. cond c (3 + length (decimal o)) 0)
          (ap₂ (λ (u v : Face). not (eqb u.b v.b)) (before f h t) (viewed_face xs w f h t) ∙ now f ∙ ap (λ c. not (straight w f) && c) (corners f h))
          (origin_at f h t)
