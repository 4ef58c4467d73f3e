-- Words of zeros stand for the input, and a face that stands has its own number as origin. Assumes nothing.
use mathlib.Core.Path.{◌≡◌, refl, sym, ap, ◌∙◌}
use mathlib.Core.Bool.{Bool, true, false, cond}
use mathlib.Core.List.{List, [], ◌∷◌, map, map-map, map-id}
use Prim.Native.Nat.{ℕ, ◌/◌, ◌%◌, ◌<◌}
use native.Mathlib.Omega.{arith}
use lib.Dec.{T, eqb}
use lib.ListN.{length, get_or}
use Rattle.rules.specs.Lists.{below, filter}
use Rattle.rules.specs.Mesh.{face, faces_of, exchanged}
use Rattle.rule_laws.proofs.Flat.{face_at, length_faces}
use Rattle.rule_laws.proofs.Rising.{All, all_imp, below_all, map_same}
use Rattle.rule_laws.proofs.Origins.{origins}
use Rattle.rule_laws.proofs.Splitting.{faces_by_place}
use Rattle.face_words.specs.Words.{stands, straight, view, there, viewed}
use Rattle.face_words.specs.Views.{Worded}
use Rattle.face_words.proofs.Places.{there_all}

-- a filter that all pass
filter_whole : {A : Type 0} (p : A → Bool) (xs : List A) → All (λ x. p x ≡ true) xs → filter p xs ≡ xs
unfolding filter
filter_whole p [] a = refl
filter_whole p (x ∷ xs) a = ap (λ b. cond b (x ∷ filter p xs) (filter p xs)) a.0 ∙ ap (λ l. x ∷ l) (filter_whole p xs a.1)

module _ {xs w : List ℕ} (p : Worded xs w) where
  -- before any pass
  pub viewed_input : ((f : ℕ) → f < length w → get_or w f 0 ≡ 0) → viewed xs w ≡ faces_of xs
  viewed_input zero =
      ap (map (view xs w)) (filter_whole (stands w) (below (length w)) (all_imp (λ f. f < length w) (λ f. stands w f ≡ true) up (below (length w)) (below_all (length w))))
      ∙ map_same (view xs w) (face (faces_of xs)) (below (length w)) (all_imp (λ f. f < length w) (λ f. view xs w f ≡ face (faces_of xs) f) as_put_in (below (length w)) (below_all (length w)))
      ∙ ap (λ k. map (face (faces_of xs)) (below k)) many
      ∙ sym (faces_by_place (faces_of xs))
    where
      up : (f : ℕ) → f < length w → stands w f ≡ true
      up f h = unfold stands in (ap (λ x. eqb (x % 2) 0) (zero f h))

      as_put_in : (f : ℕ) → f < length w → view xs w f ≡ face (faces_of xs) f
      as_put_in f h = unfold view straight in (ap (λ x. cond (eqb (x / 2 % 2) 0) (face (faces_of xs) f) (exchanged (face (faces_of xs) f))) (zero f h))

      many : length w ≡ length (faces_of xs)
      many = let l = p.long in let e : length w ≡ length xs / 3 = omega arith in e ∙ sym (length_faces xs)

  -- the origin of a face
  pub view_origin : (f : ℕ) → f < length w → (view xs w f).origin ≡ f
  unfolding view exchanged
  view_origin f h = go (straight w f)
    where
      input : (face (faces_of xs) f).origin ≡ f
      input = ap (λ g. g.origin) (face_at xs f (omega (arith, p.long)))

      go : (b : Bool) → (cond b (face (faces_of xs) f) (exchanged (face (faces_of xs) f))).origin ≡ f
      go true = input
      go false = input

  -- so the origins are the faces that stand
  pub viewed_origins : origins (viewed xs w) ≡ there w (length w)
  viewed_origins =
      map-map (λ g. g.origin) (view xs w) (there w (length w))
      ∙ map_same (λ f. (view xs w f).origin) (λ f. f) (there w (length w))
      (all_imp (λ f. (f < length w) × T (stands w f)) (λ f. (view xs w f).origin ≡ f) (λ f h. view_origin f h.0) (there w (length w)) (there_all w (length w)))
      ∙ map-id (there w (length w))
