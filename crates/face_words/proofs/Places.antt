-- The faces that stand, and their places in the rules' list. Assumes nothing.
use mathlib.Core.Path.{◌≡◌, refl, sym, ap, ap₂, ◌∙◌, subst}
use mathlib.Core.Bool.{Bool, true, false, not, ◌&&◌, ◌||◌, cond}
use mathlib.Core.List.{List, [], ◌∷◌, ◌++◌, map, map-append, map-map, append-nil}
use Prim.Native.Nat.{ℕ, zero, suc, ◌<◌}
use native.Mathlib.Omega.{arith}
use native.Mathlib.Decide.{dec_lt, ℕ_discrete}
use borrow.Author.Tests.{lt-ltb, le-ltb, eq-eqb, ne_eqb}
use lib.Dec.{T, eqb, ltb}
use lib.Ieee.Bits.{is_true}
use lib.ListN.{length, get_or, length-map, get_or-append}
use Rattle.rules.specs.Lists.{below, filter, count, any, each, leave}
use Rattle.rules.specs.Mesh.{Face, face, faces_of, exchanged}
use Rattle.rules.specs.Steps.{Step, steps, Entry, entries}
use Rattle.rule_laws.proofs.Lists.{filter_append, filter_map, each_map, map_each, get_or_map_in, leave_places, length_below}
use Rattle.rule_laws.proofs.Rising.{All, all_imp, all_filter, below_all, get_or_below, map_same}
use Rattle.rule_laws.proofs.Counting.{count_next, count_stay, count_strict, count_mono, count_injective}
use Rattle.rule_laws.proofs.Takers.{takers}
use Rattle.face_words.specs.Words.{stands, straight, view, there, viewed, place, every_face, takers_at}

module _ {A : Type 0} where
  -- one filter after another
  pub filter_both : (p q : A → Bool) (xs : List A) → filter p (filter q xs) ≡ filter (λ x. q x && p x) xs
  unfolding filter
  filter_both p q [] = refl
  filter_both p q (x ∷ xs) = go (q x) (filter_both p q xs)
    where
      go : (b : Bool) → filter p (filter q xs) ≡ filter (λ y. q y && p y) xs
          → filter p (cond b (x ∷ filter q xs) (filter q xs)) ≡ cond (b && p x) (x ∷ filter (λ y. q y && p y) xs) (filter (λ y. q y && p y) xs)
      go true e = ap (λ l. cond (p x) (x ∷ l) l) e
      go false e = e

  -- tests that agree on the members leave the same
  pub filter_agree : (p q : A → Bool) (xs : List A) → All (λ x. p x ≡ q x) xs → filter p xs ≡ filter q xs
  unfolding filter
  filter_agree p q [] a = refl
  filter_agree p q (x ∷ xs) a = ap₂ (λ (b : Bool) (l : List A). cond b (x ∷ l) l) a.0 (filter_agree p q xs a.1)

module _ {A B : Type 0} where
  -- lists made of the members by functions that agree on them
  pub each_agree : (h g : A → List B) (xs : List A) → All (λ x. h x ≡ g x) xs → each h xs ≡ each g xs
  unfolding each
  each_agree h g [] a = refl
  each_agree h g (x ∷ xs) a = ap₂ (λ k l. k ++ l) a.0 (each_agree h g xs a.1)

  -- a filter goes into each list
  pub filter_each : (p : B → Bool) (h : A → List B) (xs : List A) → filter p (each h xs) ≡ each (λ x. filter p (h x)) xs
  unfolding each
  filter_each p h [] = unfold filter in refl
  filter_each p h (x ∷ xs) = filter_append p (h x) (each h xs) ∙ ap (λ l. filter p (h x) ++ l) (filter_each p h xs)

  -- lists made of what a filter leaves
  pub each_filter : (p : A → Bool) (h : A → List B) (xs : List A) → each h (filter p xs) ≡ each (λ x. cond (p x) (h x) []) xs
  unfolding each filter
  each_filter p h [] = refl
  each_filter p h (x ∷ xs) = go (p x) (each_filter p h xs)
    where
      go : (b : Bool) → each h (filter p xs) ≡ each (λ y. cond (p y) (h y) []) xs → each h (cond b (x ∷ filter p xs) (filter p xs)) ≡ cond b (h x) [] ++ each (λ y. cond (p y) (h y) []) xs
      go true e = ap (λ l. h x ++ l) e
      go false e = e

  -- a test of changed members
  pub any_map : (p : B → Bool) (f : A → B) (xs : List A) → any p (map f xs) ≡ any (λ x. p (f x)) xs
  unfolding any
  any_map p f [] = refl
  any_map p f (x ∷ xs) = ap (λ r. p (f x) || r) (any_map p f xs)

-- a filter before a test
pub any_filter : {A : Type 0} (p q : A → Bool) (xs : List A) → any q (filter p xs) ≡ any (λ x. p x && q x) xs
unfolding any filter
any_filter p q [] = refl
any_filter p q (x ∷ xs) = go (p x) (any_filter p q xs)
  where
    go : (b : Bool) → any q (filter p xs) ≡ any (λ y. p y && q y) xs → any q (cond b (x ∷ filter p xs) (filter p xs)) ≡ (b && q x || any (λ y. p y && q y) xs)
    go true e = ap (λ r. q x || r) e
    go false e = e

-- ---- the faces that stand

module _ (w : List ℕ) where
  -- those below k + 1
  pub there_next : (k : ℕ) → there w (suc k) ≡ there w k ++ cond (stands w k) (k ∷ []) []
  unfolding filter below
  there_next k = filter_append (stands w) (below k) (k ∷ [])

  -- they stand, below k
  pub there_all : (k : ℕ) → All (λ f. (f < k) × T (stands w f)) (there w k)
  there_all k = all_filter (λ f. f < k) (stands w) (below k) (below_all k)

  -- as many as their next place
  pub there_length : (k : ℕ) → length (there w k) ≡ place w k
  unfolding count
  there_length k = refl

  -- their places are 0, 1, .. in line
  pub places_are : (k : ℕ) → map (place w) (there w k) ≡ below (place w k)
  places_are zero = unfold filter count below in refl
  places_are (suc k) = ap (map (place w)) (there_next k) ∙ go (stands w k) refl (places_are k)
    where
      go : (b : Bool) → stands w k ≡ b → map (place w) (there w k) ≡ below (place w k) → map (place w) (there w k ++ cond b (k ∷ []) []) ≡ below (place w (suc k))
      go true e i =
          map-append (place w) (there w k) (k ∷ [])
          ∙ ap (λ l. l ++ (place w k ∷ [])) i
          ∙ unfold below in (ap below (sym (count_next (stands w) k (subst T (sym e) tt))))
      go false e i = ap (map (place w)) (append-nil (there w k)) ∙ i ∙ ap below (sym (count_stay (stands w) k e))

  -- the face at the place of f
  pub there_at : (k f : ℕ) → f < k → T (stands w f) → get_or (there w k) (place w f) 0 ≡ f
  there_at zero f h t = absurd (omega arith)
  there_at (suc k) f h t = ap (λ l. get_or l (place w f) 0) (there_next k) ∙ go (dec_lt f k) (λ l. there_at k f l t)
    where
      at_end : (xs : List ℕ) → get_or (xs ++ (f ∷ [])) (length xs) 0 ≡ f
      at_end [] = refl
      at_end (x ∷ xs) = at_end xs

      go : Dec (f < k) → (f < k → get_or (there w k) (place w f) 0 ≡ f) → get_or (there w k ++ cond (stands w k) (k ∷ []) []) (place w f) 0 ≡ f
      go (yes l) i =
          get_or-append (there w k) (cond (stands w k) (k ∷ []) []) 0 (place w f) (rw (there_length k) (count_strict (stands w) f k l t))
          ∙ i l
      go (no l) i =
          let e : f ≡ k = omega arith in
          rw (← e, is_true (stands w f) t)
          (ap (λ i. get_or (there w f ++ (f ∷ [])) i 0) (sym (there_length f)) ∙ at_end (there w f))

  -- places rise with faces
  pub ltb_place : (f g : ℕ) → T (stands w f) → T (stands w g) → ltb (place w f) (place w g) ≡ ltb f g
  ltb_place f g s t = go (dec_lt f g)
    where
      go : Dec (f < g) → ltb (place w f) (place w g) ≡ ltb f g
      go (yes l) = lt-ltb (place w f) (place w g) (count_strict (stands w) f g l s) ∙ sym (lt-ltb f g l)
      go (no l) = le-ltb (place w f) (place w g) (count_mono (stands w) g f (omega arith)) ∙ sym (le-ltb f g (omega arith))

  -- different faces have different places
  pub eqb_place : (f g : ℕ) → T (stands w f) → T (stands w g) → eqb (place w f) (place w g) ≡ eqb f g
  eqb_place f g s t = go (ℕ_discrete f g)
    where
      go : Dec (f ≡ g) → eqb (place w f) (place w g) ≡ eqb f g
      go (yes e) = eq-eqb (place w f) (place w g) (ap (place w) e) ∙ sym (eq-eqb f g e)
      go (no n) = ne_eqb (place w f) (place w g) (λ q. n (count_injective (stands w) f g s t q)) ∙ sym (ne_eqb f g n)

-- ---- the rules' list

module _ (xs w : List ℕ) where
  -- as many as stand
  pub viewed_length : length (viewed xs w) ≡ place w (length w)
  viewed_length = length-map (there w (length w)) (view xs w) ∙ there_length w (length w)

  -- the face at the place of f
  pub viewed_face : (f : ℕ) → f < length w → T (stands w f) → face (viewed xs w) (place w f) ≡ view xs w f
  unfolding face
  viewed_face f h t =
      get_or_map_in (view xs w) (there w (length w)) (place w f) 0 (record { a = 0; b = 0; c = 0; origin = 0 }) (rw (there_length w (length w)) (count_strict (stands w) f (length w) h t))
      ∙ ap (view xs w) (there_at w (length w) f h t)

  -- a place of a face that stands is one of the list
  pub place_in : (f : ℕ) → f < length w → T (stands w f) → place w f < length (viewed xs w)
  place_in f h t = rw viewed_length (count_strict (stands w) f (length w) h t)

  -- of every face that stands
  pub viewed_faces : All (λ f. face (viewed xs w) (place w f) ≡ view xs w f) (there w (length w))
  viewed_faces = all_imp (λ f. (f < length w) × T (stands w f)) (λ f. face (viewed xs w) (place w f) ≡ view xs w f) (λ f h. viewed_face f h.0 h.1) (there w (length w)) (there_all w (length w))

  -- face f among all
  pub every_face_is : (f : ℕ) → f < length w → face (every_face xs w) f ≡ view xs w f
  unfolding face
  every_face_is f h =
      get_or_map_in (view xs w) (below (length w)) f 0 (record { a = 0; b = 0; c = 0; origin = 0 }) (rw (length_below (length w)) h)
      ∙ ap (view xs w) (get_or_below (length w) f h)

  -- the list of places, by faces
  pub below_places : below (length (viewed xs w)) ≡ map (place w) (there w (length w))
  below_places = ap below viewed_length ∙ sym (places_are w (length w))

  -- the places that pass a test are those of the faces that stand and whose place passes it
  pub filter_places : (p : ℕ → Bool) → filter p (below (length (viewed xs w))) ≡ map (place w) (filter (λ f. stands w f && p (place w f)) (below (length w)))
  filter_places p =
      ap (filter p) below_places ∙ filter_map p (place w) (there w (length w)) ∙ ap (map (place w)) (filter_both (λ f. p (place w f)) (stands w) (below (length w)))

  -- as many
  pub count_places : (p : ℕ → Bool) → count p (below (length (viewed xs w))) ≡ count (λ f. stands w f && p (place w f)) (below (length w))
  unfolding count
  count_places p = ap length (filter_places p) ∙ length-map (filter (λ f. stands w f && p (place w f)) (below (length w))) (place w)

  -- the list when the marked places have left: the faces that stand and whose place is not marked
  pub leave_there : (m : ℕ → Bool) → leave m (viewed xs w) ≡ map (view xs w) (filter (λ f. stands w f && not (m (place w f))) (below (length w)))
  leave_there m =
      leave_places m (viewed xs w) (record { a = 0; b = 0; c = 0; origin = 0 })
      ∙ ap (map (λ i. get_or (viewed xs w) i (record { a = 0; b = 0; c = 0; origin = 0 }))) (filter_places (λ i. not (m i)))
      ∙ map-map (λ i. get_or (viewed xs w) i (record { a = 0; b = 0; c = 0; origin = 0 })) (place w) (filter (λ f. stands w f && not (m (place w f))) (below (length w)))
      ∙ ap (map (λ f. get_or (viewed xs w) (place w f) (record { a = 0; b = 0; c = 0; origin = 0 }))) (sym (filter_both (λ f. not (m (place w f))) (stands w) (below (length w))))
      ∙ map_same (λ f. get_or (viewed xs w) (place w f) (record { a = 0; b = 0; c = 0; origin = 0 })) (view xs w) (filter (λ f. not (m (place w f))) (there w (length w)))
      (all_imp (λ f. (face (viewed xs w) (place w f) ≡ view xs w f) × T (not (m (place w f)))) (λ f. get_or (viewed xs w) (place w f) (record { a = 0; b = 0; c = 0; origin = 0 }) ≡ view xs w f) (λ f h. unfold face in h.0) (filter (λ f. not (m (place w f))) (there w (length w)))
      (all_filter (λ f. face (viewed xs w) (place w f) ≡ view xs w f) (λ f. not (m (place w f))) (there w (length w)) viewed_faces))
      ∙ ap (map (view xs w)) (filter_both (λ f. not (m (place w f))) (stands w) (below (length w)))

  -- a test of the places is one of the faces that stand
  pub any_places : (p : ℕ → Bool) → any p (below (length (viewed xs w))) ≡ any (λ f. stands w f && p (place w f)) (below (length w))
  any_places p = ap (any p) (below_places) ∙ any_map p (place w) (there w (length w)) ∙ any_filter (stands w) (λ f. p (place w f)) (below (length w))

  -- so is a test of the list
  pub any_viewed : (p : Face → Bool) → any p (viewed xs w) ≡ any (λ f. stands w f && p (view xs w f)) (below (length w))
  any_viewed p = any_map p (view xs w) (there w (length w)) ∙ any_filter (stands w) (λ f. p (view xs w f)) (below (length w))

  -- lists made place by place are made face by face
  pub each_places : {A : Type 0} (h : ℕ → List A) → each h (below (length (viewed xs w))) ≡ each (λ f. cond (stands w f) (h (place w f)) []) (below (length w))
  each_places h = ap (each h) below_places ∙ each_map h (place w) (there w (length w)) ∙ each_filter (stands w) (λ f. h (place w f)) (below (length w))

-- ---- entries

-- the takers, face by face
pub takers_each : (p : Step → Bool) (fs : List Face) → takers p fs ≡ each (λ i. map (λ s. i) (filter p (steps (face fs i)))) (below (length fs))
unfolding entries
takers_each p fs =
    ap (map (λ (n : Entry). n.by)) (filter_each (λ n. p n.along) (λ i. map (λ s. record { by = i; along = s }) (steps (face fs i))) (below (length fs)))
    ∙ map_each (λ n. n.by) (λ i. filter (λ n. p n.along) (map (λ s. record { by = i; along = s }) (steps (face fs i)))) (below (length fs))
    ∙ ap (λ (h : ℕ → List ℕ). each h (below (length fs))) (λ k i. one i k)
  where
    one : (i : ℕ) → map (λ (n : Entry). n.by) (filter (λ n. p n.along) (map (λ s. record { by = i; along = s }) (steps (face fs i)))) ≡ map (λ s. i) (filter p (steps (face fs i)))
    one i =
        ap (map (λ (n : Entry). n.by)) (filter_map (λ n. p n.along) (λ s. record { by = i; along = s }) (steps (face fs i)))
        ∙ map-map (λ n. n.by) (λ s. record { by = i; along = s }) (filter p (steps (face fs i)))

-- the takers among the faces that stand: by place, one for each entry
pub takers_place : (p : Step → Bool) (xs w : List ℕ) → takers p (viewed xs w) ≡ map (place w) (takers_at p xs w (length w))
takers_place p xs w =
    takers_each p (viewed xs w)
    ∙ ap (each (λ i. map (λ s. i) (filter p (steps (face (viewed xs w) i))))) (below_places xs w)
    ∙ each_map (λ i. map (λ s. i) (filter p (steps (face (viewed xs w) i)))) (place w) (there w (length w))
    ∙ each_agree (λ f. map (λ s. place w f) (filter p (steps (face (viewed xs w) (place w f))))) (λ f. map (place w) (map (λ s. f) (filter p (steps (view xs w f))))) (there w (length w))
    (all_imp (λ f. face (viewed xs w) (place w f) ≡ view xs w f) (λ f. map (λ s. place w f) (filter p (steps (face (viewed xs w) (place w f)))) ≡ map (place w) (map (λ s. f) (filter p (steps (view xs w f)))))
    (λ f e. ap (λ g. map (λ s. place w f) (filter p (steps g))) e ∙ sym (map-map (place w) (λ s. f) (filter p (steps (view xs w f)))))
    (there w (length w)) (viewed_faces xs w))
    ∙ sym (map_each (place w) (λ f. map (λ s. f) (filter p (steps (view xs w f)))) (there w (length w)))

-- ---- words after marked faces have left

-- the words of faces that are gone where they were gone or are marked, and stand otherwise as they stood
pub record Fewer (m : ℕ → Bool) (w w' : List ℕ) : Type 0 where
  pub long : length w' ≡ length w
  pub stay : (f : ℕ) → f < length w → stands w' f ≡ (stands w f && not (m f))
  pub turned : (f : ℕ) → f < length w → straight w' f ≡ straight w f

-- then the list is what is left of the list
pub left_list : (xs w w' : List ℕ) (m : ℕ → Bool) → Fewer (λ f. m (place w f)) w w' → viewed xs w' ≡ leave m (viewed xs w)
unfolding view
left_list xs w w' m h =
    ap (λ k. map (view xs w') (there w' k)) h.long
    ∙ ap (map (view xs w'))
    (filter_agree (stands w') (λ f. stands w f && not (m (place w f))) (below (length w))
    (all_imp (λ f. f < length w) (λ f. stands w' f ≡ (stands w f && not (m (place w f)))) (λ f l. h.stay f l) (below (length w)) (below_all (length w))))
    ∙ map_same (view xs w') (view xs w) left
    (all_imp (λ f. (f < length w) × T (stands w f && not (m (place w f)))) (λ f. view xs w' f ≡ view xs w f)
    (λ f l. unfold view in (ap (λ b. cond b (face (faces_of xs) f) (exchanged (face (faces_of xs) f))) (h.turned f l.0)))
    left (all_filter (λ f. f < length w) (λ f. stands w f && not (m (place w f))) (below (length w)) (below_all (length w))))
    ∙ sym (leave_there xs w m)
  where
    left : List ℕ
    left = filter (λ f. stands w f && not (m (place w f))) (below (length w))
