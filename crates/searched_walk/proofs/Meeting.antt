-- Face after face is met across a step: the users of its edge, which stay the same when faces are exchanged. Assumes nothing.
use mathlib.Core.Path.{◌≡◌, refl, sym, ap, ap₂, subst, ◌∙◌}
use mathlib.Core.Bool.{Bool, true, false, not, cond}
use mathlib.Core.List.{List, [], ◌∷◌, ◌++◌, map, map-append, map-map}
use Prim.Native.Nat.{ℕ, suc, ◌+◌, ◌≤◌, ◌<◌}
use native.Mathlib.Omega.{arith}
use native.Mathlib.Numerals.{add-one}
use borrow.Author.Tests.{eq-eqb, ne_eqb}
use lib.Dec.{T, eqb}
use lib.ListN.{length, replicate, replicate-append-replicate}
use Rattle.rules.specs.Lists.{filter, through}
use Rattle.rules.specs.Mesh.{Face, face, faces_of, exchanged}
use Rattle.rules.specs.Steps.{Step, step, steps, opposite, edge, same, users}
use Rattle.rules.specs.Pass4 as pass4
use Rattle.rules.specs.Pass4.{Walk}
use Rattle.rule_laws.proofs.Lists.{filter_append, filter_map, through_append}
use Rattle.rule_laws.proofs.Rising.{all_imp}
use Rattle.rule_laws.proofs.Takers.{users_takers}
use Rattle.orienting.proofs.Turns.{edge_opposite}
use Rattle.face_words.specs.Words.{stands, straight, view, viewed, place, takers_at}
use Rattle.face_words.specs.Views.{seen_as}
use Rattle.face_words.specs.declared.Corners.{Corners}
use Rattle.face_words.proofs.Places.{takers_place, eqb_place, filter_agree}
use Rattle.face_words.proofs.Ranking.{Standing}
use Rattle.entry_search.specs.Searching.{along, CandidateGives}
use Rattle.entry_search.proofs.Entries.{list_of, list_none, list_next, list_skip, none_along}
use Rattle.entry_search.proofs.Keeping.{list_all}
use Rattle.searched_walk.specs.declared.Hand.{Hand}
use Rattle.searched_walk.specs.Walking.{walk_of, Ready, Kept, WalkGives, FaceAsks, MeetAsks, MeetGives, TimesGives, met_at, FaceGives, AcrossGives}
use Rattle.searched_walk.proofs.Noting.{kept_none, kept_both, place_kept, up_kept}

-- ---- one after the other

-- nothing is done
pub walk_none : {xs w : List ℕ} {h : Hand} → Ready xs w h → WalkGives xs w h (walk_of xs w h) w h
walk_none {xs} {w} {h} p = record { kept = kept_none w; ready = p; marks = refl; walk = refl }

-- a step after what was done
pub walk_then :
    {xs w : List ℕ} {h : Hand} {v : Walk} {w₁ : List ℕ} {h₁ : Hand} → WalkGives xs w h v w₁ h₁ → (f : Walk → Walk)
    → {w₂ : List ℕ} {h₂ : Hand} → WalkGives xs w₁ h₁ (f (walk_of xs w₁ h₁)) w₂ h₂ → WalkGives xs w h (f v) w₂ h₂
walk_then g f k = record { kept = kept_both g.kept k.kept; ready = k.ready; marks = k.marks ∙ g.marks; walk = k.walk ∙ ap f g.walk }

-- the same walk by another name
pub walk_as : {xs w : List ℕ} {h : Hand} {v u : Walk} {w₁ : List ℕ} {h₁ : Hand} → v ≡ u → WalkGives xs w h v w₁ h₁ → WalkGives xs w h u w₁ h₁
walk_as e g = record { kept = g.kept; ready = g.ready; marks = g.marks; walk = g.walk ∙ e }

-- ---- one face several times

-- k times
pub record Times (xs w₀ : List ℕ) (h₀ : Hand) (g : ℕ) (s : Step) (n : ℕ) (w : List ℕ) (h : Hand) (k : ℕ) : Type 0 where
  pub most : k ≤ n
  pub gives : TimesGives xs w₀ h₀ g s k w h

module _ {xs w₀ : List ℕ} {h₀ : Hand} {g : ℕ} (p : MeetAsks xs w₀ h₀ g) (s : Step) (n : ℕ) where
  pub times_begin : Times xs w₀ h₀ g s n w₀ h₀ 0
  unfolding through
  times_begin = record { most = omega arith; gives = walk_none p.ready }

  module _ {w : List ℕ} {h : Hand} {k : ℕ} (v : Times xs w₀ h₀ g s n w h k) where
    pub times_ask : MeetAsks xs w h g
    times_ask = let l = v.gives.kept.long in record { ready = v.gives.ready; here = omega (arith, p.here); up = up_kept v.gives.kept g p.up }

    pub times_again : k < n → {w' : List ℕ} {h' : Hand} → MeetGives xs w h g s w' h' → Times xs w₀ h₀ g s n w' h' (k + 1)
    times_again l m =
        record {
          most = omega arith;
          gives = walk_as more (walk_then v.gives (λ u. pass4.meet s u (place w g)) m);
        }
      where
        once : through (pass4.meet s) (through (pass4.meet s) (walk_of xs w₀ h₀) (replicate k (place w₀ g))) (place w₀ g ∷ []) ≡ pass4.meet s (through (pass4.meet s) (walk_of xs w₀ h₀) (replicate k (place w₀ g))) (place w₀ g)
        once = unfold through in refl

        more : pass4.meet s (through (pass4.meet s) (walk_of xs w₀ h₀) (replicate k (place w₀ g))) (place w g) ≡ through (pass4.meet s) (walk_of xs w₀ h₀) (replicate (k + 1) (place w₀ g))
        more =
            ap (pass4.meet s (through (pass4.meet s) (walk_of xs w₀ h₀) (replicate k (place w₀ g)))) (place_kept v.gives.kept g)
            ∙ sym once
            ∙ sym (through_append (pass4.meet s) (walk_of xs w₀ h₀) (replicate k (place w₀ g)) (place w₀ g ∷ []))
            ∙ ap (through (pass4.meet s) (walk_of xs w₀ h₀)) (replicate-append-replicate k 1 (place w₀ g))

    pub times_done : n ≤ k → TimesGives xs w₀ h₀ g s n w h
    times_done l = let e : k ≡ n = omega (arith, v.most) in rw e at v.gives

-- ---- one face, as often as it uses the edge

-- as many as steps
copies : (ss : List Step) (x : ℕ) → replicate (length ss) x ≡ map (λ s. x) ss
copies [] x = refl
copies (s ∷ ss) x = ap (λ l. x ∷ l) (copies ss x)

module _ {xs w : List ℕ} {h : Hand} {g : ℕ} (p : FaceAsks xs w h g) (j : ℕ) (s : Step) where
  -- face j itself
  pub met_self : g ≡ j → FaceGives xs w h j g s w h
  met_self e = walk_as (ap (λ q. through (pass4.meet s) (walk_of xs w h) (map (place w) (cond q [] (cond (stands w g) (map (λ x. g) (filter (along false s) (steps (view xs w g)))) [])))) (sym (eq-eqb g j e))) none
    where
      none : WalkGives xs w h (through (pass4.meet s) (walk_of xs w h) (map (place w) [])) w h
      none = unfold through in (walk_none p.ready)

  module _ (n : g ≡ j → ⊥) {r : Bool} (e : r ≡ stands w g) where
    -- one that is gone
    pub met_gone : r ≡ false → FaceGives xs w h j g s w h
    met_gone k =
        walk_as (ap₂ (λ x y. through (pass4.meet s) (walk_of xs w h) (map (place w) (cond x [] (cond y (map (λ z. g) (filter (along false s) (steps (view xs w g)))) [])))) (sym (ne_eqb g j n)) (sym (sym e ∙ k))) none
      where
        none : WalkGives xs w h (through (pass4.meet s) (walk_of xs w h) (map (place w) [])) w h
        none = unfold through in (walk_none p.ready)

    module _ (k : r ≡ true) where
      pub stand_ask : MeetAsks xs w h g
      stand_ask = record { ready = p.ready; here = p.here; up = subst T (sym (sym e ∙ k)) tt }

      -- any other
      pub met_times : {v : Corners} → seen_as v g ≡ view xs w g → {m : ℕ} → m ≡ length (filter (along false s) (steps (seen_as v 0))) → {w' : List ℕ} {h' : Hand} → TimesGives xs w h g s m w' h' → FaceGives xs w h j g s w' h'
      met_times {v} sv {m} em t =
          walk_as
          (ap (through (pass4.meet s) (walk_of xs w h))
          (ap (λ x. replicate x (place w g)) (em ∙ ap (λ u. length (filter (along false s) (steps u))) sv)
          ∙ copies (filter (along false s) (steps (view xs w g))) (place w g)
          ∙ sym (map-map (place w) (λ z. g) (filter (along false s) (steps (view xs w g))))
          ∙ ap₂ (λ x y. map (place w) (cond x [] (cond y (map (λ z. g) (filter (along false s) (steps (view xs w g)))) []))) (sym (ne_eqb g j n)) (sym (sym e ∙ k))))
          t

-- ---- exchanged or not, a face has the same entries along an edge

turned_copies : (p : Step → Bool) (c : ℕ) (s t u x y z : Step) → p x ≡ p u → p y ≡ p t → p z ≡ p s
    → map {B = ℕ} (λ q. c) (filter p (x ∷ y ∷ z ∷ [])) ≡ map {B = ℕ} (λ q. c) (filter p (s ∷ t ∷ u ∷ []))
unfolding filter
turned_copies p c s t u x y z e f g = rw (e, f, g) (go (p u) (p t) (p s))
  where
    go : (a b d : Bool)
        → map {B = ℕ} (λ q. c) (cond a (x ∷ cond b (y ∷ cond d (z ∷ []) []) (cond d (z ∷ []) [])) (cond b (y ∷ cond d (z ∷ []) []) (cond d (z ∷ []) [])))
        ≡ map {B = ℕ} (λ q. c) (cond d (s ∷ cond b (t ∷ cond a (u ∷ []) []) (cond a (u ∷ []) [])) (cond b (t ∷ cond a (u ∷ []) []) (cond a (u ∷ []) [])))
    go true true true = refl
    go true true false = refl
    go true false true = refl
    go true false false = refl
    go false true true = refl
    go false true false = refl
    go false false true = refl
    go false false false = refl

view_copies : (xs w : List ℕ) (s : Step) (f c : ℕ) → map {B = ℕ} (λ q. c) (filter (along false s) (steps (view xs w f))) ≡ map {B = ℕ} (λ q. c) (filter (along false s) (steps (face (faces_of xs) f)))
unfolding view
view_copies xs w s f c = go (straight w f) (face (faces_of xs) f)
  where
    back : (x y : ℕ) → along false s (step y x) ≡ along false s (step x y)
    back x y = unfold along in (ap (same (edge s)) (unfold opposite in edge_opposite (step x y)))

    go : (b : Bool) (v : Face) → map {B = ℕ} (λ q. c) (filter (along false s) (steps (cond b v (exchanged v)))) ≡ map {B = ℕ} (λ q. c) (filter (along false s) (steps v))
    go true v = refl
    go false v =
        unfold exchanged in
        turned_copies (along false s) c (step v.a v.b) (step v.b v.c) (step v.c v.a) (step v.a v.c) (step v.c v.b) (step v.b v.a)
        (back v.c v.a) (back v.b v.c) (back v.a v.b)

-- the entries that are met do not depend on what was exchanged
met_same : {w₀ w : List ℕ} → Kept w₀ w → (xs : List ℕ) (j : ℕ) (s : Step) (g : ℕ) → map (place w) (met_at xs w j s g) ≡ map (place w₀) (met_at xs w₀ j s g)
met_same {w₀} {w} k xs j s g =
    ap (λ (u : ℕ → ℕ). map u (met_at xs w j s g)) (λ i f. place_kept k f i)
    ∙ ap₂ (λ (q : ℕ → Bool) (l : List ℕ). map (place w₀) (cond (eqb g j) [] (cond (q g) l []))) k.stays (view_copies xs w s g g ∙ sym (view_copies xs w₀ s g g))

-- ---- all users of the edge

-- those of faces below k, but j
abbrev pub met_below : List ℕ → List ℕ → ℕ → Step → ℕ → List ℕ
met_below xs w j s k = filter (λ f. not (eqb f j)) (list_of (λ f. filter (along false s) (steps (view xs w f))) w k)

module _ (xs w : List ℕ) (j : ℕ) (s : Step) where
  abbrev ss : ℕ → List Step
  ss f = filter (along false s) (steps (view xs w f))

  one_met : (g : ℕ) (us : List Step) → filter (λ f. not (eqb f j)) (map (λ x. g) us) ≡ cond (eqb g j) [] (map (λ x. g) us)
  unfolding filter
  one_met g us = go (eqb g j) refl us
    where
      go : (b : Bool) → eqb g j ≡ b → (vs : List Step) → filter (λ f. not (eqb f j)) (map (λ x. g) vs) ≡ cond b [] (map (λ x. g) vs)
      go true e [] = refl
      go false e [] = refl
      go true e (v ∷ vs) = rw e (go true e vs)
      go false e (v ∷ vs) = rw e (ap (λ l. g ∷ l) (go false e vs))

  -- one face more
  met_next : (g : ℕ) → met_below xs w j s (suc g) ≡ met_below xs w j s g ++ met_at xs w j s g
  met_next g =
      ap (filter (λ f. not (eqb f j))) (list_next ss w g)
      ∙ filter_append (λ f. not (eqb f j)) (list_of ss w g) (cond (stands w g) (map (λ x. g) (ss g)) [])
      ∙ ap (λ l. met_below xs w j s g ++ l) (go (stands w g))
    where
      go : (b : Bool) → filter (λ f. not (eqb f j)) (cond b (map (λ x. g) (ss g)) []) ≡ cond (eqb g j) [] (cond b (map (λ x. g) (ss g)) [])
      go true = one_met g (ss g)
      go false = one_met g []

-- the users of those below g were met
pub record Crossed (xs w₀ : List ℕ) (h₀ : Hand) (j : ℕ) (s : Step) (w : List ℕ) (h : Hand) (g : ℕ) : Type 0 where
  pub most : g ≤ length w₀
  pub gives : WalkGives xs w₀ h₀ (through (pass4.meet s) (walk_of xs w₀ h₀) (map (place w₀) (met_below xs w₀ j s g))) w h

module _ {xs w₀ : List ℕ} {h₀ : Hand} {j : ℕ} (p : MeetAsks xs w₀ h₀ j) (a b : ℕ) where
  -- faces without both corners are passed over
  skipped : {from r : ℕ} → from ≤ r → CandidateGives xs a b from r → met_below xs w₀ j (step a b) r ≡ met_below xs w₀ j (step a b) from
  skipped {from} {r} h c = ap (filter (λ f. not (eqb f j))) (list_skip (λ f. filter (along false (step a b)) (steps (view xs w₀ f))) w₀ from r h (λ g l k. none_along xs w₀ false a b g (c.none g l k)))

  pub cross_begin : {r : ℕ} → CandidateGives xs a b 0 r → Crossed xs w₀ h₀ j (step a b) w₀ h₀ r
  cross_begin {r} c =
      record {
        most = omega (arith, p.ready.worded.long, c.most);
        gives = walk_as (ap (λ l. through (pass4.meet (step a b)) (walk_of xs w₀ h₀) (map (place w₀) l)) (sym (skipped (omega arith) c ∙ none))) (unfold through in (walk_none p.ready));
      }
    where
      none : met_below xs w₀ j (step a b) 0 ≡ []
      none = ap (filter (λ f. not (eqb f j))) (list_none (λ f. filter (along false (step a b)) (steps (view xs w₀ f))) w₀) ∙ (unfold filter in refl)

  module _ {w : List ℕ} {h : Hand} {g : ℕ} (v : Crossed xs w₀ h₀ j (step a b) w h g) where
    pub cross_ask : g < length w → FaceAsks xs w h g
    cross_ask l = record { ready = v.gives.ready; here = l }

    pub cross_again : g < length w → {w' : List ℕ} {h' : Hand} → FaceGives xs w h j g (step a b) w' h' → {r : ℕ} → CandidateGives xs a b (g + 1) r → Crossed xs w₀ h₀ j (step a b) w' h' r
    cross_again l m {r} c =
        record {
          most = omega (arith, p.ready.worded.long, c.most);
          gives = walk_as more (walk_then v.gives (λ u. through (pass4.meet (step a b)) u (map (place w) (met_at xs w j (step a b) g))) m);
        }
      where
        next : CandidateGives xs a b (suc g) r
        next = rw (add-one g) at c

        more : through (pass4.meet (step a b)) (through (pass4.meet (step a b)) (walk_of xs w₀ h₀) (map (place w₀) (met_below xs w₀ j (step a b) g))) (map (place w) (met_at xs w j (step a b) g))
            ≡ through (pass4.meet (step a b)) (walk_of xs w₀ h₀) (map (place w₀) (met_below xs w₀ j (step a b) r))
        more =
            sym (through_append (pass4.meet (step a b)) (walk_of xs w₀ h₀) (map (place w₀) (met_below xs w₀ j (step a b) g)) (map (place w) (met_at xs w j (step a b) g)))
            ∙ ap (through (pass4.meet (step a b)) (walk_of xs w₀ h₀))
            (ap (λ k. map (place w₀) (met_below xs w₀ j (step a b) g) ++ k) (met_same v.gives.kept xs j (step a b) g)
            ∙ sym (map-append (place w₀) (met_below xs w₀ j (step a b) g) (met_at xs w₀ j (step a b) g))
            ∙ ap (map (place w₀)) (sym (met_next xs w₀ j (step a b) g) ∙ sym (skipped (omega (arith, c.least)) next)))

    -- all of them
    pub cross_done : length w ≤ g → AcrossGives xs w₀ h₀ j (step a b) w h
    unfolding pass4.across
    cross_done l =
        let k = v.gives.kept.long in
        let e : g ≡ length w₀ = omega (arith, v.most) in
        walk_as (ap (λ x. through (pass4.meet (step a b)) (walk_of xs w₀ h₀) (map (place w₀) (met_below xs w₀ j (step a b) x))) e ∙ ap (through (pass4.meet (step a b)) (walk_of xs w₀ h₀)) (sym all)) v.gives
      where
        us : List ℕ
        us = takers_at (along false (step a b)) xs w₀ (length w₀)

        by_face : users (walk_of xs w₀ h₀).faces (edge (step a b)) ≡ map (place w₀) us
        by_face = unfold walk_of along in (users_takers (viewed xs w₀) (edge (step a b)) ∙ takers_place (along false (step a b)) xs w₀)

        all : filter (λ n. not (eqb n (place w₀ j))) (users (walk_of xs w₀ h₀).faces (edge (step a b))) ≡ map (place w₀) (met_below xs w₀ j (step a b) (length w₀))
        all =
            ap (filter (λ n. not (eqb n (place w₀ j)))) by_face
            ∙ filter_map (λ n. not (eqb n (place w₀ j))) (place w₀) us
            ∙ ap (map (place w₀))
            (filter_agree (λ f. not (eqb (place w₀ f) (place w₀ j))) (λ f. not (eqb f j)) us
            (all_imp (Standing w₀) (λ f. not (eqb (place w₀ f) (place w₀ j)) ≡ not (eqb f j)) (λ f t. ap not (eqb_place w₀ f j t.1 p.up)) us
            (list_all (λ f. filter (along false (step a b)) (steps (view xs w₀ f))) w₀ (length w₀))))
