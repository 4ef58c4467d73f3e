-- The rules' marks of the faces that stand, by faces. Assumes nothing.
use mathlib.Core.Path.{◌≡◌, refl, sym, ap, subst, ◌∙◌}
use mathlib.Core.Bool.{Bool, true, false, not, ◌&&◌, ◌||◌, cond}
use mathlib.Core.List.{List, [], ◌∷◌, map, Memᴰ}
use Prim.Native.Nat.{ℕ, ◌+◌, ◌*◌, ◌/◌, ◌≤◌, ◌<◌}
use native.Mathlib.Omega.{arith}
use borrow.Author.Tests.{lt-ltb, le-ltb}
use lib.Dec.{T, ltb, ltb→lt}
use lib.ListN.{length, get_or, length-map}
use lib.Ieee.{Float}
use Rattle.rules.specs.Float.{quality}
use Rattle.std.specs.Prelude.{Option, None, Some}
use Rattle.rules.specs.Lists.{below, filter, any, has}
use Rattle.rules.specs.Mesh.{Face, face, faces_of, points_of, exchanged}
use Rattle.rules.specs.Steps.{Step, step, steps, edge, users, walkers, walks, quality_of}
use Rattle.rules.specs.Rank.{best, without}
use Rattle.rules.specs.Pass3.{kept, marked3}
use Rattle.rules.specs.Pass4.{marked4}
use Rattle.rule_laws.proofs.Flat.{face_at, length_points}
use Rattle.rule_laws.proofs.Rising.{All, all_imp, all_map}
use Rattle.rule_laws.proofs.Tests.{both_ways}
use Rattle.rule_laws.proofs.Members.{mem_each, mem_each_of, mem_filter, mem_below, has_mem, mem_has, some_length, any_intro, any_mem}
use Rattle.rule_laws.proofs.Once.{Inside, CornersBelow}
use Rattle.rule_laws.proofs.Takers.{users_takers, walkers_takers}
use Rattle.rank.proofs.RankLaws.{pick_some}
use Rattle.face_words.specs.Words.{stands, straight, view, there, viewed, place, every_face}
use Rattle.face_words.specs.Views.{seen_as}
use Rattle.face_words.specs.declared.Corners.{Corners}
use Rattle.face_words.proofs.Places.{there_all, viewed_face, place_in, every_face_is, takers_place}
use Rattle.face_words.proofs.Ranking.{Standing, place_keeps, has_map, without_map, without_all, best_map, best_in, kept_map}
use Rattle.entry_search.specs.Searching.{along}
use Rattle.entry_search.specs.Choosing.{number_or, wanted, admits, users_at, value_at, kept_at, BestAsks, BestGives, KeptAsks}
use Rattle.entry_search.proofs.Entries.{list_of, same_self}
use Rattle.entry_search.proofs.Keeping.{list_all, wanted_all, wanted_without}
use Rattle.searched_marks.specs.Marks.{mark_at, lost_at_edge, walkers_at, lost_at_step, FaceAsks, StepAsks}
use Rattle.searched_marks.proofs.Own.{lost3, lost4, marked3_own, marked4_own, mem_same}

-- ---- the faces over their points

module _ {ps : List Float} {xs w : List ℕ} (p : BestAsks ps xs w) where
  -- the corners of a face are points
  pub view_inside : (f : ℕ) → f < length w → CornersBelow (length (points_of ps)) (view xs w f)
  unfolding view exchanged
  view_inside f h = rw (length_points ps) (go (straight w f))
    where
      at_a : get_or xs (3 * f) 0 < length ps / 3
      at_a = p.inside (3 * f) (omega (arith, p.worded))

      at_b : get_or xs (3 * f + 1) 0 < length ps / 3
      at_b = p.inside (3 * f + 1) (omega (arith, p.worded))

      at_c : get_or xs (3 * f + 2) 0 < length ps / 3
      at_c = p.inside (3 * f + 2) (omega (arith, p.worded))

      input : face (faces_of xs) f ≡ record { a = get_or xs (3 * f) 0; b = get_or xs (3 * f + 1) 0; c = get_or xs (3 * f + 2) 0; origin = f }
      input = face_at xs f (omega (arith, p.worded))

      go : (s : Bool) → CornersBelow (length ps / 3) (cond s (face (faces_of xs) f) (exchanged (face (faces_of xs) f)))
      go true = rw input (at_a, at_b, at_c)
      go false = rw input (at_a, at_c, at_b)

  -- of all that stand
  pub viewed_inside : Inside (length (points_of ps)) (viewed xs w)
  viewed_inside =
      all_map (CornersBelow (length (points_of ps))) (view xs w) (there w (length w))
      (all_imp (λ f. (f < length w) × T (stands w f)) (λ f. CornersBelow (length (points_of ps)) (view xs w f)) (λ f h. view_inside f h.0) (there w (length w)) (there_all w (length w)))

module _ (ps : List Float) (xs w : List ℕ) where
  -- a face has its quality at its place
  value_place : (x : ℕ) → Standing w x → quality_of (points_of ps) (viewed xs w) (place w x) ≡ value_at ps xs w x
  unfolding quality_of
  value_place x s = ap (quality (points_of ps)) (viewed_face xs w x s.0 s.1 ∙ sym (every_face_is xs w x s.0))

  face_place : (x : ℕ) → Standing w x → face (viewed xs w) (place w x) ≡ face (every_face xs w) x
  face_place x s = viewed_face xs w x s.0 s.1 ∙ sym (every_face_is xs w x s.0)

  -- the users and the walkers, by faces
  users_place : (s : Step) → users (viewed xs w) (edge s) ≡ map (place w) (users_at xs w s)
  unfolding along
  users_place s = users_takers (viewed xs w) (edge s) ∙ takers_place (along false s) xs w

  walkers_place : (s : Step) → walkers (viewed xs w) s ≡ map (place w) (walkers_at xs w s)
  unfolding along
  walkers_place s = walkers_takers (viewed xs w) s ∙ takers_place (along true s) xs w

  module _ (f : ℕ) (s : Standing w f) where
    -- who is lost at an edge
    edge_place : (t : Step) → lost3 (points_of ps) (viewed xs w) (place w f) (edge t) ≡ lost_at_edge ps xs w f t
    edge_place t = rw (users_place t, length-map (users_at xs w t) (place w)) (go (ltb 2 (length (users_at xs w t))) refl)
      where
        us : List ℕ
        us = users_at xs w t

        go : (b : Bool) → ltb 2 (length (users_at xs w t)) ≡ b
            → (b && not (kept (quality_of (points_of ps) (viewed xs w)) (viewed xs w) (edge t) (map (place w) (users_at xs w t)) (place w f))) ≡ (b && not (kept_at ps xs w t f))
        go false e = refl
        go true e =
            ap not
            (kept_map (place_keeps w) (quality_of (points_of ps) (viewed xs w)) (value_at ps xs w) value_place (viewed xs w) (every_face xs w) face_place (edge t) (users_at xs w t) f
            (let l = ltb→lt 2 (length (users_at xs w t)) (subst T (sym e) tt) in omega arith) s
            (list_all (λ g. filter (along false t) (steps (view xs w g))) w (length w)))

    -- who is lost at a step
    lost_map : (us : List ℕ) → All (Standing w) us
        → has (place w f) (without (best (quality_of (points_of ps) (viewed xs w)) (map (place w) us)) (map (place w) us)) ≡ has f (without (best (value_at ps xs w) us) us)
    lost_map [] a = unfold has any without in refl
    lost_map (u ∷ us) a =
        let q = quality_of (points_of ps) (viewed xs w) in
        let b = best (value_at ps xs w) (u ∷ us) in
        let i : Standing w b = best_in (place_keeps w) q (value_at ps xs w) value_place (u ∷ us) (omega arith) a in
        ap (λ x. has (place w f) (without x (map (place w) (u ∷ us)))) (best_map (place_keeps w) q (value_at ps xs w) value_place (u ∷ us) a)
        ∙ ap (has (place w f)) (without_map (place_keeps w) b (u ∷ us) i a)
        ∙ has_map (place_keeps w) f (without b (u ∷ us)) s (without_all (place_keeps w) b (u ∷ us) a)

    step_place : (t : Step) → lost4 (points_of ps) (viewed xs w) (place w f) t ≡ lost_at_step ps xs w f t
    step_place t = rw (walkers_place t) (lost_map (walkers_at xs w t) (list_all (λ g. filter (along true t) (steps (view xs w g))) w (length w)))

-- ---- the mark of a face

-- a test of each of three
any_three : (q : Step → Bool) (v : Face) → any q (steps v) ≡ (q (step v.a v.b) || (q (step v.b v.c) || (q (step v.c v.a) || false)))
unfolding any
any_three q v = refl

or_last : (b : Bool) → b ≡ (b || false)
or_last true = refl
or_last false = refl

-- the mark is a test of the three steps, made one after the other
module _ {mark : Bool} (q : Step → Bool) (v : Face) (e : mark ≡ any q (steps v)) {x : Bool} (ex : x ≡ q (step v.a v.b)) where
  pub by_first : x ≡ true → true ≡ mark
  by_first h = sym (e ∙ any_three q v ∙ rw (← ex, h))

  module _ (nx : x ≡ false) {y : Bool} (ey : y ≡ q (step v.b v.c)) where
    pub by_second : y ≡ true → true ≡ mark
    by_second h = sym (e ∙ any_three q v ∙ rw (← ex, nx, ← ey, h))

    pub by_third : y ≡ false → {z : Bool} → z ≡ q (step v.c v.a) → z ≡ mark
    by_third ny {z} ez = or_last z ∙ sym (e ∙ any_three q v ∙ rw (← ex, nx, ← ey, ny, ← ez))

-- a test that is turned
pub not_up : (r : Bool) → not r ≡ true → r ≡ false
not_up true e = sym e
not_up false e = refl

pub not_down : (r : Bool) → not r ≡ false → r ≡ true
not_down true e = refl
not_down false e = sym e

-- a face that is gone is not marked
pub gone_unmarked : (m : List Face → ℕ → Bool) (xs w : List ℕ) (f : ℕ) {r : Bool} → r ≡ stands w f → r ≡ false → false ≡ mark_at m xs w f
unfolding mark_at
gone_unmarked m xs w f e k = rw (← e, k)

module _ {ps : List Float} {xs w : List ℕ} {f : ℕ} (p : FaceAsks ps xs w f) {r : Bool} (e : r ≡ stands w f) (k : r ≡ true) {g : Corners} (seen : seen_as g f ≡ view xs w f) where
  pub upright : T (stands w f)
  upright = subst T (sym (sym e ∙ k)) tt

  -- in pass 3
  pub mark3_is : mark_at (marked3 (points_of ps)) xs w f ≡ any (lost_at_edge ps xs w f) (steps (seen_as g 0))
  unfolding mark_at
  mark3_is =
      ap (λ b. b && marked3 (points_of ps) (viewed xs w) (place w f)) (sym e ∙ k)
      ∙ marked3_own (points_of ps) (viewed xs w) (place w f) (viewed_inside p.asks) (place_in xs w f p.here upright)
      ∙ ap (λ v. any (λ s. lost3 (points_of ps) (viewed xs w) (place w f) (edge s)) (steps v)) (viewed_face xs w f p.here upright ∙ sym seen)
      ∙ ap (λ (q : Step → Bool). any q (steps (seen_as g 0))) (λ i s. edge_place ps xs w f (p.here, upright) s i)

  -- in pass 4
  pub mark4_is : mark_at (marked4 (points_of ps)) xs w f ≡ any (lost_at_step ps xs w f) (steps (seen_as g 0))
  unfolding mark_at
  mark4_is =
      ap (λ b. b && marked4 (points_of ps) (viewed xs w) (place w f)) (sym e ∙ k)
      ∙ marked4_own (points_of ps) (viewed xs w) (place w f) (viewed_inside p.asks) (place_in xs w f p.here upright)
      ∙ ap (λ v. any (lost4 (points_of ps) (viewed xs w) (place w f)) (steps v)) (viewed_face xs w f p.here upright ∙ sym seen)
      ∙ ap (λ (q : Step → Bool). any q (steps (seen_as g 0))) (λ i s. step_place ps xs w f (p.here, upright) s i)

  -- a step of its own
  pub own_step : (t : Step) → Memᴰ t (steps (seen_as g 0)) → StepAsks ps xs w g f t
  unfolding along
  own_step t m =
      record {
        face = p;
        there = upright;
        seen = seen;
        own = subst (λ v. T (any (along true t) (steps v))) seen (any_intro (along true t) t (steps (seen_as g 0)) m (same_self t));
      }

-- ---- one edge

module _ {ps : List Float} {xs w : List ℕ} {f : ℕ} (p : FaceAsks ps xs w f) (t : Step) {n : ℕ} (e : n ≡ length (users_at xs w t)) where
  pub kept_ok : 2 < n → KeptAsks ps xs w t
  kept_ok h = record { asks = p.asks; two = omega arith }

  pub few_lose : n ≤ 2 → false ≡ lost_at_edge ps xs w f t
  few_lose h = sym (ap (λ b. b && not (kept_at ps xs w t f)) (le-ltb 2 (length (users_at xs w t)) (omega arith)))

  pub crowd_loses : 2 < n → {r : Bool} → r ≡ kept_at ps xs w t f → not r ≡ lost_at_edge ps xs w f t
  crowd_loses h k = ap not k ∙ sym (ap (λ b. b && not (kept_at ps xs w t f)) (lt-ltb 2 (length (users_at xs w t)) (omega arith)))

-- ---- one step

-- a face has an entry where it has a step
pub list_has : (ss : ℕ → List Step) (w : List ℕ) (k f : ℕ) → f < k → T (stands w f) → has f (list_of ss w k) ≡ ltb 0 (length (ss f))
list_has ss w k f h t =
    both_ways (has f (list_of ss w k)) (ltb 0 (length (ss f)))
    (λ q.
    let r = mem_each_of (λ g. map (λ s. g) (ss g)) f (there w k) (has_mem f (list_of ss w k) q) in
    let u = mem_same f r.0 (ss r.0) r.2 in
    let l : 0 < length (ss r.0) = some_length u.1 (ss r.0) u.2 in
    subst T (sym (lt-ltb 0 (length (ss f)) (subst (λ g. 0 < length (ss g)) (sym u.0) l))) tt)
    (λ q.
    mem_has f (list_of ss w k)
    (mem_each (λ g. map (λ s. g) (ss g)) f f (there w k) (mem_filter (stands w) f (below k) (mem_below f k h) t)
    (one (ss f) (ltb→lt 0 (length (ss f)) q))))
  where
    one : (us : List Step) → 0 < length us → Memᴰ f (map (λ s. f) us)
    one [] l = absurd (omega arith)
    one (u ∷ us) l = Memᴰ.head refl

module _ {ps : List Float} {xs w : List ℕ} {g : Corners} {f : ℕ} {t : Step} (p : StepAsks ps xs w g f t) where
  abbrev ss : ℕ → List Step
  ss j = filter (along true t) (steps (view xs w j))

  walkers_some : 0 < length (walkers_at xs w t)
  walkers_some =
      let r = any_mem (along true t) (steps (view xs w f)) p.own in
      let l : 0 < length (ss f) = some_length r.0 (ss f) (mem_filter (along true t) r.0 (steps (view xs w f)) r.1 r.2) in
      some_length f (walkers_at xs w t) (has_mem f (walkers_at xs w t) (subst T (sym (list_has ss w (length w) f p.face.here p.there ∙ lt-ltb 0 (length (ss f)) l)) tt))

  -- the first in rank is a face
  first_is : {o : Option ℕ} → BestGives ps xs w true t None None o → (number_or (length w) o ≡ best (value_at ps xs w) (walkers_at xs w t)) × (number_or (length w) o < length w)
  first_is b =
      rw (b.picked, wanted_all xs w true t)
      (pick_some (length w) (value_at ps xs w) (walkers_at xs w t)
      (all_imp (Standing w) (λ x. x < length w) (λ x h. h.0) (walkers_at xs w t) (list_all ss w (length w))) walkers_some)

  pub step_lost : (o : Option ℕ) → BestGives ps xs w true t None None o → {r : Bool} → r ≡ admits None o true t (seen_as g 0) f → r ≡ lost_at_step ps xs w f t
  unfolding admits wanted filter walks
  step_lost None b e = absurd (omega (arith, (first_is b).1))
  step_lost (Some first) b e =
      e
      ∙ ap (λ v. admits None (Some first) true t v f) p.seen
      ∙ sym (list_has (λ j. wanted None (Some first) true t (view xs w j) j) w (length w) f p.face.here p.there)
      ∙ ap (has f) (wanted_without xs w true t first)
      ∙ ap (λ x. has f (without x (walkers_at xs w t))) (first_is b).0
