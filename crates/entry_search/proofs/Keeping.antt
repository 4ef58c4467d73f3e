-- Who is kept at an edge, by what is picked of its entries: all, those that walk otherwise, all but one. Assumes nothing.
use mathlib.Core.Path.{◌≡◌, refl, sym, ap, ap₂, subst, ◌∙◌}
use mathlib.Core.Bool.{Bool, true, false, not, beq, cond, not-not}
use mathlib.Core.List.{List, [], ◌∷◌, ◌++◌, map}
use Prim.Native.Nat.{ℕ, suc, ◌<◌, min, max}
use native.Mathlib.Omega.{arith}
use native.Mathlib.Decide.{ℕ_discrete}
use borrow.Author.Tests.{eq-eqb, ne_eqb}
use lib.Dec.{T, eqb}
use lib.ListN.{length, drop}
use lib.Ieee.{Float}
use Rattle.std.specs.Prelude.{Option, None, Some, IsSome}
use Rattle.rules.specs.Lists.{below, filter, each}
use Rattle.rules.specs.Mesh.{face}
use Rattle.rules.specs.Steps.{Step, step, steps, edge, walks}
use Rattle.rules.specs.Rank.{best, without}
use Rattle.rules.specs.Pass3.{kept}
use Rattle.rule_laws.proofs.Rising.{All, all_imp, all_map, all_each, all_filter, Up, stay_up}
use Rattle.rule_laws.proofs.Members.{in_all}
use Rattle.rank.specs.Ranks.{pick}
use Rattle.rank.proofs.RankLaws.{pick_some, second_some, second_none, all_without, without_long}
use Rattle.face_words.specs.Words.{stands, view, there, every_face}
use Rattle.face_words.specs.Views.{seen_as}
use Rattle.face_words.specs.declared.Corners.{Corners}
use Rattle.face_words.proofs.Places.{there_all, every_face_is, each_agree, filter_each}
use Rattle.entry_search.specs.Searching.{along}
use Rattle.entry_search.specs.Choosing.{number_or, wanted, wanted_at, users_at, value_at, second_at, kept_at, BestGives, SecondAsks, KeptAsks}
use Rattle.entry_search.proofs.Entries.{list_of}

-- ---- the entries as a list

-- they are of faces that stand
pub list_all : (ss : ℕ → List Step) (w : List ℕ) (k : ℕ) → All (λ x. (x < k) × T (stands w x)) (list_of ss w k)
list_all ss w k =
    all_each Q (λ f. map (λ s. f) (ss f)) (there w k)
    (all_imp Q (λ f. All Q (map (λ s. f) (ss f))) (λ f h. all_map Q (λ s. f) (ss f) (in_all (λ s. Q f) (ss f) (λ s m. h))) (there w k) (there_all w k))
  where
    Q : ℕ → Type 0
    Q x = (x < k) × T (stands w x)

-- lists of entries that agree face by face
list_agree : (ss tt : ℕ → List Step) (w : List ℕ) (k : ℕ) → ((f : ℕ) → f < k → ss f ≡ tt f) → list_of ss w k ≡ list_of tt w k
list_agree ss tt w k h =
    each_agree (λ f. map (λ s. f) (ss f)) (λ f. map (λ s. f) (tt f)) (there w k)
    (all_imp (λ f. (f < k) × T (stands w f)) (λ f. map (λ s. f) (ss f) ≡ map (λ s. f) (tt f)) (λ f l. ap (map (λ s. f)) (h f l.0)) (there w k) (there_all w k))

-- a test on the face keeps all of its entries or none
list_filter : (p : ℕ → Bool) (ss : ℕ → List Step) (w : List ℕ) (k : ℕ) → filter p (list_of ss w k) ≡ list_of (λ f. cond (p f) (ss f) []) w k
unfolding filter
list_filter p ss w k = filter_each p (λ f. map (λ s. f) (ss f)) (there w k) ∙ ap (λ (h : ℕ → List ℕ). each h (there w k)) (λ i f. one f (ss f) i)
  where
    all_of : (f : ℕ) (us : List Step) → p f ≡ true → filter p (map (λ s. f) us) ≡ map (λ s. f) us
    all_of f [] e = refl
    all_of f (u ∷ us) e = (ap₂ (λ (b : Bool) (l : List ℕ). cond b (f ∷ l) (filter p (map (λ s. f) us))) e (all_of f us e))

    none_of : (f : ℕ) (us : List Step) → p f ≡ false → filter p (map (λ s. f) us) ≡ []
    none_of f [] e = refl
    none_of f (u ∷ us) e = (ap (λ (b : Bool). cond b (f ∷ filter p (map (λ s. f) us)) (filter p (map (λ s. f) us))) e ∙ none_of f us e)

    one : (f : ℕ) (us : List Step) → filter p (map (λ s. f) us) ≡ map (λ s. f) (cond (p f) us [])
    one f us = go (p f) refl
      where
        go : (b : Bool) → p f ≡ b → filter p (map (λ s. f) us) ≡ map (λ s. f) (cond b us [])
        go true e = all_of f us e
        go false e = none_of f us e

-- ---- the list without one entry of a face

-- no entry of the face
pub absent : (one : ℕ) (us : List ℕ) → All (λ x. one ≡ x → ⊥) us → without one us ≡ us
unfolding without
absent one [] a = refl
absent one (u ∷ us) a = rw (ne_eqb one u a.0, absent one us a.1)

-- entries of other faces in front
without_behind : (one f : ℕ) → (one ≡ f → ⊥) → (us : List Step) (vs : List ℕ) → without one (map (λ s. f) us ++ vs) ≡ map (λ s. f) us ++ without one vs
unfolding without
without_behind one f n [] vs = refl
without_behind one f n (u ∷ us) vs = rw (ne_eqb one f n, without_behind one f n us vs)

module _ (one : ℕ) (ss : ℕ → List Step) where
  abbrev fewer : ℕ → List Step
  fewer f = cond (eqb f one) (drop 1 (ss f)) (ss f)

  -- of other faces nothing leaves
  same_entries : (fs : List ℕ) → All (λ f. one ≡ f → ⊥) fs → each (λ f. map (λ s. f) (fewer f)) fs ≡ each (λ f. map (λ s. f) (ss f)) fs
  same_entries fs a =
      each_agree (λ f. map (λ s. f) (fewer f)) (λ f. map (λ s. f) (ss f)) fs
      (all_imp (λ f. one ≡ f → ⊥) (λ f. map (λ s. f) (fewer f) ≡ map (λ s. f) (ss f)) (λ f n. ap (λ b. map (λ s. f) (cond b (drop 1 (ss f)) (ss f))) (ne_eqb f one (λ e. n (sym e)))) fs a)

  no_entry : (fs : List ℕ) → All (λ f. one ≡ f → ⊥) fs → All (λ x. one ≡ x → ⊥) (each (λ f. map (λ s. f) (ss f)) fs)
  no_entry fs a =
      all_each (λ x. one ≡ x → ⊥) (λ f. map (λ s. f) (ss f)) fs
      (all_imp (λ f. one ≡ f → ⊥) (λ f. All (λ x. one ≡ x → ⊥) (map (λ s. f) (ss f))) (λ f n. all_map (λ x. one ≡ x → ⊥) (λ s. f) (ss f) (in_all (λ s. one ≡ f → ⊥) (ss f) (λ s m. n))) fs a)

  up_all : (a : ℕ) (fs : List ℕ) → one < a → Up a fs → All (λ f. one ≡ f → ⊥) fs
  up_all a [] h u = tt
  up_all a (f ∷ fs) h u = (λ e. absurd (omega (arith, u.0)), up_all (suc f) fs (omega (arith, u.0)) u.1)

  -- of faces that rise the first entry of one leaves
  without_each : (a : ℕ) (fs : List ℕ) → Up a fs → without one (each (λ f. map (λ s. f) (ss f)) fs) ≡ each (λ f. map (λ s. f) (fewer f)) fs
  unfolding each
  without_each a [] u = unfold without in refl
  without_each a (f ∷ fs) u = go (ℕ_discrete one f) (without_each (suc f) fs u.1)
    where
      first_leaves : (us : List Step) (vs : List ℕ) → one ≡ f → without one vs ≡ vs → without one (map (λ s. f) us ++ vs) ≡ map (λ s. f) (drop 1 us) ++ vs
      first_leaves [] vs e h = h
      first_leaves (s ∷ us) vs e h = unfold without in (ap (λ (b : Bool). cond b (map (λ x. f) us ++ vs) (f ∷ without one (map (λ x. f) us ++ vs))) (eq-eqb one f e))

      go : Dec (one ≡ f) → without one (each (λ g. map (λ s. g) (ss g)) fs) ≡ each (λ g. map (λ s. g) (fewer g)) fs
          → without one (map (λ s. f) (ss f) ++ each (λ g. map (λ s. g) (ss g)) fs) ≡ map (λ s. f) (fewer f) ++ each (λ g. map (λ s. g) (fewer g)) fs
      go (yes e) r =
          let n = up_all (suc f) fs (omega arith) u.1 in
          first_leaves (ss f) (each (λ g. map (λ s. g) (ss g)) fs) e (absent one (each (λ g. map (λ s. g) (ss g)) fs) (no_entry fs n))
          ∙ ap₂ (λ k l. k ++ l) (ap (λ b. map (λ s. f) (cond b (drop 1 (ss f)) (ss f))) (sym (eq-eqb f one (sym e)))) (sym (same_entries fs n))
      go (no n) r =
          without_behind one f n (ss f) (each (λ g. map (λ s. g) (ss g)) fs)
          ∙ ap₂ (λ k l. k ++ l) (ap (λ b. map (λ s. f) (cond b (drop 1 (ss f)) (ss f))) (sym (ne_eqb f one (λ e. n (sym e))))) r

-- the faces that stand rise
there_up : (w : List ℕ) (k : ℕ) → Up 0 (there w k)
there_up w k = subst (λ (p : ℕ → Bool). Up 0 (filter p (below k))) (λ i f. not-not (stands w f) i) (stay_up (λ f. not (stands w f)) k)

-- ---- what is picked

module _ (xs w : List ℕ) (d : Bool) (t : Step) where
  abbrev ss : ℕ → List Step
  ss f = filter (along d t) (steps (view xs w f))

  -- all entries
  pub wanted_all : wanted_at None None d t xs w (length w) ≡ list_of ss w (length w)
  unfolding wanted
  wanted_all = refl

  -- all but one of a face
  pub wanted_without : (one : ℕ) → wanted_at None (Some one) d t xs w (length w) ≡ without one (list_of ss w (length w))
  unfolding wanted
  wanted_without one = sym (without_each one ss 0 (there w (length w)) (there_up w (length w)))

  -- those that walk otherwise than `forward`
  pub wanted_other :
      (forward : Bool)
      → wanted_at (Some (not forward)) None d t xs w (length w) ≡ filter (λ j. not (beq (walks (face (every_face xs w) j) (edge t)) forward)) (list_of ss w (length w))
  unfolding wanted
  wanted_other forward =
      list_agree (λ f. wanted (Some (not forward)) None d t (view xs w f) f) (λ f. cond (not (beq (walks (face (every_face xs w) f) (edge t)) forward)) (ss f) []) w (length w)
      (λ f h. rw (every_face_is xs w f h) (go forward (walks (view xs w f) (edge t)) (ss f)))
      ∙ sym (list_filter (λ j. not (beq (walks (face (every_face xs w) j) (edge t)) forward)) ss w (length w))
    where
      go : (x y : Bool) (us : List Step) → cond (beq y (not x)) us [] ≡ cond (not (beq y x)) us []
      go true true us = refl
      go true false us = refl
      go false true us = refl
      go false false us = refl

-- the entries are of faces
users_in : (xs w : List ℕ) (t : Step) → All (λ x. x < length w) (users_at xs w t)
users_in xs w t =
    all_imp (λ x. (x < length w) × T (stands w x)) (λ x. x < length w) (λ x h. h.0) (users_at xs w t)
    (list_all (λ f. filter (along false t) (steps (view xs w f))) w (length w))

-- a number below F is one
number_some : {F : ℕ} (o : Option ℕ) → number_or F o < F → IsSome o
number_some None h = absurd (omega arith)
number_some (Some f) h = refl

-- ---- the first choice

module _ {ps : List Float} {xs w : List ℕ} {t : Step} (p : KeptAsks ps xs w t) {o : Option ℕ} (g : BestGives ps xs w false t None None o) where
  first_pick : number_or (length w) o ≡ pick (length w) (value_at ps xs w) (length w) (users_at xs w t)
  first_pick = g.picked ∙ ap (pick (length w) (value_at ps xs w) (length w)) (wanted_all xs w false t)

  first_is : number_or (length w) o ≡ best (value_at ps xs w) (users_at xs w t)
  first_is = first_pick ∙ (pick_some (length w) (value_at ps xs w) (users_at xs w t) (users_in xs w t) (omega (arith, p.two))).0

  first_here : number_or (length w) o < length w
  first_here = rw (← first_pick) at (pick_some (length w) (value_at ps xs w) (users_at xs w t) (users_in xs w t) (omega (arith, p.two))).1

  -- there is one
  pub first_some : IsSome o
  first_some = number_some o first_here

  module _ {one : ℕ} (s : o ≡ Some one) where
    pub second_ok : SecondAsks ps xs w t one
    second_ok = record { asks = p.asks; two = p.two; here = rw s at first_here }

    one_is : one ≡ best (value_at ps xs w) (users_at xs w t)
    one_is = rw s at first_is

    pub kept_first : (f : ℕ) → f ≡ one → true ≡ kept_at ps xs w t f
    unfolding kept
    kept_first f e = rw (← one_is, eq-eqb f one e)

    pub kept_second : (f : ℕ) → (f ≡ one → ⊥) → {two : ℕ} → two ≡ second_at ps xs w t one → eqb f two ≡ kept_at ps xs w t f
    unfolding kept
    kept_second f n e = rw (← one_is, ne_eqb f one n, e)

-- ---- the second choice

module _ {ps : List Float} {xs w : List ℕ} {t : Step} {one : ℕ} (p : SecondAsks ps xs w t one) where
  abbrev os : Bool → List ℕ
  os forward = filter (λ j. not (beq (walks (face (every_face xs w) j) (edge t)) forward)) (users_at xs w t)

  os_in : (forward : Bool) → All (λ x. x < length w) (os forward)
  os_in forward =
      all_imp (λ x. (x < length w) × T (not (beq (walks (face (every_face xs w) x) (edge t)) forward))) (λ x. x < length w) (λ x h. h.0) (os forward)
      (all_filter (λ x. x < length w) (λ j. not (beq (walks (face (every_face xs w) j) (edge t)) forward)) (users_at xs w t) (users_in xs w t))

  -- the walk that the first choice's face makes
  pub walk_of : {g : Corners} → seen_as g one ≡ view xs w one → {lo hi : ℕ} → lo ≡ min t.from t.to → hi ≡ max t.from t.to → {r : Bool} → r ≡ walks (seen_as g 0) (step lo hi)
      → r ≡ walks (face (every_face xs w) one) (edge t)
  unfolding edge walks
  walk_of {g} s el eh e = e ∙ rw (el, eh, every_face_is xs w one p.here, ← s)

  -- there is one of the rest
  pub rest_some : {r : Option ℕ} → BestGives ps xs w false t None (Some one) r → IsSome r
  rest_some {r} k =
      let a = all_without (λ x. x < length w) one (users_at xs w t) (users_in xs w t) in
      number_some {F = length w} r (
      rw (k.picked, wanted_without xs w false t one)
      (pick_some (length w) (value_at ps xs w) (without one (users_at xs w t)) a (omega (arith, p.two, without_long one (users_at xs w t)))).1
      )

  module _ {forward : Bool} (ef : forward ≡ walks (face (every_face xs w) one) (edge t)) {o : Option ℕ} (g : BestGives ps xs w false t (Some (not forward)) None o) where
    others_pick : number_or (length w) o ≡ pick (length w) (value_at ps xs w) (length w) (os (walks (face (every_face xs w) one) (edge t)))
    others_pick = rw (← ef) (g.picked ∙ ap (pick (length w) (value_at ps xs w) (length w)) (wanted_other xs w false t forward))

    -- some walk otherwise
    pub some : {f : ℕ} → o ≡ Some f → f ≡ second_at ps xs w t one
    some {f} e =
        second_some (length w) (value_at ps xs w) one (users_at xs w t) (users_in xs w t) p.two (os (walks (face (every_face xs w) one) (edge t)))
        (os_in (walks (face (every_face xs w) one) (edge t))) f (rw e at others_pick) (rw e at g.here)

    -- none does
    pub rest : o ≡ None → {r : Option ℕ} → BestGives ps xs w false t None (Some one) r → {f : ℕ} → r ≡ Some f → f ≡ second_at ps xs w t one
    rest n {r} k {f} e =
        rw e at k.picked
        ∙ ap (pick (length w) (value_at ps xs w) (length w)) (wanted_without xs w false t one)
        ∙ second_none (length w) (value_at ps xs w) one (users_at xs w t) (users_in xs w t) p.two (os (walks (face (every_face xs w) one) (edge t)))
        (os_in (walks (face (every_face xs w) one) (edge t))) (length w) (rw n at others_pick) (omega arith)
