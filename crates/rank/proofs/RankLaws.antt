-- Laws of ranking: what the scans compute is what the rules say. Assumes nothing.
use mathlib.Core.Path.{◌≡◌, refl, sym, ap, ◌∙◌}
use mathlib.Core.Bool.{Bool, true, false, not, ◌||◌, beq, cond, true≢false}
use mathlib.Core.List.{List, [], ◌∷◌, ◌++◌, append-nil, map-append}
use Prim.Native.Nat.{ℕ, zero, suc, ◌+◌, ◌*◌, ◌-◌, ◌/◌, ◌≤◌, ◌<◌, suc-le-suc}
use native.Mathlib.Omega.{arith}
use native.Mathlib.Numerals.{add-one}
use native.Mathlib.Nat.{not-suc-le-zero, le_of_suc-le-suc}
use borrow.Author.Tests.{eq-eqb, ne_eqb, eqb-true, ltb-true, ltb-false}
use Rattle.std.specs.List.{position, position_or_len}
use Rattle.std.specs.Option.{unwrap_or}
use Rattle.std.proofs.lemmas.Option.{cond_some, none-some}
use lib.Dec.{eqb, ltb}
use lib.ListN.{length, get_or, take, drop, length-map, length-take, length-drop}
use lib.Seq.{take-suc, take_all, length-take-le, get_or-take, get_or-drop}
use lib.Ieee.{Float}
use Rattle.rules.specs.Lists.{filter, any, first, through}
use Rattle.rules.specs.Mesh.{Face, face, faces_of}
use Rattle.rules.specs.Steps.{Step, step, same, walks}
use Rattle.rules.specs.Rank.{outranks, better, best, without}
use Rattle.rules.specs.Pass3.{second}
use Rattle.rule_laws.proofs.Lists.{filter_append, through_append}
use Rattle.rule_laws.proofs.Flat.{face_at}
use Rattle.rule_laws.proofs.Rising.{All}
use Rattle.rank.specs.Ranks.{faces_in, count, above, better_or, pick, others, face_or, RankAsks}
use Rattle.std.specs.Prelude.{Option, Some, None, IsSome}
use Rattle.rank.specs.declared.Choice.{Choice}

module _ (F : ℕ) (q : ℕ → Float) where
  -- the first one is taken
  pub better_none : (b j : ℕ) → b ≡ F → j ≡ better_or F q b j
  unfolding better_or
  better_none b j e = rw (eq-eqb b F e)

  -- one after another is compared
  pub better_some : (b j : ℕ) → (b ≡ F → ⊥) → (r : Bool) → r ≡ above (q j) j (q b) b → cond r j b ≡ better_or F q b j
  unfolding better_or better outranks
  better_some b j n r e = rw (ne_eqb b F n, e)

  -- of no face nothing changes
  pub pick_none : (b : ℕ) → b ≡ pick F q b []
  unfolding pick through
  pick_none b = refl

  -- one face more
  pub pick_snoc : (b : ℕ) (xs : List ℕ) (x : ℕ) → pick F q b (xs ++ (x ∷ [])) ≡ better_or F q (pick F q b xs) x
  unfolding pick
  pick_snoc b xs x = through_append (better_or F q) b xs (x ∷ []) ∙ unfold through in refl

  -- one list after another
  pub pick_append : (b : ℕ) (xs ys : List ℕ) → pick F q b (xs ++ ys) ≡ pick F q (pick F q b xs) ys
  unfolding pick
  pick_append b xs ys = through_append (better_or F q) b xs ys

  -- the better of two faces is a face
  better_in : (b j : ℕ) → b < F → j < F → better q b j < F
  unfolding better
  better_in b j h l = go (outranks q j b)
    where
      go : (r : Bool) → cond r j b < F
      go true = l
      go false = h

  -- from a face on, picking is what the rules' best does
  pick_on : (b : ℕ) (xs : List ℕ) → b < F → All (λ x. x < F) xs → (pick F q b xs ≡ through (better q) b xs) × (pick F q b xs < F)
  unfolding pick through better_or
  pick_on b [] h a = (refl, h)
  pick_on b (x ∷ xs) h a = rw (ne_eqb b F (omega arith)) (pick_on (better q b x) xs (better_in b x h a.0) a.1)

  -- so picking from none is the rules' best
  pub pick_best : (x : ℕ) (xs : List ℕ) → All (λ y. y < F) (x ∷ xs) → (pick F q F (x ∷ xs) ≡ best q (x ∷ xs)) × (pick F q F (x ∷ xs) < F)
  pick_best x xs a = unfold pick through better_or best in (rw (eq-eqb F F refl) (pick_on x xs a.0 a.1))

-- ---- the faces of a run

-- the faces of entries below n, of three a face, are below n / 3
faces_all : (run : List ℕ) (n F : ℕ) → n ≡ 3 * F → ((i : ℕ) → i < length run → get_or run i 0 < n) → All (λ x. x < F) (faces_in run)
faces_all [] n F e f = tt
faces_all (x ∷ run) n F e f = (omega (arith, f 0 (omega arith)), faces_all run n F e (λ i h. f (suc i) (suc-le-suc h)))

-- so a run has faces
pub run_all : {ps : List Float} {xs run : List ℕ} → RankAsks ps xs run → All (λ x. x < count xs) (faces_in run)
run_all {ps} {xs} {run} p = faces_all run (length xs) (count xs) (omega (arith, p.faces.whole)) p.ids

-- one entry more
pub faces_next : (run : List ℕ) (i : ℕ) → i < length run → faces_in (take (i + 1) run) ≡ faces_in (take i run) ++ (get_or run i 0 / 3 ∷ [])
faces_next run i h = rw (add-one i, take-suc run i 0 h) (map-append (λ id. id / 3) (take i run) (get_or run i 0 ∷ []))

-- the faces of the part before a place
pub faces_take : (k : ℕ) (run : List ℕ) → faces_in (take k run) ≡ take k (faces_in run)
faces_take zero run = refl
faces_take (suc k) [] = refl
faces_take (suc k) (x ∷ run) = ap (λ l. x / 3 ∷ l) (faces_take k run)

-- the faces of the part from a place on
pub faces_drop : (k : ℕ) (run : List ℕ) → faces_in (drop k run) ≡ drop k (faces_in run)
faces_drop zero run = refl
faces_drop (suc k) [] = refl
faces_drop (suc k) (x ∷ run) = faces_drop k run

-- ---- the first place that passes

-- a test either way round
same_back : (a b : ℕ) → eqb a b ≡ eqb b a
same_back a b = go (eqb b a) refl
  where
    go : (t : Bool) → eqb b a ≡ t → eqb a b ≡ t
    go true e = eq-eqb a b (sym (eqb-true b a e))
    go false e = ne_eqb a b (λ h. true≢false (sym (eq-eqb b a (sym h)) ∙ e))

-- the first place of a face in a run
first_is : (one : ℕ) (run : List ℕ) → position_or_len (λ id. eqb (id / 3) one) run ≡ first (eqb one) (faces_in run)
unfolding first
first_is one [] = refl
first_is one (x ∷ run) = rw (same_back (x / 3) one) (go (eqb one (x / 3)) (first_is one run))
  where
    go : (t : Bool) → position_or_len (λ id. eqb (id / 3) one) run ≡ first (eqb one) (faces_in run)
        → cond (not t) (1 + position_or_len (λ id. eqb (id / 3) one) run) 0 ≡ cond t 0 (suc (first (eqb one) (faces_in run)))
    go true e = refl
    go false e = omega (arith, e)

-- where one is found, it is there
pub found_at : (one : ℕ) (run : List ℕ) {k : ℕ} → Some k ≡ position (λ id. eqb (id / 3) one) run → (k ≡ first (eqb one) (faces_in run)) × (k < length run)
found_at one run {k} e =
    let p = position_or_len (λ id. eqb (id / 3) one) run in
    let s : (ltb p (length run) ≡ true) × (p ≡ k) = cond_some (ltb p (length run)) p k (sym e) in
    (sym s.1 ∙ first_is one run, rw (← s.1) (ltb-true p (length run) s.0))

-- where none is found, the first is behind all
pub found_none : (one : ℕ) (run : List ℕ) → None ≡ position (λ id. eqb (id / 3) one) run → length run ≤ first (eqb one) (faces_in run)
found_none one run e =
    let p = position_or_len (λ id. eqb (id / 3) one) run in
    rw (← (first_is one run)) (ltb-false p (length run) (go (ltb p (length run)) e))
  where
    go : (t : Bool) → ◌≡◌ {A = Option ℕ} None (cond t (Some (position_or_len (λ id. eqb (id / 3) one) run)) None) → t ≡ false
    go true h = absurd (none-some _ h)
    go false h = refl

-- where none passes, the first is behind all
pub first_none : {A : Type 0} (p : A → Bool) (z : A) (xs : List A) → ((s : ℕ) → s < length xs → p (get_or xs s z) ≡ false) → first p xs ≡ length xs
unfolding first
first_none p z [] f = refl
first_none p z (x ∷ xs) f = rw (f 0 (omega arith)) (ap suc (first_none p z xs (λ s q. f (suc s) (suc-le-suc q))))

-- the first is at most the length
first_most : {A : Type 0} (p : A → Bool) (xs : List A) → first p xs ≤ length xs
unfolding first
first_most p [] = omega arith
first_most p (x ∷ xs) = go (p x) (first_most p xs)
  where
    go : (t : Bool) → first p xs ≤ length xs → cond t 0 (suc (first p xs)) ≤ suc (length xs)
    go true h = omega arith
    go false h = omega (arith, h)

-- where one is found that is the first, and else the length is
pub found_or : (one : ℕ) (run : List ℕ) (o : Option ℕ) → o ≡ position (λ id. eqb (id / 3) one) run → unwrap_or o (length run) ≡ first (eqb one) (faces_in run)
found_or one run (Some k) e = (found_at one run e).0
found_or one run None e =
    let m : first (eqb one) (faces_in run) ≤ length run = rw (← (length-map run (λ id. id / 3))) (first_most (eqb one) (faces_in run)) in
    omega (arith, m, found_none one run e)

-- without one i is: the part before its first place, and the part behind it
pub without_is : (one : ℕ) (us : List ℕ) → without one us ≡ take (first (eqb one) us) us ++ drop (suc (first (eqb one) us)) us
unfolding without first
without_is one [] = refl
without_is one (u ∷ us) = go (eqb one u) (without_is one us)
  where
    go : (b : Bool) → without one us ≡ take (first (eqb one) us) us ++ drop (suc (first (eqb one) us)) us → cond b us (u ∷ without one us) ≡ take (cond b 0 (suc (first (eqb one) us))) (u ∷ us) ++ drop (suc (cond b 0 (suc (first (eqb one) us)))) (u ∷ us)
    go true e = refl
    go false e = ap (λ l. u ∷ l) e

-- at most one leaves
pub without_long : (one : ℕ) (us : List ℕ) → length us ≤ suc (length (without one us))
unfolding without
without_long one [] = omega arith
without_long one (u ∷ us) = go (eqb one u) (without_long one us)
  where
    go : (b : Bool) → length us ≤ suc (length (without one us)) → suc (length us) ≤ suc (length (cond b us (u ∷ without one us)))
    go true h = omega arith
    go false h = omega arith

-- what all have, those that are left have
pub all_without : (Q : ℕ → Type 0) (one : ℕ) (us : List ℕ) → All Q us → All Q (without one us)
unfolding without
all_without Q one [] a = tt
all_without Q one (u ∷ us) a = go (eqb one u) (all_without Q one us a.1)
  where
    go : (b : Bool) → All Q (without one us) → All Q (cond b us (u ∷ without one us))
    go true r = a.1
    go false r = (a.0, r)

-- what all have, those that walk otherwise have
pub all_others : (Q : ℕ → Type 0) (fs : List Face) (e : Step) (f : Bool) (us : List ℕ) → All Q us → All Q (others fs e f us)
unfolding others filter
all_others Q fs e f [] a = tt
all_others Q fs e f (u ∷ us) a = go (not (beq (walks (face fs u) e) f)) (all_others Q fs e f us a.1)
  where
    go : (b : Bool) → All Q (others fs e f us) → All Q (cond b (u ∷ others fs e f us) (others fs e f us))
    go true r = (a.0, r)
    go false r = r

-- ---- the walk of a face, by its corners

-- whether one of the three steps is the same
pub walks_flat : (xs : List ℕ) (i : ℕ) (s : Step) → 3 * i + 3 ≤ length xs → walks (face (faces_of xs) i) s ≡ (same s (step (get_or xs (3 * i) 0) (get_or xs (3 * i + 1) 0)) || (same s (step (get_or xs (3 * i + 1) 0) (get_or xs (3 * i + 2) 0)) || (same s (step (get_or xs (3 * i + 2) 0) (get_or xs (3 * i) 0)) || false)))
unfolding walks any
walks_flat xs i s h = rw (face_at xs i (omega arith))

-- ---- pass 3's second choice, from the scans

module _ (F : ℕ) (q : ℕ → Float) (one : ℕ) (us : List ℕ) (a : All (λ x. x < F) us) (two : 1 < length us) where
  -- some walk otherwise: the best of them
  pub second_some : (os : List ℕ) → All (λ x. x < F) os → (o : ℕ) → o ≡ pick F q F os → o < F → o ≡ second q one us os
  unfolding second
  second_some [] b o e l = absurd (omega (arith, pick_none F q F))
  second_some (x ∷ xs) b o e l = e ∙ (pick_best F q x xs b).0

  -- picking from a list that is not empty
  rest_best : (rs : List ℕ) → All (λ x. x < F) rs → 0 < length rs → pick F q F rs ≡ best q rs
  rest_best [] b h = absurd (not-suc-le-zero h)
  rest_best (x ∷ xs) b h = (pick_best F q x xs b).0

  -- none does: the best of the rest
  pub second_none : (os : List ℕ) → All (λ x. x < F) os → (o : ℕ) → o ≡ pick F q F os → F ≤ o → pick F q F (without one us) ≡ second q one us os
  unfolding second
  second_none [] b o e l = rest_best (without one us) (all_without (λ x. x < F) one us a) (omega (arith, without_long one us))
  second_none (x ∷ xs) b o e l = absurd (omega (arith, (pick_best F q x xs b).1))

-- or with false
pub or_false : (b : Bool) → b ≡ (b || false)
or_false true = refl
or_false false = refl

-- picking from faces: their best, which is one of them
pub pick_some : (F : ℕ) (q : ℕ → Float) (us : List ℕ) → All (λ x. x < F) us → 0 < length us → (pick F q F us ≡ best q us) × (pick F q F us < F)
pick_some F q [] a h = absurd (not-suc-le-zero h)
pick_some F q (x ∷ xs) a h = pick_best F q x xs a

-- the face of some choice
pub face_some : {F : ℕ} (b : Option Choice) → face_or F b < F → IsSome b
face_some None h = absurd (omega (arith, h))
face_some (Some c) h = refl

-- what is some has its face
pub face_of_some : (F : ℕ) {b : Option Choice} {c : Choice} → b ≡ Some c → c.face ≡ face_or F b
face_of_some F e = rw e

-- one more: it walks otherwise, or not
module _ (fs : List Face) (e : Step) (f : Bool) (us : List ℕ) (x : ℕ) where
  -- one face more
  others_next : others fs e f (us ++ (x ∷ [])) ≡ others fs e f us ++ cond (not (beq (walks (face fs x) e) f)) (x ∷ []) []
  unfolding others
  others_next = filter_append (λ j. not (beq (walks (face fs j) e) f)) us (x ∷ []) ∙ unfold filter in refl

  -- it walks otherwise
  pub others_more : not (beq (walks (face fs x) e) f) ≡ true → others fs e f (us ++ (x ∷ [])) ≡ others fs e f us ++ (x ∷ [])
  others_more h = others_next ∙ ap (λ b. others fs e f us ++ cond b (x ∷ []) []) h

  -- it does not
  pub others_skip : not (beq (walks (face fs x) e) f) ≡ false → others fs e f (us ++ (x ∷ [])) ≡ others fs e f us
  others_skip h = others_next ∙ ap (λ b. others fs e f us ++ cond b (x ∷ []) []) h ∙ append-nil (others fs e f us)

-- of no faces none walks otherwise
pub others_none : (fs : List Face) (e : Step) (f : Bool) → [] ≡ others fs e f []
unfolding others filter
others_none fs e f = refl

-- ---- the parts of a run before and behind one place

-- the part before a place is a run
pub run_take : {ps : List Float} {xs run : List ℕ} (k : ℕ) → k ≤ length run → RankAsks ps xs run → RankAsks ps xs (take k run)
run_take {ps} {xs} {run} k h p = record { faces = p.faces; ids = λ i l. let q : i < k = omega (arith, length-take-le k run h) in rw (get_or-take k run i 0 q) (p.ids i (omega arith)) }

-- and so is the part behind
pub run_drop : {ps : List Float} {xs run : List ℕ} (k m : ℕ) → k + m ≤ length run → RankAsks ps xs run → RankAsks ps xs (take m (drop k run))
run_drop {ps} {xs} {run} k m h p =
    record {
      faces = p.faces;
      ids = λ i l.
          let e : length (take m (drop k run)) ≡ m = simp (length-take, length-drop) (omega arith) in
          let q : i < m = omega arith in
          rw (get_or-take m (drop k run) i 0 q, get_or-drop k run i 0) (p.ids (k + i) (omega arith));
    }

module _ (F : ℕ) (q : ℕ → Float) (run : List ℕ) (one k : ℕ) (e : k ≡ first (eqb one) (faces_in run)) where
  -- the scans before and behind the first place of `one` pick from all without it
  pub around : (h r : ℕ) → k < length run → h ≡ pick F q F (faces_in (take k run)) → r ≡ pick F q h (faces_in (take (length run - (k + 1)) (drop (k + 1) run))) → r ≡ pick F q F (without one (faces_in run))
  around h r l eh er =
      let t : take (length run - (k + 1)) (drop (k + 1) run) ≡ drop (suc k) run = ap (λ j. take (length run - (k + 1)) (drop j run)) (add-one k) ∙ take_all (length run - (k + 1)) (drop (suc k) run) (simp length-drop (omega arith)) in
      er ∙ rw (t, eh, faces_take k run, faces_drop (suc k) run, ← (pick_append F q F (take k (faces_in run)) (drop (suc k) (faces_in run))), without_is one (faces_in run), ← e)

  -- where `one` is nowhere, the scan of all does
  pub absent : (r : ℕ) → length run ≤ k → r ≡ pick F q F (faces_in run) → r ≡ pick F q F (without one (faces_in run))
  absent r l er =
      let m = length-map run (λ id. id / 3) in
      er ∙ rw (without_is one (faces_in run), ← e, take_all k (faces_in run) (omega arith), drop_all (suc k) (faces_in run) (omega arith), append-nil)
    where
      drop_all : (n : ℕ) (xs : List ℕ) → length xs ≤ n → drop n xs ≡ []
      drop_all zero [] h = refl
      drop_all zero (x ∷ xs) h = absurd (omega arith)
      drop_all (suc n) [] h = refl
      drop_all (suc n) (x ∷ xs) h = drop_all n xs (le_of_suc-le-suc h)
