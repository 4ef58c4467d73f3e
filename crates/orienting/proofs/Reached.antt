-- Across an edge: its unvisited users are visited, and then some other user disagrees or none does. Assumes nothing.
use mathlib.Core.Path.{◌≡◌, refl, sym, ap, subst, ◌∙◌}
use mathlib.Core.Bool.{Bool, true, false, not, ◌&&◌, ◌||◌, cond, or_comm, or-false}
use mathlib.Core.List.{List, [], ◌∷◌}
use Prim.Native.Nat.{ℕ, suc, ◌<◌}
use native.Mathlib.Omega.{arith}
use native.Mathlib.Decide.{ℕ_discrete}
use borrow.Author.Tests.{eq-eqb, ne_eqb}
use lib.Dec.{T, eqb}
use lib.ListN.{length, get_or, set, length-set}
use lib.Seq.{get_or-set_same, get_or-set_other}
use Rattle.rules.specs.Lists.{filter, all, through}
use Rattle.rules.specs.Mesh.{Face, face, exchanged}
use Rattle.rules.specs.Steps.{Step, opposite, edge, walks, users}
use Rattle.rules.specs.Pass4.{Walk, remark, visit, meet, across}
use Rattle.rule_laws.proofs.Rising.{All, all_imp, all_filter}
use Rattle.orienting.specs.Reaching.{agrees, reach, other, lone}
use Rattle.orienting.proofs.Turns.{walks_exchanged, opposite_twice}
use Rattle.orienting.proofs.Alone.{sole_any, all_any}

-- a test that passed did not fail
pub not_both : {b : Bool} → b ≡ true → b ≡ false → ⊥
not_both t f = subst T (sym t ∙ f) tt

-- two marks in either order
or_swap : (m a b : Bool) → ((m || not a) || not b) ≡ ((m || not b) || not a)
or_swap true a b = refl
or_swap false true true = refl
or_swap false true false = refl
or_swap false false true = refl
or_swap false false false = refl

-- two marks at once
or_and : (m a b : Bool) → ((m || not b) || not a) ≡ (m || not (a && b))
or_and true a b = refl
or_and false true true = refl
or_and false true false = refl
or_and false false true = refl
or_and false false false = refl

-- the face of all zeros, which stands behind the last
abbrev none : Face
none = record { a = 0; b = 0; c = 0; origin = 0 }

-- ---- a visited face stays as it is

module _ (s : Step) (n : ℕ) where
  -- a face reached after it
  pub stays_reach : (w : Walk) (m : ℕ) → get_or w.visited n false ≡ true → (get_or (reach s w m).visited n false ≡ true) × (face (reach s w m).faces n ≡ face w.faces n)
  unfolding reach visit face
  stays_reach w m h = go (get_or w.visited m false) refl (agrees s w m)
    where
      differ : get_or w.visited m false ≡ false → n ≡ m → ⊥
      differ f e = not_both h (rw e f)

      go : (b : Bool) → get_or w.visited m false ≡ b → (a : Bool) → (get_or (cond b w (visit a m w)).visited n false ≡ true) × (face (cond b w (visit a m w)).faces n ≡ face w.faces n)
      go true e a = (h, refl)
      go false e true = (get_or-set_other w.visited m n true false (differ e) ∙ h, refl)
      go false e false = (get_or-set_other w.visited m n true false (differ e) ∙ h, get_or-set_other w.faces m n (exchanged (face w.faces m)) none (differ e))

  -- and any number of faces
  pub stays : (w : Walk) (ms : List ℕ) → get_or w.visited n false ≡ true
      → (get_or (through (reach s) w ms).visited n false ≡ true) × (face (through (reach s) w ms).faces n ≡ face w.faces n)
  unfolding through
  stays w [] h = (h, refl)
  stays w (m ∷ ms) h =
      let a = stays_reach w m h in
      let b = stays (reach s w m) ms a.0 in
      (b.0, b.1 ∙ a.1)

-- a face that is reached is visited
pub reached : (s : Step) (w : Walk) (n : ℕ) → n < length w.visited → get_or (reach s w n).visited n false ≡ true
unfolding reach visit
reached s w n l = go (get_or w.visited n false) refl
  where
    go : (b : Bool) → get_or w.visited n false ≡ b → get_or (cond b w (visit (agrees s w n) n w)).visited n false ≡ true
    go true e = e
    go false e = get_or-set_same w.visited n true false l

-- reaching changes no length
pub reach_long : (s : Step) (w : Walk) (n : ℕ) → (length (reach s w n).visited ≡ length w.visited) × (length (reach s w n).faces ≡ length w.faces)
unfolding reach visit
reach_long s w n = go (get_or w.visited n false) (agrees s w n)
  where
    go : (b a : Bool) → (length (cond b w (visit a n w)).visited ≡ length w.visited) × (length (cond b w (visit a n w)).faces ≡ length w.faces)
    go true a = (refl, refl)
    go false true = (length-set w.visited n true, refl)
    go false false = (length-set w.visited n true, length-set w.faces n (exchanged (face w.faces n)))

-- all that are reached are visited
pub all_reached : (s : Step) (w : Walk) (ns : List ℕ) → All (λ n. n < length w.visited) ns → All (λ n. get_or (through (reach s) w ns).visited n false ≡ true) ns
unfolding through
all_reached s w [] h = tt
all_reached s w (n ∷ ns) h =
    let l = (reach_long s w n).0 in (
      (stays s n (reach s w n) ns (reached s w n h.0)).0,
      all_reached s (reach s w n) ns (all_imp (λ k. k < length w.visited) (λ k. k < length (reach s w n).visited) (λ k q. omega arith) ns h.1),
    )

-- where all are visited, reaching them changes nothing
pub reach_none : (s : Step) (w : Walk) (ns : List ℕ) → All (λ n. get_or w.visited n false ≡ true) ns → through (reach s) w ns ≡ w
unfolding through
reach_none s w [] h = refl
reach_none s w (n ∷ ns) h = ap (λ v. through (reach s) v ns) (at h.0) ∙ reach_none s w ns h.1
  where
    at : get_or w.visited n false ≡ true → reach s w n ≡ w
    at e = unfold reach in rw e

-- ---- meeting the users of an edge

-- n is a face of the walk that uses the edge of s
abbrev pub Along : Step → Walk → ℕ → Type 0
Along s w n = (n < length w.visited) × (n < length w.faces) × ((walks (face w.faces n) s || walks (face w.faces n) (opposite s)) ≡ true)

-- an exchanged face still uses it
along_exchanged : (s : Step) (f : Face) → (walks f s || walks f (opposite s)) ≡ true → (walks (exchanged f) s || walks (exchanged f) (opposite s)) ≡ true
along_exchanged s f h = rw (walks_exchanged f s, walks_exchanged f (opposite s), opposite_twice s) (or_comm (walks f (opposite s)) (walks f s) ∙ h)

-- so every user still does when a face is reached
along_reach : (s : Step) (w : Walk) (m n : ℕ) → Along s w n → Along s (reach s w m) n
unfolding reach visit face
along_reach s w m n h =
    let l = reach_long s w m in
    (omega (arith, h.0), omega (arith, h.1), go (get_or w.visited m false) (agrees s w m) (ℕ_discrete n m))
  where
    uses : Face → Bool
    uses f = walks f s || walks f (opposite s)

    go : (b a : Bool) → Dec (n ≡ m) → uses (face (cond b w (visit a m w)).faces n) ≡ true
    go true a d = h.2
    go false true d = h.2
    go false false (no e) = ap uses (get_or-set_other w.faces m n (exchanged (face w.faces m)) none e) ∙ h.2
    go false false (yes e) =
        ap (λ k. uses (get_or (set w.faces m (exchanged (face w.faces m))) k none)) e
        ∙ ap uses (get_or-set_same w.faces m (exchanged (face w.faces m)) none (rw (← e) h.1))
        ∙ along_exchanged s (face w.faces m) (rw (← e) h.2)

-- a mark before or after a neighbour is met
meet_remark : (s : Step) (a : Bool) (w : Walk) (n : ℕ) → meet s (remark a w) n ≡ remark a (meet s w n)
unfolding meet remark visit
meet_remark s a w n = go (get_or w.visited n false) (walks (face w.faces n) (opposite s))
  where
    go : (b c : Bool) → cond b (remark c (remark a w)) (visit c n (remark a w)) ≡ remark a (cond b (remark c w) (visit c n w))
    go true c = rw (or_swap w.mark a c)
    go false c = refl

-- and all neighbours
meets_remark : (s : Step) (a : Bool) (w : Walk) (ns : List ℕ) → through (meet s) (remark a w) ns ≡ remark a (through (meet s) w ns)
unfolding through
meets_remark s a w [] = refl
meets_remark s a w (n ∷ ns) = ap (λ v. through (meet s) v ns) (meet_remark s a w n) ∙ meets_remark s a (meet s w n) ns

-- two marks at once
remark_both : (a b : Bool) (w : Walk) → remark a (remark b w) ≡ remark (a && b) w
unfolding remark
remark_both a b w = rw (or_and w.mark a b)

-- a user that is visited now agrees: it did, or it is exchanged
visited_agrees : (s : Step) (w : Walk) (n : ℕ) → get_or w.visited n false ≡ false → Along s w n → agrees s (reach s w n) n ≡ true
unfolding reach visit face
visited_agrees s w n e h = rw e (go (agrees s w n) refl)
  where
    go : (a : Bool) → agrees s w n ≡ a → agrees s (visit a n w) n ≡ true
    go true p = p
    go false p =
        ap (λ f. walks f (opposite s)) (get_or-set_same w.faces n (exchanged (face w.faces n)) none h.1)
        ∙ walks_exchanged (face w.faces n) (opposite s)
        ∙ ap (walks (face w.faces n)) (opposite_twice s)
        ∙ first (walks (face w.faces n) s) (agrees s w n) h.2 p
      where
        first : (x y : Bool) → (x || y) ≡ true → y ≡ false → x ≡ true
        first true y t f = refl
        first false y t f = absurd (not_both t f)

-- Meeting the users of an edge one after the other is to reach them all, and then to mark if one of them disagrees.
meets : (s : Step) (w : Walk) (ns : List ℕ) → All (Along s w) ns
    → through (meet s) w ns ≡ remark (all (agrees s (through (reach s) w ns)) ns) (through (reach s) w ns)
unfolding through all
meets s w [] h = unfold remark in rw (or-false w.mark)
meets s w (n ∷ ns) h =
    go (meets s w ns h.1) (meets s (reach s w n) ns (all_imp (Along s w) (Along s (reach s w n)) (λ k q. along_reach s w n k q) ns h.1))
    (get_or w.visited n false) refl
  where
    go : through (meet s) w ns ≡ remark (all (agrees s (through (reach s) w ns)) ns) (through (reach s) w ns)
        → through (meet s) (reach s w n) ns ≡ remark (all (agrees s (through (reach s) (reach s w n) ns)) ns) (through (reach s) (reach s w n) ns)
        → (b : Bool) → get_or w.visited n false ≡ b
        → through (meet s) (meet s w n) ns
        ≡ remark (agrees s (through (reach s) (reach s w n) ns) n && all (agrees s (through (reach s) (reach s w n) ns)) ns) (through (reach s) (reach s w n) ns)
    go here there true e =
        let at_meet : meet s w n ≡ remark (agrees s w n) w = unfold meet in rw e in
        let at-reach : reach s w n ≡ w = unfold reach in rw e in
        rw at-reach
        (ap (λ v. through (meet s) v ns) at_meet
        ∙ meets_remark s (agrees s w n) w ns
        ∙ ap (remark (agrees s w n)) here
        ∙ remark_both (agrees s w n) (all (agrees s (through (reach s) w ns)) ns) (through (reach s) w ns)
        ∙ ap (λ f. remark (walks f (opposite s) && all (agrees s (through (reach s) w ns)) ns) (through (reach s) w ns)) (sym (stays s n w ns e).1))
    go here there false e =
        let at : meet s w n ≡ reach s w n = unfold meet reach in rw e in
        let seen = reached s w n h.0.0 in
        let agree : agrees s (through (reach s) (reach s w n) ns) n ≡ true =
        ap (λ f. walks f (opposite s)) (stays s n (reach s w n) ns seen).1 ∙ visited_agrees s w n e h.0
        in
        rw agree (ap (λ v. through (meet s) v ns) at ∙ there)

-- a visited face need not be reached
reach_skip : (s : Step) (j : ℕ) (w : Walk) (ns : List ℕ) → get_or w.visited j false ≡ true → through (reach s) w (filter (λ n. not (eqb n j)) ns) ≡ through (reach s) w ns
unfolding through filter
reach_skip s j w [] h = refl
reach_skip s j w (n ∷ ns) h = go (reach_skip s j w ns h) (reach_skip s j (reach s w n) ns (stays_reach s j w n h).0) (ℕ_discrete n j)
  where
    go : through (reach s) w (filter (λ m. not (eqb m j)) ns) ≡ through (reach s) w ns
        → through (reach s) (reach s w n) (filter (λ m. not (eqb m j)) ns) ≡ through (reach s) (reach s w n) ns
        → Dec (n ≡ j) → through (reach s) w (cond (not (eqb n j)) (n ∷ filter (λ m. not (eqb m j)) ns) (filter (λ m. not (eqb m j)) ns)) ≡ through (reach s) (reach s w n) ns
    go here there (yes e) =
        let at : reach s w n ≡ w = unfold reach in rw (e, h) in
        rw (at, eq-eqb n j e) here
    go here there (no e) = rw (ne_eqb n j e) there

-- Across the step s of a visited face j: the users us of its edge are reached, and the number of those that disagree tells whether to mark.
pub across_is : (many j : ℕ) (w : Walk) (s : Step) (us : List ℕ)
    → suc j < many → get_or w.visited j false ≡ true → users w.faces (edge s) ≡ us → All (Along s w) us
    → across j w s ≡ remark (not (other j (lone many (through (reach s) w us).faces (opposite s) us))) (through (reach s) w us)
unfolding across lone other
across_is many j w s us l h e a =
    let q : ℕ → Bool = λ n. not (eqb n j) in
    let v = through (reach s) w us in
    ap (λ ns. through (meet s) w (filter q ns)) e
    ∙ meets s w (filter q us) (all_imp (λ n. Along s w n × T (q n)) (Along s w) (λ n p. p.0) (filter q us) (all_filter (Along s w) q us a))
    ∙ ap (λ x. remark (all (agrees s x) (filter q us)) x) (reach_skip s j w us h)
    ∙ ap (λ b. remark b v) (all_any (agrees s v) q us ∙ ap not (sym (sole_any many j l 0 (filter (λ n. not (agrees s v n)) us))))
