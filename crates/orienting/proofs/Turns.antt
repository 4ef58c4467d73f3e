-- Exchanged faces: the steps they make, and the users of edges, which stay the same. Assumes nothing.
use mathlib.Core.Path.{◌≡◌, refl, sym, ap, ap₂, ◌∙◌}
use mathlib.Core.Bool.{Bool, true, false, ◌&&◌, ◌||◌, cond, and_comm}
use mathlib.Core.List.{List, [], ◌∷◌, ◌++◌, map}
use Prim.Native.Nat.{ℕ, zero, suc, ◌<◌}
use native.Mathlib.Nat.{le_of_suc-le-suc, not-suc-le-zero, min_comm, max_comm}
use lib.Dec.{eqb}
use lib.ListN.{length, get_or, set}
use Rattle.rules.specs.Lists.{filter, any}
use Rattle.rules.specs.Mesh.{Face, face, exchanged}
use Rattle.rules.specs.Steps.{Step, step, steps, opposite, edge, same, walks, users}
use Rattle.rule_laws.proofs.Takers.{takers, users_takers, takers_cons}
use Rattle.orienting.specs.Reaching.{turn, turned_by}

-- three tests from the last to the first
or_back : (x y z : Bool) → (x || (y || (z || false))) ≡ (z || (y || (x || false)))
or_back true true true = refl
or_back true true false = refl
or_back true false true = refl
or_back true false false = refl
or_back false true true = refl
or_back false true false = refl
or_back false false true = refl
or_back false false false = refl

-- an exchanged face makes a step where the face makes the opposite one
pub walks_exchanged : (f : Face) (t : Step) → walks (exchanged f) t ≡ walks f (opposite t)
unfolding walks any same exchanged opposite
walks_exchanged f t =
    rw (and_comm (eqb t.to f.a) (eqb t.from f.b), and_comm (eqb t.to f.b) (eqb t.from f.c), and_comm (eqb t.to f.c) (eqb t.from f.a))
    (or_back (eqb t.from f.a && eqb t.to f.c) (eqb t.from f.c && eqb t.to f.b) (eqb t.from f.b && eqb t.to f.a))

-- opposite twice
pub opposite_twice : (s : Step) → opposite (opposite s) ≡ s
unfolding opposite
opposite_twice s = refl

-- a step and the opposite one are along one edge
pub edge_opposite : (s : Step) → edge (opposite s) ≡ edge s
unfolding edge opposite
edge_opposite s = rw (min_comm s.to s.from, max_comm s.to s.from)

-- ---- the users of an edge

-- as many zeros as tests pass, from the first to the last and back
zeros : (p : Step → Bool) (s t u x y z : Step) → p x ≡ p u → p y ≡ p t → p z ≡ p s
    → map {B = ℕ} (λ q. 0) (filter p (x ∷ y ∷ z ∷ [])) ≡ map {B = ℕ} (λ q. 0) (filter p (s ∷ t ∷ u ∷ []))
unfolding filter
zeros p s t u x y z e f g = rw (e, f, g) (go (p u) (p t) (p s))
  where
    go : (a b c : Bool)
        → map {B = ℕ} (λ q. 0) (cond a (x ∷ cond b (y ∷ cond c (z ∷ []) []) (cond c (z ∷ []) [])) (cond b (y ∷ cond c (z ∷ []) []) (cond c (z ∷ []) [])))
        ≡ map {B = ℕ} (λ q. 0) (cond c (s ∷ cond b (t ∷ cond a (u ∷ []) []) (cond a (u ∷ []) [])) (cond b (t ∷ cond a (u ∷ []) []) (cond a (u ∷ []) [])))
    go true true true = refl
    go true true false = refl
    go true false true = refl
    go true false false = refl
    go false true true = refl
    go false true false = refl
    go false false true = refl
    go false false false = refl

-- a test of edges takes as many steps of the exchanged face
exchanged_takes : (e : Step) (f : Face) → map {B = ℕ} (λ x. 0) (filter (λ s. same e (edge s)) (steps (exchanged f))) ≡ map {B = ℕ} (λ x. 0) (filter (λ s. same e (edge s)) (steps f))
unfolding exchanged
exchanged_takes e f =
    zeros (λ s. same e (edge s)) (step f.a f.b) (step f.b f.c) (step f.c f.a) (step f.a f.c) (step f.c f.b) (step f.b f.a)
    (back f.c f.a) (back f.b f.c) (back f.a f.b)
  where
    back : (x y : ℕ) → same e (edge (step y x)) ≡ same e (edge (step x y))
    back x y = ap (same e) (unfold opposite in edge_opposite (step x y))

-- a face under any state too
turn_takes : (e : Step) (k : ℕ) (f : Face) → map {B = ℕ} (λ x. 0) (filter (λ s. same e (edge s)) (steps (turn k f))) ≡ map {B = ℕ} (λ x. 0) (filter (λ s. same e (edge s)) (steps f))
unfolding turn
turn_takes e k f = go (eqb k 2)
  where
    go : (b : Bool) → map {B = ℕ} (λ x. 0) (filter (λ s. same e (edge s)) (steps (cond b (exchanged f) f))) ≡ map {B = ℕ} (λ x. 0) (filter (λ s. same e (edge s)) (steps f))
    go true = exchanged_takes e f
    go false = refl

-- so the users of an edge are those of the faces as they were
takers_turned : (e : Step) (ss : List ℕ) (fs : List Face) → takers (λ s. same e (edge s)) (turned_by ss fs) ≡ takers (λ s. same e (edge s)) fs
unfolding turned_by
takers_turned e [] fs = refl
takers_turned e (k ∷ ss) [] = refl
takers_turned e (k ∷ ss) (f ∷ fs) =
    takers_cons (λ s. same e (edge s)) (turn k f) (turned_by ss fs)
    ∙ ap₂ (λ x y. x ++ map suc y) (turn_takes e k f) (takers_turned e ss fs)
    ∙ sym (takers_cons (λ s. same e (edge s)) f fs)

-- in the words of the rules
pub users_turned : (ss : List ℕ) (fs : List Face) (e : Step) → users (turned_by ss fs) e ≡ users fs e
users_turned ss fs e = users_takers (turned_by ss fs) e ∙ takers_turned e ss fs ∙ sym (users_takers fs e)

-- ---- faces under their states

-- the face of all zeros, which stands behind the last
abbrev none : Face
none = record { a = 0; b = 0; c = 0; origin = 0 }

-- no state changes it
turn_none : (s : ℕ) → turn s none ≡ none
unfolding turn exchanged
turn_none s = go (eqb s 2)
  where
    go : (b : Bool) → cond b (exchanged none) none ≡ none
    go true = refl
    go false = refl

-- as many faces as before
pub length_turned : (ss : List ℕ) (fs : List Face) → length (turned_by ss fs) ≡ length fs
unfolding turned_by
length_turned [] fs = refl
length_turned (s ∷ ss) [] = refl
length_turned (s ∷ ss) (f ∷ fs) = ap suc (length_turned ss fs)

-- face i is under its state
pub face_turned : (ss : List ℕ) (fs : List Face) (i : ℕ) → face (turned_by ss fs) i ≡ turn (get_or ss i 0) (face fs i)
unfolding turned_by face
face_turned [] fs i = unfold turn in refl
face_turned (s ∷ ss) [] i = sym (turn_none (get_or (s ∷ ss) i 0))
face_turned (s ∷ ss) (f ∷ fs) zero = refl
face_turned (s ∷ ss) (f ∷ fs) (suc i) = face_turned ss fs i

-- one state is changed
pub set_turned : (ss : List ℕ) (fs : List Face) (i s : ℕ) → i < length ss → turned_by (set ss i s) fs ≡ set (turned_by ss fs) i (turn s (face fs i))
unfolding turned_by face
set_turned [] fs i s h = absurd (not-suc-le-zero h)
set_turned (k ∷ ss) [] zero s h = refl
set_turned (k ∷ ss) [] (suc i) s h = refl
set_turned (k ∷ ss) (f ∷ fs) zero s h = refl
set_turned (k ∷ ss) (f ∷ fs) (suc i) s h = ap (λ l. turn k f ∷ l) (set_turned ss fs i s (le_of_suc-le-suc h))

-- from one state that is not 2 to another
pub set_straight : (ss : List ℕ) (fs : List Face) (i s : ℕ) → eqb (get_or ss i 0) 2 ≡ false → eqb s 2 ≡ false → turned_by (set ss i s) fs ≡ turned_by ss fs
unfolding turned_by turn
set_straight [] fs i s h g = refl
set_straight (k ∷ ss) [] zero s h g = refl
set_straight (k ∷ ss) [] (suc i) s h g = refl
set_straight (k ∷ ss) (f ∷ fs) zero s h g = rw (g, h)
set_straight (k ∷ ss) (f ∷ fs) (suc i) s h g = ap (λ l. turn k f ∷ l) (set_straight ss fs i s h g)
