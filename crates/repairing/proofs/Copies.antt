-- Pass 5 adds at most three points a face: each copy at v is paid by a corner v, and v's corners are counted once. Assumes nothing.
use mathlib.Core.Path.{◌≡◌, refl, sym, ap, subst, ◌∙◌}
use mathlib.Core.Logic.{◌⊎◌, inl, inr}
use mathlib.Core.Bool.{Bool, true, false, ◌&&◌, cond}
use mathlib.Core.List.{List, [], ◌∷◌, map}
use Prim.Native.Nat.{ℕ, zero, suc, ◌+◌, ◌*◌, ◌≤◌, ◌<◌}
use native.Mathlib.Nat.{zero-add}
use native.Mathlib.Omega.{arith}
use native.Mathlib.Decide.{ℕ_discrete}
use borrow.Author.Tests.{eq-eqb, ne_eqb, leb-true, le-leb, lt-ltb, le-ltb, lt-leb}
use lib.Dec.{eqb, leb, ltb}
use lib.ListN.{length, get_or, drop, length-append, length-map, length-drop}
use Rattle.rules.specs.Lists.{below, filter, count, each, through}
use Rattle.rules.specs.Mesh.{Face, face, corners, renamed}
use Rattle.rules.specs.State.{State}
use Rattle.rules.specs.Groups.{leads, groups}
use Rattle.rules.specs.Pass5.{entries_at, share, fans, split, pass5}
use Rattle.rule_laws.proofs.Lists.{each_map, length_each, through_last}
use Rattle.rule_laws.proofs.Counting.{count_append, count_below_le, filter_le}
use Rattle.rule_laws.proofs.Leaders.{groups_length}
use Rattle.rule_laws.proofs.Once.{Inside}
use Rattle.rule_laws.proofs.Splitting.{instead, target, faces_by_place, split_is}
use Rattle.rule_laws.proofs.Fans.{target_new}
use Rattle.rule_laws.proofs.Pass5.{split_length, turns}

-- one element more
count_cons : (p : ℕ → Bool) (x : ℕ) (xs : List ℕ) → count p (x ∷ xs) ≡ cond (p x) 1 0 + count p xs
unfolding count filter
count_cons p x xs = go (p x)
  where
    go : (b : Bool) → length (cond b (x ∷ filter p xs) (filter p xs)) ≡ cond b 1 0 + length (filter p xs)
    go true = omega arith
    go false = omega arith

-- a corner from k on, of the P points before the pass
late : ℕ → ℕ → ℕ → Bool
late P k x = leb k x && ltb x P

module _ (P v t : ℕ) (hv : v < P) (ht : (t ≡ v) ⊎ (P ≤ t)) where
  -- the number that stands for v is no late one
  not_late : late P (suc v) t ≡ false
  unfolding late
  not_late = go ht
    where
      go : (t ≡ v) ⊎ (P ≤ t) → (leb (suc v) t && ltb t P) ≡ false
      go (inl e) = rw (lt-leb (suc v) t (omega arith)) refl
      go (inr l) = rw (le-ltb t P l) (both (leb (suc v) t))
        where
          both : (b : Bool) → (b && false) ≡ false
          both true = refl
          both false = refl

  -- a corner v is late from v on and pays for itself; another stays as it is
  corner_pays : (x : ℕ) → cond (eqb v x) 1 0 + cond (late P (suc v) (instead v t x)) 1 0 ≤ cond (late P v x) 1 0
  corner_pays x = go (ℕ_discrete x v)
    where
      later : (b : Bool) → late P (suc v) x ≡ b → cond b 1 0 ≤ cond (late P v x) 1 0
      later false e = omega arith
      later true e = unfold late in (more (leb (suc v) x) refl (unfold late in e))
        where
          more : (b : Bool) → leb (suc v) x ≡ b → (b && ltb x P) ≡ true → 1 ≤ cond (leb v x && ltb x P) 1 0
          more true a c = rw (le-leb v x (omega (arith, leb-true (suc v) x a)), c) (omega arith)
          more false a c = absurd (subst (λ b. cond b (Unit {0}) ⊥) (sym c) tt)

      go : Dec (x ≡ v) → cond (eqb v x) 1 0 + cond (late P (suc v) (instead v t x)) 1 0 ≤ cond (late P v x) 1 0
      go (yes e) = rw (eq-eqb v x (sym e), eq-eqb x v e, not_late) (unfold late in (rw (le-leb v x (omega arith), lt-ltb x P (omega arith)) (omega arith)))
      go (no n) = rw (ne_eqb v x (λ e. n (sym e)), ne_eqb x v n, zero-add) (later (late P (suc v) x) refl)

  -- a face's corners v, and its late ones afterwards, are no more than its late ones from v on
  face_pays : (f : Face) → count (eqb v) (corners f) + count (late P (suc v)) (corners (renamed (instead v t) f)) ≤ count (late P v) (corners f)
  unfolding renamed
  face_pays f =
      let a = corner_pays f.a in
      let b = corner_pays f.b in
      let c = corner_pays f.c in
      rw (
        count_cons (eqb v) f.a (f.b ∷ f.c ∷ []),
        count_cons (eqb v) f.b (f.c ∷ []),
        count_cons (eqb v) f.c [],
        count_cons (late P (suc v)) (instead v t f.a) (instead v t f.b ∷ instead v t f.c ∷ []),
        count_cons (late P (suc v)) (instead v t f.b) (instead v t f.c ∷ []),
        count_cons (late P (suc v)) (instead v t f.c) [],
        count_cons (late P v) f.a (f.b ∷ f.c ∷ []),
        count_cons (late P v) f.b (f.c ∷ []),
        count_cons (late P v) f.c [],
      )
      (unfold count filter in (omega arith))

-- so for all faces together
all_pay : (g : ℕ → List ℕ) (h h' : ℕ → List ℕ) (q r : ℕ → Bool) → ((i : ℕ) → length (g i) + count q (h' i) ≤ count r (h i)) → (is : List ℕ) → length (each g is) + count q (each h' is) ≤ count r (each h is)
unfolding each
all_pay g h h' q r e [] = unfold count filter in (omega arith)
all_pay g h h' q r e (i ∷ is) =
    omega (arith, e i, all_pay g h h' q r e is, length-append (g i) (each g is), count_append q (h' i) (each h' is), count_append r (h i) (each h is))

-- no more fans than entries
fans_few : (fs : List Face) (v : ℕ) → length (fans fs v) ≤ length (entries_at fs v)
unfolding fans
fans_few fs v =
    let at = entries_at fs v in
    let joined : ℕ → ℕ → Bool = λ k l. share v (face fs (get_or at k 0)) (face fs (get_or at l 0)) in
    omega (arith, length-map (groups joined (length at)) (map (λ k. get_or at k 0)), groups_length joined (length at), count_below_le (leads joined (length at)) (length at))

-- the corners, face by face
corners_by_place : (fs : List Face) → each corners fs ≡ each (λ i. corners (face fs i)) (below (length fs))
corners_by_place fs = ap (each corners) (faces_by_place fs) ∙ each_map corners (face fs) (below (length fs))

-- the entries of one face at v are its corners v
face_entries : (v i : ℕ) (xs : List ℕ) → length (map (λ x. i) (filter (eqb v) xs)) ≡ count (eqb v) xs
unfolding count
face_entries v i xs = length-map (filter (eqb v) xs) (λ x. i)

-- a split at v: the copies, and the late corners afterwards, are no more than the late corners from v on
split_pays :
    (P : ℕ) (m : State) (v : ℕ) → Inside (length m.points) m.faces → v < P → P ≤ length m.points
    → length (split m v).points + count (late P (suc v)) (each corners (split m v).faces) ≤ length m.points + count (late P v) (each corners m.faces)
unfolding entries_at
split_pays P m v inside hv hp =
    let fs = m.faces in
    let gs = drop 1 (fans fs v) in
    let l : v < length m.points = omega arith in
    let t : ℕ → ℕ = λ i. target v (length m.points) gs i in
    let new : ℕ → List ℕ = λ i. corners (renamed (instead v (t i)) (face fs i)) in
    let e : each corners (split m v).faces ≡ each new (below (length fs)) = ap (each corners) (split_is m v l) ∙ each_map corners (λ i. renamed (instead v (t i)) (face fs i)) (below (length fs)) in
    let p = all_pay (λ i. map (λ x. i) (filter (eqb v) (corners (face fs i)))) (λ i. corners (face fs i)) new (late P (suc v)) (late P v) (one fs gs l) (below (length fs)) in
    let f = fans_few fs v in
    let d = length-drop 1 (fans fs v) in
    rw (e, split_length m v inside l, corners_by_place fs) (omega arith)
  where
    above : (n t : ℕ) → P ≤ n → (t ≡ v) ⊎ (n ≤ t) → (t ≡ v) ⊎ (P ≤ t)
    above n t h (inl e) = inl e
    above n t h (inr q) = inr (omega arith)

    one : (fs : List Face) (gs : List (List ℕ)) → v < length m.points → (i : ℕ)
        → length (map (λ x. i) (filter (eqb v) (corners (face fs i)))) + count (late P (suc v)) (corners (renamed (instead v (target v (length m.points) gs i)) (face fs i))) ≤ count (late P v) (corners (face fs i))
    one fs gs l i =
        let t = target v (length m.points) gs i in
        rw (face_entries v i (corners (face fs i))) (face_pays P v t hv (above (length m.points) t hp (target_new v (length m.points) gs i)) (face fs i))

-- after the turns below k the points and the late corners are no more than P and the corners at first
turns_pay :
    (m : State) → Inside (length m.points) m.faces → (k : ℕ) → k ≤ length m.points
    → length (through split m (below k)).points + count (late (length m.points) k) (each corners (through split m (below k)).faces) ≤ length m.points + 3 * length m.faces
turns_pay m inside zero h = unfold through below in (omega (arith, first))
  where
    first : count (late (length m.points) 0) (each corners m.faces) ≤ 3 * length m.faces
    first = unfold count in (omega (arith, filter_le (late (length m.points) 0) (each corners m.faces), length_each 3 corners (λ f. refl) m.faces))
turns_pay m inside (suc k) h =
    let now = through split m (below k) in
    let t = turns m inside k (omega arith) in
    rw (through_last split m k) (omega (arith, split_pays (length m.points) now k t.inside h t.grown, turns_pay m inside k (omega arith)))

-- after the turns below k at most three points a face have been added
pub turns_points :
    (m : State) → Inside (length m.points) m.faces → (k : ℕ) → k ≤ length m.points
    → length (through split m (below k)).points ≤ length m.points + 3 * length m.faces
turns_points m inside k h = omega (arith, turns_pay m inside k h)

-- pass 5 adds at most three points a face
pub pass5_points : (m : State) → Inside (length m.points) m.faces → length (pass5 m).points ≤ length m.points + 3 * length m.faces
unfolding pass5
pass5_points m inside = omega (arith, turns_pay m inside (length m.points) (omega arith))
