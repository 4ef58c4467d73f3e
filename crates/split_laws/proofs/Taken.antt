-- Who has a point when a group is split off: the copy those that take it, any other point those that had it. Assumes nothing.
use mathlib.Core.Path.{◌≡◌, refl, sym, ap, ◌∙◌}
use mathlib.Core.Logic.{◌≢◌}
use mathlib.Core.Bool.{Bool, true, false, ◌&&◌, ◌||◌, cond}
use mathlib.Core.List.{List, map}
use Prim.Native.Nat.{ℕ, suc, ◌<◌}
use native.Mathlib.Omega.{arith}
use native.Mathlib.Decide.{ℕ_discrete}
use borrow.Author.Tests.{eq-eqb, ne_eqb}
use lib.Dec.{T, eqb}
use lib.ListN.{length}
use Rattle.rules.specs.Lists.{below, filter, any, has}
use Rattle.rules.specs.Mesh.{Face, face, corners, renamed}
use Rattle.rules.specs.State.{State}
use Rattle.rules.specs.Pass5.{split_off}
use Rattle.rules.specs.Mending.{takers}
use Rattle.rule_laws.proofs.Rising.{all_imp, all_filter, all_map, below_all, map_same}
use Rattle.rule_laws.proofs.Once.{Inside, CornersBelow, face_inside}
use Rattle.rule_laws.proofs.Splitting.{instead, face_map_below, length_map_below}
use Rattle.splitting.proofs.Agreeing.{filter_agree, on_below}
use Rattle.split_laws.specs.Olds.{takers_of}

-- ---- one corner

-- another point than the old and the new one
other_corner : (p v new x : ℕ) → p ≢ v → p ≢ new → eqb p (instead v new x) ≡ eqb p x
other_corner p v new x a b = go (ℕ_discrete x v)
  where
    go : Dec (x ≡ v) → eqb p (instead v new x) ≡ eqb p x
    go (yes e) = ap (λ c. eqb p (cond c new x)) (eq-eqb x v e) ∙ ne_eqb p new b ∙ sym (ne_eqb p x (λ q. a (q ∙ e)))
    go (no n) = ap (λ c. eqb p (cond c new x)) (ne_eqb x v n)

-- the new point stands where the old one stood
new_corner : (v new x : ℕ) → x < new → eqb new (instead v new x) ≡ eqb v x
new_corner v new x h = go (ℕ_discrete x v)
  where
    go : Dec (x ≡ v) → eqb new (instead v new x) ≡ eqb v x
    go (yes e) = ap (λ c. eqb new (cond c new x)) (eq-eqb x v e) ∙ eq-eqb new new refl ∙ sym (eq-eqb v x (sym e))
    go (no n) = ap (λ c. eqb new (cond c new x)) (ne_eqb x v n) ∙ ne_eqb new x (λ q. absurd (omega arith)) ∙ sym (ne_eqb v x (λ q. n (sym q)))

-- ---- one face

-- another point
other_point : (p v new : ℕ) (b : Bool) (f : Face) → p ≢ v → p ≢ new → has p (corners (cond b (renamed (instead v new) f) f)) ≡ has p (corners f)
other_point p v new false f a c = refl
other_point p v new true f a c =
    unfold renamed has any in
    (λ k. other_corner p v new f.a a c k || (other_corner p v new f.b a c k || (other_corner p v new f.c a c k || false)))

-- the new point
new_point : (v new : ℕ) (b : Bool) (f : Face) → CornersBelow new f → has new (corners (cond b (renamed (instead v new) f) f)) ≡ (b && has v (corners f))
new_point v new false f h =
    unfold has any in
    (λ k. no f.a h.0 k || (no f.b h.1 k || (no f.c h.2 k || false)))
  where
    no : (x : ℕ) → x < new → eqb new x ≡ false
    no x l = ne_eqb new x (λ q. absurd (omega arith))
new_point v new true f h =
    unfold renamed has any in
    (λ k. new_corner v new f.a h.0 k || (new_corner v new f.b h.1 k || (new_corner v new f.c h.2 k || false)))

-- its corners are below one number more
next_below : (v new : ℕ) (b : Bool) (f : Face) → CornersBelow new f → CornersBelow (suc new) (cond b (renamed (instead v new) f) f)
next_below v new false f h = (omega (arith, h.0), omega (arith, h.1), omega (arith, h.2))
next_below v new true f h = unfold renamed in (one f.a h.0, one f.b h.1, one f.c h.2)
  where
    pick : (b : Bool) (x : ℕ) → x < new → cond b new x < suc new
    pick true x l = omega arith
    pick false x l = omega arith

    one : (x : ℕ) → x < new → instead v new x < suc new
    one x l = pick (eqb x v) x l

-- it keeps its origin
pub same_origin : (v new : ℕ) (b : Bool) (f : Face) → (cond b (renamed (instead v new) f) f).origin ≡ f.origin
same_origin v new true f = unfold renamed in refl
same_origin v new false f = refl

-- ---- all faces

-- what is listed of the numbers below n, by tests and readings that agree there
pub listed_same :
    (n : ℕ) (o o' : ℕ → ℕ) (p p' : ℕ → Bool) → ((i : ℕ) → i < n → o i ≡ o' i) → ((i : ℕ) → i < n → p i ≡ p' i)
    → map o (filter p (below n)) ≡ map o' (filter p' (below n))
listed_same n o o' p p' e q =
    map_same o o' (filter p (below n)) (all_imp (λ (i : ℕ). (i < n) × T (p i)) (λ i. o i ≡ o' i) (λ i w. e i w.0) (filter p (below n)) (all_filter (λ i. i < n) p (below n) (below_all n)))
    ∙ ap (map o') (filter_agree p p' (below n) (on_below (λ i. p i ≡ p' i) n q))

module _ (v : ℕ) (m : State) (fan : List ℕ) where
  -- the faces after the group is split off
  abbrev pub off : List Face
  off = (split_off v m fan).faces

  -- face i then
  abbrev one_off : ℕ → Face
  one_off i = cond (has i fan) (renamed (instead v (length m.points)) (face m.faces i)) (face m.faces i)

  -- they are as many
  pub off_long : length off ≡ length m.faces
  unfolding split_off
  off_long = length_map_below one_off (length m.faces)

  -- each of them
  off_at : (i : ℕ) → i < length m.faces → face off i ≡ one_off i
  unfolding split_off
  off_at i h = face_map_below one_off (length m.faces) i h

  -- with their origins
  pub off_origin : (i : ℕ) → i < length m.faces → (face off i).origin ≡ (face m.faces i).origin
  off_origin i h = ap (λ f. f.origin) (off_at i h) ∙ same_origin v (length m.points) (has i fan) (face m.faces i)

  -- another point has the faces that it had
  pub kept_takers : (p : ℕ) → p ≢ v → p ≢ length m.points → takers_of off off p ≡ takers_of m.faces m.faces p
  unfolding takers_of
  kept_takers p a b =
      ap (λ n. map (λ i. (face off i).origin) (filter (λ i. has p (corners (face off i))) (below n))) off_long
      ∙ listed_same (length m.faces) (λ i. (face off i).origin) (λ i. (face m.faces i).origin) (λ i. has p (corners (face off i))) (λ i. has p (corners (face m.faces i)))
      off_origin
      (λ i h. ap (λ f. has p (corners f)) (off_at i h) ∙ other_point p v (length m.points) (has i fan) (face m.faces i) a b)

  module _ (inside : Inside (length m.points) m.faces) where
    -- the new point has those that take it
    pub new_takers : takers_of off off (length m.points) ≡ takers v m.faces fan
    unfolding takers_of takers
    new_takers =
        ap (λ n. map (λ i. (face off i).origin) (filter (λ i. has (length m.points) (corners (face off i))) (below n))) off_long
        ∙ listed_same (length m.faces) (λ i. (face off i).origin) (λ i. (face m.faces i).origin) (λ i. has (length m.points) (corners (face off i))) (λ i. has i fan && has v (corners (face m.faces i)))
        off_origin
        (λ i h. ap (λ f. has (length m.points) (corners f)) (off_at i h) ∙ new_point v (length m.points) (has i fan) (face m.faces i) (face_inside (length m.points) m.faces inside i h))

    -- corners are below one point more
    pub off_inside : Inside (suc (length m.points)) off
    unfolding split_off
    off_inside =
        all_map (CornersBelow (suc (length m.points))) one_off (below (length m.faces))
        (on_below (λ i. CornersBelow (suc (length m.points)) (one_off i)) (length m.faces)
        (λ i h. next_below v (length m.points) (has i fan) (face m.faces i) (face_inside (length m.points) m.faces inside i h)))
