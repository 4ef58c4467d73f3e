-- The faces that take a copy: what their line makes of the faces, their origins, and how many they are. Assumes nothing.
use mathlib.Core.Path.{◌≡◌, refl, sym, ap, ◌∙◌, subst}
use mathlib.Core.Bool.{Bool, true, false, not, ◌&&◌, ◌||◌, cond, true≢false, not-not}
use mathlib.Core.List.Memᴰ
use mathlib.Core.List.{List, [], ◌∷◌, map, map-map, Memᴰ}
use Prim.Native.Nat.{ℕ, suc, ◌+◌, ◌≤◌, ◌<◌}
use native.Mathlib.Omega.{arith}
use native.Mathlib.Decide.{ℕ_discrete, dec_lt}
use borrow.Author.Tests.{lt-ltb, le-ltb, eq-eqb, ne_eqb}
use lib.Dec.{T, eqb, ltb}
use lib.ListN.{length, get_or, length-map}
use Rattle.rules.specs.Lists.{below, filter, count, any, each, leave, has}
use Rattle.rules.specs.Mesh.{Face, face, corners, renamed}
use Rattle.rules.specs.Mending.{takers}
use Rattle.rules.specs.Applying.{rising}
use Rattle.rule_laws.proofs.Tests.{both_ways}
use Rattle.rule_laws.proofs.Lists.{get_or_map_in, each_map, leave_places}
use Rattle.rule_laws.proofs.Rising.{All, all_leave, Up, up_at}
use Rattle.rule_laws.proofs.Members.{has_mem, mem_has, mem_below, below_mem, mem_filter, mem_left}
use Rattle.rule_laws.proofs.Counting.{count_append}
use Rattle.rule_laws.proofs.Splitting.{instead, map_below, faces_by_place}
use Rattle.rule_laws.proofs.Origins.{origins}
use Rattle.mending_laws.proofs.Dropping.{leave_rise}

-- ---- origins that rise are different

-- the origin at a place
origin_at : (fs : List Face) (i : ℕ) → i < length fs → get_or (origins fs) i 0 ≡ (face fs i).origin
unfolding face
origin_at fs i h = get_or_map_in (λ g. g.origin) fs i (record { a = 0; b = 0; c = 0; origin = 0 }) 0 h

-- faces of one origin stand at one place
pub one_place : (fs : List Face) → Up 0 (origins fs) → (i j : ℕ) → i < length fs → j < length fs → (face fs i).origin ≡ (face fs j).origin → i ≡ j
one_place fs up i j hi hj e = go (ℕ_discrete i j) (dec_lt i j)
  where
    l : length (origins fs) ≡ length fs
    l = length-map fs (λ g. g.origin)

    apart : (k n : ℕ) → k < n → n < length fs → (face fs k).origin < (face fs n).origin
    apart k n kn hn =
        let hk : k < length fs = omega arith in
        rw (← origin_at fs k hk, ← origin_at fs n hn) (up_at 0 (origins fs) k n up kn (omega (arith, l)))

    go : Dec (i ≡ j) → Dec (i < j) → i ≡ j
    go (yes q) d = q
    go (no q) (yes h) = absurd (omega (arith, apart i j h hj, e))
    go (no q) (no h) = absurd (omega (arith, apart j i (omega arith) hi, e))

-- ---- the faces that take the copy

module _ (v : ℕ) (fs : List Face) (fan : List ℕ) where
  -- face i takes it
  abbrev pub take-it : ℕ → Bool
  take-it i = has i fan && has v (corners (face fs i))

  -- a listed origin is that of a face that takes it
  pub taker_of : (x : ℕ) → Memᴰ x (takers v fs fan) → (j : ℕ) × (j < length fs) × ((face fs j).origin ≡ x) × T (take-it j)
  unfolding takers
  taker_of x m =
      let w = Memᴰ.of_map (λ i. (face fs i).origin) (filter take-it (below (length fs))) m in
      let k = mem_left take-it w.0 (below (length fs)) w.1 in
      (w.0, below_mem w.0 (length fs) k.0, w.2, k.1)

  -- and the origin of a face that takes it is listed
  pub is_taker : (i : ℕ) → i < length fs → T (take-it i) → Memᴰ (face fs i).origin (takers v fs fan)
  unfolding takers
  is_taker i h t = Memᴰ.map (λ j. (face fs j).origin) (mem_filter take-it i (below (length fs)) (mem_below i (length fs) h) t)

  -- listed or not, by place
  has_taker : Up 0 (origins fs) → (i : ℕ) → i < length fs → has (face fs i).origin (takers v fs fan) ≡ take-it i
  has_taker up i h =
      both_ways (has (face fs i).origin (takers v fs fan)) (take-it i)
      (λ t.
      let w = taker_of (face fs i).origin (has_mem (face fs i).origin (takers v fs fan) t) in
      subst (λ j. T (take-it j)) (one_place fs up w.0 i w.1 h w.2) w.3)
      (λ t. mem_has (face fs i).origin (takers v fs fan) (is_taker i h t))

-- a face without v is not changed by renaming v
pub renamed_without : (v t : ℕ) (f : Face) → has v (corners f) ≡ false → renamed (instead v t) f ≡ f
unfolding renamed has any
renamed_without v t f e = go (ℕ_discrete v f.a) (ℕ_discrete v f.b) (ℕ_discrete v f.c)
  where
    kept : (x : ℕ) → (v ≡ x → ⊥) → instead v t x ≡ x
    kept x ne = rw (ne_eqb x v (λ q. ne (sym q))) refl

    found : (a b c : Bool) → (a || (b || (c || false))) ≡ false → (a ≡ false) × (b ≡ false) × (c ≡ false)
    found false false false q = (refl, refl, refl)
    found false false true q = absurd (true≢false q)
    found false true c q = absurd (true≢false q)
    found true b c q = absurd (true≢false q)

    r : (eqb v f.a ≡ false) × (eqb v f.b ≡ false) × (eqb v f.c ≡ false)
    r = found (eqb v f.a) (eqb v f.b) (eqb v f.c) e

    no_x : (x : ℕ) → eqb v x ≡ false → v ≡ x → ⊥
    no_x x q s = true≢false (sym (eq-eqb v x s) ∙ q)

    go : Dec (v ≡ f.a) → Dec (v ≡ f.b) → Dec (v ≡ f.c) → renamed (instead v t) f ≡ f
    go p q s =
        λ i. record { a = kept f.a (no_x f.a r.0) i; b = kept f.b (no_x f.b r.1) i; c = kept f.c (no_x f.c r.2) i; origin = f.origin }

-- what the line makes of the faces is what splitting the group off makes of them
pub line_splits :
    (v new : ℕ) (fs : List Face) (fan : List ℕ) → Up 0 (origins fs)
    → map (λ g. cond (has g.origin (takers v fs fan)) (renamed (instead v new) g) g) fs
    ≡ map (λ i. cond (has i fan) (renamed (instead v new) (face fs i)) (face fs i)) (below (length fs))
line_splits v new fs fan up =
    ap (map (λ g. cond (has g.origin (takers v fs fan)) (renamed (instead v new) g) g)) (faces_by_place fs)
    ∙ map-map (λ g. cond (has g.origin (takers v fs fan)) (renamed (instead v new) g) g) (face fs) (below (length fs))
    ∙ map_below (λ i. cond (has (face fs i).origin (takers v fs fan)) (renamed (instead v new) (face fs i)) (face fs i)) (λ i. cond (has i fan) (renamed (instead v new) (face fs i)) (face fs i)) (length fs)
    (λ i h. ap (λ (b : Bool). cond b (renamed (instead v new) (face fs i)) (face fs i)) (has_taker v fs fan up i h) ∙ go (has i fan) (has v (corners (face fs i))) (face fs i) refl)
  where
    go : (b c : Bool) (f : Face) → has v (corners f) ≡ c → cond (b && c) (renamed (instead v new) f) f ≡ cond b (renamed (instead v new) f) f
    go true true f e = refl
    go true false f e = sym (renamed_without v new f e)
    go false c f e = refl

-- ---- the listed faces rise

-- what is listed are the origins of the faces left when those that do not take the copy have left
takers_left : (v : ℕ) (fs : List Face) (fan : List ℕ) → takers v fs fan ≡ origins (leave (λ i. not (take-it v fs fan i)) fs)
unfolding takers face
takers_left v fs fan =
    ap (λ (p : ℕ → Bool). map (λ i. (face fs i).origin) (filter p (below (length fs)))) (λ k i. sym (not-not (take-it v fs fan i)) k)
    ∙ sym (map-map (λ g. g.origin) (face fs) (filter (λ i. not (not (take-it v fs fan i))) (below (length fs))))
    ∙ ap origins (sym (leave_places (λ i. not (take-it v fs fan i)) fs (record { a = 0; b = 0; c = 0; origin = 0 })))

-- numbers that rise are rising
pub up_rising : (a : ℕ) (xs : List ℕ) → Up a xs → rising xs ≡ true
unfolding rising
up_rising a [] h = refl
up_rising a (x ∷ []) h = refl
up_rising a (x ∷ y ∷ xs) h = rw (lt-ltb x y h.1.0, up_rising (suc x) (y ∷ xs) h.1) refl

-- so they rise
pub takers_rise : (v : ℕ) (fs : List Face) (fan : List ℕ) → Up 0 (origins fs) → rising (takers v fs fan) ≡ true
takers_rise v fs fan up = up_rising 0 (takers v fs fan) (subst (Up 0) (sym (takers_left v fs fan)) (leave_rise 0 (λ i. not (take-it v fs fan i)) fs up))

-- and name input faces
pub takers_low : (F v : ℕ) (fs : List Face) (fan : List ℕ) → All (λ f. f.origin < F) fs → All (λ f. f < F) (takers v fs fan)
takers_low F v fs fan h =
    subst (All (λ f. f < F)) (sym (takers_left v fs fan))
    (go (leave (λ i. not (take-it v fs fan i)) fs) (all_leave (λ f. f.origin < F) (λ i. not (take-it v fs fan i)) fs h))
  where
    go : (gs : List Face) → All (λ f. f.origin < F) gs → All (λ f. f < F) (origins gs)
    go [] q = tt
    go (g ∷ gs) q = (q.0, go gs q.1)

-- ---- a face that takes a copy has a corner less below P

-- one element more
count_cons : (p : ℕ → Bool) (x : ℕ) (xs : List ℕ) → count p (x ∷ xs) ≡ cond (p x) 1 0 + count p xs
unfolding count filter
count_cons p x xs = go (p x)
  where
    go : (b : Bool) → length (cond b (x ∷ filter p xs) (filter p xs)) ≡ cond b 1 0 + length (filter p xs)
    go true = omega arith
    go false = omega arith

-- the corners below P
abbrev pub low : ℕ → List Face → ℕ
low P fs = count (λ x. ltb x P) (each corners fs)

module _ (P v new : ℕ) (hv : v < P) (hn : P ≤ new) where
  -- a corner v was one of them and is none; another stays as it is
  corner_pays : (x : ℕ) → cond (eqb v x) 1 0 + cond (ltb (instead v new x) P) 1 0 ≤ cond (ltb x P) 1 0
  corner_pays x = go (ℕ_discrete x v)
    where
      go : Dec (x ≡ v) → cond (eqb v x) 1 0 + cond (ltb (instead v new x) P) 1 0 ≤ cond (ltb x P) 1 0
      go (yes e) = rw (eq-eqb v x (sym e), eq-eqb x v e, le-ltb new P hn, lt-ltb x P (omega arith)) (omega arith)
      go (no n) = rw (ne_eqb v x (λ e. n (sym e)), ne_eqb x v n) (omega arith)

  -- a face with v pays at least one
  face_pays : (f : Face) → has v (corners f) ≡ true → 1 + count (λ x. ltb x P) (corners (renamed (instead v new) f)) ≤ count (λ x. ltb x P) (corners f)
  unfolding renamed
  face_pays f e =
      let q : ℕ → Bool = λ x. ltb x P in
      let a = corner_pays f.a in
      let b = corner_pays f.b in
      let c = corner_pays f.c in
      let one = some (eqb v f.a) (eqb v f.b) (eqb v f.c) (unfold has any in e) in
      rw (
        count_cons q (instead v new f.a) (instead v new f.b ∷ instead v new f.c ∷ []),
        count_cons q (instead v new f.b) (instead v new f.c ∷ []),
        count_cons q (instead v new f.c) [],
        count_cons q f.a (f.b ∷ f.c ∷ []),
        count_cons q f.b (f.c ∷ []),
        count_cons q f.c [],
      )
      (unfold count filter in (omega arith))
    where
      some : (a b c : Bool) → (a || (b || (c || false))) ≡ true → 1 ≤ cond a 1 0 + cond b 1 0 + cond c 1 0
      some true b c e = omega arith
      some false true c e = omega arith
      some false false true e = omega arith
      some false false false e = absurd (true≢false (sym e))

  -- each place pays if its face takes the copy
  place-pays :
      (b : Bool) (f : Face)
      → cond (b && has v (corners f)) 1 0 + count (λ x. ltb x P) (corners (cond b (renamed (instead v new) f) f)) ≤ count (λ x. ltb x P) (corners f)
  place-pays false f = omega arith
  place-pays true f = go (has v (corners f)) refl
    where
      go : (c : Bool) → has v (corners f) ≡ c → cond c 1 0 + count (λ x. ltb x P) (corners (renamed (instead v new) f)) ≤ count (λ x. ltb x P) (corners f)
      go true e = face_pays f e
      go false e = rw (renamed_without v new f e) (omega arith)

-- so for all places together
all_pay : (p q : ℕ → Bool) (h h' : ℕ → List ℕ) → ((i : ℕ) → cond (p i) 1 0 + count q (h' i) ≤ count q (h i)) → (is : List ℕ) → count p is + count q (each h' is) ≤ count q (each h is)
unfolding each
all_pay p q h h' e [] = unfold count filter in (omega arith)
all_pay p q h h' e (i ∷ is) =
    omega (arith, e i, all_pay p q h h' e is, count_cons p i is, count_append q (h' i) (each h' is), count_append q (h i) (each h is))

-- as many corners below P are gone as faces take the copy
pub takers_pay :
    (P v new : ℕ) (fs : List Face) (fan : List ℕ) → v < P → P ≤ new
    → length (takers v fs fan) + low P (map (λ i. cond (has i fan) (renamed (instead v new) (face fs i)) (face fs i)) (below (length fs))) ≤ low P fs
unfolding takers
takers_pay P v new fs fan hv hn =
    let q : ℕ → Bool = λ x. ltb x P in
    let after : ℕ → Face = λ i. cond (has i fan) (renamed (instead v new) (face fs i)) (face fs i) in
    let e1 : length (takers v fs fan) ≡ count (take-it v fs fan) (below (length fs)) = unfold count in (length-map (filter (take-it v fs fan) (below (length fs))) (λ i. (face fs i).origin)) in
    let e2 : low P (map after (below (length fs))) ≡ count q (each (λ i. corners (after i)) (below (length fs))) = ap (count q) (each_map corners after (below (length fs))) in
    let e3 : low P fs ≡ count q (each (λ i. corners (face fs i)) (below (length fs))) = ap (low P) (faces_by_place fs) ∙ ap (count q) (each_map corners (face fs) (below (length fs))) in
    omega (arith, e1, e2, e3, all_pay (take-it v fs fan) q (λ i. corners (face fs i)) (λ i. corners (after i)) (λ i. place-pays P v new hv hn (has i fan) (face fs i)) (below (length fs)))
