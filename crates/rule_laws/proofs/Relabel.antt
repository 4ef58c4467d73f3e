-- No pass looks at origins: faces with the same corners have the same entries, users, marks, walk and splits. Assumes nothing.
use mathlib.Core.Path.{◌≡◌, refl, sym, ap, ◌∙◌, subst}
use mathlib.Core.Bool.{Bool, true, false, not, ◌&&◌, ◌||◌, beq, cond}
use mathlib.Core.List.{List, [], ◌∷◌, ◌++◌, map, map-map}
use Prim.Native.Nat.{ℕ, zero, suc, ◌<◌}
use lib.ListN.{length, get_or, take, drop, set, replicate, length-set, length-map}
use lib.Seq.{ext_get_or, get_or-set_same, get_or-set_other, set_out}
use native.Mathlib.Decide.{ℕ_discrete, dec_lt}
use native.Mathlib.Omega.{arith}
use lib.Dec.{T, eqb, ltb, leb}
use lib.Ieee.{Float}
use Rattle.rules.specs.Lists.{below, filter, count, any, all, each, has, through}
use Rattle.rules.specs.Mesh.{Point, Face, point, face, exchanged, renamed, corners, faces_from, faces_of, flat_faces}
use Rattle.rules.specs.Float.{quality, repeats, shape, is_repeated, is_thin}
use Rattle.rules.specs.State.{State, more, counted, vertices_split, points_added}
use Rattle.rules.specs.Groups.{groups}
use Rattle.rules.specs.Pass1.{repeated1, thin1, marked1}
use Rattle.rules.specs.Pass2.{least, middle, greatest, alike, marked2}
use Rattle.rules.specs.Steps.{Step, step, steps, walks, same, opposite, edge, entries, users, walkers, edges, directed, pairs, quality_of}
use Rattle.rules.specs.Pass3.{crowded, kept, second, marked3}
use Rattle.rules.specs.Pass4.{Walk, Oriented, remark, visit, meet, across, popped, run, started, component, closed, begin, oriented, marked4}
use Rattle.rules.specs.Pass5.{entries_at, share, fans, split_off, split, pass5}
use Rattle.rules.specs.Pass6.{used, number}
use Rattle.rules.specs.Edges.{sound}
use Rattle.rules.specs.Rank.{best, without}
use Rattle.rule_laws.proofs.Lists.{each_map}
use Rattle.rule_laws.proofs.Demand.{Chain, OneFan}
use Rattle.rule_laws.proofs.Rising.{all_from}
use Rattle.rule_laws.proofs.Once.{Inside, CornersBelow, Once, face_inside}

-- the same faces, whatever their origins are
pub record Alike (gs fs : List Face) : Type 0 where
  pub long : length gs ≡ length fs
  pub at_a : (i : ℕ) → (face gs i).a ≡ (face fs i).a
  pub at_b : (i : ℕ) → (face gs i).b ≡ (face fs i).b
  pub at_c : (i : ℕ) → (face gs i).c ≡ (face fs i).c

module _ (gs fs : List Face) (h : Alike gs fs) where
  pub entries_alike : entries gs ≡ entries fs
  unfolding entries
  entries_alike = λ k. each (λ i. map (λ s. record { by = i; along = s }) (step (h.at_a i k) (h.at_b i k) ∷ step (h.at_b i k) (h.at_c i k) ∷ step (h.at_c i k) (h.at_a i k) ∷ [])) (below (h.long k))

  pub users_alike : (e : Step) → users gs e ≡ users fs e
  unfolding users
  users_alike e = ap (λ es. map (λ n. n.by) (filter (λ n. same e (edge n.along)) es)) entries_alike

  pub walkers_alike : (d : Step) → walkers gs d ≡ walkers fs d
  unfolding walkers
  walkers_alike d = ap (λ es. map (λ n. n.by) (filter (λ n. same d n.along) es)) entries_alike

  pub edges_alike : (P : ℕ) → edges P gs ≡ edges P fs
  unfolding edges
  edges_alike P = ap (λ es. filter (λ e. any (λ n. same e (edge n.along)) es) (pairs P)) entries_alike

  pub walks_alike : (i : ℕ) (e : Step) → walks (face gs i) e ≡ walks (face fs i) e
  unfolding walks
  walks_alike i e = λ k. any (same e) (step (h.at_a i k) (h.at_b i k) ∷ step (h.at_b i k) (h.at_c i k) ∷ step (h.at_c i k) (h.at_a i k) ∷ [])

  pub quality_alike : (ps : List Point) (i : ℕ) → quality_of ps gs i ≡ quality_of ps fs i
  unfolding quality_of quality
  quality_alike ps i = λ k. quality ps (record { a = h.at_a i k; b = h.at_b i k; c = h.at_c i k; origin = 0 })

  pub crowded_alike : (P : ℕ) → crowded P gs ≡ crowded P fs
  unfolding crowded
  crowded_alike P = λ k. filter (λ e. ltb 2 (length (users_alike e k))) (edges_alike P k)

  pub kept_alike : (ps : List Point) (e : Step) (us : List ℕ) (i : ℕ) → kept (quality_of ps gs) gs e us i ≡ kept (quality_of ps fs) fs e us i
  unfolding kept
  kept_alike ps e us i = λ k.
      let q : ℕ → Float = λ j. quality_alike ps j k in
      let one = best q us in
      let two = second q one us (filter (λ j. not (beq (walks_alike j e k) (walks_alike one e k))) us) in
      eqb i one || eqb i two

  pub marked3_alike : (ps : List Point) (i : ℕ) → marked3 ps gs i ≡ marked3 ps fs i
  unfolding marked3
  marked3_alike ps i = λ k. any (λ e. has i (users_alike e k) && not (both e k)) (crowded_alike (length ps) k)
    where
      both : (e : Step) → kept (quality_of ps gs) gs e (users gs e) i ≡ kept (quality_of ps fs) fs e (users fs e) i
      both e = kept_alike ps e (users gs e) i ∙ ap (λ us. kept (quality_of ps fs) fs e us i) (users_alike e)

  pub directed_alike : (P : ℕ) → directed P gs ≡ directed P fs
  unfolding directed
  directed_alike P = ap (λ es. filter (λ d. any (λ n. same d n.along) es) (pairs P)) entries_alike

  pub marked4_alike : (ps : List Point) (i : ℕ) → marked4 ps gs i ≡ marked4 ps fs i
  unfolding marked4
  marked4_alike ps i = λ k.
      let q : ℕ → Float = λ j. quality_alike ps j k in
      any (λ d. has i (without (best q (walkers_alike d k)) (walkers_alike d k))) (directed_alike (length ps) k)

  pub shape_alike : (s : Float) (ps : List Point) (i : ℕ) → shape s ps (face gs i) ≡ shape s ps (face fs i)
  unfolding shape repeats
  shape_alike s ps i = λ k. shape s ps (record { a = h.at_a i k; b = h.at_b i k; c = h.at_c i k; origin = 0 })

  pub repeated1_alike : (s : Float) (ps : List Point) (i : ℕ) → repeated1 s ps gs i ≡ repeated1 s ps fs i
  unfolding repeated1
  repeated1_alike s ps i = ap is_repeated (shape_alike s ps i)

  pub thin1_alike : (s : Float) (ps : List Point) (i : ℕ) → thin1 s ps gs i ≡ thin1 s ps fs i
  unfolding thin1
  thin1_alike s ps i = ap is_thin (shape_alike s ps i)

  pub marked1_alike : (s : Float) (ps : List Point) (i : ℕ) → marked1 s ps gs i ≡ marked1 s ps fs i
  unfolding marked1
  marked1_alike s ps i = λ k. repeated1_alike s ps i k || thin1_alike s ps i k

-- ---- faces by their corners alone

-- a face without its origin
abbrev pub bare : Face → Face
bare f = record { a = f.a; b = f.b; c = f.c; origin = 0 }

-- the face at a place, without its origin
face_bare : (fs : List Face) (i : ℕ) → face (map bare fs) i ≡ bare (face fs i)
unfolding face
face_bare [] i = refl
face_bare (f ∷ fs) zero = refl
face_bare (f ∷ fs) (suc i) = face_bare fs i

-- the same lists of bare faces
pub alike_bare : (gs fs : List Face) → map bare gs ≡ map bare fs → Alike gs fs
alike_bare gs fs e =
    record {
      long = sym (length-map gs bare) ∙ ap length e ∙ length-map fs bare;
      at_a = λ i. ap (λ f. f.a) (at i);
      at_b = λ i. ap (λ f. f.b) (at i);
      at_c = λ i. ap (λ f. f.c) (at i);
    }
  where
    at : (i : ℕ) → bare (face gs i) ≡ bare (face fs i)
    at i = sym (face_bare gs i) ∙ ap (λ l. face l i) e ∙ face_bare fs i

-- and back
pub bare_alike : (gs fs : List Face) → Alike gs fs → map bare gs ≡ map bare fs
unfolding face
bare_alike gs fs h =
    ext_get_or (record { a = 0; b = 0; c = 0; origin = 0 }) (map bare gs) (map bare fs) (length-map gs bare ∙ h.long ∙ sym (length-map fs bare))
    (λ i l. face_bare gs i ∙ (λ k. record { a = h.at_a i k; b = h.at_b i k; c = h.at_c i k; origin = 0 }) ∙ sym (face_bare fs i))

-- a test that does not look at origins
any_bare : (p : Face → Bool) → ((f : Face) → p (bare f) ≡ p f) → (fs : List Face) → any p (map bare fs) ≡ any p fs
unfolding any
any_bare p e [] = refl
any_bare p e (f ∷ fs) = λ k. e f k || any_bare p e fs k

-- and of all faces
all_bare : (p : Face → Bool) → ((f : Face) → p (bare f) ≡ p f) → (fs : List Face) → all p (map bare fs) ≡ all p fs
unfolding all
all_bare p e [] = refl
all_bare p e (f ∷ fs) = λ k. e f k && all_bare p e fs k

take_bare : (i : ℕ) (fs : List Face) → take i (map bare fs) ≡ map bare (take i fs)
take_bare zero fs = refl
take_bare (suc i) [] = refl
take_bare (suc i) (f ∷ fs) = ap (λ l. bare f ∷ l) (take_bare i fs)

module _ (gs fs : List Face) (h : Alike gs fs) where
  pub marked2_alike : (i : ℕ) → marked2 gs i ≡ marked2 fs i
  unfolding marked2 alike least middle greatest
  marked2_alike i =
      sym (any_bare (alike (face gs i)) (λ f. refl) (take i gs))
      ∙ ap (any (alike (face gs i))) (sym (take_bare i gs) ∙ ap (take i) (bare_alike gs fs h) ∙ take_bare i fs)
      ∙ any_bare (alike (face gs i)) (λ f. refl) (take i fs)
      ∙ (λ k. any (alike (record { a = h.at_a i k; b = h.at_b i k; c = h.at_c i k; origin = 0 })) (take i fs))

  pub used_alike : (v : ℕ) → used gs v ≡ used fs v
  unfolding used
  used_alike v =
      sym (any_bare (λ f. has v (corners f)) (λ f. refl) gs) ∙ ap (any (λ f. has v (corners f))) (bare_alike gs fs h) ∙ any_bare (λ f. has v (corners f)) (λ f. refl) fs

  pub number_alike : (v : ℕ) → number gs v ≡ number fs v
  unfolding number
  number_alike v = λ k. count (λ u. used_alike u k) (below v)

  pub fans_alike : (v : ℕ) → fans gs v ≡ fans fs v
  unfolding fans entries_at share
  fans_alike v = λ k.
      let bared : ℕ → Face = λ i. record { a = h.at_a i k; b = h.at_b i k; c = h.at_c i k; origin = 0 } in
      let at = each (λ i. map (λ x. i) (filter (eqb v) (corners (bared i)))) (below (h.long k)) in
      map (map (λ j. get_or at j 0)) (groups (λ j l. share v (bared (get_or at j 0)) (bared (get_or at l 0))) (length at))

  -- the steps of all faces
  steps_alike : each steps gs ≡ each steps fs
  steps_alike = sym (each_map steps bare gs) ∙ ap (each steps) (bare_alike gs fs h) ∙ each_map steps bare fs

  -- the corners of all faces
  corners_alike : each corners gs ≡ each corners fs
  corners_alike = sym (each_map corners bare gs) ∙ ap (each corners) (bare_alike gs fs h) ∙ each_map corners bare fs

  -- which faces repeat a corner
  distinct_alike : all (λ f. not (repeats f)) gs ≡ all (λ f. not (repeats f)) fs
  unfolding repeats
  distinct_alike =
      sym (all_bare (λ f. not (repeats f)) (λ f. refl) gs) ∙ ap (all (λ f. not (repeats f))) (bare_alike gs fs h) ∙ all_bare (λ f. not (repeats f)) (λ f. refl) fs

  -- the edge check's yes
  pub sound_alike : sound gs ≡ sound fs
  unfolding sound
  sound_alike = λ k.
      distinct_alike k && all (λ s. leb (count (same s) (steps_alike k)) 1) (steps_alike k)
      && all (λ v. eqb (length (fans_alike v k)) 1) (corners_alike k)

-- ---- the walk: the same but for origins

-- two walks that differ in origins alone
pub record SameWalk (v w : Walk) : Type 0 where
  pub faces : Alike v.faces w.faces
  pub visited : v.visited ≡ w.visited
  pub stack : v.stack ≡ w.stack
  pub exchanges : v.exchanges ≡ w.exchanges
  pub mark : v.mark ≡ w.mark

-- an exchange of one face in both
set_alike : (gs fs : List Face) (n : ℕ) → Alike gs fs → Alike (set gs n (exchanged (face gs n))) (set fs n (exchanged (face fs n)))
unfolding face exchanged
set_alike gs fs n h = record { long = length-set gs n _ ∙ h.long ∙ sym (length-set fs n _); at_a = λ i. (go i).0; at_b = λ i. (go i).1; at_c = λ i. (go i).2 }
  where
    d : Face
    d = record { a = 0; b = 0; c = 0; origin = 0 }

    Eq : Face → Face → Type 0
    Eq g f = (g.a ≡ f.a) × (g.b ≡ f.b) × (g.c ≡ f.c)

    go : (i : ℕ) → Eq (get_or (set gs n (exchanged (face gs n))) i d) (get_or (set fs n (exchanged (face fs n))) i d)
    go i = at (ℕ_discrete i n) (dec_lt n (length gs))
      where
        at : Dec (i ≡ n) → Dec (n < length gs) → Eq (get_or (set gs n (exchanged (face gs n))) i d) (get_or (set fs n (exchanged (face fs n))) i d)
        at (no ne) q = rw (get_or-set_other gs n i (exchanged (face gs n)) d ne, get_or-set_other fs n i (exchanged (face fs n)) d ne) (h.at_a i, h.at_b i, h.at_c i)
        at (yes e) (yes l) = rw (e, get_or-set_same gs n (exchanged (face gs n)) d l, get_or-set_same fs n (exchanged (face fs n)) d (omega (arith, h.long))) (h.at_a n, h.at_c n, h.at_b n)
        at (yes e) (no l) = rw (set_out gs n (exchanged (face gs n)) (omega arith), set_out fs n (exchanged (face fs n)) (omega (arith, h.long))) (h.at_a i, h.at_b i, h.at_c i)

module _ {A B : Type 0} where
  -- two states that go through one list stay related
  through_both : (R : B → B → Type 0) (f : B → A → B) → ((s t : B) (x : A) → R s t → R (f s x) (f t x)) → (xs : List A) (s t : B) → R s t → R (through f s xs) (through f t xs)
  unfolding through
  through_both R f h [] s t r = r
  through_both R f h (x ∷ xs) s t r = through_both R f h xs (f s x) (f t x) (h s t x r)

-- a visit or a mark, by what was found
met : Bool → Bool → ℕ → Walk → Walk
met b a n w = cond b (remark a w) (visit a n w)

met_same : (b a : Bool) (n : ℕ) (v w : Walk) → SameWalk v w → SameWalk (met b a n v) (met b a n w)
unfolding met remark visit
met_same true a n v w h = record { faces = h.faces; visited = h.visited; stack = h.stack; exchanges = h.exchanges; mark = λ k. h.mark k || not a }
met_same false true n v w h =
    record { faces = h.faces; visited = λ k. set (h.visited k) n true; stack = λ k. n ∷ h.stack k; exchanges = h.exchanges; mark = h.mark }
met_same false false n v w h =
    record {
      faces = set_alike v.faces w.faces n h.faces;
      visited = λ k. set (h.visited k) n true;
      stack = λ k. n ∷ h.stack k;
      exchanges = λ k. suc (h.exchanges k);
      mark = h.mark;
    }

-- meeting a neighbour
meet_same : (s : Step) (v w : Walk) (n : ℕ) → SameWalk v w → SameWalk (meet s v n) (meet s w n)
unfolding meet met
meet_same s v w n h =
    let a = walks (face w.faces n) (opposite s) in
    let b = get_or w.visited n false in
    subst (λ (c : Bool). SameWalk (met c (walks (face v.faces n) (opposite s)) n v) (met b a n w)) (sym (ap (λ l. get_or l n false) h.visited))
    (subst (λ (c : Bool). SameWalk (met b c n v) (met b a n w)) (sym (walks_alike v.faces w.faces h.faces n (opposite s))) (met_same b a n v w h))

-- meeting all users of an edge
across_same : (i : ℕ) (v w : Walk) (s : Step) → SameWalk v w → SameWalk (across i v s) (across i w s)
unfolding across
across_same i v w s h =
    subst (λ us. SameWalk (through (meet s) v (filter (λ n. not (eqb n i)) us)) (through (meet s) w (filter (λ n. not (eqb n i)) (users w.faces (edge s))))) (sym (users_alike v.faces w.faces h.faces (edge s)))
    (through_both SameWalk (meet s) (λ x y n r. meet_same s x y n r) (filter (λ n. not (eqb n i)) (users w.faces (edge s))) v w h)

-- one face from the stack
popped_same : (i : ℕ) (rest : List ℕ) (v w : Walk) → SameWalk v w
    → SameWalk (through (across i) (popped rest v) (steps (face v.faces i))) (through (across i) (popped rest w) (steps (face w.faces i)))
unfolding popped
popped_same i rest v w h =
    subst (λ ss. SameWalk (through (across i) (popped rest v) ss) (through (across i) (popped rest w) (steps (face w.faces i)))) (sym same_steps)
    (through_both SameWalk (across i) (λ x y s r. across_same i x y s r) (steps (face w.faces i)) (popped rest v) (popped rest w)
    (record { faces = h.faces; visited = h.visited; stack = refl; exchanges = h.exchanges; mark = h.mark }))
  where
    same_steps : steps (face v.faces i) ≡ steps (face w.faces i)
    same_steps = λ k. step (h.faces.at_a i k) (h.faces.at_b i k) ∷ step (h.faces.at_b i k) (h.faces.at_c i k) ∷ step (h.faces.at_c i k) (h.faces.at_a i k) ∷ []

-- all faces from the stack
run_same : (n : ℕ) (stack : List ℕ) (v w : Walk) → SameWalk v w → SameWalk (run n stack v) (run n stack w)
unfolding run
run_same zero stack v w h = h
run_same (suc n) [] v w h = h
run_same (suc n) (i ∷ rest) v w h =
    let after-v = through (across i) (popped rest v) (steps (face v.faces i)) in
    let after-w = through (across i) (popped rest w) (steps (face w.faces i)) in
    let r : SameWalk after-v after-w = popped_same i rest v w h in
    subst (λ st. SameWalk (run n st after-v) (run n after-w.stack after-w)) (sym r.stack) (run_same n after-w.stack after-v after-w r)

-- two orientations that differ in origins alone
pub record SameOriented (o p : Oriented) : Type 0 where
  pub walk : SameWalk o.walk p.walk
  pub marks : o.marks ≡ p.marks

-- the walk through a component
component_same : (v w : Walk) (i : ℕ) → SameWalk v w → SameWalk (component v i) (component w i)
unfolding component started
component_same v w i h =
    subst (λ (n : ℕ). SameWalk (run n (i ∷ []) (started i v)) (run (length w.faces) (i ∷ []) (started i w))) (sym h.faces.long)
    (run_same (length w.faces) (i ∷ []) (started i v) (started i w)
    (record { faces = h.faces; visited = λ k. set (h.visited k) i true; stack = refl; exchanges = h.exchanges; mark = refl }))

-- a component begun at i
begin_same : (o p : Oriented) (i : ℕ) → SameOriented o p → SameOriented (begin o i) (begin p i)
unfolding begin
begin_same o p i h =
    subst (λ (b : Bool). SameOriented (cond b o (closed o.marks (component o.walk i))) (cond (get_or p.walk.visited i false) p (closed p.marks (component p.walk i)))) (sym (ap (λ l. get_or l i false) h.walk.visited))
    (go (get_or p.walk.visited i false) (component_same o.walk p.walk i h.walk))
  where
    go : (b : Bool) → SameWalk (component o.walk i) (component p.walk i)
        → SameOriented (cond b o (closed o.marks (component o.walk i))) (cond b p (closed p.marks (component p.walk i)))
    go true r = h
    go false r = unfold closed in (record { walk = r; marks = λ k. cond (r.mark k) (suc (h.marks k)) (h.marks k) })

-- the first half of pass 4 does not look at origins
pub oriented_alike : (gs fs : List Face) → Alike gs fs → SameOriented (oriented gs) (oriented fs)
unfolding oriented
oriented_alike gs fs h =
    subst (λ (n : ℕ). SameOriented (through begin (first gs) (below n)) (through begin (first fs) (below (length fs)))) (sym h.long)
    (through_both SameOriented begin begin_same (below (length fs)) (first gs) (first fs)
    (record {
      walk = record { faces = h; visited = λ k. replicate (h.long k) false; stack = refl; exchanges = refl; mark = refl };
      marks = refl;
    }))
  where
    first : List Face → Oriented
    first xs = record { walk = record { faces = xs; visited = replicate (length xs) false; stack = []; exchanges = 0; mark = false }; marks = 0 }

-- ---- pass 5: the same but for origins

-- two states that differ in origins alone
pub record SameState (m n : State) : Type 0 where
  pub points : m.points ≡ n.points
  pub faces : Alike m.faces n.faces
  pub report : m.report ≡ n.report

-- one group split off
off_same : (v : ℕ) (m n : State) (fan : List ℕ) → SameState m n → SameState (split_off v m fan) (split_off v n fan)
unfolding split_off
off_same v m n fan h =
    record {
      points = λ k. h.points k ++ (point (h.points k) v ∷ []);
      faces = alike_bare (after m) (after n) (bared m ∙ row ∙ sym (bared n));
      report = λ k. more points_added 1 (h.report k);
    }
  where
    after : State → List Face
    after x = map (λ i. cond (has i fan) (renamed (λ y. cond (eqb y v) (length x.points) y) (face x.faces i)) (face x.faces i)) (below (length x.faces))

    one : ℕ → ℕ → Face → Face
    one p i f = cond (has i fan) (renamed (λ y. cond (eqb y v) p y) (bare f)) (bare f)

    under : (b : Bool) (number : ℕ → ℕ) (f : Face) → bare (cond b (renamed number f) f) ≡ cond b (renamed number (bare f)) (bare f)
    under true number f = unfold renamed in refl
    under false number f = refl

    bared : (x : State) → map bare (after x) ≡ map (λ i. one (length x.points) i (face x.faces i)) (below (length x.faces))
    bared x =
        map-map bare (λ i. cond (has i fan) (renamed (λ y. cond (eqb y v) (length x.points) y) (face x.faces i)) (face x.faces i)) (below (length x.faces))
        ∙ ap (λ (f : ℕ → Face). map f (below (length x.faces))) (λ k i. under (has i fan) (λ y. cond (eqb y v) (length x.points) y) (face x.faces i) k)

    row : map (λ i. one (length m.points) i (face m.faces i)) (below (length m.faces)) ≡ map (λ i. one (length n.points) i (face n.faces i)) (below (length n.faces))
    row = λ k.
        map (λ i. one (length (h.points k)) i (record { a = h.faces.at_a i k; b = h.faces.at_b i k; c = h.faces.at_c i k; origin = 0 })) (below (h.faces.long k))

-- one vertex
split_same : (m n : State) (v : ℕ) → SameState m n → SameState (split m v) (split n v)
unfolding split counted
split_same m n v h =
    subst (λ fs. SameState (through (split_off v) (begun fs m) (drop 1 fs)) (through (split_off v) (begun (fans n.faces v) n) (drop 1 (fans n.faces v)))) (sym (fans_alike m.faces n.faces h.faces v))
    (through_both SameState (split_off v) (λ x y fan r. off_same v x y fan r) (drop 1 (fans n.faces v)) (begun (fans n.faces v) m) (begun (fans n.faces v) n)
    (record { points = h.points; faces = h.faces; report = λ k. more vertices_split (cond (ltb 1 (length (fans n.faces v))) 1 0) (h.report k) }))
  where
    begun : List (List ℕ) → State → State
    begun fs x = counted vertices_split (cond (ltb 1 (length fs)) 1 0) x

-- pass 5 does not look at origins
pub pass5_alike : (m n : State) → SameState m n → SameState (pass5 m) (pass5 n)
unfolding pass5
pass5_alike m n h =
    subst (λ (p : ℕ). SameState (through split m (below p)) (through split n (below (length n.points)))) (sym (ap length h.points))
    (through_both SameState split (λ x y v r. split_same x y v r) (below (length n.points)) m n h)

-- ---- what holds of faces holds of the same faces with other origins

module _ (gs fs : List Face) (h : Alike gs fs) where
  -- corners that are points
  pub inside_alike : (P : ℕ) → Inside P fs → Inside P gs
  unfolding face
  inside_alike P q =
      all_from (CornersBelow P) (record { a = 0; b = 0; c = 0; origin = 0 }) gs
      (λ i l.
      let b = face_inside P fs q i (rw h.long at l) in
      (rw (h.at_a i) b.0, rw (h.at_b i) b.1, rw (h.at_c i) b.2))

  -- directed edges walked once
  pub once_alike : Once fs → Once gs
  once_alike q d = rw (walkers_alike gs fs h d) (q d)

-- one fan, by how many faces there are and by their corners
Fan : ℕ → (ℕ → List ℕ) → ℕ → Type 0
Fan n c v =
    (i j : ℕ) → i < n → j < n → T (has v (c i)) → T (has v (c j))
    → Chain (λ k l. has v (c k) && (has v (c l) && any (λ x. not (eqb x v) && has x (c l)) (c k))) n i j

-- one fan at a point
pub fan_alike : (gs fs : List Face) → Alike gs fs → (v : ℕ) → OneFan fs v → OneFan gs v
unfolding Fan
fan_alike gs fs h v q =
    subst (λ (n : ℕ). Fan n (λ i. corners (face gs i)) v) (sym h.long)
    (subst (λ (c : ℕ → List ℕ). Fan (length fs) c v) (λ k i. sym (same_corners i) k) q)
  where
    same_corners : (i : ℕ) → corners (face gs i) ≡ corners (face fs i)
    same_corners i = λ k. h.at_a i k ∷ h.at_b i k ∷ h.at_c i k ∷ []

-- ---- faces made flat, and read again

-- the same corners at a place
Three : Face → Face → Type 0
Three g f = (g.a ≡ f.a) × (g.b ≡ f.b) × (g.c ≡ f.c)

from_flat : (k : ℕ) (fs : List Face) (i : ℕ) → Three (face (faces_from k (flat_faces fs)) i) (face fs i)
unfolding Three face faces_from flat_faces each
from_flat k [] i = (refl, refl, refl)
from_flat k (f ∷ fs) zero = (refl, refl, refl)
from_flat k (f ∷ fs) (suc i) = from_flat (suc k) fs i

from_length : (k : ℕ) (fs : List Face) → length (faces_from k (flat_faces fs)) ≡ length fs
unfolding faces_from flat_faces each
from_length k [] = refl
from_length k (f ∷ fs) = ap suc (from_length (suc k) fs)

-- flat faces, read again, are the same but for their origins
pub flat_alike : (fs : List Face) → Alike (faces_of (flat_faces fs)) fs
unfolding Three
flat_alike fs = record { long = from_length 0 fs; at_a = λ i. (from_flat 0 fs i).0; at_b = λ i. (from_flat 0 fs i).1; at_c = λ i. (from_flat 0 fs i).2 }
