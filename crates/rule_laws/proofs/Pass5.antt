-- After pass 5 the faces at every point form one fan joined across edges. Assumes nothing.
use mathlib.Core.Path.{◌≡◌, refl, sym, ap, ◌∙◌, subst}
use mathlib.Core.Logic.{◌⊎◌, inl, inr}
use mathlib.Core.Bool.{Bool, true, false, cond}
use mathlib.Core.List.{List, [], ◌∷◌, map, map-map}
use Prim.Native.Nat.{ℕ, zero, suc, ◌+◌, ◌≤◌, ◌<◌}
use native.Mathlib.Omega.{arith}
use native.Mathlib.Nat.{add-zero, not-suc-le-zero}
use native.Mathlib.Decide.{ℕ_discrete, dec_lt}
use lib.ListN.{length, drop, length-append}
use lib.Dec.{eqb, ltb}
use borrow.Author.Tests.{lt-ltb, le-ltb, eqb-true}
use Rattle.rules.specs.Lists.{below, through, has}
use Rattle.rules.specs.Mesh.{Face, point, face, renamed}
use Rattle.rules.specs.State.{State, counted, vertices_split}
use Rattle.rules.specs.Pass5.{fans, split_off, split, pass5}
use Rattle.rule_laws.proofs.Lists.{through_last}
use Rattle.rule_laws.proofs.Rising.{all_imp, below_all, all_map}
use Rattle.rule_laws.proofs.Once.{Inside, Once, CornersBelow, face_inside}
use Rattle.rule_laws.proofs.Splitting.{instead, target, map_below, faces_by_place, split_is}
use Rattle.rule_laws.proofs.Demand.{OneFan}
use Rattle.rule_laws.proofs.Fans.{keep_fan, one_fan, out, target_new}
use Rattle.rule_laws.proofs.Renaming.{once_back}

-- each group split off adds a point
pub split_points : (v : ℕ) (gs : List (List ℕ)) (m : State) → length (through (split_off v) m gs).points ≡ length m.points + length gs
unfolding through split_off
split_points v [] m = sym (add-zero (length m.points))
split_points v (g ∷ gs) m =
    let e = split_points v gs (split_off v m g) in
    let l = length-append m.points (point m.points v ∷ []) in
    omega arith

-- the number of a face is below the new number of points
pub target_below : (v P : ℕ) (gs : List (List ℕ)) (i : ℕ) → v < P → target v P gs i < P + length gs
unfolding target
target_below v P [] i h = omega arith
target_below v P (g ∷ gs) i h = go (has i g) (target_below v (suc P) gs i (omega arith))
  where
    go : (b : Bool) → target v (suc P) gs i < suc P + length gs → cond b P (target v (suc P) gs i) < P + suc (length gs)
    go true l = omega arith
    go false l = omega arith

-- ---- one split

module _ (m : State) (v : ℕ) (inside : Inside (length m.points) m.faces) (hv : v < length m.points) where
  -- a split adds a point for each group but the first
  pub split_length : length (split m v).points ≡ length m.points + length (drop 1 (fans m.faces v))
  unfolding split counted
  split_length = split_points v (drop 1 (fans m.faces v)) (counted vertices_split (cond (ltb 1 (length (fans m.faces v))) 1 0) m)

  -- no point is lost
  pub split_grows : length m.points ≤ length (split m v).points
  split_grows = omega (arith, split_length)

  -- corners stay points
  pub split_inside : Inside (length (split m v).points) (split m v).faces
  unfolding renamed face
  split_inside =
      rw (split_length, split_is m v hv)
      (all_map In (λ i. renamed (instead v (t i)) (face m.faces i)) (below (length m.faces))
      (all_imp (λ i. i < length m.faces) (λ i. In (renamed (instead v (t i)) (face m.faces i))) each_in (below (length m.faces)) (below_all (length m.faces))))
    where
      t : ℕ → ℕ
      t i = target v (length m.points) (drop 1 (fans m.faces v)) i

      In : Face → Type 0
      In = CornersBelow (length m.points + length (drop 1 (fans m.faces v)))

      one : (i x : ℕ) → x < length m.points → instead v (t i) x < length m.points + length (drop 1 (fans m.faces v))
      one i x h = go (eqb x v) (target_below v (length m.points) (drop 1 (fans m.faces v)) i hv)
        where
          go : (b : Bool) → t i < length m.points + length (drop 1 (fans m.faces v)) → cond b (t i) x < length m.points + length (drop 1 (fans m.faces v))
          go true l = l
          go false l = omega arith

      each_in : (i : ℕ) → i < length m.faces → In (renamed (instead v (t i)) (face m.faces i))
      each_in i h =
          let b = face_inside (length m.points) m.faces inside i h in
          (one i (face m.faces i).a b.0, one i (face m.faces i).b b.1, one i (face m.faces i).c b.2)

-- ---- the pass

-- after the turns below k every one of those, and every copy, has one fan
pub record TurnedTo (m : State) (k : ℕ) (now : State) : Type 0 where
  pub inside : Inside (length now.points) now.faces
  pub grown : length m.points ≤ length now.points
  pub fanned : (u : ℕ) → (u < k) ⊎ (length m.points ≤ u) → u < length now.points → OneFan now.faces u

-- one vertex more: it and its copies get one fan, all others keep theirs
turn : (m now : State) (k : ℕ) → k < length m.points → TurnedTo m k now → TurnedTo m (suc k) (split now k)
unfolding out
turn m now k hk t =
    record {
      inside = split_inside now k t.inside hv;
      grown = omega (arith, split_grows now k t.inside hv, t.grown);
      fanned = λ u what hu. go u what (ℕ_discrete u k) (dec_lt u (length now.points));
    }
  where
    hv : k < length now.points
    hv = omega (arith, t.grown)

    go : (u : ℕ) → (u < suc k) ⊎ (length m.points ≤ u) → Dec (u ≡ k) → Dec (u < length now.points) → OneFan (split now k).faces u
    go u what (yes e) d = one_fan now k t.inside hv u (inl e)
    go u what (no ne) (no l) = one_fan now k t.inside hv u (inr (omega arith))
    go u (inl l) (no ne) (yes h) = keep_fan now k t.inside hv u ne h (t.fanned u (inl (omega arith)) h)
    go u (inr l) (no ne) (yes h) = keep_fan now k t.inside hv u ne h (t.fanned u (inr l) h)

-- so after all turns below k
pub turns : (m : State) → Inside (length m.points) m.faces → (k : ℕ) → k ≤ length m.points → TurnedTo m k (through split m (below k))
turns m inside zero h =
    unfold through below in
    (record { inside = inside; grown = omega arith; fanned = λ u what hu. absurd (none u what hu) })
  where
    none : (u : ℕ) → (u < 0) ⊎ (length m.points ≤ u) → u < length m.points → ⊥
    none u (inl l) hu = not-suc-le-zero l
    none u (inr l) hu = omega arith
turns m inside (suc k) h =
    subst (λ s. TurnedTo m (suc k) s) (sym (through_last split m k)) (turn m (through split m (below k)) k h (turns m inside k (omega arith)))

-- after the pass every point has one fan
pub pass5_fans :
    (m : State) → Inside (length m.points) m.faces
    → (u : ℕ) → u < length (pass5 m).points → OneFan (pass5 m).faces u
unfolding pass5
pass5_fans m inside u h = (turns m inside (length m.points) (omega arith)).fanned u (where_is (dec_lt u (length m.points))) h
  where
    where_is : Dec (u < length m.points) → (u < length m.points) ⊎ (length m.points ≤ u)
    where_is (yes l) = inl l
    where_is (no l) = inr (omega arith)

-- ---- directed edges: a split is undone by sending each copy home

-- the vertex of which x is a copy; x itself if it is none
abbrev pub home : ℕ → ℕ → ℕ → ℕ
home P v x = cond (ltb x P) x v

-- sent home, a corner is what it was
pub home_back : (P v t x : ℕ) → v < P → x < P → (t ≡ v) ⊎ (P ≤ t) → home P v (instead v t x) ≡ x
home_back P v t x hv hx w = go (eqb x v) refl w
  where
    go : (b : Bool) → eqb x v ≡ b → (t ≡ v) ⊎ (P ≤ t) → home P v (cond b t x) ≡ x
    go false q w = rw (lt-ltb x P hx)
    go true q (inl e) = rw (e, lt-ltb v P hv) (sym (eqb-true x v q))
    go true q (inr l) = rw (le-ltb t P l) (sym (eqb-true x v q))

module _ (m : State) (v : ℕ) (inside : Inside (length m.points) m.faces) (hv : v < length m.points) where
  -- sent home, the faces after a split are those before
  pub split_home : map (renamed (home (length m.points) v)) (split m v).faces ≡ m.faces
  unfolding renamed face
  split_home =
      ap (map (renamed (home (length m.points) v))) (split_is m v hv)
      ∙ map-map (renamed (home (length m.points) v)) (λ i. renamed (instead v (t i)) (face m.faces i)) (below (length m.faces))
      ∙ map_below (λ i. renamed (home (length m.points) v) (renamed (instead v (t i)) (face m.faces i))) (face m.faces) (length m.faces) back
      ∙ sym (faces_by_place m.faces)
    where
      gs : List (List ℕ)
      gs = drop 1 (fans m.faces v)

      t : ℕ → ℕ
      t i = target v (length m.points) gs i

      back : (i : ℕ) → i < length m.faces → renamed (home (length m.points) v) (renamed (instead v (t i)) (face m.faces i)) ≡ face m.faces i
      back i h =
          let b = face_inside (length m.points) m.faces inside i h in
          let w = target_new v (length m.points) gs i in
          λ k. record {
            a = home_back (length m.points) v (t i) (face m.faces i).a hv b.0 w k;
            b = home_back (length m.points) v (t i) (face m.faces i).b hv b.1 w k;
            c = home_back (length m.points) v (t i) (face m.faces i).c hv b.2 w k;
            origin = (face m.faces i).origin;
          }

  -- a split keeps each directed edge walked at most once
  pub split_once : Once m.faces → Once (split m v).faces
  split_once once = once_back (home (length m.points) v) (split m v).faces (subst Once (sym split_home) once)

-- so do the splits at all vertices below k
turns_once : (m : State) → Inside (length m.points) m.faces → Once m.faces → (k : ℕ) → k ≤ length m.points → Once (through split m (below k)).faces
turns_once m inside once zero h = unfold through below in once
turns_once m inside once (suc k) h =
    subst (λ s. Once s.faces) (sym (through_last split m k))
    (split_once (through split m (below k)) k (turns m inside k (omega arith)).inside (omega (arith, (turns m inside k (omega arith)).grown)) (turns_once m inside once k (omega arith)))

-- so does the pass
pub pass5_once : (m : State) → Inside (length m.points) m.faces → Once m.faces → Once (pass5 m).faces
unfolding pass5
pass5_once m inside once = turns_once m inside once (length m.points) (omega arith)

-- and after it corners are points
pub pass5_inside : (m : State) → Inside (length m.points) m.faces → Inside (length (pass5 m).points) (pass5 m).faces
unfolding pass5
pass5_inside m inside = (turns m inside (length m.points) (omega arith)).inside
