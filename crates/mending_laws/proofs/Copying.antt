-- The lines of split points, run on a bench where origins rise: the mesh is that after pass 5. Assumes nothing.
use mathlib.Core.Path.{◌≡◌, refl, sym, ap, ◌∙◌, subst}
use mathlib.Core.Logic.{◌⊎◌, inl, inr}
use mathlib.Core.Bool.{◌&&◌, cond}
use mathlib.Core.Option.{Option, some}
use mathlib.Core.List.{List, [], ◌∷◌, ◌++◌, map, Memᴰ}
use Prim.Native.Nat.{ℕ, zero, suc, ◌+◌, ◌*◌, ◌≤◌, ◌<◌}
use native.Mathlib.Nat.{add-zero}
use native.Mathlib.Omega.{arith}
use native.Mathlib.Decide.{ℕ_discrete}
use borrow.Author.Tests.{lt-ltb, eq-eqb}
use lib.Dec.{T, eqb, ltb, eqb_refl}
use lib.Ieee.Fits.{and_i}
use lib.ListN.{length, drop, length-append}
use Rattle.rules.specs.Lists.{below, count, all, each, through, has}
use Rattle.rules.specs.Mesh.{Point, Face, point, face, corners, renamed}
use Rattle.rules.specs.State.{State, counted, vertices_split}
use Rattle.rules.specs.Pass5.{fans, split_off, split, pass5}
use Rattle.rules.specs.Mending.{split_point, takers, SplitLog, log_off, log_at, lines5}
use Rattle.rules.specs.Applying.{Bench, section, numbers, precedes, applies, present_with, change}
use Rattle.rule_laws.proofs.Tests.{and_elim}
use Rattle.rule_laws.proofs.Lists.{length_each, through_last}
use Rattle.rule_laws.proofs.Rising.{All, all_append, Up}
use Rattle.rule_laws.proofs.Members.{any_intro, mem_at, in_all, all_intro}
use Rattle.rule_laws.proofs.Counting.{filter_le}
use Rattle.rule_laws.proofs.Once.{Inside}
use Rattle.rule_laws.proofs.Splitting.{instead}
use Rattle.rule_laws.proofs.Pass5.{split_length, turns}
use Rattle.rule_laws.proofs.Origins.{origins, off_origins}
use Rattle.repairing.proofs.Copies.{turns_points}
use Rattle.mending_laws.proofs.Running.{bench, run, run_append, Early, lower, equal_then, stepped, Ran}
use Rattle.mending_laws.proofs.Dropping.{low_origins}
use Rattle.mending_laws.proofs.Weights.{Within, weights, weights_append}
use Rattle.mending_laws.proofs.Taking.{taker_of, line_splits, takers_rise, takers_low, low, takers_pay}

-- ---- order

-- the last line is of a section before 6, or a split at v or before it, with a lower new point
abbrev Lately : ℕ → ℕ → List ℕ → Type 0
Lately v p [] = Unit {0}
Lately v p (x ∷ []) = x < 6
Lately v p (x ∷ o ∷ []) = x < 6
Lately v p (x ∷ o ∷ w ∷ xs) = (x < 6) ⊎ ((x ≡ 6) × (o ≤ v) × (w < p))

-- where pass 5 begins
early_lately : (v p : ℕ) (last : List ℕ) → Early 6 last → Lately v p last
early_lately v p [] h = tt
early_lately v p (x ∷ []) h = h
early_lately v p (x ∷ o ∷ []) h = h
early_lately v p (x ∷ o ∷ w ∷ xs) h = inl h

-- where it ends
lately_early : (v p : ℕ) (last : List ℕ) → Lately v p last → Early 7 last
lately_early v p [] h = tt
lately_early v p (x ∷ []) h = omega arith
lately_early v p (x ∷ o ∷ []) h = omega arith
lately_early v p (x ∷ o ∷ w ∷ xs) (inl h) = omega arith
lately_early v p (x ∷ o ∷ w ∷ xs) (inr h) = omega (arith, h.0)

-- at a later point
lately_later : (v u p : ℕ) (last : List ℕ) → v ≤ u → Lately v p last → Lately u p last
lately_later v u p [] l h = tt
lately_later v u p (x ∷ []) l h = h
lately_later v u p (x ∷ o ∷ []) l h = h
lately_later v u p (x ∷ o ∷ w ∷ xs) l (inl h) = inl h
lately_later v u p (x ∷ o ∷ w ∷ xs) l (inr h) = inr (h.0, omega (arith, h.1), h.2)

-- the line of the next copy comes after
lately_precedes : (v p : ℕ) (last : List ℕ) → Lately v p last → T (precedes last (6 ∷ v ∷ p ∷ []))
lately_precedes v p [] h = unfold precedes in tt
lately_precedes v p (x ∷ []) h = lower x 6 [] (v ∷ p ∷ []) h
lately_precedes v p (x ∷ o ∷ []) h = lower x 6 (o ∷ []) (v ∷ p ∷ []) h
lately_precedes v p (x ∷ o ∷ w ∷ xs) (inl h) = lower x 6 (o ∷ w ∷ xs) (v ∷ p ∷ []) h
lately_precedes v p (x ∷ o ∷ w ∷ xs) (inr h) =
    equal_then x 6 (o ∷ w ∷ xs) (v ∷ p ∷ []) h.0 (go (ℕ_discrete o v))
  where
    go : Dec (o ≡ v) → T (precedes (o ∷ w ∷ xs) (v ∷ p ∷ []))
    go (yes e) = equal_then o v (w ∷ xs) (p ∷ []) e (lower w p xs [] h.2)
    go (no e) = lower o v (w ∷ xs) (p ∷ []) (omega (arith, h.1))

-- ---- the log

module _ (P F C : ℕ) (s : Option Bench) (us : List ℕ) where
  -- the lines so far run, and the mesh is the log's; n splits were made
  record Logged (l : SplitLog) (v n : ℕ) : Type 0 where
    last : List ℕ
    lately : Lately v (length l.state.points) last
    goes : run P F s l.lines ≡ some (bench l.state.points l.state.faces n us last)
    rise : Up 0 (origins l.state.faces)
    counts : P + n ≡ length l.state.points
    names : All (λ f. f.origin < F) l.state.faces
    within : All (Within F (P + 3 * F)) l.lines
    weighs : weights l.lines + 8 * low P l.state.faces ≤ 18 * n + 8 * C

  -- the line of a group applies
  off-applies :
      (ps : List Point) (fs : List Face) (n v : ℕ) (fan last : List ℕ) → n < 3 * F → v < P
      → T (applies P F (bench ps fs n us last) (split_point v (length ps) (takers v fs fan)))
  unfolding applies
  off-applies ps fs n v fan last hn hv =
      and_i (ltb n (3 * F) && ltb v P && eqb (length ps) (length ps)) (all (present_with (bench ps fs n us last) v) (takers v fs fan))
      (and_i (ltb n (3 * F) && ltb v P) (eqb (length ps) (length ps)) (and_i (ltb n (3 * F)) (ltb v P) (rw (lt-ltb n (3 * F) hn) tt) (rw (lt-ltb v P hv) tt)) (eqb_refl (length ps)))
      (all_intro (present_with (bench ps fs n us last) v) (takers v fs fan) (in_all (λ x. T (present_with (bench ps fs n us last) v x)) (takers v fs fan) there))
    where
      there : (x : ℕ) → Memᴰ x (takers v fs fan) → T (present_with (bench ps fs n us last) v x)
      there x m =
          let w = taker_of v fs fan x m in
          unfold present_with in
          (any_intro (λ g. eqb x g.origin && has v (corners g)) (face fs w.0) fs (unfold face in (mem_at fs w.0 (record { a = 0; b = 0; c = 0; origin = 0 }) w.1))
          (and_i (eqb x (face fs w.0).origin) (has v (corners (face fs w.0))) (rw (eq-eqb x (face fs w.0).origin (sym w.2)) tt) (and_elim (has w.0 fan) (has v (corners (face fs w.0))) w.3).1))

  -- one group more
  off_logged : (l : SplitLog) (v n : ℕ) (fan : List ℕ) → Logged l v n → n < 3 * F → v < P → Logged (log_off v l fan) v (suc n)
  unfolding log_off split_off section numbers change through
  off_logged l v n fan g hn hv =
      let ps = l.state.points in
      let fs = l.state.faces in
      let new = length ps in
      let line = split_point v new (takers v fs fan) in
      let e : length (ps ++ (point ps v ∷ [])) ≡ suc (length ps) = length-append ps (point ps v ∷ []) ∙ omega arith in
      record {
        last = 6 ∷ v ∷ new ∷ [];
        lately = inr (refl, omega arith, omega (arith, e));
        goes =
            run_append P F s l.lines (line ∷ [])
            ∙ ap (λ t. run P F t (line ∷ [])) g.goes
            ∙ stepped P F (bench ps fs n us g.last) line (lately_precedes v new g.last g.lately) (off-applies ps fs n v fan g.last hn hv)
            ∙ ap (λ gs. some (bench (ps ++ (point ps v ∷ [])) gs (suc n) us (6 ∷ v ∷ new ∷ []))) (line_splits v new fs fan g.rise);
        rise = subst (Up 0) (sym (off_origins v l.state fan)) g.rise;
        counts = omega (arith, e, g.counts);
        names = low_origins F fs (map (λ i. cond (has i fan) (renamed (instead v new) (face fs i)) (face fs i)) (below (length fs))) (off_origins v l.state fan) g.names;
        within =
            all_append (Within F (P + 3 * F)) l.lines (line ∷ []) g.within
            ((omega arith, omega (arith, g.counts), takers_low F v fs fan g.names, takers_rise v fs fan g.rise), tt);
        weighs = omega (arith, g.weighs, weights_append l.lines (line ∷ []), takers_pay P v new fs fan hv (omega (arith, g.counts)));
      }

  -- all groups of a vertex
  groups_logged : (gs : List (List ℕ)) (l : SplitLog) (v n : ℕ) → Logged l v n → n + length gs ≤ 3 * F → v < P → Logged (through (log_off v) l gs) v (n + length gs)
  unfolding through
  groups_logged [] l v n g h hv = rw (add-zero n) g
  groups_logged (fan ∷ gs) l v n g h hv =
      let e : n + suc (length gs) ≡ suc n + length gs = omega arith in
      rw e (groups_logged gs (log_off v l fan) v (suc n) (off_logged l v n fan g (omega arith) hv) (omega arith) hv)

-- the log's state
log_state : (gs : List (List ℕ)) (v : ℕ) (l : SplitLog) → (through (log_off v) l gs).state ≡ through (split_off v) l.state gs
unfolding through log_off
log_state [] v l = refl
log_state (g ∷ gs) v l = log_state gs v (log_off v l g)

-- the same points and faces
record SameMesh (m m' : State) : Type 0 where
  points : m.points ≡ m'.points
  faces : m.faces ≡ m'.faces

-- a report does not matter in a split
groups_same : (gs : List (List ℕ)) (v : ℕ) (m m' : State) → SameMesh m m' → SameMesh (through (split_off v) m gs) (through (split_off v) m' gs)
unfolding through split_off
groups_same [] v m m' h = h
groups_same (g ∷ gs) v m m' h =
    groups_same gs v (split_off v m g) (split_off v m' g)
    (record {
      points = λ i. h.points i ++ (point (h.points i) v ∷ []);
      faces = λ i. map (λ j. cond (has j g) (renamed (instead v (length (h.points i))) (face (h.faces i) j)) (face (h.faces i) j)) (below (length (h.faces i)));
    })

-- after a vertex the log's mesh is that of the split
same_after : (l : SplitLog) (now : State) (k : ℕ) → SameMesh l.state now → SameMesh (log_at l k).state (split now k)
unfolding log_at split counted
same_after l now k q =
    let ls = drop 1 (fans l.state.faces k) in
    let other : State = counted vertices_split (cond (ltb 1 (length (fans now.faces k))) 1 0) now in
    subst (λ x. SameMesh x (through (split_off k) other (drop 1 (fans now.faces k)))) (sym (log_state ls k l))
    (subst (λ fs. SameMesh (through (split_off k) l.state ls) (through (split_off k) other (drop 1 (fans fs k)))) q.faces
    (groups_same ls k l.state other (record { points = q.points; faces = q.faces })))

module _ (P F : ℕ) (s : Option Bench) (us : List ℕ) (m : State) (inside : Inside (length m.points) m.faces) (all_points : length m.points ≡ P) (few : length m.faces ≤ F) where
  -- after the vertices below k: the lines run, and the mesh is that of the pass so far
  record Logged-to (k : ℕ) : Type 0 where
    n : ℕ
    logged : Logged P F (3 * length m.faces) s us (through log_at (record { state = m; lines = [] }) (below k)) k n
    same : SameMesh (through log_at (record { state = m; lines = [] }) (below k)).state (through split m (below k))

  -- one vertex more
  next_logged : (k : ℕ) → k < P → Logged-to k → Logged-to (suc k)
  next_logged k h r =
      let l = through log_at (record { state = m; lines = [] }) (below k) in
      let now = through split m (below k) in
      let gs = drop 1 (fans l.state.faces k) in
      let t = turns m inside k (omega (arith, all_points)) in
      let hk : k < length now.points = omega (arith, t.grown, all_points) in
      let e : length (split now k).points ≡ length now.points + length (drop 1 (fans now.faces k)) = split_length now k t.inside hk in
      let e2 : length gs ≡ length (drop 1 (fans now.faces k)) = ap (λ fs. length (drop 1 (fans fs k))) r.same.faces in
      let e3 : length l.state.points ≡ length now.points = ap length r.same.points in
      let b : length (split now k).points ≤ length m.points + 3 * length m.faces = rw (through_last split m k) at (turns_points m inside (suc k) (omega (arith, all_points))) in
      let c = r.logged.counts in
      let room : r.n + length gs ≤ 3 * F = omega (arith, e, e2, e3, b, c, few, all_points) in
      let g = groups_logged P F (3 * length m.faces) s us gs l k r.n r.logged room h in
      record {
        n = r.n + length gs;
        logged = subst (λ x. Logged P F (3 * length m.faces) s us x (suc k) (r.n + length gs)) (sym (through_last log_at (record { state = m; lines = [] }) k)) (after l k (r.n + length gs) g);
        same = subst (λ x. SameMesh x.state (through split m (below (suc k)))) (sym (through_last log_at (record { state = m; lines = [] }) k))
            (subst (λ x. SameMesh (log_at l k).state x) (sym (through_last split m k)) (same_after l now k r.same));
      }
    where
      after : (l : SplitLog) (k n : ℕ) → Logged P F (3 * length m.faces) s us (through (log_off k) l (drop 1 (fans l.state.faces k))) k n → Logged P F (3 * length m.faces) s us (log_at l k) (suc k) n
      after l k n g =
          unfold log_at in
          (record { last = g.last; lately = lately_later k (suc k) _ g.last (omega arith) g.lately; goes = g.goes; rise = g.rise; counts = g.counts; names = g.names; within = g.within; weighs = g.weighs })

  -- all vertices below k
  all-logged :
      (last : List ℕ) → Early 6 last → s ≡ some (bench m.points m.faces 0 us last) → Up 0 (origins m.faces) → All (λ f. f.origin < F) m.faces
      → (k : ℕ) → k ≤ P → Logged-to k
  all-logged last h e up names zero l =
      unfold through below in
      (record {
        n = 0;
        logged =
            record {
              last = last;
              lately = early_lately 0 (length m.points) last h;
              goes = e;
              rise = up;
              counts = omega (arith, all_points);
              names = names;
              within = tt;
              weighs = omega (arith, three);
            };
        same = record { points = refl; faces = refl };
      })
    where
      three : low P m.faces ≤ 3 * length m.faces
      three = unfold count in (omega (arith, filter_le (λ x. ltb x P) (each corners m.faces), length_each 3 corners (λ f. refl) m.faces))
  all-logged last h e up names (suc k) l = next_logged k l (all-logged last h e up names k (omega arith))

  -- the lines of pass 5: they run, the mesh is that after the pass, their numbers are small and they are few
  pub record Copied : Type 0 where
    pub n : ℕ
    pub ran : Ran P F s (lines5 m) (pass5 m).points (pass5 m).faces n us 7
    pub within : All (Within F (P + 3 * F)) (lines5 m)
    pub weighs : weights (lines5 m) ≤ 78 * length m.faces

  -- so they are
  pub copies_run :
      (last : List ℕ) → Early 6 last → s ≡ some (bench m.points m.faces 0 us last) → Up 0 (origins m.faces) → All (λ f. f.origin < F) m.faces → Copied
  copies_run last h e up names = ends P all_points (all-logged last h e up names P (omega arith))
    where
      ends : (k : ℕ) → length m.points ≡ k → Logged-to k → Copied
      ends k q r =
          let g = r.logged in
          let b : length (through split m (below k)).points ≤ length m.points + 3 * length m.faces = turns_points m inside k (omega (arith, q)) in
          let few : r.n ≤ 3 * length m.faces = omega (arith, g.counts, b, ap length r.same.points, all_points) in
          let lines : (through log_at (record { state = m; lines = [] }) (below k)).lines ≡ lines5 m = unfold lines5 in (ap (λ j. (through log_at (record { state = m; lines = [] }) (below j)).lines) (sym q)) in
          let points : (through log_at (record { state = m; lines = [] }) (below k)).state.points ≡ (pass5 m).points = unfold pass5 in (r.same.points ∙ ap (λ j. (through split m (below j)).points) (sym q)) in
          let faces : (through log_at (record { state = m; lines = [] }) (below k)).state.faces ≡ (pass5 m).faces = unfold pass5 in (r.same.faces ∙ ap (λ j. (through split m (below j)).faces) (sym q)) in
          record {
            n = r.n;
            ran =
                record {
                  last = g.last;
                  early = lately_early k _ g.last g.lately;
                  goes = ap (run P F s) (sym lines) ∙ g.goes ∙ (λ i. some (bench (points i) (faces i) r.n us g.last));
                };
            within = subst (All (Within F (P + 3 * F))) lines g.within;
            weighs = omega (arith, g.weighs, few, ap weights lines);
          }

-- the points of the log are those of the pass so far
pub log_points : (m : State) (k : ℕ) → (through log_at (record { state = m; lines = [] }) (below k)).state.points ≡ (through split m (below k)).points
log_points m k = (go k).points
  where
    go : (k : ℕ) → SameMesh (through log_at (record { state = m; lines = [] }) (below k)).state (through split m (below k))
    go zero = unfold through below in (record { points = refl; faces = refl })
    go (suc k) =
        subst (λ x. SameMesh x.state (through split m (below (suc k)))) (sym (through_last log_at (record { state = m; lines = [] }) k))
        (subst (λ x. SameMesh (log_at (through log_at (record { state = m; lines = [] }) (below k)) k).state x) (sym (through_last split m k))
        (same_after (through log_at (record { state = m; lines = [] }) (below k)) (through split m (below k)) k (go k)))
