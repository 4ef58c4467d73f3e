-- The lines of pass 5: the j-th tells the old point, the new one, and the faces that have it when the pass is done. Assumes nothing.
use mathlib.Core.Path.{◌≡◌, refl, sym, ap, ap₂, ◌∙◌, subst}
use mathlib.Core.List.{List, [], ◌∷◌, ◌++◌, map, map-append, append-nil, append_assoc}
use Prim.Native.Nat.{ℕ, zero, suc, ◌+◌, ◌-◌, ◌≤◌, ◌<◌}
use native.Mathlib.Nat.{add-zero}
use native.Mathlib.Omega.{arith}
use lib.ListN.{length, get_or, drop, replicate, length-append, length-replicate, get_or-replicate, get_or-append}
use lib.Seq.{get_or-append-add}
use Rattle.rules.specs.Lists.{below, filter, each, through, has}
use Rattle.rules.specs.Mesh.{Face, point, face, corners, renamed}
use Rattle.rules.specs.State.{State}
use Rattle.rules.specs.Pass5.{fans, split_off, split, pass5}
use Rattle.rules.specs.Mending.{Line, split_point, takers, SplitLog, log_off, log_at, lines5}
use Rattle.rule_laws.proofs.Lists.{through_last}
use Rattle.rule_laws.proofs.Rising.{All, all_from, all_each, map_same}
use Rattle.rule_laws.proofs.Once.{Inside}
use Rattle.rule_laws.proofs.Splitting.{instead, target, face_map_below, length_map_below, split_faces, split_is}
use Rattle.splitting.specs.Corners.{extras, base, goal_of}
use Rattle.splitting.proofs.Agreeing.{on_below}
use Rattle.splitting.proofs.AllAtOnce.{each_last}
use Rattle.splitting.proofs.Numbers.{rest_length}
use Rattle.splitting.proofs.Unchanged.{fans_kept}
use Rattle.splitting.proofs.Goals.{so_far_is, points_many, faces_are}
use Rattle.split_laws.specs.Olds.{olds_to, old_of, takers_of}
use Rattle.split_laws.proofs.Taken.{kept_takers, new_takers, off_inside, listed_same}

-- the j-th line, by the old points os and the faces gs
abbrev line : ℕ → List ℕ → List Face → ℕ → Line
line P os gs j = split_point (get_or os j 0) (P + j) (takers_of gs gs (P + j))

-- one line more
map_last : (f : ℕ → Line) (n : ℕ) → map f (below (suc n)) ≡ map f (below n) ++ (f n ∷ [])
unfolding below
map_last f n = map-append f (below n) (n ∷ [])

-- one old point more is the last one
last_old : (os : List ℕ) (v : ℕ) → get_or (os ++ (v ∷ [])) (length os) 0 ≡ v
last_old os v = ap (λ k. get_or (os ++ (v ∷ [])) k 0) (sym (add-zero (length os))) ∙ get_or-append-add os (v ∷ []) 0 0

-- a number once more
replicate_more : (os : List ℕ) (v n : ℕ) → (os ++ (v ∷ [])) ++ replicate n v ≡ os ++ replicate (suc n) v
replicate_more os v n = append_assoc os (v ∷ []) (replicate n v)

module _ (P : ℕ) where
  -- the log tells the points split off so far, of which os are the old ones
  record Told (l : SplitLog) (os : List ℕ) : Type 0 where
    many : length l.state.points ≡ P + length os
    inside : Inside (length l.state.points) l.state.faces
    lines : l.lines ≡ map (line P os l.state.faces) (below (length os))

  -- one group more
  told_off : (l : SplitLog) (os : List ℕ) (v : ℕ) (fan : List ℕ) → v < P → Told l os → Told (log_off v l fan) (os ++ (v ∷ []))
  unfolding log_off
  told_off l os v fan hv t =
      let m = l.state in
      let gs = (split_off v m fan).faces in
      let n = length os in
      let more : length (split_off v m fan).points ≡ suc (length m.points) = unfold split_off in (length-append m.points (point m.points v ∷ []) ∙ omega arith) in
      let long : length (os ++ (v ∷ [])) ≡ suc n = length-append os (v ∷ []) ∙ omega arith in
      record {
        many = omega (arith, more, long, t.many);
        inside = subst (λ k. Inside k gs) (sym more) (off_inside v m fan t.inside);
        lines =
            ap₂ (λ (a : List Line) (b : Line). a ++ (b ∷ [])) (t.lines ∙ map_same (line P os m.faces) (line P (os ++ (v ∷ [])) gs) (below n) (on_below (λ j. line P os m.faces j ≡ line P (os ++ (v ∷ [])) gs j) n before))
            (λ i. split_point (sym (last_old os v) i) (t.many i) (newest i))
            ∙ sym (ap (λ k. map (line P (os ++ (v ∷ [])) gs) (below k)) long ∙ map_last (line P (os ++ (v ∷ [])) gs) n);
      }
    where
      newest : takers v l.state.faces fan ≡ takers_of (split_off v l.state fan).faces (split_off v l.state fan).faces (P + length os)
      newest = sym (new_takers v l.state fan t.inside) ∙ ap (takers_of (split_off v l.state fan).faces (split_off v l.state fan).faces) t.many

      before : (j : ℕ) → j < length os → line P os l.state.faces j ≡ line P (os ++ (v ∷ [])) (split_off v l.state fan).faces j
      before j h =
          ap₂ (λ a b. split_point a (P + j) b) (sym (get_or-append os (v ∷ []) 0 j h))
          (sym (kept_takers v l.state fan (P + j) (λ e. absurd (omega arith)) (λ e. absurd (omega (arith, t.many)))))

  -- all groups of a vertex
  told_groups : (gs : List (List ℕ)) (l : SplitLog) (os : List ℕ) (v : ℕ) → v < P → Told l os → Told (through (log_off v) l gs) (os ++ replicate (length gs) v)
  unfolding through
  told_groups [] l os v hv t = subst (Told l) (sym (append-nil os)) t
  told_groups (g ∷ gs) l os v hv t =
      subst (Told (through (log_off v) (log_off v l g) gs)) (replicate_more os v (length gs)) (told_groups gs (log_off v l g) (os ++ (v ∷ [])) v hv (told_off l os v g hv t))

-- the log's state
log_state : (gs : List (List ℕ)) (v : ℕ) (l : SplitLog) → (through (log_off v) l gs).state ≡ through (split_off v) l.state gs
unfolding through log_off
log_state [] v l = refl
log_state (g ∷ gs) v l = log_state gs v (log_off v l g)

-- after a vertex its faces are those of the split
log_faces : (l : SplitLog) (v : ℕ) → v < length l.state.points → (log_at l v).state.faces ≡ (split l.state v).faces
unfolding log_at
log_faces l v h =
    ap (λ s. s.faces) (log_state (drop 1 (fans l.state.faces v)) v l)
    ∙ split_faces v (drop 1 (fans l.state.faces v)) l.state h
    ∙ sym (split_is l.state v h)

-- the faces after a split, by the number of points and the faces alone
split_same : (m n : State) (v : ℕ) → v < length m.points → length m.points ≡ length n.points → m.faces ≡ n.faces → (split m v).faces ≡ (split n v).faces
split_same m n v h p f =
    split_is m v h
    ∙ ap₂ (λ (k : ℕ) (fs : List Face). map (λ i. renamed (instead v (target v k (drop 1 (fans fs v)) i)) (face fs i)) (below (length fs))) p f
    ∙ sym (split_is n v (subst (λ k. v < k) p h))

-- the old points of one vertex more
pub olds_next : (fs : List Face) (k : ℕ) → olds_to fs (suc k) ≡ olds_to fs k ++ replicate (extras fs k) k
unfolding olds_to
olds_next fs k = each_last (λ v. replicate (extras fs v) v) k

-- there are as many as points are split off
pub olds_many : (fs : List Face) (P k : ℕ) → P + length (olds_to fs k) ≡ base fs P k
unfolding base
olds_many fs P zero = unfold olds_to each below in (omega arith)
olds_many fs P (suc k) =
    omega (arith, olds_many fs P k, ap length (olds_next fs k), length-append (olds_to fs k) (replicate (extras fs k) k), length-replicate (extras fs k) k)

-- they are points below k
pub olds_low : (fs : List Face) (k : ℕ) → All (λ v. v < k) (olds_to fs k)
unfolding olds_to
olds_low fs k =
    all_each (λ v. v < k) (λ v. replicate (extras fs v) v) (below k)
    (on_below (λ v. All (λ u. u < k) (replicate (extras fs v) v)) k (λ v h. all_from (λ u. u < k) 0 (replicate (extras fs v) v) (λ i l. same v h i (extras fs v) l)))
  where
    same : (v : ℕ) → v < k → (i n : ℕ) → i < length (replicate n v) → get_or (replicate n v) i 0 < k
    same v h i n l = omega (arith, get_or-replicate n i v 0 (omega (arith, length-replicate n v)))

module _ (m : State) (inside : Inside (length m.points) m.faces) where
  -- the log when the points below k are passed
  abbrev log : ℕ → SplitLog
  log k = through log_at (record { state = m; lines = [] }) (below k)

  -- what it tells, and its faces
  record Logged (k : ℕ) : Type 0 where
    told : Told (length m.points) (log k) (olds_to m.faces k)
    faces : (log k).state.faces ≡ (through split m (below k)).faces
    fanned : (u : ℕ) → k ≤ u → u < length m.points → fans (log k).state.faces u ≡ fans m.faces u

  -- one point more
  logged_next : (k : ℕ) → k < length m.points → Logged k → Logged (suc k)
  logged_next k h r =
      let l = log k in
      let hk : k < length l.state.points = omega (arith, r.told.many) in
      let last : log (suc k) ≡ log_at l k = through_last log_at (record { state = m; lines = [] }) k in
      record {
        told = subst (λ x. Told (length m.points) x (olds_to m.faces (suc k))) (sym last) (next l r.told (r.fanned k (omega arith) h));
        faces =
            ap (λ x. x.state.faces) last
            ∙ log_faces l k hk
            ∙ split_same l.state (through split m (below k)) k hk (r.told.many ∙ olds_many m.faces (length m.points) k ∙ sym (so_far_is m inside k (omega arith))) r.faces
            ∙ sym (ap (λ x. x.faces) (through_last split m k));
        fanned = λ u a b.
            ap (λ x. fans x.state.faces u) last
            ∙ ap (λ fs. fans fs u) (log_faces l k hk)
            ∙ fans_kept l.state k u r.told.inside hk (omega (arith, r.told.many)) (λ e. absurd (omega arith))
            ∙ r.fanned u (omega arith) b;
      }
    where
      next : (l : SplitLog) → Told (length m.points) l (olds_to m.faces k) → fans l.state.faces k ≡ fans m.faces k → Told (length m.points) (log_at l k) (olds_to m.faces (suc k))
      next l t e =
          unfold log_at in
          (subst (Told (length m.points) (through (log_off k) l (drop 1 (fans l.state.faces k))))
          (ap (λ n. olds_to m.faces k ++ replicate n k) (ap (λ gs. length (drop 1 gs)) e ∙ rest_length m.faces k) ∙ sym (olds_next m.faces k))
          (told_groups (length m.points) (drop 1 (fans l.state.faces k)) l (olds_to m.faces k) k h t))

  -- all points below k
  logged : (k : ℕ) → k ≤ length m.points → Logged k
  logged zero h =
      unfold through below olds_to each in
      (record { told = record { many = omega arith; inside = inside; lines = refl }; faces = refl; fanned = λ u a b. refl })
  logged (suc k) h = logged_next k h (logged k (omega arith))

  -- how many points are split off
  abbrev pub splits : ℕ
  splits = length (pass5 m).points - length m.points

  -- as many as old points are told
  pub splits_are : length (olds_to m.faces (length m.points)) ≡ splits
  splits_are = omega (arith, points_many m inside, olds_many m.faces (length m.points) (length m.points))

  -- the faces keep their origins and their number
  face_after : (i : ℕ) → i < length m.faces → (face (pass5 m).faces i).origin ≡ (face m.faces i).origin
  unfolding renamed
  face_after i h =
      ap (λ fs. (face fs i).origin) (faces_are m inside)
      ∙ ap (λ f. f.origin) (face_map_below (λ k. renamed (goal_of m.faces (length m.points) k) (face m.faces k)) (length m.faces) i h)

  -- they are as many
  pub faces_long : length (pass5 m).faces ≡ length m.faces
  faces_long = ap length (faces_are m inside) ∙ length_map_below (λ k. renamed (goal_of m.faces (length m.points) k) (face m.faces k)) (length m.faces)

  -- so the faces that take a point can be told before the pass
  takers_before : (p : ℕ) → takers_of (pass5 m).faces (pass5 m).faces p ≡ takers_of m.faces (pass5 m).faces p
  unfolding takers_of
  takers_before p =
      ap (λ n. map (λ i. (face (pass5 m).faces i).origin) (filter (λ i. has p (corners (face (pass5 m).faces i))) (below n))) faces_long
      ∙ listed_same (length m.faces) (λ i. (face (pass5 m).faces i).origin) (λ i. (face m.faces i).origin) (λ i. has p (corners (face (pass5 m).faces i))) (λ i. has p (corners (face (pass5 m).faces i))) face_after (λ i h. refl)

  -- the lines: old point, new point, and the faces that have it when the pass is done
  pub lines5_are :
      lines5 m
      ≡ map (λ j. split_point (old_of m.faces (length m.points) j) (length m.points + j) (takers_of m.faces (pass5 m).faces (length m.points + j))) (below splits)
  unfolding lines5 pass5 old_of
  lines5_are =
      let r = logged (length m.points) (omega arith) in
      r.told.lines
      ∙ ap₂ (λ (gs : List Face) (n : ℕ). map (line (length m.points) (olds_to m.faces (length m.points)) gs) (below n)) r.faces splits_are
      ∙ map_same (line (length m.points) (olds_to m.faces (length m.points)) (pass5 m).faces)
      (λ j. split_point (old_of m.faces (length m.points) j) (length m.points + j) (takers_of m.faces (pass5 m).faces (length m.points + j))) (below splits)
      (on_below (λ j. line (length m.points) (olds_to m.faces (length m.points)) (pass5 m).faces j ≡ split_point (old_of m.faces (length m.points) j) (length m.points + j) (takers_of m.faces (pass5 m).faces (length m.points + j))) splits
      (λ j h. ap (split_point (old_of m.faces (length m.points) j) (length m.points + j)) (takers_before (length m.points + j))))
