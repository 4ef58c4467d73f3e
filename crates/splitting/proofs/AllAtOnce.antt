-- Pass 5 in one formula: every number, copy and count by the fans of the unchanged list. Assumes nothing.
use mathlib.Core.Path.{◌≡◌, refl, sym, ap, ◌∙◌}
use mathlib.Core.Logic.{◌⊎◌, inl, inr, ◌≢◌}
use mathlib.Core.Bool.{Bool, cond}
use mathlib.Core.List.{List, [], ◌∷◌, ◌++◌, map, append-nil, append_assoc}
use Prim.Native.Nat.{ℕ, zero, suc, ◌+◌, ◌-◌, ◌≤◌, ◌<◌}
use native.Mathlib.Omega.{arith}
use native.Mathlib.Decide.{ℕ_discrete, dec_lt}
use borrow.Author.Tests.{eq-eqb, ne_eqb, lt-ltb, le-ltb}
use lib.ListN.{length, drop, length-append, get_or-append}
use lib.Dec.{ltb}
use Rattle.rules.specs.Lists.{below, filter, count, each, through}
use Rattle.rules.specs.Mesh.{Point, Face, point, face, renamed}
use Rattle.rules.specs.State.{State, place, more, counted, vertices_split, points_added}
use Rattle.rules.specs.Pass5.{fans, split_off, split, pass5}
use Rattle.rule_laws.proofs.Lists.{through_last, each_append, count_below}
use Rattle.rule_laws.proofs.Once.{Inside, CornersBelow, face_inside}
use Rattle.rule_laws.proofs.Splitting.{instead, target, map_below, face_map_below, length_map_below, faces_by_place, split_is}
use Rattle.rule_laws.proofs.Fans.{target_new}
use Rattle.rule_laws.proofs.Pass5.{turns, split_length}
use Rattle.splitting.proofs.Reports.{more_none, more_twice, more_swap}
use Rattle.splitting.proofs.Unchanged.{fans_kept}

-- one copy for each group split off
points_off : (v : ℕ) (gs : List (List ℕ)) (m : State) → v < length m.points → (through (split_off v) m gs).points ≡ m.points ++ map (λ g. point m.points v) gs
unfolding through split_off point
points_off v [] m h = sym (append-nil m.points)
points_off v (g ∷ gs) m h =
    points_off v gs (split_off v m g) (rw (length-append m.points (point m.points v ∷ [])) (omega arith))
    ∙ ap (λ p. (m.points ++ (point m.points v ∷ [])) ++ map (λ g. p) gs) (get_or-append m.points (point m.points v ∷ []) _ v h)
    ∙ append_assoc m.points (point m.points v ∷ []) (map (λ g. point m.points v) gs)

-- each is counted
report_off : (v : ℕ) (gs : List (List ℕ)) (m : State) → (through (split_off v) m gs).report ≡ more points_added (length gs) m.report
unfolding through split_off
report_off v [] m = sym (more_none points_added m.report)
report_off v (g ∷ gs) m = report_off v gs (split_off v m g) ∙ more_twice points_added 1 (length gs) m.report ∙ (let e : 1 + length gs ≡ suc (length gs) = omega arith in ap (λ k. more points_added k m.report) e)

-- a point before what is appended
point_front : (ps qs : List Point) (k : ℕ) → k < length ps → point (ps ++ qs) k ≡ point ps k
unfolding point
point_front ps qs k h = get_or-append ps qs _ k h

-- the lists made of one number more
pub each_last : {A : Type 0} (f : ℕ → List A) (k : ℕ) → each f (below (suc k)) ≡ each f (below k) ++ f k
unfolding each below
each_last f k = each_append f (below k) (k ∷ []) ∙ ap (λ l. each f (below k) ++ l) (append-nil (f k))

-- the points after a split
split_points : (m : State) (v : ℕ) → v < length m.points → (split m v).points ≡ m.points ++ map (λ g. point m.points v) (drop 1 (fans m.faces v))
unfolding split counted
split_points m v h = points_off v (drop 1 (fans m.faces v)) (counted vertices_split (cond (ltb 1 (length (fans m.faces v))) 1 0) m) h

-- the report after a split
split_report : (m : State) (v : ℕ) → (split m v).report ≡ more points_added (length (drop 1 (fans m.faces v))) (more vertices_split (cond (ltb 1 (length (fans m.faces v))) 1 0) m.report)
unfolding split counted
split_report m v = report_off v (drop 1 (fans m.faces v)) (counted vertices_split (cond (ltb 1 (length (fans m.faces v))) 1 0) m)

-- the two counts stand at two places
apart : place points_added ≢ place vertices_split
unfolding place
apart e = absurd (omega arith)

module _ (m : State) (inside : Inside (length m.points) m.faces) where
  -- the state when the points below k have been split
  abbrev pub state : ℕ → State
  state k = through split m (below k)

  -- how many points there are then
  abbrev pub so_far : ℕ → ℕ
  so_far k = length (state k).points

  -- the groups at v that are split off
  abbrev pub rest : ℕ → List (List ℕ)
  rest v = drop 1 (fans m.faces v)

  -- the number that face i has for x in the end
  abbrev pub goal : ℕ → ℕ → ℕ
  goal i x = target x (so_far x) (rest x) i

  -- the number that it has when the points below k have been split
  abbrev now : ℕ → ℕ → ℕ → ℕ
  now k i x = cond (ltb x k) (goal i x) x

  -- one point more is one split more
  last : (k : ℕ) → state (suc k) ≡ split (state k) k
  last k = through_last split m k

  -- corners stay points
  still : (k : ℕ) → k ≤ length m.points → Inside (so_far k) (state k).faces
  still k h = (turns m inside k h).inside

  -- the points only become more
  pub grown : (k : ℕ) → k ≤ length m.points → length m.points ≤ so_far k
  grown k h = (turns m inside k h).grown

  -- the fans at a point that is still to come are those of the unchanged list
  fans_now : (k u : ℕ) → k ≤ u → u < length m.points → fans (state k).faces u ≡ fans m.faces u
  fans_now zero u h l = unfold through below in refl
  fans_now (suc k) u h l =
      ap (λ s. fans s.faces u) (last k)
      ∙ fans_kept (state k) k u (still k (omega arith)) (omega (arith, grown k (omega arith))) (omega (arith, grown k (omega arith))) (λ e. absurd (omega arith))
      ∙ fans_now k u (omega arith) l

  -- a split adds a point for each group but the first
  pub so_far_suc : (k : ℕ) → k < length m.points → so_far (suc k) ≡ so_far k + length (rest k)
  so_far_suc k h =
      ap (λ s. length s.points) (last k)
      ∙ split_length (state k) k (still k (omega arith)) (omega (arith, grown k (omega arith)))
      ∙ ap (λ gs. so_far k + length (drop 1 gs)) (fans_now k k (omega arith) h)

  -- before the first there are those of the mesh
  pub so_far_zero : so_far 0 ≡ length m.points
  so_far_zero = unfold through below in refl

  -- ---- the faces

  -- a number in the end is x or a new one
  pub goal_new : (i x : ℕ) → x < length m.points → (goal i x ≡ x) ⊎ (length m.points ≤ goal i x)
  goal_new i x h = go (target_new x (so_far x) (rest x) i) (grown x (omega arith))
    where
      go : (goal i x ≡ x) ⊎ (so_far x ≤ goal i x) → length m.points ≤ so_far x → (goal i x ≡ x) ⊎ (length m.points ≤ goal i x)
      go (inl e) l = inl e
      go (inr b) l = inr (omega arith)

  -- one point more
  now_suc : (k i x : ℕ) → k < length m.points → x < length m.points → instead k (goal i k) (now k i x) ≡ now (suc k) i x
  now_suc k i x hk hx = go (dec_lt x k) (ℕ_discrete x k)
    where
      away : (goal i x ≡ x) ⊎ (length m.points ≤ goal i x) → x < k → goal i x ≢ k
      away (inl e) l q = omega arith
      away (inr b) l q = omega arith

      go : Dec (x < k) → Dec (x ≡ k) → instead k (goal i k) (now k i x) ≡ now (suc k) i x
      go (yes l) d = rw (lt-ltb x k l, lt-ltb x (suc k) (omega arith), ne_eqb (goal i x) k (away (goal_new i x hx) l))
      go (no l) (yes e) = rw (le-ltb x k (omega arith), lt-ltb x (suc k) (omega arith), eq-eqb x k e) (ap (goal i) (sym e))
      go (no l) (no e) = rw (le-ltb x k (omega arith), le-ltb x (suc k) (omega arith), ne_eqb x k e)

  -- one point more is split
  faces_next :
      (k : ℕ) → k < length m.points → (state k).faces ≡ map (λ i. renamed (now k i) (face m.faces i)) (below (length m.faces))
      → (state (suc k)).faces ≡ map (λ i. renamed (now (suc k) i) (face m.faces i)) (below (length m.faces))
  unfolding renamed
  faces_next k h r =
      ap (λ s. s.faces) (last k)
      ∙ split_is (state k) k (omega (arith, grown k (omega arith)))
      ∙ ap (λ n. map (λ i. renamed (instead k (target k (so_far k) (drop 1 (fans (state k).faces k)) i)) (face (state k).faces i)) (below n)) (ap length r ∙ length_map_below (λ i. renamed (now k i) (face m.faces i)) (length m.faces))
      ∙ map_below (λ i. renamed (instead k (target k (so_far k) (drop 1 (fans (state k).faces k)) i)) (face (state k).faces i)) (λ i. renamed (now (suc k) i) (face m.faces i)) (length m.faces) one
    where
      one : (i : ℕ) → i < length m.faces → renamed (instead k (target k (so_far k) (drop 1 (fans (state k).faces k)) i)) (face (state k).faces i) ≡ renamed (now (suc k) i) (face m.faces i)
      one i l =
          ap (λ gs. renamed (instead k (target k (so_far k) (drop 1 gs) i)) (face (state k).faces i)) (fans_now k k (omega arith) h)
          ∙ ap (renamed (instead k (goal i k))) (ap (λ fs. face fs i) r ∙ face_map_below (λ j. renamed (now k j) (face m.faces j)) (length m.faces) i l)
          ∙ both (face m.faces i) (face_inside (length m.points) m.faces inside i l)
        where
          both : (f : Face) → CornersBelow (length m.points) f → renamed (instead k (goal i k)) (renamed (now k i) f) ≡ renamed (now (suc k) i) f
          both f b = λ j. record { a = now_suc k i f.a h b.0 j; b = now_suc k i f.b h b.1 j; c = now_suc k i f.c h b.2 j; origin = f.origin }

  -- the faces when the points below k have been split
  faces_now : (k : ℕ) → k ≤ length m.points → (state k).faces ≡ map (λ i. renamed (now k i) (face m.faces i)) (below (length m.faces))
  unfolding renamed
  faces_now zero h =
      unfold through below in
      (faces_by_place m.faces
      ∙ map_below (face m.faces) (λ i. renamed (now 0 i) (face m.faces i)) (length m.faces) (λ i l. none i (face m.faces i)))
    where
      none : (i : ℕ) (f : Face) → f ≡ renamed (now 0 i) f
      none i f = λ j. record { a = sym (zero_now f.a) j; b = sym (zero_now f.b) j; c = sym (zero_now f.c) j; origin = f.origin }
        where
          zero_now : (x : ℕ) → now 0 i x ≡ x
          zero_now x = rw (le-ltb x 0 (omega arith))
  faces_now (suc k) h = faces_next k h (faces_now k (omega arith))

  -- after the pass each corner has its number
  pub faces_after : (pass5 m).faces ≡ map (λ i. renamed (goal i) (face m.faces i)) (below (length m.faces))
  unfolding pass5 renamed
  faces_after =
      faces_now (length m.points) (omega arith)
      ∙ map_below (λ i. renamed (now (length m.points) i) (face m.faces i)) (λ i. renamed (goal i) (face m.faces i)) (length m.faces)
      (λ i l. all_now i (face m.faces i) (face_inside (length m.points) m.faces inside i l))
    where
      in_now : (i x : ℕ) → x < length m.points → now (length m.points) i x ≡ goal i x
      in_now i x h = rw (lt-ltb x (length m.points) h)

      all_now : (i : ℕ) (f : Face) → CornersBelow (length m.points) f → renamed (now (length m.points) i) f ≡ renamed (goal i) f
      all_now i f b = λ j. record { a = in_now i f.a b.0 j; b = in_now i f.b b.1 j; c = in_now i f.c b.2 j; origin = f.origin }

  -- ---- the points

  -- the copies of v
  abbrev pub copies : ℕ → List Point
  copies v = map (λ g. point m.points v) (rest v)

  -- the points when those below k have been split
  pub points_now : (k : ℕ) → k ≤ length m.points → (state k).points ≡ m.points ++ each copies (below k)
  points_now zero h = unfold through below each in sym (append-nil m.points)
  points_now (suc k) h =
      ap (λ s. s.points) (last k)
      ∙ split_points (state k) k (omega (arith, grown k (omega arith)))
      ∙ ap (λ gs. (state k).points ++ map (λ g. point (state k).points k) (drop 1 gs)) (fans_now k k (omega arith) h)
      ∙ ap (λ ps. ps ++ map (λ g. point ps k) (rest k)) (points_now k (omega arith))
      ∙ ap (λ p. (m.points ++ each copies (below k)) ++ map (λ g. p) (rest k)) (point_front m.points (each copies (below k)) k h)
      ∙ append_assoc m.points (each copies (below k)) (copies k)
      ∙ ap (λ ps. m.points ++ ps) (sym (each_last copies k))

  -- ---- the report

  -- v is split
  abbrev pub is-split : ℕ → Bool
  is-split v = ltb 1 (length (fans m.faces v))

  -- one point more is split
  report-next :
      (k a : ℕ) → k < length m.points → so_far (suc k) ≡ length m.points + a
      → ((b : ℕ) → so_far k ≡ length m.points + b → (state k).report ≡ more points_added b (more vertices_split (count is-split (below k)) m.report))
      → (state (suc k)).report ≡ more points_added a (more vertices_split (count is-split (below (suc k))) m.report)
  report-next k a h e r =
      let l = grown k (omega arith) in
      let q = so_far_suc k h in
      let b = so_far k - length m.points in
      let d : ℕ = cond (is-split k) 1 0 in
      let R = more vertices_split (count is-split (below k)) m.report in
      ap (λ s. s.report) (last k)
      ∙ split_report (state k) k
      ∙ ap (λ gs. more points_added (length (drop 1 gs)) (more vertices_split (cond (ltb 1 (length gs)) 1 0) (state k).report)) (fans_now k k (omega arith) h)
      ∙ ap (λ r. more points_added (length (rest k)) (more vertices_split d r)) (r b (omega arith))
      ∙ ap (more points_added (length (rest k))) (more_swap points_added vertices_split b d R apart)
      ∙ more_twice points_added b (length (rest k)) (more vertices_split d R)
      ∙ (let s : b + length (rest k) ≡ a = omega arith in ap (λ n. more points_added n (more vertices_split d R)) s)
      ∙ ap (more points_added a) (more_twice vertices_split (count is-split (below k)) d m.report ∙ ap (λ n. more vertices_split n m.report) (sym (count_below is-split k)))

  -- the report when the points below k have been split
  report_now : (k : ℕ) (a : ℕ) → k ≤ length m.points → so_far k ≡ length m.points + a → (state k).report ≡ more points_added a (more vertices_split (count is-split (below k)) m.report)
  report_now zero a h e = unfold through below count filter in (rw (let z : a ≡ 0 = omega (arith, so_far_zero) in z) (sym (more_none points_added (more vertices_split 0 m.report) ∙ more_none vertices_split m.report)))
  report_now (suc k) a h e = report-next k a h e (λ b q. report_now k b (omega arith) q)

  -- after the pass: the vertices split and the points added are counted
  pub report_after : (a : ℕ) → length (pass5 m).points ≡ length m.points + a → (pass5 m).report ≡ more points_added a (more vertices_split (count is-split (below (length m.points))) m.report)
  unfolding pass5
  report_after a e = report_now (length m.points) a (omega arith) e
