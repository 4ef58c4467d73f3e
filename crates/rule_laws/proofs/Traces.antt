-- Demand 3, its second sentence, and the same under any options: by its origin each face of the output is a different input face, in input order, with the
-- same corner positions, at most its last two corners exchanged. Assumes nothing.
use mathlib.Core.Path.{◌≡◌, refl, sym, ap, ◌∙◌, subst}
use mathlib.Core.Logic.{inl}
use mathlib.Core.Bool.{Bool, true, false, cond}
use mathlib.Core.List.{List, [], ◌∷◌, ◌++◌, map, Memᴰ, append-nil, append_assoc}
use Prim.Native.Nat.{ℕ, zero, suc, ◌+◌, ◌-◌, ◌≤◌, ◌<◌}
use native.Mathlib.Omega.{arith}
use native.Mathlib.Decide.{dec_lt}
use lib.ListN.{length, length-append, get_or, drop, replicate, get_or-replicate, get_or-append, length-map}
use lib.Seq.{get_or-append-add}
use lib.Dec.{T, eqb, ltb}
use borrow.Author.Tests.{lt-ltb, le-ltb}
use lib.Ieee.{Float}
use Rattle.rules.specs.Lists.{below, through, leave}
use Rattle.rules.specs.Mesh.{Point, Face, point, face, corners, renamed, zero64}
use Rattle.rules.specs.State.{State, Count, repeateds, duplicates, crowded_edges, dropped_at_edges, start, counted, with_faces, dropped, vertices_split}
use Rattle.rules.specs.Pass1.{pass1, marked1}
use Rattle.rules.specs.Pass2.{pass2, marked2}
use Rattle.rules.specs.Pass3.{pass3, marked3, crowded}
use Rattle.rules.specs.Pass4.{oriented, pass4, marked4}
use Rattle.rules.specs.Pass5.{fans, split_off, split, pass5}
use Rattle.rules.specs.Pass6.{used, marked6, number, pass6}
use Rattle.rules.specs.Repair.{bit, optional, passes, repaired}
use Rattle.rule_laws.proofs.Lists.{through_last}
use Rattle.rule_laws.proofs.Demand.{Traced, positions}
use Rattle.rule_laws.proofs.Tracing.{Numbered, start_traced, leave_traced, in_place}
use Rattle.rule_laws.proofs.Turning.{turned_traced, oriented_turned}
use Rattle.rule_laws.proofs.Once.{Inside, face_inside}
use Rattle.rule_laws.proofs.Numbering.{number_point}
use Rattle.rule_laws.proofs.Splitting.{instead, target, face_map_below, length_map_below, split_is}
use Rattle.rule_laws.proofs.Fans.{target_new}
use Rattle.rule_laws.proofs.Pass5.{home, home_back, target_below, turns, pass5_inside}
use Rattle.rule_laws.proofs.Pass6.{face_map, face_mem, corner_used}
use Rattle.rule_laws.proofs.Manifold.{opted, pass4_fine, dropped_fine}

-- ---- pass 5

-- the points after a split: those before, and copies of v's
split_points_eq :
    (v : ℕ) (gs : List (List ℕ)) (m : State) → v < length m.points
    → (through (split_off v) m gs).points ≡ m.points ++ replicate (length gs) (point m.points v)
unfolding through split_off point
split_points_eq v [] m h = sym (append-nil m.points)
split_points_eq v (g ∷ gs) m h =
    split_points_eq v gs (split_off v m g) (long m.points (point m.points v ∷ []) h)
    ∙ ap (λ p. (m.points ++ (point m.points v ∷ [])) ++ replicate (length gs) p) (get_or-append m.points (point m.points v ∷ []) (record { x = zero64; y = zero64; z = zero64 }) v h)
    ∙ append_assoc m.points (point m.points v ∷ []) (replicate (length gs) (point m.points v))
  where
    long : (xs ys : List Point) → v < length xs → v < length (xs ++ ys)
    long xs ys l = omega (arith, length-append xs ys)

-- a point of the longer list is a point of the shorter one at its home
point_home :
    (ps : List Point) (v n x : ℕ) → x < length ps + n → point (ps ++ replicate n (point ps v)) x ≡ point ps (home (length ps) v x)
unfolding point
point_home ps v n x h = go (dec_lt x (length ps))
  where
    go : Dec (x < length ps) → point (ps ++ replicate n (point ps v)) x ≡ point ps (home (length ps) v x)
    go (yes l) = rw (lt-ltb x (length ps) l) (get_or-append ps (replicate n (point ps v)) (record { x = zero64; y = zero64; z = zero64 }) x l)
    go (no l) =
        let e : length ps + (x - length ps) ≡ x = omega arith in
        rw (le-ltb x (length ps) (omega arith))
        (subst (λ y. get_or (ps ++ replicate n (point ps v)) y (record { x = zero64; y = zero64; z = zero64 }) ≡ point ps v) e
        (get_or-append-add ps (replicate n (point ps v)) (x - length ps) (record { x = zero64; y = zero64; z = zero64 })
        ∙ get_or-replicate n (x - length ps) (point ps v) (record { x = zero64; y = zero64; z = zero64 }) (omega arith)))

module _ (m : State) (v : ℕ) (inside : Inside (length m.points) m.faces) (hv : v < length m.points) where
  -- the groups that are split off at v
  gs : List (List ℕ)
  gs = drop 1 (fans m.faces v)

  -- the number that face i has for v
  t : ℕ → ℕ
  t i = target v (length m.points) (drop 1 (fans m.faces v)) i

  -- the points after the split at v
  split_points_at : (split m v).points ≡ m.points ++ replicate (length gs) (point m.points v)
  unfolding split counted gs
  split_points_at = split_points_eq v (drop 1 (fans m.faces v)) (counted vertices_split (cond (ltb 1 (length (fans m.faces v))) 1 0) m) hv

  -- a corner lies where it lay
  same_point : (i x : ℕ) → x < length m.points → point (split m v).points (instead v (t i) x) ≡ point m.points x
  unfolding t gs
  same_point i x h =
      ap (λ ps. point ps (instead v (t i) x)) split_points_at
      ∙ point_home m.points v (length gs) (instead v (t i) x) (go (eqb x v) (target_below v (length m.points) gs i hv))
      ∙ ap (point m.points) (home_back (length m.points) v (t i) x hv h (target_new v (length m.points) gs i))
    where
      go : (b : Bool) → t i < length m.points + length gs → cond b (t i) x < length m.points + length gs
      go true l = l
      go false l = omega arith

  -- a split leaves every face where it was
  pub split_traced : (ps : List Point) (fs : List Face) → Traced ps fs m.points m.faces → Traced ps fs (split m v).points (split m v).faces
  unfolding face renamed t
  split_traced ps fs u =
      in_place ps fs m.points m.faces u (split m v).points (split m v).faces
      (ap length (split_is m v hv) ∙ length_map_below (λ i. renamed (instead v (t i)) (face m.faces i)) (length m.faces))
      (λ i h.
      ap (λ l. (face l i).origin) (split_is m v hv)
      ∙ ap (λ f. f.origin) (face_map_below (λ k. renamed (instead v (t k)) (face m.faces k)) (length m.faces) i h))
      (λ i h.
      let b = face_inside (length m.points) m.faces inside i h in
      inl
      (ap (λ l. positions (split m v).points (face l i)) (split_is m v hv)
      ∙ ap (positions (split m v).points) (face_map_below (λ k. renamed (instead v (t k)) (face m.faces k)) (length m.faces) i h)
      ∙ (λ k. same_point i (face m.faces i).a b.0 k ∷ same_point i (face m.faces i).b b.1 k ∷ same_point i (face m.faces i).c b.2 k ∷ [])))

module _ (ps : List Point) (fs : List Face) where
  -- so do the splits at all vertices below k
  turns-traced :
      (m : State) → Inside (length m.points) m.faces → Traced ps fs m.points m.faces → (k : ℕ) → k ≤ length m.points
      → Traced ps fs (through split m (below k)).points (through split m (below k)).faces
  turns-traced m inside u zero h = unfold through below in u
  turns-traced m inside u (suc k) h =
      let now = through split m (below k) in
      subst (λ s. Traced ps fs s.points s.faces) (sym (through_last split m k))
      (split_traced now k (turns m inside k (omega arith)).inside (omega (arith, (turns m inside k (omega arith)).grown)) ps fs (turns-traced m inside u k (omega arith)))

  -- so does pass 5
  pub pass5_traced : (m : State) → Inside (length m.points) m.faces → Traced ps fs m.points m.faces → Traced ps fs (pass5 m).points (pass5 m).faces
  unfolding pass5
  pass5_traced m inside u = turns-traced m inside u (length m.points) (omega arith)

-- ---- pass 6

-- pass 6 leaves every face where it was
pub pass6_traced :
    (ps : List Point) (fs : List Face) (m : State) → Inside (length m.points) m.faces → Traced ps fs m.points m.faces → Traced ps fs (pass6 m).points (pass6 m).faces
unfolding pass6 face renamed
pass6_traced ps fs m inside t =
    in_place ps fs m.points m.faces t (leave (marked6 m.faces) m.points) (map (renamed (number m.faces)) m.faces)
    (length-map m.faces (renamed (number m.faces)))
    (λ i h. ap (λ f. f.origin) (face_map (renamed (number m.faces)) m.faces i h))
    (λ i h.
    let b = face_inside (length m.points) m.faces inside i h in
    let u : (x : ℕ) → Memᴰ x (corners (face m.faces i)) → T (used m.faces x) = λ x k. corner_used m.faces (face m.faces i) x (face_mem m.faces i h) k in
    inl
    (ap (positions (leave (marked6 m.faces) m.points)) (face_map (renamed (number m.faces)) m.faces i h)
    ∙ (λ k.
    number_point m.points m.faces (face m.faces i).a b.0 (u (face m.faces i).a (Memᴰ.head refl)) k
    ∷ number_point m.points m.faces (face m.faces i).b b.1 (u (face m.faces i).b (Memᴰ.tail (Memᴰ.head refl))) k
    ∷ number_point m.points m.faces (face m.faces i).c b.2 (u (face m.faces i).c (Memᴰ.tail (Memᴰ.tail (Memᴰ.head refl)))) k
    ∷ [])))

-- ---- all six, whichever of them run

module _ (ps : List Point) (fs : List Face) where
  -- corners that are points, and every face traced
  record Followed (m : State) : Type 0 where
    inside : Inside (length m.points) m.faces
    trace : Traced ps fs m.points m.faces

  -- faces that leave are traced no more, all others are
  dropped_followed : (c : Count) (marked : ℕ → Bool) (m : State) → Followed m → Followed (dropped c marked m)
  dropped_followed c marked m h =
      record {
        inside = dropped_fine c marked m h.inside;
        trace = unfold dropped counted with_faces in (leave_traced ps fs m.points m.faces h.trace marked);
      }

  -- a count alone
  counted_followed : (c : Count) (n : ℕ) (m : State) → Followed m → Followed (counted c n m)
  unfolding counted
  counted_followed c n m h = record { inside = h.inside; trace = h.trace }

  -- each pass
  followed1 : (s : Float) (m : State) → Followed m → Followed (pass1 s m)
  unfolding pass1 dropped counted with_faces
  followed1 s m h = let d = dropped_followed repeateds (marked1 s m.points m.faces) m h in record { inside = d.inside; trace = d.trace }

  followed2 : (m : State) → Followed m → Followed (pass2 m)
  unfolding pass2
  followed2 m h = dropped_followed duplicates (marked2 m.faces) m h

  followed3 : (m : State) → Followed m → Followed (pass3 m)
  unfolding pass3
  followed3 m h =
      let n = length (crowded (length m.points) m.faces) in
      dropped_followed dropped_at_edges (marked3 m.points m.faces) (counted crowded_edges n m) (counted_followed crowded_edges n m h)

  followed4 : (m : State) → Followed m → Followed (pass4 m)
  followed4 m h =
      let gs4 = (oriented m.faces).walk.faces in
      let u : Traced ps fs m.points gs4 = turned_traced ps fs m.points m.faces gs4 (oriented_turned m.faces) h.trace in
      record {
        inside = pass4_fine m h.inside;
        trace = unfold pass4 dropped counted with_faces in (leave_traced ps fs m.points gs4 u (marked4 m.points gs4));
      }

  followed5 : (m : State) → Followed m → Followed (pass5 m)
  followed5 m h = record { inside = pass5_inside m h.inside; trace = pass5_traced ps fs m h.inside h.trace }

  -- a pass that is off
  followed_if : (b : Bool) (pass : State → State) → ((m : State) → Followed m → Followed (pass m)) → (m : State) → Followed m → Followed (optional b pass m)
  unfolding optional
  followed_if true pass f m h = f m h
  followed_if false pass f m h = h

  -- pass 6 may run or not
  last_traced : (b : Bool) (m : State) → Followed m → Traced ps fs (optional b pass6 m).points (optional b pass6 m).faces
  unfolding optional
  last_traced true m h = pass6_traced ps fs m h.inside h.trace
  last_traced false m h = h.trace

  -- under any options every face of the output is an input face, by its origin
  pub traced_any : (options : ℕ) (s : Float) → Inside (length ps) fs → Numbered fs → Traced ps fs (repaired s options ps fs).points (repaired s options ps fs).faces
  unfolding repaired passes start
  traced_any options s inside num =
      last_traced (bit 5 options) _
      (followed_if (bit 3 options) pass5 followed5 _
      (followed_if (bit 4 options) pass4 followed4 _
      (followed_if (bit 2 options) pass3 followed3 _
      (followed_if (bit 1 options) pass2 followed2 _
      (followed_if (bit 0 options) (pass1 s) (followed1 s) (start ps fs) (record { inside = inside; trace = start_traced ps fs num }))))))

  -- with passes 4, 5 and 6, whichever of the others run
  pub traced :
      (one two three : Bool) (s : Float) → Inside (length ps) fs → Numbered fs
      → Traced ps fs (repaired s (opted one two three) ps fs).points (repaired s (opted one two three) ps fs).faces
  traced one two three s inside num = traced_any (opted one two three) s inside num
