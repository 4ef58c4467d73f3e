-- No pass looks at origins, so a repair of the same corners gives the same corners, points and report; and faces whose corners and origins stand in two lists.
-- Assumes nothing.
use mathlib.Core.Path.{◌≡◌, refl, sym, ap, ◌∙◌, subst}
use mathlib.Core.Bool.{Bool, true, false, not, cond}
use mathlib.Core.List.{List, [], ◌∷◌, ◌++◌, map, map-map}
use Prim.Native.Nat.{ℕ, zero, suc, ◌+◌, ◌*◌}
use native.Mathlib.Omega.{arith}
use lib.ListN.{length}
use lib.Ieee.{Float}
use Rattle.rules.specs.Lists.{below, count, each, leave}
use Rattle.rules.specs.Mesh.{Point, Face, face, renamed, corners, faces_from, faces_of, faces_with, flat_faces}
use Rattle.rules.specs.State.{State, Count, more, repeateds, thins, duplicates, crowded_edges, dropped_at_edges, dropped_for_direction, reoriented, components, isolated, start, counted, with_faces, dropped}
use Rattle.rules.specs.Pass1.{repeated1, thin1, marked1, pass1}
use Rattle.rules.specs.Pass2.{marked2, pass2}
use Rattle.rules.specs.Pass3.{crowded, marked3, pass3}
use Rattle.rules.specs.Pass4.{oriented, marked4, pass4}
use Rattle.rules.specs.Pass5.{pass5}
use Rattle.rules.specs.Pass6.{used, marked6, number, pass6}
use Rattle.rules.specs.Repair.{bit, optional, passes, repaired}
use Rattle.rule_laws.proofs.Flat.{with_flat}
use Rattle.rule_laws.proofs.Relabel.{Alike, SameState, bare, alike_bare, bare_alike, flat_alike, repeated1_alike, thin1_alike, marked1_alike, marked2_alike, marked3_alike, marked4_alike, crowded_alike, used_alike, number_alike, oriented_alike, pass5_alike}
use Rattle.rule_laws.proofs.Origins.{origins, leave_map}

-- ---- faces that leave

-- the same faces leave of both
pub leave_alike : (marked : ℕ → Bool) (gs fs : List Face) → Alike gs fs → Alike (leave marked gs) (leave marked fs)
leave_alike marked gs fs h =
    alike_bare (leave marked gs) (leave marked fs) (leave_map bare marked gs ∙ ap (leave marked) (bare_alike gs fs h) ∙ sym (leave_map bare marked fs))

-- ---- each pass, and the whole

-- the same marks, the same count: states that differ in origins alone still do when marked faces have left
dropped_same : (c : Count) (by on : ℕ → Bool) (m n : State) → by ≡ on → SameState m n → SameState (dropped c by m) (dropped c on n)
unfolding dropped counted with_faces
dropped_same c by on m n e h =
    record {
      points = h.points;
      faces = subst (λ (b : ℕ → Bool). Alike (leave b m.faces) (leave on n.faces)) (sym e) (leave_alike on m.faces n.faces h.faces);
      report = λ k. more c (count (e k) (below (h.faces.long k))) (h.report k);
    }

-- a count more
counted_same : (c : Count) (a b : ℕ) (m n : State) → a ≡ b → SameState m n → SameState (counted c a m) (counted c b n)
unfolding counted
counted_same c a b m n e h = record { points = h.points; faces = h.faces; report = λ k. more c (e k) (h.report k) }

module _ (m n : State) (h : SameState m n) where
  -- faces of both, over the points of the second
  alike : Alike m.faces n.faces
  alike = h.faces

  pub pass1_alike : (s : Float) → SameState (pass1 s m) (pass1 s n)
  unfolding pass1 counted with_faces
  pass1_alike s =
      record {
        points = h.points;
        faces = subst (λ (b : ℕ → Bool). Alike (leave b m.faces) (leave (marked1 s n.points n.faces) n.faces)) (sym marks) (leave_alike (marked1 s n.points n.faces) m.faces n.faces h.faces);
        report = λ k. more thins (count (thins_are k) (below (h.faces.long k))) (more repeateds (count (repeats_are k) (below (h.faces.long k))) (h.report k));
      }
    where
      marks : marked1 s m.points m.faces ≡ marked1 s n.points n.faces
      marks = ap (λ ps. marked1 s ps m.faces) h.points ∙ (λ k i. marked1_alike m.faces n.faces h.faces s n.points i k)

      thins_are : thin1 s m.points m.faces ≡ thin1 s n.points n.faces
      thins_are = ap (λ ps. thin1 s ps m.faces) h.points ∙ (λ k i. thin1_alike m.faces n.faces h.faces s n.points i k)

      repeats_are : repeated1 s m.points m.faces ≡ repeated1 s n.points n.faces
      repeats_are = ap (λ ps. repeated1 s ps m.faces) h.points ∙ (λ k i. repeated1_alike m.faces n.faces h.faces s n.points i k)

  pub pass2_alike : SameState (pass2 m) (pass2 n)
  unfolding pass2
  pass2_alike = dropped_same duplicates (marked2 m.faces) (marked2 n.faces) m n (λ k i. marked2_alike m.faces n.faces h.faces i k) h

  pub pass3_alike : SameState (pass3 m) (pass3 n)
  unfolding pass3
  pass3_alike =
      let a = length (crowded (length m.points) m.faces) in
      let b = length (crowded (length n.points) n.faces) in
      let e : a ≡ b = ap (λ ps. length (crowded (length ps) m.faces)) h.points ∙ ap length (crowded_alike m.faces n.faces h.faces (length n.points)) in
      dropped_same dropped_at_edges (marked3 m.points m.faces) (marked3 n.points n.faces) (counted crowded_edges a m) (counted crowded_edges b n)
      (ap (λ ps. marked3 ps m.faces) h.points ∙ (λ k i. marked3_alike m.faces n.faces h.faces n.points i k)) (counted_same crowded_edges a b m n e h)

  pub pass4_alike : SameState (pass4 m) (pass4 n)
  unfolding pass4 with_faces
  pass4_alike =
      let o = oriented m.faces in
      let p = oriented n.faces in
      let q = oriented_alike m.faces n.faces h.faces in
      let turned : SameState (with_faces o.walk.faces m) (with_faces p.walk.faces n) = record { points = h.points; faces = q.walk.faces; report = h.report } in
      dropped_same dropped_for_direction (marked4 m.points o.walk.faces) (marked4 n.points p.walk.faces) _ _
      (ap (λ ps. marked4 ps o.walk.faces) h.points ∙ (λ k i. marked4_alike o.walk.faces p.walk.faces q.walk.faces n.points i k))
      (counted_same components o.marks p.marks _ _ q.marks (counted_same reoriented o.walk.exchanges p.walk.exchanges _ _ q.walk.exchanges turned))

  pub pass6_alike : SameState (pass6 m) (pass6 n)
  unfolding pass6 marked6 renamed
  pass6_alike =
      record {
        points = λ k. leave (λ v. not (used_alike m.faces n.faces h.faces v k)) (h.points k);
        faces = alike_bare (map (renamed (number m.faces)) m.faces) (map (renamed (number n.faces)) n.faces) (bared m ∙ same ∙ sym (bared n));
        report = λ k. more isolated (count (λ v. not (used_alike m.faces n.faces h.faces v k)) (below (length (h.points k)))) (h.report k);
      }
    where
      bared : (x : State) → map bare (map (renamed (number x.faces)) x.faces) ≡ map (renamed (number x.faces)) (map bare x.faces)
      bared x = map-map bare (renamed (number x.faces)) x.faces ∙ sym (map-map (renamed (number x.faces)) bare x.faces)

      same : map (renamed (number m.faces)) (map bare m.faces) ≡ map (renamed (number n.faces)) (map bare n.faces)
      same = λ k. map (renamed (λ v. number_alike m.faces n.faces h.faces v k)) (bare_alike m.faces n.faces h.faces k)

-- a pass by its option
optional_same : (b : Bool) (pass : State → State) → ((m n : State) → SameState m n → SameState (pass m) (pass n)) → (m n : State) → SameState m n → SameState (optional b pass m) (optional b pass n)
unfolding optional
optional_same true pass f m n h = f m n h
optional_same false pass f m n h = h

-- no pass looks at origins: a repair of the same faces with other origins gives the same points, corners and report
pub repaired_alike : (s : Float) (options : ℕ) (ps : List Point) (gs fs : List Face) → Alike gs fs → SameState (repaired s options ps gs) (repaired s options ps fs)
unfolding repaired passes start
repaired_alike s options ps gs fs h =
    optional_same (bit 5 options) pass6 pass6_alike _ _
    (optional_same (bit 3 options) pass5 pass5_alike _ _
    (optional_same (bit 4 options) pass4 pass4_alike _ _
    (optional_same (bit 2 options) pass3 pass3_alike _ _
    (optional_same (bit 1 options) pass2 pass2_alike _ _
    (optional_same (bit 0 options) (pass1 s) (λ m n k. pass1_alike m n k s) (start ps gs) (start ps fs) (record { points = refl; faces = h; report = refl }))))))

-- ---- corners in one list and origins in another

-- flat corners have no origin
flat_bare : (fs : List Face) → flat_faces (map bare fs) ≡ flat_faces fs
unfolding flat_faces each
flat_bare [] = refl
flat_bare (f ∷ fs) = ap (λ l. f.a ∷ f.b ∷ f.c ∷ l) (flat_bare fs)

-- the same faces have the same flat corners
pub flat_same : (gs fs : List Face) → Alike gs fs → flat_faces gs ≡ flat_faces fs
flat_same gs fs h = sym (flat_bare gs) ∙ ap flat_faces (bare_alike gs fs h) ∙ flat_bare fs

-- flat corners and origins of faces, each in its list, are these faces
pub with_are : (fs : List Face) (xs os : List ℕ) → xs ≡ flat_faces fs → os ≡ origins fs → faces_with xs os ≡ fs
with_are fs xs os e o = (λ k. faces_with (e k) (o k)) ∙ with_flat fs

-- three corners for each origin: the origins are those of the list
pub with_origins : (xs os : List ℕ) → length xs ≡ 3 * length os → origins (faces_with xs os) ≡ os
unfolding faces_with
with_origins [] [] h = refl
with_origins [] (o ∷ os) h = absurd (omega arith)
with_origins (a ∷ []) os h = absurd (omega arith)
with_origins (a ∷ b ∷ []) os h = absurd (omega arith)
with_origins (a ∷ b ∷ c ∷ xs) [] h = absurd (omega arith)
with_origins (a ∷ b ∷ c ∷ xs) (o ∷ os) h = ap (λ l. o ∷ l) (with_origins xs os (omega arith))

-- the corners are those of the list, wherever its faces are counted from
with_bare : (k : ℕ) (xs os : List ℕ) → length xs ≡ 3 * length os → map bare (faces_from k xs) ≡ map bare (faces_with xs os)
unfolding faces_from faces_with
with_bare k [] os h = refl
with_bare k (a ∷ []) os h = absurd (omega arith)
with_bare k (a ∷ b ∷ []) os h = absurd (omega arith)
with_bare k (a ∷ b ∷ c ∷ xs) [] h = absurd (omega arith)
with_bare k (a ∷ b ∷ c ∷ xs) (o ∷ os) h = ap (λ l. record { a = a; b = b; c = c; origin = 0 } ∷ l) (with_bare (suc k) xs os (omega arith))

-- and but for origins they are the faces of the corners alone
pub with_alike : (xs os : List ℕ) → length xs ≡ 3 * length os → Alike (faces_of xs) (faces_with xs os)
with_alike xs os h = alike_bare (faces_of xs) (faces_with xs os) (with_bare 0 xs os h)
