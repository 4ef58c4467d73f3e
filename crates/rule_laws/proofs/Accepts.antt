-- Given enough room, the edge call and the loop call accept faces that walk each directed edge at most once, form one fan at each point and use each point.
-- Assumes nothing.
use mathlib.Core.Path.{◌≡◌, ap, ◌∙◌}
use mathlib.Core.Bool.{true, false, not, ◌&&◌}
use mathlib.Core.List.{List, [], ◌∷◌}
use Prim.Native.Nat.{ℕ, ◌+◌, ◌*◌, ◌/◌, ◌%◌, ◌≤◌, ◌<◌}
use native.Mathlib.Omega.{arith}
use borrow.Author.Tests.{eq-eqb, le-ltb, le-leb, lt-leb}
use lib.ListN.{length, get_or}
use lib.Dec.{T, eqb, leb, ltb}
use Rattle.rules.specs.Lists.{below, all, any}
use Rattle.rules.specs.Mesh.{Point, Face, faces_of, flat_points, flat_faces, coordinates, corners}
use Rattle.rules.specs.Steps.{edges, users}
use Rattle.rules.specs.Pass6.{used}
use Rattle.rules.specs.Refusal.{Check, ok, decided, no1, no2, no4, no5, no6, in_domain, most_points, most_faces}
use Rattle.rules.specs.Rooms.{work_room}
use Rattle.rules.specs.Calls.{edges_rooms, EdgesRooms, edges_check, loops_rooms, LoopsRooms, loops_check}
use Rattle.rules.specs.Edges.{no7, no8, begins, ends}
use Rattle.rule_laws.proofs.Rising.{All, all_imp, below_all}
use Rattle.rule_laws.proofs.Members.{in_all}
use Rattle.rule_laws.proofs.Decided.{decided_ok, decided_none, unless_is}
use Rattle.rule_laws.proofs.Firsts.{at_first_ok}
use Rattle.rule_laws.proofs.Pigeons.{few_points}
use Rattle.rule_laws.proofs.Flat.{length_flat_faces, length_flat_points, points_flat}
use Rattle.rule_laws.proofs.Relabel.{flat_alike, inside_alike, once_alike, fan_alike}
use Rattle.rule_laws.proofs.Once.{Inside, Once, CornersBelow}
use Rattle.rule_laws.proofs.TwoUsers.{two_users}
use Rattle.rule_laws.proofs.Demand.{OneFan, EdgesEnough, LoopsEnough}
use Rattle.rule_laws.proofs.InOut.{in_is_out}
use Rattle.rule_laws.proofs.OneOut.{one_out}

-- ---- the two calls

-- the coordinates are in the domain
abbrev pub Fit : Point → Type 0
Fit p = all in_domain (coordinates p) ≡ true

-- refusal 5 is not given
pub no5_ok : (P : ℕ) (fs : List Face) → Inside P fs → no5 P fs ≡ ok
unfolding no5 any
no5_ok P fs h =
    at_first_ok 5 (λ f. any (leb P) (corners f)) fs
    (all_imp (CornersBelow P) (λ f. any (leb P) (corners f) ≡ false) (λ f b. rw (lt-leb P f.a b.0, lt-leb P f.b b.1, lt-leb P f.c b.2)) fs h)

-- refusal 6 is not given to the edge call
edges6_ok : (P F : ℕ) (r : EdgesRooms) → EdgesEnough P F r → no6 (edges_rooms P F) (length r.edges ∷ length r.lengths ∷ length r.face_edges ∷ length r.work ∷ []) ≡ ok
unfolding no6 edges_rooms work_room below
edges6_ok P F r e =
    at_first_ok 6 (λ k. ltb (get_or given k 0) (get_or (edges_rooms P F) k 0)) (below 4)
    (le-ltb (length r.edges) (6 * F) e.edges_fit, (le-ltb (length r.lengths) (3 * F) e.lengths_fit, (le-ltb (length r.face_edges) (3 * F) e.face_edges_fit, (le-ltb (length r.work) (16 * P + 64 * F + 64) e.work_fits, tt))))
  where
    given : List ℕ
    given = length r.edges ∷ length r.lengths ∷ length r.face_edges ∷ length r.work ∷ []

-- nor to the loop call
loops6_ok : (P F : ℕ) (r : LoopsRooms) → LoopsEnough P F r → no6 (loops_rooms P F) (length r.loop_vertices ∷ length r.loop_ends ∷ length r.work ∷ []) ≡ ok
unfolding no6 loops_rooms work_room below
loops6_ok P F r e =
    at_first_ok 6 (λ k. ltb (get_or given k 0) (get_or (loops_rooms P F) k 0)) (below 3)
    (le-ltb (length r.loop_vertices) (3 * F) e.loop_vertices_fit, (le-ltb (length r.loop_ends) (3 * F) e.loop_ends_fit, (le-ltb (length r.work) (16 * P + 64 * F + 64) e.work_fits, tt)))
  where
    given : List ℕ
    given = length r.loop_vertices ∷ length r.loop_ends ∷ length r.work ∷ []

-- refusal 7 is not given
pub no7_ok : (P : ℕ) (fs : List Face) → Once fs → no7 P fs ≡ ok
unfolding no7
no7_ok P fs once =
    at_first_ok 7 (λ e. ltb 2 (length (users fs e))) (edges P fs)
    (in_all (λ e. ltb 2 (length (users fs e)) ≡ false) (edges P fs) (λ e m. le-ltb 2 (length (users fs e)) (two_users fs once e)))

-- refusal 8 is not given
pub no8_ok : (P : ℕ) (fs : List Face) → Once fs → ((v : ℕ) → v < P → OneFan fs v) → no8 P fs ≡ ok
unfolding no8
no8_ok P fs once fan =
    at_first_ok 8 (λ v. not (eqb (begins fs v) (ends fs v) && leb (begins fs v) 1)) (below P)
    (all_imp (λ v. v < P) (λ v. not (eqb (begins fs v) (ends fs v) && leb (begins fs v) 1) ≡ false)
    (λ v l. rw (eq-eqb (begins fs v) (ends fs v) (in_is_out fs once v), le-leb (begins fs v) 1 (one_out fs once v (fan v l)))) (below P) (below_all P))

module _ (ps : List Point) (fs : List Face) (few : length fs ≤ most_faces) (fit : All Fit ps) (inside : Inside (length ps) fs) (once : Once fs)
    (every : (v : ℕ) → v < length ps → T (used fs v)) (fan : (v : ℕ) → v < length ps → OneFan fs v) where
  -- the faces as a call reads them: each is its own origin
  gs : List Face
  gs = faces_of (flat_faces fs)

  gs_inside : Inside (length ps) gs
  unfolding gs
  gs_inside = inside_alike gs fs (flat_alike fs) (length ps) inside

  gs_once : Once gs
  unfolding gs
  gs_once = once_alike gs fs (flat_alike fs) once

  gs_fan : (v : ℕ) → v < length ps → OneFan gs v
  unfolding gs
  gs_fan v l = fan_alike gs fs (flat_alike fs) v (fan v l)

  -- 1, 2, 4 and 5 are not given, whatever is checked after them
  input_ok : (rest : List Check) → decided rest ≡ ok
      → decided
      (no1 0 (length (flat_points ps)) ∷ no1 1 (length (flat_faces fs)) ∷ no2 0 (length ps) most_points ∷ no2 1 (length fs) most_faces
      ∷ no4 ps ∷ no5 (length ps) gs ∷ rest)
      ≡ ok
  unfolding no1 no2 no4
  input_ok rest e =
      decided_none
      (no1 0 (length (flat_points ps)) ∷ no1 1 (length (flat_faces fs)) ∷ no2 0 (length ps) most_points ∷ no2 1 (length fs) most_faces ∷ no4 ps ∷ no5 (length ps) gs ∷ [])
      rest
      (decided_ok _ (
        unless_is 1 0 (eqb (length (flat_points ps) % 3) 0) (eq-eqb (length (flat_points ps) % 3) 0 (omega (arith, length_flat_points ps))),
        (
          unless_is 1 1 (eqb (length (flat_faces fs) % 3) 0) (eq-eqb (length (flat_faces fs) % 3) 0 (omega (arith, length_flat_faces fs))),
          (
            unless_is 2 0 (leb (length ps) most_points) (le-leb (length ps) most_points (omega (arith, few_points (length ps) fs every))),
            (
              unless_is 2 1 (leb (length fs) most_faces) (le-leb (length fs) most_faces few),
              (
                at_first_ok 4 (λ p. not (all in_domain (coordinates p))) ps (all_imp Fit (λ p. not (all in_domain (coordinates p)) ≡ false) (λ p e. ap not e) ps fit),
                (no5_ok (length ps) gs gs_inside, tt),
              ),
            ),
          ),
        ),
      ))
      ∙ e

  p_is : length (flat_points ps) / 3 ≡ length ps
  p_is = omega (arith, length_flat_points ps)

  f_is : length (flat_faces fs) / 3 ≡ length fs
  f_is = omega (arith, length_flat_faces fs)

  -- the edge call accepts them
  pub edges_accept : (r : EdgesRooms) → EdgesEnough (length ps) (length fs) r → edges_check (flat_points ps) (flat_faces fs) r ≡ ok
  unfolding edges_check gs
  edges_accept r enough =
      rw (p_is, f_is, points_flat ps) (input_ok _ (decided_ok _ (edges6_ok (length ps) (length fs) r enough, (no7_ok (length ps) gs gs_once, tt))))

  -- and so does the loop call
  pub loops_accept : (r : LoopsRooms) → LoopsEnough (length ps) (length fs) r → loops_check (flat_points ps) (flat_faces fs) r ≡ ok
  unfolding loops_check gs
  loops_accept r enough =
      rw (p_is, f_is, points_flat ps)
      (input_ok _ (decided_ok _ (loops6_ok (length ps) (length fs) r enough, (no7_ok (length ps) gs gs_once, (no8_ok (length ps) gs gs_once gs_fan, tt)))))
