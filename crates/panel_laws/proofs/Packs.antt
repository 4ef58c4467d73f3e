-- Rooms that hold what repairs share, packed, with four entries for each: cut by the meshes room alone, they give what each repair shares. Assumes nothing.
use mathlib.Core.Path.{◌≡◌, sym, ap, ◌∙◌}
use mathlib.Core.Bool.{cond}
use mathlib.Core.List.{List}
use Prim.Native.Nat.{ℕ, ◌+◌, ◌*◌, ◌<◌}
use native.Mathlib.Nat.{add-zero}
use native.Mathlib.Omega.{arith}
use lib.Dec.{eqb}
use lib.ListN.{length, get_or, take, drop}
use lib.Seq.{length-take-le, take-length, get_or-take, get_or-drop}
use Rattle.rules.specs.Lists.{each}
use Rattle.rules.specs.Mesh.{zero64}
use Rattle.rules.specs.State.{report_counts}
use Rattle.rules.specs.Rooms.{filled, Outcome}
use Rattle.rules.specs.RepairCall.{RepairRooms}
use Rattle.rules.specs.PanelCall.{its_points, its_faces, its_counts, its_origins, four, PanelRooms}
use Rattle.panel_laws.specs.Cutting.{four_at, accepted_at, points_at, faces_at, before, points_part, faces_part, counts_part, origins_part}
use Rattle.panel_laws.proofs.Packing.{length_four, length_fours}
use Rattle.panel_laws.proofs.Telling.{Told}
use Rattle.panel_laws.proofs.Cuts.{filled_cut, length_before}

-- mesh k of these rooms, cut by their meshes room alone, is what o gives: its four entries, its points, its faces, its counts, its origins
pub record ItsCall (rooms : PanelRooms) (k : ℕ) (o : Outcome RepairRooms) : Type 0 where
  pub in_meshes : four_at rooms.meshes k ≡ four o.answer
  pub in_points : points_part rooms k ≡ its_points o
  pub in_faces : faces_part rooms k ≡ its_faces o
  pub in_counts : counts_part rooms k ≡ its_counts o
  pub in_origins : origins_part rooms k ≡ its_origins o

-- an entry of mesh k in the meshes room is the same among its four
pub entry_at : (meshes : List ℕ) (k i : ℕ) (a : List ℕ) → four_at meshes k ≡ a → i < 4 → get_or meshes (4 * k + i) 0 ≡ get_or a i 0
unfolding four_at
entry_at meshes k i a e h = sym (get_or-drop (4 * k) meshes i 0) ∙ sym (get_or-take 4 (drop (4 * k) meshes) i 0 h) ∙ ap (λ l. get_or l i 0) e

-- the first of them
pub number_at : (meshes : List ℕ) (k : ℕ) (a : List ℕ) → four_at meshes k ≡ a → get_or meshes (4 * k) 0 ≡ get_or a 0 0
number_at meshes k a e = ap (λ n. get_or meshes n 0) (sym (add-zero (4 * k))) ∙ entry_at meshes k 0 a e (omega arith)

module _ (os : List (Outcome RepairRooms)) (d : Outcome RepairRooms) (told : (j : ℕ) → j < length os → Told (get_or os j d)) (r : PanelRooms) (a b c e m : ℕ) (w : List ℕ) where
  -- rooms that hold what these repairs share
  abbrev packed : PanelRooms
  packed =
      record {
        out_points = filled zero64 a (each its_points os) r.out_points;
        out_faces = filled 0 b (each its_faces os) r.out_faces;
        report = filled 0 c (each its_counts os) r.report;
        origins = filled 0 e (each its_origins os) r.origins;
        meshes = filled 0 m (each (λ o. four o.answer) os) r.meshes;
        work = w;
      }

  -- the four entries of mesh k
  four_is : (k : ℕ) → k < length os → four_at packed.meshes k ≡ four (get_or os k d).answer
  unfolding four_at
  four_is k h =
      filled_cut (λ o. four o.answer) d os 0 m r.meshes k (4 * k) 4 h
      (length_fours (take k os) ∙ ap (λ n. 4 * n) (length-take-le k os (omega arith))) (length_four (get_or os k d).answer)

  -- they tell how long its points are
  points_long : (j : ℕ) → j < length os → length (its_points (get_or os j d)) ≡ 3 * points_at packed.meshes j
  unfolding points_at
  points_long j h = (told j h).points_told ∙ sym (ap (λ n. 3 * n) (entry_at packed.meshes j 2 (four (get_or os j d).answer) (four_is j h) (omega arith)))

  -- its faces
  faces_long : (j : ℕ) → j < length os → length (its_faces (get_or os j d)) ≡ 3 * faces_at packed.meshes j
  unfolding faces_at
  faces_long j h = (told j h).faces_told ∙ sym (ap (λ n. 3 * n) (entry_at packed.meshes j 3 (four (get_or os j d).answer) (four_is j h) (omega arith)))

  -- its counts
  counts_long : (j : ℕ) → j < length os → length (its_counts (get_or os j d)) ≡ report_counts * accepted_at packed.meshes j
  unfolding accepted_at
  counts_long j h = (told j h).counts_told ∙ sym (ap (λ n. report_counts * cond (eqb n 0) 1 0) (number_at packed.meshes j (four (get_or os j d).answer) (four_is j h)))

  -- and its origins
  origins_long : (j : ℕ) → j < length os → length (its_origins (get_or os j d)) ≡ 1 * faces_at packed.meshes j
  unfolding faces_at
  origins_long j h = (told j h).origins_told ∙ sym (entry_at packed.meshes j 3 (four (get_or os j d).answer) (four_is j h) (omega arith)) ∙ omega arith

  -- so each part begins behind those before it and is as long as told
  pub cut_out : (k : ℕ) → k < length os → ItsCall packed k (get_or os k d)
  unfolding points_part faces_part counts_part origins_part
  cut_out k h =
      record {
        in_meshes = four_is k h;
        in_points = filled_cut its_points d os zero64 a r.out_points k (3 * before (points_at packed.meshes) k) (3 * points_at packed.meshes k) h
            (length_before its_points d os 3 (points_at packed.meshes) points_long k (omega arith)) (points_long k h);
        in_faces = filled_cut its_faces d os 0 b r.out_faces k (3 * before (faces_at packed.meshes) k) (3 * faces_at packed.meshes k) h
            (length_before its_faces d os 3 (faces_at packed.meshes) faces_long k (omega arith)) (faces_long k h);
        in_counts = filled_cut its_counts d os 0 c r.report k (report_counts * before (accepted_at packed.meshes) k) (report_counts * accepted_at packed.meshes k) h
            (length_before its_counts d os report_counts (accepted_at packed.meshes) counts_long k (omega arith)) (counts_long k h);
        in_origins = filled_cut its_origins d os 0 e r.origins k (before (faces_at packed.meshes) k) (faces_at packed.meshes k) h
            (omega (arith, length_before its_origins d os 1 (faces_at packed.meshes) origins_long k (omega arith))) (omega (arith, origins_long k h));
      }

  -- all parts of a kind together
  all-long :
      {B : Type 0} (f : Outcome RepairRooms → List B) (c : ℕ) (g : ℕ → ℕ) → ((j : ℕ) → j < length os → length (f (get_or os j d)) ≡ c * g j)
      → length (each f os) ≡ c * before g (length os)
  all-long f c g h = ap (λ l. length (each f l)) (sym (take-length os)) ∙ length_before f d os c g h (length os) (omega arith)

  -- so many entries stand in each room
  pub lengths_told :
      (length (each its_points os) ≡ 3 * before (points_at packed.meshes) (length os)) × (length (each its_faces os) ≡ 3 * before (faces_at packed.meshes) (length os))
      × (length (each its_counts os) ≡ report_counts * before (accepted_at packed.meshes) (length os)) × (length (each its_origins os) ≡ before (faces_at packed.meshes) (length os))
      × (length (each (λ o. four o.answer) os) ≡ 4 * length os)
  lengths_told = (
    all-long its_points 3 (points_at packed.meshes) points_long,
    all-long its_faces 3 (faces_at packed.meshes) faces_long,
    all-long its_counts report_counts (accepted_at packed.meshes) counts_long,
    omega (arith, all-long its_origins 1 (faces_at packed.meshes) origins_long),
    length_fours os,
  )
