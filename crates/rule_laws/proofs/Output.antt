-- What else holds of the output: its corners are points, and its points lie where input points lie. Assumes nothing.
use mathlib.Core.Path.{◌≡◌, refl, sym, subst}
use mathlib.Core.Logic.{inl, inr}
use mathlib.Core.Bool.{Bool}
use mathlib.Core.List.Memᴰ
use mathlib.Core.List.{List, Memᴰ}
use Prim.Native.Nat.{ℕ, ◌<◌}
use lib.ListN.{length, get_or}
use lib.Dec.{T}
use lib.Ieee.{Float}
use Rattle.rules.specs.Lists.{below, count, leave, has}
use Rattle.rules.specs.Mesh.{Point, Face, point, face, corners, exchanged, renamed}
use Rattle.rules.specs.State.{State}
use Rattle.rules.specs.Pass4.{pass4}
use Rattle.rules.specs.Pass5.{pass5}
use Rattle.rules.specs.Pass6.{pass6, used, marked6, number}
use Rattle.rules.specs.Repair.{repaired}
use Rattle.rule_laws.proofs.Lists.{leave_count}
use Rattle.rule_laws.proofs.Rising.{All, all_map}
use Rattle.rule_laws.proofs.Members.{all_in, any_mem, has_mem, in_all, mem_index}
use Rattle.rule_laws.proofs.Counting.{count_strict}
use Rattle.rule_laws.proofs.Demand.{Traced, Lies, positions}
use Rattle.rule_laws.proofs.Once.{Inside, CornersBelow, face_inside}
use Rattle.rule_laws.proofs.Pass5.{pass5_inside}
use Rattle.rule_laws.proofs.Pass6.{corner_used}
use Rattle.rule_laws.proofs.Manifold.{opted, before4, before4_fine, pass4_fine, all_six}

-- ---- its corners are points

-- a used point's new number is below the number of used points
pub pass6_inside : (m : State) → Inside (length m.points) m.faces → Inside (length (pass6 m).points) (pass6 m).faces
unfolding pass6 renamed marked6 number
pass6_inside m h =
    all_map In (renamed (number m.faces)) m.faces
    (in_all (λ f. In (renamed (number m.faces) f)) m.faces
    (λ f mf.
    let b = all_in (CornersBelow (length m.points)) f m.faces h mf in
    (new f mf f.a (Memᴰ.head refl) b.0, new f mf f.b (Memᴰ.tail (Memᴰ.head refl)) b.1, new f mf f.c (Memᴰ.tail (Memᴰ.tail (Memᴰ.head refl))) b.2)))
  where
    n : ℕ
    n = length (leave (marked6 m.faces) m.points)

    In : Face → Type 0
    In f = CornersBelow n f

    new : (f : Face) → Memᴰ f m.faces → (x : ℕ) → Memᴰ x (corners f) → x < length m.points → count (used m.faces) (below x) < n
    new f mf x mx l = rw (leave_count (used m.faces) m.points) (count_strict (used m.faces) x (length m.points) l (corner_used m.faces f x mf mx))

-- with passes 4, 5 and 6, whichever of the others run, the corners of the output are points
pub output_inside :
    (one two three : Bool) (s : Float) (ps : List Point) (fs : List Face) → Inside (length ps) fs
    → Inside (length (repaired s (opted one two three) ps fs).points) (repaired s (opted one two three) ps fs).faces
output_inside one two three s ps fs h =
    let m3 = before4 one two three s ps fs in
    let f3 = before4_fine one two three s ps fs h in
    let f4 = pass4_fine m3 f3 in
    subst (λ m. Inside (length m.points) m.faces) (sym (all_six one two three s ps fs)) (pass6_inside (pass5 (pass4 m3)) (pass5_inside (pass4 m3) f4))

-- ---- its points lie where input points lie: each is a traced face's corner

module _ (Q : Point → Type 0) (ps ps' : List Point) (fs fs' : List Face) (traced : Traced ps fs ps' fs') (inside : Inside (length ps) fs) (all : (v : ℕ) → v < length ps → Q (point ps v)) where
  -- the places of an input face
  places_hold : (f : Face) → CornersBelow (length ps) f → All Q (positions ps f)
  places_hold f h = (all f.a h.0, (all f.b h.1, (all f.c h.2, tt)))

  -- what holds of every input point holds of every used output point
  pub points_from : ((v : ℕ) → v < length ps' → T (used fs' v)) → (v : ℕ) → v < length ps' → Q (point ps' v)
  unfolding used face
  points_from every v l =
      let w = any_mem (λ f. has v (corners f)) fs' (every v l) in
      at w.0 (mem_index (record { a = 0; b = 0; c = 0; origin = 0 }) w.0 fs' w.1) (has_mem v (corners w.0) w.2)
    where
      at : (g : Face) → (k : ℕ) × (k < length fs') × (get_or fs' k (record { a = 0; b = 0; c = 0; origin = 0 }) ≡ g) → Memᴰ v (corners g) → Q (point ps' v)
      at g (k, lk, e) m = go (traced.places k lk)
        where
          o : ℕ
          o = (face fs' k).origin

          lo : o < length fs
          lo = traced.inputs k lk

          bound : CornersBelow (length ps) (face fs o)
          bound = face_inside (length ps) fs inside o lo

          there : Memᴰ (point ps' v) (positions ps' (face fs' k))
          there = subst (λ f. Memᴰ (point ps' v) (positions ps' f)) (sym e) (Memᴰ.map (point ps') m)

          go : Lies ps (face fs o) ps' (face fs' k) → Q (point ps' v)
          go (inl q) = all_in Q (point ps' v) (positions ps (face fs o)) (places_hold (face fs o) bound) (subst (Memᴰ (point ps' v)) q there)
          go (inr q) =
              all_in Q (point ps' v) (positions ps (exchanged (face fs o)))
              (places_hold (exchanged (face fs o)) (unfold exchanged in (bound.0, bound.2, bound.1)))
              (subst (Memᴰ (point ps' v)) q there)
