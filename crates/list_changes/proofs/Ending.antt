-- A bench that stands in the rooms when no line is left: it may be finished, and then the mesh that the rules make of it stands at the front. Assumes nothing.
use mathlib.Core.Path.{◌≡◌, sym, ap, ◌∙◌}
use mathlib.Core.List.{List, map}
use Prim.Native.Nat.{ℕ, ◌*◌, ◌≤◌}
use native.Mathlib.Omega.{arith}
use lib.Ieee.{Float}
use lib.ListN.{take}
use Rattle.rules.specs.Lists.{leave, has}
use Rattle.rules.specs.Mesh.{flat_points, flat_faces, renamed}
use Rattle.rules.specs.Refusal.{most_points, most_faces}
use Rattle.rules.specs.Applying.{Bench, finished}
use Rattle.list_changes.specs.declared.Finished.{Finished}
use Rattle.list_changes.specs.Changes.{Stands}
use Rattle.list_changes.specs.Finish.{FinishAsks, FinishGives, number_left}
use Rattle.list_changes.proofs.Gone.{left_leave}

module _ {P F : ℕ} {b : Bench} {ps : List Float} {n : ℕ} {xs w : List ℕ} (s : Stands P F b ps n xs w) (few_points : P ≤ most_points) (few_faces : F ≤ most_faces) where
  -- it may be finished
  abbrev pub finish-asks : FinishAsks ps n xs F w
  finish-asks =
      let m = s.most in
      record {
        points_fit = omega (arith, s.points_fit);
        fit = s.faces_fit;
        inside = s.inside;
        room = omega (arith, s.work_fit);
        few = omega arith;
        gone = s.gone;
        flags = s.flags;
        named = λ v. has v b.unused;
        names = record { each = λ i h. s.named.each i (omega arith) };
      }

  module _ {ps' : List Float} {xs' w' : List ℕ} {r : Finished} (g : FinishGives s.gone (λ v. has v b.unused) ps n xs F w ps' xs' w' r) where
    -- its points
    pub finished_points : take (3 * r.points) ps' ≡ flat_points (finished b).points
    unfolding finished
    finished_points = g.points ∙ ap (λ l. flat_points (leave (λ v. has v b.unused) l)) (sym s.points)

    -- and its faces
    pub finished_faces : take (3 * r.faces) xs' ≡ flat_faces (finished b).faces
    unfolding finished
    finished_faces =
        g.faces
        ∙ ap (λ l. flat_faces (map (renamed (number_left (λ v. has v b.unused))) l)) (sym (s.faces ∙ left_leave s.gone (take (3 * F) xs)))
