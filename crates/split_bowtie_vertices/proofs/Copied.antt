-- The points and their copies in the room are the points of the rule. Assumes nothing.
use mathlib.Core.Path.{◌≡◌, refl, sym, ap, ap₂, ◌∙◌}
use mathlib.Core.List.{List, [], ◌∷◌, ◌++◌}
use Prim.Native.Nat.{ℕ, suc, ◌*◌, ◌≤◌, ◌<◌}
use native.Mathlib.Omega.{arith}
use lib.Ieee.{Float}
use lib.ListN.{length, take}
use lib.Seq.{length-take-le}
use Rattle.rows.specs.Region.{part}
use Rattle.rules.specs.Lists.{below, each}
use Rattle.rules.specs.Mesh.{point, points_of, flat_points, coordinates, faces_of}
use Rattle.rules.specs.State.{State}
use Rattle.rules.specs.Pass5.{pass5}
use Rattle.rule_laws.proofs.Lists.{each_append, each_map, below_suc}
use Rattle.rule_laws.proofs.Flat.{flat_points_back}
use Rattle.rule_laws.proofs.Once.{Inside}
use Rattle.leaving.proofs.Leaving.{point_row, length_points_take}
use Rattle.splitting.specs.Corners.{extras}
use Rattle.splitting.proofs.Agreeing.{each_agree, on_below}
use Rattle.splitting.proofs.AllAtOnce.{points_now, rest, copies}
use Rattle.splitting.proofs.Numbers.{rest_length}
use Rattle.split_bowtie_vertices.specs.Splits.{copies_of}

-- one list for each element of a list, and for each number below its length
each_const : {A B : Type 0} (c : List A) (xs : List B) → each (λ x. c) xs ≡ each (λ i. c) (below (length xs))
unfolding each
each_const c [] = unfold below in refl
each_const c (x ∷ xs) = ap (λ l. c ++ l) (each_const c xs ∙ sym (each_map (λ i. c) suc (below (length xs)))) ∙ sym (ap (each (λ i. c)) (below_suc (length xs)))

-- the lists made of lists
each_each : {A B C : Type 0} (h : B → List C) (f : A → List B) (xs : List A) → each h (each f xs) ≡ each (λ x. each h (f x)) xs
unfolding each
each_each h f [] = refl
each_each h f (x ∷ xs) = each_append h (f x) (each f xs) ∙ ap (λ l. each h (f x) ++ l) (each_each h f xs)

module _ (ps : List Float) (P : ℕ) (fit : 3 * P ≤ length ps) (ys R : List ℕ) (inside : Inside (length (points_of (take (3 * P) ps))) (faces_of ys)) where
  -- the state before the pass
  abbrev m : State
  m = record { points = points_of (take (3 * P) ps); faces = faces_of ys; report = R }

  -- the copies of one point
  copies_flat : (v : ℕ) → v < P → each coordinates (copies m inside v) ≡ each (λ j. part ps (3 * v) 3) (below (extras (faces_of ys) v))
  copies_flat v h =
      each_map coordinates (λ g. point m.points v) (rest m inside v)
      ∙ each_const (coordinates (point m.points v)) (rest m inside v)
      ∙ ap₂ (λ c n. each (λ j. c) (below n)) (sym (point_row ps P fit v h)) (rest_length (faces_of ys) v)

  -- all points after the pass
  pub points_flat : flat_points (pass5 m).points ≡ take (3 * P) ps ++ copies_of ps ys P
  unfolding flat_points pass5
  points_flat =
      ap (each coordinates) (points_now m inside (length m.points) (omega arith))
      ∙ each_append coordinates m.points (each (copies m inside) (below (length m.points)))
      ∙ ap₂ (λ a b. a ++ b) (flat_points_back (take (3 * P) ps) (let e = length-take-le (3 * P) ps fit in omega arith))
      (each_each coordinates (copies m inside) (below (length m.points))
      ∙ ap (λ n. each (λ v. each coordinates (copies m inside v)) (below n)) (length_points_take ps P fit)
      ∙ each_agree (λ v. each coordinates (copies m inside v)) (λ v. each (λ j. part ps (3 * v) 3) (below (extras (faces_of ys) v))) (below P) (on_below (λ v. each coordinates (copies m inside v) ≡ each (λ j. part ps (3 * v) 3) (below (extras (faces_of ys) v))) P copies_flat))
