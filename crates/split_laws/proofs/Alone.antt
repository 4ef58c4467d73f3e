-- What pass 5 splits off and how it renames corners is decided by the number of points and the corners alone. Assumes nothing.
use mathlib.Core.Path.{◌≡◌, refl, sym, ap, ap₂, ◌∙◌, subst}
use mathlib.Core.List.{List, map}
use Prim.Native.Nat.{ℕ, ◌+◌}
use lib.ListN.{length, get_or, drop, replicate}
use Rattle.rules.specs.Lists.{below}
use Rattle.rules.specs.Mesh.{Face, face, flat_faces, renamed}
use Rattle.rules.specs.State.{State}
use Rattle.rules.specs.Pass5.{pass5}
use Rattle.rule_laws.proofs.Lists.{each_same}
use Rattle.rule_laws.proofs.Once.{Inside}
use Rattle.rule_laws.proofs.Relabel.{Alike, fans_alike, inside_alike, pass5_alike}
use Rattle.rule_laws.proofs.Carried.{flat_same}
use Rattle.splitting.specs.Corners.{extras, goal_of}
use Rattle.splitting.proofs.Numbers.{rest_length}
use Rattle.splitting.proofs.Goals.{points_many, faces_are}
use Rattle.split_laws.specs.Olds.{olds_to, old_of}
use Rattle.split_laws.proofs.Lines.{olds_many}

module _ (gs fs : List Face) (h : Alike gs fs) where
  -- as many groups are split off
  extras_alike : (v : ℕ) → extras gs v ≡ extras fs v
  extras_alike v = sym (rest_length gs v) ∙ ap (λ l. length (drop 1 l)) (fans_alike gs fs h v) ∙ rest_length fs v

  -- so the old points are the same
  pub olds_alike : (k : ℕ) → olds_to gs k ≡ olds_to fs k
  unfolding olds_to
  olds_alike k = each_same (λ v. replicate (extras gs v) v) (λ v. replicate (extras fs v) v) (λ v. ap (λ n. replicate n v) (extras_alike v)) (below k)

  -- one by one
  pub old_alike : (P j : ℕ) → old_of gs P j ≡ old_of fs P j
  unfolding old_of
  old_alike P j = ap (λ l. get_or l j 0) (olds_alike P)

module _ (m n : State) (inside : Inside (length n.points) n.faces) (many : length m.points ≡ length n.points) (alike : Alike m.faces n.faces) where
  -- the corners of one are points of the other
  pub inside_too : Inside (length m.points) m.faces
  inside_too = subst (λ k. Inside k m.faces) (sym many) (inside_alike m.faces n.faces alike (length n.points) inside)

  -- as many points are there after the pass
  pub points_same : length (pass5 m).points ≡ length (pass5 n).points
  points_same =
      points_many m inside_too
      ∙ sym (olds_many m.faces (length m.points) (length m.points))
      ∙ ap₂ (λ (k : ℕ) (l : List ℕ). k + length l) many (olds_alike m.faces n.faces alike (length m.points) ∙ ap (olds_to n.faces) many)
      ∙ olds_many n.faces (length n.points) (length n.points)
      ∙ sym (points_many n inside)

  -- the first with the points and the report of the second
  abbrev between : State
  between = record { points = n.points; faces = m.faces; report = n.report }

  -- and the same corners
  pub faces_alike : Alike (pass5 m).faces (pass5 n).faces
  faces_alike =
      subst (λ l. Alike l (pass5 n).faces)
      (sym
      (faces_are m inside_too
      ∙ ap (λ k. map (λ i. renamed (goal_of m.faces k i) (face m.faces i)) (below (length m.faces))) many
      ∙ sym (faces_are between (subst (λ k. Inside k m.faces) many inside_too))))
      (pass5_alike between n (record { points = refl; faces = alike; report = refl })).faces

  -- in one list
  pub flat_alone : flat_faces (pass5 m).faces ≡ flat_faces (pass5 n).faces
  flat_alone = flat_same (pass5 m).faces (pass5 n).faces faces_alike
