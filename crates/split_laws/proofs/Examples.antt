-- Small meshes, computed: the lines of passes 5 and 6 by the rules, and the old points and the faces that take each new one. Assumes nothing.
use mathlib.Core.Path.{◌≡◌, refl}
use mathlib.Core.List.{List, [], ◌∷◌, map}
use Prim.Native.Nat.{ℕ}
use lib.ListN.{replicate}
use Rattle.rules.specs.Mesh.{faces_of, zero64}
use Rattle.rules.specs.State.{State, start}
use Rattle.rules.specs.Pass5.{pass5}
use Rattle.rules.specs.Mending.{split_point, isolated_point, lines5, lines6}
use Rattle.rules.specs.Open.{every_rule}
use Rattle.splitting.specs.Corners.{corner_at, joined_at, corners_at, extra, extras}
use Rattle.split_laws.specs.Olds.{olds_to, takers_of}

-- P points and these faces
abbrev mesh : ℕ → List ℕ → State
mesh P xs = start (replicate P (record { x = zero64; y = zero64; z = zero64 })) (faces_of xs)

-- one face with one point at all corners
abbrev alone : State
alone = mesh 1 (0 ∷ 0 ∷ 0 ∷ [])

alone_lines : lines5 alone ≡ split_point 0 1 (0 ∷ []) ∷ split_point 0 2 [] ∷ []
unfolding every_rule
alone_lines = refl

alone_unused : lines6 (pass5 alone) ≡ isolated_point 0 ∷ isolated_point 2 ∷ []
unfolding every_rule
alone_unused = refl

alone_olds : olds_to alone.faces 1 ≡ 0 ∷ 0 ∷ []
unfolding every_rule olds_to extras extra corners_at joined_at corner_at
alone_olds = refl

alone_takers : map (takers_of alone.faces (pass5 alone).faces) (1 ∷ 2 ∷ []) ≡ (0 ∷ []) ∷ [] ∷ []
unfolding every_rule takers_of
alone_takers = refl

-- a face that repeats a corner, and takes a copy of a corner of each of two others
abbrev fans : State
fans = mesh 6 (0 ∷ 1 ∷ 2 ∷ 3 ∷ 4 ∷ 5 ∷ 5 ∷ 0 ∷ 5 ∷ [])

fans_lines : lines5 fans ≡ split_point 0 6 (2 ∷ []) ∷ split_point 5 7 (2 ∷ []) ∷ []
unfolding every_rule
fans_lines = refl

fans_olds : olds_to fans.faces 6 ≡ 0 ∷ 5 ∷ []
unfolding every_rule olds_to extras extra corners_at joined_at corner_at
fans_olds = refl
