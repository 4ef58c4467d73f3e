-- One word a face over the flat list xs of the input faces: which faces stand, how they stand, and the rules' list that they are. Definitions only.
use Rattle.std.specs.Prelude.{Bool, cond, List, map, ℕ, ◌/◌, ◌%◌, eqb, length, get_or}
use Rattle.rules.specs.Lists.{below, filter, count, each}
use Rattle.rules.specs.Mesh.{Face, face, faces_of, exchanged}
use Rattle.rules.specs.Steps.{Step, steps}

-- face f is not gone
unfoldable pub stands : List ℕ → ℕ → Bool
stands w f = eqb (get_or w f 0 % 2) 0

-- its corners stand as they were put in
unfoldable pub straight : List ℕ → ℕ → Bool
straight w f = eqb (get_or w f 0 / 2 % 2) 0

-- face f as it stands; its origin is f
unfoldable pub view : List ℕ → List ℕ → ℕ → Face
view xs w f = cond (straight w f) (face (faces_of xs) f) (exchanged (face (faces_of xs) f))

-- the faces below k that stand, in their order
abbrev pub there : List ℕ → ℕ → List ℕ
there w k = filter (stands w) (below k)

-- the rules' list
abbrev pub viewed : List ℕ → List ℕ → List Face
viewed xs w = map (view xs w) (there w (length w))

-- the place of face f in that list: how many stand before it
abbrev pub place : List ℕ → ℕ → ℕ
place w f = count (stands w) (below f)

-- every face, gone or not, as it stands: face f is at place f
abbrev pub every_face : List ℕ → List ℕ → List Face
every_face xs w = map (view xs w) (below (length w))

-- the entries whose steps pass the test, of faces below k that stand: one number of a face for each, in face order
abbrev pub takers_at : (Step → Bool) → List ℕ → List ℕ → ℕ → List ℕ
takers_at p xs w k = each (λ f. map (λ s. f) (filter p (steps (view xs w f)))) (there w k)
