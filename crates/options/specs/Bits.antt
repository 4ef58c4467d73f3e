-- The place of each pass among the bits of the options. Definitions only.
use Rattle.std.specs.Prelude.{ℕ}
use Rattle.options.specs.declared.Pass.{Pass}
use Rattle.options.specs.declared.Pass.TheVariants.{DropDegenerate, DropDuplicateFaces, ResolveNonmanifoldEdges, SplitBowtieVertices, OrientConsistently, DropIsolatedVertices}

-- which bit it is, from 0
abbrev pub place_of : Pass → ℕ
place_of DropDegenerate = 0
place_of DropDuplicateFaces = 1
place_of ResolveNonmanifoldEdges = 2
place_of SplitBowtieVertices = 3
place_of OrientConsistently = 4
place_of DropIsolatedVertices = 5
