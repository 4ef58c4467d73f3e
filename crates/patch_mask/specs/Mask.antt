-- The patch filter as C gives it: a mask and five numbers. Definitions only.
use Rattle.std.specs.Prelude.{Bool, true, false, ℕ, ◌/◌, ◌%◌, eqb, Float}
use Rattle.rules.specs.Patches.{Filter, Limit, absent, limit}

-- the mask sets the limit with this bit
abbrev pub set : ℕ → ℕ → Bool
set limits bit = eqb (limits / bit % 2) 1

-- a number that counts if it is set
abbrev pub held : {A : Type 0} → Bool → A → Limit A
held true x = limit x
held false x = absent

-- the filter: bit k is that of the k-th limit, and the bits above say nothing
abbrev pub masked : ℕ → ℕ → Float → Float → Float → ℕ → Filter
masked limits min_faces min_area min_diagonal min_fraction keep_largest =
    record {
      min_faces = held (set limits 1) min_faces;
      min_area = held (set limits 2) min_area;
      min_diagonal = held (set limits 4) min_diagonal;
      min_fraction = held (set limits 8) min_fraction;
      keep_largest = held (set limits 16) keep_largest;
    }
