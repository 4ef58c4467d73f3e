-- The three parts of the work room: as one room, all one number, and filled with a number. Definitions only.
use Rattle.std.specs.Prelude.{◌≡◌, Bool, true, false, List, ◌++◌, ℕ, length}
use Rattle.rows.specs.Region.{Only, Filled}

-- the parts are one room
abbrev pub joined : List ℕ → List ℕ → List ℕ → List ℕ
joined corners origins rest = corners ++ origins ++ rest

-- a test for the first n entries of a row being all c
pub record AllTold (w : List ℕ) (n c : ℕ) (r : Bool) : Type 0 where
  pub so : r ≡ true → Filled 0 n c w
  pub not_so : r ≡ false → Filled 0 n c w → ⊥

-- all corners, all origins and the first n entries of the rest are c
pub record Uniform (corners origins rest : List ℕ) (n c : ℕ) : Type 0 where
  pub corners_are : Filled 0 (length corners) c corners
  pub origins_are : Filled 0 (length origins) c origins
  pub rest_are : Filled 0 n c rest

-- a test for it
pub record UniformTold (corners origins rest : List ℕ) (n c : ℕ) (r : Bool) : Type 0 where
  pub so : r ≡ true → Uniform corners origins rest n c
  pub not_so : r ≡ false → Uniform corners origins rest n c → ⊥

-- corners, origins and the first n entries of the rest are changed, and nothing else
pub record Changed (corners origins rest : List ℕ) (n : ℕ) (corners' origins' rest' : List ℕ) : Type 0 where
  pub long_corners : length corners' ≡ length corners
  pub long_origins : length origins' ≡ length origins
  pub only_rest : Only 0 n rest rest'

-- they are filled with c
pub record FillGives (corners origins rest : List ℕ) (n c : ℕ) (corners' origins' rest' : List ℕ) : Type 0 where
  pub changed : Changed corners origins rest n corners' origins' rest'
  pub uniform : Uniform corners' origins' rest' n c
