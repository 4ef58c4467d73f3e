-- The rows of the work room, of n corners: their bits, the first corner that is equal to each, flags, numbers. Definitions only.
use Rattle.std.specs.Prelude.{◌≡◌, cond, List, ℕ, ◌+◌, ◌*◌, ◌^◌, ◌≤◌, ◌<◌, eqb, length, get_or, Float}
use Rattle.std.specs.Float.{nan, binary32}
use Rattle.rows.specs.Region.{OnlyOf, Only, Holds}
use Rattle.rules.specs.Refusal.{most_faces}
use Rattle.rules.specs.Bytes.{u32_at}
use Rattle.rules.specs.Stl.{coordinate, place_of}
use Rattle.rule_laws.proofs.Equal.{one_zero}
use Rattle.stl_file.specs.Files.{CornerAsks}

-- the bits of the f32 whose lowest byte is byte i, with +0 for -0
abbrev pub bits_at : List ℕ → ℕ → ℕ
bits_at file i = one_zero binary32 (u32_at file i)

-- n corners stand in the file
pub record CornersIn (file : List ℕ) (n : ℕ) : Type 0 where
  pub few : n ≤ 3 * most_faces
  pub corner : (c : ℕ) → c < n → CornerAsks file c

-- ---- the bits of all corners
pub record FileAsks (file : List ℕ) (n : ℕ) (w : List ℕ) : Type 0 where
  pub corners_in : CornersIn file n
  pub fit : 3 * n ≤ length w

-- they are u32
pub record Small (file : List ℕ) (i : ℕ) : Type 0 where
  pub x : bits_at file i < 2 ^ 32
  pub y : bits_at file (i + 4) < 2 ^ 32
  pub z : bits_at file (i + 8) < 2 ^ 32

pub record KeysGives (file : List ℕ) (n : ℕ) (w w' : List ℕ) : Type 0 where
  pub only : Only 0 (3 * n) w w'
  pub xs : Holds 0 n (λ c. bits_at file (place_of c)) w'
  pub ys : Holds n n (λ c. bits_at file (place_of c + 4)) w'
  pub zs : Holds (2 * n) n (λ c. bits_at file (place_of c + 8)) w'
  pub small : (c : ℕ) → c < n → Small file (place_of c)

-- ---- all corners in the points room
pub record CornersAsks (file : List ℕ) (n : ℕ) (ps : List Float) : Type 0 where
  pub corners_in : CornersIn file n
  pub fit : 3 * n ≤ length ps

-- corner c stands there
pub record Stands (file : List ℕ) (ps : List Float) (c : ℕ) : Type 0 where
  pub x : get_or ps (3 * c) nan ≡ coordinate file (place_of c)
  pub y : get_or ps (3 * c + 1) nan ≡ coordinate file (place_of c + 4)
  pub z : get_or ps (3 * c + 2) nan ≡ coordinate file (place_of c + 8)

pub record CornersGives (file : List ℕ) (n : ℕ) (ps ps' : List Float) : Type 0 where
  pub only : OnlyOf nan 0 (3 * n) ps ps'
  pub stands : (c : ℕ) → c < n → Stands file ps' c

-- ---- a flag for each corner that is not the first equal one
pub record FlagsAsks (w : List ℕ) (n : ℕ) : Type 0 where
  pub few : n < 2 ^ 32
  pub fit : 6 * n ≤ length w
  pub inside : (c : ℕ) → c < n → get_or w (4 * n + c) 0 < n

pub record FlagsGives (w : List ℕ) (n : ℕ) (w' : List ℕ) : Type 0 where
  pub only : Only (5 * n) n w w'
  pub flags : Holds (5 * n) n (λ c. cond (eqb (get_or w (4 * n + c) 0) c) 0 1) w'

-- ---- the number of the first equal corner
pub record TriplesAsks (w : List ℕ) (n : ℕ) (fs : List ℕ) : Type 0 where
  pub few : n < 2 ^ 32
  pub fit : 7 * n ≤ length w
  pub room : n ≤ length fs
  pub inside : (c : ℕ) → c < n → get_or w (4 * n + c) 0 < n

pub record TriplesGives (w : List ℕ) (n : ℕ) (fs fs' : List ℕ) : Type 0 where
  pub only : Only 0 n fs fs'
  pub numbers : Holds 0 n (λ c. get_or w (6 * n + get_or w (4 * n + c) 0) 0) fs'
