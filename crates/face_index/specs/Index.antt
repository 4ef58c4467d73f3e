-- Bits by bucket of point and block of faces: where a bit is clear, no face of the block has a corner in the bucket. Over the flat list xs of the faces and the
-- index ix, 1024 rows of as many words as fit. Definitions only.
use Rattle.std.specs.Prelude.{◌≡◌, Bool, false, ◌&&◌, List, ℕ, ◌+◌, ◌*◌, ◌/◌, ◌%◌, ◌^◌, ◌≤◌, ◌<◌, length, get_or}
use Rattle.rules.specs.Lists.{has}
use Rattle.rules.specs.Mesh.{face, faces_of, corners}
use Rattle.rules.specs.Refusal.{most_faces}

-- both a and b are corners of face f
unfoldable pub joins : List ℕ → ℕ → ℕ → ℕ → Bool
joins xs a b f = has a (corners (face (faces_of xs) f)) && has b (corners (face (faces_of xs) f))

-- the bucket of a point
unfoldable pub bucket_of : ℕ → ℕ
bucket_of v = v * v % 1000003 % 1024

-- how many words a row has
unfoldable pub width_of : List ℕ → ℕ
width_of ix = length ix / 1024

-- how many faces a block has: so many that a row has a bit for each block
unfoldable pub size_of : List ℕ → List ℕ → ℕ
size_of xs ix = length xs / 3 / (32 * width_of ix) + 1

-- bit k of a word
unfoldable pub bit_of : ℕ → ℕ → ℕ
bit_of x k = x / 2 ^ k % 2

-- the bit of the bucket of v and block k
unfoldable pub bit_at : List ℕ → ℕ → ℕ → ℕ
bit_at ix v k = bit_of (get_or ix (bucket_of v * width_of ix + k / 32) 0) (k % 32)

-- whole faces, not too many, and a row of one word at least
pub record IndexAsks (xs ix : List ℕ) : Type 0 where
  pub whole : length xs % 3 ≡ 0
  pub few : length xs / 3 ≤ most_faces
  pub wide : 1024 ≤ length ix

-- the bit of each corner is set
pub record Indexed (xs ix : List ℕ) : Type 0 where
  pub asks : IndexAsks xs ix
  pub told : (i : ℕ) → i < length xs → bit_at ix (get_or xs i 0) (i / 3 / size_of xs ix) ≡ 1

-- a block that a row has a bit for
pub record NoteAsks (ix : List ℕ) (k : ℕ) : Type 0 where
  pub wide : 1024 ≤ length ix
  pub here : k < 32 * width_of ix

-- its bit is set, and none is cleared
pub record NoteGives (ix : List ℕ) (v k : ℕ) (ix' : List ℕ) : Type 0 where
  pub long : length ix' ≡ length ix
  pub noted : bit_at ix' v k ≡ 1
  pub kept : (u j : ℕ) → bit_at ix u j ≡ 1 → bit_at ix' u j ≡ 1

-- f is a face
pub record JoinsAsks (xs : List ℕ) (f : ℕ) : Type 0 where
  pub whole : length xs % 3 ≡ 0
  pub here : f < length xs / 3

-- f is a face, or the number of faces
pub record CandidateAsks (xs : List ℕ) (f : ℕ) : Type 0 where
  pub whole : length xs % 3 ≡ 0
  pub most : f ≤ length xs / 3

-- the next face that may have both corners
pub record CandidateGives (xs : List ℕ) (a b from r : ℕ) : Type 0 where
  pub least : from ≤ r
  pub most : r ≤ length xs / 3
  pub none : (g : ℕ) → from ≤ g → g < r → joins xs a b g ≡ false

-- a face among blocks of faces
pub record PastAsks (f size : ℕ) : Type 0 where
  pub sized : 0 < size
  pub low : f ≤ most_faces
  pub small : size ≤ most_faces + 1

-- the faces between f and r are in blocks whose bit is clear in the word x, which is that of the block of f
pub record PastGives (x f size r : ℕ) : Type 0 where
  pub more : f < r
  pub clear : (g : ℕ) → f < g → g < r → (g / size / 32 ≡ f / size / 32) × (bit_of x (g / size % 32) ≡ 0)
