-- The words of this crate's contracts: what a byte says of its face. Definitions only.
use Rattle.std.specs.Prelude.{◌≡◌, Bool, not, ◌&&◌, ◌||◌, cond, List, ℕ, ◌+◌, ◌*◌, ◌/◌, ◌%◌, ◌≤◌, ◌<◌, eqb, ltb, length, get_or}
use Rattle.rules.specs.Lists.{below, any, has}
use Rattle.rule_laws.proofs.Rising.{All}
use Rattle.list_lines.specs.Lines.{Faces, faces_from_row}
use Rattle.point_bits.specs.Bits.{bit}

-- face f is there
unfoldable pub here : List ℕ → ℕ → Bool
here m f = eqb (get_or m f 0 % 2) 0

-- a corner x of a face with the byte m is the point v, and was not taken over
unfoldable pub free : ℕ → ℕ → ℕ → ℕ → Bool
free m unit v x = eqb v x && eqb (m / unit % 2) 0

-- face f of the input still has the point v
unfoldable pub keeps : List ℕ → List ℕ → ℕ → ℕ → Bool
keeps xs m f v =
    free (get_or m f 0) 2 v (get_or xs (3 * f) 0)
    || (free (get_or m f 0) 4 v (get_or xs (3 * f + 1) 0) || free (get_or m f 0) 8 v (get_or xs (3 * f + 2) 0))

-- f is one of n faces, is there and still has the point v
abbrev pub has_face : List ℕ → List ℕ → ℕ → ℕ → ℕ → Bool
has_face xs m n v f = (ltb f n && here m f) && keeps xs m f v

-- a byte after a corner was taken over
unfoldable pub takes : ℕ → ℕ → ℕ → ℕ → ℕ
takes m unit v x = cond (free m unit v x) (m + unit) m

-- no byte has a fifth bit
pub record Small (m : List ℕ) : Type 0 where
  pub each : (f : ℕ) → get_or m f 0 < 16

pub record TakenAsks (m unit : ℕ) : Type 0 where
  pub some_unit : 0 < unit
  pub room : m + unit < 256

pub record FaceAsks (xs m : List ℕ) (f : ℕ) : Type 0 where
  pub corners : 3 * f + 3 ≤ length xs
  pub byte : f < length m

pub record TakeAsks (xs m : List ℕ) (f : ℕ) : Type 0 where
  pub face : FaceAsks xs m f
  pub small : Small m

-- the point v leaves face f, and nothing else changes
pub record TakeGives (xs m : List ℕ) (f v : ℕ) (m' : List ℕ) : Type 0 where
  pub long : length m' ≡ length m
  pub small : Small m'
  pub same_here : (g : ℕ) → here m' g ≡ here m g
  pub told : (g w : ℕ) → keeps xs m' g w ≡ (keeps xs m g w && not (eqb g f && eqb w v))

-- n faces and their bytes
pub record Sized (xs m : List ℕ) (n : ℕ) : Type 0 where
  pub corners : 3 * n ≤ length xs
  pub bytes : n ≤ length m

pub record SplitAsks (text : List ℕ) (from end : ℕ) (xs m : List ℕ) (n : ℕ) : Type 0 where
  pub faces : Faces text from end
  pub sized : Sized xs m n

pub record TakeAllAsks (text : List ℕ) (from end : ℕ) (xs m : List ℕ) : Type 0 where
  pub faces : Faces text from end
  pub each : All (FaceAsks xs m) (faces_from_row text from end)
  pub small : Small m

-- the point v leaves the faces of the list, and nothing else changes
pub record TakeAllGives (xs m fs : List ℕ) (v : ℕ) (m' : List ℕ) : Type 0 where
  pub long : length m' ≡ length m
  pub small : Small m'
  pub same_here : (g : ℕ) → here m' g ≡ here m g
  pub told : (g w : ℕ) → keeps xs m' g w ≡ (keeps xs m g w && not (has g fs && eqb w v))

pub record CornerAsks (unit x : ℕ) (u : List ℕ) : Type 0 where
  pub some_unit : 0 < unit
  pub room : x / 32 < length u

pub record CornerGives (m unit x : ℕ) (u u' : List ℕ) : Type 0 where
  pub long : length u' ≡ length u
  pub told : (v : ℕ) → bit u' v ≡ (free m unit v x || bit u v)

pub record PutAsks (xs m : List ℕ) (f : ℕ) (u : List ℕ) : Type 0 where
  pub face : FaceAsks xs m f
  pub room : (j : ℕ) → j < length xs → get_or xs j 0 / 32 < length u

-- the points that face f still has
pub record PutGives (xs m : List ℕ) (f : ℕ) (u u' : List ℕ) : Type 0 where
  pub long : length u' ≡ length u
  pub told : (v : ℕ) → bit u' v ≡ (keeps xs m f v || bit u v)

pub record UsedAsks (xs m : List ℕ) (n : ℕ) (u : List ℕ) : Type 0 where
  pub sized : Sized xs m n
  pub room : (j : ℕ) → j < length xs → get_or xs j 0 / 32 < length u

-- the points that the faces that are there still have
pub record UsedGives (xs m : List ℕ) (n : ℕ) (u u' : List ℕ) : Type 0 where
  pub long : length u' ≡ length u
  pub told : (v : ℕ) → bit u' v ≡ (any (λ f. here m f && keeps xs m f v) (below n) || bit u v)
