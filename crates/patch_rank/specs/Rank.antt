-- The words of this crate's contracts: keys, the cut of a ranking, and the flags. Definitions only.
use Rattle.std.specs.Prelude.{◌≡◌, Bool, not, ◌&&◌, ◌||◌, cond, List, ℕ, ◌+◌, ◌*◌, ◌≤◌, ◌<◌, ◌^◌, length, get_or, T, leb, ltb, Float}
use Rattle.std.specs.Float.{nan, binary64}
use Rattle.std.specs.Float.Ieee.{fits, to_bits}
use Rattle.root.specs.Nearest.{plain}
use Rattle.rows.specs.Region.{Only}
use Rattle.rules.specs.Lists.{below, count}
use Rattle.rules.specs.Rank.{outranks}

-- ---- keys

-- an area: a number that is not negative and not infinite, with its sign's bit 0
pub record Area (x : Float) : Type 0 where
  pub is_plain : T (plain x)
  pub held : T (fits binary64 x)
  pub small : to_bits binary64 x < 2 ^ 63

-- the area of patch k in the numbers room
abbrev pub area_at : List Float → ℕ → Float
area_at xs k = get_or xs (7 * k) nan

-- the key of patch k in the work room, two entries a patch
abbrev pub key_at : List ℕ → ℕ → ℕ
key_at w k = get_or w (2 * k) 0 * 4294967296 + get_or w (2 * k + 1) 0

pub record LayAsks (xs : List Float) (C : ℕ) (w : List ℕ) : Type 0 where
  pub few : C < 2 ^ 32
  pub from_fit : 7 * C ≤ length xs
  pub fit : 2 * C ≤ length w
  pub areas : (k : ℕ) → k < C → Area (area_at xs k)

pub record LayGives (xs : List Float) (C : ℕ) (w w' : List ℕ) : Type 0 where
  pub only : Only 0 (2 * C) w w'
  pub keys : (k : ℕ) → k < C → key_at w' k ≡ to_bits binary64 (area_at xs k)

-- ---- ranks

-- how many of C keys are t or more
abbrev pub reach : (ℕ → ℕ) → ℕ → ℕ → ℕ
reach key C t = count (λ j. leb t (key j)) (below C)

-- by the keys, j ranks before k
abbrev pub before : (ℕ → ℕ) → ℕ → ℕ → Bool
before key j k = ltb (key k) (key j) || not (ltb (key j) (key k)) && ltb j k

-- how many of C rank before k
abbrev pub rank : (ℕ → ℕ) → ℕ → ℕ → ℕ
rank key C k = count (λ j. before key j k) (below C)

-- t is the key of rank n
pub record Cut (key : ℕ → ℕ) (C n t : ℕ) : Type 0 where
  pub reached : n ≤ reach key C t
  pub passed : reach key C (t + 1) < n
  pub small : t < 2 ^ 63

pub record CutAsks (w : List ℕ) (C n : ℕ) : Type 0 where
  pub fit : 2 * C ≤ length w
  pub least : 0 < n
  pub most : n ≤ C
  pub small : (k : ℕ) → k < C → key_at w k < 2 ^ 63

-- ---- flags

-- above the cut 1, below it 0, at it by the place
abbrev pub flag_of : ℕ → ℕ → ℕ → ℕ → ℕ
flag_of key t place n = cond (ltb t key) 1 (cond (ltb key t) 0 (cond (ltb place n) 1 0))

pub record MarkAsks (w : List ℕ) (C t passing n : ℕ) (fs : List ℕ) : Type 0 where
  pub few : C < 2 ^ 32
  pub fit : 2 * C ≤ length w
  pub flags_fit : C ≤ length fs
  pub is_cut : Cut (key_at w) C n t
  pub passes : passing ≡ reach (key_at w) C (t + 1)

pub record MarkGives (w : List ℕ) (C n : ℕ) (fs fs' : List ℕ) : Type 0 where
  pub only : Only 0 C fs fs'
  pub flagged : (k : ℕ) → k < C → get_or fs' k 0 ≡ cond (leb n (rank (key_at w) C k)) 0 1

pub record RankAsks (xs : List Float) (C : ℕ) (fs w : List ℕ) : Type 0 where
  pub few : C < 2 ^ 32
  pub from_fit : 7 * C ≤ length xs
  pub flags_fit : C ≤ length fs
  pub fit : 2 * C ≤ length w
  pub areas : (k : ℕ) → k < C → Area (area_at xs k)

pub record RankGives (xs : List Float) (C n : ℕ) (fs w fs' w' : List ℕ) : Type 0 where
  pub only_flags : Only 0 C fs fs'
  pub only_work : Only 0 (2 * C) w w'
  pub flagged : (k : ℕ) → k < C → get_or fs' k 0 ≡ cond (leb n (count (λ j. outranks (area_at xs) j k) (below C))) 0 1
