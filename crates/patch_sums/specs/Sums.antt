-- The words of this crate's contracts: a patch's record in the code and in the numbers room, and what each function asks and gives. Definitions only.
use Rattle.std.specs.Prelude.{◌≡◌, ◌⊎◌, List, map, ℕ, ◌+◌, ◌*◌, ◌/◌, ◌≤◌, ◌<◌, ◌^◌, length, get_or, eqb, Float}
use Rattle.std.specs.Float.{nan}
use Rattle.rows.specs.Region.{OnlyOf, Only}
use Rattle.rules.specs.Lists.{below, filter, count, through}
use Rattle.rules.specs.Mesh.{Point, Face, points_of, faces_of, face}
use Rattle.rules.specs.Refusal.{no_patch}
use Rattle.rules.specs.Patches as rule
use Rattle.patch_sums.specs.declared.Patch.{Patch}

-- a record as the rules' own
abbrev pub patch_of : Patch → rule.Patch
patch_of r =
    record {
      area = r.area;
      low = record { x = r.min_x; y = r.min_y; z = r.min_z };
      high = record { x = r.max_x; y = r.max_y; z = r.max_z };
    }

-- record k in the numbers room, seven numbers a patch
abbrev pub record_at : List Float → ℕ → rule.Patch
record_at xs k =
    record {
      area = get_or xs (7 * k) nan;
      low = record { x = get_or xs (7 * k + 1) nan; y = get_or xs (7 * k + 2) nan; z = get_or xs (7 * k + 3) nan };
      high = record { x = get_or xs (7 * k + 4) nan; y = get_or xs (7 * k + 5) nan; z = get_or xs (7 * k + 6) nan };
    }

-- ---- the empty records

pub record BeginAsks (xs : List Float) (C : ℕ) : Type 0 where
  pub few : C < no_patch
  pub fit : 7 * C ≤ length xs

pub record BeginGives (xs : List Float) (C : ℕ) (xs' : List Float) : Type 0 where
  pub only : OnlyOf nan 0 (7 * C) xs xs'
  pub empty : (k : ℕ) → k < C → record_at xs' k ≡ rule.empty

-- ---- the face counts

-- each label is the no-patch value or that of a patch
pub record Known (labels : List ℕ) (C : ℕ) : Type 0 where
  pub known : (j : ℕ) → j < length labels → (get_or labels j 0 ≡ no_patch) ⊎ (get_or labels j 0 < C)

pub record CountAsks (labels cs : List ℕ) (C : ℕ) : Type 0 where
  pub few : length labels < 2 ^ 32
  pub least : C < no_patch
  pub fit : C ≤ length cs
  pub labelled : Known labels C

pub record CountGives (labels cs : List ℕ) (C : ℕ) (cs' : List ℕ) : Type 0 where
  pub only : Only 0 C cs cs'
  pub counted : (k : ℕ) → k < C → get_or cs' k 0 ≡ count (eqb k) labels

-- ---- the sums

-- the record of patch k after the first n faces
abbrev pub patch_to : List Point → List Face → List ℕ → ℕ → ℕ → rule.Patch
patch_to ps fs labels n k = through (rule.with_face ps) rule.empty (map (face fs) (filter (λ i. eqb (get_or labels i no_patch) k) (below n)))

pub record SumAsks (points : List Float) (faces labels : List ℕ) (xs : List Float) (C : ℕ) : Type 0 where
  pub few : C < no_patch
  pub fit : 7 * C ≤ length xs
  pub short : length labels < 2 ^ 32
  pub labelled : Known labels C
  pub as_many : length labels ≡ length faces / 3
  pub inside : (j : ℕ) → j < length faces → get_or faces j 0 < length points / 3

pub record SumGives (points : List Float) (faces labels : List ℕ) (xs : List Float) (C : ℕ) (xs' : List Float) : Type 0 where
  pub only : OnlyOf nan 0 (7 * C) xs xs'
  pub summed : (k : ℕ) → k < C → record_at xs' k ≡ rule.patch (points_of points) (faces_of faces) labels k

-- one face of a patch
pub record AddAsks (points : List Float) (faces : List ℕ) (i : ℕ) (xs : List Float) (k : ℕ) : Type 0 where
  pub fit : 7 * k + 7 ≤ length xs
  pub there : i < length faces / 3
  pub inside : (j : ℕ) → j < length faces → get_or faces j 0 < length points / 3

pub record AddGives (points : List Float) (faces : List ℕ) (i : ℕ) (xs : List Float) (k : ℕ) (xs' : List Float) : Type 0 where
  pub only : OnlyOf nan (7 * k) 7 xs xs'
  pub added : record_at xs' k ≡ rule.with_face (points_of points) (record_at xs k) (face (faces_of faces) i)
