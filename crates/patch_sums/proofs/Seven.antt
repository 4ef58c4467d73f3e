-- Seven stores in line: the record of one patch, and nothing else. Assumes nothing.
use mathlib.Core.Path.{◌≡◌, refl}
use mathlib.Core.List.{List, [], ◌∷◌}
use Prim.Native.Nat.{ℕ, ◌+◌, ◌*◌, ◌≤◌, ◌<◌}
use native.Mathlib.Nat.{add-zero}
use native.Mathlib.Omega.{arith}
use native.Mathlib.Decide.{dec_lt}
use lib.ListN.{length, get_or, set, length-set}
use lib.Ieee.{Float, nan}
use Rattle.rows.specs.Region.{OnlyOf, HoldsOf, Out, Out.below, Out.above}
use Rattle.rows.proofs.Regions.{only_set, only_both, holds_next, holds_none}
use Rattle.patch_sums.specs.Sums.{patch_of, record_at}
use Rattle.patch_sums.specs.declared.Patch.{Patch}

module _ (xs : List Float) (i : ℕ) (r : Patch) where
  -- the numbers of a record, stored from i on: the area, min x y z
  abbrev lows : List Float
  lows = set (set (set (set xs i r.area) (i + 1) r.min_x) (i + 2) r.min_y) (i + 3) r.min_z

  -- and max x y z
  abbrev stored : List Float
  stored = set (set (set lows (i + 4) r.max_x) (i + 5) r.max_y) (i + 6) r.max_z

  -- nothing else changes
  pub stored_only : OnlyOf nan i 7 xs stored
  stored_only =
      only_both (only_set xs i r.area (omega arith) (omega arith))
      (only_both (only_set _ (i + 1) r.min_x (omega arith) (omega arith))
      (only_both (only_set _ (i + 2) r.min_y (omega arith) (omega arith))
      (only_both (only_set _ (i + 3) r.min_z (omega arith) (omega arith))
      (only_both (only_set _ (i + 4) r.max_x (omega arith) (omega arith))
      (only_both (only_set _ (i + 5) r.max_y (omega arith) (omega arith)) (only_set _ (i + 6) r.max_z (omega arith) (omega arith)))))))

  -- the seven numbers, by place
  abbrev number : ℕ → Float
  number j = get_or (r.area ∷ r.min_x ∷ r.min_y ∷ r.min_z ∷ r.max_x ∷ r.max_y ∷ r.max_z ∷ []) j nan

  module _ (h : i + 7 ≤ length xs) where
    -- the first four stand there
    lows_hold : HoldsOf nan i 4 number lows
    lows_hold =
        let one : HoldsOf nan i 1 number (set xs i r.area) = rw (add-zero i) at (holds_next {d = nan} {a = i} {i = 0} {g = number} {w = xs} r.area (omega arith) refl holds_none) in
        let two = holds_next {d = nan} {a = i} {i = 1} {g = number} {w = set xs i r.area} r.min_x (simp length-set (omega arith)) refl one in
        let three = holds_next {d = nan} {a = i} {i = 2} {g = number} {w = set (set xs i r.area) (i + 1) r.min_x} r.min_y (simp length-set (omega arith)) refl two in
        holds_next {i = 3} {w = set (set (set xs i r.area) (i + 1) r.min_x) (i + 2) r.min_y} r.min_z (simp length-set (omega arith)) refl three

    -- and the others
    pub stored_holds : HoldsOf nan i 7 number stored
    stored_holds =
        let five = holds_next {d = nan} {a = i} {i = 4} {g = number} {w = lows} r.max_x (simp length-set (omega arith)) refl lows_hold in
        let six = holds_next {d = nan} {a = i} {i = 5} {g = number} {w = set lows (i + 4) r.max_x} r.max_y (simp length-set (omega arith)) refl five in
        holds_next {i = 6} {w = set (set lows (i + 4) r.max_x) (i + 5) r.max_y} r.max_z (simp length-set (omega arith)) refl six

-- so the record is the one stored
pub stored_is : (xs : List Float) (k : ℕ) (r : Patch) → 7 * k + 7 ≤ length xs → record_at (stored xs (7 * k) r) k ≡ patch_of r
stored_is xs k r h =
    let e = (stored_holds xs (7 * k) r h).each in
    let e0 : get_or (stored xs (7 * k) r) (7 * k) nan ≡ r.area = rw (add-zero (7 * k)) at (e 0 (omega arith)) in
    rw (e0, e 1 (omega arith), e 2 (omega arith), e 3 (omega arith), e 4 (omega arith), e 5 (omega arith), e 6 (omega arith))

-- the records of the other patches stay
pub record_kept : {xs xs' : List Float} (k j : ℕ) → OnlyOf nan (7 * k) 7 xs xs' → (j ≡ k → ⊥) → record_at xs' j ≡ record_at xs j
record_kept {xs} {xs'} k j o n =
    let e : (t : ℕ) → t < 7 → get_or xs' (7 * j + t) nan ≡ get_or xs (7 * j + t) nan = λ t h. o.same (7 * j + t) (apart t h (dec_lt j k)) in
    let e0 : get_or xs' (7 * j) nan ≡ get_or xs (7 * j) nan = rw (add-zero (7 * j)) at (e 0 (omega arith)) in
    rw (e0, e 1 (omega arith), e 2 (omega arith), e 3 (omega arith), e 4 (omega arith), e 5 (omega arith), e 6 (omega arith))
  where
    apart : (t : ℕ) → t < 7 → Dec (j < k) → Out (7 * k) 7 (7 * j + t)
    apart t h (yes l) = below (omega arith)
    apart t h (no l) = above (omega arith)
