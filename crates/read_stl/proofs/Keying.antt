-- The bits of the corners passed stand in their columns. Assumes nothing.
use mathlib.Core.Path.{◌≡◌, sym, ap, ◌∙◌}
use mathlib.Core.Logic.{⊎_elim}
use mathlib.Core.List.{List}
use Prim.Native.Nat.{ℕ, ◌+◌, ◌*◌, ◌^◌, ◌≤◌, ◌<◌}
use native.Mathlib.Nat.{zero-add, eq-or-lt_of_le, le_of_suc-le-suc, not-suc-le-zero}
use native.Mathlib.Omega.{arith}
use lib.ListN.{length, set}
use lib.Ieee.{binary32}
use Rattle.rows.specs.Region.{Apart.before, Apart.after, Only, Holds}
use Rattle.rows.proofs.Regions.{only_none, only_both, only_more, only_set, holds_none, holds_next, holds_kept}
use Rattle.rules.specs.Bytes.{u32_at}
use Rattle.rules.specs.Stl.{place_of}
use Rattle.rule_laws.proofs.Equal.{one_zero, one_zero_minus, one_zero_other}
use Rattle.read_stl.specs.Rows.{bits_at, FileAsks, Small, KeysGives}

-- +0 for -0
pub is_minus : (b : ℕ) → b ≡ 2147483648 → 0 ≡ one_zero binary32 b
is_minus b e = sym (one_zero_minus binary32 b e)

-- and any other bits as they are
pub is_other : (b : ℕ) → (b ≡ 2147483648 → ⊥) → b ≡ one_zero binary32 b
is_other b e = sym (one_zero_other binary32 b e)

-- the columns of the corners before c
pub record Keyed (file : List ℕ) (n : ℕ) (w₀ w : List ℕ) (c : ℕ) : Type 0 where
  pub at_most : c ≤ n
  pub only : Only 0 (3 * n) w₀ w
  pub xs : Holds 0 c (λ j. bits_at file (place_of j)) w
  pub ys : Holds n c (λ j. bits_at file (place_of j + 4)) w
  pub zs : Holds (2 * n) c (λ j. bits_at file (place_of j + 8)) w
  pub small : (j : ℕ) → j < c → Small file (place_of j)

-- what a turn may use
pub record Turn (file : List ℕ) (n : ℕ) (w : List ℕ) (c : ℕ) : Type 0 where
  pub here : c < n
  pub few : n ≤ 3145728
  pub room : 3 * n ≤ length w
  pub fit : place_of c + 12 ≤ length file

-- before the first corner
pub begin : {file : List ℕ} {n : ℕ} {w : List ℕ} → FileAsks file n w → Keyed file n w w 0
begin p = record { at_most = omega arith; only = only_none _ _ _; xs = holds_none; ys = holds_none; zs = holds_none; small = λ j h. absurd (not-suc-le-zero h) }

-- a number as it was read at a place that was reckoned
pub read_at : (file : List ℕ) {i j : ℕ} (k : ℕ) {b x : ℕ} → i ≡ j → b ≡ u32_at file (i + k) → x ≡ one_zero binary32 b → x ≡ bits_at file (j + k)
read_at file k e q r = r ∙ ap (one_zero binary32) (q ∙ ap (λ m. u32_at file (m + k)) e)

pub read_first : (file : List ℕ) {i j b x : ℕ} → i ≡ j → b ≡ u32_at file i → x ≡ one_zero binary32 b → x ≡ bits_at file j
read_first file e q r = r ∙ ap (one_zero binary32) (q ∙ ap (u32_at file) e)

module _ {file : List ℕ} {n : ℕ} {w₀ w : List ℕ} {c : ℕ} (p : FileAsks file n w₀) (v : Keyed file n w₀ w c) where
  -- the bounds of a turn
  pub turn : c < n → Turn file n w c
  turn h =
      let l = v.only.long in
      record { here = h; few = p.corners_in.few; room = omega (arith, p.fit); fit = (p.corners_in.corner c h).fit }

  -- a turn writes the bits of one corner more
  pub again :
      {x y z : ℕ} → c < n → x ≡ bits_at file (place_of c) → y ≡ bits_at file (place_of c + 4) → z ≡ bits_at file (place_of c + 8)
      → x < 2 ^ 32 → y < 2 ^ 32 → z < 2 ^ 32
      → Keyed file n w₀ (set (set (set w c x) (n + c) y) (2 * n + c) z) (c + 1)
  again {x} {y} {z} h a b d sx sy sz =
      let w1 = set w c x in
      let w2 = set w1 (n + c) y in
      let o1 : Only c 1 w w1 = only_set w c x (omega arith) (omega arith) in
      let o2 : Only (n + c) 1 w1 w2 = only_set w1 (n + c) y (omega arith) (omega arith) in
      let o3 : Only (2 * n + c) 1 w2 (set w2 (2 * n + c) z) = only_set w2 (2 * n + c) z (omega arith) (omega arith) in
      let t = turn h in
      let l1 = o1.long in
      let l2 = o2.long in
      record {
        at_most = omega arith;
        only = only_both v.only (only_both (only_more (omega arith) (omega arith) o1) (only_both (only_more (omega arith) (omega arith) o2) (only_more (omega arith) (omega arith) o3)));
        xs = holds_kept o3 (before (omega arith)) (holds_kept o2 (before (omega arith)) (rw zero-add at (holds_next {a = 0} x (omega (arith, t)) a v.xs)));
        ys = holds_kept o3 (before (omega arith)) (holds_next y (omega (arith, t)) b (holds_kept o1 (after (omega arith)) v.ys));
        zs = holds_next z (omega (arith, t)) d (holds_kept o2 (after (omega arith)) (holds_kept o1 (after (omega arith)) v.zs));
        small = λ j q. ⊎_elim (λ (e : j ≡ c). rw e (record { x = rw (← a) sx; y = rw (← b) sy; z = rw (← d) sz })) (λ (l : j < c). v.small j l) (eq-or-lt_of_le (le_of_suc-le-suc (omega arith)));
      }

  -- after n turns
  pub done : n ≤ c → KeysGives file n w₀ w
  done h =
      let e : c ≡ n = omega (arith, v.at_most) in
      record { only = v.only; xs = rw e at v.xs; ys = rw e at v.ys; zs = rw e at v.zs; small = rw e at v.small }
