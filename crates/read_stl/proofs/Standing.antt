-- The corners passed stand in the points room. Assumes nothing.
use mathlib.Core.Path.{◌≡◌, ap, ◌∙◌}
use mathlib.Core.Logic.{⊎_elim}
use mathlib.Core.List.{List}
use Prim.Native.Nat.{ℕ, ◌+◌, ◌*◌, ◌≤◌, ◌<◌}
use native.Mathlib.Nat.{eq-or-lt_of_le, le_of_suc-le-suc, not-suc-le-zero}
use native.Mathlib.Omega.{arith}
use lib.ListN.{length, set, length-set}
use lib.Seq.{get_or-set_same, get_or-set_other}
use lib.Ieee.{Float, nan}
use Rattle.rows.specs.Region.{OnlyOf, Out.below}
use Rattle.rows.proofs.Regions.{only_none, only_both, only_more, only_set}
use Rattle.rules.specs.Stl.{coordinate, place_of}
use Rattle.read_stl.specs.Rows.{CornersAsks, Stands, CornersGives}

-- the corners before c stand there
pub record Standing (file : List ℕ) (n : ℕ) (ps₀ ps : List Float) (c : ℕ) : Type 0 where
  pub at_most : c ≤ n
  pub only : OnlyOf nan 0 (3 * n) ps₀ ps
  pub stands : (j : ℕ) → j < c → Stands file ps j

-- what a turn may use
pub record Turn (file : List ℕ) (n : ℕ) (ps : List Float) (c : ℕ) : Type 0 where
  pub here : c < n
  pub few : n ≤ 3145728
  pub room : 3 * n ≤ length ps
  pub fit : place_of c + 12 ≤ length file

-- before the first corner
pub begin : {file : List ℕ} {n : ℕ} {ps : List Float} → CornersAsks file n ps → Standing file n ps ps 0
begin p = record { at_most = omega arith; only = only_none _ _ _; stands = λ j h. absurd (not-suc-le-zero h) }

-- a coordinate as it was read at a place that was reckoned
pub read_at : (file : List ℕ) {i j : ℕ} (k : ℕ) {x : Float} → i ≡ j → x ≡ coordinate file (i + k) → x ≡ coordinate file (j + k)
read_at file k e q = q ∙ ap (λ m. coordinate file (m + k)) e

pub read_first : (file : List ℕ) {i j : ℕ} {x : Float} → i ≡ j → x ≡ coordinate file i → x ≡ coordinate file j
read_first file e q = q ∙ ap (coordinate file) e

module _ {file : List ℕ} {n : ℕ} {ps₀ ps : List Float} {c : ℕ} (p : CornersAsks file n ps₀) (v : Standing file n ps₀ ps c) where
  -- the bounds of a turn
  pub turn : c < n → Turn file n ps c
  turn h =
      let l = v.only.long in
      record { here = h; few = p.corners_in.few; room = omega (arith, p.fit); fit = (p.corners_in.corner c h).fit }

  -- a turn writes one corner more
  pub again :
      {x y z : Float} → c < n → x ≡ coordinate file (place_of c) → y ≡ coordinate file (place_of c + 4) → z ≡ coordinate file (place_of c + 8)
      → Standing file n ps₀ (set (set (set ps (3 * c) x) (3 * c + 1) y) (3 * c + 2) z) (c + 1)
  again {x} {y} {z} h a b d =
      record {
        at_most = omega arith;
        only = only_both v.only (only_more (omega arith) (omega arith) three);
        stands = λ j q. ⊎_elim (λ (e : j ≡ c). rw e last) (λ (l : j < c). earlier j l) (eq-or-lt_of_le (le_of_suc-le-suc (omega arith)));
      }
    where
      p1 : List Float
      p1 = set ps (3 * c) x

      p2 : List Float
      p2 = set p1 (3 * c + 1) y

      p3 : List Float
      p3 = set p2 (3 * c + 2) z

      three : OnlyOf nan (3 * c) 3 ps p3
      three = only_both (only_set ps (3 * c) x (omega arith) (omega arith)) (only_both (only_set p1 (3 * c + 1) y (omega arith) (omega arith)) (only_set p2 (3 * c + 2) z (omega arith) (omega arith)))

      l1 : length p1 ≡ length ps
      l1 = length-set ps (3 * c) x

      l2 : length p2 ≡ length p1
      l2 = length-set p1 (3 * c + 1) y

      last : Stands file p3 c
      last =
          let t = turn h in
          record {
            x = get_or-set_other p2 (3 * c + 2) (3 * c) z nan (omega arith) ∙ get_or-set_other p1 (3 * c + 1) (3 * c) y nan (omega arith) ∙ get_or-set_same ps (3 * c) x nan (omega (arith, t)) ∙ a;
            y = get_or-set_other p2 (3 * c + 2) (3 * c + 1) z nan (omega arith) ∙ get_or-set_same p1 (3 * c + 1) y nan (omega (arith, t, l1)) ∙ b;
            z = get_or-set_same p2 (3 * c + 2) z nan (omega (arith, t, l1, l2)) ∙ d;
          }

      earlier : (j : ℕ) → j < c → Stands file p3 j
      earlier j l =
          let s = v.stands j l in
          record {
            x = three.same (3 * j) (below (omega arith)) ∙ s.x;
            y = three.same (3 * j + 1) (below (omega arith)) ∙ s.y;
            z = three.same (3 * j + 2) (below (omega arith)) ∙ s.z;
          }

  -- after n turns
  pub done : n ≤ c → CornersGives file n ps₀ ps
  done h = let e : c ≡ n = omega (arith, v.at_most) in record { only = v.only; stands = rw e at v.stands }
