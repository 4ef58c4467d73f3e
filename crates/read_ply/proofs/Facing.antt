-- The faces passed stand in their room. Assumes nothing.
use mathlib.Core.Path.{◌≡◌, ◌∙◌}
use mathlib.Core.Logic.{⊎_elim}
use mathlib.Core.List.{List}
use Prim.Native.Nat.{ℕ, ◌+◌, ◌*◌, ◌≤◌, ◌<◌}
use native.Mathlib.Nat.{eq-or-lt_of_le, le_of_suc-le-suc, not-suc-le-zero}
use native.Mathlib.Omega.{arith}
use lib.ListN.{length, set, length-set}
use lib.Seq.{get_or-set_same, get_or-set_other}
use Rattle.rows.specs.Region.{OnlyOf, Out.below}
use Rattle.rows.proofs.Regions.{only_none, only_both, only_more, only_set}
use Rattle.rules.specs.Bytes.{u32_at}
use Rattle.read_ply.specs.Bodies.{TriplesAsk, Triple, TriplesGive}

-- those before i stand there
pub record Standing (file : List ℕ) (at n : ℕ) (fs₀ fs : List ℕ) (i : ℕ) : Type 0 where
  pub at_most : i ≤ n
  pub only : OnlyOf 0 0 (3 * n) fs₀ fs
  pub stands : (j : ℕ) → j < i → Triple file at fs j

-- what a turn may use
pub record Turn (file : List ℕ) (at n : ℕ) (fs : List ℕ) (i : ℕ) : Type 0 where
  pub here : i < n
  pub few : n ≤ 1048576
  pub room : 3 * n ≤ length fs
  pub fit : at + 13 * i + 13 ≤ length file

-- before the first
pub begin : {file : List ℕ} {at n : ℕ} {fs : List ℕ} → TriplesAsk file at n fs → Standing file at n fs fs 0
begin p = record { at_most = omega arith; only = only_none _ _ _; stands = λ j h. absurd (not-suc-le-zero h) }

module _ {file : List ℕ} {at n : ℕ} {fs₀ fs : List ℕ} {i : ℕ} (p : TriplesAsk file at n fs₀) (v : Standing file at n fs₀ fs i) where
  -- the bounds of a turn
  pub turn : i < n → Turn file at n fs i
  turn h =
      let l = v.only.long in
      record { here = h; few = p.few; room = omega (arith, p.room); fit = omega (arith, p.fit) }

  -- a turn writes one more
  pub again :
      {x y z : ℕ} → i < n → x ≡ u32_at file (at + 13 * i + 1) → y ≡ u32_at file (at + 13 * i + 5) → z ≡ u32_at file (at + 13 * i + 9)
      → Standing file at n fs₀ (set (set (set fs (3 * i) x) (3 * i + 1) y) (3 * i + 2) z) (i + 1)
  again {x} {y} {z} h ea eb ec =
      record {
        at_most = omega arith;
        only = only_both v.only (only_more (omega arith) (omega arith) three);
        stands = λ j q. ⊎_elim (λ (e : j ≡ i). rw e last) (λ (l : j < i). earlier j l) (eq-or-lt_of_le (le_of_suc-le-suc (omega arith)));
      }
    where
      p1 : List ℕ
      p1 = set fs (3 * i) x

      p2 : List ℕ
      p2 = set p1 (3 * i + 1) y

      p3 : List ℕ
      p3 = set p2 (3 * i + 2) z

      three : OnlyOf 0 (3 * i) 3 fs p3
      three = only_both (only_set fs (3 * i) x (omega arith) (omega arith)) (only_both (only_set p1 (3 * i + 1) y (omega arith) (omega arith)) (only_set p2 (3 * i + 2) z (omega arith) (omega arith)))

      l1 : length p1 ≡ length fs
      l1 = length-set fs (3 * i) x

      l2 : length p2 ≡ length p1
      l2 = length-set p1 (3 * i + 1) y

      last : Triple file at p3 i
      last =
          let t = turn h in
          record {
            a = get_or-set_other p2 (3 * i + 2) (3 * i) z 0 (omega arith) ∙ get_or-set_other p1 (3 * i + 1) (3 * i) y 0 (omega arith) ∙ get_or-set_same fs (3 * i) x 0 (omega (arith, t)) ∙ ea;
            b = get_or-set_other p2 (3 * i + 2) (3 * i + 1) z 0 (omega arith) ∙ get_or-set_same p1 (3 * i + 1) y 0 (omega (arith, t, l1)) ∙ eb;
            c = get_or-set_same p2 (3 * i + 2) z 0 (omega (arith, t, l1, l2)) ∙ ec;
          }

      earlier : (j : ℕ) → j < i → Triple file at p3 j
      earlier j l =
          let s = v.stands j l in
          record {
            a = three.same (3 * j) (below (omega arith)) ∙ s.a;
            b = three.same (3 * j + 1) (below (omega arith)) ∙ s.b;
            c = three.same (3 * j + 2) (below (omega arith)) ∙ s.c;
          }

  -- after n turns
  pub done : n ≤ i → TriplesGive file at n fs₀ fs
  done h = let e : i ≡ n = omega (arith, v.at_most) in record { only = v.only; stands = rw e at v.stands }
