-- The coordinates passed stand in their room. Assumes nothing.
use mathlib.Core.Path.{◌≡◌}
use mathlib.Core.List.{List}
use Prim.Native.Nat.{ℕ, ◌+◌, ◌*◌, ◌≤◌, ◌<◌}
use native.Mathlib.Nat.{zero-add}
use native.Mathlib.Omega.{arith}
use lib.ListN.{length, set}
use lib.Ieee.{Float, nan}
use Rattle.rows.specs.Region.{OnlyOf, HoldsOf}
use Rattle.rows.proofs.Regions.{only_none, only_next, holds_none, holds_next}
use Rattle.rules.specs.Ply.{real_at}
use Rattle.read_ply.specs.Bodies.{CoordinatesAsk, CoordinatesGive}

-- those before i stand there
pub record Pointing (file : List ℕ) (at n : ℕ) (ps₀ ps : List Float) (i : ℕ) : Type 0 where
  pub at_most : i ≤ n
  pub only : OnlyOf nan 0 i ps₀ ps
  pub stand : HoldsOf nan 0 i (λ j. real_at file (at + 8 * j)) ps

-- what a turn may use
pub record Turn (file : List ℕ) (at : ℕ) (ps : List Float) (i : ℕ) : Type 0 where
  pub few : i < 12582912
  pub room : i < length ps
  pub fit : at + 8 * i + 8 ≤ length file

-- before the first turn none stands there
pub begin : {file : List ℕ} {at n : ℕ} {ps : List Float} → CoordinatesAsk file at n ps → Pointing file at n ps ps 0
begin p = record { at_most = omega arith; only = only_none _ _ _; stand = holds_none }

module _ {file : List ℕ} {at n : ℕ} {ps₀ ps : List Float} {i : ℕ} (p : CoordinatesAsk file at n ps₀) (v : Pointing file at n ps₀ ps i) where
  -- the bounds of a turn
  pub turn : i < n → Turn file at ps i
  turn h = let l = v.only.long in record { few = omega (arith, p.few); room = omega (arith, p.room); fit = omega (arith, p.fit) }

  -- a turn stores one more, behind the others
  pub again : {x : Float} → i < n → x ≡ real_at file (at + 8 * i) → Pointing file at n ps₀ (set ps i x) (i + 1)
  again {x} h e =
      record {
        at_most = omega arith;
        only = rw zero-add at (only_next {a = 0} x v.only);
        stand = rw zero-add at (holds_next {a = 0} x (omega (arith, turn h)) e v.stand);
      }

  -- after n turns all do
  pub done : n ≤ i → CoordinatesGive file at n ps₀ ps
  done h = let e : i ≡ n = omega (arith, v.at_most) in record { only = rw e at v.only; stand = rw e at v.stand }
