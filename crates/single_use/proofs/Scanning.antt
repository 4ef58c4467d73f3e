-- What the scan reads of a run, and what it knows of the runs that it has passed. Assumes nothing.
use mathlib.Core.Path.{◌≡◌, sym, ap, ap₂, ◌∙◌}
use mathlib.Core.Bool.{Bool, false}
use mathlib.Core.List.{List}
use Prim.Native.Nat.{ℕ, ◌+◌, ◌-◌, ◌*◌, ◌/◌, ◌≤◌, ◌<◌}
use native.Mathlib.Omega.{arith}
use native.Mathlib.Decide.{ℕ_discrete}
use borrow.Author.Tests.{eq-eqb, ne_eqb}
use lib.Dec.{eqb}
use lib.ListN.{length, get_or}
use Rattle.table.specs.Entries.{next}
use Rattle.table.proofs.Handing.{AtRun, at_run}
use Rattle.table.proofs.Places.{id_in}
use Rattle.orienting.proofs.Reached.{not_both}
use Rattle.single_use.specs.Single.{begin_of, from, entry, BeginAsks, PairAsks, RunAsks, Opposed}

module _ {w xs : List ℕ} {states id : ℕ} (p : BeginAsks w xs states id) where
  -- the entry of an exchanged face begins at the next corner
  pub begin_turned : get_or w (states + id / 3) 0 ≡ 2 → {j : ℕ} → j ≡ next id → get_or xs j 0 ≡ begin_of w xs states id
  begin_turned e q = rw (eq-eqb (get_or w (states + id / 3) 0) 2 e, q)

  -- that of another at its own
  pub begin_straight : (get_or w (states + id / 3) 0 ≡ 2 → ⊥) → get_or xs id 0 ≡ begin_of w xs states id
  begin_straight e = rw (ne_eqb (get_or w (states + id / 3) 0) 2 e)

module _ {w xs : List ℕ} {states at j : ℕ} (p : PairAsks w xs states at j) where
  -- the second entry, as the code reads it
  second_is : get_or w (at + 3 * length xs + j + 1) 0 ≡ entry w xs at (j + 1)
  second_is = ap (λ k. get_or w k 0) (omega arith)

  -- where the first begins may be asked
  pub first_asks : BeginAsks w xs states (entry w xs at j)
  first_asks = record { whole = p.whole; few = p.few; here = p.first; fit = p.fit }

  -- and where the second does
  pub second_asks : BeginAsks w xs states (get_or w (at + 3 * length xs + j + 1) 0)
  second_asks = record { whole = p.whole; few = p.few; here = omega (arith, p.second, second_is); fit = p.fit }

  -- whether they begin at the same end
  pub both : {x y : ℕ} → x ≡ begin_of w xs states (entry w xs at j) → y ≡ begin_of w xs states (get_or w (at + 3 * length xs + j + 1) 0) → eqb x y ≡ eqb (begin_of w xs states (entry w xs at j)) (begin_of w xs states (entry w xs at (j + 1)))
  both e f = ap₂ eqb e (f ∙ ap (begin_of w xs states) second_is)

module _ {w xs : List ℕ} {states at r : ℕ} (q : RunAsks w xs states at r) where
  -- the bounds of run r
  pub bounds : AtRun w xs at q.runs r
  bounds = at_run q.asks.tabled r q.here

  -- where the next run begins, as the code reads it
  next_is : from w xs at (r + 1) ≡ get_or w (at + 4 * length xs + r + 1) 0
  next_is = ap (λ k. get_or w k 0) (omega arith)

  -- a run of fewer than two entries
  pub one_entry : get_or w (at + 4 * length xs + r + 1) 0 - get_or w (at + 4 * length xs + r) 0 < 2 → Opposed w xs states at r
  one_entry h = let b = bounds in let n = next_is in record { few = omega arith; differ = λ e s. absurd (omega arith) }

  module _ (least : 2 ≤ get_or w (at + 4 * length xs + r + 1) 0 - get_or w (at + 4 * length xs + r) 0) (most : get_or w (at + 4 * length xs + r + 1) 0 - get_or w (at + 4 * length xs + r) 0 ≤ 2) where
    -- a run of two: its entries are entries
    pub pair : PairAsks w xs states at (from w xs at r)
    pair =
        let b = bounds in
        let t = q.asks.tabled in
        record {
          whole = t.asks.whole;
          few = t.asks.few;
          fit = q.asks.fit;
          room = omega (arith, b);
          here = omega (arith, b);
          first = id_in t.asks t.table (from w xs at r) (omega (arith, b));
          second = id_in t.asks t.table (from w xs at r + 1) (omega (arith, b));
        }

    -- they begin at different ends
    pub two_entries : {b : Bool} → b ≡ eqb (begin_of w xs states (entry w xs at (from w xs at r))) (begin_of w xs states (entry w xs at (from w xs at r + 1))) → b ≡ false → Opposed w xs states at r
    two_entries e f =
        let b = bounds in
        let n = next_is in
        record { few = omega arith; differ = λ l s. not_both (eq-eqb (begin_of w xs states (entry w xs at (from w xs at r))) (begin_of w xs states (entry w xs at (from w xs at r + 1))) s) (sym e ∙ f) }

-- the runs below r are not at odds
pub record Passed (w xs : List ℕ) (states at r : ℕ) : Type 0 where
  pub each : (j : ℕ) → j < r → Opposed w xs states at j

module _ {w xs : List ℕ} {states at : ℕ} where
  -- none is passed
  pub none_passed : {r : ℕ} → r ≤ 0 → Passed w xs states at r
  none_passed l = record { each = λ j h. absurd (omega arith) }

  -- one more
  pub one_passed : {r : ℕ} → Passed w xs states at r → Opposed w xs states at r → Passed w xs states at (r + 1)
  one_passed {r} p o = record { each = λ j h. go j h (ℕ_discrete j r) }
    where
      go : (j : ℕ) → j < r + 1 → Dec (j ≡ r) → Opposed w xs states at j
      go j h (yes e) = rw e o
      go j h (no n) = p.each j (omega arith)
