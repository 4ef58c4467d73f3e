-- `corner_numbers::run_end` meets its contract. The invariant: the corners passed are at v. Assumes nothing.
use mathlib.Core.Path.{◌≡◌}
use mathlib.Core.Logic.{◌≢◌}
use mathlib.Core.List.{List}
use Prim.Native.Nat.{ℕ, ◌+◌, ◌≤◌, ◌<◌}
use native.Mathlib.Omega.{arith}
use native.Mathlib.Decide.{ℕ_discrete}
use lib.ListN.{get_or}
use Rattle.corner_numbers.specs.Numbers.{EndAsks, EndGives}
use Rattle.corner_numbers.proofs.run_end.Invariants.{Inv}
use Rattle.corner_numbers.proofs.run_end.Goals as goal
use Rattle.corner_numbers.proofs.run_end.Invariants.{Turn}

start : {w : List ℕ} {sorted begin n v : ℕ} → EndAsks w sorted begin n → Inv w sorted begin n v begin
start p = record { least = omega arith; most = p.from; inside = λ q l h. absurd (omega arith) }

module _ {w : List ℕ} {sorted begin n v p : ℕ} (a : EndAsks w sorted begin n) (i : Inv w sorted begin n v p) (h : p < n) where
  turn : Turn w sorted n p
  turn = record { here = h; fit = a.fit; column = a.column; id = a.id p h }

  again : get_or w (get_or w (sorted + p) 0) 0 ≡ v → Inv w sorted begin n v (p + 1)
  again e = record { least = omega (arith, i.least); most = omega arith; inside = λ q l k. go q l k (ℕ_discrete q p) }
    where
      go : (q : ℕ) → begin ≤ q → q < p + 1 → Dec (q ≡ p) → get_or w (get_or w (sorted + q) 0) 0 ≡ v
      go q l k (yes s) = rw s e
      go q l k (no s) = i.inside q l (omega arith)

  stops : get_or w (get_or w (sorted + p) 0) 0 ≢ v → EndGives w sorted begin n v p
  stops e = record { least = i.least; most = i.most; inside = i.inside; stop = λ l. e }

done : {w : List ℕ} {sorted begin n v p : ℕ} → EndAsks w sorted begin n → Inv w sorted begin n v p → n ≤ p → EndGives w sorted begin n v p
done a i h = record { least = i.least; most = i.most; inside = i.inside; stop = λ l. absurd (omega arith) }

pub loop-p-init : goal.loop-p-init
loop-p-init c = start c.requires

pub returns-then-work-id : goal.returns-then-work-id
returns-then-work-id c = stops c.requires c.loop-p.invariant c.loop-p-test.true c.if-work-id.true

pub loop-p-preserved : goal.loop-p-preserved
loop-p-preserved c = again c.requires c.loop-p.invariant c.loop-p-test.true c.if-work-id.false

pub returns : goal.returns
returns c = let e : c.loop-p.p ≡ c.args.n = omega (arith, c.loop-p.invariant.most, c.loop-p-test.false) in rw e at (done c.requires c.loop-p.invariant c.loop-p-test.false)
