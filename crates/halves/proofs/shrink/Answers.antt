-- `halves::shrink` meets its contract. The invariant: the buffer's first n entries are all those below h. Assumes nothing.
use mathlib.Core.Path.{◌≡◌, refl, sym, ap, ◌∙◌}
use mathlib.Core.List.{List}
use Prim.Native.Nat.{ℕ, ◌+◌, ◌<◌}
use native.Mathlib.Omega.{arith}
use lib.ListN.{length}
use Rattle.halves.specs.Split.{tally, SplitGives}
use Rattle.halves.specs.Gather.{ShrinkAsks, ShrinkGives}
use Rattle.halves.proofs.Walking.{inside_same, split_first}
use Rattle.halves.proofs.shrink.Invariants.{Inv}
use Rattle.halves.proofs.shrink.Goals as goal

-- all, at first
begin : {a : List ℕ} {from to : ℕ} → ShrinkAsks a from to → Inv a from to (length a) a to (length a)
begin p = record { size_is = refl; long = refl; above = p.above; within = omega arith; fewer = omega arith; inside = p.inside; counts = λ g q. q }

module _ {a₀ : List ℕ} {from to size : ℕ} {a : List ℕ} {h n : ℕ} (v : Inv a₀ from to size a h n) where
  -- a smaller range
  again : {a' : List ℕ} {m n' : ℕ} → n ≡ size → (from < m) × (m < h) → SplitGives a 0 size m a' n' → Inv a₀ from to size a' m n'
  again {a'} {m} {n'} e c g =
      let fw = g.fewer in
      let c₀ = c.0 in
      let c₁ = c.1 in
      let w = v.within in
      let i = inside_same a a' 0 size from h g.same (rw e at v.inside) in
      record {
        size_is = v.size_is;
        long = g.only.long ∙ v.long;
        above = c.0;
        within = omega arith;
        fewer = fw;
        inside = record { low = λ j l. i.low j (omega arith); high = g.low };
        counts = λ f q. record { each = λ x l k. split_first g x k ∙ ap (λ (z : ℕ). tally a 0 z x) (sym e) ∙ (v.counts f q).each x l (omega arith) };
      }

  -- it is one key
  stop : h ≡ from + 1 → ShrinkGives a₀ from to a n h
  stop e =
      let s = v.size_is in
      let f = v.fewer in
      record { holding = record { long = v.long; above = v.above; within = v.within; fewer = omega arith; inside = v.inside; full = λ q. e }; counts = v.counts }

  -- there is room
  done : (n ≡ size → ⊥) → ShrinkGives a₀ from to a n h
  done e =
      let s = v.size_is in
      let f = v.fewer in
      record { holding = record { long = v.long; above = v.above; within = v.within; fewer = omega arith; inside = v.inside; full = λ q. absurd (e (omega arith)) }; counts = v.counts }

pub loop-n-init : goal.loop-n-init
loop-n-init c = begin c.requires

pub overflow_add-from : goal.overflow_add-from
overflow_add-from c = omega (arith, c.loop-n.invariant.above, c.loop-n.invariant.within, c.loop-n.invariant.size_is, c.loop-n.invariant.long)

pub shape_of-buffer-then-h-from : goal.shape_of-buffer-then-h-from
shape_of-buffer-then-h-from c = c.loop-n.invariant.long

pub returns-then-h-from : goal.returns-then-h-from
returns-then-h-from c = stop c.loop-n.invariant c.if-h-from.true

pub cut-m-requires : goal.cut-m-requires
cut-m-requires c = omega (arith, c.loop-n.invariant.above, c.loop-n.invariant.within, c.loop-n.invariant.size_is, c.loop-n.invariant.long)

pub split-n-requires : goal.split-n-requires
split-n-requires c = omega (arith, c.loop-n.invariant.above, c.loop-n.invariant.within, c.loop-n.invariant.size_is, c.loop-n.invariant.long)

pub loop-n-smaller : goal.loop-n-smaller
loop-n-smaller c = c.cut-m.ensures.1

pub loop-n-preserved : goal.loop-n-preserved
loop-n-preserved c = again c.loop-n.invariant c.loop-n-test.true c.cut-m.ensures c.split-n.ensures

pub shape_of-buffer : goal.shape_of-buffer
shape_of-buffer c = c.loop-n.invariant.long

pub returns : goal.returns
returns c = done c.loop-n.invariant c.loop-n-test.false
