-- `halves::gather` meets its contract. The invariant: the buffer holds the half entries of the first i steps with keys from `from` up to `to`. Assumes nothing.
use mathlib.Core.Path.{◌≡◌, refl, sym, ap, ◌∙◌}
use mathlib.Core.List.{List}
use Prim.Native.Nat.{ℕ, ◌+◌, ◌-◌, ◌*◌, ◌≤◌, ◌<◌}
use native.Mathlib.Omega.{arith}
use native.Mathlib.Numerals.{add-one}
use lib.ListN.{length, get_or}
use Rattle.halves.specs.Split.{hit}
use Rattle.halves.specs.Gather.{next_of, halves, Holding, BothAsks, BothGives, GatherAsks, GatherGives}
use Rattle.halves.proofs.Tallies.{tally_zero}
use Rattle.halves.proofs.Halves.{bound, next_in, halves_suc, halves_zero, halves_more}
use Rattle.halves.proofs.gather.Invariants.{Inv}
use Rattle.halves.proofs.gather.Goals as goal

-- both corners of a step are there, and are points
record Turn (P : ℕ) (f : List ℕ) (i j : ℕ) : Type 0 where
  i_in : i < length f
  j_in : j < length f
  v_small : get_or f i 0 < P
  u_small : get_or f j 0 < P
  points : P ≤ 4194304

-- before the first step
begin : {P : ℕ} {f : List ℕ} {from top : ℕ} {a : List ℕ} → GatherAsks f P from top a → Inv P f from top a (length a) a top 0 0
begin {P} {f} {from} {top} {a} p =
    let r = p.room in
    record {
      size_is = refl;
      at_most = omega arith;
      holding = record { long = refl; above = p.above; within = omega arith; fewer = omega arith; inside = record { low = λ i h. omega arith; high = λ i h. omega arith }; full = λ e. absurd (omega arith) };
      going = omega arith;
      counts = record { each = λ x l u. tally_zero a 0 x ∙ sym (halves_zero f P x) };
    }

module _ {P : ℕ} {f : List ℕ} {from top : ℕ} {a₀ : List ℕ} {size : ℕ} {a : List ℕ} {to n i : ℕ} (p : GatherAsks f P from top a₀) (v : Inv P f from top a₀ size a to n i) where
  module _ (h : i < length f) {j : ℕ} (e : j ≡ next_of i) where
    -- the bounds
    turn : Turn P f i j
    turn =
        let q = next_in f i p.faces.whole h in
        record { i_in = h; j_in = omega arith; v_small = p.faces.below i h; u_small = p.faces.below j (omega arith); points = p.faces.points }

    -- the half entries of a step fit
    both_asks : BothAsks a n from to P (get_or f i 0) (get_or f j 0)
    both_asks =
        let t = turn in
        let t₁ = t.v_small in
        let t₂ = t.u_small in
        let t₃ = t.points in
        let l = v.holding.long in
        let g = v.going in
        record {
          room = omega arith;
          above = v.holding.above;
          inside = v.holding.inside;
          fits = omega (arith, bound 4194304 4194304 {a = get_or f i 0} {b = P} (omega arith) (omega arith));
          fits' = omega (arith, bound 4194304 4194304 {a = get_or f j 0} {b = P} (omega arith) (omega arith));
        }

    module _ {a' : List ℕ} {n' to' : ℕ} (g : BothGives a n from to P (get_or f i 0) (get_or f j 0) a' n' to') where
      -- the buffer holds half entries of the range still
      holding' : Holding size from top a' n' to'
      holding' =
          let l = v.holding.long in
          let w = v.holding.within in
          let q = g.holding in
          let q₁ = q.long in
          let q₂ = q.within in
          let q₃ = q.fewer in
          record { long = omega arith; above = q.above; within = omega arith; fewer = omega arith; inside = q.inside; full = λ z. q.full (omega arith) }

      -- what one more step adds
      step : (x : ℕ) → halves f P (i + 1) x ≡ halves f P i x + (hit (2 * (get_or f i 0 * P + get_or f j 0)) x + hit (2 * (get_or f j 0 * P + get_or f i 0) + 1) x)
      step x = rw (add-one, e) (halves_suc f P i x)

      -- there is room for another step
      again : (n' ≡ size → ⊥) → Inv P f from top a₀ size a' to' n' (i + 1)
      again z =
          let l = v.holding.long in
          let q = holding'.fewer in
          record {
            size_is = v.size_is;
            at_most = omega arith;
            holding = holding';
            going = omega arith;
            counts = record { each = λ x s t. (g.counts (omega arith) (halves f P i) v.counts).each x s t ∙ sym (step x) };
          }

      -- one key fills the buffer
      full : n' ≡ size → GatherGives f P from top a₀ a' n' to'
      full z =
          let s = v.size_is in
          let d : i + 1 + (length f - (i + 1)) ≡ length f = omega arith in
          record {
            holding = rw s at holding';
            counts = λ q. absurd (omega arith);
            most = record { each = λ x b t. omega (arith, (g.most (halves f P i) v.counts).each x b t, step x, halves_more f P (i + 1) (length f - (i + 1)) x, ap (λ (y : ℕ). halves f P y x) d) };
          }

  -- after the last step
  done : length f ≤ i → GatherGives f P from top a₀ a n to
  done h =
      let s = v.size_is in
      let m = v.at_most in
      let e : i ≡ length f = omega arith in
      record {
        holding = rw s at v.holding;
        counts = λ q. rw e at v.counts;
        most = record { each = λ x b t. omega (arith, v.counts.each x b t, ap (λ (y : ℕ). halves f P y x) e) };
      }

pub loop-i-init : goal.loop-i-init
loop-i-init c = begin c.requires

pub next-j-requires : goal.next-j-requires
next-j-requires c = omega (arith, c.loop-i-test.true)

pub offset_bounds-faces-i : goal.offset_bounds-faces-i
offset_bounds-faces-i c = omega (arith, turn c.requires c.loop-i.invariant c.loop-i-test.true c.next-j.ensures)

pub bounds-faces-i : goal.bounds-faces-i
bounds-faces-i c = omega (arith, turn c.requires c.loop-i.invariant c.loop-i-test.true c.next-j.ensures)

pub overflow_cast-v : goal.overflow_cast-v
overflow_cast-v c = omega (arith, turn c.requires c.loop-i.invariant c.loop-i-test.true c.next-j.ensures)

pub offset_bounds-faces-j : goal.offset_bounds-faces-j
offset_bounds-faces-j c = omega (arith, turn c.requires c.loop-i.invariant c.loop-i-test.true c.next-j.ensures)

pub bounds-faces-j : goal.bounds-faces-j
bounds-faces-j c = omega (arith, turn c.requires c.loop-i.invariant c.loop-i-test.true c.next-j.ensures)

pub overflow_cast-u : goal.overflow_cast-u
overflow_cast-u c = omega (arith, turn c.requires c.loop-i.invariant c.loop-i-test.true c.next-j.ensures)

pub put_both-g-requires : goal.put_both-g-requires
put_both-g-requires c = both_asks c.requires c.loop-i.invariant c.loop-i-test.true c.next-j.ensures

pub shape_of-buffer-then-n-size : goal.shape_of-buffer-then-n-size
shape_of-buffer-then-n-size c = c.put_both-g.auto.buffer ∙ c.loop-i.invariant.holding.long

pub returns-then-n-size : goal.returns-then-n-size
returns-then-n-size c = full c.requires c.loop-i.invariant c.loop-i-test.true c.next-j.ensures c.put_both-g.ensures c.if-n-size.true

pub loop-i-preserved : goal.loop-i-preserved
loop-i-preserved c = again c.requires c.loop-i.invariant c.loop-i-test.true c.next-j.ensures c.put_both-g.ensures c.if-n-size.false

pub shape_of-buffer : goal.shape_of-buffer
shape_of-buffer c = c.loop-i.invariant.holding.long

pub returns : goal.returns
returns c = done c.requires c.loop-i.invariant c.loop-i-test.false
