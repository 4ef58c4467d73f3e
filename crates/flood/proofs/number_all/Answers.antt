-- `flood::number_all` meets its contract: a thing that is its own parent takes the next number, another one the number of its parent. Assumes nothing.
use mathlib.Core.Path.{◌≡◌, sym, ap, ◌∙◌}
use mathlib.Core.List.{List}
use Prim.Native.Nat.{ℕ, suc, ◌+◌, ◌^◌, ◌≤◌, ◌<◌}
use native.Mathlib.Numerals.{add-one}
use native.Mathlib.Omega.{arith}
use lib.ListN.{length, set}
use Rattle.rows.specs.Region.{Out.above}
use Rattle.rows.proofs.Regions.{only_none, only_next, holds_none, holds_next}
use Rattle.rules.specs.Lists.{below, count}
use Rattle.rules.specs.Groups.{leads}
use Rattle.rule_laws.proofs.Counting.{count_below_le, count_next, count_stay}
use Rattle.rule_laws.proofs.Leaders.{label_of, groups_length}
use Rattle.flood.specs.Parents.{parent}
use Rattle.flood.specs.Uniting.{NumberAsks, NumberGives}
use Rattle.flood.proofs.Forests.{root_low}
use Rattle.flood.proofs.Leading.{root_leads, label_root, child_follows}
use Rattle.flood.proofs.number_all.Invariants.{Inv}
use Rattle.flood.proofs.number_all.Goals as goal
use Rattle.flood.proofs.number_all.Goals.{else-parent-i, then-parent-i}

begin : {w : List ℕ} {labels n : ℕ} (q : NumberAsks w labels n) → Inv q w 0 0
begin {w} {labels} {n} q = record { at_most = omega arith; only = only_none _ _ _; numbered = holds_none; number = omega (arith, count_below_le (leads q.joined n) 0) }

-- the bounds of a turn
record Turn (labels n : ℕ) (w : List ℕ) (c i p : ℕ) : Type 0 where
  is_thing : i < n
  lower : p ≤ i
  fewer : c ≤ i
  few : n ≤ 2 ^ 32
  fit : labels + n ≤ length w

module _ {w₀ : List ℕ} {labels n : ℕ} {w : List ℕ} {c i : ℕ} (q : NumberAsks w₀ labels n) (u : (q : NumberAsks w₀ labels n) → Inv q w c i) where
  abbrev v : Inv q w c i
  v = u q

  module _ (h : i < n) where
    -- the parent of i is as it was
    unread : parent w labels i ≡ parent w₀ labels i
    unread = v.only.same (labels + i) (above (omega arith))

    turn : Turn labels n w c i (parent w labels i)
    turn =
        let l = v.only.long in
        record {
          is_thing = h;
          lower = omega (arith, unread, q.united.forest.down i h);
          fewer = omega (arith, v.number, count_below_le (leads q.joined n) i);
          few = q.united.forest.few;
          fit = omega (arith, q.united.forest.fit);
        }

    -- its own parent: it leads, and as many lead before it as were counted
    leader : parent w labels i ≡ i → Inv q (set w (labels + i) c) (c + 1) (i + 1)
    leader e =
        let r = q.united.forest.fixed i h (sym unread ∙ e) in
        record {
          at_most = omega arith;
          only = only_next c v.only;
          numbered = holds_next c (omega (arith, turn))
              (v.number ∙ ap (λ (j : ℕ). count (leads q.joined n) (below j)) (sym r) ∙ sym (label_root q.turns q.united i h)) v.numbered;
          number = rw (add-one c, add-one i) (ap suc v.number ∙ sym (count_next (leads q.joined n) i (root_leads q.turns q.united i h r)));
        }

    module _ (f : parent w labels i ≡ i → ⊥) where
      -- another parent is earlier, and has its label already
      lower : parent w₀ labels i < i
      lower = omega (arith, turn, unread)

      -- the root of i is that of its parent, so it comes before i
      lower_root : q.united.root i < i
      lower_root =
          let l = lower in
          omega (arith, root_low q.united.forest (parent w₀ labels i) (omega arith), q.united.forest.along i h)

      -- and the label of the parent is that of i
      child_label : label_of q.joined n (parent w₀ labels i) ≡ label_of q.joined n i
      child_label =
          let l = lower in
          label_root q.turns q.united (parent w₀ labels i) (omega arith)
          ∙ ap (λ (j : ℕ). count (leads q.joined n) (below j)) (q.united.forest.along i h) ∙ sym (label_root q.turns q.united i h)

      -- i takes that label, and does not lead
      child : Inv q (set w (labels + i) (parent w labels (parent w labels i))) c (i + 1)
      child =
          record {
            at_most = omega arith;
            only = only_next (parent w labels (parent w labels i)) v.only;
            numbered = holds_next (parent w labels (parent w labels i)) (omega (arith, turn))
                (ap (parent w labels) unread ∙ v.numbered.each (parent w₀ labels i) lower ∙ child_label) v.numbered;
            number = rw (add-one i) (v.number ∙ sym (count_stay (leads q.joined n) i (child_follows q.turns q.united i h lower_root)));
          }

  done : n ≤ i → NumberGives q w c
  done l =
      let e : i ≡ n = omega (arith, v.at_most) in
      record {
        only = rw e at v.only;
        numbered = rw e at v.numbered;
        count = v.number ∙ ap (λ (j : ℕ). count (leads q.joined n) (below j)) e ∙ sym (groups_length q.joined n);
      }

pub loop-i-init : goal.loop-i-init
loop-i-init c = begin

pub offset_bounds-work-labels : goal.offset_bounds-work-labels
offset_bounds-work-labels c = omega (arith, turn c.requires c.loop-i.invariant c.loop-i-test.true)

pub bounds-work-labels : goal.bounds-work-labels
bounds-work-labels c = omega (arith, turn c.requires c.loop-i.invariant c.loop-i-test.true)

pub overflow_cast-work : goal.overflow_cast-work
overflow_cast-work c = omega (arith, turn c.requires c.loop-i.invariant c.loop-i-test.true)

pub overflow_add-work : goal.overflow_add-work
overflow_add-work c = omega (arith, turn c.requires c.loop-i.invariant c.loop-i-test.true)

pub overflow_add-count : goal.overflow_add-count
overflow_add-count c = omega (arith, turn c.requires c.loop-i.invariant c.loop-i-test.true)

pub bounds-work-labels-else-parent-i : goal.bounds-work-labels-else-parent-i
bounds-work-labels-else-parent-i c = omega (arith, turn c.requires c.loop-i.invariant c.loop-i-test.true)

pub loop-i-preserved : goal.loop-i-preserved
loop-i-preserved c = let t = c.before.before in
    let a = t.before in
    λ q.
    elim c.if-parent-i.branch [ then-parent-i w ↦ rw (w.work-is, w.count-is) (leader q a.loop-i.invariant t.loop-i-test.true w.if-parent-i.true) | else-parent-i w ↦ rw (w.work-is, w.count-is) (child q a.loop-i.invariant t.loop-i-test.true w.if-parent-i.false) ]

pub shape_of-work : goal.shape_of-work
shape_of-work c = (c.loop-i.invariant c.requires).only.long

pub returns : goal.returns
returns c = λ q. done q c.loop-i.invariant c.loop-i-test.false
