-- `corner_numbers::number_run` meets its contract. The invariant: the corners passed have their numbers. Assumes nothing.
use mathlib.Core.Path.{◌≡◌, refl, sym, ap, ◌∙◌}
use mathlib.Core.Bool.{Bool, ◌&&◌, cond}
use mathlib.Core.List.{List}
use Prim.Native.Nat.{ℕ, ◌+◌, ◌≤◌, ◌<◌}
use native.Mathlib.Omega.{arith}
use native.Mathlib.Numerals.{add-one}
use native.Mathlib.Decide.{ℕ_discrete}
use lib.ListN.{get_or, set}
use lib.Seq.{get_or-set_same, get_or-set_other}
use lib.Dec.{eqb, ltb}
use Rattle.rows.proofs.Regions.{only_none, only_both, only_set, kept_at}
use Rattle.rules.specs.Lists.{below, count, filter}
use Rattle.rule_laws.proofs.Lists.{count_below}
use Rattle.rule_laws.proofs.Counting.{count_below_le}
use Rattle.corner_numbers.specs.Numbers.{extra_by, ExtraAsks, RunAsks, RunGives}
use Rattle.corner_numbers.proofs.number_run.Invariants.{Inv}
use Rattle.corner_numbers.proofs.number_run.Goals as goal
use Rattle.corner_numbers.proofs.number_run.Goals.{else-extra, then-extra}
use Rattle.corner_numbers.proofs.number_run.Invariants.{Turn}

begin : {w : List ℕ} {run m leads numbers n v next : ℕ} → RunAsks w run m leads numbers n v next → Inv w run m leads numbers n v next w next 0
begin p =
    record {
      at_most = omega arith;
      only = only_none _ _ _;
      free = unfold count below filter in omega arith;
      numbered = λ k h. absurd (omega arith);
      others = λ id h. refl;
    }

module _ {w₀ : List ℕ} {run m leads numbers n v next : ℕ} {w : List ℕ} {new j : ℕ} (p : RunAsks w₀ run m leads numbers n v next) (i : Inv w₀ run m leads numbers n v next w new j) (h : j < m) where
  same : get_or w (run + j) 0 ≡ get_or w₀ (run + j) 0
  same = kept_at i.only p.run_apart j h

  few : count (extra_by w₀ run leads) (below j) ≤ j
  few = count_below_le (extra_by w₀ run leads) j

  turn : Turn w run m leads numbers n v new j
  turn =
      let l = i.only.long in
      record {
        here = h;
        run_in = omega (arith, p.run_fit);
        leads_in = omega (arith, p.leads_fit);
        numbers_in = omega (arith, p.numbers_fit);
        id = omega (arith, same, p.id j h);
        small = omega (arith, i.free, few, p.small);
        vertex = p.vertex;
      }

  extra_ok : ExtraAsks w run leads j
  extra_ok = let t = turn in record { run_fit = omega arith; leads_fit = omega arith }

  -- whether it is extra is as it was at entry
  extra_same : extra_by w run leads j ≡ extra_by w₀ run leads j
  extra_same = ap (λ x. ltb 0 j && eqb (get_or w (leads + x) 0) x) same ∙ ap (λ y. ltb 0 j && eqb y (get_or w₀ (run + j) 0)) (kept_at i.only p.leads_apart (get_or w₀ (run + j) 0) (p.id j h))

  again : {b : Bool} {val new' : ℕ} → extra_by w run leads j ≡ b → val ≡ cond b new v → new' ≡ new + cond b 1 0 → Inv w₀ run m leads numbers n v next (set w (numbers + get_or w (run + j) 0) val) new' (j + 1)
  again {b} {val} {new'} e q r =
      let t = turn in
      let x = sym extra_same ∙ e in
      record {
        at_most = omega arith;
        only = only_both i.only (only_set w (numbers + get_or w (run + j) 0) val (omega arith) (omega arith));
        free = rw (add-one j, count_below (extra_by w₀ run leads) j, x) (r ∙ omega (arith, i.free));
        numbered = λ k l. at k l (ℕ_discrete k j) x;
        others = λ id o. get_or-set_other w (numbers + get_or w (run + j) 0) (numbers + id) val 0 (λ z. o j (omega arith) (omega (arith, same))) ∙ i.others id (λ k l. o k (omega arith));
      }
    where
      at : (k : ℕ) → k < j + 1 → Dec (k ≡ j) → extra_by w₀ run leads j ≡ b → get_or (set w (numbers + get_or w (run + j) 0) val) (numbers + get_or w₀ (run + k) 0) 0 ≡ cond (extra_by w₀ run leads k) (next + count (extra_by w₀ run leads) (below k)) v
      at k l (yes s) x =
          let t = turn in
          ap (λ y. get_or (set w (numbers + get_or w (run + j) 0) val) (numbers + y) 0) (ap (λ z. get_or w₀ (run + z) 0) s ∙ sym same)
          ∙ get_or-set_same w (numbers + get_or w (run + j) 0) val 0 (omega arith)
          ∙ q
          ∙ ap (λ z. cond b z v) i.free
          ∙ ap (λ z. cond z (next + count (extra_by w₀ run leads) (below j)) v) (sym x)
          ∙ sym (ap (λ z. cond (extra_by w₀ run leads z) (next + count (extra_by w₀ run leads) (below z)) v) s)
      at k l (no s) x =
          let t = turn in
          get_or-set_other w (numbers + get_or w (run + j) 0) (numbers + get_or w₀ (run + k) 0) val 0 (λ z. absurd (omega (arith, same, p.rising k j (omega arith) h))) ∙ i.numbered k (omega arith)

done : {w₀ : List ℕ} {run m leads numbers n v next : ℕ} {w : List ℕ} {new j : ℕ} → RunAsks w₀ run m leads numbers n v next → Inv w₀ run m leads numbers n v next w new j → m ≤ j → RunGives w₀ run m leads numbers n v next w new
done {m = m} {j = j} p i h =
    let e : j ≡ m = omega (arith, i.at_most) in
    record { only = i.only; free = rw e at i.free; numbered = rw e at i.numbered; others = rw e at i.others }

pub loop-j-init : goal.loop-j-init
loop-j-init c = begin c.requires

pub extra-requires : goal.extra-requires
extra-requires c = extra_ok c.requires c.loop-j.invariant c.loop-j-test.true

pub overflow_cast-work : goal.overflow_cast-work
overflow_cast-work c = omega (arith, turn c.requires c.loop-j.invariant c.loop-j-test.true)

pub overflow_add-new : goal.overflow_add-new
overflow_add-new c = omega (arith, turn c.requires c.loop-j.invariant c.loop-j-test.true)

pub loop-j-preserved : goal.loop-j-preserved
loop-j-preserved c = elim c.if-extra.branch [ then-extra w ↦ rw (w.work-is, w.new-is) (again c.requires c.loop-j.invariant c.loop-j-test.true (sym c.extra.ensures ∙ w.if-extra.true) refl refl) | else-extra w ↦ rw (w.work-is, w.new-is) (again c.requires c.loop-j.invariant c.loop-j-test.true (sym c.extra.ensures ∙ w.if-extra.false) refl (omega arith)) ]

pub returns : goal.returns
returns c = done c.requires c.loop-j.invariant c.loop-j-test.false
