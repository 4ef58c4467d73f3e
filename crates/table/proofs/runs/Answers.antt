-- `table::runs` meets its contract. The invariant: of the places passed, those where runs begin are noted, and each entry has the number of its run.
-- Assumes nothing.
use mathlib.Core.Path.{◌≡◌, refl, sym, ap, ◌∙◌}
use mathlib.Core.Bool.{Bool}
use mathlib.Core.List.{List}
use Prim.Native.Nat.{ℕ, suc, ◌+◌, ◌-◌, ◌*◌, ◌≤◌, ◌<◌}
use native.Mathlib.Omega.{arith}
use native.Mathlib.Numerals.{add-one}
use native.Mathlib.Decide.{ℕ_discrete}
use lib.ListN.{length, get_or, set}
use lib.Seq.{get_or-set_same, get_or-set_other}
use Rattle.rows.specs.Region.{part, Apart.before, Apart.after, Only, Only2}
use Rattle.rows.proofs.Regions.{only_set, only2_none, only2_left, only2_right, only2_both, kept, kept_at}
use Rattle.rules.specs.Lists.{below, filter, count}
use Rattle.rule_laws.proofs.Lists.{count_below}
use Rattle.rule_laws.proofs.Counting.{count_below_le, count_some}
use Rattle.rule_laws.proofs.Members.{mem_below}
use Rattle.table.specs.Runs.{entry, begins, RunsAsks, RunsGives, NoteAsks, NoteGives}
use Rattle.table.proofs.Begun.{places_next, entry_kept, begins_kept, runs_asks_kept}
use Rattle.table.proofs.runs.Invariants.{Inv}
use Rattle.table.proofs.runs.Goals as goal
use Rattle.table.proofs.runs.Invariants.{Turn}

begin : {w : List ℕ} {n at : ℕ} → RunsAsks w n at → Inv w n at w 0 0
begin p = record { most = omega arith; only = only2_none _ _ _ _ _; number = unfold count filter below in refl; starts = unfold filter below in refl; runs = λ g f j h. omega arith }

module _ {w₀ : List ℕ} {n at : ℕ} {w : List ℕ} {m i : ℕ} (p : RunsAsks w₀ n at) (v : Inv w₀ n at w m i) where
  abbrev test : ℕ → Bool
  test j = begins w₀ n at j

  -- a run begins at most once for each place
  at_most : m ≤ i
  at_most = omega (arith, v.number, count_below_le test i)

  note_ok : i < n → NoteAsks w n at m i
  note_ok h = record { rows = runs_asks_kept p v.only; here = h; begun = at_most }

  module _ (h : i < n) {w₁ : List ℕ} {r : ℕ} (q : NoteGives w n at m i w₁ r) where
    only₁ : Only2 (at + 2 * n) n (at + 4 * n) (n + 1) w₀ w₁
    only₁ = only2_both v.only (only2_right q.only)

    same_test : begins w n at i ≡ test i
    same_test = begins_kept p v.only i h

    number₁ : r ≡ count test (below (suc i))
    number₁ = q.number ∙ cc (same_test, v.number, count_below test i)

    starts₁ : part w₁ (at + 4 * n) r ≡ filter test (below (suc i))
    starts₁ = q.starts ∙ cc (same_test, v.starts, places_next test i)

    turn : Turn w₁ n at r i
    turn =
        let l = only₁.long in
        let a = count_some test 0 (below (suc i)) (mem_below 0 (suc i) (omega arith)) tt in
        record {
          few = p.few;
          fit = omega (arith, p.fit);
          here = h;
          some = omega (arith, number₁);
          most = omega (arith, number₁, count_below_le test (suc i));
          id_in = rw (entry_kept p only₁ i h) (p.id i h);
        }

    abbrev stored : List ℕ
    stored = set w₁ (at + 2 * n + entry w₁ n at i) (r - 1)

    store : Only (at + 2 * n) n w₁ stored
    store = only_set w₁ (at + 2 * n + entry w₁ n at i) (r - 1) (omega arith) (omega (arith, turn.id_in))

    -- an entry that stood at an earlier place too has the same number
    noted : (g : ℕ → ℕ) → ((j : ℕ) → j < i + 1 → suc (g (entry w₀ n at j)) ≡ count test (below (suc j))) → (j : ℕ) → j < i + 1 → get_or stored (at + 2 * n + entry w₀ n at j) 0 ≡ g (entry w₀ n at j)
    noted g f j k = rw (entry_kept p only₁ i h) (go (ℕ_discrete (entry w₀ n at i) (entry w₀ n at j)))
      where
        place : ℕ
        place = at + 2 * n + entry w₀ n at i

        go : Dec (entry w₀ n at i ≡ entry w₀ n at j) → get_or (set w₁ (at + 2 * n + entry w₀ n at i) (r - 1)) (at + 2 * n + entry w₀ n at j) 0 ≡ g (entry w₀ n at j)
        go (yes e) =
            let t = f i (omega arith) in
            let u : r - 1 ≡ g (entry w₀ n at i) = omega (arith, number₁) in
            rw (← e) (get_or-set_same w₁ (at + 2 * n + entry w₀ n at i) (r - 1) 0 (omega (arith, turn, p.id i h)) ∙ u)
        go (no e) =
            let l : j < i = before_i k (λ x. e (ap (λ y. entry w₀ n at y) (sym x))) in
            get_or-set_other w₁ (at + 2 * n + entry w₀ n at i) (at + 2 * n + entry w₀ n at j) (r - 1) 0 (omega arith)
            ∙ kept_at q.only {b = at + 2 * n} {m = n} (before (omega arith)) (entry w₀ n at j) (p.id j (omega arith))
            ∙ v.runs g (λ y a. f y (omega arith)) j l
          where
            before_i : j < i + 1 → (j ≡ i → ⊥) → j < i
            before_i a b = omega arith

    again : Inv w₀ n at stored r (i + 1)
    again =
        record {
          most = omega arith;
          only = only2_both only₁ (only2_left store);
          number = rw add-one number₁;
          starts = rw add-one (kept store (at + 4 * n) r (after (omega arith)) (omega (arith, turn)) ∙ starts₁);
          runs = noted;
        }

  -- the last store, behind the beginnings
  module _ (h : n ≤ i) where
    abbrev ended : List ℕ
    ended = set w (at + 4 * n + m) n

    in_room : at + 4 * n + m < length w
    in_room = let l = v.only.long in omega (arith, p.fit, at_most, v.most)

    last : Only (at + 4 * n + m) 1 w ended
    last = only_set w (at + 4 * n + m) n (omega arith) (omega arith)

    done : RunsGives w₀ n at ended m
    done =
        let e : i ≡ n = omega (arith, v.most) in
        let a = at_most in
        let l = v.only.long in
        record {
          only = only2_both v.only (only2_right (only_set w (at + 4 * n + m) n (omega arith) (omega arith)));
          number = rw e at v.number;
          starts = kept last (at + 4 * n) m (before (omega arith)) (omega (arith, p.fit)) ∙ rw e at v.starts;
          end = get_or-set_same w (at + 4 * n + m) n 0 in_room;
          runs = λ g f j k. kept_at last {b = at + 2 * n} {m = n} (before (omega arith)) (entry w₀ n at j) (p.id j k) ∙ v.runs g (λ y b. f y (omega arith)) j (omega arith);
        }

pub loop-i-init : goal.loop-i-init
loop-i-init c = begin c.requires

pub note-m-requires : goal.note-m-requires
note-m-requires c = note_ok c.requires c.loop-i.invariant c.loop-i-test.true

pub overflow_mul-id : goal.overflow_mul-id
overflow_mul-id c = omega (arith, turn c.requires c.loop-i.invariant c.loop-i-test.true c.note-m.ensures)

pub overflow_add-id : goal.overflow_add-id
overflow_add-id c = omega (arith, turn c.requires c.loop-i.invariant c.loop-i-test.true c.note-m.ensures)

pub overflow_add-id-in-loop-i : goal.overflow_add-id-in-loop-i
overflow_add-id-in-loop-i c = omega (arith, turn c.requires c.loop-i.invariant c.loop-i-test.true c.note-m.ensures)

pub offset_bounds-work-at : goal.offset_bounds-work-at
offset_bounds-work-at c = omega (arith, turn c.requires c.loop-i.invariant c.loop-i-test.true c.note-m.ensures)

pub bounds-work-at : goal.bounds-work-at
bounds-work-at c = omega (arith, turn c.requires c.loop-i.invariant c.loop-i-test.true c.note-m.ensures)

pub overflow_cast-id : goal.overflow_cast-id
overflow_cast-id c = omega (arith, turn c.requires c.loop-i.invariant c.loop-i-test.true c.note-m.ensures)

pub overflow_sub-work : goal.overflow_sub-work
overflow_sub-work c = omega (arith, turn c.requires c.loop-i.invariant c.loop-i-test.true c.note-m.ensures)

pub overflow_cast-work : goal.overflow_cast-work
overflow_cast-work c = omega (arith, turn c.requires c.loop-i.invariant c.loop-i-test.true c.note-m.ensures)

pub overflow_mul-work : goal.overflow_mul-work
overflow_mul-work c = omega (arith, turn c.requires c.loop-i.invariant c.loop-i-test.true c.note-m.ensures)

pub overflow_add-work : goal.overflow_add-work
overflow_add-work c = omega (arith, turn c.requires c.loop-i.invariant c.loop-i-test.true c.note-m.ensures)

pub overflow_add-work-in-loop-i : goal.overflow_add-work-in-loop-i
overflow_add-work-in-loop-i c = omega (arith, turn c.requires c.loop-i.invariant c.loop-i-test.true c.note-m.ensures)

pub offset_bounds-work-at-in-loop-i : goal.offset_bounds-work-at-in-loop-i
offset_bounds-work-at-in-loop-i c = omega (arith, turn c.requires c.loop-i.invariant c.loop-i-test.true c.note-m.ensures)

pub bounds-work-at-in-loop-i : goal.bounds-work-at-in-loop-i
bounds-work-at-in-loop-i c = omega (arith, turn c.requires c.loop-i.invariant c.loop-i-test.true c.note-m.ensures)

pub loop-i-preserved : goal.loop-i-preserved
loop-i-preserved c = again c.requires c.loop-i.invariant c.loop-i-test.true c.note-m.ensures

pub overflow_cast-work-2 : goal.overflow_cast-work-2
overflow_cast-work-2 c = omega (arith, at_most c.requires c.loop-i.invariant, c.loop-i.invariant.most, c.loop-i.invariant.only.long, c.requires.fit, c.requires.few)

pub overflow_mul-work-2 : goal.overflow_mul-work-2
overflow_mul-work-2 c = omega (arith, at_most c.requires c.loop-i.invariant, c.loop-i.invariant.most, c.loop-i.invariant.only.long, c.requires.fit, c.requires.few)

pub overflow_add-work-2 : goal.overflow_add-work-2
overflow_add-work-2 c = omega (arith, at_most c.requires c.loop-i.invariant, c.loop-i.invariant.most, c.loop-i.invariant.only.long, c.requires.fit, c.requires.few)

pub overflow_add-work-3 : goal.overflow_add-work-3
overflow_add-work-3 c = omega (arith, at_most c.requires c.loop-i.invariant, c.loop-i.invariant.most, c.loop-i.invariant.only.long, c.requires.fit, c.requires.few)

pub offset_bounds-work-at-2 : goal.offset_bounds-work-at-2
offset_bounds-work-at-2 c = omega (arith, at_most c.requires c.loop-i.invariant, c.loop-i.invariant.most, c.loop-i.invariant.only.long, c.requires.fit, c.requires.few)

pub bounds-work-at-2 : goal.bounds-work-at-2
bounds-work-at-2 c = omega (arith, at_most c.requires c.loop-i.invariant, c.loop-i.invariant.most, c.loop-i.invariant.only.long, c.requires.fit, c.requires.few)

pub shape_of-work : goal.shape_of-work
shape_of-work c = (done c.requires c.loop-i.invariant c.loop-i-test.false).only.long

pub returns : goal.returns
returns c = done c.requires c.loop-i.invariant c.loop-i-test.false
