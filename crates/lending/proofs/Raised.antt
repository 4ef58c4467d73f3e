-- A report with more at a count: its list of counts, and how great each of them is. Assumes nothing.
use mathlib.Core.Path.{◌≡◌, refl, sym, subst}
use mathlib.Core.List.{List}
use Prim.Native.Nat.{ℕ, ◌+◌, ◌-◌, ◌≤◌, ◌<◌}
use native.Mathlib.Decide.{ℕ_discrete}
use native.Mathlib.Omega.{arith}
use lib.ListN.{get_or, set, get_or-replicate}
use lib.Seq.{get_or-set_same, get_or-set_other}
use Rattle.rules.specs.State.{Count, report_counts, place, more, repeateds, thins, duplicates, crowded_edges, dropped_at_edges, dropped_for_direction, vertices_split, points_added, reoriented, components, isolated}
use Rattle.rule_laws.proofs.Counts.{place_below}
use Rattle.lending.specs.declared.Report.{Report}
use Rattle.lending.specs.Reports.{empty, added, counts_of, CountsBelow}

-- more at a count is more in the list, whichever it is
pub counts_added : (c : Count) (k : ℕ) (h : Report) → counts_of (added c k h) ≡ more c k (counts_of h)
unfolding more place
counts_added repeateds k h = refl
counts_added thins k h = refl
counts_added duplicates k h = refl
counts_added crowded_edges k h = refl
counts_added dropped_at_edges k h = refl
counts_added dropped_for_direction k h = refl
counts_added vertices_split k h = refl
counts_added points_added k h = refl
counts_added reoriented k h = refl
counts_added components k h = refl
counts_added isolated k h = refl

-- before the first pass each count is 0
pub none_yet : CountsBelow 1 empty
none_yet = record { each = λ j i. omega (arith, get_or-replicate {A = ℕ} report_counts j 0 0 i) }

-- counts below a number are below a greater one
pub counts_below : {N N' : ℕ} {h : Report} → N ≤ N' → CountsBelow N h → CountsBelow N' h
counts_below l b = record { each = λ j i. omega (arith, b.each j i) }

-- a count to which at most K are added: that one is looked at, or another
pub grows : (c : Count) {N K k : ℕ} {h : Report} → k ≤ K → CountsBelow N h → CountsBelow (N + K) (added c k h)
unfolding more
grows c {N} {K} {k} {h} l b = record { each = λ j i. subst (λ (xs : List ℕ). get_or xs j 0 < N + K) (sym (counts_added c k h)) (go j i (ℕ_discrete j (place c))) }
  where
    go : (j : ℕ) → j < report_counts → Dec (j ≡ place c) → get_or (set (counts_of h) (place c) (get_or (counts_of h) (place c) 0 + k)) j 0 < N + K
    go j i (yes e) = rw (e, get_or-set_same (counts_of h) (place c) (get_or (counts_of h) (place c) 0 + k) 0 (place_below c)) (omega (arith, b.each (place c) (place_below c)))
    go j i (no e) = rw (get_or-set_other (counts_of h) (place c) j (get_or (counts_of h) (place c) 0 + k) 0 e) (omega (arith, b.each j i))

-- a sum fits where the count leaves room for m more
pub fits : (c : Count) {N m k : ℕ} {h : Report} → CountsBelow (N - m) h → k ≤ m → get_or (counts_of h) (place c) 0 + k < N
fits c b l = omega (arith, b.each (place c) (place_below c))
