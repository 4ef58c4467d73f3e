-- One pass by its option: it is off and nothing changes, or marked faces leave. Assumes nothing.
use mathlib.Core.Path.{◌≡◌, sym, ap, ◌∙◌}
use mathlib.Core.Bool.{Bool, true, false}
use mathlib.Core.List.{List}
use Prim.Native.Nat.{ℕ, ◌+◌, ◌*◌, ◌-◌, ◌/◌, ◌%◌, ◌^◌, ◌≤◌, ◌<◌}
use native.Mathlib.Omega.{arith}
use borrow.Author.Tests.{eq-eqb, ne_eqb}
use lib.ListN.{length, get_or, take}
use lib.Seq.{length-take-le}
use lib.Ieee.{Float}
use Rattle.rows.specs.Region.{Only}
use Rattle.rows.proofs.Regions.{only_none, only_both}
use Rattle.leaving.specs.Pass.{carried, PassAsks, MarkGives, LeaveAsks, LeaveGives}
use Rattle.leaving.proofs.ByFlags.{may_leave}
use Rattle.leaving.proofs.Standing.{left_number, left_inside, fewer_taken, stands_alike, carried_left}
use Rattle.rules.specs.Mesh.{points_of}
use Rattle.rules.specs.Repair.{optional, bit}
use Rattle.rules.specs.Lists.{below, count, leave}
use Rattle.rules.specs.State.{State, Count, more, counted, with_faces, dropped}
use Rattle.marking.specs.Marking.{taken}
use Rattle.passes.specs.declared.Passed.{Passed}
use Rattle.passes.specs.Passing.{all_kept, Lists, lists, state_in, stated, Stands, Reach, PassGives, keeps}

-- an option that is set
pub bit_set : (k o : ℕ) → o / 2 ^ k % 2 ≡ 1 → bit k o ≡ true
unfolding bit
bit_set k o e = eq-eqb (o / 2 ^ k % 2) 1 e

-- an option that is not
pub bit_clear : (k o : ℕ) → (o / 2 ^ k % 2 ≡ 1 → ⊥) → bit k o ≡ false
unfolding bit
bit_clear k o e = ne_eqb (o / 2 ^ k % 2) 1 e

-- bit 0 is the lowest digit
pub lowest : (o : ℕ) → o / 2 ^ 0 % 2 ≡ o % 2
lowest o = omega arith

-- what a pass leaves that changes nothing
abbrev pub unchanged : Lists → Passed
unchanged m = all_kept m.p m.n

-- a pass that is off changes nothing
pub off :
    {m : Lists} (pass : State → State) (after : List ℕ → List ℕ) (reach : Reach)
    → ((report : List ℕ) → after report ≡ report) → reach.least ≤ m.p → m.p ≤ reach.most → ((i : ℕ) → i < 3 * m.n → get_or m.faces i 0 < m.p)
    → PassGives (optional false pass) after reach m m (unchanged m)
unfolding optional
off {m} pass after reach same l h inside =
    record {
      state = λ report. ap (state_in m) (same report);
      inside = inside;
      not_below = l;
      not_above = h;
      fewer = omega arith;
      few_dropped = omega arith;
      few_found = omega arith;
      few_changed = omega arith;
      only_points = only_none 0 (3 * reach.most) m.points;
      only_faces = only_none 0 (3 * m.n) m.faces;
      only_origins = only_none 0 m.n m.origins;
      only_work = only_none 0 reach.scratch m.work;
    }

-- the points at the front of their room, as a list of their own
abbrev pub points_in : Lists → List Float
points_in m = take (3 * m.p) m.points

module _ {k : ℕ} {m : Lists} (a : Stands k m) where
  -- they are 3p numbers
  pub as_long : length (points_in m) ≡ 3 * m.p
  as_long = length-take-le (3 * m.p) m.points (omega (arith, a.room))

  -- so there are p of them
  pub as_many : length (points_in m) / 3 ≡ m.p
  as_many = omega (arith, as_long)

  -- a pass may read them, and take fewer entries
  pub reads : (j : ℕ) → j ≤ k → PassAsks j (points_in m) m.faces m.n m.work
  reads j h = record { whole = omega (arith, as_long); stand = rw as_many (fewer_taken h a.stand) }

  -- faces that a pass has marked may leave
  pub may : {marked : ℕ → Bool} {j at : ℕ} {w' : List ℕ} → j ≤ k → MarkGives marked j m.n m.work w' at → LeaveAsks m.faces m.origins w' at m.n
  may h g = may_leave a.stand.fit a.own (omega (arith, a.stand.room)) g

-- faces marked for the second half of pass 4 may leave
pub collided_leave :
    {marked : ℕ → Bool} {qs : List Float} {xs os : List ℕ} {n : ℕ} {w w' : List ℕ} {at : ℕ} → PassAsks (taken (length qs / 3) n) qs xs n w → n ≤ length os → MarkGives marked (taken (length qs / 3) n) n w w' at → LeaveAsks xs os w' at n
collided_leave p own g = may_leave p.stand.fit own p.stand.room g

-- the state of the rules once marked faces have left, with a report
abbrev pub stays : Lists → (ℕ → Bool) → List ℕ → State
stays m marked report = record { points = points_of (points_in m); faces = leave marked (carried m.faces m.origins m.n); report = report }

-- the lists once faces have left
abbrev pub left : Lists → List ℕ → List ℕ → ℕ → List ℕ → Lists
left m faces origins n work = lists m.points m.p faces origins n work

-- a pass in which marked faces leave, with the report as `after` leaves it
pub step_stays :
    {k : ℕ} {m : Lists} {xs' os' w' : List ℕ} {r : ℕ} (pass : State → State) (after : List ℕ → List ℕ) (marked : ℕ → Bool) (dropped found changed : ℕ)
    → dropped ≤ m.p + 3 * m.n → found ≤ m.p + 3 * m.n → changed ≤ m.p + 3 * m.n
    → ((report : List ℕ) → stays m marked (after report) ≡ pass (state_in m report))
    → Stands k m → Only 0 (stated m) m.work w' → LeaveGives marked m.faces m.origins m.n xs' os' r
    → PassGives (optional true pass) after (keeps m) m (left m xs' os' r w') (record { points = m.p; faces = r; dropped = dropped; found = found; changed = changed })
unfolding optional
step_stays {k} {m} {xs'} {os'} {w'} {r} pass after marked dropped found changed few_dropped few_found few_changed e a o g =
    record {
      state = λ report. ap (λ fs. record { points = points_of (points_in m); faces = fs; report = after report }) (carried_left m.faces m.origins m.n a.stand.fit a.own g) ∙ e report;
      inside = left_inside a.stand g;
      not_below = omega arith;
      not_above = omega arith;
      fewer = omega (arith, g.number);
      few_dropped = few_dropped;
      few_found = few_found;
      few_changed = few_changed;
      only_points = only_none 0 (3 * m.p) m.points;
      only_faces = g.only_faces;
      only_origins = g.only_origins;
      only_work = o;
    }

-- one in which each face that leaves is counted at c, after `first` was added to the report
pub step_left :
    {k : ℕ} {m : Lists} {xs' os' w' : List ℕ} {r : ℕ} (pass : State → State) (c : Count) (first : List ℕ → List ℕ) (marked : ℕ → Bool) (found changed : ℕ)
    → found ≤ m.p + 3 * m.n → changed ≤ m.p + 3 * m.n
    → ((report : List ℕ) → pass (state_in m report) ≡ dropped c marked (state_in m (first report)))
    → Stands k m → Only 0 (stated m) m.work w' → LeaveGives marked m.faces m.origins m.n xs' os' r
    → PassGives (optional true pass) (λ report. more c (m.n - r) (first report)) (keeps m) m (left m xs' os' r w') (record { points = m.p; faces = r; dropped = m.n - r; found = found; changed = changed })
unfolding dropped counted with_faces
step_left {k} {m} {xs'} {os'} {w'} {r} pass c first marked found changed few_found few_changed e a o g =
    let l = left_number a.stand.fit g ∙ ap (λ n. count marked (below n)) (stands_alike m.faces m.origins m.n a.stand.fit a.own).long in
    step_stays pass (λ report. more c (m.n - r) (first report)) marked (m.n - r) found changed (omega (arith, g.number)) few_found few_changed
    (λ report. ap (λ j. stays m marked (more c j (first report))) l ∙ sym (e report)) a o g

-- a pass whose faces were changed in their room before: what is said of the changed ones is said of those before
pub step_after :
    {pass : State → State} {after : List ℕ → List ℕ} {m m' : Lists} {xs₁ w₁ : List ℕ} {r : Passed} (pass₁ : State → State) (first : List ℕ → List ℕ)
    → Only 0 (3 * m.n) m.faces xs₁ → Only 0 (stated m) m.work w₁
    → ((report : List ℕ) → pass (state_in (left m xs₁ m.origins m.n w₁) (first report)) ≡ pass₁ (state_in m report))
    → PassGives pass after (keeps m) (left m xs₁ m.origins m.n w₁) m' r
    → PassGives pass₁ (λ report. after (first report)) (keeps m) m m' r
step_after pass₁ first of ow e g =
    record {
      state = λ report. g.state (first report) ∙ e report;
      inside = g.inside;
      not_below = g.not_below;
      not_above = g.not_above;
      fewer = g.fewer;
      few_dropped = g.few_dropped;
      few_found = g.few_found;
      few_changed = g.few_changed;
      only_points = g.only_points;
      only_faces = only_both of g.only_faces;
      only_origins = g.only_origins;
      only_work = only_both ow g.only_work;
    }
