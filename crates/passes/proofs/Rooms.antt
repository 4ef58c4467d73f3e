-- Passes 5 and 6, each by its option, on the points and faces in their rooms. Assumes nothing.
use mathlib.Core.Path.{◌≡◌, refl, sym, ap, subst, ◌∙◌}
use mathlib.Core.Bool.{true, false}
use mathlib.Core.List.{List, []}
use Prim.Native.Nat.{ℕ, ◌*◌, ◌-◌, ◌≤◌, ◌<◌}
use native.Mathlib.Omega.{arith}
use lib.ListN.{length, get_or, take}
use lib.Ieee.{Float}
use Rattle.leaving.proofs.Leaving.{length_points_take}
use Rattle.leaving.specs.Pass.{standing, state_of}
use Rattle.rows.proofs.Regions.{only_none, only_more}
use Rattle.leaving.proofs.Standing.{fewer_taken, stands_alike, carried_origins}
use Rattle.rules.specs.Mesh.{points_of, flat_faces}
use Rattle.rules.specs.Repair.{optional}
use Rattle.rules.specs.Rooms.{work_room}
use Rattle.rules.specs.State.{State, more, vertices_split, points_added, isolated}
use Rattle.rules.specs.Pass5.{pass5}
use Rattle.rules.specs.Pass6.{pass6}
use Rattle.rule_laws.proofs.Flat.{points_flat}
use Rattle.rule_laws.proofs.Relabel.{SameState, pass5_alike}
use Rattle.rule_laws.proofs.Origins.{pass5_origins, pass6_origins}
use Rattle.rule_laws.proofs.Carried.{flat_same, with_are, pass6_alike}
use Rattle.rule_laws.proofs.Once.{Inside}
use Rattle.rule_laws.proofs.Output.{pass6_inside}
use Rattle.passes.specs.Passing.{Lists, lists, state_in, stated, Stands, StandsLast, PassGives, adds, drops}
use Rattle.split_bowtie_vertices.specs.declared.Split.{Split}
use Rattle.split_bowtie_vertices.specs.Splits.{taken, SplitAsks, SplitGives}
use Rattle.drop_isolated_vertices.specs.Unused.{UnusedGives}
use Rattle.drop_isolated_vertices.proofs.Resulting.{unused_state}
use Rattle.splitting.proofs.Reports.{more_none}
use Rattle.passes.proofs.Standing.{corners_inside, inside_corners}
use Rattle.passes.proofs.Steps.{unchanged, off}

-- corners inside, from a state that is what a pass makes
inside_by :
    (ps : List Float) (p : ℕ) (xs : List ℕ) (n : ℕ) (report : List ℕ) (m : State) → 3 * p ≤ length ps → 3 * n ≤ length xs → state_of ps p xs n report ≡ m
    → Inside (length m.points) m.faces → (i : ℕ) → i < 3 * n → get_or xs i 0 < p
inside_by ps p xs n report m hp hn e inside =
    inside_corners xs n hn p
    (subst (λ k. Inside k (standing xs n)) (length_points_take ps p hp) (subst (λ t. Inside (length t.points) t.faces) (sym e) inside))

-- the state without the origins, and with them
abbrev bare_in : Lists → List ℕ → State
bare_in m report = state_of m.points m.p m.faces m.n report

-- they differ in origins alone
same_in : (m : Lists) → 3 * m.n ≤ length m.faces → m.n ≤ length m.origins → (report : List ℕ) → SameState (bare_in m report) (state_in m report)
same_in m fit own report = record { points = refl; faces = stands_alike m.faces m.origins m.n fit own; report = refl }

module _ {m : Lists} (a : Stands (stated m) m) where
  -- what pass 5 takes is there
  five_fits : taken m.p m.n ≤ stated m
  unfolding work_room
  five_fits = omega arith

  -- so it may split
  pub splits : SplitAsks m.points m.p m.faces m.n m.work
  splits = record { stand = fewer_taken five_fits a.stand; room = a.room }

  -- pass 5 that is off
  pub off5 : PassGives (optional false pass5) (λ report. more points_added 0 (more vertices_split 0 report)) (adds m) m m (unchanged m)
  off5 =
      off pass5 (λ report. more points_added 0 (more vertices_split 0 report)) (adds m)
      (λ report. more_none points_added (more vertices_split 0 report) ∙ more_none vertices_split report) (omega arith) (omega arith) a.stand.inside

  -- pass 5 that is on: what stands is what the rule makes
  pub on5 :
      {ps' : List Float} {xs' w' : List ℕ} {r : Split} → SplitGives m.p m.points m.faces m.n m.work ps' xs' w' r
      → PassGives (optional true pass5) (λ report. more points_added (r.points - m.p) (more vertices_split r.splits report)) (adds m) m (lists ps' r.points xs' m.origins m.n w') (record { points = r.points; faces = m.n; dropped = 0; found = r.splits; changed = r.points - m.p })
  unfolding optional
  on5 {r = r} g =
      record {
        state =
            λ report.
            let b = pass5 (bare_in m report) in
            let n = pass5 (state_in m report) in
            let s = pass5_alike (bare_in m report) (state_in m report) (same_in m a.stand.fit a.own report) in
            let q = ap points_of (g.points report) ∙ points_flat b.points ∙ s.points in
            let o = carried_origins m.faces m.origins m.n a.stand.fit a.own in
            let f = with_are n.faces _ _ (g.faces report ∙ flat_same b.faces n.faces s.faces) (sym (pass5_origins (state_in m report) ∙ o)) in
            let e = sym (g.report report) ∙ s.report in
            λ i. record { points = q i; faces = f i; report = e i };
        inside = g.inside;
        not_below = g.least;
        not_above = g.most;
        fewer = omega arith;
        few_dropped = omega arith;
        few_found = omega (arith, g.few);
        few_changed = omega (arith, g.most);
        only_points = g.only_points;
        only_faces = g.only_faces;
        only_origins = only_none 0 m.n m.origins;
        only_work = only_more {n = taken m.p m.n} (omega arith) (omega (arith, five_fits)) g.only_work;
      }

module _ (m : Lists) (a : StandsLast m) where
  -- the corners are points that stand
  used_inside : (report : List ℕ) → Inside (length (bare_in m report).points) (standing m.faces m.n)
  used_inside report = rw (length_points_take m.points m.p a.stand.points_fit) (corners_inside m.faces m.n a.stand.fit m.p a.stand.inside)

  -- pass 6 that is off
  pub off6 : PassGives (optional false pass6) (more isolated 0) (drops m) m m (unchanged m)
  off6 = off pass6 (more isolated 0) (drops m) (more_none isolated) (omega arith) (omega arith) a.stand.inside

  module _ {ps' : List Float} {xs' w' : List ℕ} {r : ℕ} (g : UnusedGives m.points m.p m.faces m.n m.work ps' xs' w' r) where
    -- the corners are those that the rule leaves
    renumbered : (report : List ℕ) → take (3 * m.n) xs' ≡ flat_faces (pass6 (bare_in m report)).faces
    unfolding pass6
    renumbered report = g.faces

    -- pass 6 that is on: what stands is what the rule leaves
    pub on6 : PassGives (optional true pass6) (more isolated (m.p - r)) (drops m) m (lists ps' r xs' m.origins m.n w') (record { points = r; faces = m.n; dropped = m.p - r; found = 0; changed = 0 })
    unfolding optional
    on6 =
        let lp = g.only_points.long in
        let lf = g.only_faces.long in
        record {
          state =
              λ report.
              let b = pass6 (bare_in m report) in
              let n = pass6 (state_in m report) in
              let u = unused_state report a.stand g in
              let s = pass6_alike (bare_in m report) (state_in m report) (same_in m a.stand.fit a.own report) in
              let o = carried_origins m.faces m.origins m.n a.stand.fit a.own in
              let f = with_are n.faces _ _ (renumbered report ∙ flat_same b.faces n.faces s.faces) (sym (pass6_origins (state_in m report) ∙ o)) in
              λ i. record { points = (ap (λ t. t.points) u ∙ s.points) i; faces = f i; report = (ap (λ t. t.report) u ∙ s.report) i };
          inside =
              inside_by ps' r xs' m.n _ (pass6 (bare_in m [])) (omega (arith, g.number, a.stand.points_fit)) (omega (arith, a.stand.fit)) (unused_state [] a.stand g) (pass6_inside (bare_in m []) (used_inside []));
          not_below = omega arith;
          not_above = omega (arith, g.number);
          fewer = omega arith;
          few_dropped = omega arith;
          few_found = omega arith;
          few_changed = omega arith;
          only_points = g.only_points;
          only_faces = g.only_faces;
          only_origins = only_none 0 m.n m.origins;
          only_work = g.only_work;
        }
