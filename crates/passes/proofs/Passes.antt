-- Passes 1 to 4, each by its option. Assumes nothing.
use mathlib.Core.Path.{◌≡◌, refl, sym, ap, ◌∙◌}
use mathlib.Core.Bool.{Bool, true, false}
use mathlib.Core.List.{List}
use Prim.Native.Nat.{ℕ, ◌+◌, ◌*◌, ◌-◌, ◌/◌, ◌≤◌}
use native.Mathlib.Omega.{arith}
use lib.Dec.{ltb}
use lib.ListN.{length, take}
use lib.Ieee.{Float}
use Rattle.rows.specs.Region.{Only}
use Rattle.rows.proofs.Regions.{only_more}
use Rattle.leaving.specs.Pass.{standing, carried, FacesStand, PassAsks, MarkGives, LeaveAsks, LeaveGives}
use Rattle.leaving.proofs.Standing.{fewer_taken, stands_alike, carried_origins}
use Rattle.rules.specs.Mesh.{Face, points_of, faces_of}
use Rattle.rules.specs.Lists.{below, count}
use Rattle.rules.specs.Repair.{optional}
use Rattle.rules.specs.Rooms.{work_room}
use Rattle.rules.specs.State.{more, counted, with_faces, dropped, repeateds, thins, duplicates, crowded_edges, dropped_at_edges, dropped_for_direction, reoriented, components}
use Rattle.rules.specs.Pass1.{pass1, repeated1, thin1, marked1}
use Rattle.rules.specs.Pass2.{pass2, marked2}
use Rattle.rules.specs.Pass3.{pass3, marked3, crowded}
use Rattle.rules.specs.Pass4.{pass4, marked4, oriented}
use Rattle.rules.specs.Steps.{users, edges}
use Rattle.rule_laws.proofs.Counting.{filter_le}
use Rattle.rule_laws.proofs.Why.{both_counts}
use Rattle.rule_laws.proofs.Fits.{few_edges}
use Rattle.rule_laws.proofs.Flat.{own_flat, length_points, length_faces_take}
use Rattle.rule_laws.proofs.Relabel.{Alike, repeated1_alike, thin1_alike, marked1_alike, marked2_alike, marked3_alike, marked4_alike, crowded_alike, oriented_alike}
use Rattle.rule_laws.proofs.Origins.{oriented_origins, oriented_own}
use Rattle.rule_laws.proofs.Carried.{flat_same, with_are}
use Rattle.rule_laws.proofs.Manifold.{turned_inside}
use Rattle.rule_laws.proofs.Turning.{oriented_turned}
use Rattle.splitting.proofs.Reports.{more_none}
use Rattle.orient_consistently.specs.Walked as walked
use Rattle.orient_consistently.specs.Walked.{OrientGives}
use Rattle.drop_duplicate_faces.specs.Keys as keys
use Rattle.marking.specs.Marking as marking
use Rattle.passes.specs.Passing.{Lists, state_in, stated, Stands, PassGives, keeps}
use Rattle.passes.proofs.Standing.{corners_inside, inside_corners}
use Rattle.passes.proofs.Steps.{unchanged, off, points_in, as_many, reads, may, left, stays, step_stays, step_left, step_after}

module _ {m : Lists} (a : Stands (stated m) m) where
  -- the points that a pass reads, and the faces
  abbrev qs : List Float
  qs = points_in m

  abbrev fs : List Face
  fs = standing m.faces m.n

  -- the same with their origins, at which no pass looks
  abbrev cs : List Face
  cs = carried m.faces m.origins m.n

  same : Alike fs cs
  same = stands_alike m.faces m.origins m.n a.stand.fit a.own

  -- marks within the stated work room
  in_room : {marked : ℕ → Bool} {at : ℕ} {w' : List ℕ} (j : ℕ) → j ≤ stated m → MarkGives marked j m.n m.work w' at → Only 0 (stated m) m.work w'
  in_room j h g = only_more (omega arith) (omega arith) g.only

  -- what each pass takes is there
  one_fits : m.n ≤ stated m
  unfolding work_room
  one_fits = omega arith

  two_fits : keys.taken m.p m.n ≤ stated m
  unfolding work_room
  two_fits = omega arith

  three_fits : marking.taken (length qs / 3) m.n ≤ stated m
  unfolding work_room
  three_fits = omega (arith, as_many a)

  four_fits : walked.taken m.p m.n ≤ stated m
  unfolding work_room
  four_fits = omega arith

  -- each may read the points and the faces
  pub reads1 : PassAsks m.n qs m.faces m.n m.work
  reads1 = reads a m.n one_fits

  pub reads2 : FacesStand (keys.taken m.p m.n) m.p m.faces m.n m.work
  reads2 = fewer_taken two_fits a.stand

  pub reads3 : PassAsks (marking.taken (length qs / 3) m.n) qs m.faces m.n m.work
  reads3 = reads a (marking.taken (length qs / 3) m.n) three_fits

  pub reads4 : FacesStand (walked.taken m.p m.n) m.p m.faces m.n m.work
  reads4 = fewer_taken four_fits a.stand

  module _ {marked : ℕ → Bool} {at : ℕ} {w' : List ℕ} where
    -- and what it has marked may leave
    pub leaves1 : MarkGives marked m.n m.n m.work w' at → LeaveAsks m.faces m.origins w' at m.n
    leaves1 = may a one_fits

    pub leaves2 : MarkGives marked (keys.taken m.p m.n) m.n m.work w' at → LeaveAsks m.faces m.origins w' at m.n
    leaves2 = may a two_fits

    pub leaves3 : MarkGives marked (marking.taken (length qs / 3) m.n) m.n m.work w' at → LeaveAsks m.faces m.origins w' at m.n
    leaves3 = may a three_fits

  -- pass 1 that is off
  pub off1 : (s : Float) → PassGives (optional false (pass1 s)) (λ report. more thins 0 (more repeateds 0 report)) (keeps m) m m (unchanged m)
  off1 s =
      off (pass1 s) (λ report. more thins 0 (more repeateds 0 report)) (keeps m)
      (λ report. more_none thins (more repeateds 0 report) ∙ more_none repeateds report) (omega arith) (omega arith) a.stand.inside

  -- those that left in pass 1 are the repeated and the thin ones
  pub parted :
      (s : Float) {xs' os' : List ℕ} {r k : ℕ} → LeaveGives (marked1 s (points_of qs) fs) m.faces m.origins m.n xs' os' r → k ≡ count (repeated1 s (points_of qs) fs) (below m.n)
      → k + count (thin1 s (points_of qs) fs) (below m.n) ≡ m.n - r
  parted s g e = omega (arith, e, g.number, both_counts s (points_of qs) fs (below m.n))

  -- so no more are repeated than left
  pub fewer_repeated :
      (s : Float) {xs' os' : List ℕ} {r k : ℕ} → LeaveGives (marked1 s (points_of qs) fs) m.faces m.origins m.n xs' os' r → k ≡ count (repeated1 s (points_of qs) fs) (below m.n) → k ≤ m.n - r
  fewer_repeated s g e = omega (arith, parted s g e)

  -- pass 1 that is on: degenerate faces leave, counted apart
  pub on1 :
      (s : Float) {xs' os' w' : List ℕ} {r at k : ℕ} → MarkGives (marked1 s (points_of qs) fs) m.n m.n m.work w' at → LeaveGives (marked1 s (points_of qs) fs) m.faces m.origins m.n xs' os' r
      → k ≡ count (repeated1 s (points_of qs) fs) (below m.n)
      → PassGives (optional true (pass1 s)) (λ report. more thins (m.n - r - k) (more repeateds k report)) (keeps m) m (left m xs' os' r w') (record { points = m.p; faces = r; dropped = m.n - r - k; found = k; changed = 0 })
  unfolding pass1 counted with_faces
  on1 s {r = r} {k = k} h g e =
      let l : length fs ≡ m.n = length_faces_take m.faces m.n a.stand.fit in
      let q : k ≡ count (repeated1 s (points_of qs) cs) (below (length cs)) = rw l e ∙ (λ j. count (λ i. repeated1_alike fs cs same s (points_of qs) i j) (below (same.long j))) in
      let t : m.n - r - k ≡ count (thin1 s (points_of qs) cs) (below (length cs)) =
      rw l (omega (arith, parted s g e)) ∙ (λ j. count (λ i. thin1_alike fs cs same s (points_of qs) i j) (below (same.long j))) in
      step_stays (pass1 s) (λ report. more thins (m.n - r - k) (more repeateds k report)) (marked1 s (points_of qs) fs) (m.n - r - k) k 0
      (omega (arith, g.number)) (omega (arith, fewer_repeated s g e, g.number)) (omega arith)
      (λ report j. stays m (λ i. marked1_alike fs cs same s (points_of qs) i j) (more thins (t j) (more repeateds (q j) report))) a (in_room m.n one_fits h) g

  -- pass 2 that is off
  pub off2 : PassGives (optional false pass2) (more duplicates 0) (keeps m) m m (unchanged m)
  off2 = off pass2 (more duplicates 0) (keeps m) (more_none duplicates) (omega arith) (omega arith) a.stand.inside

  -- pass 2 that is on: all but the first of faces alike leave
  pub on2 :
      {xs' os' w' : List ℕ} {r at : ℕ} → MarkGives (marked2 fs) (keys.taken m.p m.n) m.n m.work w' at → LeaveGives (marked2 fs) m.faces m.origins m.n xs' os' r
      → PassGives (optional true pass2) (more duplicates (m.n - r)) (keeps m) m (left m xs' os' r w') (record { points = m.p; faces = r; dropped = m.n - r; found = 0; changed = 0 })
  unfolding pass2
  on2 k g =
      step_left pass2 duplicates (λ report. report) (marked2 fs) 0 0 (omega arith) (omega arith)
      (λ report j. dropped duplicates (λ i. sym (marked2_alike fs cs same i) j) (state_in m report)) a (in_room (keys.taken m.p m.n) two_fits k) g

  -- pass 3 that is off
  pub off3 : PassGives (optional false pass3) (λ report. more dropped_at_edges 0 (more crowded_edges 0 report)) (keeps m) m m (unchanged m)
  off3 =
      off pass3 (λ report. more dropped_at_edges 0 (more crowded_edges 0 report)) (keeps m)
      (λ report. more_none dropped_at_edges (more crowded_edges 0 report) ∙ more_none crowded_edges report) (omega arith) (omega arith) a.stand.inside

  -- how many points are read
  points_read : length (points_of qs) ≡ length qs / 3
  points_read = length_points qs

  -- crowded edges are edges, of which each face has three
  few_crowded : {k : ℕ} → k ≡ length (crowded (length qs / 3) fs) → k ≤ m.p + 3 * m.n
  unfolding crowded
  few_crowded e =
      let l = length_faces_take m.faces m.n a.stand.fit in
      omega (arith, e, few_edges (length qs / 3) fs, filter_le (λ d. ltb 2 (length (users fs d))) (edges (length qs / 3) fs))

  -- pass 3 that is on: crowded edges are counted, and marked faces leave
  pub on3 :
      {xs' os' w' : List ℕ} {r at k : ℕ} → MarkGives (marked3 (points_of qs) fs) (marking.taken (length qs / 3) m.n) m.n m.work w' at → LeaveGives (marked3 (points_of qs) fs) m.faces m.origins m.n xs' os' r
      → k ≡ length (crowded (length qs / 3) fs)
      → PassGives (optional true pass3) (λ report. more dropped_at_edges (m.n - r) (more crowded_edges k report)) (keeps m) m (left m xs' os' r w') (record { points = m.p; faces = r; dropped = m.n - r; found = k; changed = 0 })
  unfolding pass3 counted
  on3 {k = k} h g e =
      let c : length (crowded (length (points_of qs)) cs) ≡ k = ap length (sym (crowded_alike fs cs same (length (points_of qs)))) ∙ ap (λ P. length (crowded P fs)) points_read ∙ sym e in
      step_left pass3 dropped_at_edges (more crowded_edges k) (marked3 (points_of qs) fs) k 0 (few_crowded e) (omega arith)
      (λ report j. dropped dropped_at_edges (λ i. sym (marked3_alike fs cs same (points_of qs) i) j) (state_in m (more crowded_edges (c j) report)))
      a (in_room (marking.taken (length qs / 3) m.n) three_fits h) g

  -- pass 4 that is off
  pub off4 : PassGives (optional false pass4) (λ report. more dropped_for_direction 0 (more components 0 (more reoriented 0 report))) (keeps m) m m (unchanged m)
  off4 =
      off pass4 (λ report. more dropped_for_direction 0 (more components 0 (more reoriented 0 report))) (keeps m)
      (λ report. more_none dropped_for_direction (more components 0 (more reoriented 0 report)) ∙ more_none components (more reoriented 0 report) ∙ more_none reoriented report) (omega arith) (omega arith) a.stand.inside

  module _ {xs₁ w₁ : List ℕ} {e k : ℕ} (t : OrientGives m.p m.faces m.n m.work xs₁ w₁ e k) where
    -- the lists once faces are turned
    abbrev m₁ : Lists
    m₁ = left m xs₁ m.origins m.n w₁

    -- what stands is what the first half leaves
    turned_standing : standing xs₁ m.n ≡ (oriented fs).walk.faces
    turned_standing = ap faces_of t.faces ∙ own_flat (oriented fs).walk.faces (oriented_own (take (3 * m.n) m.faces))

    -- and so it is with the origins, which an exchange keeps
    turned_carried : carried xs₁ m.origins m.n ≡ (oriented cs).walk.faces
    turned_carried =
        with_are (oriented cs).walk.faces (take (3 * m.n) xs₁) (take m.n m.origins)
        (t.faces ∙ flat_same (oriented fs).walk.faces (oriented cs).walk.faces (oriented_alike fs cs same).walk.faces)
        (sym (oriented_origins cs ∙ carried_origins m.faces m.origins m.n a.stand.fit a.own))

    -- it stands as a pass asks
    turned_asks : Stands (stated m₁) m₁
    turned_asks =
        let f = a.stand in
        let l = t.only_faces.long in
        let j = t.only_work.long in
        record {
          stand = record {
            points = f.points;
            few = f.few;
            fit = omega (arith, f.fit);
            inside =
                inside_corners xs₁ m.n (omega (arith, f.fit)) m.p
                (rw turned_standing (turned_inside m.p fs (oriented fs).walk.faces (oriented_turned fs) (corners_inside m.faces m.n f.fit m.p f.inside)));
            room = omega (arith, f.room);
          };
          own = a.own;
          room = a.room;
        }

    -- the second half may read the points
    pub turned_reads : PassAsks (marking.taken (length qs / 3) m.n) qs xs₁ m.n w₁
    turned_reads = reads turned_asks (marking.taken (length qs / 3) m.n) three_fits

    -- pass 4 that is on: the faces that the first half leaves, less those that collide
    pub on4 :
        {xs' os' w' : List ℕ} {r : ℕ} → Only 0 (marking.taken (length qs / 3) m.n) w₁ w' → LeaveGives (marked4 (points_of qs) (standing xs₁ m.n)) xs₁ m.origins m.n xs' os' r
        → PassGives (optional true pass4) (λ report. more dropped_for_direction (m.n - r) (more components k (more reoriented e report))) (keeps m) m (left m xs' os' r w') (record { points = m.p; faces = r; dropped = m.n - r; found = k; changed = e })
    unfolding optional pass4 counted with_faces
    on4 {r = r} o g =
        step_after (optional true pass4) (λ report. more components k (more reoriented e report)) t.only_faces (only_more {n = walked.taken m.p m.n} (omega arith) (omega (arith, four_fits)) t.only_work)
        (λ report.
        (λ j. dropped dropped_for_direction (λ i. marked4_alike (standing xs₁ m.n) (carried xs₁ m.origins m.n) alike₁ (points_of qs) i j) (state_in m₁ (more components k (more reoriented e report))))
        ∙ (λ j. dropped dropped_for_direction (marked4 (points_of qs) (turned_carried j)) (record { points = points_of qs; faces = turned_carried j; report = more components (marks j) (more reoriented (exchanges j) report) })))
        (step_left {m = m₁} (dropped dropped_for_direction (marked4 (points_of qs) (standing xs₁ m.n))) dropped_for_direction (λ report. report) (marked4 (points_of qs) (standing xs₁ m.n)) k e (omega (arith, t.few_marks)) (omega (arith, t.few_exchanges)) (λ report. refl) turned_asks (only_more {n = marking.taken (length qs / 3) m.n} (omega arith) (omega (arith, three_fits)) o) g)
      where
        -- the turned faces with and without their origins
        alike₁ : Alike (standing xs₁ m.n) (carried xs₁ m.origins m.n)
        alike₁ = stands_alike xs₁ m.origins m.n (omega (arith, t.only_faces.long, a.stand.fit)) a.own

        marks : k ≡ (oriented cs).marks
        marks = t.marks ∙ (oriented_alike fs cs same).marks

        exchanges : e ≡ (oriented cs).walk.exchanges
        exchanges = t.exchanges ∙ (oriented_alike fs cs same).walk.exchanges
