-- What holds between two passes: the state that the passes so far make of the given one, and counts that stay small. Assumes nothing.
use mathlib.Core.Path.{◌≡◌, refl, sym, ap, subst, ◌∙◌}
use mathlib.Core.List.{List}
use Prim.Native.Nat.{ℕ, ◌+◌, ◌*◌, ◌-◌, ◌^◌, ◌≤◌, ◌<◌}
use native.Mathlib.Omega.{arith}
use lib.ListN.{get_or, replicate}
use lib.Ieee.{Float, nan}
use Rattle.rows.specs.Region.{OnlyOf, Only}
use Rattle.rows.proofs.Regions.{only_none, only_both, only_more}
use Rattle.rules.specs.Repair.{optional, bit, passes}
use Rattle.rules.specs.Rooms.{work_room}
use Rattle.rules.specs.State.{State, report_counts, place, more, repeateds, thins, duplicates, crowded_edges, dropped_at_edges, dropped_for_direction, vertices_split, points_added, reoriented, components, isolated}
use Rattle.rules.specs.Pass1 as one
use Rattle.rules.specs.Pass2 as two
use Rattle.rules.specs.Pass3 as three
use Rattle.rules.specs.Pass4 as four
use Rattle.rules.specs.Pass5 as five
use Rattle.rules.specs.Pass6 as six
use Rattle.passes.specs.declared.Passed.{Passed}
use Rattle.passes.specs.Passing.{Lists, lists, state_in, stated, Stands, StandsLast, Reach, PassGives, Pass1, Pass2, Pass3, Pass4, Pass5, Pass6}
use Rattle.lending.specs.declared.Report.{Report}
use Rattle.lending.specs.Reports.{empty, added, counts_of, CountsBelow}
use Rattle.lending.specs.Mended.{TurnsGive}
use Rattle.lending.proofs.Raised.{counts_below, grows, none_yet}

-- what passes 1 to 5 ask: the lists stand, and each count has room for what is added
abbrev pub Ready : Report → Lists → Type 0
Ready h m = Stands (stated m) m × CountsBelow (2 ^ 64 - (m.p + 3 * m.n)) h

-- The lists m₀ were given. Now m stand, as `pass` leaves them, and each count is below N.
pub record Going (pass : State → State) (N : ℕ) (m₀ : Lists) (h : Report) (m : Lists) : Type 0 where
  pub state : state_in m (counts_of h) ≡ pass (state_in m₀ (replicate report_counts 0))
  pub few : CountsBelow N h
  pub inside : (i : ℕ) → i < 3 * m.n → get_or m.faces i 0 < m.p
  pub points_fit : m.p ≤ m₀.p + 3 * m₀.n
  pub faces_fit : m.n ≤ m₀.n
  pub only_points : OnlyOf nan 0 (3 * (m₀.p + 3 * m₀.n)) m₀.points m.points
  pub only_faces : Only 0 (3 * m₀.n) m₀.faces m.faces
  pub only_origins : Only 0 m₀.n m₀.origins m.origins
  pub only_work : Only 0 (stated m₀) m₀.work m.work

-- one pass more
turn :
    {pass pass₁ : State → State} {after : List ℕ → List ℕ} {reach : Reach} {N N' : ℕ} {m₀ : Lists} {h h' : Report} {m m' : Lists} {r : Passed}
    → Going pass N m₀ h m → PassGives pass₁ after reach m m' r
    → counts_of h' ≡ after (counts_of h) → CountsBelow N' h' → reach.most ≤ m₀.p + 3 * m₀.n → reach.scratch ≤ stated m₀
    → Going (λ z. pass₁ (pass z)) N' m₀ h' m'
turn {pass₁ = pass₁} {h = h} {m' = m'} v g e few l k =
    record {
      state = ap (state_in m') e ∙ g.state (counts_of h) ∙ ap pass₁ v.state;
      few = few;
      inside = g.inside;
      points_fit = omega (arith, g.not_above);
      faces_fit = omega (arith, g.fewer, v.faces_fit);
      only_points = only_both v.only_points (only_more (omega arith) (omega arith) g.only_points);
      only_faces = only_both v.only_faces (only_more (omega arith) (omega (arith, v.faces_fit)) g.only_faces);
      only_origins = only_both v.only_origins (only_more (omega arith) (omega (arith, v.faces_fit)) g.only_origins);
      only_work = only_both v.only_work (only_more (omega arith) (omega arith) g.only_work);
    }

module _ {m₀ : Lists} (a : Stands (stated m₀) m₀) where
  -- a pass adds at most so many to a count
  abbrev K : ℕ
  K = m₀.p + 6 * m₀.n

  module _ {pass : State → State} {N : ℕ} {h : Report} {m : Lists} (v : Going pass N m₀ h m) where
    -- what a pass adds is not more
    most_added : m.p + 3 * m.n ≤ K
    most_added = omega (arith, v.points_fit, v.faces_fit)

    -- every sum fits
    sums_fit : N ≤ 1 + report_counts * K → CountsBelow (2 ^ 64 - (m.p + 3 * m.n)) h
    sums_fit l = counts_below (omega (arith, most_added, a.stand.points, a.stand.few)) v.few

    -- what stands is as passes 1 to 5 ask
    stands : m.p ≡ m₀.p → N ≤ 1 + report_counts * K → Ready h m
    unfolding work_room
    stands e l =
        let f = a.stand in
        let lp = v.only_points.long in
        let lf = v.only_faces.long in
        let lo = v.only_origins.long in
        let lw = v.only_work.long in
        let k = v.faces_fit in (
          record {
            stand = record { points = omega (arith, f.points); few = omega (arith, f.few); fit = omega (arith, f.fit); inside = v.inside; room = omega (arith, f.room) };
            own = omega (arith, a.own);
            room = omega (arith, a.room);
          },
          sums_fit l,
        )

    -- and as pass 6 asks
    stands_last : N ≤ 1 + report_counts * K → StandsLast m × CountsBelow (2 ^ 64 - (m.p + 3 * m.n)) h
    unfolding work_room
    stands_last l =
        let f = a.stand in
        let lp = v.only_points.long in
        let lf = v.only_faces.long in
        let lo = v.only_origins.long in
        let lw = v.only_work.long in
        let k = v.faces_fit in
        let q = v.points_fit in (
          record {
            stand = record {
              points_fit = omega (arith, a.room);
              fit = omega (arith, f.fit);
              inside = v.inside;
              room = omega (arith, f.room);
              few = omega (arith, f.points, f.few);
            };
            own = omega (arith, a.own);
          },
          sums_fit l,
        )

  module _ (s : Float) (o : ℕ) where
    -- the passes so far
    abbrev pub after1 : State → State
    after1 z = optional (bit 0 o) (one.pass1 s) z

    abbrev pub after2 : State → State
    after2 z = optional (bit 1 o) two.pass2 (after1 z)

    abbrev pub after3 : State → State
    after3 z = optional (bit 2 o) three.pass3 (after2 z)

    abbrev pub after4 : State → State
    after4 z = optional (bit 4 o) four.pass4 (after3 z)

    abbrev pub after5 : State → State
    after5 z = optional (bit 3 o) five.pass5 (after4 z)

    abbrev pub after6 : State → State
    after6 z = optional (bit 5 o) six.pass6 (after5 z)

    -- what a pass has left in the rooms
    abbrev pub leftBy : Passed → List Float → List ℕ → List ℕ → List ℕ → Lists
    leftBy x ps xs os w = lists ps x.points xs os x.faces w

    -- before pass 1 the report is new
    abbrev pub At1 : Report → List Float → List ℕ → List ℕ → List ℕ → Type 0
    At1 h ps xs os w = Going (λ z. z) 1 m₀ h (lists ps m₀.p xs os m₀.n w)

    pub begins : (h : Report) → h ≡ empty → At1 h m₀.points m₀.faces m₀.origins m₀.work
    begins h e =
        record {
          state = ap (λ r. state_in m₀ (counts_of r)) e;
          few = subst (CountsBelow 1) (sym e) none_yet;
          inside = a.stand.inside;
          points_fit = omega arith;
          faces_fit = omega arith;
          only_points = only_none 0 (3 * (m₀.p + 3 * m₀.n)) m₀.points;
          only_faces = only_none 0 (3 * m₀.n) m₀.faces;
          only_origins = only_none 0 m₀.n m₀.origins;
          only_work = only_none 0 (stated m₀) m₀.work;
        }

    -- before each later one what the last one left stands, and until pass 5 as many points as were given
    abbrev pub At2 : Passed → Report → List Float → List ℕ → List ℕ → List ℕ → Type 0
    At2 x h ps xs os w = (x.points ≡ m₀.p) × Going after1 (1 + K + K) m₀ h (leftBy x ps xs os w)

    abbrev pub At3 : Passed → Report → List Float → List ℕ → List ℕ → List ℕ → Type 0
    At3 x h ps xs os w = (x.points ≡ m₀.p) × Going after2 (1 + K + K + K) m₀ h (leftBy x ps xs os w)

    abbrev pub At4 : Passed → Report → List Float → List ℕ → List ℕ → List ℕ → Type 0
    At4 x h ps xs os w = (x.points ≡ m₀.p) × Going after3 (1 + K + K + K + K + K) m₀ h (leftBy x ps xs os w)

    abbrev pub At5 : Passed → Report → List Float → List ℕ → List ℕ → List ℕ → Type 0
    At5 x h ps xs os w = (x.points ≡ m₀.p) × Going after4 (1 + K + K + K + K + K + K + K + K) m₀ h (leftBy x ps xs os w)

    abbrev pub At6 : Passed → Report → List Float → List ℕ → List ℕ → List ℕ → Type 0
    At6 x h ps xs os w = Going after5 (1 + K + K + K + K + K + K + K + K + K + K) m₀ h (leftBy x ps xs os w)

    abbrev pub At7 : Passed → Report → List Float → List ℕ → List ℕ → List ℕ → Type 0
    At7 x h ps xs os w = Going after6 (1 + K + K + K + K + K + K + K + K + K + K + K) m₀ h (leftBy x ps xs os w)

    module _ {h : Report} {ps : List Float} {xs os w : List ℕ} where
      -- each pass may start
      pub ready1 : At1 h ps xs os w → Ready h (lists ps m₀.p xs os m₀.n w)
      ready1 v = stands v refl (omega arith)

      pub ready2 : (x : Passed) → At2 x h ps xs os w → Ready h (leftBy x ps xs os w)
      ready2 x v = stands v.1 v.0 (omega arith)

      pub ready3 : (x : Passed) → At3 x h ps xs os w → Ready h (leftBy x ps xs os w)
      ready3 x v = stands v.1 v.0 (omega arith)

      pub ready4 : (x : Passed) → At4 x h ps xs os w → Ready h (leftBy x ps xs os w)
      ready4 x v = stands v.1 v.0 (omega arith)

      pub ready5 : (x : Passed) → At5 x h ps xs os w → Ready h (leftBy x ps xs os w)
      ready5 x v = stands v.1 v.0 (omega arith)

      pub ready6 : (x : Passed) → At6 x h ps xs os w → StandsLast (leftBy x ps xs os w) × CountsBelow (2 ^ 64 - (x.points + 3 * x.faces)) h
      ready6 x v = stands_last v (omega arith)

      module _ {h' : Report} {ps' : List Float} {xs' os' w' : List ℕ} {r : Passed} where
        -- and leaves what the next one starts from

        pub next1 : At1 h ps xs os w → Pass1 o s (lists ps m₀.p xs os m₀.n w) (leftBy r ps' xs' os' w') r × (h' ≡ added thins r.dropped (added repeateds r.found h)) → At2 r h' ps' xs' os' w'
        unfolding more place work_room
        next1 v e =
            let g = e.0 in
            let k = most_added v in
            (omega (arith, g.not_below, g.not_above), turn v g (ap counts_of e.1) (subst (CountsBelow (1 + K + K)) (sym e.1) (grows thins (omega (arith, g.few_dropped)) (grows repeateds (omega (arith, g.few_found)) v.few))) (omega (arith)) (omega (arith)))

        pub next2 : (x : Passed) → At2 x h ps xs os w → Pass2 o s (leftBy x ps xs os w) (leftBy r ps' xs' os' w') r × (h' ≡ added duplicates r.dropped h) → At3 r h' ps' xs' os' w'
        unfolding more place work_room
        next2 x v e =
            let g = e.0 in
            let k = most_added v.1 in
            (omega (arith, g.not_below, g.not_above, v.0), turn v.1 g (ap counts_of e.1) (subst (CountsBelow (1 + K + K + K)) (sym e.1) (grows duplicates (omega (arith, g.few_dropped)) v.1.few)) (omega (arith, v.0, v.1.faces_fit)) (omega (arith, v.0, v.1.faces_fit)))

        pub next3 : (x : Passed) → At3 x h ps xs os w → Pass3 o s (leftBy x ps xs os w) (leftBy r ps' xs' os' w') r × (h' ≡ added dropped_at_edges r.dropped (added crowded_edges r.found h)) → At4 r h' ps' xs' os' w'
        unfolding more place work_room
        next3 x v e =
            let g = e.0 in
            let k = most_added v.1 in
            (omega (arith, g.not_below, g.not_above, v.0), turn v.1 g (ap counts_of e.1) (subst (CountsBelow (1 + K + K + K + K + K)) (sym e.1) (grows dropped_at_edges (omega (arith, g.few_dropped)) (grows crowded_edges (omega (arith, g.few_found)) v.1.few))) (omega (arith, v.0, v.1.faces_fit)) (omega (arith, v.0, v.1.faces_fit)))

        pub next4 : (x : Passed) → At4 x h ps xs os w → Pass4 o s (leftBy x ps xs os w) (leftBy r ps' xs' os' w') r × (h' ≡ added dropped_for_direction r.dropped (added components r.found (added reoriented r.changed h))) → At5 r h' ps' xs' os' w'
        unfolding more place work_room
        next4 x v e =
            let g = e.0 in
            let k = most_added v.1 in
            (omega (arith, g.not_below, g.not_above, v.0), turn v.1 g (ap counts_of e.1) (subst (CountsBelow (1 + K + K + K + K + K + K + K + K)) (sym e.1) (grows dropped_for_direction (omega (arith, g.few_dropped)) (grows components (omega (arith, g.few_found)) (grows reoriented (omega (arith, g.few_changed)) v.1.few)))) (omega (arith, v.0, v.1.faces_fit)) (omega (arith, v.0, v.1.faces_fit)))

        pub next5 : (x : Passed) → At5 x h ps xs os w → Pass5 o s (leftBy x ps xs os w) (leftBy r ps' xs' os' w') r × (h' ≡ added points_added r.changed (added vertices_split r.found h)) → At6 r h' ps' xs' os' w'
        unfolding more place work_room
        next5 x v e =
            let g = e.0 in
            let k = most_added v.1 in
            turn v.1 g (ap counts_of e.1) (subst (CountsBelow (1 + K + K + K + K + K + K + K + K + K + K)) (sym e.1) (grows points_added (omega (arith, g.few_changed)) (grows vertices_split (omega (arith, g.few_found)) v.1.few))) (omega (arith, v.0, v.1.faces_fit)) (omega (arith, v.0, v.1.faces_fit))

        pub next6 : (x : Passed) → At6 x h ps xs os w → Pass6 o s (leftBy x ps xs os w) (leftBy r ps' xs' os' w') r × (h' ≡ added isolated r.dropped h) → At7 r h' ps' xs' os' w'
        unfolding more place work_room
        next6 x v e =
            let g = e.0 in
            let k = most_added v in
            turn v g (ap counts_of e.1) (subst (CountsBelow (1 + K + K + K + K + K + K + K + K + K + K + K)) (sym e.1) (grows isolated (omega (arith, g.few_dropped)) v.few)) (omega (arith, v.points_fit)) (omega (arith, v.points_fit))

      -- after the last one the rules' passes are done
      pub ends : (x : Passed) → At7 x h ps xs os w → TurnsGive s o m₀ (leftBy x ps xs os w) (record { points = x.points; faces = x.faces; report = h })
      unfolding passes
      ends x v =
          record {
            state = v.state;
            few = counts_below (omega (arith, a.stand.points, a.stand.few)) v.few;
            points_fit = v.points_fit;
            faces_fit = v.faces_fit;
            only_points = v.only_points;
            only_faces = v.only_faces;
            only_origins = v.only_origins;
            only_work = v.only_work;
          }
