-- Pass 4 by its option: faces are turned, which is told, and then marked faces are told and leave. Assumes nothing.
use mathlib.Core.Path.{◌≡◌, refl, sym, ap, ◌∙◌, subst}
use mathlib.Core.Bool.{Bool, true, false, not, cond}
use mathlib.Core.List.{List, [], ◌∷◌, ◌++◌}
use Prim.Native.Nat.{ℕ, ◌+◌, ◌*◌, ◌%◌, ◌≤◌, ◌<◌}
use native.Mathlib.Omega.{arith}
use native.Mathlib.Decide.{ℕ_discrete}
use borrow.Author.Tests.{eq-eqb, ne_eqb, le-leb, lt-leb}
use lib.Dec.{eqb, leb}
use lib.ListN.{length, get_or, take}
use lib.Seq.{get_or-take, length-take-le}
use Rattle.rows.specs.Region.{Out.above}
use Rattle.rows.proofs.Regions.{only_none, only_both, only_more, only2_none, only2_both, only2_left, only2_right}
use Rattle.leaving.specs.Pass.{standing, carried, PassAsks, Flagged, MarkGives, LeaveAsks, LeaveGives}
use Rattle.leaving.proofs.Standing.{standing_face, carried_origins}
use Rattle.mending_rows.specs.Told.{code, drop_told, drops_told, exchanges_told}
use Rattle.rules.specs.Lists.{below, each, leave}
use Rattle.rules.specs.Mesh.{Face, face, points_of, flat_faces, corners}
use Rattle.rules.specs.Repair.{bit, optional}
use Rattle.rules.specs.State.{State, counted, with_faces, dropped}
use Rattle.rules.specs.Pass4.{pass4, oriented, marked4}
use Rattle.rules.specs.Mending.{for_direction, Line, dropped_face, exchange, drops, turned, lines4}
use Rattle.rule_laws.proofs.Carried.{flat_same, with_are}
use Rattle.rule_laws.proofs.Flat.{length_faces_take}
use Rattle.rule_laws.proofs.Manifold.{turned_inside}
use Rattle.rule_laws.proofs.Once.{Inside, CornersBelow}
use Rattle.rule_laws.proofs.Origins.{oriented_origins}
use Rattle.rule_laws.proofs.Relabel.{marked4_alike, oriented_alike}
use Rattle.rule_laws.proofs.Rising.{All, all_at, all_from, all_imp, all_each}
use Rattle.rule_laws.proofs.Turning.{oriented_turned}
use Rattle.orient_consistently.specs.Walked.{OrientGives}
use Rattle.marking.specs.Marking as marking
use Rattle.fates.specs.Adding.{AddGives, FlagAsks, by_flag, by_turn}
use Rattle.fates.specs.Fating.{Rooms, rooms, points_in, faces_in, fate_in, Stands, Has, Became, Became.same, Owned, Known, Pass4}
use Rattle.fates.proofs.Sums.{Summed, summed, summed_both, turn_small}
use Rattle.fates.proofs.ByOrigin.{each_none, Met, Met.met, Met.passed}
use Rattle.fates.proofs.Standing.{origin_low, asks, fate_kept, scratched, alike, carried_many, carried_origin, carried_b}
use Rattle.fates.proofs.Stepping.{lines_by, drops_by, met_so, told_at, told_off, least_so, became_so, left_up, left_low, left_own, left_fit, corners_left, left_has}
use Rattle.fates.proofs.Dropping.{quiet, none_told, amount_is, flags_stand}
use Rattle.fates.proofs.Options.{takes3, takes4}

-- ---- lines and fates

-- the line of an exchange
abbrev exchange_told : (ℕ → ℕ) → ℕ → List Line
exchange_told fate f = cond (leb 8 (fate f)) (exchange f ∷ []) []

-- small fates tell none
exchange_quiet : (fate : ℕ → ℕ) (f : ℕ) → fate f < 8 → exchange_told fate f ≡ []
exchange_quiet fate f h = rw (lt-leb 8 (fate f) h) refl

-- corner 1 was x and is y
exchange_loud : (fate : ℕ → ℕ) (f x y d : ℕ) → fate f ≡ cond (eqb y x) 0 8 + d → d ≤ 5 → cond (not (eqb x y)) (exchange f ∷ []) [] ≡ exchange_told fate f
exchange_loud fate f x y d e h = go (ℕ_discrete x y)
  where
    go : Dec (x ≡ y) → cond (not (eqb x y)) (exchange f ∷ []) [] ≡ exchange_told fate f
    go (yes q) = rw (eq-eqb x y q, lt-leb 8 (fate f) (omega (arith, e, ap {B = ℕ} (λ (b : Bool). cond b 0 8) (eq-eqb y x (sym q))))) refl
    go (no q) = rw (ne_eqb x y q, le-leb 8 (fate f) (omega (arith, e, ap {B = ℕ} (λ (b : Bool). cond b 0 8) (ne_eqb y x (λ p. q (sym p)))))) refl

-- a face that leaves, exchanged or not
direction_loud : (fate : ℕ → ℕ) (f : ℕ) (t b : Bool) → fate f ≡ cond t 0 8 + cond b 5 0 → cond b (dropped_face f for_direction ∷ []) [] ≡ drop_told fate for_direction f
unfolding drop_told code
direction_loud fate f true true e = rw (eq-eqb (fate f % 8) 5 (omega (arith, e))) refl
direction_loud fate f false true e = rw (eq-eqb (fate f % 8) 5 (omega (arith, e))) refl
direction_loud fate f true false e = rw (ne_eqb (fate f % 8) 5 (λ d. absurd (omega (arith, d, e)))) refl
direction_loud fate f false false e = rw (ne_eqb (fate f % 8) 5 (λ d. absurd (omega (arith, d, e)))) refl

-- such a fate is known
known_so : (v : ℕ) (t b : Bool) → v ≡ cond t 0 8 + cond b 5 0 → Known v
known_so v true true e = record { most = omega (arith, e); code = omega (arith, e) }
known_so v false true e = record { most = omega (arith, e); code = omega (arith, e) }
known_so v true false e = record { most = omega (arith, e); code = omega (arith, e) }
known_so v false false e = record { most = omega (arith, e); code = omega (arith, e) }

-- and is for no earlier reason
apart_so : (v : ℕ) (t b : Bool) → v ≡ cond t 0 8 + cond b 5 0 → (c : ℕ) → 0 < c → c < 5 → v % 8 ≡ c → ⊥
apart_so v true true e c z y q = absurd (omega (arith, e, q))
apart_so v false true e c z y q = absurd (omega (arith, e, q))
apart_so v true false e c z y q = absurd (omega (arith, e, q))
apart_so v false false e c z y q = absurd (omega (arith, e, q))

-- a code is at most 5
five_most : (b : Bool) → cond b 5 0 ≤ 5
five_most true = omega arith
five_most false = omega arith

-- ---- pass 4 that is off

module _ {r : Rooms} (a : Stands 4 r) (options : ℕ) (input : List ℕ) where
  -- nothing is changed or told
  pub off4 : bit 4 options ≡ false → Pass4 options input r r
  unfolding optional
  off4 b =
      record {
        left = record { own = a.own; fit = a.fit; inside = a.inside; up = a.up; low = a.low; known = λ f l. record { most = omega (arith, a.least f l); code = omega (arith, a.least f l) } };
        changed = record { only_faces = only_none 0 _ _; only_origins = only_none 0 _ _; only_work = only2_none 0 _ _ _ _ };
        became = λ f l. same refl;
        has = λ m q. rw b q;
        tells = λ m q o. rw b (sym none);
      }
    where
      none : exchanges_told (fate_in r) (faces_in r) ++ drops_told (fate_in r) for_direction (faces_in r) ≡ []
      none =
          let first : exchanges_told (fate_in r) (faces_in r) ≡ [] =
          unfold exchanges_told in (each_none (exchange_told (fate_in r)) (faces_in r) (λ f l. exchange_quiet (fate_in r) f (omega (arith, a.least f l)))) in
          λ k. first k ++ none_told (fate_in r) for_direction (faces_in r) (λ f l. unfold code in (omega (arith, a.least f l))) k

-- ---- pass 4 that is on

module _ {r : Rooms} (a : Stands 4 r) {xs₁ w₁ : List ℕ} {e k₀ : ℕ} (t : OrientGives (points_in r) r.faces r.n r.work xs₁ w₁ e k₀) where
  -- the faces before, without and with their origins, and how they are turned
  abbrev fs : List Face
  fs = standing r.faces r.n

  abbrev cs : List Face
  cs = carried r.faces r.origins r.n

  abbrev gs : List Face
  gs = (oriented fs).walk.faces

  -- turned faces with their origins
  turned_carried : carried xs₁ r.origins r.n ≡ (oriented cs).walk.faces
  turned_carried =
      with_are (oriented cs).walk.faces (take (3 * r.n) xs₁) (take r.n r.origins)
      (t.faces ∙ flat_same gs (oriented cs).walk.faces (oriented_alike fs cs (alike a)).walk.faces)
      (sym (oriented_origins cs ∙ carried_origins r.faces r.origins r.n a.fit a.own))

  -- corners are points before
  before_inside : Inside (points_in r) fs
  unfolding face
  before_inside =
      all_from (CornersBelow (points_in r)) (record { a = 0; b = 0; c = 0; origin = 0 }) fs
      (λ i l.
      let h : i < r.n = omega (arith, length_faces_take r.faces r.n a.fit) in
      rw (standing_face r.faces r.n a.fit i h) (a.inside (3 * i) (omega arith), a.inside (3 * i + 1) (omega arith), a.inside (3 * i + 2) (omega arith)))

  -- and after
  flat_inside : All (λ v. v < points_in r) (flat_faces gs)
  unfolding flat_faces
  flat_inside =
      all_each (λ v. v < points_in r) corners gs
      (all_imp (CornersBelow (points_in r)) (λ f. All (λ v. v < points_in r) (corners f)) (λ f c. (c.0, (c.1, (c.2, tt)))) gs (turned_inside (points_in r) fs gs (oriented_turned fs) before_inside))

  -- entry by entry
  entries_inside : (i : ℕ) → i < 3 * r.n → get_or xs₁ i 0 < points_in r
  entries_inside i h =
      let l = length-take-le (3 * r.n) xs₁ (omega (arith, a.fit, t.only_faces.long)) in
      rw (get_or-take (3 * r.n) xs₁ i 0 h) at (rw (← t.faces) at (all_at (λ v. v < points_in r) (flat_faces gs) 0 i flat_inside (omega (arith, ap length t.faces))))

  -- so all stands as a pass asks
  pub turned_stands : Stands 4 (rooms r.points xs₁ r.origins r.n w₁ r.fates)
  turned_stands =
      let s = scratched a (takes4 a) t.only_work in
      record {
        whole = a.whole;
        points = a.points;
        few = a.few;
        own = a.own;
        fit = omega (arith, a.fit, t.only_faces.long);
        inside = entries_inside;
        up = a.up;
        low = a.low;
        behind = a.behind;
        room = s.room;
        untold = s.untold;
        least = s.least;
      }

  -- exchanges are told
  module _ (input : List ℕ) {w₂ : List ℕ} (g : AddGives (by_turn input xs₁ r.origins) r.origins r.n w₁ r.fates w₂) where
    -- the second half may read the points
    pub second_reads : PassAsks (marking.taken (points_in r) r.n) r.points xs₁ r.n w₂
    second_reads =
        let p = asks turned_stands (marking.taken (points_in r) r.n) (takes3 turned_stands) in
        record {
          whole = p.whole;
          stand = record { points = p.stand.points; few = p.stand.few; fit = p.stand.fit; inside = p.stand.inside; room = omega (arith, p.stand.room, g.only.long) };
        }

    -- faces are marked
    module _ {marks : ℕ} {w₃ : List ℕ} (mg : MarkGives (marked4 (points_of r.points) (standing xs₁ r.n)) (marking.taken (points_in r) r.n) r.n w₂ w₃ marks) where
      -- which of them
      abbrev marked : ℕ → Bool
      marked = marked4 (points_of r.points) (standing xs₁ r.n)

      -- what they take lies before the fates
      before_fates : marking.taken (points_in r) r.n ≤ r.fates
      before_fates = omega (arith, takes3 turned_stands, turned_stands.behind)

      -- they may be told
      pub second_asks : FlagAsks r.origins marks r.n w₃ r.fates
      second_asks =
          record {
            add = record {
              few = a.few;
              own = a.own;
              low = origin_low a;
              room = omega (arith, turned_stands.room, g.only.long, mg.only.long);
              small = λ f l. omega (arith, mg.only.same (r.fates + f) (above (omega (arith, before_fates))), least_so turned_stands (summed g) 8 (omega arith) (λ i q. turn_small input xs₁ r.origins i) f l);
            };
            flags = omega (arith, mg.within, before_fates);
          }

      module _ {w₄ : List ℕ} (d : AddGives (by_flag w₃ marks 5) r.origins r.n w₃ r.fates w₄) where
        -- and may leave
        pub second_leave : LeaveAsks xs₁ r.origins w₄ marks r.n
        second_leave =
            record {
              faces_fit = turned_stands.fit;
              origins_fit = a.own;
              flags_fit = omega (arith, mg.within, before_fates, turned_stands.room, g.only.long, mg.only.long, d.only.long);
            }

        -- those that left are the marked ones
        pub second_left : {xs os : List ℕ} {k : ℕ} → ((by : ℕ → Bool) → Flagged w₄ marks r.n by → LeaveGives by xs₁ r.origins r.n xs os k) → LeaveGives marked xs₁ r.origins r.n xs os k
        second_left leaves = leaves marked (flags_stand marked (omega (arith, mg.within, before_fates)) d mg.flags)

        -- both walks together
        pub both : Summed (λ i. by_turn input xs₁ r.origins i + by_flag w₃ marks 5 i) r.origins r.n w₁ r.fates w₄
        both = summed_both (summed g) before_fates mg.only (summed d)

        -- what a face that stands is told
        abbrev same-b : ℕ → Bool
        same-b i = eqb (get_or xs₁ (3 * i + 1) 0) (get_or input (3 * get_or r.origins i 0 + 1) 0)

        amounts : (i : ℕ) → i < r.n → by_turn input xs₁ r.origins i + by_flag w₃ marks 5 i ≡ cond (same-b i) 0 8 + cond (marked i) 5 0
        amounts i h = ap (λ (x : ℕ). by_turn input xs₁ r.origins i + x) (amount_is marked 5 mg.flags i h)

        -- the fates at the end
        abbrev fate : ℕ → ℕ
        fate f = get_or w₄ (r.fates + f) 0

        fate_at : (i : ℕ) → i < r.n → fate (get_or r.origins i 0) ≡ cond (same-b i) 0 8 + cond (marked i) 5 0
        fate_at i h = told_at turned_stands both i h ∙ amounts i h

        fate_off : (f : ℕ) → f < faces_in r → ((i : ℕ) → i < r.n → get_or r.origins i 0 ≡ f → ⊥) → fate f < 5
        fate_off f h none = omega (arith, told_off turned_stands both f h none, turned_stands.least f h)

        -- all are known
        known : (f : ℕ) → f < faces_in r → Known (fate f)
        known f h = go (met_so turned_stands both f h)
          where
            go : Met (λ i. by_turn input xs₁ r.origins i + by_flag w₃ marks 5 i) r.origins r.n f (get_or w₁ (r.fates + f) 0) (fate f) → Known (fate f)
            go (met i l q z b) = known_so (fate f) (same-b i) (marked i) (b ∙ amounts i l)
            go (passed q b) = record { most = omega (arith, b, turned_stands.least f h); code = omega (arith, b, turned_stands.least f h) }

        -- ---- a state of the rules

        module _ {m : State} (q : Has m r) where
          -- its faces once they are turned
          turned_are : (oriented m.faces).walk.faces ≡ carried xs₁ r.origins r.n
          turned_are = ap (λ (l : List Face). (oriented l).walk.faces) q.faces ∙ sym turned_carried

          -- no pass looks at origins
          marks_are : marked4 m.points (oriented m.faces).walk.faces ≡ marked
          marks_are =
              (λ j. marked4 (q.points j) (turned_are j))
              ∙ sym (λ j i. marked4_alike (standing xs₁ r.n) (carried xs₁ r.origins r.n) (alike turned_stands) (points_of r.points) i j)

          -- what the rooms hold
          pub holds4 : {xs os : List ℕ} {k : ℕ} → LeaveGives marked xs₁ r.origins r.n xs os k → Has (pass4 m) (rooms r.points xs os k w₄ r.fates)
          unfolding pass4 dropped counted with_faces
          holds4 l =
              left_has turned_stands l q.points (marked4 m.points (oriented m.faces).walk.faces)
              (ap (leave (marked4 m.points (oriented m.faces).walk.faces)) turned_are) marks_are

          -- corner 1 of a face was that of its input face
          was_b : Owned input m → (i : ℕ) → i < r.n → (face m.faces i).b ≡ get_or input (3 * get_or r.origins i 0 + 1) 0
          unfolding face
          was_b own i h =
              all_at (λ f. f.b ≡ get_or input (3 * f.origin + 1) 0) m.faces (record { a = 0; b = 0; c = 0; origin = 0 }) i own (omega (arith, ap length q.faces, carried_many a))
              ∙ ap (λ (o : ℕ). get_or input (3 * o + 1) 0) (ap (λ (l : List Face). (face l i).origin) q.faces ∙ carried_origin a i h)

          -- the exchanges
          exchanges_are : Owned input m
              → each (λ i. cond (turned m.faces (oriented m.faces).walk.faces i) (exchange (face (oriented m.faces).walk.faces i).origin ∷ []) []) (below (length (oriented m.faces).walk.faces))
              ≡ exchanges_told fate (faces_in r)
          unfolding exchanges_told
          exchanges_are own =
              (λ j. each (λ i. cond (turned m.faces (turned_are j) i) (exchange (face (turned_are j) i).origin ∷ []) []) (below (length (turned_are j))))
              ∙ ap (λ (k : ℕ). each (λ i. cond (turned m.faces (carried xs₁ r.origins r.n) i) (exchange (face (carried xs₁ r.origins r.n) i).origin ∷ []) []) (below k)) (carried_many turned_stands)
              ∙ lines_by turned_stands _ (exchange_told fate)
              (λ i h. unfold turned in
              ((λ j. cond (not (eqb (was_b own i h j) (carried_b turned_stands i h j))) (exchange (carried_origin turned_stands i h j) ∷ []) [])
              ∙ exchange_loud fate (get_or r.origins i 0) (get_or input (3 * get_or r.origins i 0 + 1) 0) (get_or xs₁ (3 * i + 1) 0) (cond (marked i) 5 0) (fate_at i h) (five_most (marked i))))
              (λ f h none. exchange_quiet fate f (omega (arith, fate_off f h none)))

          -- the faces that leave
          directions_are : drops (marked4 m.points (oriented m.faces).walk.faces) (λ i. for_direction) (oriented m.faces).walk.faces ≡ drops_told fate for_direction (faces_in r)
          unfolding drops_told
          directions_are =
              (λ j. drops (marks_are j) (λ i. for_direction) (turned_are j))
              ∙ drops_by turned_stands marked (λ i. for_direction) (drop_told fate for_direction)
              (λ i h. direction_loud fate (get_or r.origins i 0) (same-b i) (marked i) (fate_at i h))
              (λ f h none. quiet fate for_direction f (unfold code in (omega (arith, fate_off f h none))))

          -- all lines
          pub tells4 : Owned input m → lines4 m ≡ exchanges_told fate (faces_in r) ++ drops_told fate for_direction (faces_in r)
          unfolding lines4
          tells4 own = λ j. exchanges_are own j ++ directions_are j

        -- pass 4 that is on
        pub on4 : {xs os : List ℕ} {k : ℕ} (options : ℕ) → bit 4 options ≡ true → LeaveGives marked xs₁ r.origins r.n xs os k → Pass4 options input r (rooms r.points xs os k w₄ r.fates)
        unfolding optional
        on4 options b l =
            let long = l.only_origins.long in
            record {
              left = record {
                own = left_own turned_stands l;
                fit = left_fit turned_stands l;
                inside = corners_left turned_stands l;
                up = left_up turned_stands l;
                low = left_low turned_stands l;
                known = λ f h. known f (omega (arith, long));
              };
              changed = record {
                only_faces = only_both t.only_faces l.only_faces;
                only_origins = l.only_origins;
                only_work =
                    only2_both (only2_both (only2_both (only2_left (only_more (omega arith) (omega (arith, takes4 a)) t.only_work)) (only2_right g.only)) (only2_left (only_more (omega arith) (omega (arith, takes3 a)) mg.only)))
                    (only2_right d.only);
              };
              became =
                  λ f h. subst (λ (x : ℕ). Became 5 x (fate f)) (fate_kept a (takes4 a) t.only_work f)
                  (became_so turned_stands both 5 (λ i p c z y s. apart_so (by_turn input xs₁ r.origins i + by_flag w₃ marks 5 i) (same-b i) (marked i) (amounts i p) c z y s) f h);
              has = λ m q. rw b (holds4 q l);
              tells = λ m q own. rw b (tells4 q own);
            }
