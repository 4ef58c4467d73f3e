-- All four passes: the rooms are filled, and the passes follow each other. What an earlier pass told, a later one leaves told. Assumes nothing.
use mathlib.Core.Path.{◌≡◌, refl, sym, ap, ◌∙◌}
use mathlib.Core.Bool.{Bool, true, false}
use mathlib.Core.List.{List, ◌++◌}
use Prim.Native.Nat.{ℕ, ◌+◌, ◌*◌, ◌/◌, ◌%◌, ◌<◌}
use native.Mathlib.Nat.{zero-add}
use native.Mathlib.Omega.{arith}
use borrow.Author.Tests.{ne_eqb}
use lib.Dec.{eqb}
use lib.ListN.{length, get_or, take, length-map}
use lib.Seq.{get_or-take, length-take-le, take-length, ext_get_or}
use lib.Ieee.{Float}
use Rattle.rows.specs.Region.{Only, Holds, Filled, Only2, RowGives}
use Rattle.rows.proofs.Regions.{only_both, only_more, only2_both, only2_right}
use Rattle.mending_rows.specs.Told.{code, drop_told, drops_told, first_told, exchanges_told}
use Rattle.rules.specs.Lists.{below, each}
use Rattle.rules.specs.Mesh.{face, points_of, faces_of}
use Rattle.rules.specs.Repair.{bit, optional}
use Rattle.rules.specs.State.{State, start, counted, with_faces, dropped}
use Rattle.rules.specs.Pass1.{pass1, marked1}
use Rattle.rules.specs.Pass2.{pass2, marked2}
use Rattle.rules.specs.Pass3.{pass3, marked3}
use Rattle.rules.specs.Mending.{Reason, for_repeated, for_thin, for_duplicate, for_edge, for_direction, Line}
use Rattle.rule_laws.proofs.Carried.{with_are}
use Rattle.rule_laws.proofs.Flat.{face_at, length_faces, flat_faces_back, numbered}
use Rattle.rule_laws.proofs.Lists.{get_or_map_in, length_below}
use Rattle.rule_laws.proofs.Origins.{origins}
use Rattle.rule_laws.proofs.Rising.{all_from, all_imp, all_leave, below_all, get_or_below, below_up}
use Rattle.fates.specs.Fating.{Rooms, rooms, Stands, Has, Became, Became.same, Became.fresh, Pass1, Pass2, Pass3, Pass4, Owned, FourAsks, FourGives, after1, after2, after3}
use Rattle.fates.proofs.ByOrigin.{each_agree}
use Rattle.fates.proofs.Dropping.{code_small}

-- ---- what a later pass leaves told

-- a reason with a lower code
reason_kept : (why : Reason) (c a b : ℕ) → code why < c → Became c a b → eqb (b % 8) (code why) ≡ eqb (a % 8) (code why)
reason_kept why c a b h (same e) = ap (λ (x : ℕ). eqb (x % 8) (code why)) e
reason_kept why c a b h (fresh z none) =
    ne_eqb (b % 8) (code why) (λ e. none (code why) (code_small why).0 h e)
    ∙ sym (ne_eqb (a % 8) (code why) (λ e. absurd (omega (arith, e, z, (code_small why).0))))

-- so its line
line_kept : (fate fate' : ℕ → ℕ) (why : Reason) (c f : ℕ) → code why < c → Became c (fate f) (fate' f) → drop_told fate why f ≡ drop_told fate' why f
unfolding drop_told
line_kept fate fate' why c f h b = rw (reason_kept why c (fate f) (fate' f) h b) refl

-- so all lines for it
lines_kept : (fate fate' : ℕ → ℕ) (why : Reason) (c F : ℕ) → code why < c → ((f : ℕ) → f < F → Became c (fate f) (fate' f)) → drops_told fate why F ≡ drops_told fate' why F
unfolding drops_told
lines_kept fate fate' why c F h b = each_agree (drop_told fate why) (drop_told fate' why) F (λ f l. line_kept fate fate' why c f h (b f l))

-- so those of pass 1
first_kept : (fate fate' : ℕ → ℕ) (c F : ℕ) → 2 < c → ((f : ℕ) → f < F → Became c (fate f) (fate' f)) → first_told fate F ≡ first_told fate' F
unfolding first_told code
first_kept fate fate' c F h b =
    each_agree (λ f. drop_told fate for_repeated f ++ drop_told fate for_thin f) (λ f. drop_told fate' for_repeated f ++ drop_told fate' for_thin f) F
    (λ f l k. line_kept fate fate' for_repeated c f (omega arith) (b f l) k ++ line_kept fate fate' for_thin c f (omega arith) (b f l) k)

-- ---- corner 1 of each face is that of its input face, until pass 4

module _ (input : List ℕ) where
  -- at first
  owned0 : (ps : List Float) → length input % 3 ≡ 0 → Owned input (start (points_of ps) (faces_of input))
  unfolding start face
  owned0 ps h =
      all_from (λ f. f.b ≡ get_or input (3 * f.origin + 1) 0) (record { a = 0; b = 0; c = 0; origin = 0 }) (faces_of input)
      (λ i l. rw (face_at input i (omega (arith, length_faces input))) refl)

  -- after pass 1
  owned1 : (b : Bool) (s : Float) (m : State) → Owned input m → Owned input (optional b (pass1 s) m)
  unfolding optional pass1 counted with_faces
  owned1 true s m h = all_leave (λ f. f.b ≡ get_or input (3 * f.origin + 1) 0) (marked1 s m.points m.faces) m.faces h
  owned1 false s m h = h

  -- after pass 2
  owned2 : (b : Bool) (m : State) → Owned input m → Owned input (optional b pass2 m)
  unfolding optional pass2 dropped counted with_faces
  owned2 true m h = all_leave (λ f. f.b ≡ get_or input (3 * f.origin + 1) 0) (marked2 m.faces) m.faces h
  owned2 false m h = h

  -- after pass 3
  owned3 : (b : Bool) (m : State) → Owned input m → Owned input (optional b pass3 m)
  unfolding optional pass3 dropped counted with_faces
  owned3 true m h = all_leave (λ f. f.b ≡ get_or input (3 * f.origin + 1) 0) (marked3 m.points m.faces) m.faces h
  owned3 false m h = h

-- ---- the rooms are filled

module _ {ps : List Float} {fs xs os w : List ℕ} {fates : ℕ} (p : FourAsks ps fs xs os w fates) where
  -- a face for each origin
  whole_faces : length fs % 3 ≡ 0
  whole_faces = omega (arith, p.input)

  module _ {xs₀ os₀ w₀ : List ℕ} (cf : RowGives 0 fs (length fs) xs xs₀) (co : Only 0 (length os) os os₀) (cn : Holds 0 (length os) (λ i. i) os₀) (cw : Only fates (length os) w w₀) (cz : Filled fates (length os) 0 w₀) where
    -- these rooms
    abbrev r₀ : Rooms
    r₀ = rooms ps xs₀ os₀ (length os) w₀ fates

    -- there are as many origins
    origins_long : length (take (length os) os₀) ≡ length os
    origins_long = length-take-le (length os) os₀ (omega (arith, co.long))

    -- which are the places
    places : take (length os) os₀ ≡ below (length os)
    places =
        ext_get_or 0 (take (length os) os₀) (below (length os)) (origins_long ∙ sym (length_below (length os)))
        (λ i h. let l : i < length os = omega (arith, origins_long) in get_or-take (length os) os₀ i 0 l ∙ (rw zero-add at (cn.each i l)) ∙ sym (get_or_below (length os) i l))

    -- the faces are the input's
    same_faces : take (3 * length os) xs₀ ≡ fs
    same_faces = rw p.input at cf.copied ∙ ap (λ (k : ℕ). take k fs) (sym p.input) ∙ take-length fs

    -- each its own origin
    own_places : take (length os) os₀ ≡ origins (faces_of fs)
    unfolding face
    own_places =
        let l : length (faces_of fs) ≡ length os = length_faces fs ∙ omega (arith, p.input) in
        ext_get_or 0 (take (length os) os₀) (origins (faces_of fs)) (origins_long ∙ sym (length-map (faces_of fs) (λ f. f.origin) ∙ l))
        (λ i h.
        let b : i < length os = omega (arith, origins_long) in
        let at : i < length (faces_of fs) = omega (arith, l) in
        get_or-take (length os) os₀ i 0 b ∙ (rw zero-add at (cn.each i b))
        ∙ sym (get_or_map_in (λ f. f.origin) (faces_of fs) i (record { a = 0; b = 0; c = 0; origin = 0 }) 0 at ∙ numbered fs i at))

    -- the rooms hold the start of the rules
    holds_start : Has (start (points_of ps) (faces_of fs)) r₀
    unfolding start
    holds_start = record { points = refl; faces = sym (with_are (faces_of fs) (take (3 * length os) xs₀) (take (length os) os₀) (same_faces ∙ sym (flat_faces_back fs whole_faces)) own_places) }

    -- and stand as pass 1 asks
    pub four_start : Stands 0 r₀
    four_start =
        let lf = cf.only.long in
        let lo = co.long in
        let lw = cw.long in
        record {
          whole = p.whole;
          points = p.points;
          few = omega (arith, p.few);
          own = omega arith;
          fit = omega (arith, p.fit, p.input);
          inside =
              λ i h.
              let e : get_or xs₀ i 0 ≡ get_or fs i 0 = sym (get_or-take (3 * length os) xs₀ i 0 h) ∙ ap (λ (l : List ℕ). get_or l i 0) same_faces in
              rw e (p.inside i (omega (arith, p.input)));
          up = rw places (below_up (length os));
          low = rw places (all_imp (λ o. o < length os) (λ o. o < length os₀) (λ o h. omega arith) (below (length os)) (below_all (length os)));
          behind = omega (arith, p.behind);
          room = omega (arith, p.room);
          untold = rw places (all_imp (λ o. o < length os) (λ o. get_or w₀ (fates + o) 0 ≡ 0) (λ o h. cz.each o h) (below (length os)) (below_all (length os)));
          least = λ f h. omega (arith, cz.each f (omega arith));
        }

    -- ---- the passes

    module _ (options : ℕ) (s : Float) {xs₁ os₁ w₁ : List ℕ} {n₁ : ℕ} (p1 : Pass1 options s r₀ (rooms ps xs₁ os₁ n₁ w₁ fates))
        {xs₂ os₂ w₂ : List ℕ} {n₂ : ℕ} (p2 : Pass2 options (rooms ps xs₁ os₁ n₁ w₁ fates) (rooms ps xs₂ os₂ n₂ w₂ fates))
        {xs₃ os₃ w₃ : List ℕ} {n₃ : ℕ} (p3 : Pass3 options (rooms ps xs₂ os₂ n₂ w₂ fates) (rooms ps xs₃ os₃ n₃ w₃ fates)) where
      -- as many origins as before
      long1 : length os₁ ≡ length os
      long1 = p1.changed.only_origins.long ∙ co.long

      long2 : length os₂ ≡ length os
      long2 = p2.changed.only_origins.long ∙ long1

      pub long3 : length os₃ ≡ length os
      long3 = p3.changed.only_origins.long ∙ long2

      -- pass 4 may read the input
      pub input_fits : length fs ≡ 3 * length os₃
      input_fits = omega (arith, p.input, long3)

      -- the states of the rules
      abbrev m0 : State
      m0 = start (points_of ps) (faces_of fs)

      has1 : Has (after1 options s m0) (rooms ps xs₁ os₁ n₁ w₁ fates)
      has1 = p1.has m0 holds_start

      has2 : Has (after2 options s m0) (rooms ps xs₂ os₂ n₂ w₂ fates)
      has2 = p2.has (after1 options s m0) has1

      has3 : Has (after3 options s m0) (rooms ps xs₃ os₃ n₃ w₃ fates)
      has3 = p3.has (after2 options s m0) has2

      -- before pass 4
      owned : Owned fs (after3 options s m0)
      owned = owned3 fs (bit 2 options) (after2 options s m0) (owned2 fs (bit 1 options) (after1 options s m0) (owned1 fs (bit 0 options) s m0 (owned0 fs ps whole_faces)))

      module _ {xs₄ os₄ w₄ : List ℕ} {n₄ : ℕ} (p4 : Pass4 options fs (rooms ps xs₃ os₃ n₃ w₃ fates) (rooms ps xs₄ os₄ n₄ w₄ fates)) where
        -- how fates became others, below the same number
        later2 : (f : ℕ) → f < length os → Became 3 (get_or w₁ (fates + f) 0) (get_or w₂ (fates + f) 0)
        later2 f l = p2.became f (omega (arith, long1))

        later3 : (f : ℕ) → f < length os → Became 4 (get_or w₂ (fates + f) 0) (get_or w₃ (fates + f) 0)
        later3 f l = p3.became f (omega (arith, long2))

        later4 : (f : ℕ) → f < length os → Became 5 (get_or w₃ (fates + f) 0) (get_or w₄ (fates + f) 0)
        later4 f l = p4.became f (omega (arith, long3))

        -- faces and origins at the front, and the work room
        faces_only : Only 0 (length fs) xs xs₄
        faces_only =
            only_both (only_both (only_both (only_both cf.only (only_more (omega arith) (omega (arith, p.input)) p1.changed.only_faces))
            (only_more (omega arith) (omega (arith, p.input, p1.stands.own, long1)) p2.changed.only_faces))
            (only_more (omega arith) (omega (arith, p.input, p2.stands.own, long2)) p3.changed.only_faces))
            (only_more (omega arith) (omega (arith, p.input, p3.stands.own, long3)) p4.changed.only_faces)

        origins_only : Only 0 (length os) os os₄
        origins_only =
            only_both (only_both (only_both (only_both co p1.changed.only_origins)
            (only_more (omega arith) (omega (arith, p1.stands.own, long1)) p2.changed.only_origins))
            (only_more (omega arith) (omega (arith, p2.stands.own, long2)) p3.changed.only_origins))
            (only_more (omega arith) (omega (arith, p3.stands.own, long3)) p4.changed.only_origins)

        work_only : Only2 0 (29 * length os + 4 + length ps / 3) fates (length os) w w₄
        work_only =
            only2_both (only2_both (only2_both (only2_both (only2_right cw) (rw co.long at p1.changed.only_work)) (rw long1 at p2.changed.only_work)) (rw long2 at p3.changed.only_work))
            (rw long3 at p4.changed.only_work)

        -- all that is asked
        pub four_done : FourGives options s ps fs xs os w fates xs₄ os₄ w₄ n₄
        four_done =
            record {
              left = p4.left;
              has = p4.has (after3 options s m0) has3;
              first =
                  p1.tells m0 holds_start ∙ ap (first_told (λ f. get_or w₁ (fates + f) 0)) co.long
                  ∙ first_kept (λ f. get_or w₁ (fates + f) 0) (λ f. get_or w₂ (fates + f) 0) 3 (length os) (omega arith) later2
                  ∙ first_kept (λ f. get_or w₂ (fates + f) 0) (λ f. get_or w₃ (fates + f) 0) 4 (length os) (omega arith) later3
                  ∙ first_kept (λ f. get_or w₃ (fates + f) 0) (λ f. get_or w₄ (fates + f) 0) 5 (length os) (omega arith) later4;
              second =
                  p2.tells (after1 options s m0) has1 ∙ ap (drops_told (λ f. get_or w₂ (fates + f) 0) for_duplicate) long1
                  ∙ lines_kept (λ f. get_or w₂ (fates + f) 0) (λ f. get_or w₃ (fates + f) 0) for_duplicate 4 (length os) (unfold code in (omega arith)) later3
                  ∙ lines_kept (λ f. get_or w₃ (fates + f) 0) (λ f. get_or w₄ (fates + f) 0) for_duplicate 5 (length os) (unfold code in (omega arith)) later4;
              third =
                  p3.tells (after2 options s m0) has2 ∙ ap (drops_told (λ f. get_or w₃ (fates + f) 0) for_edge) long2
                  ∙ lines_kept (λ f. get_or w₃ (fates + f) 0) (λ f. get_or w₄ (fates + f) 0) for_edge 5 (length os) (unfold code in (omega arith)) later4;
              fourth = p4.tells (after3 options s m0) has3 owned ∙ ap told_fourth long3;
              only_faces = faces_only;
              only_origins = origins_only;
              only_work = work_only;
            }
          where
            -- the lines of pass 4 for so many faces
            told_fourth : ℕ → List Line
            told_fourth F = exchanges_told (λ f. get_or w₄ (fates + f) 0) F ++ drops_told (λ f. get_or w₄ (fates + f) 0) for_direction F
