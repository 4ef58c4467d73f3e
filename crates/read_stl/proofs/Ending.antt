-- The outcome of reading: a refusal that leaves every room as it was, or points and triples in their rooms. Assumes nothing.
use Rattle.std.specs.Prelude.{Ok, Err}
use mathlib.Core.Path.{◌≡◌, refl, sym, ap, ap₂, subst, ◌∙◌}
use mathlib.Core.Bool.{Bool, true, false, not, cond}
use mathlib.Core.List.{List, [], ◌∷◌}
use Prim.Native.Nat.{ℕ, ◌+◌, ◌-◌, ◌*◌, ◌^◌, ◌≤◌, ◌<◌}
use native.Mathlib.Decide.{dec_lt}
use native.Mathlib.Omega.{arith}
use borrow.Author.Tests.{eq-eqb}
use lib.Dec.{eqb}
use lib.ListN.{length, get_or, take}
use lib.Seq.{length-take-le}
use lib.Ieee.{Float, nan}
use Rattle.rows.specs.Region.{Apart.before, OnlyOf, HoldsOf, Only, Filled}
use Rattle.rows.specs.Retain.{RetainAsks, RetainGives, NumberAsks, NumberGives}
use Rattle.rows.proofs.Regions.{only_both, only_more, kept_at, holds_kept}
use Rattle.filling.proofs.Filling.{filled_in, filled_whole, cleared_is}
use Rattle.leaving.specs.Pass.{Flagged}
use Rattle.leaving.proofs.Leaving.{kept_count, left_count, points_left}
use Rattle.rules.specs.Lists.{leave}
use Rattle.rules.specs.Mesh.{Point, point, flat_points, zero64}
use Rattle.rules.specs.Refusal.{Check, ok, decided}
use Rattle.rules.specs.Refusal as refusal
use Rattle.rules.specs.Rooms.{filled, cleared, outcome, accepted}
use Rattle.rules.specs.Bytes.{u32_at}
use Rattle.rules.specs.Stl.{facets, corners_of, again, merged, number, triples, StlRooms, stl_check, read_stl}
use Rattle.rule_laws.proofs.Flat.{length_flat_points}
use Rattle.refuse.specs.declared.Refusal.{Refusal}
use Rattle.refuse.specs.Verdicts.{number_of, place_of}
use Rattle.stl_file.specs.Files.{StlAccepted, stl_list}
use Rattle.stl_file.proofs.Scanning.{corner_asks, length_corners}
use Rattle.stl_file.proofs.Accept.{stl_is, stl_accepted}
use Rattle.equal_rows.specs.Firsts.{First, EqualAsks, EqualGives}
use Rattle.read_stl.specs.Answers.{rooms_of, outcome_of}
use Rattle.read_stl.specs.Rows.{CornersIn, FileAsks, KeysGives, CornersAsks, CornersGives, FlagsAsks, FlagsGives, TriplesAsks, TriplesGives}
use Rattle.read_stl.proofs.Merging.{again_is, number_is}
use Rattle.read_stl.proofs.Meaning.{first_equal, first_own}
use Rattle.read_stl.proofs.Pointing.{points_are, triples_are}

-- a flag by the first corner, and by the rules' mark
flag_is : (b m : Bool) → m ≡ not b → ◌≡◌ {A = ℕ} (cond b 0 1) (cond m 1 0)
flag_is true m e = rw e refl
flag_is false m e = rw e refl

-- the bounds of what is reckoned, written and cleared
pub record Sizes (k p file points work : ℕ) : Type 0 where
  pub few : k ≤ 1048576
  pub kept : p ≤ 3 * k
  pub file_long : 84 ≤ file
  pub points_long : 3 * (3 * k) ≤ points
  pub work_long : 64 * k + 64 ≤ work

module _ (file : List ℕ) (ps : List Float) (xs w : List ℕ) where
  -- the corners, and the entries that stand in each room
  abbrev cs : List Point
  cs = corners_of file

  abbrev entries : List ℕ
  entries = 3 * length (merged cs) ∷ 3 * facets file ∷ []

  -- the rooms of an accepted call
  abbrev after : StlRooms
  after =
      record {
        points = filled zero64 (9 * facets file) (flat_points (merged cs)) ps;
        faces = filled 0 (3 * facets file) (triples cs) xs;
        work = cleared (64 * facets file + 64) w;
      }

  -- the rules' check is what the checks found
  found_is : {c : Check} → c ≡ decided (stl_list file (length ps) (length xs) (length w)) → c ≡ stl_check file (rooms_of ps xs w)
  found_is e = e ∙ stl_is file (rooms_of ps xs w)

  -- a refusal changes no buffer
  pub is_refused :
      (r : Refusal) → refusal.no (number_of r) (place_of r) ≡ decided (stl_list file (length ps) (length xs) (length w))
      → outcome_of (Err r) ps xs w ≡ read_stl file (rooms_of ps xs w)
  unfolding read_stl outcome
  is_refused r e = ap (λ c. outcome c (rooms_of ps xs w) entries after) (found_is e)

  module _ (e : ok ≡ decided (stl_list file (length ps) (length xs) (length w))) where
    -- what an accepted file says
    is_accepted : StlAccepted file (length ps) (length xs) (length w)
    is_accepted = stl_accepted file (length ps) (length xs) (length w) (sym e)

    -- its count can be read
    pub count_in : 84 ≤ length file
    count_in = omega (arith, is_accepted.whole.long)

    module _ (k : ℕ) (ek : k ≡ u32_at file 80) where
      -- the count, and the number of corners
      counted : facets file ≡ k
      unfolding facets
      counted = sym ek

      abbrev n : ℕ
      n = 3 * k

      many : n ≡ 3 * facets file
      many = ap (λ j. 3 * j) (sym counted)

      -- the bounds before anything is written
      pub sizes : Sizes k 0 (length file) (length ps) (length w)
      sizes =
          let a = is_accepted in
          let c = counted in
          record {
            few = omega (arith, a.whole.few);
            kept = omega arith;
            file_long = count_in;
            points_long = omega (arith, a.room_points);
            work_long = omega (arith, a.room_work);
          }

      faces_long : n ≤ length xs
      faces_long = omega (arith, is_accepted.room_faces, counted)

      -- the corners stand in the file
      corners_in : CornersIn file n
      corners_in =
          record { few = omega (arith, sizes); corner = λ c h. corner_asks is_accepted.whole (omega (arith, counted)) }

      pub keys_asks : FileAsks file n w
      keys_asks = record { corners_in = corners_in; fit = omega (arith, sizes) }

      pub corners_asks : CornersAsks file n ps
      corners_asks = record { corners_in = corners_in; fit = omega (arith, sizes) }

      module _ {w1 : List ℕ} (g : KeysGives file n w w1) where
        -- the keys are u32
        short : (i : ℕ) → i < 3 * n → get_or w1 i 0 < 2 ^ 32
        short i h = go (dec_lt i n) (dec_lt i (2 * n))
          where
            go : Dec (i < n) → Dec (i < 2 * n) → get_or w1 i 0 < 2 ^ 32
            go (yes l) m = let z : 0 + i ≡ i = omega arith in subst (λ j. get_or w1 j 0 < 2 ^ 32) z (rw (g.xs.each i l) (g.small i l).x)
            go (no l) (yes m) =
                let q : i - n < n = omega arith in
                let z : n + (i - n) ≡ i = omega arith in
                subst (λ j. get_or w1 j 0 < 2 ^ 32) z (rw (g.ys.each (i - n) q) (g.small (i - n) q).y)
            go (no l) (no m) =
                let q : i - 2 * n < n = omega arith in
                let z : 2 * n + (i - 2 * n) ≡ i = omega arith in
                subst (λ j. get_or w1 j 0 < 2 ^ 32) z (rw (g.zs.each (i - 2 * n) q) (g.small (i - 2 * n) q).z)

        pub equal_asks : EqualAsks w1 n 3 (3 * n) (46 * k + 64)
        equal_asks =
            let l = g.only.long in
            record { few = omega (arith, sizes); keys = omega arith; some = omega arith; fit = omega (arith, sizes); short = short }

        module _ {w2 : List ℕ} (q : EqualGives w1 n 3 (3 * n) (46 * k + 64) w2) where
          -- the first corner that is equal to each
          firsts : (c : ℕ) → c < n → First w1 n 3 c (get_or w2 (4 * n + c) 0)
          firsts c h = let z : 3 * n + n + c ≡ 4 * n + c = omega arith in subst (λ i. First w1 n 3 c (get_or w2 i 0)) z (q.firsts c h)

          first_in : (c : ℕ) → c < n → get_or w2 (4 * n + c) 0 < n
          first_in c h = omega (arith, (firsts c h).at_most)

          long₂ : length w2 ≡ length w
          long₂ = q.only.long ∙ g.only.long

          pub flags_asks : FlagsAsks w2 n
          flags_asks = record { few = omega (arith, sizes); fit = omega (arith, sizes, long₂); inside = first_in }

          -- the rules' mark
          again_at_is : (c : ℕ) → c < n → again cs c ≡ not (eqb (get_or w2 (4 * n + c) 0) c)
          again_at_is c h = again_is cs c (omega (arith, length_corners file, many)) (get_or w2 (4 * n + c) 0) (first_equal many is_accepted.domain g c (get_or w2 (4 * n + c) 0) h (firsts c h))

          -- the first one has none
          own_at : (c : ℕ) → c < n → again cs (get_or w2 (4 * n + c) 0) ≡ false
          own_at c h =
              let r = get_or w2 (4 * n + c) 0 in
              again_is cs r (omega (arith, first_in c h, length_corners file, many)) r (first_own many is_accepted.domain g c r h (firsts c h)) ∙ ap not (eq-eqb r r refl)

          module _ {w3 : List ℕ} (f : FlagsGives w2 n w3) where
            flagged : Flagged w3 (5 * n) n (again cs)
            flagged = record { each = λ c h. f.flags.each c h ∙ flag_is (eqb (get_or w2 (4 * n + c) 0) c) (again cs c) (again_at_is c h) }

            pub number_asks : NumberAsks w3 (5 * n) n (6 * n)
            number_asks =
                let l = f.only.long in
                record { flags_fit = omega (arith, sizes, long₂); to_fit = omega (arith, sizes, long₂); apart = before (omega arith); few = omega (arith, sizes) }

            module _ {w4 : List ℕ} (m : NumberGives w3 (5 * n) n (6 * n) w4) where
              -- the rows that stay
              first_kept : (c : ℕ) → c < n → get_or w4 (4 * n + c) 0 ≡ get_or w2 (4 * n + c) 0
              first_kept c h =
                  kept_at m.only {b = 4 * n} {m = n} (before (omega arith)) c h ∙ kept_at f.only {b = 4 * n} {m = n} (before (omega arith)) c h

              flagged₄ : Flagged w4 (5 * n) n (again cs)
              flagged₄ = holds_kept m.only (before (omega arith)) flagged

              long₄ : length w4 ≡ length w
              long₄ = m.only.long ∙ f.only.long ∙ long₂

              only_work : Only 0 (64 * k + 64) w w4
              only_work =
                  only_both (only_more (omega arith) (omega arith) g.only)
                  (only_both (only_more (omega arith) (omega arith) q.only)
                  (only_both (only_more (omega arith) (omega arith) f.only) (only_more (omega arith) (omega arith) m.only)))

              pub triples_asks : TriplesAsks w4 n xs
              triples_asks =
                  record { few = omega (arith, sizes); fit = omega (arith, sizes, long₄); room = faces_long; inside = λ c h. rw (first_kept c h) (first_in c h) }

              -- the number that a corner takes is the rules'
              number_at : {xs1 : List ℕ} → TriplesGives w4 n xs xs1 → (c : ℕ) → c < n → get_or xs1 c 0 ≡ number cs (point cs c)
              number_at {xs1} r c h =
                  let a = get_or w2 (4 * n + c) 0 in
                  let l = first_in c h in
                  let z : 0 + c ≡ c = omega arith in
                  subst (λ i. get_or xs1 i 0 ≡ number cs (point cs c)) z
                  (r.numbers.each c h
                  ∙ (ap (λ j. get_or w4 (6 * n + j) 0) (first_kept c h)
                  ∙ (m.numbers.each a l
                  ∙ (kept_count (again cs) flagged a (omega arith)
                  ∙ sym (number_is cs c a (omega (arith, length_corners file, many)) (first_equal many is_accepted.domain g c a h (firsts c h)) (own_at c h))))))

              module _ {ps1 : List Float} (s : CornersGives file n ps ps1) where
                pub retain_asks : RetainAsks ps1 w4 (5 * n) n
                retain_asks = let l = s.only.long in record { rows_fit = omega (arith, sizes); flags_fit = omega (arith, sizes, long₄) }

                module _ {ps2 : List Float} {p : ℕ} (r : RetainGives nan ps1 w4 (5 * n) n ps2 p) where
                  -- no more points than corners
                  few_points : p ≤ n
                  few_points = omega (arith, left_count (again cs) flagged₄ r)

                  long_points : length ps2 ≡ length ps
                  long_points = r.only.long ∙ s.only.long

                  -- the points in front are the rules'
                  points_front : take (3 * p) ps2 ≡ flat_points (merged cs)
                  unfolding merged
                  points_front =
                      points_left (again cs) retain_asks.rows_fit flagged₄ r
                      ∙ ap (λ l. flat_points (leave (again cs) l)) (points_are file n ps1 many retain_asks.rows_fit s.stands)

                  -- and so many
                  points_count : 3 * p ≡ 3 * length (merged cs)
                  points_count =
                      sym (length-take-le (3 * p) ps2 (omega (arith, sizes, few_points, long_points))) ∙ (ap length points_front ∙ length_flat_points (merged cs))

                  -- the bounds of what is cleared
                  pub sizes_after : Sizes k p (length file) (length ps2) (length w4)
                  sizes_after =
                      let z = sizes in
                      record { few = z.few; kept = few_points; file_long = z.file_long; points_long = omega (arith, z, long_points); work_long = omega (arith, z, long₄) }

                  -- the answers in their rooms, and the rest cleared: the rules' outcome
                  pub is_done :
                      {xs1 : List ℕ} {ps3 : List Float} {w5 : List ℕ} → TriplesGives w4 n xs xs1
                      → OnlyOf nan (3 * p) (3 * n - 3 * p) ps2 ps3 → HoldsOf nan (3 * p) (3 * n - 3 * p) (λ i. zero64) ps3
                      → Only 0 (64 * k + 64) w4 w5 → Filled 0 (64 * k + 64) 0 w5
                      → outcome_of (Ok (record { points = 3 * p; faces = n })) ps3 xs1 w5 ≡ read_stl file (rooms_of ps xs w)
                  unfolding read_stl outcome
                  is_done {xs1} {ps3} {w5} tr op hp ow hw =
                      let z = sizes_after in
                      let a : ps3 ≡ after.points =
                      filled_in (omega (arith, sizes)) (omega (arith, z)) (only_both s.only (only_more (omega arith) (omega (arith, z)) r.only)) points_front op hp
                      ∙ ap (λ j. filled zero64 j (flat_points (merged cs)) ps) (omega (arith, counted)) in
                      let b : xs1 ≡ after.faces =
                      filled_whole 0 faces_long tr.only (triples_are file n xs1 many (let l = tr.only.long in omega (arith, faces_long)) (number_at tr))
                      ∙ ap (λ j. filled 0 j (triples cs) xs) many in
                      let c : w5 ≡ after.work =
                      cleared_is (omega (arith, sizes)) (only_both only_work ow) hw ∙ ap (λ j. cleared (64 * j + 64) w) (sym counted) in
                      ap₂ (λ (l : List ℕ) (rooms : StlRooms). record { answer = accepted l; rooms = rooms })
                      (ap₂ (λ (i j : ℕ). i ∷ j ∷ []) points_count many)
                      (λ i. record { points = a i; faces = b i; work = c i })
                      ∙ ap (λ c. outcome c (rooms_of ps xs w) entries after) (found_is e)
