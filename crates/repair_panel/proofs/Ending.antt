-- The outcome of the repair of many meshes: a refusal that leaves every room as it was, or the packed answers in their rooms. Assumes nothing.
use mathlib.Core.Path.{◌≡◌, refl, sym, ap, ap₂, ◌∙◌}
use mathlib.Core.List.{List, [], ◌∷◌}
use Prim.Native.Nat.{ℕ, ◌+◌, ◌-◌, ◌*◌, ◌/◌, ◌^◌, ◌≤◌, ◌<◌}
use native.Mathlib.Omega.{arith}
use lib.Ieee.{Float, nan}
use lib.ListN.{length}
use Rattle.rows.specs.Region.{OnlyOf, HoldsOf, Only, Filled}
use Rattle.rows.proofs.Regions.{only_both}
use Rattle.filling.proofs.Filling.{filled_in, filled_whole, cleared_is}
use Rattle.rules.specs.Lists.{each}
use Rattle.rules.specs.Mesh.{zero64}
use Rattle.rules.specs.State.{report_counts}
use Rattle.rules.specs.Refusal.{Check, ok, no, decided}
use Rattle.rules.specs.Rooms.{filled, cleared, Outcome, outcome, accepted}
use Rattle.rules.specs.RepairCall.{RepairRooms}
use Rattle.rules.specs.PanelCall.{total, largest, own_calls, its_points, its_faces, its_counts, its_origins, four, PanelRooms, repair_panel}
use Rattle.std.specs.Prelude.{Ok, Err}
use Rattle.refuse.specs.Verdicts.{number_of, place_of}
use Rattle.refuse.specs.declared.Refusal.{Refusal}
use Rattle.panel_refusal.specs.Checks.{panel_list, PanelAccepted}
use Rattle.panel_refusal.proofs.Accept.{panel_is, panel_accepted}
use Rattle.panel_laws.proofs.Packing.{own_calls_share}
use Rattle.mend_mesh.specs.declared.At.{At}
use Rattle.repair_panel.specs.Answers.{rooms_of, outcome_of}
use Rattle.repair_panel.specs.Packs.{AllGives}

-- the bounds of what is cleared: P, F, M and the largest work room, the ends of the answers, the lengths of the rooms
pub record Sizes (P F M work a b c d out_points out_faces report origins work_long : ℕ) : Type 0 where
  pub three_faces : 3 * F < 2 ^ 64
  pub all_points : P + 3 * F < 2 ^ 64
  pub three_points : 3 * (P + 3 * F) < 2 ^ 64
  pub all_counts : report_counts * M < 2 ^ 64
  pub all_fours : 4 * M < 2 ^ 64
  pub points_end : a ≤ 3 * (P + 3 * F)
  pub faces_end : b ≤ 3 * F
  pub counts_end : c ≤ report_counts * M
  pub origins_end : d ≤ F
  pub points_room : a + (3 * (P + 3 * F) - a) ≤ out_points
  pub faces_room : b + (3 * F - b) ≤ out_faces
  pub counts_room : c + (report_counts * M - c) ≤ report
  pub origins_room : d + (F - d) ≤ origins
  pub work_room : 0 + work ≤ work_long

module _ (points : List Float) (faces pc fc : List ℕ) (s : Float) (o : ℕ) (ps : List Float) (xs rs os ms w : List ℕ) where
  -- what the meshes contribute
  abbrev calls : List (Outcome RepairRooms)
  calls = own_calls s o pc fc points faces

  abbrev fours : List ℕ
  fours = each (λ c. four c.answer) calls

  -- the entries that stand in each room
  abbrev entries : List ℕ
  entries =
      length (each its_points calls) ∷ length (each its_faces calls) ∷ length (each its_counts calls) ∷ length (each its_origins calls) ∷ length fours ∷ []

  -- the rooms of an accepted call
  abbrev after : PanelRooms
  after =
      record {
        out_points = filled zero64 (3 * (total pc + 3 * total fc)) (each its_points calls) ps;
        out_faces = filled 0 (3 * total fc) (each its_faces calls) xs;
        report = filled 0 (report_counts * length pc) (each its_counts calls) rs;
        origins = filled 0 (total fc) (each its_origins calls) os;
        meshes = filled 0 (4 * length pc) fours ms;
        work = cleared (largest pc fc) w;
      }

  -- the checks at the lengths of the rooms
  abbrev checks : List Check
  checks = panel_list (length points) (length faces) pc fc s o (length ps) (length xs) (length rs) (length os) (length ms) (length w)

  -- a refusal changes no buffer
  pub is_refused : (r : Refusal) → no (number_of r) (place_of r) ≡ decided checks → outcome_of (Err r) ps xs rs os ms w ≡ repair_panel points faces pc fc s o (rooms_of ps xs rs os ms w)
  unfolding repair_panel outcome
  is_refused r e = ap (λ c. outcome c (rooms_of ps xs rs os ms w) entries after) (e ∙ panel_is points faces pc fc s o (rooms_of ps xs rs os ms w))

  module _ (e : ok ≡ decided checks) where
    -- what an accepted call may start from
    pub is_accepted : PanelAccepted (length points) (length faces) pc fc (length ps) (length xs) (length rs) (length os) (length ms) (length w)
    is_accepted = panel_accepted (length points) (length faces) pc fc s o (length ps) (length xs) (length rs) (length os) (length ms) (length w) (sym e)

    -- P and F by the lengths
    points_are : length points / 3 ≡ total pc
    points_are = omega (arith, is_accepted.rows.points_total)

    faces_are : length faces / 3 ≡ total fc
    faces_are = omega (arith, is_accepted.rows.faces_total)

    module _ {ps₁ : List Float} {xs₁ rs₁ os₁ ms₁ w₁ : List ℕ} {r : At} (g : AllGives calls pc fc ps xs rs os ms w ps₁ xs₁ rs₁ os₁ ms₁ w₁ r) (small : length ps < 2 ^ 64) (l : ℕ) (l-is : l ≡ largest pc fc) where
      -- the bounds of what is cleared
      pub sizes :
          Sizes (length points / 3) (length faces / 3) (length pc) l r.mended r.triples r.counts r.origins (length ps₁) (length xs₁) (length rs₁) (length os₁) (length w₁)
      sizes =
          let a = is_accepted in
          let q = own_calls_share s o pc fc points faces in
          let p = points_are in
          let f = faces_are in
          let c = a.rows.few in
          record {
            three_faces = omega (arith, a.room_out_points);
            all_points = omega (arith, a.room_out_points);
            three_points = omega (arith, a.room_out_points);
            all_counts = omega arith;
            all_fours = omega arith;
            points_end = omega (arith, q.points_fit, g.out_points.ends);
            faces_end = omega (arith, q.faces_fit, g.out_faces.ends);
            counts_end = omega (arith, q.counts_fit, g.report.ends);
            origins_end = omega (arith, q.origins_fit, g.origins.ends);
            points_room = omega (arith, q.points_fit, g.out_points.ends, g.out_points.only.long, a.room_out_points);
            faces_room = omega (arith, q.faces_fit, g.out_faces.ends, g.out_faces.only.long, a.room_out_faces);
            counts_room = omega (arith, q.counts_fit, g.report.ends, g.report.only.long, a.room_report);
            origins_room = omega (arith, q.origins_fit, g.origins.ends, g.origins.only.long, a.room_origins);
            work_room = omega (arith, g.only_work.long, a.room_work);
          }

      -- as many entries as the packed lists have
      entries_are : r.mended ∷ r.triples ∷ r.counts ∷ r.origins ∷ 4 * length pc ∷ [] ≡ entries
      entries_are =
          let a : r.mended ≡ length (each its_points calls) = omega (arith, g.out_points.ends) in
          let b : r.triples ≡ length (each its_faces calls) = omega (arith, g.out_faces.ends) in
          let c : r.counts ≡ length (each its_counts calls) = omega (arith, g.report.ends) in
          let d : r.origins ≡ length (each its_origins calls) = omega (arith, g.origins.ends) in
          let m : 4 * length pc ≡ length fours = omega (arith, g.meshes.ends) in
          rw (a, b, c, d, m) refl

      -- the answers in their rooms, and the rest cleared: the rules' outcome
      pub is_done :
          {ps₂ : List Float} {xs₂ rs₂ os₂ w₂ : List ℕ}
          → OnlyOf nan r.mended (3 * (length points / 3 + 3 * (length faces / 3)) - r.mended) ps₁ ps₂
          → HoldsOf nan r.mended (3 * (length points / 3 + 3 * (length faces / 3)) - r.mended) (λ i. zero64) ps₂
          → Only r.triples (3 * (length faces / 3) - r.triples) xs₁ xs₂ → Filled r.triples (3 * (length faces / 3) - r.triples) 0 xs₂
          → Only r.counts (report_counts * length pc - r.counts) rs₁ rs₂ → Filled r.counts (report_counts * length pc - r.counts) 0 rs₂
          → Only r.origins (length faces / 3 - r.origins) os₁ os₂ → Filled r.origins (length faces / 3 - r.origins) 0 os₂
          → Only 0 l w₁ w₂ → Filled 0 l 0 w₂
          → outcome_of (Ok (record { points = r.mended; faces = r.triples; counts = r.counts; origins = r.origins; meshes = 4 * length pc })) ps₂ xs₂ rs₂ os₂ ms₁ w₂ ≡ repair_panel points faces pc fc s o (rooms_of ps xs rs os ms w)
      unfolding repair_panel outcome
      is_done {ps₂} {xs₂} {rs₂} {os₂} {w₂} op₀ hp₀ of₀ hf₀ or hr oo₀ ho₀ ow₀ hw₀ =
          let z = rw (points_are, faces_are) at sizes in
          let a = is_accepted in
          let op = rw (points_are, faces_are) at op₀ in
          let hp = rw (points_are, faces_are) at hp₀ in
          let of = rw faces_are at of₀ in
          let hf = rw faces_are at hf₀ in
          let oo = rw faces_are at oo₀ in
          let ho = rw faces_are at ho₀ in
          let ow = rw l-is at ow₀ in
          let hw = rw l-is at hw₀ in
          let p : ps₂ ≡ after.out_points = filled_in a.room_out_points z.points_end g.out_points.only g.out_points.front op hp in
          let f : xs₂ ≡ after.out_faces = filled_in a.room_out_faces z.faces_end g.out_faces.only g.out_faces.front of hf in
          let b : rs₂ ≡ after.report = filled_in a.room_report z.counts_end g.report.only g.report.front or hr in
          let q : os₂ ≡ after.origins = filled_in a.room_origins z.origins_end g.origins.only g.origins.front oo ho in
          let m : ms₁ ≡ after.meshes = filled_whole 0 a.room_meshes g.meshes.only g.meshes.front in
          let c : w₂ ≡ after.work = cleared_is a.room_work (only_both g.only_work ow) hw in
          ap₂ (λ (k : List ℕ) (rooms : PanelRooms). record { answer = accepted k; rooms = rooms }) entries_are
          (λ i. record { out_points = p i; out_faces = f i; report = b i; origins = q i; meshes = m i; work = c i })
          ∙ ap (λ c. outcome c (rooms_of ps xs rs os ms w) entries after) (e ∙ panel_is points faces pc fc s o (rooms_of ps xs rs os ms w))
