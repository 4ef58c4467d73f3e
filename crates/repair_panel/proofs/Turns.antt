-- Mesh after mesh: after k of them each list is what the first k repairs contribute, packed. Assumes nothing.
use mathlib.Core.Path.{◌≡◌, refl, ap, ap₂, ◌∙◌}
use mathlib.Core.List.{List, [], ◌∷◌, ◌++◌, append-nil}
use Prim.Native.Nat.{ℕ, suc, ◌+◌, ◌*◌, ◌^◌, ◌≤◌, ◌<◌}
use native.Mathlib.Numerals.{add-one}
use native.Mathlib.Omega.{arith}
use lib.Ieee.{Float, nan}
use lib.ListN.{length, get_or, take, length-append}
use lib.Seq.{length-take-le, take_all}
use Rattle.rows.specs.Region.{part, Only}
use Rattle.rows.proofs.Regions.{only_none, only_both, only_more}
use Rattle.rules.specs.Lists.{each}
use Rattle.rules.specs.State.{report_counts}
use Rattle.rules.specs.Rooms.{Outcome}
use Rattle.rules.specs.RepairCall.{RepairRooms}
use Rattle.rules.specs.PanelCall.{total, largest, one_call, own_calls, its_points, its_faces, its_counts, its_origins, four}
use Rattle.rule_laws.proofs.Lists.{each_append}
use Rattle.panel_refusal.specs.Checks.{PanelAccepted}
use Rattle.panel_laws.specs.Cutting.{mesh_part}
use Rattle.panel_laws.proofs.Packing.{total_next, total_take, largest_at, own_calls_next, own_calls_share}
use Rattle.mend_mesh.specs.Meshes.{NextAsks, NextGives, Grown}
use Rattle.mend_mesh.specs.declared.At.{At}
use Rattle.repair_panel.specs.Packs.{AllGives}

-- one more than a number below a length
pub next_fits : {k n m : ℕ} → k < n → n < m → k + 1 < m
next_fits a b = omega arith

-- ---- one list

module _ {A : Type 0} {d : A} where
  -- a list that nothing has been added to
  pub grown_none : (n : ℕ) (w : List A) → Grown d n 0 [] w w 0
  grown_none n w = record { only = only_none 0 n w; ends = omega arith; front = refl }

  -- one that has grown grows further
  pub grown_more : {n m q q' : ℕ} {xs ys w₀ w w' : List A} → m ≤ n → Grown d n 0 xs w₀ w q → Grown d m q ys w w' q' → Grown d n 0 (xs ++ ys) w₀ w' q'
  grown_more {n} {m} {q} {q'} {xs} {ys} {w₀} {w} {w'} l g h =
      record {
        only = only_both g.only (only_more (omega arith) (omega arith) h.only);
        ends = omega (arith, g.ends, h.ends, length-append xs ys);
        front = h.front ∙ ap (λ t. t ++ ys) g.front;
      }

-- what one repair more contributes
each_more : {A B : Type 0} (f : A → List B) (xs : List A) (x : A) → each f (xs ++ (x ∷ [])) ≡ each f xs ++ f x
unfolding each
each_more f xs x = each_append f xs (x ∷ []) ∙ ap (λ l. each f xs ++ l) (append-nil (f x))

-- ---- all of them

module _ (points : List Float) (faces pc fc : List ℕ) (s : Float) (o : ℕ) where
  -- the repairs of the first k meshes
  abbrev pub calls : ℕ → List (Outcome RepairRooms)
  calls k = own_calls s o (take k pc) (take k fc) points faces

  -- mesh k by itself
  abbrev pub alone : ℕ → Outcome RepairRooms
  alone k = one_call s o (mesh_part pc points k) (mesh_part fc faces k)

  -- after k meshes
  pub record Mended (ps₀ : List Float) (xs₀ rs₀ os₀ ms₀ w₀ : List ℕ) (ps : List Float) (xs rs os ms w : List ℕ) (at : At) (k : ℕ) : Type 0 where
    pub at_most : k ≤ length pc
    pub points_at : at.points ≡ 3 * total (take k pc)
    pub faces_at : at.faces ≡ 3 * total (take k fc)
    pub out_points : Grown nan (3 * (total pc + 3 * total fc)) 0 (each its_points (calls k)) ps₀ ps at.mended
    pub out_faces : Grown 0 (3 * total fc) 0 (each its_faces (calls k)) xs₀ xs at.triples
    pub report : Grown 0 (report_counts * length pc) 0 (each its_counts (calls k)) rs₀ rs at.counts
    pub origins : Grown 0 (total fc) 0 (each its_origins (calls k)) os₀ os at.origins
    pub meshes : Grown 0 (4 * length pc) 0 (each (λ c. four c.answer) (calls k)) ms₀ ms (4 * k)
    pub only_work : Only 0 (largest pc fc) w₀ w

  -- before the first nothing is changed
  pub begin :
      (ps : List Float) (xs rs os ms w : List ℕ)
      → Mended ps xs rs os ms w ps xs rs os ms w (record { points = 0; faces = 0; mended = 0; triples = 0; counts = 0; origins = 0 }) 0
  unfolding own_calls each total
  begin ps xs rs os ms w =
      record {
        at_most = omega arith;
        points_at = refl;
        faces_at = refl;
        out_points = grown_none _ ps;
        out_faces = grown_none _ xs;
        report = grown_none _ rs;
        origins = grown_none _ os;
        meshes = grown_none _ ms;
        only_work = only_none 0 (largest pc fc) w;
      }

  module _ {ps₀ : List Float} {xs₀ rs₀ os₀ ms₀ w₀ : List ℕ} {ps : List Float} {xs rs os ms w : List ℕ} {at : At} {k : ℕ}
      (a : PanelAccepted (length points) (length faces) pc fc (length ps₀) (length xs₀) (length rs₀) (length os₀) (length ms₀) (length w₀))
      (v : Mended ps₀ xs₀ rs₀ os₀ ms₀ w₀ ps xs rs os ms w at k) where
    module _ (h : k < length pc) where
      -- the places of mesh k in all lists
      record Places : Type 0 where
        points_end : at.points + 3 * get_or pc k 0 ≤ 3 * total pc
        faces_end : at.faces + 3 * get_or fc k 0 ≤ 3 * total fc
        mended_end : at.mended + 3 * (get_or pc k 0 + 3 * get_or fc k 0) ≤ 3 * (total pc + 3 * total fc)
        triples_end : at.triples + 3 * get_or fc k 0 ≤ 3 * total fc
        counts_end : at.counts + report_counts ≤ report_counts * length pc
        origins_end : at.origins + get_or fc k 0 ≤ total fc
        meshes_end : 4 * k + 4 ≤ 4 * length pc

      -- they lie within what is stated
      places : Places
      places =
          let q = own_calls_share s o (take k pc) (take k fc) points faces in
          let b = total_next pc k h in
          let c = total_next fc k (omega (arith, a.rows.same)) in
          let d = total_take pc (suc k) in
          let e = total_take fc (suc k) in
          let l : length (take k pc) ≡ k = length-take-le k pc v.at_most in
          record {
            points_end = omega (arith, v.points_at);
            faces_end = omega (arith, v.faces_at);
            mended_end = omega (arith, v.out_points.ends, q.points_fit);
            triples_end = omega (arith, v.out_faces.ends, q.faces_fit);
            counts_end = omega (arith, v.report.ends, q.counts_fit);
            origins_end = omega (arith, v.origins.ends, q.origins_fit);
            meshes_end = omega arith;
          }

      -- mesh k may be mended
      pub turn : get_or pc k 0 < 2 ^ 32 → get_or fc k 0 < 2 ^ 32 → NextAsks points faces (get_or pc k 0) (get_or fc k 0) ps xs rs os ms w k at
      turn i j =
          let z = places in
          let r = a.rows in
          record {
            few_points = i;
            few_faces = j;
            points_fit = omega (arith, z.points_end, r.points_total);
            faces_fit = omega (arith, z.faces_end, r.faces_total);
            room_points = omega (arith, z.mended_end, a.room_out_points, v.out_points.only.long);
            room_faces = omega (arith, z.triples_end, a.room_out_faces, v.out_faces.only.long);
            room_report = omega (arith, z.counts_end, a.room_report, v.report.only.long);
            room_origins = omega (arith, z.origins_end, a.room_origins, v.origins.only.long);
            room_meshes = omega (arith, z.meshes_end, a.room_meshes, v.meshes.only.long);
            room_work = omega (arith, largest_at pc fc k r.same h, a.room_work, v.only_work.long);
          }

      -- and then each list is what one repair more contributes
      pub again :
          {ps' : List Float} {xs' rs' os' ms' w' : List ℕ} {at' : At}
          → NextGives (one_call s o (part points at.points (3 * get_or pc k 0)) (part faces at.faces (3 * get_or fc k 0))) (get_or pc k 0) (get_or fc k 0) k at
          ps xs rs os ms w ps' xs' rs' os' ms' w' at'
          → Mended ps₀ xs₀ rs₀ os₀ ms₀ w₀ ps' xs' rs' os' ms' w' at' (k + 1)
      again g₀ =
          let z = places in
          let r = a.rows in
          let g = rw (v.points_at, v.faces_at) at g₀ in
          let e : calls (k + 1) ≡ calls k ++ (alone k ∷ []) =
          ap (λ j. calls j) (add-one k) ∙ own_calls_next s o pc fc points faces k r.same h in
          record {
            at_most = omega arith;
            points_at = rw (add-one k) (omega (arith, g.points, v.points_at, total_next pc k h));
            faces_at = rw (add-one k) (omega (arith, g.faces, v.faces_at, total_next fc k (omega (arith, r.same))));
            out_points = rw (e, each_more its_points (calls k) (alone k)) (grown_more z.mended_end v.out_points g.out_points);
            out_faces = rw (e, each_more its_faces (calls k) (alone k)) (grown_more z.triples_end v.out_faces g.out_faces);
            report = rw (e, each_more its_counts (calls k) (alone k)) (grown_more z.counts_end v.report g.report);
            origins = rw (e, each_more its_origins (calls k) (alone k)) (grown_more z.origins_end v.origins g.origins);
            meshes =
                let j : 4 * (k + 1) ≡ 4 * k + 4 = omega arith in
                rw (e, each_more (λ c. four c.answer) (calls k) (alone k), j) (grown_more z.meshes_end v.meshes g.meshes);
            only_work = only_both v.only_work (only_more (omega arith) (omega (arith, largest_at pc fc k r.same h)) g.only_work);
          }

    -- after the last they are what all contribute
    pub done : length pc ≤ k → AllGives (own_calls s o pc fc points faces) pc fc ps₀ xs₀ rs₀ os₀ ms₀ w₀ ps xs rs os ms w at
    done h =
        let e : k ≡ length pc = omega (arith, v.at_most) in
        let c : calls k ≡ own_calls s o pc fc points faces =
        ap₂ (λ (i j : List ℕ). own_calls s o i j points faces) (take_all k pc h) (take_all k fc (omega (arith, a.rows.same))) in
        record {
          out_points = rw c at v.out_points;
          out_faces = rw c at v.out_faces;
          report = rw c at v.report;
          origins = rw c at v.origins;
          meshes = rw (c, e) at v.meshes;
          only_work = v.only_work;
        }
