-- One mesh behind others: its parts are lent and come back, so each list has grown by what it contributes. Assumes nothing.
use mathlib.Core.Path.{◌≡◌, refl, sym, ap, ◌∙◌}
use mathlib.Core.List.{List, ◌++◌}
use Prim.Native.Nat.{ℕ, ◌+◌, ◌-◌, ◌*◌, ◌/◌, ◌≤◌, ◌<◌}
use native.Mathlib.Omega.{arith}
use lib.Ieee.{Float, nan}
use lib.ListN.{length, get_or, take, drop, get_or-eq_default}
use lib.Seq.{length-take-le, take-take, take-append-add}
use Rattle.rows.specs.Region.{part, OnlyOf, Out, Out.below, Out.above}
use Rattle.rows.proofs.Regions.{length_part}
use Rattle.rows.proofs.Splicing.{front_back, only_back}
use Rattle.rules.specs.State.{report_counts}
use Rattle.rules.specs.PanelCall.{one_call}
use Rattle.panel_laws.proofs.Alone.{Shares, one_shares}
use Rattle.panel_laws.proofs.Packing.{length_four}
use Rattle.mend_mesh.specs.declared.Share.{Share}
use Rattle.mend_mesh.specs.declared.At.{At}
use Rattle.mend_mesh.specs.Meshes.{OneAsks, OneGives, Stands, NextAsks, NextGives, Grown}

-- a number at most as large as one that is below a third
pub below_all : {i j n : ℕ} → i ≤ j → j < n → i < n
below_all a b = omega arith

-- ---- one list

module _ {A : Type 0} (d : A) (w : List A) (q n : ℕ) (fit : q + n ≤ length w) where
  -- a part that comes back is changed nowhere else
  anywhere : {ys : List A} → length ys ≡ length (part w q n) → OnlyOf d 0 n (part w q n) ys
  anywhere {ys} l = record { long = l; same = same }
    where
      same : (j : ℕ) → Out 0 n j → get_or ys j d ≡ get_or (part w q n) j d
      same j (below h) = absurd (omega arith)
      same j (above h) = get_or-eq_default ys d (omega (arith, length_part w q n fit)) ∙ sym (get_or-eq_default (part w q n) d (omega (arith, length_part w q n fit)))

  -- with its answer in front the list has grown by that
  pub grown :
      {ys answer : List A} {k : ℕ} → length ys ≡ length (part w q n) → k ≤ n → Stands answer ys k
      → Grown d (q + n) q answer w (take q w ++ (ys ++ drop n (drop q w))) (q + k)
  grown {ys} {answer} {k} l h s =
      let back : List A = take q w ++ (ys ++ drop n (drop q w)) in
      let o = anywhere {ys = ys} l in
      let e : q + k ≡ length (take q w) + k = omega (arith, length-take-le q w (omega arith)) in
      record {
        only = only_back d w q n fit o (omega arith);
        ends = omega (arith, s.long);
        front =
            sym (take-take (q + k) (q + n) back (omega arith)) ∙ ap (take (q + k)) (front_back d w q n fit o (omega arith))
            ∙ ap (λ j. take j (take q w ++ take n ys)) e ∙ take-append-add (take q w) (take n ys) k
            ∙ ap (λ l. take q w ++ l) (take-take k n ys h ∙ s.front);
      }

-- ---- all of them

module _ (points : List Float) (faces : List ℕ) (p f : ℕ) (ps : List Float) (xs rs os ms w : List ℕ) (k : ℕ) (at : At)
    (a : NextAsks points faces p f ps xs rs os ms w k at) where
  -- its points and faces
  abbrev its : List Float
  its = part points at.points (3 * p)

  abbrev triples : List ℕ
  triples = part faces at.faces (3 * f)

  -- three numbers each
  thirds : length its / 3 ≡ p
  thirds = omega (arith, length_part points at.points (3 * p) a.points_fit)

  thirds_of_faces : length triples / 3 ≡ f
  thirds_of_faces = omega (arith, length_part faces at.faces (3 * f) a.faces_fit)

  -- how long the parts are, from where they begin and end
  abbrev n-points : ℕ
  n-points = at.points + 3 * p - at.points

  abbrev n-faces : ℕ
  n-faces = at.faces + 3 * f - at.faces

  abbrev n-mended : ℕ
  n-mended = at.mended + 3 * (p + 3 * f) - at.mended

  abbrev n-triples : ℕ
  n-triples = at.triples + 3 * f - at.triples

  abbrev n-counts : ℕ
  n-counts = at.counts + report_counts - at.counts

  abbrev n-origins : ℕ
  n-origins = at.origins + f - at.origins

  abbrev n-four : ℕ
  n-four = 4 * k + 4 - 4 * k

  -- what is lent is long enough
  asked : OneAsks (length its / 3) (length triples / 3) (part ps at.mended (3 * (p + 3 * f))) (part xs at.triples (3 * f)) (part rs at.counts report_counts) (part os at.origins f) (part ms (4 * k) 4) w
  asked =
      record {
        room_points = omega (arith, thirds, thirds_of_faces, length_part ps at.mended (3 * (p + 3 * f)) a.room_points);
        room_faces = omega (arith, thirds_of_faces, length_part xs at.triples (3 * f) a.room_faces);
        room_report = omega (arith, length_part rs at.counts report_counts a.room_report);
        room_origins = omega (arith, thirds_of_faces, length_part os at.origins f a.room_origins);
        room_four = omega (arith, length_part ms (4 * k) 4 a.room_meshes);
        room_work = rw (thirds, thirds_of_faces) a.room_work;
      }

  -- by where the parts begin and end
  pub one_asks :
      OneAsks (length (part points at.points n-points) / 3) (length (part faces at.faces n-faces) / 3)
      (part ps at.mended n-mended) (part xs at.triples n-triples) (part rs at.counts n-counts) (part os at.origins n-origins) (part ms (4 * k) n-four) w
  one_asks =
      let a : n-points ≡ 3 * p = omega arith in
      let b : n-faces ≡ 3 * f = omega arith in
      let c : n-mended ≡ 3 * (p + 3 * f) = omega arith in
      let d : n-triples ≡ 3 * f = omega arith in
      let e : n-counts ≡ report_counts = omega arith in
      let g : n-origins ≡ f = omega arith in
      let m : n-four ≡ 4 = omega arith in
      rw (a, b, c, d, e, g, m) asked

  module _ (s : Float) (o : ℕ) {ps' : List Float} {xs' rs' os' ms' w' : List ℕ} {r : Share}
      (g : OneGives (one_call s o (part points at.points n-points) (part faces at.faces n-faces)) (length (part points at.points n-points) / 3) (length (part faces at.faces n-faces) / 3) w ps' xs' rs' os' ms' w' r) where
    -- the same by the counts
    given : OneGives (one_call s o its triples) (length its / 3) (length triples / 3) w ps' xs' rs' os' ms' w' r
    given =
        let a : n-points ≡ 3 * p = omega arith in
        let b : n-faces ≡ 3 * f = omega arith in
        rw (a, b) at g

    -- what it contributes fits
    shares : Shares p f (one_call s o its triples)
    shares = rw (thirds, thirds_of_faces) at (one_shares its triples s o)

    -- where the next mesh begins
    pub record Ends : Type 0 where
      pub mended_end : at.mended + r.points ≤ length ps
      pub triples_end : at.triples + r.faces ≤ length xs
      pub counts_end : at.counts + r.counts ≤ length rs
      pub origins_end : at.origins + r.origins ≤ length os

    pub ends : Ends
    ends =
        let q = shares in
        let h = given in
        record {
          mended_end = omega (arith, q.points_fit, h.points.long, a.room_points);
          triples_end = omega (arith, q.faces_fit, h.faces.long, a.room_faces);
          counts_end = omega (arith, q.counts_fit, h.counts.long, a.room_report);
          origins_end = omega (arith, q.origins_fit, h.origins.long, a.room_origins);
        }

    -- every list has grown
    pub gives :
        length ps' ≡ length (part ps at.mended n-mended) → length xs' ≡ length (part xs at.triples n-triples) → length rs' ≡ length (part rs at.counts n-counts)
        → length os' ≡ length (part os at.origins n-origins) → length ms' ≡ length (part ms (4 * k) n-four)
        → NextGives (one_call s o its triples) p f k at ps xs rs os ms w
        (take at.mended ps ++ (ps' ++ drop n-mended (drop at.mended ps)))
        (take at.triples xs ++ (xs' ++ drop n-triples (drop at.triples xs)))
        (take at.counts rs ++ (rs' ++ drop n-counts (drop at.counts rs)))
        (take at.origins os ++ (os' ++ drop n-origins (drop at.origins os)))
        (take (4 * k) ms ++ (ms' ++ drop n-four (drop (4 * k) ms)))
        w'
        (record {
          points = at.points + 3 * p;
          faces = at.faces + 3 * f;
          mended = at.mended + r.points;
          triples = at.triples + r.faces;
          counts = at.counts + r.counts;
          origins = at.origins + r.origins;
        })
    gives lp lx lr lo lm =
        let c : n-mended ≡ 3 * (p + 3 * f) = omega arith in
        let d : n-triples ≡ 3 * f = omega arith in
        let e : n-counts ≡ report_counts = omega arith in
        let i : n-origins ≡ f = omega arith in
        let m : n-four ≡ 4 = omega arith in
        let q = shares in
        let h = given in
        record {
          points = refl;
          faces = refl;
          out_points = rw c (grown nan ps at.mended (3 * (p + 3 * f)) a.room_points (rw c at lp) (omega (arith, q.points_fit, h.points.long)) h.points);
          out_faces = rw d (grown 0 xs at.triples (3 * f) a.room_faces (rw d at lx) (omega (arith, q.faces_fit, h.faces.long)) h.faces);
          report = rw e (grown 0 rs at.counts report_counts a.room_report (rw e at lr) (omega (arith, q.counts_fit, h.counts.long)) h.counts);
          origins = rw i (grown 0 os at.origins f a.room_origins (rw i at lo) (omega (arith, q.origins_fit, h.origins.long)) h.origins);
          meshes =
              rw m
              (grown 0 ms (4 * k) 4 a.room_meshes {ys = ms'} (rw m at lm) (omega arith)
              (record { long = sym (length_four (one_call s o its triples).answer); front = h.fours }));
          only_work = rw (thirds, thirds_of_faces) at h.only_work;
        }
