-- One vertex more is split: its groups have numbers, and the copies of its point stand. Assumes nothing.
use mathlib.Core.Path.{◌≡◌, refl, sym, ap, ap₂, ◌∙◌, subst}
use mathlib.Core.Bool.{cond}
use mathlib.Core.List.{List, ◌++◌, append-nil, append_assoc}
use Prim.Native.Nat.{ℕ, suc, ◌+◌, ◌*◌, ◌-◌, ◌^◌, ◌≤◌, ◌<◌}
use native.Mathlib.Omega.{arith}
use native.Mathlib.Decide.{ℕ_discrete}
use lib.Ieee.{Float, nan}
use lib.ListN.{length, get_or, take}
use Rattle.rows.specs.Region.{part, OnlyOf, Only, Apart.before}
use Rattle.rows.proofs.Regions.{only_none, only_both, only_more, kept, holds_kept}
use Rattle.rules.specs.Lists.{below, count, each}
use Rattle.rules.specs.Mesh.{Face, faces_of}
use Rattle.rule_laws.proofs.Counting.{count_below_agree}
use Rattle.table.proofs.Ids.{three_faces}
use Rattle.splitting.specs.Corners.{corner_at, corners_at, extra, extras, number_at, base}
use Rattle.splitting.proofs.AllAtOnce.{each_last}
use Rattle.splitting.proofs.Entries.{as_many, corner_rises}
use Rattle.splitting.proofs.Goals.{base_least}
use Rattle.corner_numbers.specs.Numbers.{extra_by, EndAsks, EndGives, RunAsks, RunGives}
use Rattle.split_bowtie_vertices.specs.Splits.{Rows, Reached, CopiesAsks, CopiesGives, copies_of}
use Rattle.split_bowtie_vertices.proofs.Places.{before_of, before_suc, is_corner, few_extras, base_most, run_fits, run_row, end_ok, end_is, extra_row}

-- the rows stay while numbers are written
pub rows_kept : {ys : List ℕ} {P : ℕ} {w w' : List ℕ} → Only (13 * length ys + 2 + P) (length ys) w w' → Rows ys P w → Rows ys P w'
rows_kept {ys} {P} {w} {w'} o r =
    record {
      whole = r.whole;
      few = r.few;
      fit = omega (arith, r.fit, o.long);
      inside = r.inside;
      column = holds_kept o (before (omega arith)) r.column;
      led = holds_kept o (before (omega arith)) r.led;
      sorted = kept o (12 * length ys + 2 + P) (length ys) (before (omega arith)) (omega (arith, r.fit)) ∙ r.sorted;
    }

-- before the first vertex
pub at_first : {ys : List ℕ} {P : ℕ} {ps : List Float} {w : List ℕ} → Rows ys P w → 3 * (P + length ys) ≤ length ps → Reached ys P ps 0 ps w 0 P
at_first {ys} {P} {ps} r h =
    record {
      rows = r;
      room = h;
      begin_is = unfold each below in refl;
      next_is = unfold base in refl;
      numbered = λ v j l k. absurd (omega arith);
      only = only_none _ _ _;
      points = sym (unfold each below in append-nil (take (3 * P) ps));
    }

module _ {ys : List ℕ} {P : ℕ} {ps₀ : List Float} {v : ℕ} {ps : List Float} {w : List ℕ} {begin next : ℕ} (h : v < P) (q : Reached ys P ps₀ v ps w begin next) where
  -- the faces
  abbrev fs : List Face
  fs = faces_of ys

  -- how many corners are at v
  abbrev many : ℕ
  many = length (corners_at fs v)

  -- where a run ends, and how far numbers go
  record Bounds : Type 0 where
    few : 2 * length ys + P < 2 ^ 31
    fit : 14 * length ys + 2 + P ≤ length w
    room : 3 * (P + length ys) ≤ length ps
    run : begin + many ≤ length ys
    least : P ≤ next
    most : next ≤ P + begin

  -- they hold
  bounds : Bounds
  bounds =
      record {
        few = q.rows.few;
        fit = q.rows.fit;
        room = q.room;
        run = omega (arith, run_fits q.rows v h, q.begin_is);
        least = omega (arith, base_least fs P v, q.next_is);
        most = omega (arith, base_most fs P v, q.next_is, q.begin_is);
      }

  -- what the search for the end of the run asks
  pub end_asks : EndAsks w (12 * length ys + 2 + P) begin (length ys)
  end_asks = end_ok q.rows v begin h q.begin_is

  module _ {end : ℕ} (e : EndGives w (12 * length ys + 2 + P) begin (length ys) v end) where
    pub ends : end ≡ begin + many
    ends = end_is q.rows v begin end h q.begin_is e

    -- the corner at a place of the run
    id_at : (j : ℕ) → j < many → get_or w (12 * length ys + 2 + P + begin + j) 0 ≡ get_or (corners_at fs v) j 0
    id_at j l =
        let a : 12 * length ys + 2 + P + begin + j ≡ 12 * length ys + 2 + P + (before_of fs v + j) = omega (arith, q.begin_is) in
        ap (λ k. get_or w k 0) a ∙ run_row q.rows v j h l

    id_in : (j : ℕ) → j < many → get_or (corners_at fs v) j 0 < length ys
    id_in j l = omega (arith, (is_corner fs v j l).0, three_faces ys q.rows.whole)

    pub run_asks : RunAsks w (12 * length ys + 2 + P + begin) (end - begin) (10 * length ys + 2 + P) (13 * length ys + 2 + P) (length ys) v next
    run_asks =
        let b = bounds in
        let z = ends in
        record {
          run_fit = omega arith;
          leads_fit = omega arith;
          numbers_fit = omega arith;
          run_apart = before (omega arith);
          leads_apart = before (omega arith);
          id = λ j l. let k : j < many = omega arith in omega (arith, id_at j k, id_in j k);
          rising = λ j k l m. let a : j < many = omega arith in let c : k < many = omega arith in omega (arith, id_at j a, id_at k c, corner_rises fs v j k l (omega (arith, as_many fs v)));
          small = omega arith;
          vertex = omega arith;
        }

    module _ {w' : List ℕ} {free : ℕ} (g : RunGives w (12 * length ys + 2 + P + begin) (end - begin) (10 * length ys + 2 + P) (13 * length ys + 2 + P) (length ys) v next w' free) where
      long : end - begin ≡ many
      long = omega (arith, ends)

      -- the tests on the rows
      test : (j : ℕ) → j < many → extra_by w (12 * length ys + 2 + P + begin) (10 * length ys + 2 + P) j ≡ extra fs v j
      test j l = ap (λ b. extra_by w (12 * length ys + 2 + P + b) (10 * length ys + 2 + P) j) q.begin_is ∙ extra_row q.rows v j h l

      tests : (j : ℕ) → j ≤ many → count (extra_by w (12 * length ys + 2 + P + begin) (10 * length ys + 2 + P)) (below j) ≡ count (extra fs v) (below j)
      tests j l = count_below_agree (extra_by w (12 * length ys + 2 + P + begin) (10 * length ys + 2 + P)) (extra fs v) j (λ i k. test i (omega arith))

      pub added : free ≡ next + extras fs v
      unfolding extras
      added = g.free ∙ ap (λ k. next + k) (ap (λ k. count (extra_by w (12 * length ys + 2 + P + begin) (10 * length ys + 2 + P)) (below k)) long ∙ tests many (omega arith))

      pub copies_asks : CopiesAsks ps v next (free - next)
      copies_asks =
          let b = bounds in
          record { vertex = omega arith; fit = omega (arith, added, few_extras fs v) }

      numbered_now : (u j : ℕ) → u < suc v → j < length (corners_at fs u) → get_or w' (13 * length ys + 2 + P + get_or (corners_at fs u) j 0) 0 ≡ number_at fs u (base fs P u) j
      unfolding number_at
      numbered_now u j l k = go (ℕ_discrete u v)
        where
          go : Dec (u ≡ v) → get_or w' (13 * length ys + 2 + P + get_or (corners_at fs u) j 0) 0 ≡ cond (extra fs u j) (base fs P u + count (extra fs u) (below j)) u
          go (yes s) =
              let k' : j < many = subst (λ x. j < length (corners_at fs x)) s k in
              subst (λ x. get_or w' (13 * length ys + 2 + P + get_or (corners_at fs x) j 0) 0 ≡ cond (extra fs x j) (base fs P x + count (extra fs x) (below j)) x) (sym s)
              (ap (λ x. get_or w' (13 * length ys + 2 + P + x) 0) (sym (id_at j k'))
              ∙ g.numbered j (omega (arith, long))
              ∙ ap₂ (λ b c. cond b (next + c) v) (test j k') (tests j (omega arith))
              ∙ ap (λ n. cond (extra fs v j) (n + count (extra fs v) (below j)) v) q.next_is)
          go (no s) =
              g.others (get_or (corners_at fs u) j 0)
              (λ i b e. s (sym (is_corner fs u j k).1 ∙ ap (corner_at fs) (sym e ∙ id_at i (omega (arith, long))) ∙ (is_corner fs v i (omega (arith, long))).1))
              ∙ (unfold number_at in q.numbered u j (omega arith) k)

      -- the copies stand, and all is as it is to be for the next vertex
      module _ {ps' : List Float} (c : CopiesGives ps v next (free - next) ps') where
        pub only_points : OnlyOf nan (3 * P) (3 * length ys) ps ps'
        only_points = let b = bounds in only_more (omega arith) (omega (arith, added, few_extras fs v)) c.only

        pub onward : Reached ys P ps₀ (suc v) ps' w' end free
        onward =
            let b = bounds in
            let a = added in
            record {
              rows = rows_kept g.only q.rows;
              room = omega (arith, c.only.long);
              begin_is = omega (arith, ends, before_suc fs v, q.begin_is);
              next_is = unfold base in omega (arith, q.next_is);
              numbered = numbered_now;
              only = only_both q.only only_points;
              points =
                  (let e : 3 * free ≡ 3 * (next + (free - next)) = omega arith in ap (λ k. take k ps') e)
                  ∙ c.copied
                  ∙ ap₂ (λ x y. x ++ y) q.points same_copies
                  ∙ append_assoc (take (3 * P) ps₀) (copies_of ps₀ ys v) (each (λ j. part ps₀ (3 * v) 3) (below (extras fs v)))
                  ∙ ap (λ r. take (3 * P) ps₀ ++ r) (sym (each_last (λ u. each (λ j. part ps₀ (3 * u) 3) (below (extras fs u))) v));
            }
          where
            same_copies : each (λ j. part ps (3 * v) 3) (below (free - next)) ≡ each (λ j. part ps₀ (3 * v) 3) (below (extras fs v))
            same_copies =
                let b = bounds in
                ap₂ (λ r k. each (λ j. r) (below k)) (kept q.only (3 * v) 3 (before (omega arith)) (omega (arith, q.only.long))) (let a = added in omega arith)
