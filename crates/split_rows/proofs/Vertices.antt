-- One vertex more is split: its groups have numbers, and it stands as the old point of each. Assumes nothing.
use mathlib.Core.Path.{◌≡◌, refl, sym, ap, ap₂, ◌∙◌}
use mathlib.Core.List.{List, ◌++◌}
use Prim.Native.Nat.{ℕ, suc, ◌+◌, ◌*◌, ◌-◌, ◌^◌, ◌≤◌, ◌<◌}
use native.Mathlib.Omega.{arith}
use lib.ListN.{length, get_or, replicate}
use Rattle.rows.specs.Region.{part, Out.below, Only, Only2, Filled, Apart.before, Apart.after}
use Rattle.rows.proofs.Regions.{part_add, kept, holds_kept, only_more, only2_left, only2_right, only2_both}
use Rattle.rules.specs.Lists.{each}
use Rattle.rules.specs.Lists as lists
use Rattle.rules.specs.Mesh.{Face, faces_of}
use Rattle.splitting.specs.Corners.{corners_at, extras, base}
use Rattle.splitting.proofs.Goals.{base_least}
use Rattle.corner_numbers.specs.Numbers.{EndAsks, EndGives, RunAsks, RunGives}
use Rattle.split_bowtie_vertices.specs.Splits as splits
use Rattle.split_bowtie_vertices.proofs.Places.{is_corner, base_most, few_extras, run_fits}
use Rattle.split_bowtie_vertices.proofs.Vertices.{end_asks, run_asks, added, copies_asks, onward}
use Rattle.table.proofs.Ids.{three_faces}
use Rattle.filling.proofs.Filling.{part_same}
use Rattle.split_laws.specs.Olds.{olds_to}
use Rattle.split_laws.proofs.Lines.{olds_next}
use Rattle.split_rows.specs.Rows.{Reached}
use Rattle.split_rows.proofs.Blank.{blank, copies_give, over_blank}

-- the rows stay while something behind them is written
pub rows_behind : {ys : List ℕ} {P a n : ℕ} {w w' : List ℕ} → 14 * length ys + 2 + P ≤ a → Only a n w w' → splits.Rows ys P w → splits.Rows ys P w'
rows_behind {ys} {P} h o r =
    record {
      whole = r.whole;
      few = r.few;
      fit = omega (arith, r.fit, o.long);
      inside = r.inside;
      column = holds_kept o (before (omega arith)) r.column;
      led = holds_kept o (before (omega arith)) r.led;
      sorted = kept o (12 * length ys + 2 + P) (length ys) (before (omega arith)) (omega (arith, r.fit)) ∙ r.sorted;
    }

-- before the first vertex
pub at_first : {ys : List ℕ} {P olds : ℕ} {w : List ℕ} → splits.Rows ys P w → 14 * length ys + 2 + P ≤ olds → olds + length ys ≤ length w → Reached ys P olds 0 w 0 P
at_first {ys} {P} {olds} {w} r h l =
    record {
      rows = r;
      behind = h;
      room = l;
      begin_is = unfold each lists.below in refl;
      next_is = unfold base in refl;
      numbered = λ v j a b. absurd (omega arith);
      old = (let z : P - P ≡ 0 = omega arith in ap (part w olds) z) ∙ (unfold olds_to each lists.below in refl);
    }

module _ {ys : List ℕ} {P olds v : ℕ} {w : List ℕ} {begin next : ℕ} (h : v < P) (q : Reached ys P olds v w begin next) where
  -- the faces
  abbrev fs : List Face
  fs = faces_of ys

  -- over blank points
  over : splits.Reached ys P (blank (3 * (P + length ys))) v (blank (3 * (P + length ys))) w begin next
  over = over_blank (omega arith) q

  -- what is asked of the run
  pub end_ok : EndAsks w (12 * length ys + 2 + P) begin (length ys)
  end_ok = end_asks h over

  module _ {end : ℕ} (e : EndGives w (12 * length ys + 2 + P) begin (length ys) v end) where
    pub run_ok : RunAsks w (12 * length ys + 2 + P + begin) (end - begin) (10 * length ys + 2 + P) (13 * length ys + 2 + P) (length ys) v next
    run_ok = run_asks h over e

    module _ {w' : List ℕ} {free : ℕ} (g : RunGives w (12 * length ys + 2 + P + begin) (end - begin) (10 * length ys + 2 + P) (13 * length ys + 2 + P) (length ys) v next w' free) where
      -- how far the old points go
      pub record Bounds : Type 0 where
        pub few : 2 * length ys + P < 2 ^ 31
        pub vertex : v < P
        pub least : P ≤ next
        pub free_is : free ≡ next + extras fs v
        pub most : free ≤ P + length ys
        pub behind : 14 * length ys + 2 + P ≤ olds
        pub room : olds + length ys ≤ length w
        pub long : length w' ≡ length w

      pub bounds : Bounds
      bounds =
          record {
            few = q.rows.few;
            vertex = h;
            least = omega (arith, base_least fs P v, q.next_is);
            free_is = added h over e g;
            most = omega (arith, added h over e g, q.next_is, base_most fs P v, few_extras fs v, run_fits q.rows v h);
            behind = q.behind;
            room = q.room;
            long = g.only.long;
          }

      -- all but the old points
      numbered : splits.Reached ys P (blank (3 * (P + length ys))) (suc v) (blank (3 * (P + length ys))) w' end free
      numbered = onward h over e g (copies_give (3 * (P + length ys)) v next (free - next) (copies_asks h over e g))

      -- and the old points
      module _ {w'' : List ℕ} (o : Only (olds + (next - P)) (free - next) w' w'') (f : Filled (olds + (next - P)) (free - next) v w'') where
        old_row : part w'' olds (free - P) ≡ olds_to fs (suc v)
        old_row =
            let b = bounds in
            (let s : free - P ≡ (next - P) + (free - next) = omega (arith, b) in ap (part w'' olds) s)
            ∙ part_add w'' olds (next - P) (free - next)
            ∙ ap₂ (λ a c. a ++ c)
            (kept o olds (next - P) (before (omega arith)) (omega (arith, b))
            ∙ kept g.only olds (next - P) (after (omega (arith, b))) (omega (arith, b))
            ∙ q.old)
            (part_same (omega (arith, b, o.long)) f ∙ (let s : free - next ≡ extras fs v = omega (arith, b) in ap (λ n. replicate n v) s))
            ∙ sym (olds_next fs v)

        pub onwards : Reached ys P olds (suc v) w'' end free
        onwards =
            let b = bounds in
            let s = numbered in
            record {
              rows = rows_behind (omega (arith, b)) o s.rows;
              behind = b.behind;
              room = omega (arith, b, o.long);
              begin_is = s.begin_is;
              next_is = s.next_is;
              numbered = λ u j l k.
                  o.same (13 * length ys + 2 + P + get_or (corners_at fs u) j 0) (below (omega (arith, b, (is_corner fs u j k).0, three_faces ys q.rows.whole)))
                  ∙ s.numbered u j l k;
              old = old_row;
            }

        pub only_both_rows : Only2 (13 * length ys + 2 + P) (length ys) olds (length ys) w w''
        only_both_rows = let b = bounds in only2_both (only2_left g.only) (only2_right (only_more (omega arith) (omega (arith, b)) o))
