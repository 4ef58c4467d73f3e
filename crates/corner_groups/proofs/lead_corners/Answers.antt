-- `corner_groups::lead_corners` meets its contract: the rows that the steps leave are what `flood` is given. Assumes nothing.
use mathlib.Core.Path.{◌≡◌, sym, ap, ◌∙◌}
use mathlib.Core.Bool.{false}
use mathlib.Core.List.{List}
use Prim.Native.Nat.{ℕ, ◌+◌, ◌*◌, ◌≤◌, ◌<◌}
use native.Mathlib.Omega.{arith}
use lib.ListN.{length, get_or}
use Rattle.rows.specs.Region.{Apart.before, CopyAsks, CopyGives}
use Rattle.rows.proofs.Regions.{only_both, only_more, kept_at, holds_kept, get_d_part}
use Rattle.rules.specs.Lists.{below}
use Rattle.rules.specs.Mesh.{faces_of}
use Rattle.rule_laws.proofs.Lists.{get_or_map_in, length_below}
use Rattle.rule_laws.proofs.Rising.{get_or_below}
use Rattle.table.specs.Entries.{keys_of, start_of}
use Rattle.table.specs.Table.{TableAsks, TableGives, Tabled}
use Rattle.table.proofs.Places.{start_least, starts_mono, last_start, id_in, tabled_kept}
use Rattle.flood.specs.Plan.{plan, joins, FloodAsks}
use Rattle.flood.specs.Answers.{leader_of, LeadGives}
use Rattle.splitting.specs.Corners.{joined_at}
use Rattle.corner_groups.specs.Sides.{lower_of, higher_of, SidesAsks, SidesGives, ShiftAsks, ShiftGives, CornersAsks, CornersGives}
use Rattle.corner_groups.proofs.Laid.{Laid, flood_asks, leaders_are}
use Rattle.corner_groups.proofs.lead_corners.Goals as goal

table_ok : {w xs : List ℕ} {P at : ℕ} → CornersAsks w xs P at → TableAsks w xs P at
table_ok p = record { whole = p.whole; few = omega (arith, p.few); fit = omega (arith, p.fit); inside = p.inside }

-- the table is made
module _ {w xs : List ℕ} {P at : ℕ} (p : CornersAsks w xs P at) {w₁ : List ℕ} {m : ℕ} (q : TableGives w xs P false at w₁ m) where
  abbrev order : ℕ
  order = at + 5 * length xs + 1 + P

  abbrev starts : ℕ
  starts = at + 5 * length xs + 1 + P + 2 * length xs

  abbrev labels : ℕ
  labels = at + 5 * length xs + 1 + P + 2 * length xs + 2 * length xs + 1

  fit : at + 10 * length xs + 2 + P ≤ length w₁
  fit = omega (arith, q.only.long, p.fit)

  start_in : (r : ℕ) → r ≤ m → start_of false P (faces_of xs) r ≤ length xs
  start_in r h =
      omega (arith, starts_mono false P (faces_of xs) r m h, ap (start_of false P (faces_of xs)) q.tabled.count, last_start q.tabled.asks q.tabled.table)

  runs_in : m ≤ length xs
  runs_in =
      omega (arith, start_in m (omega arith), start_least false P (faces_of xs) (length (keys_of false P (faces_of xs))) (omega arith), ap (start_of false P (faces_of xs)) q.tabled.count, q.tabled.count)

  sides_ok : SidesAsks w₁ xs (at + 3 * length xs) order
  sides_ok =
      record {
        whole = p.whole;
        few = p.few;
        from_fit = omega (arith, fit);
        to_fit = omega (arith, fit);
        apart = before (omega arith);
        id = λ i h. id_in q.tabled.asks q.tabled.table i h;
      }

  -- the corners stand in the table's order
  module _ {w₂ : List ℕ} (s : SidesGives w₁ xs (at + 3 * length xs) order w₂) where
    tabled₂ : Tabled w₂ xs P false at m
    tabled₂ = tabled_kept s.only (before (omega arith)) q.tabled

    copy_ok : CopyAsks w₂ (at + 4 * length xs) m starts
    copy_ok =
        let f = fit in
        let l = s.only.long in
        let k = runs_in in
        record { from_fit = omega arith; to_fit = omega arith; apart = before (omega arith) }

    -- the starts of the lower ends are there
    module _ {w₃ : List ℕ} (k : CopyGives w₂ (at + 4 * length xs) m starts w₃) where
      tabled₃ : Tabled w₃ xs P false at m
      tabled₃ = tabled_kept k.only (before (omega arith)) tabled₂

      shift_ok : ShiftAsks w₃ (at + 4 * length xs) (m + 1) (length xs) (starts + m)
      shift_ok =
          let f = fit in
          let l = s.only.long in
          let j = k.only.long in
          let r = runs_in in
          record {
            from_fit = omega arith;
            to_fit = omega arith;
            apart = before (omega arith);
            small = λ i h. omega (arith, tabled₃.starts.each i h, start_in i (omega arith), p.few);
          }

      -- and those of the higher ends
      module _ {w₄ : List ℕ} (h : ShiftGives w₃ (at + 4 * length xs) (m + 1) (length xs) (starts + m) w₄) where
        id_kept : (i : ℕ) → i < length xs → get_or w₁ (at + 3 * length xs + i) 0 ≡ get_or w₄ (at + 3 * length xs + i) 0
        id_kept i b =
            sym (kept_at h.only {b = at + 3 * length xs} {m = length xs} (before (omega arith)) i b ∙ kept_at k.only {b = at + 3 * length xs} {m = length xs} (before (omega arith)) i b ∙ kept_at s.only {b = at + 3 * length xs} {m = length xs} (before (omega arith)) i b)

        laid : Laid w₄ xs P at m starts order labels
        laid =
            let f = fit in
            let l = s.only.long in
            let j = k.only.long in
            let j' = h.only.long in
            let r = runs_in in
            record {
              tabled = tabled_kept h.only (before (omega arith)) tabled₃;
              few = p.few;
              lows = record { each = λ i b. (holds_kept h.only (before (omega arith)) (holds_kept k.only (before (omega arith)) s.lows)).each i b ∙ ap (lower_of xs) (id_kept i b) };
              highs = record { each = λ i b. (holds_kept h.only (before (omega arith)) (holds_kept k.only (before (omega arith)) s.highs)).each i b ∙ ap (higher_of xs) (id_kept i b) };
              starts_low = record {
                each = λ i b.
                    kept_at h.only {b = starts} {m = m} (before (omega arith)) i b
                    ∙ sym (get_d_part w₃ starts m i b)
                    ∙ ap (λ u. get_or u i 0) k.copied
                    ∙ get_d_part w₂ (at + 4 * length xs) m i b
                    ∙ tabled₂.starts.each i (omega arith);
              };
              starts_high = record { each = λ i b. h.shifted.each i b ∙ ap (λ u. length xs + u) (tabled₃.starts.each i b) };
              starts_in = omega arith;
              order_in = omega arith;
              labels_in = omega arith;
            }

        flood_ok : FloodAsks w₄ (plan (length xs) (2 * m) starts order labels)
        flood_ok = flood_asks laid

        -- and the leaders
        module _ {w₅ : List ℕ} (l : LeadGives w₄ (plan (length xs) (2 * m) starts order labels) w₅) where
          led_at : (i : ℕ) → i < length xs → get_or w₅ (labels + i) 0 ≡ leader_of (joined_at (faces_of xs)) (length xs) i
          led_at i b =
              sym (get_d_part w₅ labels (length xs) i b)
              ∙ ap (λ u. get_or u i 0) l.led
              ∙ get_or_map_in (leader_of (joins w₄ (plan (length xs) (2 * m) starts order labels)) (length xs)) (below (length xs)) i 0 0 (omega (arith, length_below (length xs)))
              ∙ ap (leader_of (joins w₄ (plan (length xs) (2 * m) starts order labels)) (length xs)) (get_or_below (length xs) i b)
              ∙ leaders_are laid i b

          done : CornersGives w xs P at w₅
          done =
              let r = runs_in in
              record {
                only =
                    only_both (only_more (omega arith) (omega arith) q.only)
                    (only_both (only_more (omega arith) (omega arith) s.only)
                    (only_both (only_more (omega arith) (omega arith) k.only)
                    (only_both (only_more (omega arith) (omega arith) h.only) (only_more (omega arith) (omega arith) l.only))));
                zeros =
                    holds_kept l.only (before (omega arith))
                    (holds_kept h.only (before (omega arith)) (holds_kept k.only (before (omega arith)) (holds_kept s.only (before (omega arith)) q.zeros)));
                led = record { each = λ i b. let e : at + 9 * length xs + 2 + P + i ≡ labels + i = omega arith in ap (λ u. get_or w₅ u 0) e ∙ led_at i b };
              }

pub sides-requires : goal.sides-requires
sides-requires c = let at_table = c.before.before.before in
    let start = at_table.before.before.before.before in
    sides_ok start.requires at_table.table-m.ensures

pub copy-requires : goal.copy-requires
copy-requires c = let at-sides = c.before.before.before in
    let at_table = at-sides.before.before.before.before in
    let start = at_table.before.before.before.before in
    copy_ok start.requires at_table.table-m.ensures at-sides.sides.ensures

pub shift-requires : goal.shift-requires
shift-requires c = let at_copy = c.before.before.before in
    let at-sides = at_copy.before.before.before.before in
    let at_table = at-sides.before.before.before.before in
    let start = at_table.before.before.before.before in
    shift_ok start.requires at_table.table-m.ensures at-sides.sides.ensures at_copy.copy.ensures

pub lead_all-requires : goal.lead_all-requires
lead_all-requires c = let at-shift = c.before.before.before in
    let at_copy = at-shift.before.before.before.before in
    let at-sides = at_copy.before.before.before.before in
    let at_table = at-sides.before.before.before.before in
    let start = at_table.before.before.before.before in
    flood_ok start.requires at_table.table-m.ensures at-sides.sides.ensures at_copy.copy.ensures at-shift.shift.ensures

pub returns : goal.returns
returns c = let at-lead-all = c.before.before in
    let at-shift = at-lead-all.before.before.before.before in
    let at_copy = at-shift.before.before.before.before in
    let at-sides = at_copy.before.before.before.before in
    let at_table = at-sides.before.before.before.before in
    let start = at_table.before.before.before.before in
    done start.requires at_table.table-m.ensures at-sides.sides.ensures at_copy.copy.ensures at-shift.shift.ensures at-lead-all.lead_all.ensures
