-- `split_rows_try::run` meets its contract. Assumes nothing.
use mathlib.Core.List.{List}
use Prim.Native.Nat.{ℕ, ◌+◌, ◌*◌}
use native.Mathlib.Omega.{arith}
use Rattle.split_bowtie_vertices.specs.Splits.{taken}
use Rattle.split_rows.specs.Rows.{SplitAsks, SplitGives, TakersAsks, TakersGives, FlagsAsks}
use Rattle.split_rows_try.proofs.run.Goals as goal

module _ {xs : List ℕ} {n P : ℕ} {w : List ℕ} (p : SplitAsks xs n P w (taken P n)) {xs' w₁ : List ℕ} {k : ℕ} (g : SplitGives xs n P w (taken P n) xs' w₁ k) where
  takers_ok : TakersAsks w₁ xs' n (P + k) (3 * n) (3 * n + (P + k))
  takers_ok =
      let a = g.only_faces.long in
      let b = g.only_work.long in
      record {
        few = omega (arith, p.stand.few);
        fit = omega (arith, p.stand.fit);
        inside = g.inside;
        first = omega arith;
        second = omega arith;
        room = omega (arith, p.room, g.most);
      }

  flags_ok : {w₂ : List ℕ} → TakersGives w₁ xs' n (P + k) (3 * n) (3 * n + (P + k)) w₂ → FlagsAsks xs' n (P + k) w₂ (3 * n)
  flags_ok t =
      let a = g.only_faces.long in
      let b = g.only_work.long in
      let c = t.only.long in
      record { fit = omega (arith, p.stand.fit); inside = g.inside; room = omega (arith, p.room, g.most) }

pub sort_takers-requires : goal.sort_takers-requires
sort_takers-requires g c = let at-row2 = c.before.before in
    let at_row = at-row2.before.before in
    let at_number = at_row.before.before.before in
    let at-split-rows = at_number.before.before.before.before.before in
    let start = at-split-rows.before.before.before.before.before in
    takers_ok start.requires at-split-rows.split_rows-k.ensures

pub mark_unused-requires : goal.mark_unused-requires
mark_unused-requires g c = let at-row3 = c.before.before in
    let at-sort-takers = at-row3.before.before.before.before.before in
    let at-row2 = at-sort-takers.before.before.before in
    let at_row = at-row2.before.before in
    let at_number = at_row.before.before.before in
    let at-split-rows = at_number.before.before.before.before.before in
    let start = at-split-rows.before.before.before.before.before in
    flags_ok start.requires at-split-rows.split_rows-k.ensures at-sort-takers.sort_takers.ensures

pub offset_bounds-work-m : goal.offset_bounds-work-m
offset_bounds-work-m g c = let at-mark-unused = c.before.before in
    let at-row3 = at-mark-unused.before.before.before in
    let at-sort-takers = at-row3.before.before.before.before.before in
    let at-row2 = at-sort-takers.before.before.before in
    let at_row = at-row2.before.before in
    let at_number = at_row.before.before.before in
    let at-split-rows = at_number.before.before.before.before.before in
    let start = at-split-rows.before.before.before.before.before in
    omega (arith, start.requires.stand.few)
