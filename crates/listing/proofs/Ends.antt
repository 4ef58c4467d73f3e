-- The ends of the edges, written edge by edge, and that they are the rules'. Assumes nothing.
use mathlib.Core.Path.{◌≡◌, refl, sym, ap, ◌∙◌}
use mathlib.Core.Bool.{false}
use mathlib.Core.List.{List}
use Prim.Native.Nat.{ℕ, ◌+◌, ◌-◌, ◌*◌, ◌≤◌, ◌<◌}
use native.Mathlib.Omega.{arith}
use lib.ListN.{length, take, set}
use Rattle.rows.specs.Region.{Only, Filled, Apart.before}
use Rattle.rows.proofs.Regions.{only_none, only_both, only_more, kept}
use Rattle.rules.specs.Lists.{below, each}
use Rattle.rules.specs.Mesh.{faces_of}
use Rattle.rules.specs.Steps.{edges}
use Rattle.rules.specs.Edges.{both_ends}
use Rattle.rule_laws.proofs.Lists.{each_map}
use Rattle.table.specs.Entries.{keys_of}
use Rattle.table.proofs.Places.{start_least, last_start}
use Rattle.table.proofs.Theorems.{edges_row}
use Rattle.table.proofs.Handing.{AtRun, at_run}
use Rattle.filling.proofs.Filling.{filled_is}
use Rattle.listing.specs.Listing.{EdgesAsks, EdgesGives, ListGives, key_row}
use Rattle.listing.proofs.Blocks.{block_next, two_only, two_part}

-- the first r edges stand at the front
pub record Ends (w : List ℕ) (n at m : ℕ) (e₀ e : List ℕ) (r : ℕ) : Type 0 where
  pub at_most : r ≤ m
  pub only : Only 0 (2 * r) e₀ e
  pub front : take (2 * r) e ≡ each (λ k. both_ends (key_row w n at k)) (below r)

-- the bounds of a turn
pub record Turn (w xs : List ℕ) (at m : ℕ) (e : List ℕ) (r : ℕ) : Type 0 where
  pub run : AtRun w xs at m r
  pub room : 2 * length xs ≤ length e

-- none does at first
pub begin : {w xs : List ℕ} {at m : ℕ} {e : List ℕ} → EdgesAsks w xs at m e → Ends w (length xs) at m e e 0
begin {w} {xs} {at} {m} {e} q = unfold below each in record { at_most = omega arith; only = only_none 0 0 e; front = refl }

module _ {w xs : List ℕ} {at m : ℕ} {e₀ e : List ℕ} {r : ℕ} (q : EdgesAsks w xs at m e₀) (v : Ends w (length xs) at m e₀ e r) where
  module _ (h : r < m) where
    -- the reads and the stores of a turn are in bounds
    pub turn : Turn w xs at m e r
    turn = record { run = at_run q.tabled r h; room = omega (arith, q.room, v.only.long) }

    -- one edge more
    pub again : Ends w (length xs) at m e₀ (set (set e (2 * r) (key_row w (length xs) at r).from) (2 * r + 1) (key_row w (length xs) at r).to) (r + 1)
    again =
        let t = turn in
        let b = t.run.runs in
        let f : 2 * r + 2 ≤ length e = omega (arith, t.room) in
        let x = (key_row w (length xs) at r).from in
        let y = (key_row w (length xs) at r).to in
        let s : 2 * (r + 1) ≡ 2 * r + 2 = omega arith in
        record {
          at_most = omega arith;
          only = only_both (only_more (omega arith) (omega arith) v.only) (only_more (omega arith) (omega arith) (two_only e (2 * r) x y f));
          front = ap (λ j. take j (set (set e (2 * r) x) (2 * r + 1) y)) s ∙ block_next 2 (λ k. both_ends (key_row w (length xs) at k)) (two_only e (2 * r) x y f) f v.front (two_part e (2 * r) x y f);
        }

  -- all do at last
  pub done : m ≤ r → EdgesGives w xs at m e₀ e
  done h =
      let s : r ≡ m = omega arith in
      record { only = rw s at v.only; front = rw s at v.front }

-- ---- the room, once the rest is cleared

module _ {w xs : List ℕ} {at m : ℕ} {e₀ : List ℕ} (q : EdgesAsks w xs at m e₀) where
  -- the ends of all runs are those of the rules' edges
  all_ends : each (λ k. both_ends (key_row w (length xs) at k)) (below m) ≡ each both_ends (edges q.P (faces_of xs))
  all_ends = sym (each_map both_ends (key_row w (length xs) at) (below m)) ∙ ap (each both_ends) (edges_row q.tabled)

  -- there are no more edges than entries
  pub fewer : m ≤ length xs
  fewer =
      let t = q.tabled in
      let c = t.count in
      omega (arith, start_least false q.P (faces_of xs) (length (keys_of false q.P (faces_of xs))) (omega arith), last_start t.asks t.table)

  module _ {e : List ℕ} (g : EdgesGives w xs at m e₀ e) where
    -- the rest of the room is there
    pub rest_fits : 2 * m + (2 * length xs - 2 * m) ≤ length e
    rest_fits = omega (arith, fewer, q.room, g.only.long)

    -- once it is cleared, the room is the rules'
    pub room_done : {e' : List ℕ} → Only (2 * m) (2 * length xs - 2 * m) e e' → Filled (2 * m) (2 * length xs - 2 * m) 0 e' → ListGives q e'
    room_done {e'} o z =
        let l = rest_fits in
        record {
          long = o.long ∙ g.only.long;
          front = kept o 0 (2 * m) (before (omega arith)) (omega arith) ∙ g.front ∙ all_ends;
          whole = filled_is q.room (omega (arith, fewer)) g.only (g.front ∙ all_ends) o z;
        }
