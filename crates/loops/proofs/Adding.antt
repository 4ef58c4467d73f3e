-- One vertex more in the rooms: the loop that it starts is listed behind the others, or nothing changes. Assumes nothing.
use mathlib.Core.Path.{◌≡◌, refl, sym, ap, ap₂, ◌∙◌, subst}
use mathlib.Core.Bool.{Bool, true, false, cond}
use mathlib.Core.List.{List, [], ◌∷◌, ◌++◌}
use Prim.Native.Nat.{ℕ, ◌+◌, ◌^◌, ◌≤◌, ◌<◌}
use native.Mathlib.Nat.{zero-add}
use native.Mathlib.Omega.{arith}
use native.Mathlib.Numerals.{add-one}
use lib.ListN.{length, set, length-append}
use lib.Seq.{take-suc-set}
use Rattle.rows.specs.Region.{part, Out, Out.below, Out.above, Apart, Apart.before, Apart.after, Only2, Holds}
use Rattle.rows.proofs.Regions.{kept, part_add, only_none, only_set, only_more}
use Rattle.rules.specs.Lists.{any, has}
use Rattle.rules.specs.Edges.{turn}
use Rattle.rule_laws.proofs.Along.{down}
use Rattle.rule_laws.proofs.Growing.{vertices}
use Rattle.loops.specs.Walks.{WalkAsks, WalkGives, MirrorAsks, MirrorGives}
use Rattle.loops.specs.Loops.{loops_to, AddAsks, AddGives}
use Rattle.loops.proofs.Mirrored.{length_down, mirrored_is}
use Rattle.loops.proofs.Growth.{starts, same_loops, more_loops, new-loop, vertices_more, ends_more, left_more, vertices_fit, loops_fit, at, at_on, at_leads, at_zero, at_back, at_differ, at_within, at_least}

-- a part of a region is apart from what the region is apart from
pub apart_less : {a n b m k : ℕ} → k ≤ m → Apart a n b m → Apart a n b k
apart_less l (before h) = before h
apart_less l (after h) = after (omega arith)

-- the second region may be larger
pub only2_more : {a n b m k : ℕ} {w w' : List ℕ} → k ≤ m → Only2 a n b k w w' → Only2 a n b m w w'
only2_more {a} {n} {b} {m} {k} l o = record { long = o.long; same = λ j p r. o.same j p (wider j r) }
  where
    wider : (j : ℕ) → Out b m j → Out b k j
    wider j (below h) = below h
    wider j (above h) = above (omega arith)

-- the rooms are long enough for a loop of n vertices more
pub record Fits (spare n total count vs es w : ℕ) : Type 0 where
  pub spare_fit : spare + n ≤ w
  pub vertices_fit : total + n ≤ vs
  pub ends_fit : count + 1 ≤ es
  pub few : total + n < 2 ^ 32
  pub few_ends : count + 1 < 2 ^ 32

module _ {w : List ℕ} {P next spare v : ℕ} {vs es : List ℕ} {total count : ℕ} (q : AddAsks w P next spare v vs es total count) where
  -- the loops so far
  abbrev ls : List (List ℕ)
  ls = loops_to q.b v

  -- where v starts no loop, the walk ends at once
  abbrev no_walk : starts q.b ls v ≡ false → WalkAsks w P next spare v
  no_walk e =
      let p = q.plan in
      record {
        n = 0;
        at = λ k. v;
        few = p.few;
        next_fit = p.next_fit;
        spare_fit = omega (arith, p.spare_fit);
        apart = apart_less (omega arith) p.apart;
        begins = refl;
        inside = λ k h. q.here;
        steps = λ k h. absurd (omega arith);
        differ = λ k l h i. absurd (omega arith);
        stays = λ z. rw (q.listed.row.each v q.here, e) (omega arith);
        back = λ h. absurd (omega arith);
      }

  -- where it does, the walk is the loop
  abbrev new-walk : starts q.b ls v ≡ true → WalkAsks w P next spare v
  new-walk e =
      let p = q.plan in
      let s = p.simple in
      let inside : (k : ℕ) → at q.b s v e k < P = λ k. let o = at_on q.b s v e k in rw (← o.2) (p.inside o.0 o.1).0 in
      record {
        n = turn q.b v;
        at = at q.b s v e;
        few = p.few;
        next_fit = p.next_fit;
        spare_fit = omega (arith, p.spare_fit, at_within q.b s v e);
        apart = apart_less (at_within q.b s v e) p.apart;
        begins = at_zero q.b s v e;
        inside = λ k h. inside k;
        steps = λ k h. q.listed.row.each (at q.b s v e k) (inside k) ∙ at_leads q.b s v e P k h;
        differ = at_differ q.b s v e;
        stays = λ z. absurd (omega (arith, at_least q.b s v e));
        back = λ h. at_back q.b s v e;
      }

  -- what the walk asks
  pub walk_asks : WalkAsks w P next spare v
  walk_asks = go (starts q.b ls v) refl
    where
      go : (t : Bool) → starts q.b ls v ≡ t → WalkAsks w P next spare v
      go true e = new-walk e
      go false e = no_walk e

  module _ {w' : List ℕ} {n : ℕ} (g : (a : WalkAsks w P next spare v) → WalkGives a w' n) where
    -- ---- nothing was passed

    -- the loops are the same
    pub nothing : n ≡ 0 → AddGives q w' vs es total count
    unfolding down has any
    nothing z = go (starts q.b ls v) refl
      where
        go : (t : Bool) → starts q.b ls v ≡ t → AddGives q w' vs es total count
        go true e = absurd (omega (arith, (g (new-walk e)).count, at_least q.b q.plan.simple v e))
        go false e =
            let y = g (no_walk e) in
            let s : loops_to q.b (v + 1) ≡ ls = ap (loops_to q.b) (add-one v) ∙ same_loops q.b v e in
            let d = q.listed in
            record {
              more = omega arith;
              more_ends = omega arith;
              only_work = only2_more (omega arith) y.only;
              only_vertices = only_none 0 total vs;
              only_ends = only_none 0 count es;
              listed = record {
                row = rw s (record { each = λ x h. y.marked.each x h ∙ d.row.each x h });
                total_is = rw s d.total_is;
                vertices = rw s d.vertices;
                count_is = rw s d.count_is;
                ends = rw s d.ends;
              };
            }

    -- ---- a loop was passed

    module _ (h : n ≡ 0 → ⊥) where
      -- v starts it
      is_new : starts q.b ls v ≡ true
      is_new = go (starts q.b ls v) refl
        where
          go : (t : Bool) → starts q.b ls v ≡ t → t ≡ true
          go true e = refl
          go false e = absurd (h (g (no_walk e)).count)

      -- what the walk gave
      y : WalkGives (new-walk is_new) w' n
      y = g (new-walk is_new)

      -- the loop
      abbrev loop : List ℕ
      loop = new-loop q.b q.plan.simple v is_new

      -- the loops with it
      grown : loops_to q.b (v + 1) ≡ ls ++ (loop ∷ [])
      grown = ap (loops_to q.b) (add-one v) ∙ more_loops q.b q.plan.simple v is_new

      -- it has n vertices
      loop_long : length loop ≡ n
      loop_long = length_down (at q.b q.plan.simple v is_new) (turn q.b v) ∙ sym y.count

      -- so the rooms are long enough
      pub fits : Fits spare n total count (length vs) (length es) (length w')
      fits =
          let p = q.plan in
          let d = q.listed in
          let s = p.simple in
          let c = rw (grown, vertices_more ls loop, length-append (vertices ls) loop, loop_long) at (vertices_fit q.b s (v + 1)) in
          let k = rw (grown, vertices_more ls loop, length-append (vertices ls) loop, loop_long, length-append ls (loop ∷ [])) at (loops_fit q.b s (v + 1)) in
          let l = y.only.long in
          record {
            spare_fit = omega (arith, p.spare_fit, c);
            vertices_fit = omega (arith, p.room_vertices, c, d.total_is);
            ends_fit = omega (arith, p.room_ends, c, k, d.count_is);
            few = omega (arith, p.short, c, d.total_is);
            few_ends = omega (arith, p.short, c, k, d.count_is);
          }

      -- what the reversed listing asks
      pub mirror_asks : MirrorAsks w' spare n vs total
      mirror_asks = record { spare_fit = fits.spare_fit; room = fits.vertices_fit }

      -- and gives: the loop behind the others, and one end more
      pub something : {vs' : List ℕ} → MirrorGives w' spare n vs total vs' → AddGives q w' vs' (set es count (total + n)) (total + n) (count + 1)
      something {vs'} m =
          let d = q.listed in
          let f = fits in
          let l = m.only.long in
          let t = d.total_is in
          let passed : Holds spare n (at q.b q.plan.simple v is_new) w' = subst (λ k. Holds spare k (at q.b q.plan.simple v is_new) w') (sym y.count) y.listed in
          let piece : part vs' total n ≡ loop = mirrored_is mirror_asks m passed ∙ ap (down (at q.b q.plan.simple v is_new)) y.count in
          record {
            more = omega arith;
            more_ends = omega arith;
            only_work = only2_more (at_within q.b q.plan.simple v is_new) y.only;
            only_vertices = only_more (omega arith) (omega arith) m.only;
            only_ends = only_set es count (total + n) (omega arith) (omega arith);
            listed = record {
              row = rw grown (record { each = λ x h. y.marked.each x h ∙ ap (cond (has x loop) P) (d.row.each x h) ∙ left_more P q.b ls loop x });
              total_is = rw (grown, vertices_more ls loop, length-append (vertices ls) loop, loop_long, ← t);
              vertices =
                  rw (grown, vertices_more ls loop)
                  (part_add vs' 0 total n
                  ∙ ap₂ (λ a b. a ++ b) (kept m.only 0 total (before (omega arith)) (omega arith) ∙ d.vertices) (ap (λ j. part vs' j n) (zero-add total) ∙ piece));
              count_is = rw (grown, length-append ls (loop ∷ []), ← d.count_is);
              ends =
                  rw (grown, ends_more ls loop, add-one count, take-suc-set es count (total + n) (omega (arith, f)), d.ends, loop_long, ← t);
            };
          }
