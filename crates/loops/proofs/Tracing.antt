-- All vertices in turn: the loops that those below v start are listed. Assumes nothing.
use mathlib.Core.Path.{◌≡◌, refl, ◌∙◌}
use mathlib.Core.List.{List}
use Prim.Native.Nat.{ℕ, ◌+◌, ◌≤◌, ◌<◌}
use native.Mathlib.Omega.{arith}
use lib.ListN.{length}
use Rattle.rows.specs.Region.{Only, Only2}
use Rattle.rows.proofs.Regions.{only_none, only_both, only_more, only2_none, only2_both}
use Rattle.rules.specs.Lists.{below, each, through}
use Rattle.loops.specs.Loops.{Listed, AddAsks, AddGives, TraceAsks, TraceGives}
use Rattle.loops.proofs.Growth.{left_none, vertices_fit, loops_fit}

-- the loops that vertices below v start are listed, and nothing else is written
pub record Listing {w₀ : List ℕ} {P next spare : ℕ} {vs₀ es₀ : List ℕ} (q : TraceAsks w₀ P next spare vs₀ es₀) (w vs es : List ℕ) (total count v : ℕ) : Type 0 where
  pub at_most : v ≤ P
  pub only_work : Only2 next P spare (length q.b) w₀ w
  pub only_vertices : Only 0 total vs₀ vs
  pub only_ends : Only 0 count es₀ es
  pub listed : Listed q.b P next w v vs es total count

-- none at first
pub begin : {w : List ℕ} {P next spare : ℕ} {vs es : List ℕ} (q : TraceAsks w P next spare vs es) → Listing q w vs es 0 0 0
unfolding below through each
begin {w} {P} {next} {spare} {vs} {es} q =
    record {
      at_most = omega arith;
      only_work = only2_none next P spare (length q.b) w;
      only_vertices = only_none 0 0 vs;
      only_ends = only_none 0 0 es;
      listed = record { row = record { each = λ x h. q.row.each x h ∙ left_none P q.b x }; total_is = refl; vertices = refl; count_is = refl; ends = refl };
    }

module _ {w₀ : List ℕ} {P next spare : ℕ} {vs₀ es₀ : List ℕ} (q : TraceAsks w₀ P next spare vs₀ es₀) {w vs es : List ℕ} {total count v : ℕ} (r : (q : TraceAsks w₀ P next spare vs₀ es₀) → Listing q w vs es total count v) where
  -- the invariant at q
  abbrev i : Listing q w vs es total count v
  i = r q

  -- what the next vertex asks
  abbrev pub turn : v < P → AddAsks w P next spare v vs es total count
  turn h =
      let p = q.plan in
      let a = i.only_work.long in
      let b = i.only_vertices.long in
      let c = i.only_ends.long in
      record {
        b = q.b;
        plan = record {
          simple = p.simple;
          inside = p.inside;
          few = p.few;
          short = p.short;
          next_fit = omega (arith, p.next_fit);
          spare_fit = omega (arith, p.spare_fit);
          apart = p.apart;
          room_vertices = omega (arith, p.room_vertices);
          room_ends = omega (arith, p.room_ends);
        };
        here = h;
        listed = i.listed;
      }

  -- one vertex more
  pub again :
      (h : v < P) {w' vs' es' : List ℕ} {total' count' : ℕ} → ((a : AddAsks w P next spare v vs es total count) → AddGives a w' vs' es' total' count')
      → Listing q w' vs' es' total' count' (v + 1)
  again h g =
      let y = g (turn h) in
      record {
        at_most = omega arith;
        only_work = only2_both i.only_work y.only_work;
        only_vertices = only_both (only_more (omega arith) (omega (arith, y.more)) i.only_vertices) y.only_vertices;
        only_ends = only_both (only_more (omega arith) (omega (arith, y.more_ends)) i.only_ends) y.only_ends;
        listed = y.listed;
      }

  -- all at last
  pub done : P ≤ v → TraceGives q w vs es total count
  done h =
      let e : v ≡ P = omega (arith, i.at_most) in
      let d = rw e at i.listed in
      let s = q.plan.simple in
      record {
        only_work = i.only_work;
        only_vertices = i.only_vertices;
        only_ends = i.only_ends;
        listed = d;
        total_fits = omega (arith, d.total_is, vertices_fit q.b s P);
        count_fits = omega (arith, d.count_is, vertices_fit q.b s P, loops_fit q.b s P);
      }
