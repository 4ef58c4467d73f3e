-- `flood::join_all` meets its contract: each turn joins the things of one run. Assumes nothing.
use mathlib.Core.Path.{◌≡◌, refl, sym, ap, ◌∙◌}
use mathlib.Core.List.{List}
use Prim.Native.Nat.{ℕ, ◌+◌, ◌≤◌, ◌<◌}
use native.Mathlib.Omega.{arith}
use borrow.Author.Count.{below_more}
use lib.Dec.{T}
use lib.ListN.{length}
use Rattle.rows.proofs.Regions.{only_none, only_both}
use Rattle.rule_laws.proofs.Groups.{group_self}
use Rattle.flood.specs.Plan.{Plan, plan, begins, thing, members, joins, FloodAsks}
use Rattle.flood.specs.Uniting.{RunAsks, RunGives, AllAsks, AllGives}
use Rattle.flood.proofs.Runs.{begins_le, ends_le, begins_kept, thing_kept, apart_less, asks_kept, meets_turns, joins_intro, joined_same}
use Rattle.flood.proofs.join_all.Invariants.{Inv}
use Rattle.flood.proofs.join_all.Goals as goal

-- at first each thing is its own root
begin : {w : List ℕ} {runs starts order labels : ℕ} (q : AllAsks w runs starts order labels) → Inv q w 0
begin {w} {runs} {starts} {order} {labels} q =
    record {
      at_most = omega arith;
      only = only_none _ _ _;
      root = λ x. x;
      forest = record {
        few = q.asks.few;
        fit = q.asks.labels_fit;
        down = λ x h. omega (arith, q.own.each x h);
        along = λ x h. q.own.each x h;
        fixed = λ x h e. refl;
      };
      within = record { each = λ x h. group_self (joins w (plan q.things runs starts order labels)) q.things x h };
      same = λ s h. absurd (omega arith);
    }

-- the bounds of a turn
record Turn (runs starts order : ℕ) (w : List ℕ) (r from to l : ℕ) : Type 0 where
  is_run : r < runs
  starts_fit : starts + (runs + 1) ≤ length w
  rising : from ≤ to
  ends : order + to ≤ length w
  long : length w ≡ l

module _ {w₀ : List ℕ} {runs starts order labels : ℕ} {w : List ℕ} {r : ℕ} (q : AllAsks w₀ runs starts order labels) (u : (q : AllAsks w₀ runs starts order labels) → Inv q w r) where
  abbrev g : Plan
  g = plan q.things runs starts order labels

  abbrev v : Inv q w r
  v = u q

  -- the rows but the labels are as they were
  asks : FloodAsks w g
  asks = asks_kept q.asks v.only

  module _ (h : r < runs) where
    turn : Turn runs starts order w r (begins w g r) (begins w g (r + 1)) (length w₀)
    turn = record { is_run = h; starts_fit = asks.starts_fit; rising = asks.rising r h; ends = omega (arith, ends_le asks r h, asks.order_fit); long = v.only.long }

    -- where the run begins and ends, and its things, are as they were
    was_from : begins w g r ≡ begins w₀ g r
    was_from = begins_kept q.asks v.only r (omega arith)

    was_to : begins w g (r + 1) ≡ begins w₀ g (r + 1)
    was_to = begins_kept q.asks v.only (r + 1) (omega arith)

    was_thing : (p : ℕ) → p < begins w g (r + 1) → thing w g p ≡ thing w₀ g p
    was_thing p l = thing_kept q.asks v.only p (omega (arith, was_to, ends_le q.asks r h))

    -- its neighbours are joined, by the run itself
    joint : (p : ℕ) → begins w g r ≤ p → p + 1 < begins w g (r + 1) → T (joins w₀ g (thing w g p) (thing w g (p + 1)))
    joint p l b =
        let from = was_from in
        let to = was_to in
        rw (was_thing p (omega arith), was_thing (p + 1) b) (joins_intro q.asks r p (p + 1) h (omega arith) (omega arith) (omega arith) (omega arith))

    abbrev ask : RunAsks w labels order (begins w g r) (begins w g (r + 1))
    ask =
        record {
          n = q.things;
          root = v.root;
          forest = v.forest;
          joined = joins w₀ g;
          turns = meets_turns (members w₀ g);
          within = v.within;
          rising = asks.rising r h;
          fit = turn.ends;
          apart = apart_less (ends_le asks r h) asks.order_apart;
          inside = λ p l b. asks.inside p (omega (arith, begins_le asks 0 r (omega arith) (omega arith))) (omega (arith, ends_le asks r h));
          joint = joint;
        }

    module _ {w' : List ℕ} (j : (p : RunAsks w labels order (begins w g r) (begins w g (r + 1))) → RunGives p w') where
      -- its neighbours have one root, also in the row as it was
      here : (p : ℕ) → begins w₀ g r ≤ p → p + 1 < begins w₀ g (r + 1) → (j ask).new (thing w₀ g p) ≡ (j ask).new (thing w₀ g (p + 1))
      here p l b =
          let from = was_from in
          let to = was_to in
          ap (j ask).new (sym (was_thing p (omega arith))) ∙ (j ask).same p (omega arith) (omega arith) ∙ ap (j ask).new (was_thing (p + 1) (omega arith))

      -- those of the runs before still have
      again : Inv q w' (r + 1)
      again =
          record {
            at_most = omega arith;
            only = only_both v.only (j ask).only;
            root = (j ask).new;
            forest = (j ask).forest;
            within = (j ask).within;
            same = below_more (λ s. (p : ℕ) → begins w₀ g s ≤ p → p + 1 < begins w₀ g (s + 1) → (j ask).new (thing w₀ g p) ≡ (j ask).new (thing w₀ g (p + 1))) r
                (λ s k p l b. (j ask).finer.each (thing w₀ g p) (thing w₀ g (p + 1)) (v.same s k p l b)) here;
          }

  -- when all runs are passed, the neighbours of each have one root, and so what is joined
  done : runs ≤ r → AllGives q w
  done l =
      record {
        only = v.only;
        united = record {
          root = v.root;
          forest = v.forest;
          within = v.within;
          same = λ x y hx hy t. joined_same q.asks v.root (λ s k. v.same s (omega arith)) x y t;
        };
      }

pub loop-r-init : goal.loop-r-init
loop-r-init c = begin

pub join_run-requires : goal.join_run-requires
join_run-requires c = ask c.requires c.loop-r.invariant c.loop-r-test.true

pub loop-r-preserved : goal.loop-r-preserved
loop-r-preserved c = λ q. again q c.loop-r.invariant c.loop-r-test.true c.join_run.ensures

pub shape_of-work : goal.shape_of-work
shape_of-work c = (c.loop-r.invariant c.requires).only.long

pub returns : goal.returns
returns c = λ q. done q c.loop-r.invariant c.loop-r-test.false
