-- `flood::join_run` meets its contract: each turn joins two neighbours of the run. Assumes nothing.
use mathlib.Core.Path.{◌≡◌, sym, ap, ◌∙◌}
use mathlib.Core.List.{List}
use Prim.Native.Nat.{ℕ, ◌+◌, ◌-◌, ◌^◌, ◌≤◌, ◌<◌}
use native.Mathlib.Omega.{arith}
use borrow.Author.Count.{below_more}
use lib.Dec.{T}
use lib.ListN.{length, get_or}
use Rattle.rows.proofs.Regions.{only_none, only_both, kept_at}
use Rattle.flood.specs.Parents.{merged, JoinAsks, JoinGives}
use Rattle.flood.specs.Uniting.{RunAsks, RunGives}
use Rattle.flood.proofs.Merging.{finer_none, finer_both, merged_finer, merged_one, merged_within}
use Rattle.flood.proofs.join_run.Invariants.{Inv}
use Rattle.flood.proofs.join_run.Goals as goal

-- at first there is one place, and nothing to show
begin : {w : List ℕ} {labels order from to : ℕ} (q : RunAsks w labels order from to) → Inv q w from
begin q =
    record {
      at_least = omega arith;
      at_most = q.rising;
      only = only_none _ _ _;
      new = q.root;
      forest = q.forest;
      within = q.within;
      finer = finer_none q.root;
      same = λ p l h. absurd (omega arith);
    }

-- the bounds of a turn
record Turn (order n : ℕ) (w : List ℕ) (i x y : ℕ) : Type 0 where
  place_fits : order + (i + 1) < length w
  is_x : x < n
  is_y : y < n
  few : n ≤ 2 ^ 32

module _ {w₀ : List ℕ} {labels order from to : ℕ} {w : List ℕ} {k : ℕ} (q : RunAsks w₀ labels order from to) (u : (q : RunAsks w₀ labels order from to) → Inv q w k) where
  abbrev v : Inv q w k
  v = u q

  module _ {i : ℕ} (e : i ≡ k + 1) (h : i < to) where
    -- the two neighbours, which are as they were
    abbrev x : ℕ
    x = get_or w (order + k) 0

    abbrev y : ℕ
    y = get_or w (order + i) 0

    ex : x ≡ get_or w₀ (order + k) 0
    ex = kept_at v.only q.apart k (omega arith)

    ey : y ≡ get_or w₀ (order + (k + 1)) 0
    ey = ap (λ (j : ℕ). get_or w (order + j) 0) e ∙ kept_at v.only q.apart (k + 1) (omega arith)

    turn : Turn order q.n w k x y
    turn =
        let l = v.only.long in
        record {
          place_fits = omega (arith, q.fit);
          is_x = omega (arith, ex, q.inside k v.at_least (omega arith));
          is_y = omega (arith, ey, q.inside (k + 1) (omega (arith, v.at_least)) (omega arith));
          few = q.forest.few;
        }

    -- they are joined, and so may have one root
    joint : T (q.joined x y)
    joint = rw (ex, ey) (q.joint k v.at_least (omega arith))

    abbrev ask : JoinAsks w labels x y
    ask = record { n = q.n; root = v.new; forest = v.forest; is_thing = turn.is_x; is_thing_2 = turn.is_y }

    module _ {w' : List ℕ} (j : (p : JoinAsks w labels x y) → JoinGives p w') where
      -- neighbours before still have one root, and now these two
      again : Inv q w' (i + 1 - 1)
      again =
          let s : i + 1 - 1 ≡ k + 1 = omega arith in
          rw s (record {
            at_least = omega (arith, v.at_least);
            at_most = omega arith;
            only = only_both v.only (j ask).only;
            new = merged v.new x y;
            forest = (j ask).forest;
            within = merged_within q.turns v.within x y turn.is_x turn.is_y joint;
            finer = finer_both v.finer (merged_finer v.new x y);
            same = below_more (λ p. from ≤ p → merged v.new x y (get_or w₀ (order + p) 0) ≡ merged v.new x y (get_or w₀ (order + (p + 1)) 0)) k
                (λ p l a. (merged_finer v.new x y).each (get_or w₀ (order + p) 0) (get_or w₀ (order + (p + 1)) 0) (v.same p l a))
                (λ a. ap (merged v.new x y) (sym ex) ∙ merged_one v.new x y ∙ ap (merged v.new x y) ey);
          })

  -- past the last neighbours
  done : to ≤ k + 1 → RunGives q w
  done l = record { only = v.only; new = v.new; forest = v.forest; within = v.within; finer = v.finer; same = λ p a b. v.same p (omega arith) a }

pub loop-i-init : goal.loop-i-init
loop-i-init c = λ q. let e : c.args.from + 1 - 1 ≡ c.args.from = omega arith in rw e (begin q)

pub join-requires : goal.join-requires
join-requires c = let e : c.loop-i.i ≡ c.loop-i.i - 1 + 1 = omega (arith, c.loop-i.auto.i) in ask c.requires c.loop-i.invariant e c.loop-i-test.true

pub loop-i-preserved : goal.loop-i-preserved
loop-i-preserved c = let e : c.loop-i.i ≡ c.loop-i.i - 1 + 1 = omega (arith, c.loop-i.auto.i) in λ q. again q c.loop-i.invariant e c.loop-i-test.true c.join.ensures

pub shape_of-work : goal.shape_of-work
shape_of-work c = (c.loop-i.invariant c.requires).only.long

pub returns : goal.returns
returns c = λ q. done q c.loop-i.invariant (omega (arith, c.loop-i.auto.i, c.loop-i-test.false))
