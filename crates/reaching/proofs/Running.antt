-- The loops over a run: its faces are reached, or it is found who of them does not make a step. Assumes nothing.
use mathlib.Core.Path.{◌≡◌, sym, ap, ◌∙◌}
use mathlib.Core.List.{List, [], ◌∷◌}
use Prim.Native.Nat.{ℕ, ◌+◌, ◌-◌, ◌*◌, ◌/◌, ◌≤◌, ◌<◌}
use native.Mathlib.Omega.{arith}
use lib.ListN.{length, get_or}
use Rattle.rows.specs.Region.{Only, Out.above}
use Rattle.rows.proofs.Regions.{only_none, only_both}
use Rattle.rules.specs.Lists.{through, filter}
use Rattle.rules.specs.Mesh.{faces_of}
use Rattle.rules.specs.Steps.{step}
use Rattle.rule_laws.proofs.Lists.{through_append}
use Rattle.orienting.specs.Reaching.{reach, lone}
use Rattle.reaching.specs.Walking.{walk_of, faces_in, Ready, StandsAsks, ReachAsks, ReachGives, RunAsks, ReachRunGives, met}
use Rattle.reaching.proofs.Meeting.{lone_next, faces_next}

-- no entry, no face
faces_none : (w : List ℕ) (from : ℕ) → faces_in w from from ≡ []
faces_none w from = let e : from - from ≡ 0 = omega arith in rw e

-- the bounds of a turn
pub record Turn (w : List ℕ) (n k i : ℕ) : Type 0 where
  pub few : n ≤ 4194304
  pub place : k < length w
  pub entry : get_or w k 0 < 3 * n
  pub face : i < n

-- the faces up to place k are reached
pub record ReachInv (w₀ xs : List ℕ) (n from to x y : ℕ) (w : List ℕ) (k : ℕ) : Type 0 where
  pub at_least : from ≤ k
  pub at_most : k ≤ to
  pub only : Only 0 (3 + 2 * n) w₀ w
  pub ready : Ready w xs n
  pub walk : walk_of (faces_of xs) n w ≡ through (reach (step x y)) (walk_of (faces_of xs) n w₀) (faces_in w₀ from k)

-- at first none is
pub reach_begin : {w xs : List ℕ} {n from to x y : ℕ} → RunAsks w xs n from to → ReachInv w xs n from to x y w from
unfolding through
reach_begin {w} {xs} {n} {from} q =
    record { at_least = omega arith; at_most = q.rising; only = only_none 0 (3 + 2 * n) w; ready = q.ready; walk = rw (faces_none w from) }

module _ {w₀ xs : List ℕ} {n from to x y : ℕ} {w : List ℕ} {k : ℕ} (q : RunAsks w₀ xs n from to) (v : ReachInv w₀ xs n from to x y w k) where
  module _ (h : k < to) where
    -- the entries are as they were
    same : get_or w k 0 ≡ get_or w₀ k 0
    same = v.only.same k (above (omega (arith, q.behind, v.at_least)))

    -- they hold
    pub reach_turn : Turn w n k (get_or w k 0 / 3)
    reach_turn =
        let e = q.entries k v.at_least h in
        let s = same in
        record { few = q.ready.fits.few; place = omega (arith, q.inside, v.only.long); entry = omega arith; face = omega arith }

    -- so the face may be reached
    pub reach_ask : ReachAsks w xs n (get_or w k 0 / 3)
    reach_ask = record { ready = v.ready; here = reach_turn.face }

    -- and is
    pub reach_again : {w' : List ℕ} → ReachGives w xs n (get_or w k 0 / 3) x y w' → ReachInv w₀ xs n from to x y w' (k + 1)
    unfolding through
    reach_again g =
        record {
          at_least = omega (arith, v.at_least);
          at_most = omega arith;
          only = only_both v.only g.only;
          ready = g.ready;
          walk = g.walk
              ∙ ap (λ u. reach (step x y) u (get_or w k 0 / 3)) v.walk
              ∙ ap (λ j. reach (step x y) (through (reach (step x y)) (walk_of (faces_of xs) n w₀) (faces_in w₀ from k)) (j / 3)) same
              ∙ sym (ap (through (reach (step x y)) (walk_of (faces_of xs) n w₀)) (faces_next w₀ from k v.at_least (omega (arith, q.inside)))
              ∙ through_append (reach (step x y)) (walk_of (faces_of xs) n w₀) (faces_in w₀ from k) (get_or w₀ k 0 / 3 ∷ []));
        }

  -- past the last place
  pub reach_done : to ≤ k → ReachRunGives w₀ xs n from to x y w
  reach_done l =
      let e : k ≡ to = omega (arith, v.at_most) in
      record { only = v.only; ready = v.ready; walk = v.walk ∙ ap (λ j. through (reach (step x y)) (walk_of (faces_of xs) n w₀) (faces_in w₀ from j)) e }

-- who of the faces up to place k does not make the step
pub record LoneInv (w xs : List ℕ) (n from to x y known k : ℕ) : Type 0 where
  pub at_least : from ≤ k
  pub at_most : k ≤ to
  pub is : known ≡ lone (n + 1) (walk_of (faces_of xs) n w).faces (step x y) (faces_in w from k)

-- at first nobody
pub lone_begin : {w xs : List ℕ} {n from to x y : ℕ} → RunAsks w xs n from to → LoneInv w xs n from to x y 0 from
unfolding lone through filter
lone_begin {w} {xs} {n} {from} q = record { at_least = omega arith; at_most = q.rising; is = rw (faces_none w from) }

module _ {w xs : List ℕ} {n from to x y known k : ℕ} (q : RunAsks w xs n from to) (v : LoneInv w xs n from to x y known k) where
  module _ (h : k < to) where
    -- the bounds of a turn hold
    pub lone_turn : Turn w n k (get_or w k 0 / 3)
    lone_turn =
        let e = q.entries k v.at_least h in
        record { few = q.ready.fits.few; place = omega (arith, q.inside); entry = e; face = omega arith }

    -- so the face may be met
    pub lone_ask : StandsAsks w xs n (get_or w k 0 / 3)
    lone_ask = record { fits = q.ready.fits; here = lone_turn.face }

    -- and is
    pub lone_again : {r : ℕ} → r ≡ met (walk_of (faces_of xs) n w).faces n (step x y) known (get_or w k 0 / 3) → LoneInv w xs n from to x y r (k + 1)
    lone_again e =
        let fs = (walk_of (faces_of xs) n w).faces in
        record {
          at_least = omega (arith, v.at_least);
          at_most = omega arith;
          is = e
              ∙ ap (λ c. met fs n (step x y) c (get_or w k 0 / 3)) v.is
              ∙ sym (ap (lone (n + 1) fs (step x y)) (faces_next w from k v.at_least (omega (arith, q.inside)))
              ∙ lone_next fs n (step x y) (faces_in w from k) (get_or w k 0 / 3));
        }

  -- past the last place
  pub lone_done : to ≤ k → known ≡ lone (n + 1) (walk_of (faces_of xs) n w).faces (step x y) (faces_in w from to)
  lone_done l =
      let e : k ≡ to = omega (arith, v.at_most) in
      v.is ∙ ap (λ j. lone (n + 1) (walk_of (faces_of xs) n w).faces (step x y) (faces_in w from j)) e
