-- The walk from a vertex: what was passed is listed and leads nowhere, so the walk ends where it began. Assumes nothing.
use mathlib.Core.Path.{◌≡◌, refl, sym, ap, ◌∙◌, subst}
use mathlib.Core.Bool.{Bool, true, false, ◌||◌, cond}
use mathlib.Core.List.{List}
use Prim.Native.Nat.{ℕ, zero, suc, ◌+◌, ◌^◌, ◌≤◌, ◌<◌}
use native.Mathlib.Omega.{arith}
use native.Mathlib.Decide.{ℕ_discrete}
use native.Mathlib.Numerals.{add-one}
use borrow.Author.Tests.{eq-eqb, ne_eqb}
use lib.Dec.{T}
use lib.Ieee.Bits.{is_true}
use lib.ListN.{length, get_or, set, length-set}
use lib.Seq.{get_or-set_other}
use Rattle.rows.specs.Region.{Only2, Holds}
use Rattle.rows.proofs.Regions.{apart_ne, holds_none, holds_next, holds_set, only_set, only2_none, only2_both, only2_left, only2_right}
use Rattle.rules.specs.Lists.{any, has, below}
use Rattle.rule_laws.proofs.Lists.{length_below}
use Rattle.rule_laws.proofs.Members.{has_mem, mem_has, mem_below}
use Rattle.rule_laws.proofs.Pigeons.{fewer}
use Rattle.rule_laws.proofs.Along.{down, down_mem, mem_down}
use Rattle.loops.specs.Walks.{WalkAsks, WalkGives}

-- k vertices have been passed, the walk is at u, and the row leads from there to `to`
pub record Walked {w₀ : List ℕ} {P next spare v : ℕ} (q : WalkAsks w₀ P next spare v) (w : List ℕ) (u to k : ℕ) : Type 0 where
  pub at_most : k ≤ q.n
  pub here : u ≡ q.at k
  pub onto : to ≡ get_or w (next + u) 0
  pub only : Only2 next P spare q.n w₀ w
  pub listed : Holds spare k q.at w
  pub marked : Holds next P (λ x. cond (has x (down q.at k)) P (get_or w₀ (next + x) 0)) w

-- none at first
pub begin : {w : List ℕ} {P next spare v : ℕ} (q : WalkAsks w P next spare v) → Walked q w v (get_or w (next + v) 0) 0
unfolding down has any
begin {w} {P} {next} {spare} {v} q =
    record { at_most = omega arith; here = sym q.begins; onto = refl; only = only2_none next P spare q.n w; listed = holds_none; marked = record { each = λ i h. refl } }

-- the bounds of the start and of a turn
pub record Turn (w : List ℕ) (P next spare u to k : ℕ) : Type 0 where
  pub few : P < 2 ^ 32
  pub here : u < P
  pub onto : to < P
  pub next_fit : next + P ≤ length w
  pub spare_fit : spare + k < length w
  pub fewer_than : k < P

module _ {w₀ : List ℕ} {P next spare v : ℕ} (q : WalkAsks w₀ P next spare v) where
  -- v is a point
  pub start : (v < P) × (next + P ≤ length w₀)
  start = (rw (← q.begins) (q.inside 0 (omega arith)), q.next_fit)

  -- no more vertices than points are passed
  at_most_points : q.n ≤ P
  at_most_points = rw (length_below P) at (fewer q.at q.n (below P) (λ k h. mem_below (q.at k) P (q.inside k (omega arith))) q.differ)

  -- vertex k is not among those passed before
  not_passed : (k : ℕ) → k < q.n → has (q.at k) (down q.at k) ≡ false
  not_passed k h = go (has (q.at k) (down q.at k)) refl
    where
      go : (b : Bool) → has (q.at k) (down q.at k) ≡ b → b ≡ false
      go false e = refl
      go true e =
          let m = down_mem q.at k (q.at k) (has_mem (q.at k) (down q.at k) (subst T (sym e) tt)) in
          absurd (q.differ m.0 k m.1 h (sym m.2))

  module _ {w : List ℕ} {u to k : ℕ} (r : (q : WalkAsks w₀ P next spare v) → Walked q w u to k) where
    -- the invariant at q
    abbrev i : Walked q w u to k
    i = r q

    -- where the row leads from u
    to_is : to ≡ cond (has (q.at k) (down q.at k)) P (get_or w₀ (next + q.at k) 0)
    to_is = i.onto ∙ ap (λ x. get_or w (next + x) 0) i.here ∙ i.marked.each (q.at k) (q.inside k i.at_most)

    -- while the walk is not back, to the next vertex
    goes_on : k < q.n → to ≡ q.at (suc k)
    goes_on h = to_is ∙ ap (λ b. cond b P (get_or w₀ (next + q.at k) 0)) (not_passed k h) ∙ q.steps k h

    -- once it is back, nowhere
    is_back : k ≡ q.n → P ≤ to
    unfolding down has any
    is_back e = go q.n refl
      where
        go : (n : ℕ) → q.n ≡ n → P ≤ to
        go zero z =
            let k0 : k ≡ 0 = e ∙ z in
            let s : get_or w₀ (next + q.at k) 0 ≡ get_or w₀ (next + v) 0 = ap (λ j. get_or w₀ (next + q.at j) 0) k0 ∙ ap (λ x. get_or w₀ (next + x) 0) q.begins in
            let t : to ≡ get_or w₀ (next + q.at k) 0 = to_is ∙ ap (λ j. cond (has (q.at k) (down q.at j)) P (get_or w₀ (next + q.at k) 0)) k0 in
            omega (arith, q.stays z)
        go (suc n) z =
            let p : q.at k ≡ q.at 0 = ap q.at e ∙ q.back (omega arith) ∙ sym q.begins in
            let m = is_true (has (q.at 0) (down q.at k)) (mem_has (q.at 0) (down q.at k) (mem_down q.at k 0 (omega arith))) in
            let t : to ≡ P = to_is ∙ ap (λ x. cond (has x (down q.at k)) P (get_or w₀ (next + q.at k) 0)) p ∙ ap (λ b. cond b P (get_or w₀ (next + q.at k) 0)) m in
            omega arith

    module _ (h : to < P) where
      -- the walk is not back
      goes : k < q.n
      goes = go (ℕ_discrete k q.n)
        where
          go : Dec (k ≡ q.n) → k < q.n
          go (yes e) = absurd (omega (arith, is_back e))
          go (no e) = omega (arith, i.at_most)

      -- u is a point
      u_inside : u < P
      u_inside = rw i.here (q.inside k i.at_most)

      -- the reads and the stores of a turn are in bounds
      pub turn : Turn w P next spare u to k
      turn =
          let l = i.only.long in
          record {
            few = q.few;
            here = u_inside;
            onto = h;
            next_fit = omega (arith, q.next_fit);
            spare_fit = omega (arith, q.spare_fit, goes);
            fewer_than = omega (arith, goes, at_most_points);
          }

      -- the row after a turn
      abbrev w' : List ℕ
      w' = set (set w (spare + k) u) (next + u) P

      -- one vertex more
      pub again : Walked q w' to (get_or w' (next + to) 0) (k + 1)
      unfolding down has any
      again =
          let l = i.only.long in
          let g = goes in
          let t = turn in
          let s = length-set w (spare + k) u in
          record {
            at_most = omega arith;
            here = goes_on g ∙ ap q.at (sym (add-one k));
            onto = refl;
            only = only2_both i.only (only2_both (only2_right (only_set w (spare + k) u (omega arith) (omega arith))) (only2_left (only_set (set w (spare + k) u) (next + u) P (omega arith) (omega (arith, t)))));
            listed =
                record { each = λ j m. get_or-set_other (set w (spare + k) u) (next + u) (spare + j) P 0 (λ e. apart_ne q.apart u j t.here (omega arith) (sym e)) ∙ (holds_next u (omega (arith, t)) i.here i.listed).each j m };
            marked =
                rw (add-one k)
                (holds_set {w = set w (spare + k) u} u P (rw s (omega (arith, t))) t.here (rw (i.here, eq-eqb (q.at k) (q.at k) refl))
                (λ x m ne. ap (λ b. cond (b || has x (down q.at k)) P (get_or w₀ (next + x) 0)) (sym (ne_eqb x (q.at k) (λ e. ne (i.here ∙ sym e)))))
                (record { each = λ x m. get_or-set_other w (spare + k) (next + x) u 0 (apart_ne q.apart x k m g) ∙ i.marked.each x m }));
          }

    -- where the row leads nowhere, the walk is back
    pub done : P ≤ to → WalkGives q w k
    done h =
        let e : k ≡ q.n = go (ℕ_discrete k q.n) in
        record { count = e; only = i.only; listed = rw e at i.listed; marked = rw e at i.marked }
      where
        go : Dec (k ≡ q.n) → k ≡ q.n
        go (yes e) = e
        go (no e) =
            let g : k < q.n = omega (arith, i.at_most) in
            absurd (omega (arith, goes_on g, q.inside (suc k) g))
