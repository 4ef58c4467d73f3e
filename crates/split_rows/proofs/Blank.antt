-- Points that are all the same: copies of them change nothing, so what is reached without a points room is reached with that one. Assumes nothing.
use mathlib.Core.Path.{◌≡◌, refl, sym, ap, ap₂, ◌∙◌}
use mathlib.Core.List.{List, ◌++◌, append-nil, append_assoc}
use Prim.Native.Nat.{ℕ, zero, suc, ◌+◌, ◌*◌, ◌≤◌, ◌<◌}
use native.Mathlib.Omega.{arith}
use lib.Ieee.{Float, nan}
use lib.ListN.{length, get_or, take, replicate, length-replicate, get_or-replicate}
use lib.Seq.{take-add}
use Rattle.rows.specs.Region.{part}
use Rattle.rows.proofs.Regions.{part_add, part_eq_of, only_none}
use Rattle.rules.specs.Lists.{below, each}
use Rattle.rules.specs.Mesh.{faces_of}
use Rattle.splitting.specs.Corners.{extras, base}
use Rattle.splitting.proofs.AllAtOnce.{each_last}
use Rattle.split_bowtie_vertices.specs.Splits.{CopiesAsks, CopiesGives, copies_of}
use Rattle.split_bowtie_vertices.specs.Splits as splits
use Rattle.split_bowtie_vertices.proofs.Places.{base_most, few_extras, run_fits}
use Rattle.split_rows.specs.Rows.{Reached}

-- N coordinates
abbrev pub blank : ℕ → List Float
blank N = replicate N nan

-- one entry is as another
entry : (N i j : ℕ) → i < N → j < N → get_or (blank N) i nan ≡ get_or (blank N) j nan
entry N i j hi hj = get_or-replicate N i nan nan hi ∙ sym (get_or-replicate N j nan nan hj)

-- copies of one point are any points
copied_part : (N v from e : ℕ) → 3 * v + 3 ≤ N → 3 * (from + e) ≤ N → part (blank N) (3 * from) (3 * e) ≡ each (λ j. part (blank N) (3 * v) 3) (below e)
copied_part N v from zero hv hf = unfold each below in refl
copied_part N v from (suc e) hv hf =
    let l = length-replicate N nan in
    let s : 3 * suc e ≡ 3 * e + 3 = omega arith in
    ap (part (blank N) (3 * from)) s
    ∙ part_add (blank N) (3 * from) (3 * e) 3
    ∙ ap₂ (λ a b. a ++ b) (copied_part N v from e hv (omega arith))
    (part_eq_of nan (blank N) (blank N) (3 * from + 3 * e) (3 * v) 3 (omega arith) (omega arith) (λ i h. entry N (3 * from + 3 * e + i) (3 * v + i) (omega arith) (omega arith)))
    ∙ sym (each_last (λ j. part (blank N) (3 * v) 3) e)

-- so copies change nothing
more_points : (N v from e : ℕ) → 3 * v + 3 ≤ N → 3 * (from + e) ≤ N → take (3 * (from + e)) (blank N) ≡ take (3 * from) (blank N) ++ each (λ j. part (blank N) (3 * v) 3) (below e)
more_points N v from e hv hf =
    (let s : 3 * (from + e) ≡ 3 * from + 3 * e = omega arith in ap (λ k. take k (blank N)) s)
    ∙ take-add (3 * from) (3 * e) (blank N)
    ∙ ap (λ l. take (3 * from) (blank N) ++ l) (copied_part N v from e hv hf)

-- what `copies` would give
pub copies_give : (N v from e : ℕ) → CopiesAsks (blank N) v from e → CopiesGives (blank N) v from e (blank N)
copies_give N v from e p =
    let l = length-replicate N nan in
    record { only = only_none _ _ _; copied = more_points N v from e (omega (arith, p.vertex, p.fit)) (omega (arith, p.fit)) }

module _ {ys : List ℕ} {P : ℕ} {w : List ℕ} (r : splits.Rows ys P w) where
  -- how many coordinates there are at most
  abbrev pub room : ℕ
  room = 3 * (P + length ys)

  -- all copies of the points below k
  all_points : (k : ℕ) → k ≤ P → take (3 * base (faces_of ys) P k) (blank room) ≡ take (3 * P) (blank room) ++ copies_of (blank room) ys k
  unfolding base
  all_points zero h = sym (unfold each below in append-nil (take (3 * P) (blank room)))
  all_points (suc k) h =
      more_points room k (base (faces_of ys) P k) (extras (faces_of ys) k) (omega arith) (omega (arith, base_most (faces_of ys) P k, few_extras (faces_of ys) k, run_fits r k h))
      ∙ ap (λ l. l ++ each (λ j. part (blank room) (3 * k) 3) (below (extras (faces_of ys) k))) (all_points k (omega arith))
      ∙ append_assoc (take (3 * P) (blank room)) (copies_of (blank room) ys k) (each (λ j. part (blank room) (3 * k) 3) (below (extras (faces_of ys) k)))
      ∙ ap (λ l. take (3 * P) (blank room) ++ l) (sym (each_last (λ v. each (λ j. part (blank room) (3 * v) 3) (below (extras (faces_of ys) v))) k))

-- what is reached, over blank points
pub over_blank :
    {ys : List ℕ} {P olds k : ℕ} {w : List ℕ} {begin next : ℕ} → k ≤ P → Reached ys P olds k w begin next
    → splits.Reached ys P (blank (3 * (P + length ys))) k (blank (3 * (P + length ys))) w begin next
over_blank {ys} {P} {olds} {k} h q =
    let l = length-replicate (3 * (P + length ys)) nan in
    record {
      rows = q.rows;
      room = omega arith;
      begin_is = q.begin_is;
      next_is = q.next_is;
      numbered = q.numbered;
      only = only_none _ _ _;
      points = ap (λ n. take (3 * n) (blank (3 * (P + length ys)))) q.next_is ∙ all_points q.rows k h;
    }
