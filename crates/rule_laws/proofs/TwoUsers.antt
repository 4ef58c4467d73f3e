-- Where each directed edge is walked at most once, an edge has at most two users, so the edge call does not refuse 7. Assumes nothing.
use mathlib.Core.Path.{◌≡◌, subst}
use mathlib.Core.Logic.{◌⊎◌, inl, inr}
use mathlib.Core.List.{List}
use Prim.Native.Nat.{◌≤◌, min, max}
use native.Mathlib.Omega.{arith}
use native.Mathlib.Decide.{dec_le}
use borrow.Author.Tests.{eq-eqb}
use lib.ListN.{length, length-map}
use lib.Dec.{T}
use Rattle.rules.specs.Lists.{filter, count}
use Rattle.rules.specs.Mesh.{Face}
use Rattle.rules.specs.Steps.{Step, same, edge, opposite, entries, users, walkers}
use Rattle.rule_laws.proofs.Counting.{count_or}
use Rattle.rule_laws.proofs.Once.{Once, same_eq}

-- steps with the same ends are the same
pub eq_same : (s t : Step) → s.from ≡ t.from → s.to ≡ t.to → T (same s t)
unfolding same
eq_same s t e f = rw (eq-eqb s.from t.from e, eq-eqb s.to t.to f) tt

-- a step along the edge e walks it one way or the other
pub one_way : (e t : Step) → T (same e (edge t)) → T (same e t) ⊎ T (same (opposite e) t)
unfolding edge opposite
one_way e t h = go (dec_le t.from t.to) (same_eq e (edge t) h)
  where
    go : Dec (t.from ≤ t.to) → (e.from ≡ min t.from t.to) × (e.to ≡ max t.from t.to) → T (same e t) ⊎ T (same (opposite e) t)
    go (yes l) q = inl (eq_same e t (omega arith) (omega arith))
    go (no l) q = inr (eq_same (opposite e) t (omega arith) (omega arith))

-- so an edge has at most two users
pub two_users : (fs : List Face) → Once fs → (e : Step) → length (users fs e) ≤ 2
unfolding users walkers count
two_users fs once e =
    let l = count_or (λ n. same e (edge n.along)) (λ n. same e n.along) (λ n. same (opposite e) n.along) (λ n t. one_way e n.along t) (entries fs) in
    let u = length-map (filter (λ n. same e (edge n.along)) (entries fs)) (λ n. n.by) in
    let a = walked e in
    let b = walked (opposite e) in
    omega arith
  where
    walked : (d : Step) → length (filter (λ n. same d n.along) (entries fs)) ≤ 1
    walked d = subst (λ k. k ≤ 1) (length-map (filter (λ n. same d n.along) (entries fs)) (λ n. n.by)) (once d)
