-- The verdict when all keys are passed, or a crowded edge is met. Assumes nothing.
use mathlib.Core.Path.{◌≡◌}
use Rattle.std.specs.Prelude.{Some, None, Ok, Err}
use Prim.Native.Nat.{ℕ, ◌*◌}
use native.Mathlib.Omega.{arith}
use Rattle.refuse.specs.declared.Refusal.{Refusal}
use Rattle.refuse.specs.declared.Refusal.TheVariants.{BadBoundary}
use Rattle.halves.specs.declared.State.{State}
use Rattle.halves.specs.Scan.{AllFair, Unfair, Upto, Met, CloseGives}
use Rattle.halves.specs.Right.{Right, Right.edge, Right.vertex, Right.fine, JudgeGives}

-- a crowded edge was met
pub met_right : {c : ℕ → ℕ} {P : ℕ} {e : Refusal} → Met c P e → Right c P (Err e)
met_right m = rw m.is (edge m.crowded)

module _ {P : ℕ} {t o : State} (q : CloseGives P t o) where
  -- else the last vertex is judged
  last : (c : ℕ → ℕ) → Upto c P (P * P) t → Upto c P (P * P) o
  last c u = q.upto c P (P * P) (omega arith) (omega arith) u.at_most u

  -- a vertex is at fault
  pub vertex_right : {v : ℕ} → o.bad ≡ Some v → JudgeGives P t (Err (BadBoundary v))
  vertex_right {v} e =
      record {
        right = λ c w.
            let u = last c w in
            let a = q.at in
            let j : Unfair c P (P * P) o.at v = rw e at u.judged in
            let p = j.passed in
            vertex u.calm (omega arith) j.before.fair j.unfair;
      }

  -- none is
  pub fine_right : o.bad ≡ None → JudgeGives P t (Ok tt)
  fine_right e =
      record {
        right = λ c w.
            let u = last c w in
            let a = q.at in
            let j : AllFair c P (P * P) o.at = rw e at u.judged in
            fine u.calm (λ x l. j.fair x (omega arith));
      }
