-- A right verdict, in terms of the counts c of half entries.
use Rattle.std.specs.Prelude.{Result, Ok, Err, ℕ, ◌*◌, ◌<◌}
use Rattle.halves.specs.declared.State.{State}
use Rattle.refuse.specs.declared.Refusal.{Refusal}
use Rattle.refuse.specs.declared.Refusal.TheVariants.{CrowdedEdge, BadBoundary}
use Rattle.halves.specs.Scan.{Fair, Calm, Crowded, Upto, beginsTo, endsTo}

-- 7 with the position of the first crowded edge; else 8 with the lowest vertex that is not fair; else nothing
pub data Right (c : ℕ → ℕ) (P : ℕ) : Result Unit Refusal → Type 0 where
  edge : {n : ℕ} → Crowded c P n → Right c P (Err (CrowdedEdge n))
  vertex : {v : ℕ} → Calm c P (P * P) → v < P → ((w : ℕ) → w < v → Fair (beginsTo c P (P * P) w) (endsTo c P (P * P) w)) → (Fair (beginsTo c P (P * P) v) (endsTo c P (P * P) v) → ⊥) → Right c P (Err (BadBoundary v))
  fine : Calm c P (P * P) → ((w : ℕ) → w < P → Fair (beginsTo c P (P * P) w) (endsTo c P (P * P) w)) → Right c P (Ok tt)

-- the verdict of a scan that has passed all keys
pub record JudgeGives (P : ℕ) (t : State) (r : Result Unit Refusal) : Type 0 where
  pub right : (c : ℕ → ℕ) → Upto c P (P * P) t → Right c P r
