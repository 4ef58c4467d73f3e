-- What the scan knows when it goes on from the vertex `at` to v. Assumes nothing.
use mathlib.Core.Path.{◌≡◌, sym, ◌∙◌}
use Rattle.std.specs.Prelude.{Option, Some, None}
use Rattle.std.specs.Option.{option_or}
use Prim.Native.Nat.{ℕ, ◌*◌, ◌≤◌, ◌<◌}
use native.Mathlib.Omega.{arith}
use native.Mathlib.Decide.{ℕ_discrete, dec_lt}
use Rattle.halves.specs.declared.State.{State}
use Rattle.halves.specs.Scan.{Fair, AllFair, Unfair, Judged, Upto, FaultGives, beginsTo, endsTo}

module _ {c : ℕ → ℕ} {P k v : ℕ} {s : State} (l : s.at < v) (near : v * P ≤ k) (m : v ≤ P) (t : Upto c P k s) where
  -- all vertices up to it are fair
  all_fair : AllFair c P k s.at → Fair s.begins s.ends → AllFair c P k v
  all_fair j g = record { fair = λ w h. go w (ℕ_discrete w s.at) (dec_lt w s.at) }
    where
      go : (w : ℕ) → Dec (w ≡ s.at) → Dec (w < s.at) → Fair (beginsTo c P k w) (endsTo c P k w)
      go w (yes x) y = rw x (record { even = sym t.begun ∙ g.even ∙ t.ended; once = rw (← t.begun) g.once })
      go w (no x) (yes y) = j.fair w y
      go w (no x) (no y) =
          let z = t.none_begun w (omega arith) in
          let z' = t.none_ended w (omega arith) in
          record { even = z ∙ sym z'; once = omega arith }

  -- it is the first that is not
  first_unfair : (w : ℕ) → w ≡ s.at → AllFair c P k s.at → (Fair s.begins s.ends → ⊥) → Unfair c P k v w
  first_unfair w e j g =
      rw e
      (record { passed = l; before = j; unfair = λ q. g (record { even = t.begun ∙ q.even ∙ sym t.ended; once = rw t.begun q.once }) })

  -- the vertex is judged too
  judged : (old new : Option ℕ) → Judged c P k s.at old → FaultGives s new → Judged c P k v (option_or old new)
  judged (Some w) new j g = let p = j.passed in record { passed = omega arith; before = j.before; unfair = j.unfair }
  judged None (Some w) j g = first_unfair w g.0 j g.1
  judged None None j g = all_fair j g

  -- the next is v
  pub close_on : (new : Option ℕ) → FaultGives s new → Upto c P k (record { unique = s.unique; at = v; begins = 0; ends = 0; bad = option_or s.bad new })
  close_on new g =
      record {
        calm = t.calm;
        counted = t.counted;
        at_most = m;
        near = near;
        begun = sym (t.none_begun v l);
        ended = sym (t.none_ended v l);
        none_begun = λ w h. t.none_begun w (omega arith);
        none_ended = λ w h. t.none_ended w (omega arith);
        judged = judged s.bad new t.judged g;
      }
