-- What the scan knows when it passes a key: one with half entries, one with none, and many with none. Assumes nothing.
use mathlib.Core.Path.{◌≡◌, refl, sym, ◌∙◌}
use mathlib.Core.Bool.{true, false, ◌&&◌, and-true, and-false}
use Prim.Native.Nat.{ℕ, zero, suc, ◌+◌, ◌-◌, ◌*◌, ◌/◌, ◌%◌, ◌≤◌, ◌<◌}
use native.Mathlib.Nat.{add-suc, add-zero}
use native.Mathlib.Omega.{arith}
use native.Mathlib.Decide.{ℕ_discrete}
use borrow.Author.Tests.{eq-eqb, ne_eqb, lt-ltb, le-ltb}
use lib.Dec.{leb, ltb}
use Rattle.std.specs.Prelude.{Option, Some, None}
use Rattle.halves.specs.declared.State.{State}
use Rattle.halves.specs.Scan.{one, users_of, out_of, into_of, users_at, edge_at, edges_to, beginsTo, endsTo, Calm, Judged, Upto, Crowded}
use Rattle.halves.proofs.Weights.{users_same, users_other, out_none, into_none, one_false, crowds_not, crowds_lower, crowds_many}

module _ (c : ℕ → ℕ) (P k : ℕ) where
  -- one more key
  edges_suc : edges_to c P (suc k) ≡ edges_to c P k + edge_at c P k
  unfolding edges_to
  edges_suc = refl

  -- it is an edge where it has half entries and is written from its lower end
  edge_some : 0 < c (2 * k) + c (2 * k + 1) → edge_at c P k ≡ one (leb (k / P) (k % P))
  unfolding edge_at
  edge_some h = rw (lt-ltb 0 (c (2 * k) + c (2 * k + 1)) h, and-true (leb (k / P) (k % P)))

  -- and none where it has no half entry
  edge_none : c (2 * k) + c (2 * k + 1) ≡ 0 → edge_at c P k ≡ 0
  unfolding edge_at
  edge_none h = rw (le-ltb 0 (c (2 * k) + c (2 * k + 1)) (omega arith), and-false (leb (k / P) (k % P))) one_false

  -- the users of its edge
  pub users_at_is : (n b : ℕ) → b ≡ c (2 * k) → n ≡ b + c (2 * k + 1) → users_at c P k ≡ users_of (k / P) (k % P) n b
  unfolding users_at
  users_at_is n b e f = rw (f, e)

  -- there are none without half entries
  users_none : c (2 * k) ≡ 0 → c (2 * k + 1) ≡ 0 → users_at c P k ≡ 0
  users_none e f = users_at_is 0 0 (sym e) (omega arith) ∙ go (ℕ_discrete (k / P) (k % P))
    where
      go : Dec (k / P ≡ k % P) → users_of (k / P) (k % P) 0 0 ≡ 0
      go (yes x) = users_same (k / P) (k % P) 0 0 x
      go (no x) = users_other (k / P) (k % P) 0 0 x

  -- what the key adds at its own vertex
  begins_same : (v : ℕ) → k / P ≡ v → beginsTo c P (suc k) v ≡ beginsTo c P k v + out_of (users_at c P k) (c (2 * k))
  unfolding beginsTo
  begins_same v e = rw (eq-eqb (k / P) v e)

  -- and at others
  begins_other : (v : ℕ) → (k / P ≡ v → ⊥) → beginsTo c P (suc k) v ≡ beginsTo c P k v
  unfolding beginsTo
  begins_other v e = rw (ne_eqb (k / P) v e) (omega arith)

  -- the same of what ends there
  ends_same : (v : ℕ) → k / P ≡ v → endsTo c P (suc k) v ≡ endsTo c P k v + into_of (k / P) (k % P) (users_at c P k) (c (2 * k + 1))
  unfolding endsTo
  ends_same v e = rw (eq-eqb (k / P) v e)

  -- and elsewhere
  ends_other : (v : ℕ) → (k / P ≡ v → ⊥) → endsTo c P (suc k) v ≡ endsTo c P k v
  unfolding endsTo
  ends_other v e = rw (ne_eqb (k / P) v e) (omega arith)

  -- a key with no half entry adds nothing
  begins_none : c (2 * k) ≡ 0 → c (2 * k + 1) ≡ 0 → (v : ℕ) → beginsTo c P (suc k) v ≡ beginsTo c P k v
  begins_none e f v = go (ℕ_discrete (k / P) v)
    where
      go : Dec (k / P ≡ v) → beginsTo c P (suc k) v ≡ beginsTo c P k v
      go (yes x) = let u = users_none e f in omega (arith, begins_same v x, out_none (users_at c P k) (c (2 * k)) (omega arith))
      go (no x) = begins_other v x

  -- of either kind
  ends_none : c (2 * k) ≡ 0 → c (2 * k + 1) ≡ 0 → (v : ℕ) → endsTo c P (suc k) v ≡ endsTo c P k v
  ends_none e f v = go (ℕ_discrete (k / P) v)
    where
      go : Dec (k / P ≡ v) → endsTo c P (suc k) v ≡ endsTo c P k v
      go (yes x) = let u = users_none e f in omega (arith, ends_same v x, into_none (k / P) (k % P) (users_at c P k) (c (2 * k + 1)) (omega arith))
      go (no x) = ends_other v x

  -- one more key that is not crowded
  calm_suc : Calm c P k → (k / P ≤ k % P → users_at c P k ≤ 2) → Calm c P (suc k)
  calm_suc t h = record { few = λ j l q. go j l q (ℕ_discrete j k) }
    where
      go : (j : ℕ) → j < suc k → j / P ≤ j % P → Dec (j ≡ k) → users_at c P j ≤ 2
      go j l q (yes e) = rw e (h (rw e at q))
      go j l q (no e) = t.few j (omega arith) q

-- what is known of the vertices stays where what they begin and end does
judged_same : (c : ℕ → ℕ) (P k l at : ℕ) → ((w : ℕ) → w < at → beginsTo c P l w ≡ beginsTo c P k w) → ((w : ℕ) → w < at → endsTo c P l w ≡ endsTo c P k w) → (bad : Option ℕ) → Judged c P k at bad → Judged c P l at bad
judged_same c P k l at b d None j = record { fair = λ w h. rw (b w h, d w h) (j.fair w h) }
judged_same c P k l at b d (Some v) j =
    let p = j.passed in
    record {
      passed = p;
      before = record { fair = λ w h. let q = b w (omega arith) in let r = d w (omega arith) in rw (q, r) (j.before.fair w h) };
      unfair = λ g. let q = b v p in let r = d v p in j.unfair (rw (q, r) at g);
    }

module _ {c : ℕ → ℕ} {P k : ℕ} {s : State} (t : Upto c P k s) where
  -- a key with no half entry
  pub pass_none : c (2 * k) ≡ 0 → c (2 * k + 1) ≡ 0 → Upto c P (suc k) s
  pass_none e f =
      let b = begins_none c P k e f in
      let d = ends_none c P k e f in
      let n = t.near in
      record {
        calm = calm_suc c P k t.calm (λ q. omega (arith, users_none c P k e f));
        counted = omega (arith, edges_suc c P k, edge_none c P k (omega arith), t.counted);
        at_most = t.at_most;
        near = omega arith;
        begun = t.begun ∙ sym (b s.at);
        ended = t.ended ∙ sym (d s.at);
        none_begun = λ w h. b w ∙ t.none_begun w h;
        none_ended = λ w h. d w ∙ t.none_ended w h;
        judged = judged_same c P k (suc k) s.at (λ w h. b w) (λ w h. d w) s.bad t.judged;
      }

  -- a key with n half entries, of which b are even
  module _ {n b : ℕ} (even : b ≡ c (2 * k)) (odd : n ≡ b + c (2 * k + 1)) (some : 0 < n) (here : s.at ≡ k / P) where
    -- it is not crowded
    pub pass : (leb (k / P) (k % P) && ltb 2 (users_of (k / P) (k % P) n b)) ≡ false → Upto c P (suc k) (record { unique = s.unique + one (leb (k / P) (k % P)); at = s.at; begins = s.begins + out_of (users_of (k / P) (k % P) n b) b; ends = s.ends + into_of (k / P) (k % P) (users_of (k / P) (k % P) n b) (n - b); bad = s.bad })
    pass e =
        let u = users_at_is c P k n b even odd in
        let m = t.near in
        let z : n - b ≡ c (2 * k + 1) = omega arith in
        record {
          calm = calm_suc c P k t.calm (λ q. rw u (crowds_not (k / P) (k % P) (users_of (k / P) (k % P) n b) e q));
          counted = omega (arith, edges_suc c P k, edge_some c P k (omega arith), t.counted);
          at_most = t.at_most;
          near = omega arith;
          begun = rw (begins_same c P k s.at (sym here), u, ← even, ← t.begun);
          ended = rw (ends_same c P k s.at (sym here), u, z, ← t.ended);
          none_begun = λ w h. begins_other c P k w (λ x. omega arith) ∙ t.none_begun w h;
          none_ended = λ w h. ends_other c P k w (λ x. omega arith) ∙ t.none_ended w h;
          judged = judged_same c P k (suc k) s.at (λ w h. begins_other c P k w (λ x. omega arith)) (λ w h. ends_other c P k w (λ x. omega arith)) s.bad t.judged;
        }

    -- it is
    pub meet : k < P * P → (leb (k / P) (k % P) && ltb 2 (users_of (k / P) (k % P) n b)) ≡ true → Crowded c P s.unique
    meet w e =
        record {
          key = k;
          within = w;
          calm = t.calm;
          lower = crowds_lower (k / P) (k % P) (users_of (k / P) (k % P) n b) e;
          many = rw (users_at_is c P k n b even odd) (crowds_many (k / P) (k % P) (users_of (k / P) (k % P) n b) e);
          counted = t.counted;
        }

-- d keys with none
pub pass_many : {c : ℕ → ℕ} {P k : ℕ} {s : State} (d : ℕ) → Upto c P k s → ((j : ℕ) → k ≤ j → j < k + d → (c (2 * j) ≡ 0) × (c (2 * j + 1) ≡ 0)) → Upto c P (k + d) s
pass_many {c} {P} {k} zero t h = rw (add-zero) t
pass_many {c} {P} {k} (suc d) t h =
    let z = h (k + d) (omega arith) (omega arith) in
    rw (add-suc k d) (pass_none (pass_many d t (λ j l q. h j l (omega arith))) z.0 z.1)
