-- `halves::visit` meets its contract. Assumes nothing.
use mathlib.Core.Path.{◌≡◌, refl, sym, ap, ◌∙◌}
use mathlib.Core.Bool.{Bool, true, false, ◌&&◌}
use Prim.Native.Nat.{ℕ, ◌+◌, ◌-◌, ◌/◌, ◌%◌, ◌≤◌, ◌<◌}
use native.Mathlib.Nat.{div-mul-le_self, le-div_iff_mul-le, div-lt_iff_lt-mul}
use native.Mathlib.Omega.{arith}
use native.Mathlib.Numerals.{add-one}
use lib.Dec.{leb, ltb}
use Rattle.std.specs.Prelude.{Ok, Err}
use Rattle.refuse.specs.declared.Refusal.TheVariants.{CrowdedEdge}
use Rattle.halves.specs.declared.State.{State}
use Rattle.halves.specs.Scan.{one, users_of, out_of, into_of, Upto, CloseGives, VisitAsks, VisitGives}
use Rattle.halves.proofs.Weights.{one_most, out_most, into_most}
use Rattle.halves.proofs.Scanning.{pass, meet}
use Rattle.halves.proofs.visit.Goals as goal

module _ {P k n b : ℕ} {t o : State} (p : VisitAsks P k n b t) (q : CloseGives (k / P) t o) where
  -- what is known when the vertex is the next
  prior : (c : ℕ → ℕ) → Upto c P k t → Upto c P k o
  prior c u =
      let l : k / P < P = (div-lt_iff_lt-mul p.points).1 p.below in
      q.upto c P k (div-mul-le_self k P) (omega arith) ((le-div_iff_mul-le p.points).1 u.near) u

  module _ {users : ℕ} {r : Bool} (eu : users ≡ users_of (k / P) (k % P) n b) (er : r ≡ (leb (k / P) (k % P) && ltb 2 users)) where
    -- the test of a crowded edge
    test : (z : Bool) → r ≡ z → (leb (k / P) (k % P) && ltb 2 (users_of (k / P) (k % P) n b)) ≡ z
    test z e = rw (← eu) (sym er ∙ e)

    -- it is met
    met : r ≡ true → VisitGives P k n b t (Err (CrowdedEdge o.unique))
    met e =
        record {
          small = record { unique = o.unique; is = refl; most = let s = p.small.unique in let u = q.unique in omega arith };
          told = λ c even odd some w. record { unique = o.unique; is = refl; crowded = meet (prior c w) even odd some q.at p.below (test true e) };
        }

    module _ {l x y : ℕ} (el : l ≡ one (leb (k / P) (k % P))) (ex : x ≡ out_of users b) (ey : y ≡ into_of (k / P) (k % P) users (n - b)) where
      -- no number wraps
      unique_fits : o.unique + l ≤ k + 1
      unique_fits = let s = p.small.unique in let u = q.unique in omega (arith, one_most (leb (k / P) (k % P)))

      -- nor what begins
      begins_fits : o.begins + x ≤ k + 1
      begins_fits = let s = p.small.begins in let u = q.begins in omega (arith, out_most (k / P) (k % P) n b p.fewer, ap (λ (z : ℕ). out_of z b) eu)

      -- nor what ends
      ends_fits : o.ends + y ≤ k + 1
      ends_fits = let s = p.small.ends in let u = q.ends in omega (arith, into_most (k / P) (k % P) n b p.fewer, ap (λ (z : ℕ). into_of (k / P) (k % P) z (n - b)) eu)

      -- the key is passed
      on : r ≡ false → VisitGives P k n b t (Ok (record { unique = o.unique + l; at = o.at; begins = o.begins + x; ends = o.ends + y; bad = o.bad }))
      on e =
          record {
            small = record { unique = unique_fits; begins = begins_fits; ends = ends_fits };
            told = λ c even odd some w. rw (add-one k, el, ex, ey, eu) (pass (prior c w) even odd some q.at (test false e));
          }

pub returns-then-crowds : goal.returns-then-crowds
returns-then-crowds c = met c.requires c.close-o.ensures c.users_of-users.ensures c.crowds.ensures c.if-crowds.true

pub overflow_add-result : goal.overflow_add-result
overflow_add-result c = omega (arith, c.requires.fits, unique_fits c.requires c.close-o.ensures c.users_of-users.ensures c.crowds.ensures c.lower-l.ensures c.out_of-x.ensures c.into_of-y.ensures)

pub overflow_add-result-2 : goal.overflow_add-result-2
overflow_add-result-2 c = omega (arith, c.requires.fits, begins_fits c.requires c.close-o.ensures c.users_of-users.ensures c.crowds.ensures c.lower-l.ensures c.out_of-x.ensures c.into_of-y.ensures)

pub overflow_add-result-3 : goal.overflow_add-result-3
overflow_add-result-3 c = omega (arith, c.requires.fits, ends_fits c.requires c.close-o.ensures c.users_of-users.ensures c.crowds.ensures c.lower-l.ensures c.out_of-x.ensures c.into_of-y.ensures)

pub returns : goal.returns
returns c = on c.requires c.close-o.ensures c.users_of-users.ensures c.crowds.ensures c.lower-l.ensures c.out_of-x.ensures c.into_of-y.ensures c.if-crowds.false
