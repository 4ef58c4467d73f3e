-- The flags of the points, as a fact of lists: the flag of a point is 0 where it is a corner among those passed. Assumes nothing.
use mathlib.Core.Path.{◌≡◌, refl, sym, ap, ◌∙◌}
use mathlib.Core.Bool.{Bool, true, false, not, cond, ◌||◌}
use mathlib.Core.List.{List}
use Prim.Native.Nat.{ℕ, ◌+◌, ◌*◌, ◌≤◌, ◌<◌}
use native.Mathlib.Nat.{zero-add}
use native.Mathlib.Omega.{arith}
use borrow.Author.Tests.{eq-eqb, ne_eqb}
use lib.Dec.{eqb}
use lib.ListN.{length, get_or, set, take}
use lib.Seq.{length-take-le}
use Rattle.rows.specs.Region.{Only, Holds, Filled}
use Rattle.rows.proofs.Regions.{only_none, only_both, only_set, holds_set}
use Rattle.rules.specs.Lists.{any, has}
use Rattle.rules.specs.Pass6.{used, marked6}
use Rattle.leaving.specs.Pass.{standing}
use Rattle.drop_isolated_vertices.specs.Unused.{UseAsks, ClearGives, UseGives}
use Rattle.drop_isolated_vertices.proofs.Corners.{has_next, used_flat}

-- the flag of point v after i corners
abbrev flag : List ℕ → List ℕ → ℕ → ℕ → ℕ
flag xs w₀ i v = cond (has v (take i xs)) 0 (get_or w₀ v 0)

-- the loop's invariant
pub record Used (xs : List ℕ) (n P : ℕ) (w₀ w : List ℕ) (i : ℕ) : Type 0 where
  pub at_most : i ≤ 3 * n
  pub only : Only 0 P w₀ w
  pub flags : Holds 0 P (flag xs w₀ i) w

-- before the first corner each flag is as it was
pub begin : {xs : List ℕ} {n P : ℕ} {w : List ℕ} → UseAsks xs n P w → Used xs n P w w 0
unfolding has any
begin {w = w} p = record { at_most = omega arith; only = only_none _ _ _; flags = record { each = λ i h. ap (λ j. get_or w j 0) (zero-add i) } }

-- one more corner: another point's flag is as it was
stays : (b c : Bool) (x : ℕ) → c ≡ false → cond b 0 x ≡ cond (b || c) 0 x
stays true c x e = refl
stays false c x e = rw e refl

-- and its own is 0
turns : (b c : Bool) (x : ℕ) → c ≡ true → 0 ≡ cond (b || c) 0 x
turns true c x e = refl
turns false c x e = rw e refl

-- what is not used leaves
leaves : (b : Bool) (x : ℕ) → x ≡ 1 → cond b 0 x ≡ cond (not b) 1 0
leaves true x e = refl
leaves false x e = e

module _ {xs : List ℕ} {n P : ℕ} {w₀ w : List ℕ} {i : ℕ} (p : UseAsks xs n P w₀) (v : Used xs n P w₀ w i) where
  -- a turn clears the flag of one corner
  pub again : i < 3 * n → Used xs n P w₀ (set w (get_or xs i 0) 0) (i + 1)
  again h =
      let l = v.only.long in
      let k = get_or xs i 0 in
      let q : k < P = p.inside i h in
      let f : i < length xs = omega (arith, p.fit) in
      record {
        at_most = omega arith;
        only = only_both v.only (only_set w k 0 (omega arith) (omega arith));
        flags =
            rw zero-add at (holds_set {a = 0} {n = P} {g = flag xs w₀ i} {h = flag xs w₀ (i + 1)} {w = w} k 0 (omega (arith, p.room)) q
            (turns (has k (take i xs)) (eqb k k) (get_or w₀ k 0) (eq-eqb k k refl) ∙ ap (λ b. cond b 0 (get_or w₀ k 0)) (sym (has_next k xs i f)))
            (λ u a e. stays (has u (take i xs)) (eqb u k) (get_or w₀ u 0) (ne_eqb u k (λ z. e (sym z))) ∙ ap (λ b. cond b 0 (get_or w₀ u 0)) (sym (has_next u xs i f)))
            v.flags);
      }

  -- after all corners the flags are cleared of the points that a face uses
  pub done : 3 * n ≤ i → ClearGives xs n P w₀ w
  done h =
      let e : i ≡ 3 * n = omega (arith, v.at_most) in
      let l = length-take-le (3 * n) xs p.fit in
      record {
        only = v.only;
        flags = record { each = λ u a. v.flags.each u a ∙ ap (λ j. flag xs w₀ j u) e ∙ ap (λ b. cond b 0 (get_or w₀ u 0)) (sym (used_flat u 0 (take (3 * n) xs) (omega arith))) };
      }

-- all flags 1, and then those of used points cleared: the flags of the points that no face uses
pub use_gives : {xs : List ℕ} {n P : ℕ} {w w1 w2 : List ℕ} → Only 0 P w w1 → Filled 0 P 1 w1 → ClearGives xs n P w1 w2 → UseGives xs n P w w2
unfolding marked6
use_gives {xs} {n} {P} {w} {w1} o f g =
    record {
      only = only_both o g.only;
      flags = record { each = λ u a. g.flags.each u a ∙ leaves (used (standing xs n) u) (get_or w1 u 0) (ap (λ j. get_or w1 j 0) (sym (zero-add u)) ∙ f.each u a) };
    }
