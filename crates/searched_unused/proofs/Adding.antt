-- The lines of the points that no face has, added up; they are those of pass 6. Assumes nothing.
use mathlib.Core.Path.{◌≡◌, refl, sym, ap₂, ◌∙◌}
use mathlib.Core.Bool.{Bool, true, false, cond}
use mathlib.Core.List.{List, [], ◌∷◌}
use Prim.Native.Nat.{ℕ, suc, ◌+◌, ◌*◌, ◌≤◌, ◌<◌}
use native.Mathlib.Omega.{arith}
use native.Mathlib.Numerals.{add-one}
use lib.ListN.{length}
use Rattle.rules.specs.Lists.{below, each}
use Rattle.rules.specs.State.{State}
use Rattle.rules.specs.Line.{decimal}
use Rattle.rules.specs.Pass6.{used, marked6}
use Rattle.rules.specs.Mending.{line_text, lines6}
use Rattle.rule_laws.proofs.Digits.{decimal_short}
use Rattle.fan_laws.specs.Sums.{sum_of, field}
use Rattle.fan_laws.proofs.Sums.{sum_append}
use Rattle.fan_laws.proofs.Isolated.{lines6_length}
use Rattle.face_words.specs.Words.{viewed}
use Rattle.searched_unused.specs.Unused.{unused_line, UnusedGives}

-- ---- one point

module _ (xs w : List ℕ) (v : ℕ) {r : Bool} (e : r ≡ used (viewed xs w) v) where
  pub used_none : r ≡ true → 0 ≡ unused_line xs w v
  unfolding unused_line marked6
  used_none t = rw (← e, t)

  pub unused_line_is : r ≡ false → {d : ℕ} → d ≡ length (decimal v) → 3 + d ≡ unused_line xs w v
  unfolding unused_line marked6 field
  unused_line_is n ed = rw (← e, n) (omega (arith, ed))

pub line_short : (xs w : List ℕ) (v : ℕ) → unused_line xs w v ≤ 13
unfolding unused_line field
line_short xs w v = go (marked6 (viewed xs w) v)
  where
    go : (b : Bool) → cond b (2 + suc (length (decimal v))) 0 ≤ 13
    go true = omega (arith, decimal_short v)
    go false = omega arith

-- ---- all points

-- the points below v are added up
pub record Added (xs w : List ℕ) (P r v : ℕ) : Type 0 where
  pub most : v ≤ P
  pub is : r ≡ sum_of (unused_line xs w) (below v)
  pub few : r ≤ 13 * v

pub add_begin : (xs w : List ℕ) (P : ℕ) → Added xs w P 0 0
add_begin xs w P = record { most = omega arith; is = unfold sum_of below in (omega arith); few = omega arith }

next : (g : ℕ → ℕ) (n : ℕ) → sum_of g (below (suc n)) ≡ sum_of g (below n) + g n
unfolding below
next g n = sum_append g (below n) (n ∷ []) ∙ unfold sum_of in (omega arith)

module _ {xs w : List ℕ} {P r v : ℕ} (a : Added xs w P r v) where
  pub add_again : v < P → {k : ℕ} → k ≡ unused_line xs w v → Added xs w P (r + k) (v + 1)
  add_again h {k} e =
      record {
        most = omega arith;
        is = rw (add-one v) (ap₂ (λ (x y : ℕ). x + y) a.is e ∙ sym (next (unused_line xs w) v));
        few = omega (arith, a.few, e, line_short xs w v);
      }

  pub add_done : P ≤ v → UnusedGives xs w P r
  add_done h = let e : v ≡ P = omega (arith, a.most) in record { is = rw (← e) a.is; few = omega (arith, a.few, e) }

-- so long are the lines of pass 6
pub unused_told : {xs w : List ℕ} {P r : ℕ} → UnusedGives xs w P r → (m : State) → m.faces ≡ viewed xs w → length m.points ≡ P → r ≡ length (each line_text (lines6 m))
unused_told {xs} {w} {P} g m e l =
    g.is
    ∙ sym (lines6_length m ∙ ap₂ (λ fs n. sum_of (λ v. cond (marked6 fs v) (2 + field v) 0) (below n)) e l ∙ unfold unused_line in refl)
