-- The faces that were gone through are flagged, and their numbers' bytes are added up. Assumes nothing.
use mathlib.Core.Path.{◌≡◌, refl, sym, ap, ap₂, ◌∙◌, subst}
use mathlib.Core.Logic.{◌≢◌}
use mathlib.Core.Bool.{Bool, true, false, cond}
use mathlib.Core.List.{List}
use Prim.Native.Nat.{ℕ, ◌+◌, ◌-◌, ◌*◌, ◌/◌, ◌%◌, ◌≤◌, ◌<◌}
use native.Mathlib.Omega.{arith}
use native.Mathlib.Numerals.{add-one}
use native.Mathlib.Decide.{ℕ_discrete}
use borrow.Author.Tests.{eq-eqb, ne_eqb}
use lib.Dec.{eqb}
use lib.ListN.{length, get_or, set, length-set}
use lib.Seq.{get_or-set_same, get_or-set_other}
use Rattle.rules.specs.Lists.{below, filter}
use Rattle.rules.specs.Line.{decimal}
use Rattle.rule_laws.proofs.Digits.{decimal_short}
use Rattle.fan_laws.specs.Sums.{sum_of, field}
use Rattle.fan_laws.proofs.Sums.{sum_below}
use Rattle.face_words.specs.Words.{view}
use Rattle.face_words.specs.Views.{ViewAsks}
use Rattle.searched_fans.specs.Reaching.{state, flags_of, flags_at, CrossAsks, SettleGives}
use Rattle.searched_fans.proofs.Meeting.{view_alike, flag_most}

-- the flags are at most three bits
pub flags_most : (a b c v : ℕ) → flags_of a b c v ≤ 112
unfolding flags_of
flags_most a b c v = omega (arith, flag_most (eqb a v) 16, flag_most (eqb b v) 32, flag_most (eqb c v) 64)

-- a field has at most eleven bytes
pub field_most : (n : ℕ) → field n ≤ 11
unfolding field
field_most n = omega (arith, decimal_short n)

-- the word of face j when all is settled
abbrev settled : List ℕ → List ℕ → ℕ → ℕ → ℕ
settled xs w v j = cond (eqb (state w j) 2) (get_or w j 0 - 8 + flags_at (view xs w j) v) (get_or w j 0)

-- the faces before g are settled
pub record Settled (xs w₀ : List ℕ) (v : ℕ) (w : List ℕ) (bytes g : ℕ) : Type 0 where
  pub most : g ≤ length w₀
  pub long : length w ≡ length w₀
  pub before : (j : ℕ) → j < g → get_or w j 0 ≡ settled xs w₀ v j
  pub after : (j : ℕ) → g ≤ j → get_or w j 0 ≡ get_or w₀ j 0
  pub sum : bytes ≡ sum_of field (filter (λ j. eqb (state w₀ j) 2) (below g))
  pub few : bytes ≤ 11 * g

-- the bounds of a turn
pub record Turn (w : List ℕ) (bytes g : ℕ) : Type 0 where
  pub few : length w ≤ 1048576
  pub here : g < length w
  pub small : get_or w g 0 < 3000000
  pub bytes_few : bytes ≤ 11 * g

module _ {xs w₀ : List ℕ} {v : ℕ} (p : CrossAsks xs w₀) where
  -- at first
  pub begin : Settled xs w₀ v w₀ 0 0
  begin = record { most = omega arith; long = refl; before = λ j h. absurd (omega arith); after = λ j h. refl; sum = unfold below filter sum_of in refl; few = omega arith }

  module _ {w : List ℕ} {bytes g : ℕ} (i : Settled xs w₀ v w bytes g) (h : g < length w) where
    -- the bounds
    pub turn : Turn w bytes g
    turn =
        let l = i.long in
        record { few = omega (arith, p.worded.few); here = h; small = rw (i.after g (omega arith)) (p.small g (omega arith)); bytes_few = i.few }

    -- the face can be read
    pub ask : ViewAsks xs w g
    ask = let l = i.long in record { worded = record { long = omega (arith, p.worded.long); few = omega (arith, p.worded.few) }; here = h }

    -- its word is that at first
    word : get_or w g 0 ≡ get_or w₀ g 0
    word = i.after g (omega arith)

    -- one face more
    more : (u : List ℕ) (b : ℕ) → length u ≡ length w → ((j : ℕ) → j ≢ g → get_or u j 0 ≡ get_or w j 0) → get_or u g 0 ≡ settled xs w₀ v g → b ≡ bytes + cond (eqb (state w₀ g) 2) (field g) 0 → b ≤ bytes + 11
        → Settled xs w₀ v u b (g + 1)
    more u b l same own eb fb =
        let n = i.long in
        record {
          most = omega arith;
          long = l ∙ i.long;
          before = λ j h. go j h (ℕ_discrete j g);
          after = λ j h. same j (λ e. absurd (omega arith)) ∙ i.after j (omega arith);
          sum = eb ∙ ap (λ (t : ℕ). t + cond (eqb (state w₀ g) 2) (field g) 0) i.sum ∙ sym (sum_below field (λ j. eqb (state w₀ j) 2) g) ∙ ap (λ k. sum_of field (filter (λ j. eqb (state w₀ j) 2) (below k))) (sym (add-one g));
          few = omega (arith, i.few);
        }
      where
        go : (j : ℕ) → j < g + 1 → Dec (j ≡ g) → get_or u j 0 ≡ settled xs w₀ v j
        go j h (yes e) = subst (λ k. get_or u k 0 ≡ settled xs w₀ v k) (sym e) own
        go j h (no n) = same j n ∙ i.before j (omega arith)

    -- it was gone through
    pub flagged :
        {a b c r k : ℕ} → get_or w g 0 / 4 % 4 ≡ 2 → record { a = a; b = b; c = c; origin = g } ≡ view xs w g → r ≡ flags_of a b c v → k ≡ length (decimal g)
        → Settled xs w₀ v (set w g (get_or w g 0 - 8 + r)) (bytes + 1 + k) (g + 1)
    flagged {a} {b} {c} {r} {k} e f er ek =
        let two : eqb (state w₀ g) 2 ≡ true = unfold state in (eq-eqb (get_or w₀ g 0 / 4 % 4) 2 (ap (λ (y : ℕ). y / 4 % 4) (sym word) ∙ e)) in
        let n : field g ≡ 1 + k = unfold field in (omega arith) in
        more (set w g (get_or w g 0 - 8 + r)) (bytes + 1 + k) (length-set w g (get_or w g 0 - 8 + r)) (λ j n. get_or-set_other w g j (get_or w g 0 - 8 + r) 0 n)
        (get_or-set_same w g (get_or w g 0 - 8 + r) 0 h
        ∙ ap₂ (λ (y z : ℕ). y - 8 + z) word (er ∙ ap (λ f. flags_at f v) (f ∙ view_alike xs w w₀ g (record { gone = ap (λ (y : ℕ). y % 2) word; turned = ap (λ (y : ℕ). y / 2 % 2) word })))
        ∙ sym (ap (λ (t : Bool). cond t (get_or w₀ g 0 - 8 + flags_at (view xs w₀ g) v) (get_or w₀ g 0)) two))
        (rw two (omega (arith, n))) (omega (arith, n, field_most g))

    -- it was not
    pub passed : (get_or w g 0 / 4 % 4 ≡ 2 → ⊥) → Settled xs w₀ v w bytes (g + 1)
    passed n =
        let other : eqb (state w₀ g) 2 ≡ false = unfold state in (ne_eqb (get_or w₀ g 0 / 4 % 4) 2 (λ q. n (ap (λ (y : ℕ). y / 4 % 4) word ∙ q))) in
        more w bytes refl (λ j n. refl) (word ∙ sym (ap (λ (t : Bool). cond t (get_or w₀ g 0 - 8 + flags_at (view xs w₀ g) v) (get_or w₀ g 0)) other)) (rw other (omega arith)) (omega arith)

  -- at the end
  pub done : {w : List ℕ} {bytes g : ℕ} → Settled xs w₀ v w bytes g → length w ≤ g → SettleGives xs w₀ v w bytes
  done {w} {bytes} {g} i h =
      let l = i.long in
      let e : g ≡ length w₀ = omega (arith, i.most) in
      record { long = l; at = λ j b. i.before j (omega arith); bytes = i.sum ∙ ap (λ k. sum_of field (filter (λ j. eqb (state w₀ j) 2) (below k))) e }
