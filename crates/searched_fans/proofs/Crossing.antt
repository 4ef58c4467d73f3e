-- The loops over all faces: those that are met at a point, the first that waits, and those that were gone through. Assumes nothing.
use mathlib.Core.Path.{◌≡◌, refl, sym, ap, ◌∙◌, subst}
use mathlib.Core.Logic.{◌≢◌}
use mathlib.Core.Bool.{Bool, true, false, not, ◌&&◌, cond}
use mathlib.Core.List.{List}
use Prim.Native.Nat.{ℕ, ◌+◌, ◌≤◌, ◌<◌}
use native.Mathlib.Omega.{arith}
use native.Mathlib.Decide.{dec_lt, ℕ_discrete}
use borrow.Author.Tests.{eq-eqb, ne_eqb}
use lib.ListN.{length, get_or, set, length-set}
use lib.Seq.{get_or-set_same, get_or-set_other}
use Rattle.searched_fans.specs.Reaching.{meets, NextAsks, NextGives, CrossAsks, CrossGives, MeetAsks}
use Rattle.searched_fans.proofs.Meeting.{meets_same, no_candidate}

-- ---- faces that are met

-- the faces before g have their word, those from g on stand as at first
pub record Met (xs w₀ : List ℕ) (v x : ℕ) (w : List ℕ) (g : ℕ) : Type 0 where
  pub most : g ≤ length w₀
  pub long : length w ≡ length w₀
  pub before : (j : ℕ) → j < g → get_or w j 0 ≡ cond (meets xs w₀ v x j) (get_or w₀ j 0 + 4) (get_or w₀ j 0)
  pub after : (j : ℕ) → g ≤ j → get_or w j 0 ≡ get_or w₀ j 0

-- the bounds of a turn
pub record Turn (w : List ℕ) (g : ℕ) : Type 0 where
  pub few : length w ≤ 1048576
  pub here : g < length w
  pub small : get_or w g 0 < 3000000

-- the first search may begin
pub first_asks : {xs w : List ℕ} → CrossAsks xs w → NextAsks xs 0
first_asks p = let l = p.worded.long in record { whole = omega arith; most = omega arith }

module _ {xs w₀ : List ℕ} {v x : ℕ} (p : CrossAsks xs w₀) where
  -- faces that are no candidates keep their word
  skipped : {r g : ℕ} → NextGives xs v x g r → (j : ℕ) → g ≤ j → j < r → meets xs w₀ v x j ≡ false
  skipped q j a b = no_candidate xs w₀ v x j (q.none j a b)

  -- at first
  pub begin : {g : ℕ} → NextGives xs v x 0 g → Met xs w₀ v x w₀ g
  begin {g} q =
      let l = p.worded.long in
      record {
        most = omega (arith, q.most);
        long = refl;
        before = λ j h. sym (ap (λ (b : Bool). cond b (get_or w₀ j 0 + 4) (get_or w₀ j 0)) (skipped q j (omega arith) h));
        after = λ j h. refl;
      }

  module _ {w : List ℕ} {g : ℕ} (i : Met xs w₀ v x w g) (h : g < length w) where
    -- the bounds
    pub turn : Turn w g
    turn =
        let l = i.long in
        record { few = omega (arith, p.worded.few); here = h; small = rw (i.after g (omega arith)) (p.small g (omega arith)) }

    -- what is asked of the face
    pub ask : MeetAsks xs w g
    ask = let l = i.long in record { worded = record { long = omega (arith, p.worded.long); few = omega (arith, p.worded.few) }; here = h }

    -- the next search may begin
    pub next_asks : NextAsks xs (g + 1)
    next_asks = let l = i.long in let m = p.worded.long in record { whole = omega arith; most = omega arith }

    -- the face's test at its turn is that at first
    at_turn : meets xs w v x g ≡ meets xs w₀ v x g
    at_turn = meets_same xs w w₀ v x g (i.after g (omega arith))

    module _ {r : ℕ} (q : NextGives xs v x (g + 1) r) where
      -- beyond the face
      tail : (u : List ℕ) → length u ≡ length w → ((j : ℕ) → j ≢ g → get_or u j 0 ≡ get_or w j 0) → get_or u g 0 ≡ cond (meets xs w₀ v x g) (get_or w₀ g 0 + 4) (get_or w₀ g 0) → Met xs w₀ v x u r
      tail u l same own =
          let m = p.worded.long in
          let n = i.long in
          record {
            most = omega (arith, q.most);
            long = l ∙ i.long;
            before = λ j h. go j h (dec_lt j g) (ℕ_discrete j g);
            after = λ j h. same j (λ e. absurd (omega (arith, q.least))) ∙ i.after j (omega (arith, q.least));
          }
        where
          go : (j : ℕ) → j < r → Dec (j < g) → Dec (j ≡ g) → get_or u j 0 ≡ cond (meets xs w₀ v x j) (get_or w₀ j 0 + 4) (get_or w₀ j 0)
          go j h (yes l) d = same j (λ e. absurd (omega arith)) ∙ i.before j l
          go j h (no l) (yes e) = subst (λ k. get_or u k 0 ≡ cond (meets xs w₀ v x k) (get_or w₀ k 0 + 4) (get_or w₀ k 0)) (sym e) own
          go j h (no l) (no n) =
              same j n ∙ i.after j (omega arith) ∙ sym (ap (λ (b : Bool). cond b (get_or w₀ j 0 + 4) (get_or w₀ j 0)) (skipped q j (omega arith) h))

      -- it is met
      pub hit : meets xs w v x g ≡ true → Met xs w₀ v x (set w g (get_or w g 0 + 4)) r
      hit e =
          tail (set w g (get_or w g 0 + 4)) (length-set w g (get_or w g 0 + 4)) (λ j n. get_or-set_other w g j (get_or w g 0 + 4) 0 n)
          (get_or-set_same w g (get_or w g 0 + 4) 0 h ∙ ap (λ (n : ℕ). n + 4) (i.after g (omega arith)) ∙ sym (ap (λ (b : Bool). cond b (get_or w₀ g 0 + 4) (get_or w₀ g 0)) (sym at_turn ∙ e)))

      -- it is not
      pub miss : meets xs w v x g ≡ false → Met xs w₀ v x w r
      miss e = tail w refl (λ j n. refl) (i.after g (omega arith) ∙ sym (ap (λ (b : Bool). cond b (get_or w₀ g 0 + 4) (get_or w₀ g 0)) (sym at_turn ∙ e)))

  -- at the end
  pub done : {w : List ℕ} {g : ℕ} → Met xs w₀ v x w g → x ≢ v → length w ≤ g → CrossGives xs w₀ v x w
  done {w} {g} i n h =
      let l = i.long in
      record { long = l; at = λ j b. i.before j (omega arith) ∙ ap (λ (t : Bool). cond (not t && meets xs w₀ v x j) (get_or w₀ j 0 + 4) (get_or w₀ j 0)) (sym (ne_eqb x v n)) }

-- at v itself nothing is met
pub nothing : (xs w : List ℕ) (v x : ℕ) → x ≡ v → CrossGives xs w v x w
nothing xs w v x e =
    record { long = refl; at = λ j b. ap (λ (t : Bool). cond (not t && meets xs w v x j) (get_or w j 0 + 4) (get_or w j 0)) (sym (eq-eqb x v e)) }
