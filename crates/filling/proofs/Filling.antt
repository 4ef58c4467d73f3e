-- An answer room after an accepted call: an answer was written to its front and the rest of what is stated was cleared, so it is the rules' `filled` room.
-- Of numbers, of floats and of bytes. Assumes nothing.
use mathlib.Core.Path.{◌≡◌, refl, sym, ap, ap₂, ◌∙◌}
use mathlib.Core.List.{List, [], ◌++◌}
use Prim.Native.Nat.{ℕ, ◌+◌, ◌-◌, ◌≤◌, ◌<◌}
use native.Mathlib.Nat.{zero-add}
use native.Mathlib.Omega.{arith}
use lib.ListN.{length, take, drop, replicate, take-append-drop, length-drop, length-replicate, get_or-replicate}
use lib.Seq.{get_or-drop, ext_get_or}
use Rattle.rows.specs.Region.{part, Out.above, Apart.before, OnlyOf, HoldsOf}
use Rattle.rows.proofs.Regions.{length_part, get_or_part_of, kept, only_both, only_more, part_add, only_none}
use Rattle.rules.specs.Rooms.{filled, cleared}

module _ {A : Type 0} {d : A} where
  -- a region that holds z everywhere, as a list
  pub part_same : {w : List A} {a n : ℕ} {z : A} → a + n ≤ length w → HoldsOf d a n (λ i. z) w → part w a n ≡ replicate n z
  part_same {w} {a} {n} {z} h f =
      ext_get_or d (part w a n) (replicate n z) (length_part w a n h ∙ sym (length-replicate n z))
      (λ i k.
      let q : i < n = omega (arith, length_part w a n h) in
      get_or_part_of d w a n i q ∙ f.each i q ∙ sym (get_or-replicate n i z d q))

  -- what lies beyond the region that changed
  pub drop_kept : {w w' : List A} {n : ℕ} → OnlyOf d 0 n w w' → drop n w' ≡ drop n w
  drop_kept {w} {w'} {n} o =
      let l = o.long in
      ext_get_or d (drop n w') (drop n w) (simp length-drop (omega arith))
      (λ i k. get_or-drop n w' i d ∙ o.same (n + i) (above (omega arith)) ∙ sym (get_or-drop n w i d))

  -- the first k entries are the answer, those up to n are z, and what lies beyond is as it was; before it was cleared, the room was changed up to n
  pub filled_in :
      {k n : ℕ} {z : A} {answer r r₁ r₂ : List A} → n ≤ length r → k ≤ n → OnlyOf d 0 n r r₁ → take k r₁ ≡ answer
      → OnlyOf d k (n - k) r₁ r₂ → HoldsOf d k (n - k) (λ i. z) r₂ → r₂ ≡ filled z n answer r
  unfolding filled
  filled_in {k} {n} {z} {answer} {r} {r₁} {r₂} h l o e o₂ f =
      let l₁ = o.long in
      let l₂ = o₂.long in
      let s : k + (n - k) ≡ n = omega arith in
      let c : length answer ≡ k = ap length (sym e) ∙ length_part r₁ 0 k (omega arith) in
      let b : OnlyOf d 0 n r r₂ = only_both o (only_more (omega arith) (omega arith) o₂) in
      sym (take-append-drop n r₂)
      ∙ ap₂ (λ u v. u ++ v)
      (ap (λ j. take j r₂) (sym s)
      ∙ part_add r₂ 0 k (n - k)
      ∙ ap₂ (λ u v. u ++ v) (kept o₂ 0 k (before (omega arith)) (omega arith) ∙ e) (ap (λ j. part r₂ j (n - k)) (zero-add k) ∙ part_same (omega arith) f))
      (drop_kept b)
      ∙ ap (λ j. answer ++ replicate (n - j) z ++ drop n r) (sym c)

  -- the same where only the answer was written before
  pub filled_is :
      {k n : ℕ} {z : A} {answer r r₁ r₂ : List A} → n ≤ length r → k ≤ n → OnlyOf d 0 k r r₁ → take k r₁ ≡ answer
      → OnlyOf d k (n - k) r₁ r₂ → HoldsOf d k (n - k) (λ i. z) r₂ → r₂ ≡ filled z n answer r
  filled_is h l o = filled_in h l (only_more (omega arith) (omega arith) o)

  -- an answer as long as the room
  pub filled_whole : (z : A) {n : ℕ} {answer r r₁ : List A} → n ≤ length r → OnlyOf d 0 n r r₁ → take n r₁ ≡ answer → r₁ ≡ filled z n answer r
  filled_whole z {n} {answer} {r} {r₁} h o e =
      filled_is h (omega arith) o e (only_none n (n - n) r₁) (record { each = λ i q. absurd (omega arith) })

-- a row whose first n entries are 0 and whose others are as they were
pub cleared_is : {n : ℕ} {w w' : List ℕ} → n ≤ length w → OnlyOf 0 0 n w w' → HoldsOf 0 0 n (λ i. 0) w' → w' ≡ cleared n w
unfolding cleared
cleared_is {n} {w} {w'} h o z =
    let m : n - 0 ≡ n = omega arith in
    filled_is {d = 0} {answer = []} h (omega arith) (only_none 0 0 w) refl (rw m o) (rw m z)

-- what is cleared does not depend on what was written there before
pub cleared_kept : {n : ℕ} {w w' : List ℕ} → OnlyOf 0 0 n w w' → cleared n w' ≡ cleared n w
unfolding cleared filled
cleared_kept {n} o = ap (λ l. [] ++ replicate (n - 0) 0 ++ l) (drop_kept o)
