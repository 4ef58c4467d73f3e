-- The lines of a mesh, put one after the other. Assumes nothing.
use mathlib.Core.Path.{◌≡◌, refl, sym, ap, ◌∙◌}
use mathlib.Core.List.{List, [], ◌∷◌, ◌++◌}
use Prim.Native.Nat.{ℕ, zero, suc, ◌+◌, ◌-◌, ◌/◌, ◌%◌, ◌≤◌, ◌<◌}
use native.Mathlib.Omega.{arith}
use lib.ListN.{length, get_or, set, take, length-append, length-set}
use lib.Seq.{drop-cons, get_or-set_same}
use Rattle.rows.specs.Region.{part, Only}
use Rattle.rows.proofs.Regions.{only_none, only_both, only_set, part_set}
use Rattle.byte_rows.specs.Put.{Puts}
use Rattle.rules.specs.Text.{hex}
use Rattle.text_out.specs.Printed.{byte}

-- ---- hex digits, the last one first

-- 16 digits are 16 bytes
pub hex_long : (k n : ℕ) → length (hex k n) ≡ k
unfolding hex
hex_long zero n = refl
hex_long (suc k) n = simp length-append (omega (arith, hex_long k (n / 16)))

-- the digits from k on are put, and m is what they leave
pub record Left (w₀ : List ℕ) (at n : ℕ) (w : List ℕ) (k m : ℕ) : Type 0 where
  pub at_most : k ≤ 16
  pub only : Only at 16 w₀ w
  pub digits : hex 16 n ≡ hex k m ++ part w (at + k) (16 - k)

-- nothing behind a list
pub nothing : (xs : List ℕ) → xs ++ [] ≡ xs
nothing [] = refl
nothing (x ∷ xs) = ap (λ (z : List ℕ). x ∷ z) (nothing xs)

-- before the first turn none are
pub begin : {w₀ : List ℕ} {at n : ℕ} → at + 16 ≤ length w₀ → Left w₀ at n w₀ 16 n
begin {w₀} {at} {n} h = record { at_most = omega arith; only = only_none at 16 w₀; digits = sym (nothing (hex 16 n)) }

-- a part is its first entry and the rest
part_cons : (w : List ℕ) (a n : ℕ) → a < length w → part w a (suc n) ≡ get_or w a 0 ∷ part w (suc a) n
part_cons w a n h = ap (take (suc n)) (drop-cons w a 0 h)

-- one list behind another and a third
pub behind : (xs ys zs : List ℕ) → (xs ++ ys) ++ zs ≡ xs ++ (ys ++ zs)
behind [] ys zs = refl
behind (x ∷ xs) ys zs = ap (λ (l : List ℕ). x ∷ l) (behind xs ys zs)

-- one digit less
hex_last : (k m : ℕ) → hex (suc k) m ≡ hex k (m / 16) ++ (byte (m % 16) ∷ [])
unfolding hex
hex_last k m = refl

module _ {w₀ : List ℕ} {at n : ℕ} {w : List ℕ} {k m : ℕ} (p : at + 16 ≤ length w₀) (v : Left w₀ at n w k m) where
  -- the digit before is put
  pub again : (j : ℕ) → k ≡ suc j → (d : ℕ) → d ≡ byte (m % 16) → Left w₀ at n (set w (at + j) d) j (m / 16)
  again j f d e =
      let l = v.only.long in
      let a = v.at_most in
      let r : 16 - j ≡ suc (16 - suc j) = omega arith in
      let s : suc (at + j) ≡ at + suc j = omega arith in
      let q : part (set w (at + j) d) (at + j) (16 - j) ≡ d ∷ part w (at + suc j) (16 - suc j) =
      rw r (part_cons (set w (at + j) d) (at + j) (16 - suc j) (simp length-set (omega arith))
      ∙ ap (λ (z : ℕ). z ∷ part (set w (at + j) d) (suc (at + j)) (16 - suc j)) (get_or-set_same w (at + j) d 0 (omega arith))
      ∙ ap (λ (z : List ℕ). d ∷ z) (part_set w (suc (at + j)) (16 - suc j) (at + j) d (omega arith) (λ i b. omega arith) ∙ ap (λ (i : ℕ). part w i (16 - suc j)) s)) in
      record {
        at_most = omega arith;
        only = only_both v.only (only_set w (at + j) d (omega arith) (omega arith));
        digits = rw f at v.digits ∙ ap (λ (z : List ℕ). z ++ part w (at + suc j) (16 - suc j)) (hex_last j m)
            ∙ behind (hex j (m / 16)) (byte (m % 16) ∷ []) (part w (at + suc j) (16 - suc j))
            ∙ ap (λ (z : ℕ). hex j (m / 16) ++ (z ∷ part w (at + suc j) (16 - suc j))) (sym e)
            ∙ ap (λ (z : List ℕ). hex j (m / 16) ++ z) (sym q);
      }

  -- all digits are put
  pub done : k ≤ 0 → Puts w₀ at (hex 16 n) w (at + 16)
  unfolding hex
  done h =
      let z : k ≡ 0 = omega arith in
      let y : at + 0 ≡ at = omega arith in
      let l = hex_long 16 n in
      let d : hex 16 n ≡ part w (at + 0) 16 = rw z at v.digits in
      record { fits = rw l p; only = rw l v.only; text = rw l (sym (rw y at d)); ends = rw l refl }
