-- A number put byte by byte, the lowest first. Assumes nothing.
use mathlib.Core.Path.{◌≡◌, refl, sym, ap, ◌∙◌}
use mathlib.Core.List.{List}
use Prim.Native.Nat.{ℕ, suc, ◌+◌, ◌-◌, ◌/◌, ◌%◌, ◌≤◌, ◌<◌}
use native.Mathlib.Omega.{arith}
use lib.ListN.{length, get_or, set, drop}
use lib.Seq.{get_or-drop, drop-drop}
use Rattle.byte_rows.specs.Put.{Puts}
use Rattle.byte_rows.proofs.Putting as put
use Rattle.byte_rows.proofs.Putting.{Begun}
use Rattle.rules.specs.Bytes.{little}
use Rattle.rule_laws.proofs.Bytes.{little_long}

-- the first i bytes are put, and m has the others
pub record Little (w₀ : List ℕ) (at k n : ℕ) (w : List ℕ) (m i : ℕ) : Type 0 where
  pub begun : Begun w₀ at (little k n) w i
  pub at_most : i ≤ k
  pub left : drop i (little k n) ≡ little (k - i) m

-- what a turn needs
pub record Turn (at : ℕ) (w : List ℕ) (i : ℕ) : Type 0 where
  pub room : at + i < length w

-- before the first turn none is put, and n has all
pub begin : {w₀ : List ℕ} {at k : ℕ} (n : ℕ) → at + k ≤ length w₀ → Little w₀ at k n w₀ n 0
begin {w₀} {at} {k} n h =
    let l = little_long k n in
    record { begun = put.begin (omega arith); at_most = omega arith; left = let e : k ≡ k - 0 = omega arith in ap (λ (j : ℕ). little j n) e }

-- the first of some bytes, and the others
first_byte : (k m : ℕ) → get_or (little (suc k) m) 0 0 ≡ m % 256
unfolding little
first_byte k m = refl

-- the others are those of a 256th
other_bytes : (k m : ℕ) → drop 1 (little (suc k) m) ≡ little k (m / 256)
unfolding little
other_bytes k m = refl

module _ {w₀ : List ℕ} {at k n : ℕ} {w : List ℕ} {m i : ℕ} (v : Little w₀ at k n w m i) where
  -- the next byte is in the room
  pub turn : i < k → Turn at w i
  turn h =
      let l = little_long k n in
      record { room = (put.turn v.begun (omega arith)).room }

  -- a turn puts the lowest byte of what is left
  pub again : i < k → Little w₀ at k n (set w (at + i) (m % 256)) (m / 256) (i + 1)
  again h =
      let l = little_long k n in
      let s : k - i ≡ suc (k - (i + 1)) = omega arith in
      let z : i + 0 ≡ i = omega arith in
      let e : drop i (little k n) ≡ little (suc (k - (i + 1))) m = v.left ∙ ap (λ (j : ℕ). little j m) s in
      let b : m % 256 ≡ get_or (little k n) i 0 = sym (ap (λ (j : ℕ). get_or (little k n) j 0) (sym z) ∙ sym (get_or-drop i (little k n) 0 0) ∙ ap (λ (l : List ℕ). get_or l 0 0) e ∙ first_byte (k - (i + 1)) m) in
      record {
        begun = put.again v.begun (m % 256) (omega arith) b;
        at_most = omega arith;
        left = sym (drop-drop 1 i (little k n)) ∙ ap (drop 1) e ∙ other_bytes (k - (i + 1)) m;
      }

  -- after k turns all are put
  pub done : k ≤ i → Puts w₀ at (little k n) w (at + i)
  done h = let l = little_long k n in put.done v.begun (omega arith)
