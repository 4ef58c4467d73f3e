-- The fixed bytes between the numbers, as the code writes them. Assumes nothing.
use mathlib.Core.Path.{◌≡◌}
use mathlib.Core.Bool.{Bool, true, false, cond}
use mathlib.Core.List.{List, [], ◌∷◌, ◌++◌}
use Prim.Native.Nat.{ℕ, ◌+◌, ◌^◌, ◌≤◌, ◌<◌}
use Prim.Native.String.{String}
use native.Mathlib.Omega.{arith}
use borrow.Author.Tests.{eq-eqb, ne_eqb}
use lib.Dec.{eqb}
use lib.ListN.{length, set, length-append, length-set}
use Rattle.rules.specs.Line.{bytes, labels, decimal, part}
use Rattle.rule_laws.proofs.Rising.{all_at}
use Rattle.byte_rows.specs.Put.{Puts, NumberAsks}
use Rattle.line.specs.Put.{label_count, PartAsks, label, comma, more}
use Rattle.byte_rows.proofs.Putting.{puts_none, puts_one, puts_both}
use Rattle.rule_laws.proofs.Digits.{decimal_short}

-- no comma before the first part
pub comma_none : {w : List ℕ} {at : ℕ} → at ≡ 0 → Puts w at (comma at) w at
unfolding comma
comma_none {w} {at} e = rw (eq-eqb at 0 e) (puts_none (omega arith))

-- the comma and the blank are two bytes, one behind the other
pub comma_some : {w : List ℕ} {at : ℕ} → (at ≡ 0 → ⊥) → at + 2 ≤ length w → Puts w at (comma at) (set (set w at 44) (at + 1) 32) (at + 2)
unfolding comma bytes
comma_some {w} {at} e h =
    let z : at + 1 + 1 ≡ at + 2 = omega arith in
    rw (ne_eqb at 0 e) (rw z at (puts_both (puts_one w at 44 (omega arith)) (puts_one (set w at 44) (at + 1) 32 (rw length-set (omega arith)))))

-- the label after nine others is the last: first past the lower five
pub only_nine : {k : ℕ} → k < label_count → ((((((((Unit {0} × (k ≡ 0 → ⊥)) × (k ≡ 1 → ⊥)) × (k ≡ 2 → ⊥)) × (k ≡ 3 → ⊥)) × (k ≡ 4 → ⊥)) × (k ≡ 5 → ⊥)) × (k ≡ 6 → ⊥)) × (k ≡ 7 → ⊥)) × (k ≡ 8 → ⊥) → k ≡ 9
only_nine {k} h r = high r.0.0.0.1 r.0.0.1 r.0.1 r.1 (low r.0.0.0.0.0.0.0.0.1 r.0.0.0.0.0.0.0.1 r.0.0.0.0.0.0.1 r.0.0.0.0.0.1 r.0.0.0.0.1)
  where
    low : (k ≡ 0 → ⊥) → (k ≡ 1 → ⊥) → (k ≡ 2 → ⊥) → (k ≡ 3 → ⊥) → (k ≡ 4 → ⊥) → 4 < k
    low a b c d e = omega arith

    high : (k ≡ 5 → ⊥) → (k ≡ 6 → ⊥) → (k ≡ 7 → ⊥) → (k ≡ 8 → ⊥) → 4 < k → k ≡ 9
    high a b c d e = omega arith

-- ---- part k is put: number, blank, label

-- the longest label has 29 bytes
label_short : (k : ℕ) → k < label_count → length (bytes (label k)) ≤ 29
unfolding bytes labels
label_short k h = all_at (λ (s : String). length (bytes s) ≤ 29) labels "" k (omega arith) h

module _ {w : List ℕ} {at : ℕ} (n : ℕ) {k : ℕ} (p : PartAsks w at 40 k) where
  -- a number has at most ten bytes
  pub number_asks : n < 10 ^ 10 → NumberAsks w at n
  number_asks h = record { short = h; room = omega (arith, p.room, decimal_short n) }

  module _ {w' : List ℕ} {mid : ℕ} (q : Puts w at (decimal n) w' mid) where
    -- the blank has room behind it
    pub blank_asks : mid < length w'
    blank_asks =
        let l = q.only.long in
        omega (arith, p.room, q.ends, decimal_short n)

    -- and the label behind that
    pub label_asks : PartAsks (set w' mid 32) (mid + 1) 29 k
    label_asks =
        let l = q.only.long in
        record { label = p.label; room = rw length-set (omega (arith, p.room, q.ends, decimal_short n)) }

    -- the three stand one behind the other
    pub part_done : {w'' : List ℕ} {end : ℕ} → Puts (set w' mid 32) (mid + 1) (bytes (label k)) w'' end → Puts w at (part (n, label k)) w'' end
    unfolding part bytes
    part_done r = puts_both (puts_both q (puts_one w' mid 32 blank_asks)) r

-- ---- count k is put: nothing if it is zero, and else the comma and the part

-- the comma has at most two bytes
comma_short : (at : ℕ) → length (comma at) ≤ 2
unfolding comma bytes
comma_short at = go (eqb at 0)
  where
    go : (b : Bool) → length {A = ℕ} (cond b [] (44 ∷ 32 ∷ [])) ≤ 2
    go true = omega arith
    go false = omega arith

-- zero adds nothing
pub more_none : {w : List ℕ} {at n k : ℕ} → PartAsks w at 42 k → n ≡ 0 → Puts w at (more at n k) w at
unfolding more
more_none {w} {at} {n} p e = rw (eq-eqb n 0 e) (puts_none (omega (arith, p.room)))

module _ {w w' : List ℕ} {at mid k : ℕ} (p : PartAsks w at 42 k) (q : Puts w at (comma at) w' mid) where
  -- the part has room behind the comma
  pub part_asks : PartAsks w' mid 40 k
  part_asks =
      let l = q.only.long in
      record { label = p.label; room = omega (arith, p.room, q.ends, comma_short at) }

  -- the part stands behind the comma
  pub more_done : {w'' : List ℕ} {n end : ℕ} → (n ≡ 0 → ⊥) → Puts w' mid (part (n, label k)) w'' end → Puts w at (more at n k) w'' end
  unfolding more
  more_done {w''} {n} h r = rw (ne_eqb n 0 h) (puts_both q r)

-- what a count adds is at most 42 bytes: a comma and a blank, ten digits, a blank and a label
pub more_short : (at n k : ℕ) → k < label_count → length (more at n k) ≤ 42
unfolding more part bytes
more_short at n k h = go (eqb n 0)
  where
    go : (b : Bool) → length (cond b [] (comma at ++ (decimal n ++ (32 ∷ []) ++ bytes (label k)))) ≤ 42
    go true = omega arith
    go false = simp length-append (omega (arith, comma_short at, decimal_short n, label_short k h))
