-- Two more laws of frames, beside those of rows' Regions. Assumes nothing.
use mathlib.Core.List.{List}
use Prim.Native.Nat.{ℕ, ◌+◌, ◌≤◌}
use native.Mathlib.Omega.{arith}
use Rattle.rows.specs.Region.{Out, Out.below, Out.above, Apart, Apart.before, Apart.after, Only, Only2}

-- two regions that lie in a larger one
pub only2_wide : {a n b m : ℕ} {w w' : List ℕ} (c l : ℕ) → c ≤ a → a + n ≤ c + l → c ≤ b → b + m ≤ c + l → Only2 a n b m w w' → Only c l w w'
only2_wide {a} {n} {b} {m} c l p q r s o = record { long = o.long; same = λ j t. o.same j (in_a j t) (in_b j t) }
  where
    in_a : (j : ℕ) → Out c l j → Out a n j
    in_a j (below t) = below (omega arith)
    in_a j (above t) = above (omega arith)

    in_b : (j : ℕ) → Out c l j → Out b m j
    in_b j (below t) = below (omega arith)
    in_b j (above t) = above (omega arith)

-- a region within one that is apart
pub apart_inner : {b j a n : ℕ} (x y : ℕ) → b ≤ x → x + y ≤ b + j → Apart b j a n → Apart x y a n
apart_inner x y p q (before h) = before (omega arith)
apart_inner x y p q (after h) = after (omega arith)
