-- Three entries stored one after the other. Assumes nothing.
use mathlib.Core.Path.{◌≡◌, ap, ◌∙◌}
use mathlib.Core.List.{List, [], ◌∷◌, ◌++◌}
use Prim.Native.Nat.{ℕ, suc, ◌+◌, ◌≤◌}
use native.Mathlib.Omega.{arith}
use lib.ListN.{length, set, take, length-set}
use lib.Seq.{take-suc-set}
use Rattle.std.proofs.lemmas.List.{append_assoc}
use Rattle.rows.specs.Region.{OnlyOf}
use Rattle.rows.proofs.Regions.{only_both, only_set}

module _ {A : Type 0} (w : List A) (at : ℕ) (x y z : A) where
  -- the row with them
  abbrev pub with_three : List A
  with_three = set (set (set w at x) (at + 1) y) (at + 2) z

  -- all else stays
  pub only_three : {d : A} → OnlyOf d at 3 w with_three
  only_three =
      only_both (only_set w at x (omega arith) (omega arith))
      (only_both (only_set (set w at x) (at + 1) y (omega arith) (omega arith)) (only_set (set (set w at x) (at + 1) y) (at + 2) z (omega arith) (omega arith)))

  -- it is as long
  pub long_three : length with_three ≡ length w
  long_three = simp length-set

  -- and they stand behind what stood in front
  pub front_three : at + 3 ≤ length w → take (at + 3) with_three ≡ take at w ++ (x ∷ y ∷ z ∷ [])
  front_three h =
      let s = set w at x in
      let t = set s (at + 1) y in
      let i : at + 1 ≡ suc at = omega arith in
      let j : at + 2 ≡ suc (at + 1) = omega arith in
      let k : at + 3 ≡ suc (at + 2) = omega arith in
      let l : length s ≡ length w = simp length-set in
      let m : length t ≡ length w = simp length-set in
      let a : take (at + 1) s ≡ take at w ++ (x ∷ []) = ap (λ (n : ℕ). take n s) i ∙ take-suc-set w at x (omega arith) in
      let b : take (at + 2) t ≡ take (at + 1) s ++ (y ∷ []) = ap (λ (n : ℕ). take n t) j ∙ take-suc-set s (at + 1) y (omega arith) in
      let c : take (at + 3) with_three ≡ take (at + 2) t ++ (z ∷ []) = ap (λ (n : ℕ). take n with_three) k ∙ take-suc-set t (at + 2) z (omega arith) in
      c ∙ ap (λ (q : List A). q ++ (z ∷ [])) (b ∙ ap (λ (q : List A). q ++ (y ∷ [])) a)
      ∙ append_assoc (take at w ++ (x ∷ [])) (y ∷ []) (z ∷ []) ∙ append_assoc (take at w) (x ∷ []) (y ∷ z ∷ [])
