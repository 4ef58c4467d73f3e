-- A row that is written from its front on, two or three entries a turn. Assumes nothing.
use mathlib.Core.Path.{◌≡◌, sym, ap, ap₂, ◌∙◌}
use mathlib.Core.List.{List, [], ◌∷◌, ◌++◌}
use Prim.Native.Nat.{ℕ, ◌+◌, ◌*◌, ◌≤◌}
use native.Mathlib.Nat.{zero-add}
use native.Mathlib.Omega.{arith}
use native.Mathlib.Numerals.{add-one}
use lib.ListN.{length, get_or, take, set, length-set}
use lib.Seq.{get_or-set_same, get_or-set_other}
use Rattle.rows.specs.Region.{part, Apart.before, Only}
use Rattle.rows.proofs.Regions.{part_suc, part_add, kept, only_set, only_both, only_more}
use Rattle.rules.specs.Lists.{below, each}
use Rattle.table.proofs.Ids.{each_snoc}

-- two entries of a row
part_two : (w : List ℕ) (a : ℕ) → a + 2 ≤ length w → part w a 2 ≡ get_or w (a + 0) 0 ∷ get_or w (a + 1) 0 ∷ []
part_two w a h = rw (part_suc w a 1 (omega arith), part_suc w a 0 (omega arith))

-- three entries
part_three : (w : List ℕ) (a : ℕ) → a + 3 ≤ length w → part w a 3 ≡ get_or w (a + 0) 0 ∷ get_or w (a + 1) 0 ∷ get_or w (a + 2) 0 ∷ []
part_three w a h = rw (part_suc w a 2 (omega arith), part_suc w a 1 (omega arith), part_suc w a 0 (omega arith))

-- a step that writes one block behind those that stand at the front
module _ (k : ℕ) (g : ℕ → List ℕ) {w w' : List ℕ} {i : ℕ} (o : Only (k * i) k w w') (fit : k * i + k ≤ length w) where
  -- makes one block more
  pub block_next : take (k * i) w ≡ each g (below i) → part w' (k * i) k ≡ g i → take (k * i + k) w' ≡ each g (below (i + 1))
  block_next f e =
      part_add w' 0 (k * i) k
      ∙ ap₂ (λ u v. u ++ v) (kept o 0 (k * i) (before (omega arith)) (omega arith) ∙ f) (ap (λ j. part w' j k) (zero-add (k * i)) ∙ e)
      ∙ sym (each_snoc g i)
      ∙ ap (λ j. each g (below j)) (sym (add-one i))

-- two stores
module _ (w : List ℕ) (a x y : ℕ) (h : a + 2 ≤ length w) where
  -- the row after them
  abbrev two : List ℕ
  two = set (set w a x) (a + 1) y

  -- nothing else changes
  pub two_only : Only a 2 w two
  two_only = only_both (only_set w a x (omega arith) (omega arith)) (only_set (set w a x) (a + 1) y (omega arith) (omega arith))

  -- and both stand there
  pub two_part : part two a 2 ≡ x ∷ y ∷ []
  two_part =
      let l = length-set w a x in
      let z : a + 0 ≡ a = omega arith in
      part_two two a (omega (arith, two_only.long))
      ∙ ap₂ (λ u v. u ∷ v ∷ [])
      (ap (λ j. get_or two j 0) z ∙ get_or-set_other (set w a x) (a + 1) a y 0 (omega arith) ∙ get_or-set_same w a x 0 (omega arith))
      (get_or-set_same (set w a x) (a + 1) y 0 (omega arith))

-- three stores
module _ (w : List ℕ) (a x y z : ℕ) (h : a + 3 ≤ length w) where
  -- the row after them
  abbrev three : List ℕ
  three = set (set (set w a x) (a + 1) y) (a + 2) z

  -- nothing else changes
  pub three_only : Only a 3 w three
  three_only =
      only_both (only_more (omega arith) (omega arith) (two_only w a x y (omega arith))) (only_set (set (set w a x) (a + 1) y) (a + 2) z (omega arith) (omega arith))

  -- and all three stand there
  pub three_part : part three a 3 ≡ x ∷ y ∷ z ∷ []
  three_part =
      let l = length-set w a x in
      let k = length-set (set w a x) (a + 1) y in
      let n : a + 0 ≡ a = omega arith in
      part_three three a (omega (arith, three_only.long))
      ∙ ap₂ (λ u v. u ∷ v)
      (ap (λ j. get_or three j 0) n ∙ get_or-set_other (set (set w a x) (a + 1) y) (a + 2) a z 0 (omega arith) ∙ get_or-set_other (set w a x) (a + 1) a y 0 (omega arith) ∙ get_or-set_same w a x 0 (omega arith))
      (ap₂ (λ u v. u ∷ v ∷ [])
      (get_or-set_other (set (set w a x) (a + 1) y) (a + 2) (a + 1) z 0 (omega arith) ∙ get_or-set_same (set w a x) (a + 1) y 0 (omega arith))
      (get_or-set_same (set (set w a x) (a + 1) y) (a + 2) z 0 (omega arith)))
