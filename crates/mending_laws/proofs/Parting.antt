-- Lines and fields joined by newlines and tabs are parted again. Assumes nothing.
use mathlib.Core.Path.{◌≡◌, refl, ap, ◌∙◌}
use mathlib.Core.Bool.{Bool, true, false, cond}
use mathlib.Core.List.{List, [], ◌∷◌, ◌++◌, append-nil}
use Prim.Native.Nat.{ℕ, ◌≤◌, ◌<◌}
use native.Mathlib.Omega.{arith}
use borrow.Author.Tests.{eq-eqb, ne_eqb}
use lib.Dec.{eqb}
use Rattle.rules.specs.Lists.{each}
use Rattle.rules.specs.Text.{onto, parted}
use Rattle.rules.specs.Applying.{fields_read, pieces_read}
use Rattle.rule_laws.proofs.Rising.{All, all_imp}
use Rattle.mending_laws.proofs.Decimals.{Plain}

-- no byte is the separator
abbrev pub Free : ℕ → List ℕ → Type 0
Free at p = All (λ b. eqb b at ≡ false) p

-- so it is of plain bytes
pub plain_free : (at : ℕ) → at ≤ 10 → (p : List ℕ) → Plain p → Free at p
plain_free at h p l = all_imp (λ b. 10 < b) (λ b. eqb b at ≡ false) (λ b q. ne_eqb b at (λ e. absurd (omega arith))) p l

-- a byte that is no separator goes on
parted_on : (at b : ℕ) (bs : List ℕ) → eqb b at ≡ false → parted at (b ∷ bs) ≡ onto b (parted at bs)
unfolding parted
parted_on at b bs e = rw e refl

-- a piece before a separator
pub parted_cut : (at : ℕ) (p rest : List ℕ) → Free at p → parted at (p ++ (at ∷ rest)) ≡ p ∷ parted at rest
parted_cut at [] rest l = unfold parted in (rw (eq-eqb at at refl) refl)
parted_cut at (b ∷ p) rest l = parted_on at b (p ++ (at ∷ rest)) l.0 ∙ ap (onto b) (parted_cut at p rest l.1) ∙ (unfold onto in refl)

-- the last piece
pub parted_end : (at : ℕ) (p : List ℕ) → Free at p → parted at p ≡ p ∷ []
parted_end at [] l = unfold parted in refl
parted_end at (b ∷ p) l = parted_on at b p l.0 ∙ ap (onto b) (parted_end at p l.1) ∙ (unfold onto in refl)

-- fields after tabs
pub fields_parted : (k : List ℕ) (fs : List (List ℕ)) → Plain k → All Plain fs → parted 9 (k ++ each (λ f. 9 ∷ f) fs) ≡ k ∷ fs
unfolding each
fields_parted k [] h l = ap (parted 9) (append-nil k) ∙ parted_end 9 k (plain_free 9 (omega arith) k h)
fields_parted k (f ∷ fs) h l = parted_cut 9 k (f ++ each (λ g. 9 ∷ g) fs) (plain_free 9 (omega arith) k h) ∙ ap (λ r. k ∷ r) (fields_parted f fs l.0 l.1)

-- a list with a first element
pub record Some (ps : List (List ℕ)) : Type 0 where
  pub first : List ℕ
  pub others : List (List ℕ)
  pub is : ps ≡ first ∷ others

-- there is always a piece
pub parted_some : (at : ℕ) (xs : List ℕ) → Some (parted at xs)
unfolding parted
parted_some at [] = record { first = []; others = []; is = refl }
parted_some at (b ∷ bs) = go (eqb b at)
  where
    before : (ps : List (List ℕ)) → Some (onto b ps)
    before [] = unfold onto in (record { first = b ∷ []; others = []; is = refl })
    before (p ∷ ps) = unfold onto in (record { first = b ∷ p; others = ps; is = refl })

    go : (t : Bool) → Some (cond t ([] ∷ parted at bs) (onto b (parted at bs)))
    go true = record { first = []; others = parted at bs; is = refl }
    go false = before (parted at bs)

-- a piece before others is a line
pub pieces_more : (p : List ℕ) (ps : List (List ℕ)) → Some ps → pieces_read (p ∷ ps) ≡ fields_read (parted 9 p) ∷ pieces_read ps
unfolding pieces_read
pieces_more p ps s = rw s.is (two p s.first s.others)
  where
    two : (p q : List ℕ) (rest : List (List ℕ)) → pieces_read (p ∷ q ∷ rest) ≡ fields_read (parted 9 p) ∷ pieces_read (q ∷ rest)
    two [] q rest = refl
    two (b ∷ p) q rest = refl
