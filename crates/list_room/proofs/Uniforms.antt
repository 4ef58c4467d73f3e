-- Rows and parts that are all one number: looked at one after the other, and filled. Assumes nothing.
use mathlib.Core.Path.{◌≡◌, sym, ap, ◌∙◌, subst}
use mathlib.Core.Bool.{Bool, true, false}
use mathlib.Core.List.{List}
use Prim.Native.Nat.{ℕ, ◌+◌, ◌≤◌, ◌<◌}
use native.Mathlib.Nat.{zero-add}
use native.Mathlib.Omega.{arith}
use lib.Dec.{T}
use lib.ListN.{length, get_or}
use borrow.Author.Count.{below_more}
use Rattle.rows.specs.Region.{Only, Filled}
use Rattle.rows.proofs.Regions.{holds_none}
use Rattle.list_room.specs.Parts.{AllTold, UniformTold, FillGives}

-- a flag is not both
pub clash : {X : Type 0} → false ≡ true → X
clash e = absurd (subst T (sym e) tt)

-- ---- one row

-- the first i entries are c
pub record Sofar (w : List ℕ) (n c i : ℕ) : Type 0 where
  pub at_most : i ≤ n
  pub are : Filled 0 i c w

module _ {w : List ℕ} {n c : ℕ} where
  -- at first none
  pub begin : Sofar w n c 0
  begin = record { at_most = omega arith; are = holds_none }

  -- one more
  pub again : {i : ℕ} → Sofar w n c i → i < n → get_or w i 0 ≡ c → Sofar w n c (i + 1)
  again {i} v h e =
      record {
        at_most = omega arith;
        are = record { each = below_more (λ k. get_or w (0 + k) 0 ≡ c) i v.are.each (ap (λ k. get_or w k 0) (zero-add i) ∙ e) };
      }

  -- one that is not c
  pub found : (i : ℕ) → i < n → (get_or w i 0 ≡ c → ⊥) → AllTold w n c false
  found i h ne = record { so = λ t. clash t; not_so = λ t f. ne (ap (λ k. get_or w k 0) (sym (zero-add i)) ∙ f.each i h) }

  -- all of them
  pub done : {i : ℕ} → Sofar w n c i → n ≤ i → AllTold w n c true
  done {i} v h =
      let e : i ≡ n = omega (arith, v.at_most) in
      record { so = λ t. subst (λ k. Filled 0 k c w) e v.are; not_so = λ t. clash (sym t) }

-- ---- three parts

module _ {xs os w : List ℕ} {n c : ℕ} where
  -- the first two are, and the third decides
  pub told_last : {a b r : Bool} → AllTold xs (length xs) c a → a ≡ true → AllTold os (length os) c b → b ≡ true → AllTold w n c r → UniformTold xs os w n c r
  told_last x s y t z =
      record {
        so = λ e. record { corners_are = x.so s; origins_are = y.so t; rest_are = z.so e };
        not_so = λ e u. z.not_so e u.rest_are;
      }

  -- the first is not
  pub told_first : {a : Bool} → AllTold xs (length xs) c a → a ≡ false → UniformTold xs os w n c false
  told_first x s = record { so = λ e. clash e; not_so = λ e u. x.not_so s u.corners_are }

  -- the second is not
  pub told_second : {b : Bool} → AllTold os (length os) c b → b ≡ false → UniformTold xs os w n c false
  told_second y t = record { so = λ e. clash e; not_so = λ e u. y.not_so t u.origins_are }

  -- each is filled
  pub parts_filled :
      {xs' os' w' : List ℕ} → Only 0 (length xs) xs xs' → Filled 0 (length xs) c xs' → Only 0 (length os) os os' → Filled 0 (length os) c os'
      → Only 0 n w w' → Filled 0 n c w' → FillGives xs os w n c xs' os' w'
  parts_filled {xs'} {os'} ox fx oo fo ow fw =
      record {
        changed = record { long_corners = ox.long; long_origins = oo.long; only_rest = ow };
        uniform = record {
          corners_are = subst (λ k. Filled 0 k c xs') (sym ox.long) fx;
          origins_are = subst (λ k. Filled 0 k c os') (sym oo.long) fo;
          rest_are = fw;
        };
      }
