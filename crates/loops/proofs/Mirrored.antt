-- A list of entries copied to another row, the last first. Assumes nothing.
use mathlib.Core.Path.{◌≡◌, refl, sym, ap, ◌∙◌}
use mathlib.Core.List.{List}
use Prim.Native.Nat.{ℕ, zero, suc, ◌+◌, ◌-◌, ◌≤◌, ◌<◌}
use native.Mathlib.Omega.{arith}
use lib.ListN.{length, get_or, set}
use lib.Seq.{ext_get_or}
use Rattle.rows.specs.Region.{part, Only, Holds}
use Rattle.rows.proofs.Regions.{only_none, only_next, holds_none, holds_next, length_part, get_d_part}
use Rattle.rule_laws.proofs.Along.{down}
use Rattle.loops.specs.Walks.{MirrorAsks, MirrorGives}

-- i entries are copied
pub record Copied (w : List ℕ) (spare n : ℕ) (r₀ : List ℕ) (from : ℕ) (r : List ℕ) (i : ℕ) : Type 0 where
  pub at_most : i ≤ n
  pub only : Only from i r₀ r
  pub reversed : Holds from i (λ j. get_or w (spare + (n - 1 - j)) 0) r

-- the bounds of a turn
pub record Turn (w : List ℕ) (spare n : ℕ) (from : ℕ) (r : List ℕ) (i : ℕ) : Type 0 where
  pub here : i < n
  pub spare_fit : spare + n ≤ length w
  pub room : from + n ≤ length r

-- none at first
pub begin : {w : List ℕ} {spare n : ℕ} {r : List ℕ} {from : ℕ} → MirrorAsks w spare n r from → Copied w spare n r from r 0
begin {w} {spare} {n} {r} {from} q = record { at_most = omega arith; only = only_none from 0 r; reversed = holds_none }

module _ {w : List ℕ} {spare n : ℕ} {r₀ : List ℕ} {from : ℕ} {r : List ℕ} {i : ℕ} (q : MirrorAsks w spare n r₀ from) (v : Copied w spare n r₀ from r i) where
  module _ (h : i < n) where
    -- the read and the store of a turn are in bounds
    pub turn : Turn w spare n from r i
    turn = record { here = h; spare_fit = q.spare_fit; room = omega (arith, q.room, v.only.long) }

    -- one entry more
    pub again : Copied w spare n r₀ from (set r (from + i) (get_or w (spare + (n - 1 - i)) 0)) (i + 1)
    again =
        let x = get_or w (spare + (n - 1 - i)) 0 in
        record { at_most = omega arith; only = only_next x v.only; reversed = holds_next x (omega (arith, turn)) refl v.reversed }

  -- all at last
  pub done : n ≤ i → MirrorGives w spare n r₀ from r
  done h =
      let e : i ≡ n = omega (arith, v.at_most) in
      record { only = rw e at v.only; reversed = rw e at v.reversed }

-- ---- a list from the last to the first

-- it has n entries
pub length_down : (g : ℕ → ℕ) (n : ℕ) → length (down g n) ≡ n
unfolding down
length_down g zero = refl
length_down g (suc n) = ap suc (length_down g n)

-- entry i is the i-th from the end
pub down_at : (g : ℕ → ℕ) (n i : ℕ) → i < n → get_or (down g n) i 0 ≡ g (n - 1 - i)
unfolding down
down_at g zero i h = absurd (omega arith)
down_at g (suc n) zero h = ap g (omega arith)
down_at g (suc n) (suc i) h = down_at g n i (omega arith) ∙ ap g (omega arith)

-- the mirrored entries are that list
pub mirrored_is :
    {w : List ℕ} {spare n : ℕ} {r : List ℕ} {from : ℕ} {r' : List ℕ} {g : ℕ → ℕ} → MirrorAsks w spare n r from → MirrorGives w spare n r from r' → Holds spare n g w → part r' from n ≡ down g n
mirrored_is {w} {spare} {n} {r} {from} {r'} {g} q v f =
    let l = length_part r' from n (omega (arith, q.room, v.only.long)) in
    ext_get_or 0 (part r' from n) (down g n) (l ∙ sym (length_down g n))
    (λ i k.
    let h : i < n = omega arith in
    get_d_part r' from n i h ∙ v.reversed.each i h ∙ f.each (n - 1 - i) (omega arith) ∙ sym (down_at g n i h))
