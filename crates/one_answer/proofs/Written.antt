-- The text of `meshfix`: of two rooms into which one text was put, all bytes are the same, and so is where it ends. Assumes nothing.
use mathlib.Core.Path.{◌≡◌, sym, ap, ◌∙◌}
use mathlib.Core.Logic.{⊎_elim}
use mathlib.Core.List.{List}
use Prim.Native.Nat.{ℕ, ◌+◌, ◌-◌, ◌≤◌, ◌<◌}
use native.Mathlib.Omega.{arith}
use lib.ListN.{length, get_or}
use lib.Seq.{ext_get_or}
use Rattle.rows.proofs.Regions.{in_or_out, get_d_part}
use Rattle.byte_rows.specs.Put.{Puts}

module _ {w : List ℕ} {at : ℕ} {xs : List ℕ} where
  -- an entry of the text that was put
  entry_is : {w' : List ℕ} {next : ℕ} → Puts w at xs w' next → (i : ℕ) → i < length xs → get_or w' (at + i) 0 ≡ get_or xs i 0
  entry_is {w'} p i h = sym (get_d_part w' at (length xs) i h) ∙ ap (λ l. get_or l i 0) p.text

  -- a text is put in one way: `mend_text` has one answer and leaves one list in its room
  pub one_put : {w' w'' : List ℕ} {next next' : ℕ} → Puts w at xs w' next → Puts w at xs w'' next' → (next ≡ next') × (w' ≡ w'')
  one_put {w'} {w''} p q = (
    p.ends ∙ sym q.ends,
    ext_get_or 0 w' w'' (p.only.long ∙ sym q.only.long)
        (λ j k.
        ⊎_elim
        (λ (b : (at ≤ j) × (j < at + length xs)).
        let e : at + (j - at) ≡ j = omega arith in
        let h : j - at < length xs = omega arith in
        ap (λ t. get_or w' t 0) (sym e) ∙ entry_is p (j - at) h ∙ sym (entry_is q (j - at) h) ∙ ap (λ t. get_or w'' t 0) e)
        (λ o. p.only.same j o ∙ sym (q.only.same j o))
        (in_or_out at (length xs) j)),
  )
