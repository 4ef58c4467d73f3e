-- A text that is put part by part: what is told, and what is left to tell, are the whole. And a loop that tells a number after the other. Assumes nothing.
use mathlib.Core.Path.{◌≡◌, refl, sym, ap, subst, ◌∙◌}
use mathlib.Core.List.{List, [], ◌∷◌, ◌++◌, append_assoc, append-nil}
use Prim.Native.Nat.{ℕ, suc, ◌+◌, ◌≤◌, ◌<◌}
use native.Mathlib.Omega.{arith}
use native.Mathlib.Numerals.{add-one}
use lib.ListN.{length, drop, length-append, drop_of_length-le}
use lib.Seq.{drop-cons}
use Rattle.byte_rows.specs.Put.{Puts}
use Rattle.byte_rows.proofs.Putting.{puts_none, puts_both}
use Rattle.rules.specs.Lists.{below, each}
use Rattle.rule_laws.proofs.Lists.{length_below}
use Rattle.rule_laws.proofs.Rising.{get_or_below}

-- of the whole text, which fits, all is put but the rest
pub record Sofar (whole w₀ : List ℕ) (at : ℕ) (w : List ℕ) (next : ℕ) (rest : List ℕ) : Type 0 where
  pub fits : at + length whole ≤ length w₀
  pub told : List ℕ
  pub puts : Puts w₀ at told w next
  pub all : told ++ rest ≡ whole

-- at the start all is left
pub begin : {whole w₀ : List ℕ} {at : ℕ} → at + length whole ≤ length w₀ → Sofar whole w₀ at w₀ at whole
begin h = record { fits = h; told = []; puts = puts_none (omega arith); all = refl }

module _ {whole w₀ : List ℕ} {at : ℕ} {w : List ℕ} {next : ℕ} where
  -- the next part has room
  pub room : (xs rest : List ℕ) → Sofar whole w₀ at w next (xs ++ rest) → next + length xs ≤ length w
  room xs rest v =
      let l = v.puts.only.long in
      omega (arith, v.fits, v.puts.ends, ap length v.all, length-append v.told (xs ++ rest), length-append xs rest)

  -- it is put
  pub on : (xs rest : List ℕ) {w' : List ℕ} {r : ℕ} → Sofar whole w₀ at w next (xs ++ rest) → Puts w next xs w' r → Sofar whole w₀ at w' r rest
  on xs rest v q = record { fits = v.fits; told = v.told ++ xs; puts = puts_both v.puts q; all = append_assoc v.told xs rest ∙ v.all }

  -- nothing is left
  pub finish : Sofar whole w₀ at w next [] → Puts w₀ at whole w next
  finish v = subst (λ (z : List ℕ). Puts w₀ at z w next) (sym (append-nil v.told) ∙ v.all) v.puts

-- ---- the numbers below n, one after the other

module _ (g : ℕ → List ℕ) (n : ℕ) where
  -- what is left from i on
  abbrev pub onward : ℕ → List ℕ
  onward i = each g (drop i (below n))

  -- it begins with what i tells
  pub onward_at : (i : ℕ) → i < n → onward i ≡ g i ++ onward (i + 1)
  unfolding each
  onward_at i h =
      let l = length_below n in
      let e : drop i (below n) ≡ i ∷ drop (suc i) (below n) =
      drop-cons (below n) i 0 (omega arith) ∙ ap (λ (x : ℕ). x ∷ drop (suc i) (below n)) (get_or_below n i h) in
      rw add-one (ap (each g) e)

  -- behind the last one nothing is left
  pub onward_end : (i : ℕ) → n ≤ i → onward i ≡ []
  unfolding each
  onward_end i h = ap (each g) (drop_of_length-le (below n) {i = i} (omega (arith, length_below n)))

  -- the numbers before i are told
  pub record Rowed (w₀ : List ℕ) (at : ℕ) (w : List ℕ) (next i : ℕ) : Type 0 where
    pub at_most : i ≤ n
    pub sofar : Sofar (each g (below n)) w₀ at w next (onward i)

  -- at the start none is
  pub row_begin : {w₀ : List ℕ} {at : ℕ} → at + length (each g (below n)) ≤ length w₀ → Rowed w₀ at w₀ at 0
  row_begin h = record { at_most = omega arith; sofar = begin h }

  module _ {w₀ : List ℕ} {at : ℕ} {w : List ℕ} {next i : ℕ} (v : Rowed w₀ at w next i) where
    -- what i tells has room
    pub row_room : i < n → next + length (g i) ≤ length w
    row_room h = room (g i) (onward (i + 1)) (rw (onward_at i h) at v.sofar)

    -- it is told
    pub row_on : {w' : List ℕ} {r : ℕ} → i < n → Puts w next (g i) w' r → Rowed w₀ at w' r (i + 1)
    row_on h q = record { at_most = omega arith; sofar = on (g i) (onward (i + 1)) (rw (onward_at i h) at v.sofar) q }

    -- all are told
    pub row_done : n ≤ i → Puts w₀ at (each g (below n)) w next
    row_done h = finish (rw (onward_end i h) at v.sofar)

  -- the lengths of what the numbers before i tell are summed
  pub record Summed (total i : ℕ) : Type 0 where
    pub at_most : i ≤ n
    pub sum : total + length (onward i) ≡ length (each g (below n))

  pub sum_begin : Summed 0 0
  sum_begin = record { at_most = omega arith; sum = omega arith }

  module _ {total i : ℕ} (v : Summed total i) where
    pub sum_on : {k : ℕ} → i < n → k ≡ length (g i) → Summed (total + k) (i + 1)
    sum_on h e = record { at_most = omega arith; sum = omega (arith, e, v.sum, ap length (onward_at i h), length-append (g i) (onward (i + 1))) }

    pub sum_done : n ≤ i → total ≡ length (each g (below n))
    sum_done h = omega (arith, v.sum, ap length (onward_end i h))
