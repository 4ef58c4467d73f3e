-- The front of a row that was cleared is a word of 0 for each face, and rows of zeros are long enough. Assumes nothing.
use mathlib.Core.Path.{◌≡◌, sym, ap, ◌∙◌}
use mathlib.Core.List.{List}
use Prim.Native.Nat.{ℕ, ◌/◌, ◌≤◌, ◌<◌}
use native.Mathlib.Omega.{arith}
use native.Mathlib.Nat.{zero-add}
use lib.ListN.{length, get_or, take, replicate, length-replicate, get_or-replicate}
use lib.Seq.{length-take-le, get_or-take}
use lib.Ieee.{Float}
use Rattle.rows.specs.Region.{Only, Filled}
use Rattle.refuse.specs.Accepted.{Accepted}
use Rattle.face_index.specs.Index.{Indexed}
use Rattle.face_words.specs.Views.{Worded}
use Rattle.searched_length.specs.Length.{RowsAsk, RoomAsk}

module _ {ps : List Float} {xs w₀ ix₀ w : List ℕ} (p : RoomAsk ps xs w₀ ix₀) (o : Only 0 (length xs / 3) w₀ w) where
  pub front : length xs / 3 ≡ length (take (length xs / 3) w)
  front = sym (length-take-le (length xs / 3) w (omega (arith, o.long, p.words)))

  pub rows_ask : Filled 0 (length xs / 3) 0 w → {ix : List ℕ} → Indexed xs ix → RowsAsk ps xs ix (take (length xs / 3) w)
  rows_ask f i =
      record {
        input = p.input;
        worded = record { long = omega (arith, front, p.input.faces_fine.whole); few = omega (arith, front, p.input.faces_fine.few) };
        zero = λ j h. let l : j < length xs / 3 = omega (arith, front) in read j l ∙ ap (λ k. get_or w k 0) (sym (zero-add j)) ∙ f.each j l;
        indexed = i;
      }
    where
      read : (j : ℕ) → j < length xs / 3 → get_or (take (length xs / 3) w) j 0 ≡ get_or w j 0
      read j l = rw get_or-take

-- ---- rows of zeros

-- n of them
abbrev pub zeros : ℕ → List ℕ
zeros n = replicate n 0

-- as many as there are
pub long_zeros : (n : ℕ) → n ≡ length (zeros n)
long_zeros n = sym (length-replicate {A = ℕ} n 0)

-- n words and an index of k
pub zero_room : {ps : List Float} {xs : List ℕ} (n k : ℕ) → Accepted ps xs → length xs / 3 ≤ n → 1024 ≤ k → RoomAsk ps xs (zeros n) (zeros k)
zero_room n k p a b = record { input = p; words = omega (arith, long_zeros n); index = omega (arith, long_zeros k) }

-- a word of 0 for each face
pub zeros_worded : {ps : List Float} {xs : List ℕ} → Accepted ps xs → Worded xs (zeros (length xs / 3))
zeros_worded {xs = xs} p = record { long = omega (arith, long_zeros (length xs / 3), p.faces_fine.whole); few = omega (arith, long_zeros (length xs / 3), p.faces_fine.few) }

pub zeros_each : (n f : ℕ) → f < length (zeros n) → get_or (zeros n) f 0 ≡ 0
zeros_each n f h = get_or-replicate n f 0 0 (omega (arith, long_zeros n))
