-- The search by the index: a face in a block whose bit is clear in the row of one of two corners has not both. Assumes nothing.
use mathlib.Core.Path.{◌≡◌, refl, sym, ap, ◌∙◌, subst}
use mathlib.Core.Logic.{◌⊎◌, inl, inr}
use mathlib.Core.Bool.{Bool, true, false, ◌&&◌}
use mathlib.Core.List.{List, [], ◌∷◌}
use Prim.Native.Nat.{ℕ, ◌+◌, ◌*◌, ◌/◌, ◌%◌, ◌≤◌, ◌<◌}
use native.Mathlib.Omega.{arith}
use native.Mathlib.Nat.{mul-le-mul_right}
use native.Mathlib.Decide.{dec_lt, ℕ_discrete}
use lib.Bits.{bit_and}
use lib.Dec.{T}
use lib.ListN.{length, get_or}
use Rattle.rules.specs.Lists.{has}
use Rattle.rules.specs.Mesh.{face, faces_of, corners}
use Rattle.rule_laws.proofs.Flat.{face_at}
use Rattle.rule_laws.proofs.Tests.{and_elim}
use Rattle.rule_laws.proofs.Members.{has_mem, mem_three}
use Rattle.face_index.specs.Index.{joins, bucket_of, width_of, size_of, bit_of, bit_at, IndexAsks, Indexed, NoteAsks, NoteGives, CandidateAsks, CandidateGives, PastAsks, PastGives}
use Rattle.face_index.proofs.Setting.{bit_of_and, bucket_low, in_row}
use Rattle.face_index.proofs.Blocks.{sized, small, block_low}

-- ---- the index is made

-- the bits of the corners that were passed are set
pub record Noted (xs ix₀ : List ℕ) (size : ℕ) (ix : List ℕ) (i : ℕ) : Type 0 where
  pub most : i ≤ length xs
  pub long : length ix ≡ length ix₀
  pub told : (j : ℕ) → j < i → bit_at ix (get_or xs j 0) (j / 3 / size) ≡ 1

same_size : (xs ix ix' : List ℕ) → length ix' ≡ length ix → size_of xs ix' ≡ size_of xs ix
unfolding size_of width_of
same_size xs ix ix' e = ap (λ (n : ℕ). length xs / 3 / (32 * (n / 1024)) + 1) e

module _ {xs ix₀ : List ℕ} (p : IndexAsks xs ix₀) {size : ℕ} (s : size ≡ size_of xs ix₀) where
  pub size_some : 0 < size
  size_some = omega (arith, s, sized p)

  module _ {ix : List ℕ} {i : ℕ} (v : Noted xs ix₀ size ix i) where
    pub note_ok : i < length xs → NoteAsks ix (i / 3 / size)
    note_ok h =
        let k : i / 3 / size_of xs ix₀ < 32 * width_of ix₀ = block_low p (i / 3) (omega (arith, p.whole)) in
        let w : width_of ix ≡ width_of ix₀ = unfold width_of in (ap (λ (n : ℕ). n / 1024) v.long) in
        record { wide = omega (arith, v.long, p.wide); here = rw (w, s) k }

    pub noted_more : i < length xs → {ix' : List ℕ} → NoteGives ix (get_or xs i 0) (i / 3 / size) ix' → Noted xs ix₀ size ix' (i + 1)
    noted_more h {ix'} g = record { most = omega arith; long = g.long ∙ v.long; told = λ j l. go j l (ℕ_discrete j i) }
      where
        go : (j : ℕ) → j < i + 1 → Dec (j ≡ i) → bit_at ix' (get_or xs j 0) (j / 3 / size) ≡ 1
        go j l (yes e) = rw e g.noted
        go j l (no n) = g.kept (get_or xs j 0) (j / 3 / size) (v.told j (omega arith))

    pub noted_all : length xs ≤ i → Indexed xs ix
    noted_all h =
        record {
          asks = record { whole = p.whole; few = p.few; wide = omega (arith, v.long, p.wide) };
          told = λ j l. rw (same_size xs ix₀ ix v.long, ← s) (v.told j (omega arith));
        }

-- ---- the search

-- a corner's bit is set
corner_bit : {xs ix : List ℕ} → Indexed xs ix → (a g : ℕ) → g < length xs / 3 → T (has a (corners (face (faces_of xs) g))) → bit_at ix a (g / size_of xs ix) ≡ 1
corner_bit {xs} {ix} p a g h t = go (mem_three (has_mem a (get_or xs (3 * g) 0 ∷ get_or xs (3 * g + 1) 0 ∷ get_or xs (3 * g + 2) 0 ∷ []) (subst (λ f. T (has a (corners f))) (face_at xs g (omega (arith, p.asks.whole))) t)))
  where
    at : (i : ℕ) → i < length xs → i / 3 ≡ g → a ≡ get_or xs i 0 → bit_at ix a (g / size_of xs ix) ≡ 1
    at i l d e = rw (e, ← d) (p.told i l)

    go : (a ≡ get_or xs (3 * g) 0) ⊎ ((a ≡ get_or xs (3 * g + 1) 0) ⊎ (a ≡ get_or xs (3 * g + 2) 0)) → bit_at ix a (g / size_of xs ix) ≡ 1
    go (inl e) = at (3 * g) (omega arith) (omega arith) e
    go (inr (inl e)) = at (3 * g + 1) (omega arith) (omega arith) e
    go (inr (inr e)) = at (3 * g + 2) (omega arith) (omega arith) e

-- no face that was passed has both corners; the rows of both
pub record Passed (xs ix : List ℕ) (a b from size row other f : ℕ) : Type 0 where
  pub size_is : size ≡ size_of xs ix
  pub row_is : row ≡ bucket_of a * width_of ix
  pub other_is : other ≡ bucket_of b * width_of ix
  pub least : from ≤ f
  pub none : (g : ℕ) → from ≤ g → g < f → g < length xs / 3 → joins xs a b g ≡ false

-- a row begins in the index
pub row_fits : (ix : List ℕ) (v : ℕ) {r : ℕ} → r ≡ bucket_of v → r * (length ix / 1024) ≤ length ix
row_fits ix v {r} e = omega (arith, mul-le-mul_right {m = r} {n = 1024} (length ix / 1024) (omega (arith, e, bucket_low v)))

-- nothing was passed
pub begin : {xs ix : List ℕ} {a b from size r s : ℕ} → size ≡ size_of xs ix → r ≡ bucket_of a → s ≡ bucket_of b → Passed xs ix a b from size (r * (length ix / 1024)) (s * (length ix / 1024)) from
begin {xs} {ix} {a} {b} {from} {size} {r} {s} e m n =
    record {
      size_is = e;
      row_is = unfold width_of in (ap (λ (x : ℕ). x * (length ix / 1024)) m);
      other_is = unfold width_of in (ap (λ (x : ℕ). x * (length ix / 1024)) n);
      least = omega arith;
      none = λ g l k. absurd (omega arith);
    }

-- what a turn needs
pub record Turn (ix : List ℕ) (size row other f : ℕ) : Type 0 where
  pub some : 0 < size
  pub row_in : row + f / size / 32 < length ix
  pub other_in : other + f / size / 32 < length ix

module _ {xs ix : List ℕ} {a b from size row other f : ℕ} (p : Indexed xs ix) (v : Passed xs ix a b from size row other f) where
  module _ (h : f < length xs / 3) where
    pub turn : Turn ix size row other f
    turn =
        let low : f / size < 32 * width_of ix = subst (λ (n : ℕ). f / n < 32 * width_of ix) (sym v.size_is) (block_low p.asks f h) in
        record {
          some = omega (arith, v.size_is, sized p.asks);
          row_in = subst (λ (n : ℕ). n + f / size / 32 < length ix) (sym v.row_is) (in_row ix (bucket_of a) (f / size / 32) (bucket_low a) (omega arith));
          other_in = subst (λ (n : ℕ). n + f / size / 32 < length ix) (sym v.other_is) (in_row ix (bucket_of b) (f / size / 32) (bucket_low b) (omega arith));
        }

    pub past_ok : PastAsks f size
    past_ok = record { sized = turn.some; low = omega (arith, p.asks.few); small = omega (arith, v.size_is, small p.asks) }

    pub found : CandidateGives xs a b from f
    found = record { least = v.least; most = omega arith; none = λ g l k. v.none g l k (omega arith) }

    pub again : {q : Bool} → q ≡ joins xs a b f → q ≡ false → {r : ℕ} → PastGives (bit_and (get_or ix (row + f / size / 32) 0) (get_or ix (other + f / size / 32) 0)) f size r → Passed xs ix a b from size row other r
    again {q} e n {r} g =
        record {
          size_is = v.size_is;
          row_is = v.row_is;
          other_is = v.other_is;
          least = omega (arith, v.least, g.more);
          none = λ k l j m. before k l j m (dec_lt k f) (ℕ_discrete k f);
        }
      where
        clear : (k : ℕ) → f < k → k < r → k < length xs / 3 → (t : Bool) → joins xs a b k ≡ t → t ≡ false
        clear k l j m false z = refl
        clear k l j m true z =
            let c = g.clear k l j in
            let both : T (has a (corners (face (faces_of xs) k)) && has b (corners (face (faces_of xs) k))) = unfold joins in (subst T (sym z) tt) in
            let pair = and_elim (has a (corners (face (faces_of xs) k))) (has b (corners (face (faces_of xs) k))) both in
            let x : bit_of (get_or ix (row + f / size / 32) 0) (k / size % 32) ≡ 1 = rw (v.row_is, ← c.0, v.size_is) (unfold bit_at in (corner_bit p a k m pair.0)) in
            let y : bit_of (get_or ix (other + f / size / 32) 0) (k / size % 32) ≡ 1 = rw (v.other_is, ← c.0, v.size_is) (unfold bit_at in (corner_bit p b k m pair.1)) in
            absurd (omega (arith, c.1, bit_of_and (get_or ix (row + f / size / 32) 0) (get_or ix (other + f / size / 32) 0) (k / size % 32), x, y))

        before : (k : ℕ) → from ≤ k → k < r → k < length xs / 3 → Dec (k < f) → Dec (k ≡ f) → joins xs a b k ≡ false
        before k l j m (yes s) t = v.none k l s m
        before k l j m (no s) (yes t) = rw t (sym e ∙ n)
        before k l j m (no s) (no t) = clear k (omega arith) j m (joins xs a b k) refl

  pub done : CandidateAsks xs from → length xs / 3 ≤ f → CandidateGives xs a b from (length xs / 3)
  done q h = record { least = q.most; most = omega arith; none = λ g l k. v.none g l (omega arith) k }
