-- The laws of `Puts`: nothing, one byte, a text byte by byte, one text behind another, and the whole line. Assumes nothing.
use mathlib.Core.Path.{◌≡◌, refl, sym, ap, ◌∙◌}
use mathlib.Core.List.{List, [], ◌∷◌, ◌++◌}
use Prim.Native.Nat.{ℕ, ◌+◌, ◌≤◌, ◌<◌}
use native.Mathlib.Omega.{arith}
use lib.ListN.{length, get_or, set, drop, length-append, length-drop, take-append-drop}
use lib.Seq.{get_or-drop, ext_get_or}
use Rattle.rows.specs.Region.{part, Out.above, Apart.before, Only, Holds}
use Rattle.rows.proofs.Regions.{length_part, get_d_part, part_add, only_none, only_both, only_more, only_next, holds_none, holds_next, kept}
use Rattle.byte_rows.specs.Put.{Puts}

-- nothing is put
pub puts_none : {w : List ℕ} {at : ℕ} → at ≤ length w → Puts w at [] w at
puts_none {w} {at} h = record { fits = omega arith; only = only_none at 0 w; text = refl; ends = omega arith }

-- one text behind another
pub puts_both : {w w' w'' xs ys : List ℕ} {at mid end : ℕ} → Puts w at xs w' mid → Puts w' mid ys w'' end → Puts w at (xs ++ ys) w'' end
puts_both {w} {w'} {w''} {xs} {ys} {at} {mid} {end} p q =
    let l = p.only.long in
    let e = p.ends in
    let q' : Puts w' (at + length xs) ys w'' end = rw e at q in
    let f = q'.fits in
    let s = length-append xs ys in
    record {
      fits = rw s (omega arith);
      only = rw s (only_both (only_more (omega arith) (omega arith) p.only) (only_more (omega arith) (omega arith) q'.only));
      text = rw s (part_add w'' at (length xs) (length ys) ∙ ap (λ (z : List ℕ). z ++ part w'' (at + length xs) (length ys)) (kept q'.only at (length xs) (before (omega arith)) (omega arith) ∙ p.text) ∙ ap (λ (z : List ℕ). xs ++ z) q'.text);
      ends = rw s (omega (arith, q'.ends));
    }

-- the first i bytes of xs are put
pub record Begun (w₀ : List ℕ) (at : ℕ) (xs : List ℕ) (w : List ℕ) (i : ℕ) : Type 0 where
  pub fits : at + length xs ≤ length w₀
  pub at_most : i ≤ length xs
  pub only : Only at i w₀ w
  pub held : Holds at i (λ j. get_or xs j 0) w

-- what a turn needs: the next byte is in the line
pub record Turn (at : ℕ) (w : List ℕ) (i : ℕ) : Type 0 where
  pub room : at + i < length w

-- before the first turn nothing is put
pub begin : {w₀ : List ℕ} {at : ℕ} {xs : List ℕ} → at + length xs ≤ length w₀ → Begun w₀ at xs w₀ 0
begin {w₀} {at} h = record { fits = h; at_most = omega arith; only = only_none at 0 w₀; held = holds_none }

module _ {w₀ : List ℕ} {at : ℕ} {xs w : List ℕ} {i : ℕ} (v : Begun w₀ at xs w i) where
  -- the line is as long as it was
  pub turn : i < length xs → Turn at w i
  turn h =
      let l = v.only.long in
      record { room = omega (arith, v.fits) }

  -- the next byte of xs is stored where the region ends
  pub again : (x : ℕ) → i < length xs → x ≡ get_or xs i 0 → Begun w₀ at xs (set w (at + i) x) (i + 1)
  again x h e = record { fits = v.fits; at_most = omega arith; only = only_next x v.only; held = holds_next x (turn h).room e v.held }

  -- the region is xs, entry by entry
  pub done : length xs ≤ i → Puts w₀ at xs w (at + i)
  done h =
      let l = v.only.long in
      let f = v.fits in
      let e : i ≡ length xs = omega (arith, v.at_most) in
      let o : Only at (length xs) w₀ w = rw e at v.only in
      let g : Holds at (length xs) (λ j. get_or xs j 0) w = rw e at v.held in
      let n = length_part w at (length xs) (omega arith) in
      record {
        fits = f;
        only = o;
        text = ext_get_or 0 (part w at (length xs)) xs n (λ j p. let q : j < length xs = omega arith in get_d_part w at (length xs) j q ∙ g.each j q);
        ends = omega arith;
      }

-- one byte: a text of one, after a turn
pub puts_one : (w : List ℕ) (at x : ℕ) → at < length w → Puts w at (x ∷ []) (set w at x) (at + 1)
puts_one w at x h =
    let a = again (begin {w₀ = w} {at = at} {xs = x ∷ []} (omega arith)) x (omega arith) refl in
    let z : at + 0 ≡ at = omega arith in
    rw z at (done a (omega arith))

-- the line with a text in front is the text and what stood behind it
pub puts_front : {w xs w' : List ℕ} {end : ℕ} → Puts w 0 xs w' end → w' ≡ xs ++ drop (length xs) w
puts_front {w} {xs} {w'} p =
    let l = p.only.long in
    let n = length-drop (length xs) w' in
    let m = length-drop (length xs) w in
    let rest : drop (length xs) w' ≡ drop (length xs) w =
    ext_get_or 0 (drop (length xs) w') (drop (length xs) w) (omega arith)
    (λ i h. get_or-drop (length xs) w' i 0 ∙ p.only.same (length xs + i) (above (omega arith)) ∙ sym (get_or-drop (length xs) w i 0)) in
    sym (take-append-drop (length xs) w') ∙ ap (λ (z : List ℕ). z ++ drop (length xs) w') p.text ∙ ap (λ (z : List ℕ). xs ++ z) rest
