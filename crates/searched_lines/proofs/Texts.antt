-- How long the line is that tells a face which leaves, or an exchange. Assumes nothing.
use mathlib.Core.Path.{◌≡◌, refl}
use mathlib.Core.Bool.{Bool, true, false, cond}
use mathlib.Core.List.{List, [], ◌∷◌, ◌++◌}
use Prim.Native.Nat.{ℕ, ◌+◌, ◌/◌, ◌%◌, ◌≤◌}
use native.Mathlib.Omega.{arith}
use lib.Dec.{eqb}
use lib.ListN.{length, get_or, length-append}
use lib.Ieee.{Float}
use Rattle.rules.specs.Lists.{each}
use Rattle.rules.specs.Float.{Shape, good, repeated, thin, shape}
use Rattle.rules.specs.Mesh.{points_of}
use Rattle.rules.specs.Line.{bytes, digits, decimal}
use Rattle.rules.specs.Text.{text_line}
use Rattle.rules.specs.Mending.{Reason, for_repeated, for_thin, for_duplicate, for_edge, for_direction, pass_of, word_of, dropped_face, exchange, line_text}
use Rattle.rule_laws.proofs.Digits.{decimal_short}
use Rattle.face_words.specs.Words.{stands, view}
use Rattle.searched_lines.specs.Lines.{drop_line, shape_line, degenerate_line, marked_line, shows, exchange_line}

-- a pass has one digit
pass_digit : (why : Reason) → length (decimal (pass_of why)) ≡ 1
pass_digit for_repeated = unfold pass_of decimal digits in refl
pass_digit for_thin = unfold pass_of decimal digits in refl
pass_digit for_duplicate = unfold pass_of decimal digits in refl
pass_digit for_edge = unfold pass_of decimal digits in refl
pass_digit for_direction = unfold pass_of decimal digits in refl

-- a face that leaves
pub drop_text : (f : ℕ) (why : Reason) → length (line_text (dropped_face f why)) ≡ drop_line (length (bytes (word_of why))) f
unfolding line_text text_line each bytes drop_line
drop_text f why =
    let d = decimal f in
    let p = decimal (pass_of why) in
    let w = bytes (word_of why) in
    omega (
      arith,
      pass_digit why,
      length-append ((9 ∷ d) ++ ((9 ∷ p) ++ ((9 ∷ w) ++ []))) (10 ∷ []),
      length-append (9 ∷ d) ((9 ∷ p) ++ ((9 ∷ w) ++ [])),
      length-append (9 ∷ p) ((9 ∷ w) ++ []),
      length-append (9 ∷ w) [],
    )

-- an exchange
pub exchange_text : (f : ℕ) → length (line_text (exchange f)) ≡ 3 + length (decimal f)
unfolding line_text text_line each bytes
exchange_text f = omega (arith, length-append ((9 ∷ decimal f) ++ []) (10 ∷ []), length-append (9 ∷ decimal f) [])

-- a line is short
drop_short : (n f : ℕ) → n ≤ 9 → drop_line n f ≤ 25
unfolding drop_line
drop_short n f h = omega (arith, decimal_short f)

pub degenerate_short : (s : Float) (ps : List Float) (xs w : List ℕ) (f : ℕ) → degenerate_line s ps xs w f ≤ 25
unfolding degenerate_line
degenerate_short s ps xs w f = go (stands w f) (shape s (points_of ps) (view xs w f))
  where
    go : (b : Bool) (x : Shape) → cond b (shape_line x f) 0 ≤ 25
    go false x = omega arith
    go true good = unfold shape_line in (omega arith)
    go true repeated = unfold shape_line in (drop_short 8 f (omega arith))
    go true thin = unfold shape_line in (drop_short 4 f (omega arith))

pub marked_short : (n : ℕ) → n ≤ 9 → (w : List ℕ) (f : ℕ) → marked_line n w f ≤ 25
unfolding marked_line
marked_short n h w f = go (eqb (get_or w f 0 / 4 % 2) 1)
  where
    go : (b : Bool) → cond b (drop_line n f) 0 ≤ 25
    go true = drop_short n f h
    go false = omega arith

pub exchange_short : (xs w : List ℕ) (f : ℕ) → exchange_line xs w f ≤ 25
unfolding exchange_line
exchange_short xs w f = go (shows xs w f)
  where
    go : (b : Bool) → cond b (3 + length (decimal f)) 0 ≤ 25
    go true = omega (arith, decimal_short f)
    go false = omega arith
