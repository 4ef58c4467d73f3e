-- A line of fields, and lines one behind the other. Assumes nothing.
use mathlib.Core.Path.{◌≡◌, refl, sym, ap, subst, ◌∙◌}
use mathlib.Core.List.{List, [], ◌∷◌, ◌++◌, map}
use Prim.Native.Nat.{ℕ, ◌+◌, ◌*◌, ◌/◌, ◌≤◌, ◌<◌}
use native.Mathlib.Omega.{arith}
use native.Mathlib.Numerals.{add-one}
use lib.Ieee.{Float, nan, binary64, to_bits}
use lib.ListN.{length, get_or, set, take, length-append}
use lib.Seq.{take-suc, take_all}
use Rattle.byte_rows.specs.Put.{Puts}
use Rattle.byte_rows.proofs.Putting.{puts_none, puts_both, puts_one}
use Rattle.rule_laws.proofs.Digits.{decimal_short}
use Rattle.rules.specs.Lists.{each}
use Rattle.rules.specs.Line.{bytes, decimal}
use Rattle.rules.specs.Mesh.{Point, Face, points_of, faces_of, zero64, point, face}
use Rattle.rules.specs.Text.{hex, text_line, refusal_line, mesh_lines}
use Rattle.rule_laws.proofs.Lists.{each_append}
use Rattle.rule_laws.proofs.Flat.{point_in, face_in, length_points, length_faces}
use Rattle.text_out.specs.Printed.{point_at, face_at, point_line, face_line, LinesGive, PointsAsk, FacesAsk, CountsAsk, PointAsks, FaceAsks, state_of, counts}
use Rattle.text_out.proofs.Putting.{behind, nothing, hex_long}

-- ---- one line

-- a byte, and then a text
pub byte_text : {w w' xs : List ℕ} {at r : ℕ} (b : ℕ) → at < length w → Puts (set w at b) (at + 1) xs w' r → Puts w at (b ∷ xs) w' r
byte_text {w} {w'} {xs} {at} b h q = puts_both (puts_one w at b h) q

-- a text, and then a byte
pub text_byte : {w w' xs : List ℕ} {at r : ℕ} (b : ℕ) → Puts w at xs w' r → r < length w' → Puts w at (xs ++ (b ∷ [])) (set w' r b) (r + 1)
text_byte {w} {w'} {xs} {at} {r} b q h = puts_both q (puts_one w' r b h)

-- three fields in line
pub three_line : (b : ℕ) (x y z : List ℕ) → text_line (b ∷ []) (x ∷ y ∷ z ∷ []) ≡ b ∷ ((9 ∷ x) ++ ((9 ∷ y) ++ ((9 ∷ z) ++ (10 ∷ []))))
unfolding text_line each
three_line b x y z =
    ap (λ (l : List ℕ). b ∷ l)
    (behind (9 ∷ x) ((9 ∷ y) ++ ((9 ∷ z) ++ [])) (10 ∷ [])
    ∙ ap (λ (l : List ℕ). (9 ∷ x) ++ l) (behind (9 ∷ y) ((9 ∷ z) ++ []) (10 ∷ []) ∙ ap (λ (l : List ℕ). (9 ∷ y) ++ l) (behind (9 ∷ z) [] (10 ∷ []))))

-- three fields are put behind a letter, and a newline behind them
pub three_put : {w w₁ w₂ w₃ x y z : List ℕ} {at i j k : ℕ} (b : ℕ) → at < length w → Puts (set w at b) (at + 1) (9 ∷ x) w₁ i → Puts w₁ i (9 ∷ y) w₂ j → Puts w₂ j (9 ∷ z) w₃ k → k < length w₃ → Puts w at (text_line (b ∷ []) (x ∷ y ∷ z ∷ [])) (set w₃ k 10) (k + 1)
three_put {x = x} {y = y} {z = z} b h p q r l = rw (three_line b x y z) (byte_text b h (puts_both p (puts_both q (text_byte 10 r l))))

-- the line of a point, and of a face
pub point_put : (p : Point) {w w₁ w₂ w₃ : List ℕ} {at i j k : ℕ} → at < length w → Puts (set w at 112) (at + 1) (9 ∷ hex 16 (to_bits binary64 p.x)) w₁ i → Puts w₁ i (9 ∷ hex 16 (to_bits binary64 p.y)) w₂ j → Puts w₂ j (9 ∷ hex 16 (to_bits binary64 p.z)) w₃ k → k < length w₃ → Puts w at (point_line p) (set w₃ k 10) (k + 1)
unfolding bytes
point_put p h q r s l = three_put 112 h q r s l

pub face_put : (f : Face) {w w₁ w₂ w₃ : List ℕ} {at i j k : ℕ} → at < length w → Puts (set w at 102) (at + 1) (9 ∷ decimal f.a) w₁ i → Puts w₁ i (9 ∷ decimal f.b) w₂ j → Puts w₂ j (9 ∷ decimal f.c) w₃ k → k < length w₃ → Puts w at (face_line f) (set w₃ k 10) (k + 1)
unfolding bytes
face_put f h q r s l = three_put 102 h q r s l

-- a point's line is 53 bytes
pub point_long : (p : Point) → length (point_line p) ≤ 53
unfolding bytes
point_long p =
    let e = three_line 112 (hex 16 (to_bits binary64 p.x)) (hex 16 (to_bits binary64 p.y)) (hex 16 (to_bits binary64 p.z)) in
    rw e (simp length-append (omega (arith, hex_long 16 (to_bits binary64 p.x), hex_long 16 (to_bits binary64 p.y), hex_long 16 (to_bits binary64 p.z))))

-- a face's line at most 35
pub face_long : (f : Face) → length (face_line f) ≤ 35
unfolding bytes
face_long f =
    let e = three_line 102 (decimal f.a) (decimal f.b) (decimal f.c) in
    rw e (simp length-append (omega (arith, decimal_short f.a, decimal_short f.b, decimal_short f.c)))

-- ---- several

-- the lines of the first i elements are put
pub record SoFar {A : Type 0} (h : A → List ℕ) (xs : List A) (most : ℕ) (w₀ : List ℕ) (at : ℕ) (w : List ℕ) (next i : ℕ) : Type 0 where
  pub at_most : i ≤ length xs
  pub puts : Puts w₀ at (each h (take i xs)) w next
  pub short : next ≤ at + most * i

module _ {A : Type 0} (h : A → List ℕ) (xs : List A) (most : ℕ) {w₀ : List ℕ} {at : ℕ} where
  -- before the first turn there is none
  pub begin : at ≤ length w₀ → SoFar h xs most w₀ at w₀ at 0
  unfolding each
  begin l = record { at_most = omega arith; puts = puts_none l; short = omega arith }

  module _ {w : List ℕ} {next i : ℕ} (v : SoFar h xs most w₀ at w next i) where
    -- a line more
    pub again : (d : A) {w' : List ℕ} {r : ℕ} → i < length xs → Puts w next (h (get_or xs i d)) w' r → length (h (get_or xs i d)) ≤ most → SoFar h xs most w₀ at w' r (i + 1)
    unfolding each
    again d {w'} {r} l q m =
        let e = q.ends in
        let s = v.short in
        let k : each h (take (i + 1) xs) ≡ each h (take i xs) ++ h (get_or xs i d) =
        rw add-one (ap (each h) (take-suc xs i d l) ∙ each_append h (take i xs) (get_or xs i d ∷ []) ∙ ap (λ (z : List ℕ). each h (take i xs) ++ z) (nothing (h (get_or xs i d)))) in
        record { at_most = omega arith; puts = rw k (puts_both v.puts q); short = omega arith }

    -- all lines
    pub done : {n : ℕ} → length xs ≡ n → n ≤ i → LinesGive w₀ at (each h xs) most n w next
    done {n} e l =
        let a = v.at_most in
        let k : i ≡ n = omega arith in
        record { puts = rw (take_all i xs (omega arith)) at v.puts; short = rw k at v.short }

-- ---- how far a field goes

-- the room is as long as it was, and the text goes on at most so far behind
pub record Moved (w w' : List ℕ) (at r most : ℕ) : Type 0 where
  pub long : length w' ≡ length w
  pub far : r ≤ at + most

-- a number's field
pub whole_moved : (n : ℕ) {w w' : List ℕ} {at r : ℕ} → Puts w at (9 ∷ decimal n) w' r → Moved w w' at r 11
whole_moved n q = record { long = q.only.long; far = omega (arith, q.ends, decimal_short n) }

-- a float's field
pub real_moved : (x : Float) {w w' : List ℕ} {at r : ℕ} → Puts w at (9 ∷ hex 16 (to_bits binary64 x)) w' r → Moved w w' at r 17
real_moved x q = record { long = q.only.long; far = omega (arith, q.ends, hex_long 16 (to_bits binary64 x)) }

-- a line's
pub point_moved : (p : Point) {w w' : List ℕ} {at r : ℕ} → Puts w at (point_line p) w' r → Moved w w' at r 53
point_moved p q = record { long = q.only.long; far = omega (arith, q.ends, point_long p) }

pub face_moved : (f : Face) {w w' : List ℕ} {at r : ℕ} → Puts w at (face_line f) w' r → Moved w w' at r 35
face_moved f q = record { long = q.only.long; far = omega (arith, q.ends, face_long f) }

-- ---- the loops over points, faces and counts

-- point i of the list is point i of the row
pub point_again : (ps : List Float) {w₀ w w' : List ℕ} {at next r i : ℕ} → SoFar point_line (points_of ps) 53 w₀ at w next i → i < length ps / 3 → Puts w next (point_line (point_at ps i)) w' r → SoFar point_line (points_of ps) 53 w₀ at w' r (i + 1)
unfolding point
point_again ps {w = w} {w' = w'} {next = next} {r = r} {i = i} v h q =
    let e = point_in ps nan i h in
    let l = length_points ps in
    again point_line (points_of ps) 53 v (record { x = zero64; y = zero64; z = zero64 }) (omega arith) (subst (λ (p : Point). Puts w next (point_line p) w' r) (sym e) q) (point_long _)

-- face i of the list is face i of the row
pub face_again : (fs : List ℕ) {w₀ w w' : List ℕ} {at next r i : ℕ} → SoFar face_line (faces_of fs) 35 w₀ at w next i → i < length fs / 3 → Puts w next (face_line (face_at fs i)) w' r → SoFar face_line (faces_of fs) 35 w₀ at w' r (i + 1)
unfolding face
face_again fs {w = w} {w' = w'} {next = next} {r = r} {i = i} v h q =
    let e = face_in fs i h in
    let l = length_faces fs in
    again face_line (faces_of fs) 35 v (record { a = 0; b = 0; c = 0; origin = 0 }) (omega arith) (subst (λ (f : Face). Puts w next (face_line f) w' r) (sym e) q) (face_long (face (faces_of fs) i))

-- the field of a count
abbrev pub field : ℕ → List ℕ
field n = 9 ∷ decimal n

pub count_again : {rs : List ℕ} {w₀ w w' : List ℕ} {at next r i : ℕ} → SoFar field rs 11 w₀ at w next i → i < length rs → Puts w next (field (get_or rs i 0)) w' r → SoFar field rs 11 w₀ at w' r (i + 1)
count_again {rs} {i = i} v h q = again field rs 11 v 0 h q (omega (arith, decimal_short (get_or rs i 0)))

-- the fields, as the rules list them
fields : (rs : List ℕ) → each (λ f. 9 ∷ f) (map decimal rs) ≡ each field rs
unfolding each
fields [] = refl
fields (r ∷ rs) = ap (λ (z : List ℕ). (9 ∷ decimal r) ++ z) (fields rs)

pub counts_done : {rs : List ℕ} {w₀ w : List ℕ} {at next i : ℕ} → SoFar field rs 11 w₀ at w next i → length rs ≤ i → LinesGive w₀ at (counts rs) 11 (length rs) w next
counts_done {rs} v h = rw (fields rs) (done field rs 11 v refl h)

-- ---- whole texts

-- the `r` line
pub report_done : (rs : List ℕ) {w w₁ : List ℕ} {at r : ℕ} → at < length w → Puts (set w at 114) (at + 1) (counts rs) w₁ r → r < length w₁ → Puts w at (text_line (bytes "r") (map decimal rs)) (set w₁ r 10) (r + 1)
unfolding text_line bytes
report_done rs h q l = byte_text 114 h (text_byte 10 q l)

-- the `x` line
pub refusal_done : (n : ℕ) {w w₁ : List ℕ} {r : ℕ} → 0 < length w → Puts (set w 0 120) 1 (9 ∷ decimal n) w₁ r → r < length w₁ → Puts w 0 (refusal_line n) (set w₁ r 10) (r + 1)
unfolding refusal_line text_line bytes each
refusal_done n h q l = rw (nothing (decimal n)) (byte_text 120 h (text_byte 10 q l))

-- the mesh: points, faces, report
pub mesh_done : (ps : List Float) (fs rs : List ℕ) {w w₁ w₂ w₃ : List ℕ} {i j r : ℕ} → Puts w 0 (each point_line (points_of ps)) w₁ i → Puts w₁ i (each face_line (faces_of fs)) w₂ j → Puts w₂ j (text_line (bytes "r") (map decimal rs)) w₃ r → Puts w 0 (mesh_lines (state_of ps fs rs)) w₃ r
unfolding mesh_lines
mesh_done ps fs rs p q s = puts_both (puts_both p q) s

-- ---- room for a line more

-- the field of count i
pub count_asks : {rs w₀ w : List ℕ} {at next i : ℕ} → CountsAsk w₀ at rs → SoFar field rs 11 w₀ at w next i → i < length rs → next + 11 ≤ length w
count_asks a v h =
    let k = v.puts.only.long in
    let s = v.short in
    let r = a.room in
    omega arith

-- the line of point i
pub point_asks : (ps : List Float) {w₀ w : List ℕ} {at next i : ℕ} → PointsAsk w₀ at ps → SoFar point_line (points_of ps) 53 w₀ at w next i → i < length ps / 3 → PointAsks w next ps i
point_asks ps a v h =
    let l = length_points ps in
    let k = v.puts.only.long in
    let s = v.short in
    let r = a.room in
    record { room = omega arith; inside = omega arith; few = a.few; numbers = a.numbers }

-- the line of face i
pub face_asks : (fs : List ℕ) {w₀ w : List ℕ} {at next i : ℕ} → FacesAsk w₀ at fs → SoFar face_line (faces_of fs) 35 w₀ at w next i → i < length fs / 3 → FaceAsks w next fs i
face_asks fs a v h =
    let k = v.puts.only.long in
    let s = v.short in
    let r = a.room in
    record { room = omega arith; inside = omega arith; few = a.few }
