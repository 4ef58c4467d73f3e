-- The parts of the file put one behind the other. Assumes nothing.
use mathlib.Core.Path.{◌≡◌, sym, ap, subst, ◌∙◌}
use mathlib.Core.List.{List, [], ◌∷◌, ◌++◌, append-nil}
use Prim.Native.Nat.{ℕ, ◌+◌, ◌*◌, ◌/◌, ◌^◌, ◌≤◌, ◌<◌}
use native.Mathlib.Omega.{arith}
use native.Mathlib.Numerals.{add-one}
use lib.Ieee.{Float}
use lib.ListN.{length, get_or, set, take}
use lib.Seq.{take-suc, take_all}
use Rattle.byte_rows.specs.Put.{Puts}
use Rattle.byte_rows.proofs.Putting.{puts_none, puts_both, puts_one}
use Rattle.rules.specs.Lists.{each}
use Rattle.rules.specs.Bytes.{little}
use Rattle.rules.specs.Line.{decimal}
use Rattle.rules.specs.Mesh.{Face, face, faces_of}
use Rattle.rules.specs.Ply.{triple, header, before_vertices, before_faces, after_counts}
use Rattle.rule_laws.proofs.Lists.{each_append}
use Rattle.rule_laws.proofs.Flat.{face_in, length_faces}
use Rattle.rule_laws.proofs.Digits.{plain_decimal}
use Rattle.rule_laws.proofs.Bytes.{little_long}
use Rattle.rule_laws.proofs.PlyHeader.{header_long}
use Rattle.rule_laws.proofs.PlyWritten.{triple_long}
use Rattle.write_ply.specs.Written.{HeaderAsks, real, face_at, RealsAsk, TripleAsks, TriplesAsk}

-- ---- the header

-- the five parts fit
pub record Parts (p f n : ℕ) : Type 0 where
  pub vertices : p < 10 ^ 10
  pub faces : f < 10 ^ 10
  pub fit : 170 + length (decimal p) + length (decimal f) ≤ n

-- a count that is accepted has at most ten digits, so that `put_number` puts it in plain decimal
pub parts : {w : List ℕ} {p f : ℕ} → HeaderAsks w p f → Parts p f (length w)
parts {w} {p} {f} h =
    let a : p < 10 ^ 10 = omega (arith, h.points) in
    let b : f < 10 ^ 10 = omega (arith, h.faces) in
    record { vertices = a; faces = b; fit = omega (arith, h.room, header_long p f, ap length (plain_decimal p a), ap length (plain_decimal f b)) }

-- one behind the other they are the header
pub header_put :
    {w w₁ w₂ w₃ w₄ w₅ : List ℕ} {p f i j k l m : ℕ} → HeaderAsks w p f → Puts w 0 before_vertices w₁ i → Puts w₁ i (decimal p) w₂ j
    → Puts w₂ j before_faces w₃ k → Puts w₃ k (decimal f) w₄ l → Puts w₄ l after_counts w₅ m → Puts w 0 (header p f) w₅ m
unfolding header
header_put {p = p} {f = f} h q₁ q₂ q₃ q₄ q₅ =
    let x = plain_decimal p (parts h).vertices in
    let y = plain_decimal f (parts h).faces in
    puts_both (puts_both (puts_both (puts_both q₁ (rw x at q₂)) q₃) (rw y at q₄)) q₅

-- ---- coordinates

-- the bytes of the first i elements are put
pub record SoFar {A : Type 0} (h : A → List ℕ) (wide : ℕ) (xs : List A) (w₀ : List ℕ) (at : ℕ) (w : List ℕ) (next i : ℕ) : Type 0 where
  pub at_most : i ≤ length xs
  pub puts : Puts w₀ at (each h (take i xs)) w next
  pub far : next ≡ at + wide * i

module _ {A : Type 0} (h : A → List ℕ) (wide : ℕ) (xs : List A) {w₀ : List ℕ} {at : ℕ} where
  -- before the first turn none are
  pub begin : at ≤ length w₀ → SoFar h wide xs w₀ at w₀ at 0
  unfolding each
  begin l = record { at_most = omega arith; puts = puts_none l; far = omega arith }

  module _ {w : List ℕ} {next i : ℕ} (v : SoFar h wide xs w₀ at w next i) where
    -- one more
    pub again : (d : A) {w' : List ℕ} {r : ℕ} → i < length xs → Puts w next (h (get_or xs i d)) w' r → length (h (get_or xs i d)) ≡ wide → SoFar h wide xs w₀ at w' r (i + 1)
    unfolding each
    again d {w'} {r} l q m =
        let e = q.ends in
        let s = v.far in
        let k : each h (take (i + 1) xs) ≡ each h (take i xs) ++ h (get_or xs i d) =
        rw add-one (ap (each h) (take-suc xs i d l) ∙ each_append h (take i xs) (get_or xs i d ∷ []) ∙ ap (λ (z : List ℕ). each h (take i xs) ++ z) (append-nil (h (get_or xs i d)))) in
        record { at_most = omega arith; puts = rw k (puts_both v.puts q); far = omega arith }

    -- all
    pub done : length xs ≤ i → Puts w₀ at (each h xs) w next
    done l = rw (take_all i xs l) at v.puts

-- what a turn needs
pub record Turn (w : List ℕ) (next wide : ℕ) : Type 0 where
  pub room : next + wide ≤ length w

-- of the coordinates
pub real_turn : {ps : List Float} {w₀ w : List ℕ} {at next i : ℕ} → RealsAsk w₀ at ps → SoFar real 8 ps w₀ at w next i → i < length ps → Turn w next 8
real_turn p v h = let l = v.puts.only.long in record { room = omega (arith, p.room, v.far) }

-- ---- faces

-- the count 3 and three indices
pub triple_put :
    (f : Face) {w w₁ w₂ w₃ : List ℕ} {at i j k : ℕ} → at < length w → Puts (set w at 3) (at + 1) (little 4 f.a) w₁ i → Puts w₁ i (little 4 f.b) w₂ j
    → Puts w₂ j (little 4 f.c) w₃ k → Puts w at (triple f) w₃ k
unfolding triple each
triple_put f {w} {w₃ = w₃} {at = at} {k = k} h p q r =
    let e : (3 ∷ []) ++ (little 4 f.a ++ (little 4 f.b ++ little 4 f.c)) ≡ 3 ∷ (little 4 f.a ++ (little 4 f.b ++ (little 4 f.c ++ []))) =
    ap (λ (z : List ℕ). 3 ∷ (little 4 f.a ++ (little 4 f.b ++ z))) (sym (append-nil (little 4 f.c))) in
    subst (λ (z : List ℕ). Puts w at z w₃ k) e (puts_both (puts_one w at 3 h) (puts_both p (puts_both q r)))

-- how far four bytes go
pub record Moved (w w' : List ℕ) (at r : ℕ) : Type 0 where
  pub long : length w' ≡ length w
  pub far : r ≡ at + 4

-- that is so of an index
pub moved : (n : ℕ) {w w' : List ℕ} {at r : ℕ} → Puts w at (little 4 n) w' r → Moved w w' at r
moved n q = record { long = q.only.long; far = omega (arith, q.ends, little_long 4 n) }

-- there is room for one more
pub triple_asks : {fs w₀ w : List ℕ} {at next i : ℕ} → TriplesAsk w₀ at fs → SoFar triple 13 (faces_of fs) w₀ at w next i → i < length fs / 3 → TripleAsks w next fs i
triple_asks p v h = let l = v.puts.only.long in record { room = omega (arith, p.room, v.far); inside = omega arith; few = omega (arith, p.few) }

-- one more is put
pub triple_again : (fs : List ℕ) {w₀ w w' : List ℕ} {at next r i : ℕ} → SoFar triple 13 (faces_of fs) w₀ at w next i → i < length fs / 3 → Puts w next (triple (face_at fs i)) w' r → SoFar triple 13 (faces_of fs) w₀ at w' r (i + 1)
unfolding face
triple_again fs {w = w} {w' = w'} {next = next} {r = r} {i = i} v h q =
    let e = face_in fs i h in
    let l = length_faces fs in
    again triple 13 (faces_of fs) v (record { a = 0; b = 0; c = 0; origin = 0 }) (omega arith) (subst (λ (f : Face). Puts w next (triple f) w' r) (sym e) q) (triple_long (face (faces_of fs) i))

-- all are
pub triples_done : (fs : List ℕ) {w₀ w : List ℕ} {at next i : ℕ} → SoFar triple 13 (faces_of fs) w₀ at w next i → length fs / 3 ≤ i → Puts w₀ at (each triple (faces_of fs)) w next
triples_done fs v h = let l = length_faces fs in done triple 13 (faces_of fs) v (omega arith)
