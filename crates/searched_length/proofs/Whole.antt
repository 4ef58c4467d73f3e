-- The list, pass by pass: its length is the sum of what the passes tell, and is bounded. Assumes nothing.
use mathlib.Core.Path.{◌≡◌, refl, sym, ap, ◌∙◌, subst}
use mathlib.Core.Bool.{Bool, cond}
use mathlib.Core.List.{List, [], ◌++◌}
use Prim.Native.Nat.{ℕ, ◌+◌, ◌/◌, ◌%◌, ◌≤◌, ◌<◌}
use native.Mathlib.Omega.{arith}
use lib.Dec.{eqb}
use lib.ListN.{length, length-append}
use lib.Ieee.{Float}
use Rattle.rules.specs.Lists.{each}
use Rattle.rules.specs.Mesh.{Point, Face, points_of, faces_of}
use Rattle.rules.specs.State.{State, start}
use Rattle.rules.specs.Repair.{bit, optional}
use Rattle.rules.specs.Pass1.{pass1}
use Rattle.rules.specs.Pass2.{pass2}
use Rattle.rules.specs.Pass3.{pass3}
use Rattle.rules.specs.Pass4.{pass4}
use Rattle.rules.specs.Pass5.{pass5}
use Rattle.rules.specs.Mending.{Line, line_text, lines1, lines2, lines3, lines4, lines5, lines6, list, list_text}
use Rattle.rule_laws.proofs.Lists.{each_append}
use Rattle.rule_laws.proofs.Rising.{All, all_imp, all_map}
use Rattle.rule_laws.proofs.Flat.{length_points, length_faces}
use Rattle.rule_laws.proofs.Once.{Inside}
use Rattle.refuse.specs.Accepted.{Accepted}
use Rattle.mending_laws.proofs.Rise.{from_rise}
use Rattle.mending_laws.proofs.Bounded.{text_bounded}
use Rattle.face_words.specs.Words.{view, there, viewed}
use Rattle.face_words.specs.Views.{Worded}
use Rattle.face_words.proofs.Places.{there_all}
use Rattle.face_words.proofs.Input.{viewed_input, view_origin}
use Rattle.entry_search.specs.Choosing.{BestAsks}
use Rattle.searched_marks.proofs.Losing.{viewed_inside}
use Rattle.searched_lines.specs.Lines.{bytes_of, PassAsks, Shown, ToldGives}
use Rattle.searched_length.specs.Length.{EndAsks, EndGives, RowsAsk}
use Rattle.searched_length.proofs.Rows.{zeros, zeros_worded, zeros_each}

-- ---- what each pass asks

module _ {ps : List Float} {xs ix w : List ℕ} (p : RowsAsk ps xs ix w) where
  pub first_ask : PassAsks ps xs w
  first_ask = record { asks = record { worded = p.worded; inside = p.input.faces_fine.below }; low = λ f h. omega (arith, p.zero f h) }

module _ {pass : State → State} {lines : State → List Line} {ps : List Float} {xs w w' : List ℕ} {r : ℕ} (p : PassAsks ps xs w) where
  pub next_ask : ToldGives 2 pass lines ps xs w w' r → PassAsks ps xs w'
  next_ask g =
      record {
        asks = record { worded = record { long = omega (arith, g.long, p.asks.worded.long); few = omega (arith, g.long, p.asks.worded.few) }; inside = p.asks.inside };
        low = g.low;
      }

  pub end_ask : Accepted ps xs → ToldGives 4 pass lines ps xs w w' r → EndAsks ps xs w' (length ps / 3)
  end_ask a g =
      record {
        asks = record { worded = record { long = omega (arith, g.long, p.asks.worded.long); few = omega (arith, g.long, p.asks.worded.few) }; inside = p.asks.inside };
        low = g.low;
        points = refl;
        few = a.faces_fine.points;
      }

-- ---- the list by what is on

abbrev list_of : Float → Bool → Bool → Bool → Bool → Bool → Bool → List Point → List Face → List Line
list_of s o1 o2 o3 o4 o5 o6 ps fs =
    let m0 = start ps fs in
    let m1 = optional o1 (pass1 s) m0 in
    let m2 = optional o2 pass2 m1 in
    let m3 = optional o3 pass3 m2 in
    let m4 = optional o4 pass4 m3 in
    let m5 = optional o5 pass5 m4 in
    cond o1 (lines1 s m0) [] ++ cond o2 (lines2 m1) [] ++ cond o3 (lines3 m2) [] ++ cond o4 (lines4 m3) [] ++ cond o5 (lines5 m4) [] ++ cond o6 (lines6 m5) []

bytes_append : (x y : List Line) → bytes_of (x ++ y) ≡ bytes_of x + bytes_of y
bytes_append x y = ap length (each_append line_text x y) ∙ length-append (each line_text x) (each line_text y)

six_bytes : (a b c d e f : List Line) → bytes_of (a ++ b ++ c ++ d ++ e ++ f) ≡ bytes_of a + bytes_of b + bytes_of c + bytes_of d + bytes_of e + bytes_of f
six_bytes a b c d e f = omega (arith, bytes_append (a ++ b ++ c ++ d ++ e) f, bytes_append (a ++ b ++ c ++ d) e, bytes_append (a ++ b ++ c) d, bytes_append (a ++ b) c, bytes_append a b)

-- options by their bits
bit_zero : (options : ℕ) → eqb (options % 2) 1 ≡ bit 0 options
unfolding bit
bit_zero options = let e : options % 2 ≡ options / 1 % 2 = omega arith in ap (λ n. eqb n 1) e

module _ {ps : List Float} {xs ix w : List ℕ} (p : RowsAsk ps xs ix w) (s : Float) (options : ℕ) where
  -- the state of the words of 0
  shown : Shown ps xs w (start (points_of ps) (faces_of xs))
  shown = unfold start in (record { points = refl; faces = sym (viewed_input p.worded p.zero) })

  module _ {w1 w2 w3 w4 : List ℕ} {a b c d e f : ℕ}
      (g1 : ToldGives 2 (optional (eqb (options % 2) 1) (pass1 s)) (λ m. cond (eqb (options % 2) 1) (lines1 s m) []) ps xs w w1 a)
      (g2 : ToldGives 2 (optional (eqb (options / 2 % 2) 1) pass2) (λ m. cond (eqb (options / 2 % 2) 1) (lines2 m) []) ps xs w1 w2 b)
      (g3 : ToldGives 2 (optional (eqb (options / 4 % 2) 1) pass3) (λ m. cond (eqb (options / 4 % 2) 1) (lines3 m) []) ps xs w2 w3 c)
      (g4 : ToldGives 4 (optional (eqb (options / 16 % 2) 1) pass4) (λ m. cond (eqb (options / 16 % 2) 1) (lines4 m) []) ps xs w3 w4 d)
      (g5 : EndGives (eqb (options / 8 % 2) 1) (eqb (options / 32 % 2) 1) ps xs w4 e f) where
    pub all_told : a + b + c + d + e + f ≡ length (list_text s options (points_of ps) (faces_of xs))
    all_told =
        let m0 = start (points_of ps) (faces_of xs) in
        let q1 = g1.state m0 shown in
        let q2 = g2.state _ q1 in
        let q3 = g3.state _ q2 in
        let q4 = g4.state _ q3 in
        added (g1.bytes m0 shown) (g2.bytes _ q1) (g3.bytes _ q2) (g4.bytes _ q3) (g5.splits _ q4) (g5.leaves _ q4)
        ∙ sym (six_bytes _ _ _ _ _ _)
        ∙ ap (λ o. bytes_of (list_of s o (eqb (options / 2 % 2) 1) (eqb (options / 4 % 2) 1) (eqb (options / 16 % 2) 1) (eqb (options / 8 % 2) 1) (eqb (options / 32 % 2) 1) (points_of ps) (faces_of xs))) (bit_zero options)
        ∙ same
      where
        added : {a' b' c' d' e' f' : ℕ} → a ≡ a' → b ≡ b' → c ≡ c' → d ≡ d' → e ≡ e' → f ≡ f' → a + b + c + d + e + f ≡ a' + b' + c' + d' + e' + f'
        added h1 h2 h3 h4 h5 h6 = omega arith

        same : bytes_of (list_of s (bit 0 options) (eqb (options / 2 % 2) 1) (eqb (options / 4 % 2) 1) (eqb (options / 16 % 2) 1) (eqb (options / 8 % 2) 1) (eqb (options / 32 % 2) 1) (points_of ps) (faces_of xs)) ≡ length (list_text s options (points_of ps) (faces_of xs))
        same = unfold list_text list bit in refl

-- ---- it is bounded

pub text_short : {ps : List Float} {xs : List ℕ} → Accepted ps xs → (s : Float) (options : ℕ) → length (list_text s options (points_of ps) (faces_of xs)) ≤ 200000000
text_short {ps} {xs} p s options =
    omega (
      arith,
      text_bounded s options (points_of ps) (faces_of xs)
          (subst (Inside (length (points_of ps))) input (viewed_inside asked))
          (from_rise 0 xs)
          (subst (λ fs. All (λ f. f.origin < length (faces_of xs)) fs) input names)
          (omega (arith, length_points ps, p.faces_fine.points))
          (omega (arith, length_faces xs, p.faces_fine.few)),
      length_points ps,
      length_faces xs,
      p.faces_fine.points,
      p.faces_fine.few,
    )
  where
    w : List ℕ
    w = zeros (length xs / 3)

    worded : Worded xs w
    worded = zeros_worded p

    asked : BestAsks ps xs w
    asked = record { worded = worded; inside = p.faces_fine.below }

    input : viewed xs w ≡ faces_of xs
    input = viewed_input worded (zeros_each (length xs / 3))

    names : All (λ f. f.origin < length (faces_of xs)) (viewed xs w)
    names =
        all_map (λ f. f.origin < length (faces_of xs)) (view xs w) (there w (length w))
        (all_imp _ (λ f. (view xs w f).origin < length (faces_of xs)) (λ f h. omega (arith, view_origin worded f h.0, h.0, length_faces xs, worded.long)) (there w (length w)) (there_all w (length w)))
