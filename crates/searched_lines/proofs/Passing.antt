-- The words after a pass, the state that they stand for, and the length of the pass's lines. Assumes nothing.
use mathlib.Core.Path.{◌≡◌, refl, sym, ap, ap₂, ◌∙◌}
use mathlib.Core.Bool.{Bool, true, false, cond, true≢false}
use mathlib.Core.List.{List, [], ◌∷◌, ◌++◌}
use Prim.Native.Nat.{ℕ, ◌+◌, ◌/◌, ◌%◌, ◌≤◌, ◌<◌}
use native.Mathlib.Omega.{arith}
use borrow.Author.Tests.{eq-eqb}
use lib.Dec.{eqb}
use lib.ListN.{length, get_or, length-append}
use lib.Ieee.{Float}
use Rattle.rules.specs.Lists.{below, each, leave}
use Rattle.rules.specs.Float.{shape}
use Rattle.rules.specs.Mesh.{Point, Face, face, points_of}
use Rattle.rules.specs.State.{State, counted, with_faces, dropped}
use Rattle.rules.specs.Line.{bytes}
use Rattle.rules.specs.Repair.{optional}
use Rattle.rules.specs.Pass1.{marked1, pass1}
use Rattle.rules.specs.Pass2.{marked2, pass2}
use Rattle.rules.specs.Pass3.{marked3, pass3}
use Rattle.rules.specs.Pass4.{oriented, marked4, pass4}
use Rattle.rules.specs.Mending.{Reason, for_duplicate, for_edge, for_direction, word_of, reason_of, Line, exchange, line_text, drops, turned, lines1, lines2, lines3, lines4}
use Rattle.rule_laws.proofs.Lists.{each_append}
use Rattle.rule_laws.proofs.Rising.{all_imp, below_all}
use Rattle.fan_laws.specs.Sums.{sum_of}
use Rattle.fan_laws.proofs.Sums.{sum_agree}
use Rattle.face_words.specs.Words.{straight, viewed}
use Rattle.face_words.specs.Views.{Worded}
use Rattle.searched_marks.specs.Marks as marks
use Rattle.searched_marks.specs.Marks.{mark_at, Plain, WordsAsk, MarkGives, PassGives, SweepAsks, SweepGives}
use Rattle.searched_marks.proofs.Marking.{low_left, passed}
use Rattle.searched_walk.specs.Walking.{WalkAsks, TurnedGives}
use Rattle.searched_walk.specs.declared.Turned.{Turned}
use Rattle.searched_lines.specs.Lines.{bytes_of, drop_line, degenerate_line, marked_line, exchange_line, SumGives, PassAsks, ToldGives}
use Rattle.searched_lines.proofs.Telling.{drops_bytes, degenerate_bytes, exchange_bytes}

-- ---- a pass that is off, and one that is on

module _ (top : ℕ) (pass : State → State) (lines : State → List Line) {ps : List Float} {xs w : List ℕ} where
  pub off_told : 2 ≤ top → PassAsks ps xs w → (on : Bool) → on ≡ false → ToldGives top (optional on pass) (λ m. cond on (lines m) []) ps xs w w 0
  off_told h p true e = absurd (true≢false e)
  off_told h p false e =
      record {
        long = refl;
        low = λ f l. omega (arith, p.low f l);
        state = λ m q. unfold optional in q;
        bytes = λ m q. unfold each in refl;
        few = omega arith;
      }

  pub on_told : {w' : List ℕ} {r : ℕ} → ToldGives top pass lines ps xs w w' r → (on : Bool) → on ≡ true → ToldGives top (optional on pass) (λ m. cond on (lines m) []) ps xs w w' r
  on_told g false e = absurd (true≢false (sym e))
  on_told g true e = record { long = g.long; low = g.low; state = λ m q. unfold optional in (g.state m q); bytes = g.bytes; few = g.few }

-- ---- what the passes ask

module _ {ps : List Float} {xs w : List ℕ} (p : PassAsks ps xs w) where
  pub plain : Plain w
  plain = record { low = λ f h. omega (arith, p.low f h) }

  pub words_ask : WordsAsk xs w
  words_ask = record { worded = p.asks.worded; plain = plain }

  pub pass_ask : marks.PassAsks ps xs w
  pass_ask = record { asks = p.asks; plain = plain }

  pub walk_ask : WalkAsks xs w
  walk_ask = record { worded = p.asks.worded; low = p.low }

-- ---- the marked faces

-- the line of a face, by its mark
mark_line : (x : ℕ) (b : Bool) → x < 4 → (d : ℕ) → cond (eqb ((x + cond b 4 0) / 4 % 2) 1) d 0 ≡ cond b d 0
mark_line x true h d = ap (λ t. cond t d 0) (eq-eqb ((x + 4) / 4 % 2) 1 (omega arith))
mark_line x false h d = let e : (x + 0) / 4 % 2 ≡ 0 = omega arith in ap (λ (n : ℕ). cond (eqb n 1) d 0) e

module _ {M : List Face → ℕ → Bool} {xs w w₁ : List ℕ} {n : ℕ} (a : Worded xs w) (p : Plain w) (g : MarkGives M xs w w₁ n) where
  pub dropped_bytes : (k : ℕ) (why : Reason) → k ≡ length (bytes (word_of why)) → {r : ℕ} → SumGives (marked_line k w₁) (length w₁) r → r ≡ bytes_of (drops (M (viewed xs w)) (λ i. why) (viewed xs w))
  dropped_bytes k why e s =
      s.is
      ∙ ap (λ F. sum_of (marked_line k w₁) (below F)) g.long
      ∙ sum_agree (marked_line k w₁) (λ f. cond (mark_at M xs w f) (drop_line k f) 0) (below (length w))
      (all_imp (λ f. f < length w) (λ f. marked_line k w₁ f ≡ cond (mark_at M xs w f) (drop_line k f) 0)
      (λ f h. unfold marked_line in (ap (λ x. cond (eqb (x / 4 % 2) 1) (drop_line k f) 0) (g.words f h) ∙ mark_line (get_or w f 0) (mark_at M xs w f) (p.low f h) (drop_line k f)))
      (below (length w)) (below_all (length w)))
      ∙ ap (λ l. sum_of (λ f. cond (mark_at M xs w f) (drop_line l f) 0) (below (length w))) e
      ∙ sym (drops_bytes a M why)

-- ---- passes 1 to 3

module _ {ps : List Float} {xs w : List ℕ} (p : PassAsks ps xs w) where
  pub first_told : (s : Float) {w' : List ℕ} {n r : ℕ} → SumGives (degenerate_line s ps xs w) (length w) r → PassGives (marked1 s (points_of ps)) xs w w' n → ToldGives 2 (pass1 s) (lines1 s) ps xs w w' r
  first_told s {w'} {n} {r} b g =
      record {
        long = g.long;
        low = low_left g p.low;
        state = λ m q. unfold pass1 counted with_faces in (record { points = q.points; faces = ap₂ (λ u v. leave (marked1 s u v) v) q.points q.faces ∙ sym g.list });
        bytes = λ m q. b.is ∙ sym (degenerate_bytes p.asks.worded s ps) ∙ sym (unfold lines1 in (ap₂ (λ u v. bytes_of (drops (marked1 s u v) (λ i. reason_of (shape s u (face v i))) v)) q.points q.faces));
        few = omega (arith, b.few);
      }

  -- faces that leave for one reason
  module _ (M : List Point → List Face → ℕ → Bool) {w₁ w' : List ℕ} {n r : ℕ} (k : ℕ) (why : Reason) (e : k ≡ length (bytes (word_of why)))
      (g : MarkGives (M (points_of ps)) xs w w₁ n) (b : SumGives (marked_line k w₁) (length w₁) r) (s : SweepGives w₁ w') where
    pub leave_told :
        (pass : State → State) → ((m : State) → (pass m).points ≡ m.points) → ((m : State) → (pass m).faces ≡ leave (M m.points m.faces) m.faces)
        → ToldGives 2 pass (λ m. drops (M m.points m.faces) (λ i. why) m.faces) ps xs w w' r
    leave_told pass points faces =
        let d : PassGives (M (points_of ps)) xs w w' n = passed (plain p) g s in
        let l = g.long in
        record {
          long = d.long;
          low = low_left d p.low;
          state = λ m q. record { points = points m ∙ q.points; faces = faces m ∙ ap₂ (λ u v. leave (M u v) v) q.points q.faces ∙ sym d.list };
          bytes = λ m q. dropped_bytes p.asks.worded (plain p) g k why e b ∙ sym (ap₂ (λ u v. bytes_of (drops (M u v) (λ i. why) v)) q.points q.faces);
          few = omega (arith, b.few);
        }

  pub second_told : {w₁ w' : List ℕ} {n r : ℕ} → MarkGives marked2 xs w w₁ n → SumGives (marked_line 9 w₁) (length w₁) r → SweepGives w₁ w' → ToldGives 2 pass2 lines2 ps xs w w' r
  unfolding lines2 pass2 dropped counted with_faces
  second_told g b s = leave_told (λ u. marked2) 9 for_duplicate (unfold word_of bytes in refl) g b s pass2 (λ m. refl) (λ m. refl)

  pub third_told : {w₁ w' : List ℕ} {n r : ℕ} → MarkGives (marked3 (points_of ps)) xs w w₁ n → SumGives (marked_line 4 w₁) (length w₁) r → SweepGives w₁ w' → ToldGives 2 pass3 lines3 ps xs w w' r
  unfolding lines3 pass3 dropped counted with_faces
  third_told g b s = leave_told marked3 4 for_edge (unfold word_of bytes in refl) g b s pass3 (λ m. refl) (λ m. refl)

-- ---- pass 4

-- its lines, by the faces before and after they are oriented
abbrev four : List Point → List Face → List Face → List Line
four u fs gs = each (λ i. cond (turned fs gs i) (exchange (face gs i).origin ∷ []) []) (below (length gs)) ++ drops (marked4 u gs) (λ i. for_direction) gs

module _ {ps : List Float} {xs w w₁ : List ℕ} {turn : Turned} (p : PassAsks ps xs w) (t : TurnedGives xs w w₁ turn) where
  still : Worded xs w₁
  still = record { long = omega (arith, t.long, p.asks.worded.long); few = omega (arith, t.long, p.asks.worded.few) }

  pub turn_worded : Worded xs w₁
  turn_worded = still

  pub turn_ask : marks.PassAsks ps xs w₁
  turn_ask = record { asks = record { worded = still; inside = p.asks.inside }; plain = record { low = t.low } }

  module _ {w₂ w' : List ℕ} {n r c : ℕ} (x : SumGives (exchange_line xs w₁) (length w₁) c) (g : MarkGives (marked4 (points_of ps)) xs w₁ w₂ n) (b : SumGives (marked_line 9 w₂) (length w₂) r) (s : SweepGives w₂ w') where
    pub fourth_told : ToldGives 4 pass4 lines4 ps xs w w' (c + r)
    fourth_told =
        let d : PassGives (marked4 (points_of ps)) xs w₁ w' n = passed turn_ask.plain g s in
        let l = t.long in
        let k = g.long in
        record {
          long = d.long ∙ t.long;
          low = d.plain.low;
          state = λ m q. unfold pass4 dropped counted with_faces in (record { points = q.points; faces = ap₂ (λ u v. leave (marked4 u (oriented v).walk.faces) (oriented v).walk.faces) q.points q.faces ∙ ap (λ v. leave (marked4 (points_of ps) v) v) (sym t.list) ∙ sym d.list });
          bytes = λ m q. told ∙ sym (unfold lines4 in (ap₂ (λ u v. bytes_of (four u v (oriented v).walk.faces)) q.points q.faces ∙ ap (λ v. bytes_of (four (points_of ps) (viewed xs w) v)) (sym t.list)));
          few = omega (arith, x.few, b.few);
        }
      where
        straights : (f : ℕ) → f < length w → straight w f ≡ true
        straights f h = unfold straight in (eq-eqb (get_or w f 0 / 2 % 2) 0 (omega (arith, p.low f h)))

        told : c + r ≡ bytes_of (four (points_of ps) (viewed xs w) (viewed xs w₁))
        told =
            ap₂ (λ (u v : ℕ). u + v) (x.is ∙ sym (exchange_bytes still w t.long t.stays straights)) (dropped_bytes still turn_ask.plain g 9 for_direction (unfold word_of bytes in refl) b)
            ∙ sym
            (ap length (each_append line_text (each (λ i. cond (turned (viewed xs w) (viewed xs w₁) i) (exchange (face (viewed xs w₁) i).origin ∷ []) []) (below (length (viewed xs w₁)))) (drops (marked4 (points_of ps) (viewed xs w₁)) (λ i. for_direction) (viewed xs w₁)))
            ∙ length-append (each line_text (each (λ i. cond (turned (viewed xs w) (viewed xs w₁) i) (exchange (face (viewed xs w₁) i).origin ∷ []) []) (below (length (viewed xs w₁))))) (each line_text (drops (marked4 (points_of ps) (viewed xs w₁)) (λ i. for_direction) (viewed xs w₁))))
