-- The agreement: of the text that is written for a repair no line is bad, and applying it to the input gives the repaired mesh. Assumes nothing.
use mathlib.Core.Path.{◌≡◌, refl, sym, ap, ◌∙◌, subst}
use mathlib.Core.Bool.{false}
use mathlib.Core.Option.{Option, none, some}
use mathlib.Core.List.{List, [], ◌∷◌, map}
use Prim.Native.Nat.{ℕ, suc, ◌+◌, ◌*◌, ◌≤◌, ◌<◌}
use native.Mathlib.Omega.{arith}
use lib.Ieee.{Float}
use lib.ListN.{length, take, drop, take-append-drop}
use Rattle.rules.specs.Lists.{below, through}
use Rattle.rules.specs.Mesh.{Point, Face}
use Rattle.rules.specs.Refusal.{ok}
use Rattle.rules.specs.Repair.{repaired}
use Rattle.rules.specs.Mending.{Line, list, list_text}
use Rattle.rules.specs.Applying.{Bench, with_list_line, bench_of, after_lines, is_none, no15, finished, applied, lines_read}
use Rattle.rule_laws.proofs.Once.{Inside}
use Rattle.rule_laws.proofs.Lists.{through_append}
use Rattle.rule_laws.proofs.Rising.{All, all_imp, below_all, Up}
use Rattle.rule_laws.proofs.Firsts.{at_first_ok}
use Rattle.rule_laws.proofs.Origins.{origins}
use Rattle.mending_laws.proofs.ReadBack.{Sound, read_back}
use Rattle.mending_laws.proofs.Weights.{Within, within_sound}
use Rattle.mending_laws.proofs.Listed.{listed}
use Rattle.mending_laws.proofs.Bounded.{list_bounded}

-- after a bad line nothing stands
none_through : (P F : ℕ) (ls : List (Option Line)) → through (with_list_line P F) none ls ≡ none
unfolding through with_list_line
none_through P F [] = refl
none_through P F (l ∷ ls) = none_through P F ls

-- tells a bench from none
abbrev There : Option Bench → Type 0
There none = ⊥
There (some b) = Unit {0}

-- where all lines run, the first k do
first_run : (P F k : ℕ) (s : Option Bench) (b : Bench) (ls : List (Option Line)) → through (with_list_line P F) s ls ≡ some b → is_none (through (with_list_line P F) s (take k ls)) ≡ false
first_run P F k s b ls e = go (through (with_list_line P F) s (take k ls)) refl
  where
    go : (o : Option Bench) → through (with_list_line P F) s (take k ls) ≡ o → is_none o ≡ false
    go (some c) q = unfold is_none in refl
    go none q =
        absurd
        (subst There
        (sym e ∙ ap (through (with_list_line P F) s) (sym (take-append-drop k ls)) ∙ through_append (with_list_line P F) s (take k ls) (drop k ls) ∙ ap (λ o. through (with_list_line P F) o (drop k ls)) q ∙ none_through P F (drop k ls))
        tt)

-- no line is bad where all lines run
pub no_bad_line : (ps : List Point) (fs : List Face) (text : List ℕ) (b : Bench) → after_lines ps fs (lines_read text) ≡ some b → no15 ps fs text ≡ ok
unfolding no15 after_lines
no_bad_line ps fs text b e =
    let ls = lines_read text in
    at_first_ok 15 (λ k. is_none (after_lines ps fs (take (suc k) ls))) (below (length ls))
    (all_imp (λ k. k < length ls) (λ k. is_none (after_lines ps fs (take (suc k) ls)) ≡ false) (λ k h. first_run (length ps) (length fs) (suc k) (some (bench_of ps fs)) b ls e) (below (length ls)) (below_all (length ls)))

-- what then comes of it
pub applied_is : (ps : List Point) (fs : List Face) (text : List ℕ) (b : Bench) → after_lines ps fs (lines_read text) ≡ some b → applied ps fs text ≡ finished b
unfolding applied
applied_is ps fs text b e = λ i. elim (e i) [ none ↦ record { points = ps; faces = fs } | some c ↦ finished c ]

module _ (s : Float) (options : ℕ) (ps : List Point) (fs : List Face) (inside : Inside (length ps) fs) (up : Up 0 (origins fs)) (low : All (λ f. f.origin < length fs) fs)
    (hp : length ps ≤ 4194304) (hf : length fs ≤ 1048576) where
  -- the text is read as the lines that were written
  pub text_read : lines_read (list_text s options ps fs) ≡ map some (list s options ps fs)
  unfolding list_text
  text_read =
      let b = list_bounded s options ps fs inside up low in
      read_back (list s options ps fs)
      (all_imp (Within (length fs) (length ps + 3 * length fs)) Sound (within_sound (length fs) (length ps + 3 * length fs) (omega arith) (omega arith)) (list s options ps fs) b.within)

  -- they all run
  all_run : after_lines ps fs (lines_read (list_text s options ps fs)) ≡ some (listed s options ps fs inside up low).end
  unfolding after_lines
  all_run = ap (through (with_list_line (length ps) (length fs)) (some (bench_of ps fs))) text_read ∙ (listed s options ps fs inside up low).goes

  -- no line is bad
  pub none_bad : no15 ps fs (list_text s options ps fs) ≡ ok
  none_bad = no_bad_line ps fs (list_text s options ps fs) (listed s options ps fs inside up low).end all_run

  -- applying gives the repaired points
  pub same_points : (applied ps fs (list_text s options ps fs)).points ≡ (repaired s options ps fs).points
  same_points = ap (λ m. m.points) (applied_is ps fs (list_text s options ps fs) (listed s options ps fs inside up low).end all_run) ∙ (listed s options ps fs inside up low).points

  -- and the repaired faces
  pub same_faces : (applied ps fs (list_text s options ps fs)).faces ≡ (repaired s options ps fs).faces
  same_faces = ap (λ m. m.faces) (applied_is ps fs (list_text s options ps fs) (listed s options ps fs inside up low).end all_run) ∙ (listed s options ps fs inside up low).faces
