-- The first bad line: the lines before it apply, and it does not. Assumes nothing.
use mathlib.Core.Path.{◌≡◌, refl, sym, ap, ◌∙◌}
use mathlib.Core.Bool.{Bool, true, false}
use mathlib.Core.Option.{Option, none, some}
use mathlib.Core.List.{List, [], ◌∷◌, ◌++◌, append-nil}
use Prim.Native.Nat.{ℕ, suc, ◌+◌, ◌<◌}
use native.Mathlib.Omega.{arith}
use lib.ListN.{length, take, drop, length-append, take-append-drop}
use lib.Seq.{take-append-le, take-append-add}
use Rattle.rules.specs.Lists.{below, through}
use Rattle.rules.specs.Mesh.{Point, Face}
use Rattle.rules.specs.Mending as list
use Rattle.rules.specs.Refusal.{ok, no}
use Rattle.rules.specs.Applying.{Bench, bench_of, with_list_line, lines_read, after_lines, is_none, no15}
use Rattle.rule_laws.proofs.Lists.{through_append, length_below}
use Rattle.rule_laws.proofs.Rising.{get_or_below}
use Rattle.rule_laws.proofs.Firsts.{none_at_fault, at_fault}

-- after a bad line nothing stands
pub none_stays : (P F : ℕ) (ls : List (Option list.Line)) → through (with_list_line P F) none ls ≡ none
unfolding through with_list_line
none_stays P F [] = refl
none_stays P F (l ∷ ls) = none_stays P F ls

module _ (ps : List Point) (fs : List Face) where
  abbrev P : ℕ
  P = length ps

  abbrev F : ℕ
  F = length fs

  -- what stands after more lines
  more_lines : (xs ys : List (Option list.Line)) → after_lines ps fs (xs ++ ys) ≡ through (with_list_line P F) (after_lines ps fs xs) ys
  unfolding after_lines
  more_lines xs ys = through_append (with_list_line P F) (some (bench_of ps fs)) xs ys

  -- one line more
  pub one_more : (xs : List (Option list.Line)) (b c : Bench) (l : Option list.Line) → after_lines ps fs xs ≡ some b → with_list_line P F (some b) l ≡ some c → after_lines ps fs (xs ++ (l ∷ [])) ≡ some c
  unfolding through
  one_more xs b c l e h = more_lines xs (l ∷ []) ∙ ap (λ (o : Option Bench). with_list_line P F o l) e ∙ h

  -- or it is bad
  one_bad : (xs : List (Option list.Line)) (b : Bench) (l : Option list.Line) → after_lines ps fs xs ≡ some b → with_list_line P F (some b) l ≡ none → after_lines ps fs (xs ++ (l ∷ [])) ≡ none
  unfolding through
  one_bad xs b l e h = more_lines xs (l ∷ []) ∙ ap (λ (o : Option Bench). with_list_line P F o l) e ∙ h

  -- where all of them apply, the first of them do
  first_apply : (xs ys : List (Option list.Line)) (b : Bench) → after_lines ps fs (xs ++ ys) ≡ some b → is_none (after_lines ps fs xs) ≡ false
  first_apply xs ys b e = go (after_lines ps fs xs) refl
    where
      go : (o : Option Bench) → after_lines ps fs xs ≡ o → is_none (after_lines ps fs xs) ≡ false
      go none q =
          let n : none ≡ some b = sym (more_lines xs ys ∙ ap (λ (o : Option Bench). through (with_list_line P F) o ys) q ∙ none_stays P F ys) ∙ e in
          let z : ◌≡◌ {A = ℕ} 0 1 = cc in
          absurd (omega arith)
      go (some c) q = rw q (unfold is_none in refl)

  -- the lines up to a place
  fault_before : (xs ys : List (Option list.Line)) (b : Bench) → after_lines ps fs xs ≡ some b → (k : ℕ) → k < length xs → is_none (after_lines ps fs (take (suc k) (xs ++ ys))) ≡ false
  fault_before xs ys b e k h =
      let t : take (suc k) (xs ++ ys) ≡ take (suc k) xs = take-append-le (suc k) xs ys (omega arith) in
      rw t (first_apply (take (suc k) xs) (drop (suc k) xs) b (rw (take-append-drop (suc k) xs) e))

  -- the first bad line
  pub bad_at : (text : List ℕ) (done : List (Option list.Line)) (l : Option list.Line) (others : List (Option list.Line)) (b : Bench)
      → lines_read text ≡ done ++ (l ∷ others) → after_lines ps fs done ≡ some b → with_list_line P F (some b) l ≡ none → no15 ps fs text ≡ no 15 (length done)
  unfolding no15
  bad_at text done l others b e g h =
      rw e
      (at_fault fault 0 15 (below (length (done ++ (l ∷ others)))) (length done) (rw length_below (simp length-append (omega arith)))
      (λ j q. ap fault (get_or_below (length (done ++ (l ∷ others))) j (simp length-append (omega arith))) ∙ fault_before done (l ∷ others) b g j q)
      (ap fault (get_or_below (length (done ++ (l ∷ others))) (length done) (simp length-append (omega arith))) ∙ at_last))
    where
      fault : ℕ → Bool
      fault k = is_none (after_lines ps fs (take (suc k) (done ++ (l ∷ others))))

      up_to : take (suc (length done)) (done ++ (l ∷ others)) ≡ done ++ (l ∷ [])
      up_to = let q : suc (length done) ≡ length done + 1 = omega arith in rw q (take-append-add done (l ∷ others) 1)

      at_last : fault (length done) ≡ true
      at_last = ap (λ (z : List (Option list.Line)). is_none (after_lines ps fs z)) up_to ∙ rw (one_bad done b l g h) (unfold is_none in refl)

  -- no bad line
  pub none_bad : (text : List ℕ) (done : List (Option list.Line)) (b : Bench) → lines_read text ≡ done → after_lines ps fs done ≡ some b → no15 ps fs text ≡ ok
  unfolding no15
  none_bad text done b e g =
      rw e
      (none_at_fault fault 0 15 (below (length done))
      (λ j q. let l : j < length done = rw length_below at q in ap fault (get_or_below (length done) j l) ∙ rw (append-nil done) at (fault_before done [] b g j l)))
    where
      fault : ℕ → Bool
      fault k = is_none (after_lines ps fs (take (suc k) done))
