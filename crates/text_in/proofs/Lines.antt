-- The lines of a text, taken in one after the other. Assumes nothing.
use Rattle.std.specs.Prelude as std
use mathlib.Core.Path.{◌≡◌, refl, sym, ap, ◌∙◌}
use mathlib.Core.Bool.{Bool, true, false, cond}
use mathlib.Core.Option.{Option, none, some}
use mathlib.Core.List.{List, [], ◌∷◌}
use Prim.Native.Nat.{ℕ, ◌+◌, ◌-◌, ◌≤◌, ◌<◌}
use native.Mathlib.Omega.{arith}
use lib.Dec.{leb}
use borrow.Author.Tests.{le-leb, lt-leb, leb-true, leb-false}
use lib.Ieee.{Float}
use lib.ListN.{length, take, drop, length-append}
use lib.Seq.{drop-length}
use Rattle.rows.specs.Region.{part}
use Rattle.rows.proofs.Regions.{length_part}
use Rattle.rules.specs.Lists.{through}
use Rattle.rules.specs.Line.{bytes}
use Rattle.rules.specs.Text.{Job, equal, real, whole, three, parted, lines_of, with_point, with_corners, with_line, and_line, first_line, job_of_lines, small, all_lines, read}
use Rattle.text_in.specs.declared.Grown.{Grown}
use Rattle.text_fields.specs.Fields.{Piece}
use Rattle.text_in.specs.Asked.{RoomAsks, LinesAsks, Grows, job_of, grown_of, empty, ends, rest}
use Rattle.text_in.proofs.Cuts.{Some, parted_some}
use Rattle.text_in.proofs.Growing.{small_none, small_points, small_faces, small_fits}

-- ---- after a bad line nothing is read

-- at the end
ends_none : (l : List ℕ) → ends l none ≡ none
unfolding ends
ends_none [] = small_none
ends_none (b ∷ bs) = refl

-- whatever follows
pub rest_none : (ps : List (List ℕ)) → rest none ps ≡ none
unfolding rest and_line
rest_none [] = refl
rest_none (l ∷ []) = ends_none l
rest_none (l ∷ m ∷ ls) = rest_none (m ∷ ls)

-- ---- a job of too many points or faces stays one

data Big (j : Job) : Type 0 where
  points : 192 < length j.points → Big j
  faces : 192 < length j.faces → Big j

-- or there is no job
abbrev Over : Option Job → Type 0
Over none = Unit {0}
Over (some j) = Big j

-- a point more
over_point : (j : Job) (o : Option (List Float)) → Big j → Over (with_point j o)
unfolding with_point
over_point j none b = tt
over_point j (some p) (points h) = points (simp length-append (omega arith))
over_point j (some p) (faces h) = faces h

-- a face more
over_corners : (j : Job) (o : Option (List ℕ)) → Big j → Over (with_corners j o)
unfolding with_corners
over_corners j none b = tt
over_corners j (some f) (points h) = points h
over_corners j (some f) (faces h) = faces (simp length-append (omega arith))

-- a line more
over_line : (j : Job) (fields : List (List ℕ)) → Big j → Over (with_line j fields)
unfolding with_line
over_line j [] b = tt
over_line j (k ∷ []) b = tt
over_line j (k ∷ x ∷ []) b = tt
over_line j (k ∷ x ∷ y ∷ []) b = tt
over_line j (k ∷ x ∷ y ∷ z ∷ []) b = go (equal k (bytes "p")) (equal k (bytes "f"))
  where
    go : (t u : Bool) → Over (cond t (with_point j (three (real x) (real y) (real z))) (cond u (with_corners j (three (whole x) (whole y) (whole z))) none))
    go true u = over_point j (three (real x) (real y) (real z)) b
    go false true = over_corners j (three (whole x) (whole y) (whole z)) b
    go false false = tt
over_line j (k ∷ x ∷ y ∷ z ∷ u ∷ more) b = tt

-- after no job too
over_and : (o : Option Job) (fields : List (List ℕ)) → Over o → Over (and_line o fields)
unfolding and_line
over_and none fields b = tt
over_and (some j) fields b = over_line j fields b

-- it is no small one
over_small : (o : Option Job) → Over o → small o ≡ none
over_small none b = small_none
over_small (some j) (points h) = small_points j h
over_small (some j) (faces h) = small_faces j h

-- at the end there is no job
over_ends : (l : List ℕ) (o : Option Job) → Over o → ends l o ≡ none
unfolding ends
over_ends [] o b = over_small o b
over_ends (x ∷ xs) o b = refl

over_rest : (ps : List (List ℕ)) (o : Option Job) → Over o → rest o ps ≡ none
unfolding rest
over_rest [] o b = refl
over_rest (l ∷ []) o b = over_ends l o b
over_rest (l ∷ m ∷ ls) o b = over_rest (m ∷ ls) (and_line o (parted 9 l)) (over_and o (parted 9 l) b)

-- so the sizes may be looked at after each line
pub rest_small : (o : Option Job) (ps : List (List ℕ)) → rest (small o) ps ≡ rest o ps
rest_small none ps = ap (λ (o : Option Job). rest o ps) small_none
rest_small (some j) ps = go (leb (length j.points) 192) (leb (length j.faces) 192) refl refl
  where
    go : (t u : Bool) → leb (length j.points) 192 ≡ t → leb (length j.faces) 192 ≡ u → rest (small (some j)) ps ≡ rest (some j) ps
    go true true e f = ap (λ (o : Option Job). rest o ps) (small_fits j (leb-true _ _ e) (leb-true _ _ f))
    go true false e f =
        let h = leb-false _ _ f in
        ap (λ (o : Option Job). rest o ps) (small_faces j h) ∙ rest_none ps ∙ sym (over_rest ps (some j) (faces h))
    go false u e f =
        let h = leb-false _ _ e in
        ap (λ (o : Option Job). rest o ps) (small_points j h) ∙ rest_none ps ∙ sym (over_rest ps (some j) (points h))

-- ---- the rules' order: first all lines, then the job

-- a job, and the fields of all lines
unfoldable all_from : Option Job → Option (List (List (List ℕ))) → Option Job
all_from j none = none
all_from j (some ls) = small (through and_line j ls)

-- one line after the other
lines_rest : (ps : List (List ℕ)) (j : Option Job) → all_from j (lines_of ps) ≡ rest j ps
unfolding all_from lines_of rest ends through
lines_rest [] j = refl
lines_rest ([] ∷ []) j = refl
lines_rest ((b ∷ bs) ∷ []) j = refl
lines_rest ([] ∷ m ∷ ls) j = go (lines_of (m ∷ ls)) (lines_rest (m ∷ ls) (and_line j (parted 9 [])))
  where
    go : (o : Option (List (List (List ℕ)))) → all_from (and_line j (parted 9 [])) o ≡ rest (and_line j (parted 9 [])) (m ∷ ls) → all_from j (elim o [ none ↦ none | some fs ↦ some (parted 9 [] ∷ fs) ]) ≡ rest (and_line j (parted 9 [])) (m ∷ ls)
    go none e = e
    go (some fs) e = e
lines_rest ((b ∷ bs) ∷ m ∷ ls) j = go (lines_of (m ∷ ls)) (lines_rest (m ∷ ls) (and_line j (parted 9 (b ∷ bs))))
  where
    go : (o : Option (List (List (List ℕ)))) → all_from (and_line j (parted 9 (b ∷ bs))) o ≡ rest (and_line j (parted 9 (b ∷ bs))) (m ∷ ls) → all_from j (elim o [ none ↦ none | some fs ↦ some (parted 9 (b ∷ bs) ∷ fs) ]) ≡ rest (and_line j (parted 9 (b ∷ bs))) (m ∷ ls)
    go none e = e
    go (some fs) e = e

-- the first line opens the job
opens : (l m : List ℕ) (ls : List (List ℕ)) → all_lines (lines_of (l ∷ m ∷ ls)) ≡ rest (first_line (parted 9 l)) (m ∷ ls)
unfolding all_from lines_of all_lines job_of_lines
opens [] m ls = go (lines_of (m ∷ ls)) (lines_rest (m ∷ ls) (first_line (parted 9 [])))
  where
    go : (o : Option (List (List (List ℕ)))) → all_from (first_line (parted 9 [])) o ≡ rest (first_line (parted 9 [])) (m ∷ ls) → all_lines (elim o [ none ↦ none | some fs ↦ some (parted 9 [] ∷ fs) ]) ≡ rest (first_line (parted 9 [])) (m ∷ ls)
    go none e = e
    go (some fs) e = e
opens (b ∷ bs) m ls = go (lines_of (m ∷ ls)) (lines_rest (m ∷ ls) (first_line (parted 9 (b ∷ bs))))
  where
    go : (o : Option (List (List (List ℕ)))) → all_from (first_line (parted 9 (b ∷ bs))) o ≡ rest (first_line (parted 9 (b ∷ bs))) (m ∷ ls) → all_lines (elim o [ none ↦ none | some fs ↦ some (parted 9 (b ∷ bs) ∷ fs) ]) ≡ rest (first_line (parted 9 (b ∷ bs))) (m ∷ ls)
    go none e = e
    go (some fs) e = e

-- a text without a newline has no job
alone : (l : List ℕ) → all_lines (lines_of (l ∷ [])) ≡ none
unfolding lines_of all_lines job_of_lines
alone [] = small_none
alone (b ∷ bs) = refl

-- ---- the loop over the lines

-- after the lines before `at` the job stands in front of the rooms
pub record Taken (text : List ℕ) (from o : ℕ) (s : Float) (ps₀ : List Float) (fs₀ : List ℕ) (at : ℕ) (ps : List Float) (p : ℕ) (fs : List ℕ) (f : ℕ) : Type 0 where
  pub at_most : at ≤ length text
  pub rooms : RoomAsks ps p fs f
  pub long_points : length ps ≡ length ps₀
  pub long_faces : length fs ≡ length fs₀
  pub taken : rest (empty o s) (parted 10 (drop from text)) ≡ rest (some (job_of o s ps p fs f)) (parted 10 (drop at text))

-- before the first turn nothing stands there
pub begin : {text : List ℕ} {from o : ℕ} {s : Float} {ps : List Float} {fs : List ℕ} → LinesAsks text from ps fs → Taken text from o s ps fs from ps 0 fs 0
begin a = record { at_most = a.begins; rooms = record { points = a.rooms.points; faces = a.rooms.faces; few_points = omega arith; few_faces = omega arith }; long_points = refl; long_faces = refl; taken = refl }

-- a line, and then others
rest_line : (o : Option Job) (l : List ℕ) (ms : List (List ℕ)) → Some ms → rest o (l ∷ ms) ≡ rest (and_line o (parted 9 l)) ms
unfolding rest
rest_line o l ms n = rw n.is refl

-- with a job, the sizes looked at
rest_job : (j : Job) (l : List ℕ) (ms : List (List ℕ)) → Some ms → rest (some j) (l ∷ ms) ≡ rest (small (with_line j (parted 9 l))) ms
unfolding and_line
rest_job j l ms n = rest_line (some j) l ms n ∙ sym (rest_small (with_line j (parted 9 l)) ms)

-- the last piece, which is not empty
rest_last : (o : Option Job) (l : List ℕ) → 0 < length l → rest o (l ∷ []) ≡ none
unfolding rest ends
rest_last o [] h = absurd (omega arith)
rest_last o (b ∷ bs) h = refl

-- the last piece, which is empty
rest_done : (o : Option Job) → rest o (parted 10 []) ≡ small o
unfolding rest ends parted
rest_done o = refl

module _ {text : List ℕ} {from o : ℕ} {s : Float} {ps₀ : List Float} {fs₀ : List ℕ} {at : ℕ} {ps : List Float} {p : ℕ} {fs : List ℕ} {f : ℕ} (v : Taken text from o s ps₀ fs₀ at ps p fs f) where
  module _ (h : at < length text) {end : ℕ} (q : Piece text at 10 end) where
    -- a last line without a newline
    pub unended : end ≡ length text → none ≡ rest (empty o s) (parted 10 (drop from text))
    unended e =
        let l = length_rest in
        sym (v.taken ∙ ap (rest (some (job_of o s ps p fs f))) (q.last e) ∙ rest_last _ (part text at (end - at)) (omega arith))
      where
        length_rest : length (part text at (end - at)) ≡ end - at
        length_rest = length_part text at (end - at) (omega (arith, q.begins, q.ends))

    module _ (n : end ≡ length text → ⊥) {ps' : List Float} {fs' : List ℕ} {r : std.Option Grown} (g : Grows (parted 9 (part text at (end - at))) ps p fs f ps' fs' r) where
      -- the line is taken in
      next : rest (empty o s) (parted 10 (drop from text)) ≡ rest (grown_of o s r ps' fs') (parted 10 (drop (end + 1) text))
      next =
          let l : end < length text = omega (arith, q.ends) in
          v.taken ∙ ap (rest (some (job_of o s ps p fs f))) (q.more l)
          ∙ rest_job (job_of o s ps p fs f) (part text at (end - at)) (parted 10 (drop (end + 1) text)) (parted_some 10 (drop (end + 1) text))
          ∙ ap (λ (j : Option Job). rest j (parted 10 (drop (end + 1) text))) (sym (g.told o s))

      -- a bad one
      pub bad : r ≡ std.None → none ≡ rest (empty o s) (parted 10 (drop from text))
      bad e = sym (next ∙ rw e (rest_none (parted 10 (drop (end + 1) text))))

      -- a good one
      pub again : {t : Grown} → r ≡ std.Some t → Taken text from o s ps₀ fs₀ (end + 1) ps' t.points fs' t.faces
      again {t} e =
          let l = g.long_points in
          let m = g.long_faces in
          let w : (t.points ≤ 192) × (t.faces ≤ 192) = rw e at g.within in
          let i = v.rooms.points in
          let k = v.rooms.faces in
          record {
            at_most = omega (arith, q.ends);
            rooms = record { points = omega arith; faces = omega arith; few_points = w.0; few_faces = w.1 };
            long_points = l ∙ v.long_points;
            long_faces = m ∙ v.long_faces;
            taken = next ∙ rw e refl;
          }

  -- no line is left
  pub done : length text ≤ at → some (job_of o s ps p fs f) ≡ rest (empty o s) (parted 10 (drop from text))
  done h =
      let e : at ≡ length text = omega (arith, v.at_most) in
      let z : drop at text ≡ [] = rw e (drop-length text) in
      let i = v.rooms in
      sym (v.taken ∙ ap (λ (xs : List ℕ). rest (some (job_of o s ps p fs f)) (parted 10 xs)) z ∙ rest_done _ ∙ small_fits _ (omega (arith, length_part ps 0 p (omega arith))) (omega (arith, length_part fs 0 f (omega arith))))

-- ---- the text

-- too long
pub too_long : (text : List ℕ) → 8192 < length text → none ≡ read text
unfolding read
too_long text h = rw (lt-leb _ 8192 h) refl

-- not too long
reads : (text : List ℕ) → length text ≤ 8192 → read text ≡ all_lines (lines_of (parted 10 text))
unfolding read
reads text h = rw (le-leb _ 8192 h) refl

module _ {text : List ℕ} (h : length text ≤ 8192) {end : ℕ} (q : Piece text 0 10 end) where
  -- no newline
  pub no_line : end ≡ length text → none ≡ read text
  no_line e = sym (reads text h ∙ ap (λ (ps : List (List ℕ)). all_lines (lines_of ps)) (q.last e) ∙ alone _)

  module _ (n : end ≡ length text → ⊥) where
    -- the first line, and the others
    pub opened_text : read text ≡ rest (first_line (parted 9 (take end text))) (parted 10 (drop (end + 1) text))
    opened_text =
        let l : end < length text = omega (arith, q.ends) in
        let z : end - 0 ≡ end = omega arith in
        let t = parted_some 10 (drop (end + 1) text) in
        let k : parted 10 text ≡ take end text ∷ t.first ∷ t.others = rw z at (q.more l ∙ ap (λ (ps : List (List ℕ)). take (end - 0) text ∷ ps) t.is) in
        reads text h ∙ ap (λ (ps : List (List ℕ)). all_lines (lines_of ps)) k ∙ opens (take end text) t.first t.others ∙ ap (rest (first_line (parted 9 (take end text)))) (sym t.is)

    -- a first line that is none
    pub not_opened : none ≡ first_line (parted 9 (take end text)) → none ≡ read text
    not_opened e = sym (opened_text ∙ rw (← e) (rest_none (parted 10 (drop (end + 1) text))))

    -- the lines after it
    pub opened_read : {o : ℕ} {s : Float} {j : Option Job} → empty o s ≡ first_line (parted 9 (take end text)) → j ≡ rest (empty o s) (parted 10 (drop (end + 1) text)) → j ≡ read text
    opened_read e r = r ∙ sym (opened_text ∙ rw (← e) refl)
