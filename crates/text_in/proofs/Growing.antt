-- A line adds a point or a face to the job, as long as there are no more than 64. Assumes nothing.
use Rattle.std.specs.Prelude as std
use Rattle.std.specs.Prelude.{Some, None}
use mathlib.Core.Path.{◌≡◌, refl, sym, ap, ◌∙◌}
use mathlib.Core.Bool.{Bool, true, false, cond, ◌&&◌}
use mathlib.Core.Option.{Option, none, some}
use mathlib.Core.List.{List, [], ◌∷◌, ◌++◌}
use Prim.Native.Nat.{ℕ, ◌+◌, ◌-◌, ◌≤◌, ◌<◌}
use native.Mathlib.Omega.{arith}
use lib.Dec.{leb}
use borrow.Author.Tests.{le-leb, lt-leb}
use lib.Ieee.{Float}
use lib.ListN.{length, get_or, take, length-append}
use lib.Seq.{take-suc}
use Rattle.rows.specs.Region.{part}
use Rattle.rows.proofs.Regions.{length_part, only_none}
use Rattle.rules.specs.Line.{bytes}
use Rattle.rules.specs.Text.{Job, equal, real, whole, three, with_point, with_corners, with_line, small, opened, first_line}
use Rattle.text_in.specs.declared.Grown.{Grown}
use Rattle.text_in.specs.Asked.{OpenAsks, Grows, PointGives, FaceGives, FieldsAsks, job_of, four_of, three_fields, three_of}
use Rattle.rule_laws.proofs.Texts.{equal_same}
use Rattle.text_in.proofs.Storing.{with_three, only_three, long_three, front_three}

-- ---- sizes

-- a job within the sizes is small
pub small_fits : (j : Job) → length j.points ≤ 192 → length j.faces ≤ 192 → small (some j) ≡ some j
unfolding small
small_fits j p f = rw (le-leb _ 192 p, le-leb _ 192 f) refl

-- a job of too many points is not
pub small_points : (j : Job) → 192 < length j.points → small (some j) ≡ none
unfolding small
small_points j p = rw (lt-leb _ 192 p) refl

-- nor is one of too many faces
pub small_faces : (j : Job) → 192 < length j.faces → small (some j) ≡ none
unfolding small
small_faces j p = go (leb (length j.points) 192)
  where
    go : (t : Bool) → cond (t && leb (length j.faces) 192) (some j) none ≡ none
    go true = rw (lt-leb _ 192 p) refl
    go false = refl

-- no job is no small job
pub small_none : small none ≡ none
unfolding small
small_none = refl

-- ---- a point

-- what holds nothing adds nothing
point_none : (j : Job) → with_point j none ≡ none
unfolding with_point
point_none j = refl

face_none : (j : Job) → with_corners j none ≡ none
unfolding with_corners
face_none j = refl

-- a point too many
over_points : (j : Job) (x y z : Option Float) → 189 < length j.points → none ≡ small (with_point j (three x y z))
unfolding with_point three
over_points j none y z h = sym small_none
over_points j (some x) none z h = sym small_none
over_points j (some x) (some y) none h = sym small_none
over_points j (some x) (some y) (some z) h = sym (small_points _ (simp length-append (omega arith)))

-- a face too many
over_faces : (j : Job) (x y z : Option ℕ) → 189 < length j.faces → none ≡ small (with_corners j (three x y z))
unfolding with_corners three
over_faces j none y z h = sym small_none
over_faces j (some x) none z h = sym small_none
over_faces j (some x) (some y) none h = sym small_none
over_faces j (some x) (some y) (some z) h = sym (small_faces _ (simp length-append (omega arith)))

-- no room is left
pub point_full : (x y z : Option Float) {ps : List Float} {p f : ℕ} → 189 < p → PointGives (three x y z) ps p f ps None
point_full x y z {ps} {p} {f} h =
    record { only = only_none p 3 ps; grows = λ fs a. (tt, λ n s. over_points (job_of n s ps p fs f) x y z (omega (arith, length_part ps 0 p (omega (arith, a.points, a.few_points))))) }

pub face_full : (x y z : Option ℕ) {fs : List ℕ} {p f : ℕ} → 189 < f → FaceGives (three x y z) fs p f fs None
face_full x y z {fs} {p} {f} h =
    record { only = only_none f 3 fs; grows = λ ps a. (tt, λ n s. over_faces (job_of n s ps p fs f) x y z (omega (arith, length_part fs 0 f (omega (arith, a.faces, a.few_faces))))) }

-- a field holds nothing
pub first_bad : {A : Type 0} (y z : Option A) → three none y z ≡ none
unfolding three
first_bad y z = refl

pub second_bad : {A : Type 0} (x : A) (z : Option A) → three (some x) none z ≡ none
unfolding three
second_bad x z = refl

pub third_bad : {A : Type 0} (x y : A) → three (some x) (some y) none ≡ none
unfolding three
third_bad x y = refl

pub point_bad : {o : Option (List Float)} {ps : List Float} {p f : ℕ} → o ≡ none → PointGives o ps p f ps None
point_bad {o} {ps} {p} {f} t = record { only = only_none p 3 ps; grows = λ fs a. (tt, λ n s. rw t (sym (ap small (point_none (job_of n s ps p fs f)) ∙ small_none))) }

pub face_bad : {o : Option (List ℕ)} {fs : List ℕ} {p f : ℕ} → o ≡ none → FaceGives o fs p f fs None
face_bad {o} {fs} {p} {f} t = record { only = only_none f 3 fs; grows = λ ps a. (tt, λ n s. rw t (sym (ap small (face_none (job_of n s ps p fs f)) ∙ small_none))) }

-- a point more
pub point_good : {ps : List Float} {p f : ℕ} (x y z : Float) → p ≤ 189
    → PointGives (three (some x) (some y) (some z)) ps p f (with_three ps p x y z) (Some (record { points = p + 3; faces = f }))
unfolding with_point three
point_good {ps} {p} {f} x y z h =
    record {
      only = only_three ps p x y z;
      grows = λ fs a.
          let b = a.points in
          let l = long_three ps p x y z in
          let k = front_three ps p x y z (omega arith) in (
            (omega arith, a.few_faces),
            λ n s. ap (λ (q : List Float). some (record { options = n; threshold = s; points = q; faces = take f fs })) k
                ∙ sym (small_fits (record { options = n; threshold = s; points = take p ps ++ (x ∷ y ∷ z ∷ []); faces = take f fs })
                (omega (arith, ap length k, length_part (with_three ps p x y z) 0 (p + 3) (omega arith))) (omega (arith, length_part fs 0 f (omega (arith, a.faces, a.few_faces)), a.few_faces))),
          );
    }

-- a face more
pub face_good : {fs : List ℕ} {p f : ℕ} (x y z : ℕ) → f ≤ 189
    → FaceGives (three (some x) (some y) (some z)) fs p f (with_three fs f x y z) (Some (record { points = p; faces = f + 3 }))
unfolding with_corners three
face_good {fs} {p} {f} x y z h =
    record {
      only = only_three fs f x y z;
      grows = λ ps a.
          let b = a.faces in
          let l = long_three fs f x y z in
          let k = front_three fs f x y z (omega arith) in (
            (a.few_points, omega arith),
            λ n s. ap (λ (q : List ℕ). some (record { options = n; threshold = s; points = take p ps; faces = q })) k
                ∙ sym (small_fits (record { options = n; threshold = s; points = take p ps; faces = take f fs ++ (x ∷ y ∷ z ∷ []) })
                (omega (arith, length_part ps 0 p (omega (arith, a.points, a.few_points)), a.few_points)) (omega (arith, ap length k, length_part (with_three fs f x y z) 0 (f + 3) (omega arith)))),
          );
    }

-- ---- the letter of a line

-- one byte in front
letter : (line : List ℕ) → 0 < length line → take 1 line ≡ get_or line 0 0 ∷ []
letter line h = take-suc line 0 0 h

-- fields that differ
differ : (xs ys : List ℕ) → (xs ≡ ys → ⊥) → equal xs ys ≡ false
differ xs ys n = go (equal xs ys) refl
  where
    go : (t : Bool) → equal xs ys ≡ t → t ≡ false
    go true e = absurd (n (equal_same xs ys e))
    go false e = refl

-- a `p` line
line_p : (j : Job) (k x y z : List ℕ) → k ≡ 112 ∷ [] → with_line j (k ∷ x ∷ y ∷ z ∷ []) ≡ with_point j (three (real x) (real y) (real z))
unfolding with_line equal bytes
line_p j k x y z e = rw e refl

-- an `f` line
line_f : (j : Job) (k x y z : List ℕ) → k ≡ 102 ∷ [] → with_line j (k ∷ x ∷ y ∷ z ∷ []) ≡ with_corners j (three (whole x) (whole y) (whole z))
unfolding with_line equal bytes
line_f j k x y z e = rw e refl

-- neither
line_other : (j : Job) (k x y z : List ℕ) → (k ≡ 112 ∷ [] → ⊥) → (k ≡ 102 ∷ [] → ⊥) → with_line j (k ∷ x ∷ y ∷ z ∷ []) ≡ none
unfolding with_line bytes
line_other j k x y z m n = rw (differ k (112 ∷ []) m, differ k (102 ∷ []) n) refl

-- a line that changes no room
pub grows_none : {fields : List (List ℕ)} {ps : List Float} {p : ℕ} {fs : List ℕ} {f : ℕ} → ((j : Job) → with_line j fields ≡ none) → Grows fields ps p fs f ps fs None
grows_none {fields} {ps} {p} {fs} {f} e =
    record { long_points = refl; long_faces = refl; within = tt; told = λ o s. sym (ap small (e (job_of o s ps p fs f)) ∙ small_none) }

module _ {line : List ℕ} {a b c : ℕ} {ps : List Float} {p : ℕ} {fs : List ℕ} {f : ℕ} (q : FieldsAsks line a b c ps p fs f) where
  -- there is a first byte
  pub has_first : 0 < length line
  has_first = omega (arith, q.cuts)

  -- the first field, of another length
  first_long : (v : ℕ) → (a ≡ 1 → ⊥) → take a line ≡ v ∷ [] → ⊥
  first_long v h e = h (sym (length_part line 0 a (omega (arith, q.cuts))) ∙ ap length e)

  -- the first field, one byte long
  first_is : a ≡ 1 → take a line ≡ get_or line 0 0 ∷ []
  first_is e = ap (λ (n : ℕ). take n line) e ∙ letter line has_first

  -- the first field is too long
  pub fields_long : (a ≡ 1 → ⊥) → Grows (four_of line a b c) ps p fs f ps fs None
  fields_long h = grows_none (λ j. line_other j (take a line) _ _ _ (first_long 112 h) (first_long 102 h))

  -- another letter
  pub fields_other : a ≡ 1 → (get_or line 0 0 ≡ 112 → ⊥) → (get_or line 0 0 ≡ 102 → ⊥) → Grows (four_of line a b c) ps p fs f ps fs None
  fields_other e m n =
      grows_none (λ j. line_other j (take a line) _ _ _ (λ k. m (first_byte (sym (first_is e) ∙ k))) (λ k. n (first_byte (sym (first_is e) ∙ k))))
    where
      first_byte : {u v : ℕ} → u ∷ [] ≡ v ∷ [] → u ≡ v
      first_byte k = ap (λ (xs : List ℕ). get_or xs 0 0) k

  -- a point
  pub fields_point : a ≡ 1 → get_or line 0 0 ≡ 112 → {ps' : List Float} {r : std.Option Grown} → PointGives (three_of real line a b c) ps p f ps' r → Grows (four_of line a b c) ps p fs f ps' fs r
  fields_point e l {ps'} {r} g =
      let w = g.grows fs q.rooms in
      record {
        long_points = g.only.long;
        long_faces = refl;
        within = w.0;
        told = λ o s. w.1 o s ∙ sym (ap small (line_p (job_of o s ps p fs f) (take a line) _ _ _ (first_is e ∙ ap (λ (n : ℕ). n ∷ []) l)));
      }

  -- a face
  pub fields_face : a ≡ 1 → get_or line 0 0 ≡ 102 → {fs' : List ℕ} {r : std.Option Grown} → FaceGives (three_of whole line a b c) fs p f fs' r → Grows (four_of line a b c) ps p fs f ps fs' r
  fields_face e l {fs'} {r} g =
      let w = g.grows ps q.rooms in
      record {
        long_points = refl;
        long_faces = g.only.long;
        within = w.0;
        told = λ o s. w.1 o s ∙ sym (ap small (line_f (job_of o s ps p fs f) (take a line) _ _ _ (first_is e ∙ ap (λ (n : ℕ). n ∷ []) l)));
      }

-- ---- the `o` line

-- an `o` line
line_o : (k x y : List ℕ) → k ≡ 111 ∷ [] → first_line (k ∷ x ∷ y ∷ []) ≡ opened (whole x) (real y)
unfolding first_line equal bytes
line_o k x y e = rw e refl

-- another
first_other : (k x y : List ℕ) → (k ≡ 111 ∷ [] → ⊥) → first_line (k ∷ x ∷ y ∷ []) ≡ none
unfolding first_line bytes
first_other k x y m = rw (differ k (111 ∷ []) m) refl

-- the options and the threshold
opened_none : (s : Option Float) → opened none s ≡ none
unfolding opened
opened_none s = refl

opened_some : (o : ℕ) → opened (some o) none ≡ none
unfolding opened
opened_some o = refl

opened_both : (o : ℕ) (s : Float) → opened (some o) (some s) ≡ some (record { options = o; threshold = s; points = []; faces = [] })
unfolding opened
opened_both o s = refl

module _ {line : List ℕ} {a b : ℕ} (q : OpenAsks line a b) where
  -- the first field is too long
  pub open_long : (a ≡ 1 → ⊥) → none ≡ first_line (three_fields line a b)
  open_long h = sym (first_other (take a line) _ _ (λ e. h (sym (length_part line 0 a (omega (arith, q))) ∙ ap length e)))

  -- another letter
  pub open_other : a ≡ 1 → (get_or line 0 0 ≡ 111 → ⊥) → none ≡ first_line (three_fields line a b)
  open_other e m =
      let k : take a line ≡ get_or line 0 0 ∷ [] = ap (λ (n : ℕ). take n line) e ∙ letter line (omega (arith, q)) in
      sym (first_other (take a line) _ _ (λ z. m (ap (λ (xs : List ℕ). get_or xs 0 0) (sym k ∙ z))))

  -- an `o` line
  pub open_is : a ≡ 1 → get_or line 0 0 ≡ 111 → first_line (three_fields line a b) ≡ opened (whole (part line (a + 1) (b - (a + 1)))) (real (part line (b + 1) (length line - (b + 1))))
  open_is e l =
      let k : take a line ≡ get_or line 0 0 ∷ [] = ap (λ (n : ℕ). take n line) e ∙ letter line (omega (arith, q)) in
      line_o (take a line) _ _ (k ∙ ap (λ (n : ℕ). n ∷ []) l)

  -- no options
  pub open_no_options : a ≡ 1 → get_or line 0 0 ≡ 111 → none ≡ whole (part line (a + 1) (b - (a + 1))) → none ≡ first_line (three_fields line a b)
  open_no_options e l w = sym (open_is e l ∙ rw (← w) (opened_none _))

  -- no threshold
  pub open_no_threshold : {o : ℕ} → a ≡ 1 → get_or line 0 0 ≡ 111 → some o ≡ whole (part line (a + 1) (b - (a + 1))) → none ≡ real (part line (b + 1) (length line - (b + 1))) → none ≡ first_line (three_fields line a b)
  open_no_threshold {o} e l w r = sym (open_is e l ∙ rw (← w, ← r) (opened_some o))

  -- both
  pub open_both : {o : ℕ} {s : Float} → a ≡ 1 → get_or line 0 0 ≡ 111 → some o ≡ whole (part line (a + 1) (b - (a + 1))) → some s ≡ real (part line (b + 1) (length line - (b + 1))) → some (record { options = o; threshold = s; points = []; faces = [] }) ≡ first_line (three_fields line a b)
  open_both {o} {s} e l w r = sym (open_is e l ∙ rw (← w, ← r) (opened_both o s))
