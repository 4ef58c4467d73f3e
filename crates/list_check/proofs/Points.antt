-- The faces of a split take the new point, and a line that was read is a step. Assumes nothing.
use mathlib.Core.Path.{◌≡◌, refl, sym, ap, ◌∙◌}
use mathlib.Core.Bool.{Bool, true, false, ◌&&◌, ◌||◌}
use mathlib.Core.Option.{Option, none, some}
use mathlib.Core.List.{List, [], ◌∷◌}
use Prim.Native.Nat.{ℕ, ◌+◌, ◌-◌, ◌*◌, ◌/◌, ◌≤◌, ◌<◌}
use native.Mathlib.Omega.{arith}
use lib.Dec.{T, eqb, ltb}
use lib.ListN.{length, drop}
use Rattle.rows.specs.Region.{part}
use Rattle.rules.specs.Lists.{all}
use Rattle.rules.specs.Text.{whole}
use Rattle.rules.specs.Mending as list
use Rattle.rules.specs.Applying.{with_list_line, lines_read, wholes}
use Rattle.rule_laws.proofs.Rising.{all_imp}
use Rattle.rule_laws.proofs.Members.{all_elim}
use Rattle.mending_laws.proofs.Parting.{parted_some}
use Rattle.list_lines.specs.Lines.{tabbed, fields_in, Faces, faces_from_row, Says, SaysNothing}
use Rattle.list_lines.proofs.Fields.{part_cons}
use Rattle.list_lines.proofs.Telling.{before, wholes_none, wholes_some, faces_end}
use Rattle.point_bits.specs.Bits.{bit, SetGives}
use Rattle.face_marks.specs.Marks.{here, keeps, has_face, FaceAsks, Sized, TakeAllGives}
use Rattle.face_marks.proofs.Faces.{here_face}
use Rattle.list_check.specs.Standing.{names_one}
use Rattle.list_check.specs.Steps.{EndsOn, LineBad, PointAsks, PointGives, SplitAsks, StepBad, StepOn}
use Rattle.list_check.proofs.Anys.{and_true, and_false}

-- ---- whether a face is named

-- none where the fields end
names_none : (text : List ℕ) (from end : ℕ) → Faces text from end → end ≤ from → names_one (faces_from_row text from end) ≡ false
unfolding names_one
names_none text from end f h =
    let e : from ≡ end = omega (arith, f.begins) in
    ap names_one (faces_end text from end e)

-- the numbers of a field and others
some_numbers : (p : List ℕ) (ps : List (List ℕ)) (ns : List ℕ) → wholes (p ∷ ps) ≡ some ns → names_one ns ≡ true
unfolding names_one before
some_numbers p ps ns e = go (whole p) refl
  where
    never : none ≡ some ns → names_one ns ≡ true
    never q = let z : ◌≡◌ {A = ℕ} 0 1 = cc in absurd (omega arith)

    first : List ℕ → Option (List ℕ) → List ℕ
    first d none = d
    first d (some ms) = ms

    more : (n : ℕ) (o : Option (List ℕ)) → before n o ≡ some ns → names_one ns ≡ true
    more n none q = never q
    more n (some ms) q = sym (ap (λ (o : Option (List ℕ)). names_one (first [] o)) q)

    go : (o : Option ℕ) → whole p ≡ o → names_one ns ≡ true
    go none q = never (sym (wholes_none p ps q) ∙ e)
    go (some n) q = more n (wholes ps) (sym (wholes_some p ps n q) ∙ e)

-- one before that
names_some : (text : List ℕ) (from end : ℕ) → Faces text from end → from < end → names_one (faces_from_row text from end) ≡ true
names_some text from end f h =
    let c = part_cons text from end h f.ends in
    let s = parted_some 9 (part text (from + 1) (end - (from + 1))) in
    let q : fields_in text from end ≡ s.first ∷ s.others = ap tabbed c ∙ (unfold tabbed in s.is) in
    some_numbers s.first s.others (faces_from_row text from end) (ap wholes (sym q) ∙ f.told)

-- ---- the new point

module _ {text : List ℕ} {from end : ℕ} {xs m u : List ℕ} {v : ℕ} (p : PointAsks text from end xs m u v) {old : ℕ} {m' : List ℕ} (t : TakeAllGives xs m (faces_from_row text from end) old m') where
  -- a face has it
  pub point_set : {u' : List ℕ} → from < end → SetGives u v u' → PointGives xs m u (faces_from_row text from end) old v m' u'
  point_set {u'} h s =
      record {
        taken = t;
        long = s.long;
        told = λ w. s.told w ∙ rw (names_some text from end p.take.faces h) (ap (λ (b : Bool). b || bit u w) (sym (and_true (eqb w v))));
      }

  -- none has
  pub point_none : end ≤ from → PointGives xs m u (faces_from_row text from end) old v m' u
  point_none h =
      record {
        taken = t;
        long = refl;
        told = λ w. rw (names_none text from end p.take.faces h) (ap (λ (b : Bool). b || bit u w) (sym (and_false (eqb w v))));
      }

-- what it asks
pub point_asks : (P : ℕ) (text : List ℕ) (from end : ℕ) (xs m u : List ℕ) (k old : ℕ) → SplitAsks P text from end xs m u k → k < 3 * (length xs / 3) → true ≡ all (has_face xs m (length xs / 3) old) (faces_from_row text from end) → PointAsks text from end xs m u (P + k)
point_asks P text from end xs m u k old a h e =
    let r = a.ready.rows in
    record {
      take = record {
        faces = a.faces;
        each = all_imp (λ f. T (has_face xs m (length xs / 3) old f)) (FaceAsks xs m) (λ f t. one f t) (faces_from_row text from end) (all_elim (has_face xs m (length xs / 3) old) (faces_from_row text from end) (subst' e));
        small = a.ready.small;
      };
      room = omega (arith, r.bits);
    }
  where
    subst' : true ≡ all (has_face xs m (length xs / 3) old) (faces_from_row text from end) → T (all (has_face xs m (length xs / 3) old) (faces_from_row text from end))
    subst' q = rw (← q) tt

    first : (x y : Bool) → T (x && y) → true ≡ x
    first true y t = refl
    first false y t = absurd t

    sized : Sized xs m (length xs / 3)
    sized = record { corners = omega arith; bytes = a.ready.rows.bytes }

    one : (f : ℕ) → T (has_face xs m (length xs / 3) old f) → FaceAsks xs m f
    one f t = here_face xs m (length xs / 3) f sized (first (ltb f (length xs / 3) && here m f) (keeps xs m f old) t)

-- ---- a line that was read

-- it is no line
pub step_nothing : (P : ℕ) (xs text : List ℕ) (at : ℕ) (m u : List ℕ) (s f g k : ℕ) → SaysNothing text at → StepBad P xs text at m u s f g k
step_nothing P xs text at m u s f g k n =
    record { head = none; others = n.others; lines = n.lines; line = record { bad = λ b st. unfold with_list_line in refl } }

-- it is one that does not apply
pub step_bad : {P : ℕ} {xs text : List ℕ} {at : ℕ} {l : list.Line} {end : ℕ} {m u : List ℕ} {s f g k : ℕ} → Says text at l end → LineBad P xs (some l) m u s f g k → StepBad P xs text at m u s f g k
step_bad {P} {xs} {text} {at} {l} {end} y i = record { head = some l; others = lines_read (drop (end + 1) text); lines = y.lines; line = i }

-- it is one that does
pub step_on :
    {P : ℕ} {xs text : List ℕ} {at : ℕ} {l : list.Line} {end : ℕ} {m u : List ℕ} {s f g k : ℕ} {m' u' : List ℕ} {e s' f' g' k' : ℕ}
    → Says text at l end → EndsOn P xs l end m u s f g k m' u' e s' f' g' k' → StepOn P xs text at m u s f g k m' u' e s' f' g' k'
step_on {l = l} y i = let q = i.ends in record { line = l; says = rw q y; on = i.on }
