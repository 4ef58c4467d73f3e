-- What the fields of a line tell, by its letter. Assumes nothing.
use mathlib.Core.Path.{◌≡◌, refl, sym, ap, ◌∙◌}
use mathlib.Core.Bool.{true, false, true≢false}
use mathlib.Core.Option.{Option, none, some}
use mathlib.Core.List.{List, [], ◌∷◌}
use Prim.Native.Nat.{ℕ, ◌+◌, ◌-◌, ◌≤◌}
use native.Mathlib.Omega.{arith}
use lib.ListN.{length}
use Rattle.std.specs.Prelude as std
use Rattle.rows.specs.Region.{part}
use Rattle.rules.specs.Text.{whole}
use Rattle.rules.specs.Mending.{Reason, Line, dropped_face, split_point}
use Rattle.rules.specs.Applying.{wholes, d_read, drop_read, one_read, s_read, and_then, rising}
use Rattle.list_lines.specs.declared.Reason as read
use Rattle.list_lines.specs.Lines.{fields_in, NumberIs, NumberNone, one_of, reason, why, reason_told, split_told, rise_from, numbers_of, faces_from_row, FaceAsks, FaceGives, LineIs, SplitIs}
use Rattle.list_lines.proofs.Fields.{fields_none, front, fields_on, on_fits}
use Rattle.list_lines.proofs.Rises.{rise_some, rise_no}

-- ---- all fields as numbers

-- the first is none
pub wholes_none : (f : List ℕ) (fs : List (List ℕ)) → whole f ≡ none → wholes (f ∷ fs) ≡ none
unfolding wholes
wholes_none f fs e = ap (λ (o : Option ℕ). elim o [ none ↦ none | some n ↦ elim (wholes fs) [ none ↦ none | some ns ↦ some (n ∷ ns) ] ]) e

-- of no field
wholes_empty : wholes [] ≡ some []
unfolding wholes
wholes_empty = refl

-- the first, and what the others are
unfoldable pub before : ℕ → Option (List ℕ) → Option (List ℕ)
before n none = none
before n (some ns) = some (n ∷ ns)

pub wholes_some : (f : List ℕ) (fs : List (List ℕ)) (n : ℕ) → whole f ≡ some n → wholes (f ∷ fs) ≡ before n (wholes fs)
unfolding wholes before
wholes_some f fs n e =
    ap (λ (o : Option ℕ). elim o [ none ↦ none | some n ↦ elim (wholes fs) [ none ↦ none | some ns ↦ some (n ∷ ns) ] ]) e ∙ go (wholes fs)
  where
    go : (o : Option (List ℕ)) → ◌≡◌ {A = Option (List ℕ)} (elim o [ none ↦ none | some ns ↦ some (n ∷ ns) ]) (before n o)
    go none = refl
    go (some ns) = refl

-- ---- a dropped face

-- the reason that was read, in the rules' words
pub none_told : {o : Option Reason} → why std.None ≡ o → none ≡ o
unfolding why
none_told e = e

pub some_told : (w : read.Reason) {o : Option Reason} → why (std.Some w) ≡ o → some (reason w) ≡ o
unfolding why
some_told w e = e

-- pass and reason stand behind the face
drop_none : (o : Option ℕ) → drop_read o none ≡ none
unfolding drop_read
drop_none none = refl
drop_none (some f) = refl

d_parts : (f : List ℕ) (rest : List (List ℕ)) → d_read (f ∷ rest) ≡ drop_read (whole f) (reason_told rest)
unfolding d_read reason_told
d_parts f [] = sym (drop_none (whole f))
d_parts f (p ∷ []) = sym (drop_none (whole f))
d_parts f (p ∷ w ∷ []) = refl
d_parts f (p ∷ w ∷ x ∷ rest) = sym (drop_none (whole f))

-- no face
pub dropped_none : (text : List ℕ) (from end : ℕ) → NumberNone (part text from (end - from)) → d_read (fields_in text from end) ≡ none
unfolding drop_read
dropped_none text from end p =
    ap d_read p.fields ∙ d_parts p.field p.others ∙ ap (λ (o : Option ℕ). drop_read o (reason_told p.others)) p.first

module _ (text : List ℕ) (from end : ℕ) {n k : ℕ} (p : NumberIs (part text from (end - from)) n k) where
  -- a face, and what stands behind it
  dropped_on : d_read (fields_in text from end) ≡ drop_read (some n) (reason_told (fields_in text (from + k) end))
  dropped_on =
      ap d_read (fields_on text from end p) ∙ d_parts (front text from end p) (fields_in text (from + k) end) ∙ ap (λ (o : Option ℕ). drop_read o (reason_told (fields_in text (from + k) end))) p.first

  -- nothing
  pub dropped_short : from + k ≡ end → d_read (fields_in text from end) ≡ none
  unfolding drop_read reason_told
  dropped_short e = dropped_on ∙ ap (λ (fs : List (List ℕ)). drop_read (some n) (reason_told fs)) (fields_none text (from + k) end e)

  -- no reason
  pub dropped_bad : none ≡ reason_told (fields_in text (from + k) end) → d_read (fields_in text from end) ≡ none
  unfolding drop_read
  dropped_bad e = dropped_on ∙ ap (drop_read (some n)) (sym e)

  -- a reason
  pub dropped_is : {w : Reason} → some w ≡ reason_told (fields_in text (from + k) end) → LineIs (d_read (fields_in text from end)) (dropped_face n w) end end
  unfolding drop_read
  dropped_is e = record { ends = refl; is = dropped_on ∙ ap (drop_read (some n)) (sym e) }

-- ---- a line of one number

-- a number makes a line
unfoldable made : (ℕ → Line) → Option ℕ → Option Line
made make none = none
made make (some n) = some (make n)

one_told : (make : ℕ → Line) (fs : List (List ℕ)) → and_then (one_read make) (wholes fs) ≡ made make (one_of fs)
unfolding and_then one_read one_of made before
one_told make [] = ap (and_then (one_read make)) wholes_empty
one_told make (f ∷ []) = go (whole f) refl
  where
    go : (o : Option ℕ) → whole f ≡ o → and_then (one_read make) (wholes (f ∷ [])) ≡ made make (whole f)
    go none e = ap (and_then (one_read make)) (wholes_none f [] e) ∙ sym (ap (made make) e)
    go (some n) e = ap (and_then (one_read make)) (wholes_some f [] n e ∙ ap (before n) wholes_empty) ∙ sym (ap (made make) e)
one_told make (f ∷ g ∷ rest) = go (whole f) (whole g) refl refl
  where
    more : (n m : ℕ) (o : Option (List ℕ)) → and_then (one_read make) (before n (before m o)) ≡ none
    more n m none = refl
    more n m (some ns) = refl

    go : (o p : Option ℕ) → whole f ≡ o → whole g ≡ p → and_then (one_read make) (wholes (f ∷ g ∷ rest)) ≡ none
    go none p e d = ap (and_then (one_read make)) (wholes_none f (g ∷ rest) e)
    go (some n) none e d = ap (and_then (one_read make)) (wholes_some f (g ∷ rest) n e ∙ ap (before n) (wholes_none g rest d))
    go (some n) (some m) e d = ap (and_then (one_read make)) (wholes_some f (g ∷ rest) n e ∙ ap (before n) (wholes_some g rest m d)) ∙ more n m (wholes rest)

-- no number, or not just one
pub one_bad : (make : ℕ → Line) (fs : List (List ℕ)) → none ≡ one_of fs → and_then (one_read make) (wholes fs) ≡ none
unfolding made
one_bad make fs e = one_told make fs ∙ ap (made make) (sym e)

-- one number
pub one_good : (make : ℕ → Line) (fs : List (List ℕ)) (n end : ℕ) → some n ≡ one_of fs → LineIs (and_then (one_read make) (wholes fs)) (make n) end end
unfolding made
one_good make fs n end e = record { ends = refl; is = one_told make fs ∙ ap (made make) (sym e) }

-- ---- a split

-- no old point
pub split_none : (text : List ℕ) (from end : ℕ) → NumberNone (part text from (end - from)) → split_told (fields_in text from end) ≡ none
unfolding and_then
split_none text from end p = ap (and_then s_read) (ap wholes p.fields ∙ wholes_none p.field p.others p.first)

module _ (text : List ℕ) (from end : ℕ) {old k : ℕ} (p : NumberIs (part text from (end - from)) old k) where
  -- an old point, and what stands behind it
  old_on : wholes (fields_in text from end) ≡ before old (wholes (fields_in text (from + k) end))
  old_on = ap wholes (fields_on text from end p) ∙ wholes_some (front text from end p) (fields_in text (from + k) end) old p.first

  -- nothing
  pub split_short : from + k ≡ end → split_told (fields_in text from end) ≡ none
  unfolding and_then s_read before wholes
  split_short e = ap (and_then s_read) (old_on ∙ ap (λ (fs : List (List ℕ)). before old (wholes fs)) (fields_none text (from + k) end e))

  -- no new point
  pub split_second : NumberNone (part text (from + k) (end - (from + k))) → split_told (fields_in text from end) ≡ none
  unfolding and_then before
  split_second q = ap (and_then s_read) (old_on ∙ ap (before old) (ap wholes q.fields ∙ wholes_none q.field q.others q.first))

  module _ {new m : ℕ} (q : NumberIs (part text (from + k) (end - (from + k))) new m) where
    -- a new point, and the faces
    new_on : split_told (fields_in text from end) ≡ and_then s_read (before old (before new (wholes (fields_in text (from + k + m) end))))
    new_on = ap (and_then s_read) (old_on ∙ ap (before old) (ap wholes (fields_on text (from + k) end q) ∙ wholes_some (front text (from + k) end q) (fields_in text (from + k + m) end) new q.first))

    -- faces that do not rise, or are no numbers
    pub split_not : false ≡ rise_from 0 (fields_in text (from + k + m) end) → split_told (fields_in text from end) ≡ none
    unfolding and_then s_read before
    split_not h = new_on ∙ go (wholes (fields_in text (from + k + m) end)) refl
      where
        go : (o : Option (List ℕ)) → wholes (fields_in text (from + k + m) end) ≡ o → and_then s_read (before old (before new o)) ≡ none
        go none e = refl
        go (some ns) e = rw (sym (h ∙ rise_some (fields_in text (from + k + m) end) ns e)) refl

    -- faces that rise
    pub split_is : from + k + m ≤ end → end ≤ length text → true ≡ rise_from 0 (fields_in text (from + k + m) end) → SplitIs (split_told (fields_in text from end)) text old new (from + k + m) end end
    unfolding and_then s_read before
    split_is a l h = go (wholes (fields_in text (from + k + m) end)) refl
      where
        go : (o : Option (List ℕ)) → wholes (fields_in text (from + k + m) end) ≡ o → SplitIs (split_told (fields_in text from end)) text old new (from + k + m) end end
        go none e = absurd (true≢false (h ∙ rise_no (fields_in text (from + k + m) end) e))
        go (some ns) e =
            let f : faces_from_row text (from + k + m) end ≡ ns = unfold faces_from_row numbers_of in (ap numbers_of e) in
            let r : rising ns ≡ true = sym (h ∙ rise_some (fields_in text (from + k + m) end) ns e) in
            record {
              ends = refl;
              faces = record { begins = a; ends = l; told = e ∙ ap some (sym f) };
              rise = ap rising f ∙ r;
              is = new_on ∙ rw e (rw r (ap (λ (z : List ℕ). some (split_point old new z)) (sym f)));
            }

-- ---- the next face

module _ {text : List ℕ} {at end : ℕ} (a : FaceAsks text at end) where
  -- there is one
  pub face_none : (n next : ℕ) → NumberNone (part text at (end - at)) → FaceGives text at end n next
  face_none n next p = absurd (never (sym (ap wholes p.fields ∙ wholes_none p.field p.others p.first) ∙ a.faces.told))
    where
      never : {ns : List ℕ} → none ≡ some ns → ⊥
      never e = let z : ◌≡◌ {A = ℕ} 0 1 = cc in omega arith

  -- it is the first of those that are left
  pub face_is : {n k : ℕ} → NumberIs (part text at (end - at)) n k → FaceGives text at end n (at + k)
  unfolding before
  face_is {n} {k} p = go (wholes (fields_in text (at + k) end)) refl
    where
      on : wholes (fields_in text at end) ≡ before n (wholes (fields_in text (at + k) end))
      on = ap wholes (fields_on text at end p) ∙ wholes_some (front text at end p) (fields_in text (at + k) end) n p.first

      never : {ns : List ℕ} → none ≡ some ns → ⊥
      never e = let z : ◌≡◌ {A = ℕ} 0 1 = cc in omega arith

      go : (o : Option (List ℕ)) → wholes (fields_in text (at + k) end) ≡ o → FaceGives text at end n (at + k)
      go none e = absurd (never (sym (on ∙ ap (before n) e) ∙ a.faces.told))
      go (some ns) e =
          let f : faces_from_row text (at + k) end ≡ ns = unfold faces_from_row numbers_of in (ap numbers_of e) in
          let g : faces_from_row text at end ≡ n ∷ ns = unfold faces_from_row numbers_of in (ap numbers_of (on ∙ ap (before n) e)) in
          record {
            on = omega (arith, p.begins);
            faces = record { begins = on_fits text at end p a.faces.begins a.faces.ends; ends = a.faces.ends; told = e ∙ ap some (sym f) };
            told = g ∙ ap (λ (z : List ℕ). n ∷ z) (sym f);
          }

-- where the fields end no face is left
pub faces_end : (text : List ℕ) (at end : ℕ) → at ≡ end → faces_from_row text at end ≡ []
unfolding faces_from_row numbers_of wholes
faces_end text at end e = ap (λ (fs : List (List ℕ)). numbers_of (wholes fs)) (fields_none text at end e)
