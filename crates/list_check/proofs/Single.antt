-- One line, whatever stands: it does not apply, or it does and the rows then say what stands. Assumes nothing.
use mathlib.Core.Path.{◌≡◌, refl, sym, ap, ◌∙◌, subst}
use mathlib.Core.Bool.{Bool, true, false, cond, ◌&&◌}
use mathlib.Core.Option.{none, some}
use mathlib.Core.List.{List, [], ◌∷◌}
use Prim.Native.Nat.{ℕ, suc, ◌+◌, ◌*◌, ◌/◌, ◌≤◌, ◌<◌}
use native.Mathlib.Omega.{arith}
use native.Mathlib.Numerals.{add-one}
use borrow.Author.Tests.{ltb-true, lt-ltb, le-ltb, eq-eqb, ne_eqb}
use lib.Dec.{T, eqb, ltb}
use lib.ListN.{length, set, length-set}
use Rattle.rules.specs.Lists.{all}
use Rattle.rules.specs.Mending.{Line, dropped_face, exchange, split_point}
use Rattle.rules.specs.Applying.{Bench, present_with, applies, change, section, numbers, precedes, with_list_line}
use Rattle.list_lines.specs.Lines.{reason}
use Rattle.list_lines.specs.declared.Reason as read
use Rattle.face_marks.specs.Marks.{here, has_face}
use Rattle.list_check.specs.Standing.{behind, section_of, last_of, Standing}
use Rattle.list_check.specs.Steps.{Ready, changed_by, LineOn, LineBad, PointGives}
use Rattle.list_check.proofs.Anys.{and_false}
use Rattle.list_check.proofs.Order.{precedes_is, dropped_at, exchange_at, split_at, section_low, Behind, behind_true, room_rises, room_splits}
use Rattle.list_check.proofs.Changes.{stands_dropped, stands_exchanged, stands_split, small_dropped}

-- a line by order and by what stands
with_is : (P F : ℕ) (b : Bench) (l : Line) → with_list_line P F (some b) (some l) ≡ cond (precedes b.last (section l ∷ numbers l) && applies P F b l) (some (changed_by b l)) none
unfolding with_list_line
with_is P F b l = refl

-- section and numbers of a line
pub record Numbered (l : Line) (s f g : ℕ) : Type 0 where
  pub at : section l ∷ numbers l ≡ last_of s f g
  pub some_section : 0 < s
  pub before_unused : s ≤ 6
  pub alone : s < 6 → g ≡ 0

pub numbered_dropped : (f : ℕ) (w : read.Reason) → Numbered (dropped_face f (reason w)) (section_of w) f 0
numbered_dropped f w =
    let d = section_low w in
    record { at = dropped_at f w; some_section = d.some_section; before_unused = omega (arith, d.before_splits); alone = λ h. refl }

pub numbered_exchange : (f : ℕ) → Numbered (exchange f) 4 f 0
numbered_exchange f = record { at = exchange_at f; some_section = omega arith; before_unused = omega arith; alone = λ h. refl }

pub numbered_split : (old new : ℕ) (fs : List ℕ) → Numbered (split_point old new fs) 6 old new
numbered_split old new fs = record { at = split_at old new fs; some_section = omega arith; before_unused = omega arith; alone = λ h. absurd (omega arith) }

-- a face that is there is one of them
there : (xs m : List ℕ) (face : ℕ) → true ≡ (ltb face (length xs / 3) && here m face) → face < length xs / 3
there xs m face h = go (ltb face (length xs / 3)) refl h
  where
    go : (t : Bool) → ltb face (length xs / 3) ≡ t → true ≡ (t && here m face) → face < length xs / 3
    go true e q = ltb-true face (length xs / 3) e
    go false e q = let z : ◌≡◌ {A = ℕ} 0 1 = cc in absurd (omega arith)

-- and has a byte
pub there_fits : (n : ℕ) (m : List ℕ) (face : ℕ) → n ≤ length m → true ≡ (ltb face n && here m face) → face < length m
there_fits n m face l h = go (ltb face n) refl h
  where
    go : (t : Bool) → ltb face n ≡ t → true ≡ (t && here m face) → face < length m
    go true e q = omega (arith, ltb-true face n e)
    go false e q = let z : ◌≡◌ {A = ℕ} 0 1 = cc in absurd (omega arith)

-- the tests of a split
split_test : (P F : ℕ) (b : Bench) (old new : ℕ) (fs : List ℕ) → applies P F b (split_point old new fs) ≡ (ltb b.splits (3 * F) && (ltb old P && (eqb new (length b.points) && all (present_with b old) fs)))
unfolding applies
split_test P F b old new fs = turn (ltb b.splits (3 * F)) (ltb old P) (eqb new (length b.points)) (all (present_with b old) fs)
  where
    turn : (x y z t : Bool) → (((x && y) && z) && t) ≡ (x && (y && (z && t)))
    turn true true z t = refl
    turn true false z t = refl
    turn false y z t = refl

-- tests that agree
all_same : {A : Type 0} (p q : A → Bool) → ((x : A) → q x ≡ p x) → (ys : List A) → all q ys ≡ all p ys
unfolding all
all_same p q h [] = refl
all_same p q h (y ∷ ys) = rw (h y, all_same p q h ys) refl

module _ {P : ℕ} {xs m u : List ℕ} {s f g k : ℕ} where
  module _ {b : Bench} (st : Standing P xs m u s f g k b) {l : Line} {s' f' g' : ℕ} (n : Numbered l s' f' g') where
    -- order, by the numbers
    order : precedes b.last (section l ∷ numbers l) ≡ behind s f g s' f' g'
    order =
        ap (λ (z : List ℕ). precedes z (section l ∷ numbers l)) st.last
        ∙ ap (precedes (last_of s f g)) n.at
        ∙ precedes_is f g f' g' s s' st.section n.some_section n.before_unused st.alone n.alone

    -- out of order
    not_behind : false ≡ behind s f g s' f' g' → with_list_line P (length xs / 3) (some b) (some l) ≡ none
    not_behind h = with_is P (length xs / 3) b l ∙ rw (order, ← h) refl

    -- not to what stands
    not_applies : applies P (length xs / 3) b l ≡ false → with_list_line P (length xs / 3) (some b) (some l) ≡ none
    not_applies h = with_is P (length xs / 3) b l ∙ rw (h, and_false (precedes b.last (section l ∷ numbers l))) refl

    -- it applies
    does_apply : true ≡ behind s f g s' f' g' → applies P (length xs / 3) b l ≡ true → with_list_line P (length xs / 3) (some b) (some l) ≡ some (changed_by b l)
    does_apply h a = with_is P (length xs / 3) b l ∙ rw (order, ← h, a) refl

    -- the section does not fall
    not_before : true ≡ behind s f g s' f' g' → s ≤ s'
    not_before h = go (behind_true s f g s' f' g' h)
      where
        go : Behind s f g s' f' g' → s ≤ s'
        go (Behind.later q) = omega arith
        go (Behind.first q r) = omega arith
        go (Behind.second q r t) = omega arith

  -- out of order, whatever stands
  pub bad_order : {l : Line} {s' f' g' : ℕ} → Numbered l s' f' g' → false ≡ behind s f g s' f' g' → LineBad P xs (some l) m u s f g k
  bad_order n h = record { bad = λ b st. not_behind st n h }

  -- a face that is not there
  pub bad_dropped : (face : ℕ) (w : read.Reason) → false ≡ (ltb face (length xs / 3) && here m face) → LineBad P xs (some (dropped_face face (reason w))) m u s f g k
  bad_dropped face w h =
      record { bad = λ b st. not_applies st (numbered_dropped face w) (unfold applies in (st.stands.here_is face ∙ sym h)) }

  pub bad_exchange : (face : ℕ) → false ≡ (ltb face (length xs / 3) && here m face) → LineBad P xs (some (exchange face)) m u s f g k
  bad_exchange face h =
      record { bad = λ b st. not_applies st (numbered_exchange face) (unfold applies in (st.stands.here_is face ∙ sym h)) }

  -- a dropped face
  pub on_dropped : (face : ℕ) (w : read.Reason) → Ready P xs m u k → true ≡ behind s f g (section_of w) face 0 → true ≡ (ltb face (length xs / 3) && here m face)
      → LineOn P xs (dropped_face face (reason w)) m u s f g k (set m face 1) u (section_of w) face 0 k
  on_dropped face w r h p =
      let t = there xs m face p in
      let y = section_low w in
      let c = r.rows.bytes in
      let i : face < length m = omega arith in
      record {
        long_bytes = length-set m face 1;
        long_bits = refl;
        small = small_dropped m face i r.small;
        few = r.few;
        each = λ b st.
            let z : s < 6 = omega (arith, not_before st (numbered_dropped face w) h, y.before_splits) in
            record {
              applies = does_apply st (numbered_dropped face w) h (unfold applies in (st.stands.here_is face ∙ sym p));
              standing = record {
                stands = stands_dropped st.stands face i (reason w) (section (dropped_face face (reason w)) ∷ numbers (dropped_face face (reason w))) (st.splits ∙ st.early z);
                last = unfold change in (dropped_at face w);
                splits = unfold change in st.splits;
                few = st.few;
                section = omega (arith, y.before_splits);
                early = λ q. st.early z;
                alone = λ q. refl;
                low = λ q v. t;
              };
            };
        rise = λ b st. room_rises (length xs / 3) s f g k (section_of w) face k st.section y.some_section y.before_splits st.low (behind_true s f g (section_of w) face 0 h);
      }

  -- an exchange
  pub on_exchange : (face : ℕ) → Ready P xs m u k → true ≡ behind s f g 4 face 0 → true ≡ (ltb face (length xs / 3) && here m face)
      → LineOn P xs (exchange face) m u s f g k m u 4 face 0 k
  on_exchange face r h p =
      let t = there xs m face p in
      record {
        long_bytes = refl;
        long_bits = refl;
        small = r.small;
        few = r.few;
        each = λ b st.
            let z : s < 6 = omega (arith, not_before st (numbered_exchange face) h) in
            record {
              applies = does_apply st (numbered_exchange face) h (unfold applies in (st.stands.here_is face ∙ sym p));
              standing = record {
                stands = stands_exchanged st.stands face (section (exchange face) ∷ numbers (exchange face)) (st.splits ∙ st.early z);
                last = unfold change in (exchange_at face);
                splits = unfold change in st.splits;
                few = st.few;
                section = omega arith;
                early = λ q. st.early z;
                alone = λ q. refl;
                low = λ q v. t;
              };
            };
        rise = λ b st. room_rises (length xs / 3) s f g k 4 face k st.section (omega arith) (omega arith) st.low (behind_true s f g 4 face 0 h);
      }

  -- ---- a split

  -- too many
  pub bad_many : (old new : ℕ) (fs : List ℕ) → 3 * (length xs / 3) ≤ k → LineBad P xs (some (split_point old new fs)) m u s f g k
  bad_many old new fs h =
      record { bad = λ b st. not_applies st (numbered_split old new fs) (split_test P (length xs / 3) b old new fs ∙ rw (st.splits, le-ltb k (3 * (length xs / 3)) h) refl) }

  -- no old point
  pub bad_old : (old new : ℕ) (fs : List ℕ) → P ≤ old → LineBad P xs (some (split_point old new fs)) m u s f g k
  bad_old old new fs h =
      record { bad = λ b st. not_applies st (numbered_split old new fs) (split_test P (length xs / 3) b old new fs ∙ rw (le-ltb old P h) (and_false (ltb b.splits (3 * (length xs / 3))))) }

  -- not the next point
  pub bad_new : (old new : ℕ) (fs : List ℕ) → (new ≡ P + k → ⊥) → LineBad P xs (some (split_point old new fs)) m u s f g k
  bad_new old new fs h =
      record {
        bad = λ b st.
            not_applies st (numbered_split old new fs)
            (split_test P (length xs / 3) b old new fs
            ∙ rw (ne_eqb new (length b.points) (λ e. h (e ∙ st.stands.points ∙ ap (λ (z : ℕ). P + z) st.splits)), and_false (ltb old P)) (and_false (ltb b.splits (3 * (length xs / 3)))));
      }

  -- the faces have the point, as the rows say
  faces_have : {b : Bench} → Standing P xs m u s f g k b → (old : ℕ) → old < P → (fs : List ℕ) → all (present_with b old) fs ≡ all (has_face xs m (length xs / 3) old) fs
  faces_have {b} st old h fs = all_same (has_face xs m (length xs / 3) old) (present_with b old) (λ x. st.stands.with_is old x h) fs

  -- a face without it
  pub bad_face : (old new : ℕ) (fs : List ℕ) → old < P → false ≡ all (has_face xs m (length xs / 3) old) fs → LineBad P xs (some (split_point old new fs)) m u s f g k
  bad_face old new fs l h =
      record {
        bad = λ b st.
            not_applies st (numbered_split old new fs)
            (split_test P (length xs / 3) b old new fs
            ∙ rw (faces_have st old l fs, ← h, and_false (eqb new (length b.points)), and_false (ltb old P)) (and_false (ltb b.splits (3 * (length xs / 3)))));
      }

  -- it applies
  pub on_split : (old new : ℕ) (fs : List ℕ) → Ready P xs m u k → k < 3 * (length xs / 3) → old < P → new ≡ P + k → true ≡ behind s f g 6 old new
      → true ≡ all (has_face xs m (length xs / 3) old) fs → {m' u' : List ℕ} → PointGives xs m u fs old (P + k) m' u'
      → LineOn P xs (split_point old new fs) m u s f g k m' u' 6 old new (k + 1)
  on_split old new fs r c l e h a {m'} {u'} pt =
      record {
        long_bytes = pt.taken.long;
        long_bits = pt.long;
        small = pt.taken.small;
        few = omega arith;
        each = λ b st.
            let n : new ≡ length b.points = e ∙ ap (λ (z : ℕ). P + z) (sym st.splits) ∙ sym st.stands.points in
            let v : all (present_with b old) fs ≡ true = faces_have st old l fs ∙ sym a in
            record {
              applies = does_apply st (numbered_split old new fs) h (split_test P (length xs / 3) b old new fs ∙ rw (v, eq-eqb new (length b.points) n, lt-ltb old P l, st.splits, lt-ltb k (3 * (length xs / 3)) c) refl);
              standing = record {
                stands = stands_split st.stands old new fs (section (split_point old new fs) ∷ numbers (split_point old new fs)) l n (subst T (sym v) tt) pt.taken (λ w. rw e (pt.told w));
                last = unfold change in (split_at old new fs);
                splits = unfold change in (ap suc st.splits ∙ sym (add-one k));
                few = omega arith;
                section = omega arith;
                early = λ q. absurd (omega arith);
                alone = λ q. absurd (omega arith);
                low = λ q w. absurd (omega arith);
              };
            };
        rise = λ b st. room_splits (length xs / 3) s f k old st.section st.low;
      }
