-- The order of lines by section and numbers, and how many lines there are at most up to one. Assumes nothing.
use mathlib.Core.Path.{◌≡◌, refl, sym, ap, ◌∙◌}
use mathlib.Core.Bool.{Bool, true, false, not, ◌&&◌, ◌||◌, true≢false}
use mathlib.Core.List.{List, ◌∷◌}
use Prim.Native.Nat.{ℕ, zero, suc, ◌+◌, ◌-◌, ◌*◌, ◌≤◌, ◌<◌}
use native.Mathlib.Decide.{ℕ_discrete}
use native.Mathlib.Omega.{arith}
use borrow.Author.Tests.{ne_eqb, lt-ltb, ltb-true, ltb-false, eqb-true}
use lib.Dec.{eqb, ltb}
use lib.ListN.{drop}
use Rattle.rules.specs.Mending.{dropped_face, exchange, split_point, pass_of}
use Rattle.rules.specs.Applying.{section, numbers, precedes}
use Rattle.std.specs.Ordering.{partial_ge}
use Rattle.std.proofs.lemmas.Bool.Decides.{nat_tests}
use Rattle.list_lines.specs.Lines.{reason}
use Rattle.list_lines.specs.declared.Reason as read
use Rattle.list_lines.specs.declared.Reason.TheVariants as word
use Rattle.list_check.specs.declared.Place.{Place}
use Rattle.list_check.specs.contracts.PlacePartialOrd.TheImpl.{partial_cmp-value}
use Rattle.list_check.specs.Standing.{behind, section_of, last_of, room}

-- ---- section and numbers

-- a first element and the others
last_cons : (s f g : ℕ) → 0 < s → s ≤ 6 → last_of s f g ≡ s ∷ drop 1 (last_of s f g)
unfolding last_of
last_cons zero f g h l = absurd (omega arith)
last_cons (suc zero) f g h l = refl
last_cons (suc (suc zero)) f g h l = refl
last_cons (suc (suc (suc zero))) f g h l = refl
last_cons (suc (suc (suc (suc zero)))) f g h l = refl
last_cons (suc (suc (suc (suc (suc zero))))) f g h l = refl
last_cons (suc (suc (suc (suc (suc (suc zero)))))) f g h l = refl
last_cons (suc (suc (suc (suc (suc (suc (suc k))))))) f g h l = absurd (omega arith)

-- the numbers in one section
or_false : (a b : Bool) → (a || (b && false)) ≡ a
or_false true b = refl
or_false false true = refl
or_false false false = refl

module _ (f g f' g' : ℕ) where
  -- by first and then by second
  abbrev lower : Bool
  lower = ltb f f' || (eqb f f' && ltb g g')

  -- where the second is none
  alone : g ≡ 0 → g' ≡ 0 → (ltb f f' || (eqb f f' && false)) ≡ lower
  alone a b = rw (a, b) refl

  in_section : (s : ℕ) → 0 < s → s ≤ 6 → (s < 6 → g ≡ 0) → (s < 6 → g' ≡ 0) → precedes (drop 1 (last_of s f g)) (drop 1 (last_of s f' g')) ≡ lower
  unfolding last_of precedes
  in_section zero h l a b = absurd (omega arith)
  in_section (suc zero) h l a b = alone (a (omega arith)) (b (omega arith))
  in_section (suc (suc zero)) h l a b = alone (a (omega arith)) (b (omega arith))
  in_section (suc (suc (suc zero))) h l a b = alone (a (omega arith)) (b (omega arith))
  in_section (suc (suc (suc (suc zero)))) h l a b = alone (a (omega arith)) (b (omega arith))
  in_section (suc (suc (suc (suc (suc zero))))) h l a b = alone (a (omega arith)) (b (omega arith))
  in_section (suc (suc (suc (suc (suc (suc zero)))))) h l a b = ap (λ (t : Bool). ltb f f' || (eqb f f' && t)) (or_false (ltb g g') (eqb g g'))
  in_section (suc (suc (suc (suc (suc (suc (suc k))))))) h l a b = absurd (omega arith)

  -- all in all
  pub precedes_is : (s s' : ℕ) → s ≤ 6 → 0 < s' → s' ≤ 6 → (s < 6 → g ≡ 0) → (s' < 6 → g' ≡ 0) → precedes (last_of s f g) (last_of s' f' g') ≡ behind s f g s' f' g'
  precedes_is zero s' l p l' a b = rw (last_cons s' f' g' p l') (first s' p)
    where
      first : (t : ℕ) → 0 < t → precedes (last_of 0 f g) (t ∷ drop 1 (last_of s' f' g')) ≡ behind 0 f g t f' g'
      first t q = unfold last_of precedes behind in (rw (lt-ltb 0 t q) refl)
  precedes_is (suc k) s' l p l' a b =
      ap (λ (z : List ℕ). precedes z (last_of s' f' g')) (last_cons (suc k) f g (omega arith) l)
      ∙ ap (precedes (suc k ∷ drop 1 (last_of (suc k) f g))) (last_cons s' f' g' p l')
      ∙ go (ℕ_discrete (suc k) s')
    where
      go : Dec (suc k ≡ s') → precedes (suc k ∷ drop 1 (last_of (suc k) f g)) (s' ∷ drop 1 (last_of s' f' g')) ≡ behind (suc k) f g s' f' g'
      go (yes e) = unfold precedes behind in (rw (← e) (ap (λ (t : Bool). ltb (suc k) (suc k) || (eqb (suc k) (suc k) && t)) (in_section (suc k) (omega arith) l a (λ q. b (omega arith)))))
      go (no n) = unfold precedes behind in (rw (ne_eqb (suc k) s' n) refl)

-- ---- the lines

-- a dropped face
pub dropped_at : (f : ℕ) (w : read.Reason) → section (dropped_face f (reason w)) ∷ numbers (dropped_face f (reason w)) ≡ last_of (section_of w) f 0
unfolding section numbers reason section_of last_of pass_of
dropped_at f word.Repeated = refl
dropped_at f word.Thin = refl
dropped_at f word.Duplicate = refl
dropped_at f word.Edge = refl
dropped_at f word.Direction = refl

-- an exchange
pub exchange_at : (f : ℕ) → section (exchange f) ∷ numbers (exchange f) ≡ last_of 4 f 0
unfolding section numbers last_of
exchange_at f = refl

-- a split
pub split_at : (old new : ℕ) (fs : List ℕ) → section (split_point old new fs) ∷ numbers (split_point old new fs) ≡ last_of 6 old new
unfolding section numbers last_of
split_at old new fs = refl

-- the section of a dropped face
pub record Dropping (s : ℕ) : Type 0 where
  pub some_section : 0 < s
  pub before_splits : s < 6

pub section_low : (w : read.Reason) → Dropping (section_of w)
unfolding section_of
section_low word.Repeated = record { some_section = omega arith; before_splits = omega arith }
section_low word.Thin = record { some_section = omega arith; before_splits = omega arith }
section_low word.Duplicate = record { some_section = omega arith; before_splits = omega arith }
section_low word.Edge = record { some_section = omega arith; before_splits = omega arith }
section_low word.Direction = record { some_section = omega arith; before_splits = omega arith }

-- ---- the order of places

-- a place that is not below another
ge_behind : (a b : Place) → partial_ge partial_cmp-value.it a b ≡ not (behind a.section a.first a.second b.section b.first b.second)
unfolding behind
ge_behind a b = grind (arith, nat_tests)

module _ (a b : Place) {r : Bool} (e : r ≡ partial_ge partial_cmp-value.it a b) where
  pub not_behind : r ≡ true → false ≡ behind a.section a.first a.second b.section b.first b.second
  not_behind h = go (behind a.section a.first a.second b.section b.first b.second) (sym h ∙ e ∙ ge_behind a b)
    where
      go : (t : Bool) → true ≡ not t → false ≡ t
      go true q = absurd (true≢false q)
      go false q = refl

  pub is_behind : r ≡ false → true ≡ behind a.section a.first a.second b.section b.first b.second
  is_behind h = go (behind a.section a.first a.second b.section b.first b.second) (sym h ∙ e ∙ ge_behind a b)
    where
      go : (t : Bool) → false ≡ not t → true ≡ t
      go true q = refl
      go false q = absurd (true≢false (sym q))

-- ---- what is behind

-- a later section, or the same and later numbers
pub data Behind (s f g s' f' g' : ℕ) : Type 0 where
  later : s < s' → Behind s f g s' f' g'
  first : s ≡ s' → f < f' → Behind s f g s' f' g'
  second : s ≡ s' → f ≡ f' → g < g' → Behind s f g s' f' g'

pub behind_true : (s f g s' f' g' : ℕ) → true ≡ behind s f g s' f' g' → Behind s f g s' f' g'
unfolding behind
behind_true s f g s' f' g' h = go (ltb s s') (eqb s s') (ltb f f') (eqb f f') (ltb g g') refl refl refl refl refl h
  where
    go : (a b c d e : Bool) → ltb s s' ≡ a → eqb s s' ≡ b → ltb f f' ≡ c → eqb f f' ≡ d → ltb g g' ≡ e
        → true ≡ (a || (b && (c || (d && e)))) → Behind s f g s' f' g'
    go true b c d e p q r t z y = later (ltb-true s s' p)
    go false true true d e p q r t z y = first (eqb-true s s' q) (ltb-true f f' r)
    go false true false true true p q r t z y = second (eqb-true s s' q) (eqb-true f f' t) (ltb-true g g' z)
    go false true false true false p q r t z y = let x : ◌≡◌ {A = ℕ} 0 1 = cc in absurd (omega arith)
    go false true false false e p q r t z y = let x : ◌≡◌ {A = ℕ} 0 1 = cc in absurd (omega arith)
    go false false c d e p q r t z y = let x : ◌≡◌ {A = ℕ} 0 1 = cc in absurd (omega arith)

-- ---- how many lines

-- before a section
unfoldable start : ℕ → ℕ → ℕ
start F zero = 0
start F (suc zero) = 0
start F (suc (suc zero)) = F
start F (suc (suc (suc zero))) = 2 * F
start F (suc (suc (suc (suc zero)))) = 3 * F
start F (suc (suc (suc (suc (suc zero))))) = 4 * F
start F (suc (suc (suc (suc (suc (suc s)))))) = 5 * F

-- a section's lines are before the next
room_before : (F s f k : ℕ) → s < 6 → (0 < s → f < F) → room F s f k ≤ start F (suc s)
unfolding room start
room_before F zero f k l h = omega arith
room_before F (suc zero) f k l h = omega (arith, h (omega arith))
room_before F (suc (suc zero)) f k l h = omega (arith, h (omega arith))
room_before F (suc (suc (suc zero))) f k l h = omega (arith, h (omega arith))
room_before F (suc (suc (suc (suc zero)))) f k l h = omega (arith, h (omega arith))
room_before F (suc (suc (suc (suc (suc zero))))) f k l h = omega (arith, h (omega arith))
room_before F (suc (suc (suc (suc (suc (suc s)))))) f k l h = absurd (omega arith)

start_next : (F s : ℕ) → start F s ≤ start F (suc s)
unfolding start
start_next F zero = omega arith
start_next F (suc zero) = omega arith
start_next F (suc (suc zero)) = omega arith
start_next F (suc (suc (suc zero))) = omega arith
start_next F (suc (suc (suc (suc zero)))) = omega arith
start_next F (suc (suc (suc (suc (suc zero))))) = omega arith
start_next F (suc (suc (suc (suc (suc (suc s)))))) = omega arith

start_rise : (F s d : ℕ) → start F s ≤ start F (d + s)
start_rise F s zero = let e : 0 + s ≡ s = omega arith in rw e (omega arith)
start_rise F s (suc d) =
    let e : suc d + s ≡ suc (d + s) = omega arith in
    let a = start_rise F s d in
    let b = start_next F (d + s) in
    rw e (omega arith)

-- a face's line
room_face : (F s f k : ℕ) → 0 < s → s < 6 → room F s f k ≡ start F s + f + 1
unfolding room start
room_face F zero f k h l = absurd (omega arith)
room_face F (suc zero) f k h l = omega arith
room_face F (suc (suc zero)) f k h l = omega arith
room_face F (suc (suc (suc zero))) f k h l = omega arith
room_face F (suc (suc (suc (suc zero)))) f k h l = omega arith
room_face F (suc (suc (suc (suc (suc zero))))) f k h l = omega arith
room_face F (suc (suc (suc (suc (suc (suc s)))))) f k h l = absurd (omega arith)

-- a later section
room_later : (F s f k s' : ℕ) → s < s' → s' ≤ 6 → (0 < s → f < F) → room F s f k ≤ start F s'
room_later F s f k s' h l low =
    let e : (s' - suc s) + suc s ≡ s' = omega arith in
    let a = room_before F s f k (omega arith) low in
    let b = rw e at (start_rise F (suc s) (s' - suc s)) in
    omega arith

-- a line of a face
pub room_rises : (F s f g k s' f' k' : ℕ) → s ≤ 6 → 0 < s' → s' < 6 → (0 < s → s < 6 → f < F) → Behind s f g s' f' 0 → room F s f k < room F s' f' k'
room_rises F s f g k s' f' k' a p l low (later h) = rw (room_face F s' f' k' p l) (omega (arith, room_later F s f k s' h (omega arith) (λ q. low q (omega arith))))
room_rises F s f g k s' f' k' a p l low (first e h) = rw (e, room_face F s' f' k' p l, room_face F s' f k p l) (omega arith)
room_rises F s f g k s' f' k' a p l low (second e d h) = absurd (omega arith)

-- a split
pub room_splits : (F s f k f' : ℕ) → s ≤ 6 → (0 < s → s < 6 → f < F) → room F s f k < room F 6 f' (k + 1)
room_splits F s f k f' a low = go (ltb s 6) refl
  where
    six : room F 6 f' (k + 1) ≡ 5 * F + (k + 1)
    six = unfold room in refl

    last : room F 6 f k ≡ 5 * F + k
    last = unfold room in refl

    begin : start F 6 ≡ 5 * F
    begin = unfold start in refl

    go : (t : Bool) → ltb s 6 ≡ t → room F s f k < room F 6 f' (k + 1)
    go true e =
        let l = ltb-true s 6 e in
        rw six (omega (arith, room_later F s f k 6 l (omega arith) (λ q. low q l), begin))
    go false e =
        let l = ltb-false s 6 e in
        let q : s ≡ 6 = omega arith in
        rw (q, six, last) (omega arith)

-- at most these
pub room_most : (F s f k : ℕ) → s ≤ 6 → k ≤ 3 * F → (0 < s → s < 6 → f < F) → room F s f k ≤ 8 * F
room_most F s f k a few low = go (ltb s 6) refl
  where
    last : room F 6 f k ≡ 5 * F + k
    last = unfold room in refl

    begin : start F 6 ≡ 5 * F
    begin = unfold start in refl

    go : (t : Bool) → ltb s 6 ≡ t → room F s f k ≤ 8 * F
    go true e =
        let l = ltb-true s 6 e in
        omega (arith, room_later F s f k 6 l (omega arith) (λ q. low q l), begin)
    go false e =
        let l = ltb-false s 6 e in
        let q : s ≡ 6 = omega arith in
        rw (q, last) (omega arith)
