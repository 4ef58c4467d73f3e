-- A byte after its corners that are one point were taken over. Assumes nothing.
use mathlib.Core.Path.{◌≡◌, refl, sym, ap, ◌∙◌}
use mathlib.Core.Bool.{Bool, true, false, not, cond, ◌&&◌, ◌||◌}
use mathlib.Core.List.{List}
use Prim.Native.Nat.{ℕ, ◌+◌, ◌*◌, ◌/◌, ◌%◌, ◌≤◌, ◌<◌}
use native.Mathlib.Decide.{ℕ_discrete}
use native.Mathlib.Omega.{arith}
use borrow.Author.Tests.{eq-eqb, ne_eqb, eqb-true, eqb-false}
use lib.Dec.{eqb}
use lib.ListN.{length, get_or, set, length-set}
use lib.Seq.{get_or-set_same, get_or-set_other}
use Rattle.face_marks.specs.Marks.{here, free, keeps, takes, Small, TakenAsks, FaceAsks, TakeAsks, TakeGives}

-- ---- one corner

-- what changes in a byte when corner x, if it is the point v, is taken over
pub record Took (m r v x own second third : ℕ) : Type 0 where
  pub small : r < 16
  pub odd : r % 2 ≡ m % 2
  pub set : v ≡ x → r / own % 2 ≡ 1
  pub left : (v ≡ x → ⊥) → r ≡ m
  pub same_second : r / second % 2 ≡ m / second % 2
  pub same_third : r / third % 2 ≡ m / third % 2

-- a clear bit is set, and the bits above it stay
half : (q : ℕ) → q % 2 ≡ 0 → (q + 1) / 2 ≡ q / 2
half q z = omega arith

above_second : (m : ℕ) → m / 2 % 2 ≡ 0 → (m + 2) / 4 ≡ m / 4
above_second m z =
    let a : (m + 2) / 4 ≡ (m / 2 + 1) / 2 = omega arith in
    let b : m / 2 / 2 ≡ m / 4 = omega arith in
    a ∙ half (m / 2) z ∙ b

above_third : (m : ℕ) → m / 2 % 2 ≡ 0 → (m + 2) / 8 ≡ m / 8
above_third m z =
    let a : (m + 2) / 8 ≡ (m + 2) / 4 / 2 = omega arith in
    let b : m / 4 / 2 ≡ m / 8 = omega arith in
    a ∙ ap (λ (q : ℕ). q / 2) (above_second m z) ∙ b

above_fourth : (m : ℕ) → m / 4 % 2 ≡ 0 → (m + 4) / 8 ≡ m / 8
above_fourth m z =
    let a : (m + 4) / 8 ≡ (m / 4 + 1) / 2 = omega arith in
    let b : m / 4 / 2 ≡ m / 8 = omega arith in
    a ∙ half (m / 4) z ∙ b

module _ {m : ℕ} (h : m < 16) (v x : ℕ) where
  -- corner 0
  pub takes_first : Took m (takes m 2 v x) v x 2 4 8
  unfolding takes free
  takes_first = go (ℕ_discrete v x) (ℕ_discrete (m / 2 % 2) 0)
    where
      go : Dec (v ≡ x) → Dec (m / 2 % 2 ≡ 0) → Took m (takes m 2 v x) v x 2 4 8
      go (yes e) (yes z) =
          rw (eq-eqb v x e, eq-eqb (m / 2 % 2) 0 z)
          (record { small = omega arith; odd = omega arith; set = λ q. omega arith; left = λ q. absurd (q e); same_second = ap (λ (q : ℕ). q % 2) (above_second m z); same_third = ap (λ (q : ℕ). q % 2) (above_third m z) })
      go (yes e) (no z) =
          rw (eq-eqb v x e, ne_eqb (m / 2 % 2) 0 z)
          (record { small = h; odd = refl; set = λ q. omega arith; left = λ q. refl; same_second = refl; same_third = refl })
      go (no e) z =
          rw (ne_eqb v x e)
          (record { small = h; odd = refl; set = λ q. absurd (e q); left = λ q. refl; same_second = refl; same_third = refl })

  -- corner 1
  pub takes_second : Took m (takes m 4 v x) v x 4 2 8
  unfolding takes free
  takes_second = go (ℕ_discrete v x) (ℕ_discrete (m / 4 % 2) 0)
    where
      go : Dec (v ≡ x) → Dec (m / 4 % 2 ≡ 0) → Took m (takes m 4 v x) v x 4 2 8
      go (yes e) (yes z) =
          rw (eq-eqb v x e, eq-eqb (m / 4 % 2) 0 z)
          (record { small = omega arith; odd = omega arith; set = λ q. omega arith; left = λ q. absurd (q e); same_second = omega arith; same_third = ap (λ (q : ℕ). q % 2) (above_fourth m z) })
      go (yes e) (no z) =
          rw (eq-eqb v x e, ne_eqb (m / 4 % 2) 0 z)
          (record { small = h; odd = refl; set = λ q. omega arith; left = λ q. refl; same_second = refl; same_third = refl })
      go (no e) z =
          rw (ne_eqb v x e)
          (record { small = h; odd = refl; set = λ q. absurd (e q); left = λ q. refl; same_second = refl; same_third = refl })

  -- corner 2
  pub takes_third : Took m (takes m 8 v x) v x 8 2 4
  unfolding takes free
  takes_third = go (ℕ_discrete v x) (ℕ_discrete (m / 8 % 2) 0)
    where
      go : Dec (v ≡ x) → Dec (m / 8 % 2 ≡ 0) → Took m (takes m 8 v x) v x 8 2 4
      go (yes e) (yes z) =
          rw (eq-eqb v x e, eq-eqb (m / 8 % 2) 0 z)
          (record { small = omega arith; odd = omega arith; set = λ q. omega arith; left = λ q. absurd (q e); same_second = omega arith; same_third = omega arith })
      go (yes e) (no z) =
          rw (eq-eqb v x e, ne_eqb (m / 8 % 2) 0 z)
          (record { small = h; odd = refl; set = λ q. omega arith; left = λ q. refl; same_second = refl; same_third = refl })
      go (no e) z =
          rw (ne_eqb v x e)
          (record { small = h; odd = refl; set = λ q. absurd (e q); left = λ q. refl; same_second = refl; same_third = refl })

-- where the bit is the same, the corner is as free
free_same : (m r unit w x : ℕ) → r / unit % 2 ≡ m / unit % 2 → free r unit w x ≡ free m unit w x
unfolding free
free_same m r unit w x e = rw e refl

-- no corner is left that is the point v
free_taken : (m r unit v x w : ℕ) → (v ≡ x → r / unit % 2 ≡ 1) → ((v ≡ x → ⊥) → r ≡ m) → free r unit w x ≡ (free m unit w x && not (eqb w v))
unfolding free
free_taken m r unit v x w s l = go (ℕ_discrete v x) (ℕ_discrete w x)
  where
    and_right : (b : Bool) → (b && true) ≡ b
    and_right true = refl
    and_right false = refl

    and_false : (b : Bool) → (b && false) ≡ false
    and_false true = refl
    and_false false = refl

    go : Dec (v ≡ x) → Dec (w ≡ x) → (eqb w x && eqb (r / unit % 2) 0) ≡ ((eqb w x && eqb (m / unit % 2) 0) && not (eqb w v))
    go d (no n) = rw (ne_eqb w x n) refl
    go (yes e) (yes q) =
        let o = s e in
        rw (eq-eqb w x q, o, eq-eqb w v (q ∙ sym e)) (sym (and_false (eqb (m / unit % 2) 0)))
    go (no e) (yes q) =
        rw (eq-eqb w x q, l e, ne_eqb w v (λ z. e (sym z ∙ q))) (sym (and_right (eqb (m / unit % 2) 0)))

-- ---- a face

-- tests with one more condition
shared : (a b c n : Bool) → ((a && n) || ((b && n) || (c && n))) ≡ ((a || (b || c)) && n)
shared true true true true = refl
shared true true true false = refl
shared true true false true = refl
shared true true false false = refl
shared true false true true = refl
shared true false true false = refl
shared true false false true = refl
shared true false false false = refl
shared false true true true = refl
shared false true true false = refl
shared false true false true = refl
shared false true false false = refl
shared false false true true = refl
shared false false true false = refl
shared false false false true = refl
shared false false false false = refl

and_true : (b : Bool) → b ≡ (b && not false)
and_true true = refl
and_true false = refl

module _ (xs m : List ℕ) (f v : ℕ) where
  -- its byte before, and after each corner
  abbrev old : ℕ
  old = get_or m f 0

  abbrev one : ℕ
  one = takes old 2 v (get_or xs (3 * f) 0)

  abbrev two : ℕ
  two = takes one 4 v (get_or xs (3 * f + 1) 0)

  abbrev pub three : ℕ
  three = takes two 8 v (get_or xs (3 * f + 2) 0)

  module _ (p : TakeAsks xs m f) where
    first : Took old one v (get_or xs (3 * f) 0) 2 4 8
    first = takes_first (p.small.each f) v (get_or xs (3 * f) 0)

    second : Took one two v (get_or xs (3 * f + 1) 0) 4 2 8
    second = takes_second first.small v (get_or xs (3 * f + 1) 0)

    third : Took two three v (get_or xs (3 * f + 2) 0) 8 2 4
    third = takes_third second.small v (get_or xs (3 * f + 2) 0)

    -- there is room for each corner's bit
    pub room_first : TakenAsks old 2
    room_first = record { some_unit = omega arith; room = omega (arith, p.small.each f) }

    pub room_second : TakenAsks one 4
    room_second = record { some_unit = omega arith; room = omega (arith, first.small) }

    pub room_third : TakenAsks two 8
    room_third = record { some_unit = omega arith; room = omega (arith, second.small) }

    -- the three corners
    corner_first : (w : ℕ) → free three 2 w (get_or xs (3 * f) 0) ≡ (free old 2 w (get_or xs (3 * f) 0) && not (eqb w v))
    corner_first w =
        free_same one three 2 w (get_or xs (3 * f) 0) (third.same_second ∙ second.same_second)
        ∙ free_taken old one 2 v (get_or xs (3 * f) 0) w first.set first.left

    corner_second : (w : ℕ) → free three 4 w (get_or xs (3 * f + 1) 0) ≡ (free old 4 w (get_or xs (3 * f + 1) 0) && not (eqb w v))
    corner_second w =
        free_same two three 4 w (get_or xs (3 * f + 1) 0) third.same_third
        ∙ free_taken one two 4 v (get_or xs (3 * f + 1) 0) w second.set second.left
        ∙ ap (λ (b : Bool). b && not (eqb w v)) (free_same old one 4 w (get_or xs (3 * f + 1) 0) first.same_second)

    corner_third : (w : ℕ) → free three 8 w (get_or xs (3 * f + 2) 0) ≡ (free old 8 w (get_or xs (3 * f + 2) 0) && not (eqb w v))
    corner_third w =
        free_taken two three 8 v (get_or xs (3 * f + 2) 0) w third.set third.left
        ∙ ap (λ (b : Bool). b && not (eqb w v)) (free_same old two 8 w (get_or xs (3 * f + 2) 0) (second.same_third ∙ first.same_third))

    -- the face after it
    pub take_gives : TakeGives xs m f v (set m f three)
    unfolding here keeps
    take_gives =
        record {
          long = length-set m f three;
          small = record { each = λ g. little g (ℕ_discrete g f) };
          same_here = λ g. still g (ℕ_discrete g f);
          told = λ g w. left g w (ℕ_discrete g f);
        }
      where
        at_f : get_or (set m f three) f 0 ≡ three
        at_f = get_or-set_same m f three 0 p.face.byte

        little : (g : ℕ) → Dec (g ≡ f) → get_or (set m f three) g 0 < 16
        little g (yes e) = rw (e, at_f) third.small
        little g (no n) = rw (get_or-set_other m f g three 0 n) (p.small.each g)

        still : (g : ℕ) → Dec (g ≡ f) → eqb (get_or (set m f three) g 0 % 2) 0 ≡ eqb (get_or m g 0 % 2) 0
        still g (yes e) = rw (e, at_f, third.odd, second.odd, first.odd) refl
        still g (no n) = rw (get_or-set_other m f g three 0 n) refl

        left : (g w : ℕ) → Dec (g ≡ f) → keeps xs (set m f three) g w ≡ (keeps xs m g w && not (eqb g f && eqb w v))
        left g w (yes e) =
            rw (e, at_f, eq-eqb f f refl, corner_first w, corner_second w, corner_third w)
            (shared (free old 2 w (get_or xs (3 * f) 0)) (free old 4 w (get_or xs (3 * f + 1) 0)) (free old 8 w (get_or xs (3 * f + 2) 0)) (not (eqb w v)))
        left g w (no n) = rw (get_or-set_other m f g three 0 n, ne_eqb g f n) (and_true (keeps xs m g w))
