-- The bits of the points that the faces still have, set face after face. Assumes nothing.
use mathlib.Core.Path.{◌≡◌, refl, sym, ap, ◌∙◌}
use mathlib.Core.Bool.{Bool, true, false, cond, ◌&&◌, ◌||◌}
use mathlib.Core.List.{List, [], ◌∷◌, ◌++◌}
use Prim.Native.Nat.{ℕ, suc, ◌+◌, ◌*◌, ◌/◌, ◌%◌, ◌≤◌, ◌<◌}
use native.Mathlib.Omega.{arith}
use native.Mathlib.Numerals.{add-one}
use borrow.Author.Tests.{eq-eqb, ne_eqb}
use lib.Dec.{eqb}
use lib.ListN.{length, get_or}
use Rattle.rules.specs.Lists.{below, any}
use Rattle.point_bits.specs.Bits.{bit, SetGives}
use Rattle.face_marks.specs.Marks.{here, free, keeps, FaceAsks, Sized, CornerAsks, CornerGives, PutAsks, PutGives, UsedAsks, UsedGives}

-- ---- a corner

-- tests
and_true : (b : Bool) → b ≡ (b && true)
and_true true = refl
and_true false = refl

and_false : (b : Bool) → false ≡ (b && false)
and_false true = refl
and_false false = refl

-- one that was not taken over
pub corner_put : {m unit x : ℕ} {u u' : List ℕ} → m / unit % 2 ≡ 0 → SetGives u x u' → CornerGives m unit x u u'
unfolding free
corner_put {m} {unit} {x} {u} {u'} e s =
    record { long = s.long; told = λ v. s.told v ∙ rw (eq-eqb (m / unit % 2) 0 e) (ap (λ (b : Bool). b || bit u v) (and_true (eqb v x))) }

-- one that was
pub corner_left : {m unit x : ℕ} {u : List ℕ} → (m / unit % 2 ≡ 0 → ⊥) → CornerGives m unit x u u
unfolding free
corner_left {m} {unit} {x} {u} e =
    record { long = refl; told = λ v. rw (ne_eqb (m / unit % 2) 0 e) (ap (λ (b : Bool). b || bit u v) (and_false (eqb v x))) }

-- ---- a face

module _ {xs m : List ℕ} {f : ℕ} {u : List ℕ} (p : PutAsks xs m f u) where
  -- its corners have bits
  pub put_first : CornerAsks 2 (get_or xs (3 * f) 0) u
  put_first = let c = p.face.corners in record { some_unit = omega arith; room = p.room (3 * f) (omega arith) }

  module _ {u₁ : List ℕ} (a : CornerGives (get_or m f 0) 2 (get_or xs (3 * f) 0) u u₁) where
    pub put_second : CornerAsks 4 (get_or xs (3 * f + 1) 0) u₁
    put_second =
        let c = p.face.corners in
        record { some_unit = omega arith; room = omega (arith, p.room (3 * f + 1) (omega arith), a.long) }

    module _ {u₂ : List ℕ} (b : CornerGives (get_or m f 0) 4 (get_or xs (3 * f + 1) 0) u₁ u₂) where
      pub put_third : CornerAsks 8 (get_or xs (3 * f + 2) 0) u₂
      put_third =
          let c = p.face.corners in
          record { some_unit = omega arith; room = omega (arith, p.room (3 * f + 2) (omega arith), a.long, b.long) }

      -- all three
      pub put_gives : {u₃ : List ℕ} → CornerGives (get_or m f 0) 8 (get_or xs (3 * f + 2) 0) u₂ u₃ → PutGives xs m f u u₃
      unfolding keeps
      put_gives {u₃} c =
          record {
            long = c.long ∙ b.long ∙ a.long;
            told = λ v.
                c.told v
                ∙ ap (λ (t : Bool). free (get_or m f 0) 8 v (get_or xs (3 * f + 2) 0) || t) (b.told v ∙ ap (λ (t : Bool). free (get_or m f 0) 4 v (get_or xs (3 * f + 1) 0) || t) (a.told v))
                ∙ turned (free (get_or m f 0) 2 v (get_or xs (3 * f) 0)) (free (get_or m f 0) 4 v (get_or xs (3 * f + 1) 0)) (free (get_or m f 0) 8 v (get_or xs (3 * f + 2) 0)) (bit u v);
          }
        where
          turned : (x y z t : Bool) → (z || (y || (x || t))) ≡ ((x || (y || z)) || t)
          turned true true true t = refl
          turned true true false t = refl
          turned true false true t = refl
          turned true false false t = refl
          turned false true true t = refl
          turned false true false t = refl
          turned false false true t = refl
          turned false false false t = refl

-- ---- all faces

-- the faces before f
pub record Put (xs m : List ℕ) (n : ℕ) (u₀ u : List ℕ) (f : ℕ) : Type 0 where
  pub at_most : f ≤ n
  pub long : length u ≡ length u₀
  pub told : (v : ℕ) → bit u v ≡ (any (λ g. here m g && keeps xs m g v) (below f) || bit u₀ v)

pub put_begin : {xs m : List ℕ} {n : ℕ} {u : List ℕ} → Put xs m n u u 0
unfolding any below
put_begin = record { at_most = omega arith; long = refl; told = λ v. refl }

-- one of a list and one more
any_snoc : (p : ℕ → Bool) (xs : List ℕ) (y : ℕ) → any p (xs ++ (y ∷ [])) ≡ (p y || any p xs)
unfolding any
any_snoc p [] y = refl
any_snoc p (x ∷ xs) y = ap (λ (b : Bool). p x || b) (any_snoc p xs y) ∙ turn (p x) (p y) (any p xs)
  where
    turn : (a b c : Bool) → (a || (b || c)) ≡ (b || (a || c))
    turn true true c = refl
    turn true false c = refl
    turn false true c = refl
    turn false false c = refl

or_assoc : (a b c : Bool) → (a || (b || c)) ≡ ((a || b) || c)
or_assoc true b c = refl
or_assoc false b c = refl

module _ {xs m : List ℕ} {n : ℕ} {u₀ u : List ℕ} {f : ℕ} (p : UsedAsks xs m n u₀) (i : Put xs m n u₀ u f) (h : f < n) where
  -- what a turn needs
  pub put_asks : PutAsks xs m f u
  put_asks =
      let c = p.sized.corners in
      let b = p.sized.bytes in
      let l = i.long in
      record { face = record { corners = omega arith; byte = omega arith }; room = λ j k. omega (arith, p.room j k) }

  pub put_byte : f < length m
  put_byte = omega (arith, p.sized.bytes)

  -- the next face
  more : (v : ℕ) → any (λ g. here m g && keeps xs m g v) (below (suc f)) ≡ ((here m f && keeps xs m f v) || any (λ g. here m g && keeps xs m g v) (below f))
  unfolding below
  more v = any_snoc (λ g. here m g && keeps xs m g v) (below f) f

  -- by whether it is there
  more_by : (t : Bool) → here m f ≡ t → (v : ℕ) → any (λ g. here m g && keeps xs m g v) (below (suc f)) ≡ ((t && keeps xs m f v) || any (λ g. here m g && keeps xs m g v) (below f))
  more_by t e v = more v ∙ ap (λ (b : Bool). (b && keeps xs m f v) || any (λ g. here m g && keeps xs m g v) (below f)) e

  -- it is there
  pub put_again : {u' : List ℕ} → get_or m f 0 % 2 ≡ 0 → PutGives xs m f u u' → Put xs m n u₀ u' (f + 1)
  put_again {u'} e t =
      rw add-one
      (record {
        at_most = omega arith;
        long = t.long ∙ i.long;
        told = λ v.
            t.told v
            ∙ ap (λ (b : Bool). keeps xs m f v || b) (i.told v)
            ∙ or_assoc (keeps xs m f v) (any (λ g. here m g && keeps xs m g v) (below f)) (bit u₀ v)
            ∙ ap (λ (b : Bool). b || bit u₀ v) (sym (more_by true is v));
      })
    where
      is : here m f ≡ true
      is = unfold here in (eq-eqb (get_or m f 0 % 2) 0 e)

  -- it is gone
  pub put_past : (get_or m f 0 % 2 ≡ 0 → ⊥) → Put xs m n u₀ u (f + 1)
  put_past e =
      rw add-one
      (record {
        at_most = omega arith;
        long = i.long;
        told = λ v. i.told v ∙ ap (λ (b : Bool). b || bit u₀ v) (sym (more_by false is v));
      })
    where
      is : here m f ≡ false
      is = unfold here in (ne_eqb (get_or m f 0 % 2) 0 e)

-- all faces
pub put_done : {xs m : List ℕ} {n : ℕ} {u₀ u : List ℕ} {f : ℕ} → Put xs m n u₀ u f → n ≤ f → UsedGives xs m n u₀ u
put_done {xs} {m} {n} {u₀} {u} {f} i h =
    let e : f ≡ n = omega (arith, i.at_most) in
    record { long = i.long; told = λ v. i.told v ∙ ap (λ (k : ℕ). any (λ g. here m g && keeps xs m g v) (below k) || bit u₀ v) e }
