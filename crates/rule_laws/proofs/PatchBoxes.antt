-- A patch with a face has a box of finite numbers, so the diagonal that the filter asks for is a number, not negative and not infinite; and a patch's
-- number of faces is the number of faces that its record takes in. Assumes nothing.
use mathlib.Core.Path.{◌≡◌, refl, sym, ◌∙◌}
use mathlib.Core.Bool.{Bool, true, false, cond}
use mathlib.Core.Logic.{◌⊎◌, inl, inr}
use mathlib.Core.List.{List, [], ◌∷◌, map}
use Prim.Native.Nat.{ℕ, zero, suc, ◌+◌, ◌<◌, zero-le, suc-le-suc}
use native.Mathlib.Nat.{not-suc-le-zero}
use native.Mathlib.Omega.{arith}
use borrow.Author.Tests.{eq-eqb, ne_eqb, eqb-true, eqb-false}
use lib.Dec.{T, eqb}
use lib.ListN.{length, get_or}
use lib.Ieee.{Float, nan, inf, fin, binary64, lt}
use lib.Ieee.Scale.{finite}
use Rattle.rules.specs.Lists.{below, filter, count, through}
use Rattle.rules.specs.Mesh.{Point, Face, point, face}
use Rattle.rules.specs.Refusal.{ok, no4, no_patch}
use Rattle.rules.specs.Patches.{Patch, empty, lower, higher, widened, with_face, patch, patches, face_counts, diagonal}
use Rattle.rule_laws.proofs.Lists.{count_below_suc}
use Rattle.rule_laws.proofs.Bounds.{Within, Upto}
use Rattle.rule_laws.proofs.Domain.{Near, difference_norm}
use Rattle.rule_laws.proofs.FaceBounds.{zero_upto}
use Rattle.rule_laws.proofs.Finite.{point_near}

-- ---- one box number

-- a box number: the infinity that it starts from, or a number of the domain
abbrev Held : Float → Float → Type 0
Held start x = (x ≡ start) ⊎ Within binary64 1174 x

-- a choice of two numbers of the domain
either : (b : Bool) (x y : Float) → Within binary64 1174 x → Within binary64 1174 y → Within binary64 1174 (cond b x y)
either true x y p q = p
either false x y p q = q

-- a finite number is below +infinity
below_infinity : (x : Float) → T (finite x) → lt x (inf false) ≡ true
unfolding lt
below_infinity nan t = absurd t
below_infinity (inf s) t = absurd t
below_infinity (fin s m e) t = refl

-- a finite number is above -infinity
above_infinity : (x : Float) → T (finite x) → lt (inf true) x ≡ true
unfolding lt
above_infinity nan t = absurd t
above_infinity (inf s) t = absurd t
above_infinity (fin s m e) t = refl

-- a lower box number that has taken in a number of the domain is one
lower_within : (held x : Float) → Held (inf false) held → Within binary64 1174 x → Within binary64 1174 (lower held x)
unfolding lower
lower_within held x (inl e) p = rw (e, below_infinity x p.is_finite) p
lower_within held x (inr q) p = either (lt x held) x held p q

-- an upper box number that has taken in a number of the domain is one
higher_within : (held x : Float) → Held (inf true) held → Within binary64 1174 x → Within binary64 1174 (higher held x)
unfolding higher
higher_within held x (inl e) p = rw (e, above_infinity x p.is_finite) p
higher_within held x (inr q) p = either (lt held x) x held p q

-- ---- the box

-- each box number is the empty box's or in the domain
record Started (low high : Point) : Type 0 where
  low_x : Held (inf false) low.x
  low_y : Held (inf false) low.y
  low_z : Held (inf false) low.z
  high_x : Held (inf true) high.x
  high_y : Held (inf true) high.y
  high_z : Held (inf true) high.z

-- each box number is finite and at most 2^100 in magnitude
pub record Boxed (r : Patch) : Type 0 where
  pub low : Near 1174 r.low
  pub high : Near 1174 r.high

-- the empty box
empty_started : Started empty.low empty.high
unfolding empty
empty_started = record { low_x = inl refl; low_y = inl refl; low_z = inl refl; high_x = inl refl; high_y = inl refl; high_z = inl refl }

-- a box in the domain may take in more
boxed_started : (r : Patch) → Boxed r → Started r.low r.high
boxed_started r b =
    record {
      low_x = inr b.low.x;
      low_y = inr b.low.y;
      low_z = inr b.low.z;
      high_x = inr b.high.x;
      high_y = inr b.high.y;
      high_z = inr b.high.z;
    }

-- a box that has taken in a point of the domain lies in it
widened_boxed : (r : Patch) (p : Point) → Started r.low r.high → Near 1174 p → Boxed (widened r p)
unfolding widened
widened_boxed r p s n =
    record {
      low = record {
        x = lower_within r.low.x p.x s.low_x n.x;
        y = lower_within r.low.y p.y s.low_y n.y;
        z = lower_within r.low.z p.z s.low_z n.z;
      };
      high = record {
        x = higher_within r.high.x p.x s.high_x n.x;
        y = higher_within r.high.y p.y s.high_y n.y;
        z = higher_within r.high.z p.z s.high_z n.z;
      };
    }

-- so does one that has taken in points
through_boxed : (ps : List Point) → ((i : ℕ) → Near 1174 (point ps i)) → (l : List ℕ) (r : Patch) → Boxed r → Boxed (through widened r (map (point ps) l))
unfolding through
through_boxed ps near [] r b = b
through_boxed ps near (i ∷ l) r b = through_boxed ps near l (widened r (point ps i)) (widened_boxed r (point ps i) (boxed_started r b) (near i))

-- ---- the faces that a record takes in

-- the numbers of the faces that the record of patch k takes in
abbrev pub taken : List Face → List ℕ → ℕ → List ℕ
taken fs labels k = filter (λ i. eqb (get_or labels i no_patch) k) (below (length fs))

-- a comparison, turned
eqb_turned : (a b : ℕ) → eqb a b ≡ eqb b a
eqb_turned a b = go (eqb b a) refl
  where
    go : (t : Bool) → eqb b a ≡ t → eqb a b ≡ t
    go true e = eq-eqb a b (sym (eqb-true b a e))
    go false e = ne_eqb a b (λ h. eqb-false b a e (sym h))

-- counting by place is counting
count_places :
    {A : Type 0} (p q : A → Bool) (d : A) → ((x : A) → p x ≡ q x) → (xs : List A) → count (λ i. p (get_or xs i d)) (below (length xs)) ≡ count q xs
count_places p q d same [] = unfold count filter below in refl
count_places p q d same (x ∷ xs) =
    count_below_suc (λ i. p (get_or (x ∷ xs) i d)) (length xs)
    ∙ rw (count_places p q d same xs, same x) (unfold count filter in (more (q x)))
  where
    more : (b : Bool) → cond b 1 0 + length (filter q xs) ≡ length (cond b (x ∷ filter q xs) (filter q xs))
    more true = omega arith
    more false = omega arith

-- the count of the labels k is the number of faces that the record of patch k takes in
pub faces_taken : (fs : List Face) (labels : List ℕ) (k : ℕ) → length labels ≡ length fs → count (eqb k) labels ≡ length (taken fs labels k)
unfolding count
faces_taken fs labels k e = rw (← e) (sym (count_places (λ l. eqb l k) (eqb k) no_patch (λ l. eqb_turned l k) labels))

module _ (ps : List Point) (fine : no4 ps ≡ ok) where
  -- a record that has taken in a face
  with_face_boxed : (r : Patch) (f : Face) → Started r.low r.high → Boxed (with_face ps r f)
  unfolding with_face through
  with_face_boxed r f s =
      through_boxed ps (point_near ps fine) (f.b ∷ f.c ∷ []) _ (widened_boxed _ (point ps f.a) s (point_near ps fine f.a))

  -- and more faces
  faces_boxed : (l : List Face) (r : Patch) → Boxed r → Boxed (through (with_face ps) r l)
  unfolding through
  faces_boxed [] r b = b
  faces_boxed (f ∷ l) r b = faces_boxed l (with_face ps r f) (with_face_boxed r f (boxed_started r b))

  -- a patch that takes in a face has a box in the domain
  pub patch_boxed : (fs : List Face) (labels : List ℕ) (k : ℕ) → 0 < length (taken fs labels k) → Boxed (patch ps fs labels k)
  unfolding patch
  patch_boxed fs labels k h = go (taken fs labels k) h
    where
      go : (l : List ℕ) → 0 < length l → Boxed (through (with_face ps) empty (map (face fs) l))
      go [] h = absurd (not-suc-le-zero h)
      go (i ∷ l) h = unfold through in (faces_boxed (map (face fs) l) (with_face ps empty (face fs i)) (with_face_boxed empty (face fs i) empty_started))

  -- ---- the diagonal

  -- of a box in the domain it is not NaN, not negative, and at most 2^102; without faces it is 0
  diagonal_upto : (n : ℕ) (r : Patch) → (0 < n → Boxed r) → Upto binary64 1176 (diagonal n r)
  unfolding diagonal
  diagonal_upto zero r h = zero_upto 1176
  diagonal_upto (suc n) r h = let b = h (suc-le-suc zero-le) in difference_norm r.high r.low b.high b.low

  module _ (fs : List Face) (labels : List ℕ) (as_many : length labels ≡ length fs) where
    -- the diagonal of patch k, whose faces are those labelled k
    pub diagonal_bounded : (k : ℕ) → Upto binary64 1176 (diagonal (count (eqb k) labels) (patch ps fs labels k))
    diagonal_bounded k =
        diagonal_upto (count (eqb k) labels) (patch ps fs labels k) (λ h. patch_boxed fs labels k (rw (← faces_taken fs labels k as_many) h))

    -- the same by place in a list of patches; past its end the diagonal is 0
    diagonals-bounded :
        (ks : List ℕ) (k : ℕ) → Upto binary64 1176 (diagonal (get_or (map (λ j. count (eqb j) labels) ks) k 0) (get_or (map (patch ps fs labels) ks) k empty))
    diagonals-bounded [] k = unfold diagonal in (zero_upto 1176)
    diagonals-bounded (n ∷ ks) zero = diagonal_bounded n
    diagonals-bounded (n ∷ ks) (suc k) = diagonals-bounded ks k

    -- the diagonal that `falls` compares with its limit, for any k
    pub falls_diagonal : (C k : ℕ) → Upto binary64 1176 (diagonal (get_or (face_counts labels C) k 0) (get_or (patches ps fs labels C) k empty))
    unfolding face_counts patches
    falls_diagonal C k = diagonals-bounded (below C) k
