-- One face and its word while a group is searched: whether it is met, and that waiting changes nothing else. Assumes nothing.
use mathlib.Core.Path.{◌≡◌, refl, sym, ap, ◌∙◌, subst}
use mathlib.Core.Bool.{Bool, true, false, not, ◌&&◌, ◌||◌, cond}
use mathlib.Core.List.{List}
use Prim.Native.Nat.{ℕ, ◌+◌, ◌/◌, ◌%◌, ◌≤◌}
use native.Mathlib.Omega.{arith}
use borrow.Author.Tests.{eq-eqb, ne_eqb}
use lib.Dec.{T, eqb, eqb→eq}
use lib.ListN.{get_or}
use Rattle.rules.specs.Lists.{any, has}
use Rattle.rule_laws.proofs.Tests.{and_elim}
use Rattle.rules.specs.Mesh.{Face, face, faces_of, corners, exchanged}
use Rattle.rules.specs.Pass5.{share}
use Rattle.face_words.specs.Words.{stands, straight, view}
use Rattle.searched_fans.specs.Reaching.{state, meets, joins, flags_of}

-- ---- three corners

-- an exchange does not change which corners a face has
pub has_view : (xs w : List ℕ) (g p : ℕ) → has p (corners (view xs w g)) ≡ has p (corners (face (faces_of xs) g))
unfolding view exchanged has any
has_view xs w g p = go (straight w g)
  where
    swap : (a b c : Bool) → (a || (c || (b || false))) ≡ (a || (b || (c || false)))
    swap true b c = refl
    swap false true true = refl
    swap false true false = refl
    swap false false true = refl
    swap false false false = refl

    go : (b : Bool) → has p (corners (cond b (face (faces_of xs) g) (exchanged (face (faces_of xs) g)))) ≡ has p (corners (face (faces_of xs) g))
    go true = refl
    go false = swap (eqb p (face (faces_of xs) g).a) (eqb p (face (faces_of xs) g).b) (eqb p (face (faces_of xs) g).c)

-- ---- a word

-- the face that a word shows
abbrev pub seen : List ℕ → ℕ → ℕ → Face
seen xs y g = cond (eqb (y / 2 % 2) 0) (face (faces_of xs) g) (exchanged (face (faces_of xs) g))

-- it is the view
pub view_seen : (xs w : List ℕ) (g : ℕ) → view xs w g ≡ seen xs (get_or w g 0) g
unfolding view straight
view_seen xs w g = refl

-- words that differ in their states alone
pub record Alike (x y : ℕ) : Type 0 where
  pub gone : x % 2 ≡ y % 2
  pub turned : x / 2 % 2 ≡ y / 2 % 2

-- of lists
pub stands_alike : (w w' : List ℕ) (g : ℕ) → Alike (get_or w g 0) (get_or w' g 0) → stands w g ≡ stands w' g
unfolding stands
stands_alike w w' g h = ap (λ (n : ℕ). eqb n 0) h.gone

pub view_alike : (xs w w' : List ℕ) (g : ℕ) → Alike (get_or w g 0) (get_or w' g 0) → view xs w g ≡ view xs w' g
unfolding view straight
view_alike xs w w' g h = ap (λ (n : ℕ). cond (eqb n 0) (face (faces_of xs) g) (exchanged (face (faces_of xs) g))) h.turned

-- the same word meets alike
pub meets_same : (xs w w' : List ℕ) (v x g : ℕ) → get_or w g 0 ≡ get_or w' g 0 → meets xs w v x g ≡ meets xs w' v x g
unfolding meets state stands view straight
meets_same xs w w' v x g e = rw e

-- ---- what a face is when it was met, or is not

-- it was met
pub was_met : (xs w : List ℕ) (v x g : ℕ) → (get_or w g 0 / 4 % 4 ≡ 0 → ⊥) → false ≡ meets xs w v x g
unfolding meets state
was_met xs w v x g n = rw (ne_eqb (get_or w g 0 / 4 % 4) 0 n)

-- it is gone
pub is_gone : (xs w : List ℕ) (v x g : ℕ) → stands w g ≡ false → false ≡ meets xs w v x g
unfolding meets
is_gone xs w v x g e = rw e (none (eqb (state w g) 0))
  where
    none : (b : Bool) → false ≡ (b && false)
    none true = refl
    none false = refl

-- it has not v
pub has_not : (xs w : List ℕ) (v x g : ℕ) → has v (corners (view xs w g)) ≡ false → false ≡ meets xs w v x g
unfolding meets
has_not xs w v x g e = rw e (none (eqb (state w g) 0) (stands w g))
  where
    none : (b c : Bool) → false ≡ (b && (c && false))
    none true true = refl
    none true false = refl
    none false c = refl

-- it has v
pub has_both : (xs w : List ℕ) (v x g : ℕ) → (get_or w g 0 / 4 % 4 ≡ 0) → stands w g ≡ true → has v (corners (view xs w g)) ≡ true → has x (corners (view xs w g)) ≡ meets xs w v x g
unfolding meets state
has_both xs w v x g z s e = rw (eq-eqb (get_or w g 0 / 4 % 4) 0 z, s, e)

-- what is not a candidate is not met
pub no_candidate : (xs w : List ℕ) (v x g : ℕ) → (has v (corners (face (faces_of xs) g)) && has x (corners (face (faces_of xs) g))) ≡ false → meets xs w v x g ≡ false
unfolding meets
no_candidate xs w v x g e = rw (has_view xs w g v, has_view xs w g x, e) (none (eqb (state w g) 0) (stands w g))
  where
    none : (b c : Bool) → (b && (c && false)) ≡ false
    none true true = refl
    none true false = refl
    none false c = refl

-- ---- met by one point after another

module _ (xs : List ℕ) (g v : ℕ) where
  -- face g, under the word y, stands, was not met, and has v and what q says of it
  abbrev met : (Face → Bool) → ℕ → Bool
  met q y = eqb (y / 4 % 4) 0 && (eqb (y % 2) 0 && (has v (corners (seen xs y g)) && q (seen xs y g)))

  -- the word then
  abbrev pub next : (Face → Bool) → ℕ → ℕ
  next q y = cond (met q y) (y + 4) y

  -- a face that waits is not met again
  waits_on : (q : Face → Bool) (y : ℕ) → y / 4 % 4 ≡ 0 → next q (y + 4) ≡ y + 4
  waits_on q y z = ap (λ (b : Bool). cond (b && (eqb ((y + 4) % 2) 0 && (has v (corners (seen xs (y + 4) g)) && q (seen xs (y + 4) g)))) (y + 4 + 4) (y + 4)) (ne_eqb ((y + 4) / 4 % 4) 0 (λ e. absurd (omega arith)))

  -- nor is one that was gone through
  pub gone_through : (q : Face → Bool) (y : ℕ) → y / 4 % 4 ≡ 1 → next q (y + 4) ≡ y + 4
  gone_through q y z = ap (λ (b : Bool). cond (b && (eqb ((y + 4) % 2) 0 && (has v (corners (seen xs (y + 4) g)) && q (seen xs (y + 4) g)))) (y + 4 + 4) (y + 4)) (ne_eqb ((y + 4) / 4 % 4) 0 (λ e. absurd (omega arith)))

  -- two points, one after the other
  pub next_twice : (p q : Face → Bool) (y : ℕ) → next q (next p y) ≡ next (λ f. p f || q f) y
  next_twice p q y = go (met p y) refl ∙ ap (λ (b : Bool). cond b (y + 4) y) (sym (parts (eqb (y / 4 % 4) 0) (eqb (y % 2) 0) (has v (corners (seen xs y g))) (p (seen xs y g)) (q (seen xs y g))))
    where
      parts : (s t h a b : Bool) → (s && (t && (h && (a || b)))) ≡ ((s && (t && (h && a))) || (s && (t && (h && b))))
      parts false t h a b = refl
      parts true false h a b = refl
      parts true true false a b = refl
      parts true true true a b = refl

      fresh : met p y ≡ true → y / 4 % 4 ≡ 0
      fresh e = eqb→eq (y / 4 % 4) 0 (and_elim (eqb (y / 4 % 4) 0) (eqb (y % 2) 0 && (has v (corners (seen xs y g)) && p (seen xs y g))) (subst T (sym e) tt)).0

      go : (b : Bool) → met p y ≡ b → next q (next p y) ≡ cond (met p y || met q y) (y + 4) y
      go true e = ap (λ (b : Bool). next q (cond b (y + 4) y)) e ∙ waits_on q y (fresh e) ∙ ap (λ (b : Bool). cond (b || met q y) (y + 4) y) (sym e)
      go false e = ap (λ (b : Bool). next q (cond b (y + 4) y)) e ∙ ap (λ (b : Bool). cond (b || met q y) (y + 4) y) (sym e)

  -- both words show the same
  pub next_alike : (q : Face → Bool) (y : ℕ) → Alike (next q y) y
  next_alike q y = go (met q y)
    where
      go : (b : Bool) → Alike (cond b (y + 4) y) y
      go true = record { gone = omega arith; turned = omega arith }
      go false = record { gone = refl; turned = refl }

-- another point than v that a face has
abbrev pub other : ℕ → ℕ → Face → Bool
other v x f = not (eqb x v) && has x (corners f)

-- crossing at one point, as a word
pub cross_word : (xs w : List ℕ) (v x g : ℕ) → cond (not (eqb x v) && meets xs w v x g) (get_or w g 0 + 4) (get_or w g 0) ≡ next xs g v (other v x) (get_or w g 0)
unfolding meets state stands view straight
cross_word xs w v x g =
    ap (λ (b : Bool). cond b (get_or w g 0 + 4) (get_or w g 0))
    (shift (not (eqb x v)) (eqb (get_or w g 0 / 4 % 4) 0) (eqb (get_or w g 0 % 2) 0) (has v (corners (seen xs (get_or w g 0) g))) (has x (corners (seen xs (get_or w g 0) g))))
  where
    shift : (n s t h b : Bool) → (n && (s && (t && (h && b)))) ≡ (s && (t && (h && (n && b))))
    shift true s t h b = refl
    shift false true true true b = refl
    shift false true true false b = refl
    shift false true false h b = refl
    shift false false t h b = refl

-- going through face i: all three points
pub joins_word : (xs w : List ℕ) (v i g : ℕ) → next xs g v (λ f. share v (view xs w i) f) (get_or w g 0) ≡ cond (joins xs w v i g) (get_or w g 0 + 4) (get_or w g 0)
unfolding joins state stands view straight
joins_word xs w v i g = refl

-- the points of a face, one after the other
pub three_points : (xs : List ℕ) (g v : ℕ) (f : Face) (y : ℕ)
    → next xs g v (other v f.c) (next xs g v (other v f.b) (next xs g v (other v f.a) y)) ≡ next xs g v (share v f) y
unfolding share any
three_points xs g v f y =
    ap (next xs g v (other v f.c)) (next_twice xs g v (other v f.a) (other v f.b) y)
    ∙ next_twice xs g v (λ h. other v f.a h || other v f.b h) (other v f.c) y
    ∙ ap (λ (q : Face → Bool). next xs g v q y) (λ j h. regroup (other v f.a h) (other v f.b h) (other v f.c h) j)
  where
    regroup : (a b c : Bool) → ((a || b) || c) ≡ (a || (b || (c || false)))
    regroup true b c = refl
    regroup false true c = refl
    regroup false false true = refl
    regroup false false false = refl

-- ---- tests of a flag

-- not so
pub off : (b : Bool) → not b ≡ true → b ≡ false
off true e = sym e
off false e = refl

-- so
pub on : (b : Bool) → not b ≡ false → b ≡ true
on true e = refl
on false e = sym e

-- ---- flags

-- a flag is at most its bit
pub flag_most : (b : Bool) (n : ℕ) → cond b n 0 ≤ n
flag_most true n = omega arith
flag_most false n = omega arith

-- three of them
pub flags_sum : (a b c v : ℕ) {p q r : ℕ} → p ≡ cond (eqb a v) 16 0 → q ≡ cond (eqb b v) 32 0 → r ≡ cond (eqb c v) 64 0 → p + q + r ≡ flags_of a b c v
unfolding flags_of
flags_sum a b c v e f g = rw (e, f, g)
