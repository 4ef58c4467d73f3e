-- What is read of one face. Assumes nothing.
use mathlib.Core.Path.{◌≡◌, refl, sym, ap, ◌∙◌, subst}
use mathlib.Core.Bool.{Bool, true, false, ◌&&◌, ◌||◌, cond}
use mathlib.Core.List.{List, [], ◌∷◌, ◌++◌}
use Prim.Native.Nat.{ℕ, zero, suc, ◌+◌, ◌≤◌, ◌<◌}
use native.Mathlib.Omega.{arith}
use native.Mathlib.Decide.{dec_lt, ℕ_discrete}
use lib.Dec.{T, eqb}
use lib.Ieee.Bits.{is_true}
use lib.ListN.{get_or}
use Rattle.rules.specs.Lists.{below, any, has}
use Rattle.rules.specs.Mesh.{Face, face, faces_of, corners}
use Rattle.rule_laws.proofs.Members.{any_intro, any_mem, mem_below, below_mem}
use Rattle.face_words.specs.Words.{stands, view}
use Rattle.face_index.specs.Index.{joins, CandidateAsks, CandidateGives}
use Rattle.entry_search.proofs.Entries.{view_has}
use Rattle.searched_splits.specs.Splits.{has_point, met_before, bit_of, pick_of, HasAsks}

-- ---- one of three by its number

-- corner k of a face
pub corner_picked : (g : Face) (k : ℕ) → k < 3 → get_or (corners g) k 0 ≡ pick_of g.a g.b g.c k
unfolding pick_of
corner_picked g zero h = refl
corner_picked g (suc zero) h = refl
corner_picked g (suc (suc zero)) h = refl
corner_picked g (suc (suc (suc k))) h = absurd (omega arith)

-- a flag is no zero
pub bit_some : (k : ℕ) → 0 < bit_of k
unfolding bit_of
bit_some k = go (eqb k 0) (eqb k 1)
  where
    go : (a b : Bool) → 0 < cond a 16 (cond b 32 64)
    go true b = omega arith
    go false true = omega arith
    go false false = omega arith

-- ---- a face that has the point

-- it is gone
pub gone_has : (xs w : List ℕ) (v g : ℕ) → stands w g ≡ false → false ≡ has_point xs w v g
unfolding has_point
gone_has xs w v g e = rw e

-- it stands
pub stands_has : (xs w : List ℕ) (v g : ℕ) {b : Bool} → stands w g ≡ true → b ≡ has v (corners (view xs w g)) → b ≡ has_point xs w v g
unfolding has_point
stands_has xs w v g s e = rw (s, e)

-- ---- numbers in order

-- one list after another
any_append : (p : ℕ → Bool) (xs : List ℕ) (n : ℕ) → any p (xs ++ (n ∷ [])) ≡ (any p xs || p n)
unfolding any
any_append p [] n = last (p n)
  where
    last : (b : Bool) → (b || false) ≡ b
    last true = refl
    last false = refl
any_append p (x ∷ xs) n = ap (λ (b : Bool). p x || b) (any_append p xs n) ∙ step (p x) (any p xs) (p n)
  where
    step : (a b c : Bool) → (a || (b || c)) ≡ ((a || b) || c)
    step true b c = refl
    step false b c = refl

-- one more
pub any_last : (p : ℕ → Bool) (n : ℕ) → any p (below (suc n)) ≡ (any p (below n) || p n)
unfolding below
any_last p n = any_append p (below n) n

-- ---- all faces before f

and_self : (b : Bool) → (b && b) ≡ b
and_self true = refl
and_self false = refl

never : (b : Bool) → (b && false) ≡ false
never true = refl
never false = refl

-- a face that the index passes over has it not
passed_over : (xs w : List ℕ) (v g : ℕ) → joins xs v v g ≡ false → has_point xs w v g ≡ false
unfolding has_point joins
passed_over xs w v g e = ap (λ b. stands w g && b) (view_has xs w g v ∙ sym (and_self (has v (corners (face (faces_of xs) g)))) ∙ e) ∙ never (stands w g)

-- none so far
pub record None (xs w : List ℕ) (v g : ℕ) : Type 0 where
  pub none : (j : ℕ) → j < g → has_point xs w v j ≡ false

-- a face is searched
pub ask : {xs w : List ℕ} {f g : ℕ} → HasAsks xs w f → g < f → HasAsks xs w g
ask p h = record { worded = p.worded; here = omega (arith, p.here) }

-- and so is the next one
pub next_ask : {xs w : List ℕ} {f : ℕ} → HasAsks xs w f → (g : ℕ) → g ≤ f → CandidateAsks xs g
next_ask p g h = record { whole = omega (arith, p.worded.long); most = omega (arith, p.worded.long, p.here) }

-- at first
pub begin : {xs w : List ℕ} {v r : ℕ} → CandidateGives xs v v 0 r → None xs w v r
begin {xs} {w} {v} c = record { none = λ j h. passed_over xs w v j (c.none j (omega arith) h) }

-- it has not
pub again : {xs w : List ℕ} {v g r : ℕ} → None xs w v g → has_point xs w v g ≡ false → CandidateGives xs v v (g + 1) r → None xs w v r
again {xs} {w} {v} {g} {r} i e c = record { none = λ j h. go j h (dec_lt j g) (ℕ_discrete j g) }
  where
    go : (j : ℕ) → j < r → Dec (j < g) → Dec (j ≡ g) → has_point xs w v j ≡ false
    go j h (yes l) d = i.none j l
    go j h (no l) (yes s) = rw s e
    go j h (no l) (no s) = passed_over xs w v j (c.none j (omega arith) h)

-- it has
pub hit : (xs w : List ℕ) (v f g : ℕ) → g < f → has_point xs w v g ≡ true → true ≡ met_before xs w v f
unfolding met_before
hit xs w v f g h e = sym (is_true (any (has_point xs w v) (below f)) (any_intro (has_point xs w v) g (below f) (mem_below g f h) (subst T (sym e) tt)))

-- none has
pub done : {xs w : List ℕ} {v f g : ℕ} → None xs w v g → f ≤ g → false ≡ met_before xs w v f
unfolding met_before
done {xs} {w} {v} {f} {g} i h = go (any (has_point xs w v) (below f)) refl
  where
    go : (b : Bool) → any (has_point xs w v) (below f) ≡ b → false ≡ b
    go false e = refl
    go true e =
        let m = any_mem (has_point xs w v) (below f) (subst T (sym e) tt) in
        absurd (subst T (i.none m.0 (omega (arith, below_mem m.0 f m.1))) m.2)
