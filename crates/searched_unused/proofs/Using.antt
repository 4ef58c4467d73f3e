-- The search for a face that stands and has a point: a face that the index passes over has it not. Assumes nothing.
use mathlib.Core.Path.{◌≡◌, refl, sym, ap, ◌∙◌, subst}
use mathlib.Core.Bool.{Bool, true, false, ◌&&◌}
use mathlib.Core.List.{List}
use Prim.Native.Nat.{ℕ, ◌+◌, ◌≤◌, ◌<◌}
use native.Mathlib.Omega.{arith}
use native.Mathlib.Decide.{dec_lt, ℕ_discrete}
use lib.Dec.{T}
use lib.Ieee.Bits.{is_true}
use lib.ListN.{length}
use Rattle.rules.specs.Lists.{below, any, has}
use Rattle.rules.specs.Mesh.{face, faces_of, corners}
use Rattle.rules.specs.Pass6.{used}
use Rattle.rule_laws.proofs.Members.{any_intro, any_mem, mem_below, below_mem}
use Rattle.face_words.specs.Words.{stands, view, viewed}
use Rattle.face_words.specs.Views.{Worded}
use Rattle.face_words.proofs.Places.{any_viewed}
use Rattle.face_index.specs.Index.{joins, CandidateAsks, CandidateGives}
use Rattle.entry_search.proofs.Entries.{view_has}
use Rattle.searched_unused.specs.Unused.{holds_at}

-- ---- one face

and_self : (b : Bool) → (b && b) ≡ b
and_self true = refl
and_self false = refl

joins_has : (xs w : List ℕ) (v g : ℕ) → joins xs v v g ≡ has v (corners (view xs w g))
unfolding joins
joins_has xs w v g = and_self (has v (corners (face (faces_of xs) g))) ∙ sym (view_has xs w g v)

module _ (xs w : List ℕ) (v g : ℕ) {r : Bool} (e : r ≡ stands w g) where
  pub held : r ≡ true → {q : Bool} → q ≡ joins xs v v g → q ≡ holds_at xs w v g
  unfolding holds_at
  held t s = s ∙ joins_has xs w v g ∙ rw (← e, t)

  pub gone : r ≡ false → false ≡ holds_at xs w v g
  unfolding holds_at
  gone n = rw (← e, n)

-- a face without the corner does not hold it
none_joins : (xs w : List ℕ) (v g : ℕ) → joins xs v v g ≡ false → holds_at xs w v g ≡ false
unfolding holds_at
none_joins xs w v g e = ap (λ b. stands w g && b) (sym (joins_has xs w v g) ∙ e) ∙ never (stands w g)
  where
    never : (b : Bool) → (b && false) ≡ false
    never true = refl
    never false = refl

-- ---- all faces

-- a point is used by a face that holds it
pub used_holds : (xs w : List ℕ) (v : ℕ) → used (viewed xs w) v ≡ any (holds_at xs w v) (below (length w))
unfolding used holds_at
used_holds xs w v = any_viewed xs w (λ f. has v (corners f))

-- none of the faces that were passed holds it
pub record NoneYet (xs w : List ℕ) (v g : ℕ) : Type 0 where
  pub most : g ≤ length w
  pub none : (j : ℕ) → j < g → holds_at xs w v j ≡ false

pub candidate_ok : {xs w : List ℕ} → Worded xs w → (f : ℕ) → f ≤ length w → CandidateAsks xs f
candidate_ok p f h = record { whole = omega (arith, p.long); most = omega (arith, p.long) }

module _ {xs w : List ℕ} (p : Worded xs w) (v : ℕ) where
  pub none_begin : {r : ℕ} → CandidateGives xs v v 0 r → NoneYet xs w v r
  none_begin g = record { most = omega (arith, p.long, g.most); none = λ j h. none_joins xs w v j (g.none j (omega arith) h) }

  module _ {g : ℕ} (n : NoneYet xs w v g) where
    pub none_again : {q : Bool} → q ≡ holds_at xs w v g → q ≡ false → {r : ℕ} → CandidateGives xs v v (g + 1) r → NoneYet xs w v r
    none_again {q} e f {r} c = record { most = omega (arith, p.long, c.most); none = λ j h. go j h (dec_lt j g) (ℕ_discrete j g) }
      where
        go : (j : ℕ) → j < r → Dec (j < g) → Dec (j ≡ g) → holds_at xs w v j ≡ false
        go j h (yes l) d = n.none j l
        go j h (no l) (yes s) = rw s (sym e ∙ f)
        go j h (no l) (no s) = none_joins xs w v j (c.none j (omega arith) h)

    pub none_done : length w ≤ g → false ≡ used (viewed xs w) v
    none_done h = sym (used_holds xs w v ∙ go (any (holds_at xs w v) (below (length w))) refl)
      where
        go : (b : Bool) → any (holds_at xs w v) (below (length w)) ≡ b → b ≡ false
        go false e = refl
        go true e =
            let m = any_mem (holds_at xs w v) (below (length w)) (subst T (sym e) tt) in
            absurd (subst T (n.none m.0 (omega (arith, below_mem m.0 (length w) m.1))) m.2)

  pub found : {g : ℕ} → g < length w → {q : Bool} → q ≡ holds_at xs w v g → q ≡ true → true ≡ used (viewed xs w) v
  found {g} h e t = sym (used_holds xs w v ∙ is_true (any (holds_at xs w v) (below (length w))) (any_intro (holds_at xs w v) g (below (length w)) (mem_below g (length w) h) (subst T (sym (sym e ∙ t)) tt)))
