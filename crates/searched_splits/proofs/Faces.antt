-- Face after face: its three corners, and what is told when all faces have been gone through. Assumes nothing.
use mathlib.Core.Path.{◌≡◌, refl, sym, ap, ap₂, ◌∙◌, subst}
use mathlib.Core.Bool.{Bool, true, false, ◌&&◌, cond}
use mathlib.Core.List.{List}
use Prim.Native.Nat.{ℕ, suc, ◌+◌, ◌*◌, ◌≤◌, ◌<◌}
use native.Mathlib.Omega.{arith}
use native.Mathlib.Numerals.{add-one}
use borrow.Author.Tests.{le-ltb}
use lib.Dec.{T}
use lib.ListN.{length, get_or}
use Rattle.rules.specs.Lists.{below, filter, count, any, each}
use Rattle.rules.specs.Mesh.{Face}
use Rattle.rules.specs.State.{State}
use Rattle.rules.specs.Pass5.{pass5}
use Rattle.rules.specs.Mending.{line_text, lines5}
use Rattle.rule_laws.proofs.Once.{Inside}
use Rattle.rule_laws.proofs.Counting.{count_next, count_stay}
use Rattle.fan_laws.specs.Sums.{sum_of, field}
use Rattle.fan_laws.specs.Opening.{opens, weight}
use Rattle.fan_laws.proofs.Lengths.{splits_open, split_length}
use Rattle.splitting.proofs.Goals.{points_many, base_least}
use Rattle.face_words.specs.Words.{stands, viewed, place}
use Rattle.face_words.proofs.Places.{viewed_length}
use Rattle.searched_fans.proofs.Meeting.{stands_alike}
use Rattle.searched_splits.specs.Splits.{done_to, open_to, word_to, Stage, Counted, SplitAsks, SplitGives, CornerAsks, CornerGives, FaceAsks, FaceGives}
use Rattle.searched_splits.proofs.Flags.{three_none, stage_alike}

-- ---- the three corners of a face

module _ {xs w : List ℕ} {f P splits₀ bytes₀ : ℕ} (q : FaceAsks xs w f P splits₀ bytes₀) where
  -- the first
  pub corner_zero : CornerAsks xs w f 0 P splits₀ bytes₀
  corner_zero =
      let z : 3 * place q.base f ≡ 3 * place q.base f + 0 = omega arith in
      record {
        base = q.base;
        split = q.split;
        here = q.here;
        standing = q.standing;
        corner = omega arith;
        stage = subst (λ E. Stage xs q.base E w) z q.stage;
        counted = subst (λ E. Counted (viewed xs q.base) P E splits₀ bytes₀) z q.counted;
      }

  module _ {w₁ : List ℕ} {splits₁ bytes₁ : ℕ} (one_is : CornerGives corner_zero w₁ splits₁ bytes₁) where
    -- the second
    pub corner_one : CornerAsks xs w₁ f 1 P splits₁ bytes₁
    unfolding corner_zero
    corner_one =
        let z : suc (3 * place q.base f + 0) ≡ 3 * place q.base f + 1 = omega arith in
        record {
          base = q.base;
          split = q.split;
          here = q.here;
          standing = q.standing;
          corner = omega arith;
          stage = subst (λ E. Stage xs q.base E w₁) z one_is.stage;
          counted = subst (λ E. Counted (viewed xs q.base) P E splits₁ bytes₁) z one_is.counted;
        }

    module _ {w₂ : List ℕ} {splits₂ bytes₂ : ℕ} (two_is : CornerGives corner_one w₂ splits₂ bytes₂) where
      -- the third
      pub corner_two : CornerAsks xs w₂ f 2 P splits₂ bytes₂
      unfolding corner_one
      corner_two =
          let z : suc (3 * place q.base f + 1) ≡ 3 * place q.base f + 2 = omega arith in
          record {
            base = q.base;
            split = q.split;
            here = q.here;
            standing = q.standing;
            corner = omega arith;
            stage = subst (λ E. Stage xs q.base E w₂) z two_is.stage;
            counted = subst (λ E. Counted (viewed xs q.base) P E splits₂ bytes₂) z two_is.counted;
          }

      -- all three
      pub face_done : {w₃ : List ℕ} {splits₃ bytes₃ : ℕ} → CornerGives corner_two w₃ splits₃ bytes₃ → FaceGives q w₃ splits₃ bytes₃
      unfolding corner_two
      face_done {w₃} {splits₃} {bytes₃} c =
          let z : suc (3 * place q.base f + 2) ≡ 3 * place q.base f + 3 = omega arith in
          record { stage = subst (λ E. Stage xs q.base E w₃) z c.stage; counted = subst (λ E. Counted (viewed xs q.base) P E splits₃ bytes₃) z c.counted }

-- ---- all faces

-- before corner 0 there are no flags
no_flags : (fs : List Face) (p : ℕ) → word_to fs 0 p ≡ 0
unfolding word_to
no_flags fs p = omega (arith, three_none (done_to fs 0) p (λ k l. not_done (3 * p + k)), three_none (open_to fs 0) p (λ k l. not_open (3 * p + k)))
  where
    not_done : (id : ℕ) → done_to fs 0 id ≡ false
    not_done id = unfold done_to below any in refl

    not_open : (id : ℕ) → open_to fs 0 id ≡ false
    not_open id = unfold open_to in (ap (λ (b : Bool). b && opens fs id) (le-ltb id 0 (omega arith)))

-- the faces before f have been gone through
pub record Gone (xs w₀ : List ℕ) (P : ℕ) (w : List ℕ) (splits₀ bytes₀ f : ℕ) : Type 0 where
  pub most : f ≤ length w₀
  pub stage : Stage xs w₀ (3 * place w₀ f) w
  pub counted : Counted (viewed xs w₀) P (3 * place w₀ f) splits₀ bytes₀

module _ {xs w₀ : List ℕ} {P : ℕ} (p : SplitAsks xs w₀ P) where
  -- nothing is flagged at first
  pub begin : Gone xs w₀ P w₀ 0 0 0
  begin =
      record {
        most = omega arith;
        stage = subst (λ E. Stage xs w₀ E w₀) (sym none) (record { long = refl; at = λ g h. blank g (stands w₀ g) });
        counted = subst (λ E. Counted (viewed xs w₀) P E 0 0) (sym none) (record { many = unfold count filter below in refl; sum = unfold below filter sum_of in (omega arith); few = omega arith });
      }
    where
      none : 3 * place w₀ 0 ≡ 0
      none = unfold count filter below in refl

      blank : (g : ℕ) (b : Bool) → get_or w₀ g 0 ≡ get_or w₀ g 0 + cond b (word_to (viewed xs w₀) 0 (place w₀ g)) 0
      blank g true = omega (arith, no_flags (viewed xs w₀) (place w₀ g))
      blank g false = omega arith

  module _ {w : List ℕ} {splits₀ bytes₀ f : ℕ} (i : Gone xs w₀ P w splits₀ bytes₀ f) (h : f < length w) where
    -- it is one of the faces
    inside : f < length w₀
    inside = omega (arith, i.stage.long)

    -- it stands if it stood
    same_stands : stands w f ≡ stands w₀ f
    same_stands = stands_alike w w₀ f (stage_alike p.plain i.stage f inside)

    -- its corners can be gone through
    pub ask : stands w f ≡ true → FaceAsks xs w f P splits₀ bytes₀
    ask e = record { base = w₀; split = p; here = inside; standing = subst T (sym (sym same_stands ∙ e)) tt; stage = i.stage; counted = i.counted }

    -- they have been
    pub face_more : (e : stands w f ≡ true) {w' : List ℕ} {splits₁ bytes₁ : ℕ} → FaceGives (ask e) w' splits₁ bytes₁ → Gone xs w₀ P w' splits₁ bytes₁ (f + 1)
    unfolding ask
    face_more e {w'} {splits₁} {bytes₁} q =
        let n : 3 * place w₀ f + 3 ≡ 3 * place w₀ (f + 1) = omega (arith, count_next (stands w₀) f (subst T (sym (sym same_stands ∙ e)) tt), ap (place w₀) (add-one f)) in
        record { most = omega (arith, inside); stage = subst (λ E. Stage xs w₀ E w') n q.stage; counted = subst (λ E. Counted (viewed xs w₀) P E splits₁ bytes₁) n q.counted }

    -- a face that is gone has no corners
    pub face_none : stands w f ≡ false → Gone xs w₀ P w splits₀ bytes₀ (f + 1)
    face_none e =
        let n : 3 * place w₀ f ≡ 3 * place w₀ (f + 1) = omega (arith, count_stay (stands w₀) f (sym same_stands ∙ e), ap (place w₀) (add-one f)) in
        record { most = omega (arith, inside); stage = subst (λ E. Stage xs w₀ E w) n i.stage; counted = subst (λ E. Counted (viewed xs w₀) P E splits₀ bytes₀) n i.counted }

  -- in the end
  pub done : {w : List ℕ} {splits₀ bytes₀ f : ℕ} → Gone xs w₀ P w splits₀ bytes₀ f → length w ≤ f → SplitGives xs w₀ P w splits₀ bytes₀
  done {w} {splits₀} {bytes₀} {f} i h =
      record {
        stage = subst (λ E. Stage xs w₀ E w) ends i.stage;
        many = λ m e l inside. points m e l inside;
        told = λ m e l inside. text m e l inside;
      }
    where
      ends : 3 * place w₀ f ≡ 3 * length (viewed xs w₀)
      ends = let e : f ≡ length w₀ = omega (arith, i.most, i.stage.long) in omega (arith, viewed_length xs w₀, ap (place w₀) e)

      counted : Counted (viewed xs w₀) P (3 * length (viewed xs w₀)) splits₀ bytes₀
      counted = subst (λ E. Counted (viewed xs w₀) P E splits₀ bytes₀) ends i.counted

      within : (m : State) → m.faces ≡ viewed xs w₀ → length m.points ≡ P → Inside P (viewed xs w₀) → Inside (length m.points) m.faces
      within m e l inside = subst (λ k. Inside k m.faces) (sym l) (subst (λ fs. Inside P fs) (sym e) inside)

      points : (m : State) → m.faces ≡ viewed xs w₀ → length m.points ≡ P → Inside P (viewed xs w₀) → length (pass5 m).points ≡ P + splits₀
      points m e l inside =
          let s = splits_open m (within m e l inside) in
          let c : count (opens m.faces) (below (3 * length m.faces)) ≡ splits₀ = ap (λ fs. count (opens fs) (below (3 * length fs))) e ∙ sym counted.many in
          omega (arith, s, points_many m (within m e l inside), base_least m.faces (length m.points) (length m.points))

      text : (m : State) → m.faces ≡ viewed xs w₀ → length m.points ≡ P → Inside P (viewed xs w₀) → bytes₀ ≡ length (each line_text (lines5 m))
      text m e l inside =
          counted.sum
          ∙ ap (λ k. sum_of (weight (viewed xs w₀)) (filter (opens (viewed xs w₀)) (below (3 * length (viewed xs w₀)))) + sum_of (λ j. field (P + j)) (below k)) counted.many
          ∙ ap₂ (λ (fs : List Face) (Q : ℕ). sum_of (weight fs) (filter (opens fs) (below (3 * length fs))) + sum_of (λ j. field (Q + j)) (below (count (opens fs) (below (3 * length fs))))) (sym e) (sym l)
          ∙ sym (split_length m (within m e l inside))
