-- The loop that marks face after face, and the one that sweeps. Assumes nothing.
use mathlib.Core.Path.{◌≡◌, refl, sym, ap, ap₂, ◌∙◌}
use mathlib.Core.Bool.{Bool, true, false, not, ◌&&◌, cond}
use mathlib.Core.List.{List}
use Prim.Native.Nat.{ℕ, ◌+◌, ◌-◌, ◌/◌, ◌%◌, ◌≤◌, ◌<◌}
use native.Mathlib.Omega.{arith}
use native.Mathlib.Numerals.{add-one}
use native.Mathlib.Decide.{dec_lt}
use borrow.Author.Tests.{eq-eqb, ne_eqb, eqb-true}
use lib.Dec.{T, eqb}
use lib.ListN.{length, get_or, set, length-set}
use lib.Seq.{get_or-set_same, get_or-set_other}
use lib.Ieee.{Float}
use Rattle.rules.specs.Lists.{below, filter, count, leave}
use Rattle.rules.specs.Mesh.{Face}
use Rattle.rule_laws.proofs.Lists.{count_below}
use Rattle.rule_laws.proofs.Counting.{count_below_le}
use Rattle.face_words.specs.Words.{stands, straight, viewed, place}
use Rattle.face_words.proofs.Places.{count_places, left_list}
use Rattle.face_words.specs.Views.{Worded, ViewAsks}
use Rattle.entry_search.specs.Choosing.{BestAsks}
use Rattle.searched_marks.specs.Marks.{mark_at, FaceAsks, Plain, MarkAsks, MarkedGives, MarkGives, PassGives, SweepAsks, SweepGives}
use Rattle.searched_marks.proofs.Seeing.{Sight, mark_same}

-- the faces below f are marked as the pass says, the others are as they were
pub record Marked (m : List Face → ℕ → Bool) (xs w₀ w : List ℕ) (n f : ℕ) : Type 0 where
  pub most : f ≤ length w₀
  pub long : length w ≡ length w₀
  pub before : (g : ℕ) → g < f → get_or w g 0 ≡ get_or w₀ g 0 + cond (mark_at m xs w₀ g) 4 0
  pub behind : (g : ℕ) → f ≤ g → get_or w g 0 ≡ get_or w₀ g 0
  pub number : n ≡ count (mark_at m xs w₀) (below f)

module _ (m : List Face → ℕ → Bool) where
  pub begin : {xs w : List ℕ} → Marked m xs w w 0 0
  begin = record { most = omega arith; long = refl; before = λ g h. absurd (omega arith); behind = λ g h. refl; number = unfold count filter below in refl }

  module _ {xs w₀ w : List ℕ} {n f : ℕ} (p : Plain w₀) (v : Marked m xs w₀ w n f) where
    -- marks do not change what is seen
    sight : Sight w₀ w
    sight = record { long = v.long; same = λ g. go g (dec_lt g f) }
      where
        four : (b : Bool) (x : ℕ) → (x + cond b 4 0) % 4 ≡ x % 4
        four true x = omega arith
        four false x = omega arith

        go : (g : ℕ) → Dec (g < f) → get_or w g 0 % 4 ≡ get_or w₀ g 0 % 4
        go g (yes l) = ap (λ x. x % 4) (v.before g l) ∙ four (mark_at m xs w₀ g) (get_or w₀ g 0)
        go g (no l) = ap (λ x. x % 4) (v.behind g (omega arith))

    still_worded : Worded xs w₀ → Worded xs w
    still_worded a = let l = v.long in record { long = omega (arith, a.long); few = omega (arith, a.few) }

    module _ (h : f < length w) where
      pub view_ok : Worded xs w₀ → ViewAsks xs w f
      view_ok a = record { worded = still_worded a; here = h }

      pub face_ok : {ps : List Float} → BestAsks ps xs w₀ → FaceAsks ps xs w f
      face_ok a = record { asks = record { worded = still_worded a.worded; inside = a.inside }; here = h }

      pub mark_ok : MarkAsks w f
      mark_ok = record { here = h; low = let l = v.long in omega (arith, v.behind f (omega arith), p.low f (omega arith)) }

      pub few_yet : n ≤ f
      few_yet = rw v.number (count_below_le (mark_at m xs w₀) f)

      -- one face more
      pub again : {leaves : Bool} → leaves ≡ mark_at m xs w f → {w' : List ℕ} {r : ℕ} → MarkedGives w f leaves w' r → Marked m xs w₀ w' (n + r) (f + 1)
      again {leaves} e {w'} {r} g =
          record {
            most = let l = v.long in omega arith;
            long = ap length g.words ∙ same_long leaves ∙ v.long;
            before = λ j l. ap (λ x. get_or x j 0) g.words ∙ now j (dec_lt j f) l leaves is;
            behind = λ j l. ap (λ x. get_or x j 0) g.words ∙ later j l leaves ∙ v.behind j (omega arith);
            number = rw (add-one f) (ap₂ (λ x y. x + y) v.number (g.number ∙ ap (λ b. cond b 1 0) is) ∙ sym (count_below (mark_at m xs w₀) f));
          }
        where
          is : leaves ≡ mark_at m xs w₀ f
          is = e ∙ mark_same sight m xs f

          same_long : (b : Bool) → length (cond b (set w f (get_or w f 0 + 4)) w) ≡ length w
          same_long true = length-set w f (get_or w f 0 + 4)
          same_long false = refl

          other : (j : ℕ) → (j ≡ f → ⊥) → (b : Bool) → get_or (cond b (set w f (get_or w f 0 + 4)) w) j 0 ≡ get_or w j 0
          other j k true = get_or-set_other w f j (get_or w f 0 + 4) 0 k
          other j k false = refl

          later : (j : ℕ) → f + 1 ≤ j → (b : Bool) → get_or (cond b (set w f (get_or w f 0 + 4)) w) j 0 ≡ get_or w j 0
          later j l b = other j (λ q. absurd (omega arith)) b

          here : (b : Bool) → get_or (cond b (set w f (get_or w f 0 + 4)) w) f 0 ≡ get_or w₀ f 0 + cond b 4 0
          here true = get_or-set_same w f (get_or w f 0 + 4) 0 h ∙ ap (λ x. x + 4) (v.behind f (omega arith))
          here false = v.behind f (omega arith) ∙ omega arith

          now : (j : ℕ) → Dec (j < f) → j < f + 1 → (b : Bool) → b ≡ mark_at m xs w₀ f → get_or (cond b (set w f (get_or w f 0 + 4)) w) j 0 ≡ get_or w₀ j 0 + cond (mark_at m xs w₀ j) 4 0
          now j (yes l) k b q = other j (λ s. absurd (omega arith)) b ∙ v.before j l
          now j (no l) k b q = let s : j ≡ f = omega arith in rw (s, ← q) (here b)

    pub done : length w ≤ f → MarkGives m xs w₀ w n
    unfolding mark_at
    done h =
        let e : f ≡ length w₀ = let l = v.long in omega (arith, v.most) in
        record {
          long = v.long;
          words = λ g l. v.before g (omega arith);
          number = v.number ∙ ap (λ k. count (mark_at m xs w₀) (below k)) e ∙ sym (count_places xs w₀ (m (viewed xs w₀)));
        }

-- ---- one face

module _ {w : List ℕ} {f : ℕ} {leaves : Bool} where
  pub one_marked : leaves ≡ true → MarkedGives w f leaves (set w f (get_or w f 0 + 4)) 1
  one_marked e = record { words = rw e; number = rw e }

  pub one_left : leaves ≡ false → MarkedGives w f leaves w 0
  one_left e = record { words = rw e; number = rw e }

-- ---- the marked ones are gone

-- a word when it was swept
abbrev pub swept : ℕ → ℕ
swept x = cond (eqb (x / 4 % 2) 1) (x - 3) x

-- the words below f are swept, the others are as they were
pub record Swept (w₀ w : List ℕ) (f : ℕ) : Type 0 where
  pub most : f ≤ length w₀
  pub long : length w ≡ length w₀
  pub before : (g : ℕ) → g < f → get_or w g 0 ≡ swept (get_or w₀ g 0)
  pub behind : (g : ℕ) → f ≤ g → get_or w g 0 ≡ get_or w₀ g 0

pub sweep_begin : {w : List ℕ} → Swept w w 0
sweep_begin = record { most = omega arith; long = refl; before = λ g h. absurd (omega arith); behind = λ g h. refl }

module _ {w₀ w : List ℕ} {f : ℕ} (v : Swept w₀ w f) where
  module _ (h : f < length w) where
    pub sweep_skips : (get_or w f 0 / 4 % 2 ≡ 1 → ⊥) → Swept w₀ w (f + 1)
    sweep_skips n =
        record {
          most = let l = v.long in omega arith;
          long = v.long;
          before = λ g l. go g (dec_lt g f) l;
          behind = λ g l. v.behind g (omega arith);
        }
      where
        go : (g : ℕ) → Dec (g < f) → g < f + 1 → get_or w g 0 ≡ swept (get_or w₀ g 0)
        go g (yes l) k = v.before g l
        go g (no l) k =
            let s : g ≡ f = omega arith in
            rw (s, ← (v.behind f (omega arith)), ne_eqb (get_or w f 0 / 4 % 2) 1 n)

    pub sweep_takes : get_or w f 0 / 4 % 2 ≡ 1 → Swept w₀ (set w f (get_or w f 0 - 3)) (f + 1)
    sweep_takes e =
        record {
          most = let l = v.long in omega arith;
          long = length-set w f (get_or w f 0 - 3) ∙ v.long;
          before = λ g l. go g (dec_lt g f) l;
          behind = λ g l. get_or-set_other w f g (get_or w f 0 - 3) 0 (λ q. absurd (omega arith)) ∙ v.behind g (omega arith);
        }
      where
        go : (g : ℕ) → Dec (g < f) → g < f + 1 → get_or (set w f (get_or w f 0 - 3)) g 0 ≡ swept (get_or w₀ g 0)
        go g (yes l) k = get_or-set_other w f g (get_or w f 0 - 3) 0 (λ q. absurd (omega arith)) ∙ v.before g l
        go g (no l) k =
            let s : g ≡ f = omega arith in
            rw s
            (get_or-set_same w f (get_or w f 0 - 3) 0 h
            ∙ sym (ap (λ b. cond b (get_or w f 0 - 3) (get_or w f 0)) (eq-eqb (get_or w f 0 / 4 % 2) 1 e))
            ∙ ap swept (v.behind f (omega arith)))

  pub sweep_done : length w ≤ f → SweepGives w₀ w
  sweep_done h = let l = v.long in record { long = v.long; words = λ g k. v.before g (omega arith) }

-- ---- both together

module _ {m : List Face → ℕ → Bool} {xs w w₁ : List ℕ} {r : ℕ} (p : Plain w) (g : MarkGives m xs w w₁ r) where
  -- a face that is marked stands
  even_if : (b : Bool) (x : ℕ) → x < 4 → (T b → x % 2 ≡ 0) → (x + cond b 4 0 < 8) × (4 ≤ x + cond b 4 0 → (x + cond b 4 0) % 2 ≡ 0)
  even_if true x h e = let k = e tt in (omega arith, λ l. omega arith)
  even_if false x h e = (omega arith, λ l. absurd (omega arith))

  marked_even : (f : ℕ) → T (mark_at m xs w f) → get_or w f 0 % 2 ≡ 0
  unfolding mark_at stands
  marked_even f t = go (eqb (get_or w f 0 % 2) 0) refl t
    where
      go : (b : Bool) → eqb (get_or w f 0 % 2) 0 ≡ b → T (b && m (viewed xs w) (place w f)) → get_or w f 0 % 2 ≡ 0
      go true e t = eqb-true (get_or w f 0 % 2) 0 e
      go false e t = absurd t

  pub sweep_ok : SweepAsks w₁
  sweep_ok =
      let l = g.long in
      record {
        low = λ f h. rw (g.words f (omega arith)) (even_if (mark_at m xs w f) (get_or w f 0) (p.low f (omega arith)) (marked_even f)).0;
        even = λ f h. rw (g.words f (omega arith)) (even_if (mark_at m xs w f) (get_or w f 0) (p.low f (omega arith)) (marked_even f)).1;
      }

  module _ {w' : List ℕ} (s : SweepGives w₁ w') where
    -- a word of both
    pub word_is : (f : ℕ) → f < length w → get_or w' f 0 ≡ get_or w f 0 + cond (mark_at m xs w f) 1 0
    word_is f h =
        s.words f (let l = g.long in omega arith)
        ∙ ap swept (g.words f h)
        ∙ go (mark_at m xs w f) (get_or w f 0) (p.low f h)
      where
        go : (b : Bool) (x : ℕ) → x < 4 → swept (x + cond b 4 0) ≡ x + cond b 1 0
        go true x l = ap (λ c. cond c (x + 4 - 3) (x + 4)) (eq-eqb ((x + 4) / 4 % 2) 1 (omega arith)) ∙ omega arith
        go false x l = ap (λ c. cond c (x + 0 - 3) (x + 0)) (ne_eqb ((x + 0) / 4 % 2) 1 (omega arith))

    pub plain_left : Plain w'
    plain_left =
        record {
          low = λ f h.
              let l : f < length w = (let a = s.long in let b = g.long in omega arith) in
              rw (word_is f l) (go (mark_at m xs w f) (get_or w f 0) (p.low f l) (marked_even f));
        }
      where
        go : (b : Bool) (x : ℕ) → x < 4 → (T b → x % 2 ≡ 0) → x + cond b 1 0 < 4
        go true x h e = let k = e tt in omega arith
        go false x h e = omega arith

    pub list_left : viewed xs w' ≡ leave (m (viewed xs w)) (viewed xs w)
    list_left = left_list xs w w' (m (viewed xs w)) (record { long = s.long ∙ g.long; stay = stay; turned = turned })
      where
        half : (b : Bool) (x : ℕ) → (T b → x % 2 ≡ 0) → (x + cond b 1 0) / 2 % 2 ≡ x / 2 % 2
        half true x e = let k = e tt in let d : (x + 1) / 2 ≡ x / 2 = omega arith in ap (λ y. y % 2) d
        half false x e = omega arith

        odd : (b : Bool) (x : ℕ) → eqb ((x + cond (eqb (x % 2) 0 && b) 1 0) % 2) 0 ≡ (eqb (x % 2) 0 && not b)
        odd b x = go (eqb (x % 2) 0) refl b
          where
            go : (c : Bool) → eqb (x % 2) 0 ≡ c → (d : Bool) → eqb ((x + cond (c && d) 1 0) % 2) 0 ≡ (c && not d)
            go true e true = let k = eqb-true (x % 2) 0 e in ne_eqb ((x + 1) % 2) 0 (omega arith)
            go true e false = let k = eqb-true (x % 2) 0 e in eq-eqb ((x + 0) % 2) 0 (omega arith)
            go false e d = let z : x + 0 ≡ x = omega arith in ap (λ y. eqb (y % 2) 0) z ∙ e

        stay : (f : ℕ) → f < length w → stands w' f ≡ (stands w f && not (m (viewed xs w) (place w f)))
        stay f h = unfold stands mark_at in (ap (λ x. eqb (x % 2) 0) (word_is f h) ∙ odd (m (viewed xs w) (place w f)) (get_or w f 0))

        turned : (f : ℕ) → f < length w → straight w' f ≡ straight w f
        turned f h = unfold straight in (ap (λ x. eqb x 0) (ap (λ x. x / 2 % 2) (word_is f h) ∙ half (mark_at m xs w f) (get_or w f 0) (marked_even f)))

-- words of faces that are gone or not, and nothing else, stay such words
pub low_left : {m : List Face → ℕ → Bool} {xs w w' : List ℕ} {r : ℕ} → PassGives m xs w w' r → ((f : ℕ) → f < length w → get_or w f 0 < 2) → (f : ℕ) → f < length w' → get_or w' f 0 < 2
unfolding mark_at stands
low_left {m} {xs} {w} {w'} g low f h =
    let l = g.long in
    let b = low f (omega arith) in
    rw (g.words f (omega arith)) (go (eqb (get_or w f 0 % 2) 0) refl (m (viewed xs w) (place w f)) b)
  where
    go : (c : Bool) → eqb (get_or w f 0 % 2) 0 ≡ c → (d : Bool) → get_or w f 0 < 2 → get_or w f 0 + cond (c && d) 1 0 < 2
    go true e true b = let k = eqb-true (get_or w f 0 % 2) 0 e in omega arith
    go true e false b = omega arith
    go false e d b = omega arith

-- a pass is both
pub passed : {m : List Face → ℕ → Bool} {xs w w₁ : List ℕ} {r : ℕ} → Plain w → MarkGives m xs w w₁ r → {w' : List ℕ} → SweepGives w₁ w' → PassGives m xs w w' r
passed p g s = record { long = s.long ∙ g.long; plain = plain_left p g s; words = word_is p g s; list = list_left p g s; number = g.number }
