-- Going through one face: it is crossed at each of its points. Assumes nothing.
use mathlib.Core.Path.{◌≡◌, ap, ◌∙◌}
use mathlib.Core.Bool.{Bool, true, false, not, ◌&&◌, cond}
use mathlib.Core.List.{List}
use Prim.Native.Nat.{ℕ, ◌+◌, ◌/◌, ◌%◌, ◌<◌}
use native.Mathlib.Omega.{arith}
use native.Mathlib.Decide.{ℕ_discrete}
use lib.Dec.{eqb}
use lib.ListN.{length, get_or, set, length-set}
use lib.Seq.{get_or-set_same, get_or-set_other}
use Rattle.face_words.specs.Words.{view}
use Rattle.face_words.specs.Views.{Worded}
use Rattle.searched_fans.specs.Reaching.{state, meets, CrossAsks, CrossGives, ThroughAsks, ThroughGives}
use Rattle.searched_fans.proofs.Meeting.{next, other, cross_word, joins_word, three_points, gone_through}

-- words below k
abbrev Under : ℕ → List ℕ → Type 0
Under k w = (g : ℕ) → g < length w → get_or w g 0 < k

-- crossed once more they are below k + 4
under_next : {xs w : List ℕ} {v x : ℕ} {w' : List ℕ} (k : ℕ) → Under k w → CrossGives xs w v x w' → Under (k + 4) w'
under_next {xs} {w} {v} {x} {w'} k u q g h =
    let l = q.long in
    rw (q.at g (omega arith)) (go (not (eqb x v) && meets xs w v x g) (u g (omega arith)))
  where
    go : (b : Bool) → get_or w g 0 < k → cond b (get_or w g 0 + 4) (get_or w g 0) < k + 4
    go true l = omega arith
    go false l = omega arith

-- words of the same number of faces
worded_too : {xs w w' : List ℕ} → Worded xs w → length w' ≡ length w → Worded xs w'
worded_too p l = record { long = omega (arith, p.long); few = omega (arith, p.few) }

-- a crossing, as a word
step : {xs w : List ℕ} {v x : ℕ} {w' : List ℕ} → CrossGives xs w v x w' → (g : ℕ) → g < length w → get_or w' g 0 ≡ next xs g v (other v x) (get_or w g 0)
step {xs} {w} {v} {x} q g h = q.at g h ∙ cross_word xs w v x g

module _ {xs w : List ℕ} {i : ℕ} (p : ThroughAsks xs w i) where
  -- the words when the face was gone through
  abbrev own : List ℕ
  own = set w i (get_or w i 0 + 4)

  -- they are small
  own_under : Under 2000004 own
  own_under g h = let l = length-set w i (get_or w i 0 + 4) in go g (omega arith) (ℕ_discrete g i)
    where
      go : (g : ℕ) → g < length w → Dec (g ≡ i) → get_or own g 0 < 2000004
      go g h (yes e) = rw e (rw (get_or-set_same w i (get_or w i 0 + 4) 0 p.here) (omega (arith, p.small i p.here)))
      go g h (no n) = rw (get_or-set_other w i g (get_or w i 0 + 4) 0 n) (omega (arith, p.small g h))

  -- so is the word that is read
  pub read_small : get_or w i 0 < 2000000
  read_small = p.small i p.here

  -- the first crossing
  pub asks_one : CrossAsks xs own
  asks_one = record { worded = worded_too p.worded (length-set w i (get_or w i 0 + 4)); small = λ g h. omega (arith, own_under g h) }

  module _ {v a : ℕ} {w₁ : List ℕ} (one : CrossGives xs own v a w₁) where
    -- the second
    pub asks_two : CrossAsks xs w₁
    asks_two = record { worded = worded_too asks_one.worded one.long; small = λ g h. omega (arith, under_next 2000004 own_under one g h) }

    module _ {b : ℕ} {w₂ : List ℕ} (two : CrossGives xs w₁ v b w₂) where
      -- the third
      pub asks_three : CrossAsks xs w₂
      asks_three = record { worded = worded_too asks_two.worded two.long; small = λ g h. omega (arith, under_next 2000008 (under_next 2000004 own_under one) two g h) }

      module _ {c : ℕ} {w₃ : List ℕ} (three : CrossGives xs w₂ v c w₃) where
        -- as many words as at first
        pub as_long : length w₃ ≡ length w
        as_long = three.long ∙ two.long ∙ one.long ∙ length-set w i (get_or w i 0 + 4)

        -- the three of them at one face
        thrice : (g : ℕ) → g < length w → get_or w₃ g 0 ≡ next xs g v (other v c) (next xs g v (other v b) (next xs g v (other v a) (get_or own g 0)))
        thrice g h =
            let l = length-set w i (get_or w i 0 + 4) in
            let l₁ = one.long in
            let l₂ = two.long in
            step three g (omega arith)
            ∙ ap (next xs g v (other v c)) (step two g (omega arith) ∙ ap (next xs g v (other v b)) (step one g (omega arith)))

        -- what changed
        pub went : (a ≡ (view xs w i).a) → (b ≡ (view xs w i).b) → (c ≡ (view xs w i).c) → ThroughGives xs w i v w₃
        went ea eb ec =
            record {
              long = as_long;
              own =
                  thrice i p.here
                  ∙ ap (λ y. next xs i v (other v c) (next xs i v (other v b) (next xs i v (other v a) y))) (get_or-set_same w i (get_or w i 0 + 4) 0 p.here)
                  ∙ ap (λ y. next xs i v (other v c) (next xs i v (other v b) y)) (gone_through xs i v (other v a) (get_or w i 0) waits)
                  ∙ ap (λ y. next xs i v (other v c) y) (gone_through xs i v (other v b) (get_or w i 0) waits)
                  ∙ gone_through xs i v (other v c) (get_or w i 0) waits;
              at = λ g h n.
                  thrice g h
                  ∙ ap (λ y. next xs g v (other v c) (next xs g v (other v b) (next xs g v (other v a) y))) (get_or-set_other w i g (get_or w i 0 + 4) 0 n)
                  ∙ (λ j. next xs g v (other v (ec j)) (next xs g v (other v (eb j)) (next xs g v (other v (ea j)) (get_or w g 0))))
                  ∙ three_points xs g v (view xs w i) (get_or w g 0)
                  ∙ joins_word xs w v i g;
            }
          where
            waits : get_or w i 0 / 4 % 4 ≡ 1
            waits = unfold state in p.waits
