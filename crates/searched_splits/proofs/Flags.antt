-- The words when the corners before E have been gone through: they show the faces that they showed, and which corners are flagged. Assumes nothing.
use mathlib.Core.Path.{◌≡◌, refl, sym, ap, ◌∙◌, subst}
use mathlib.Core.Logic.{◌⊎◌, inl, inr}
use mathlib.Core.Bool.{Bool, true, false, ◌&&◌, ◌||◌, cond}
use mathlib.Core.List.{List, map, Memᴰ}
use Prim.Native.Nat.{ℕ, ◌+◌, ◌-◌, ◌*◌, ◌/◌, ◌%◌, ◌≤◌, ◌<◌}
use native.Mathlib.Omega.{arith}
use native.Mathlib.Decide.{ℕ_discrete, dec_lt}
use borrow.Author.Tests.{eq-eqb, ne_eqb}
use lib.Dec.{T, eqb, eqb→eq}
use lib.Ieee.Fits.{and_i}
use lib.Ieee.Bits.{is_true}
use lib.ListN.{length, get_or}
use Rattle.rules.specs.Lists.{below, has}
use Rattle.rules.specs.Mesh.{Face, face, corners}
use Rattle.rule_laws.proofs.Tests.{and_elim, both_ways, or_elim, or_left, or_right}
use Rattle.rule_laws.proofs.Rising.{all_imp, all_filter, below_all, map_same}
use Rattle.rule_laws.proofs.Members.{any_intro, any_mem, mem_below, below_mem, mem_has, has_mem}
use Rattle.rule_laws.proofs.Counting.{count_below_agree, count_mono, count_strict}
use Rattle.splitting.specs.Corners.{corner_at}
use Rattle.splitting.proofs.Agreeing.{filter_agree, on_below}
use Rattle.splitting.proofs.Entries.{three_at}
use Rattle.fan_laws.specs.Opening.{met}
use Rattle.fan_laws.proofs.Takers.{corner_number, number_corner}
use Rattle.face_words.specs.Words.{stands, view, viewed, place, there}
use Rattle.face_words.proofs.Places.{viewed_face, place_in}
use Rattle.searched_fans.proofs.Meeting.{Alike, stands_alike, view_alike}
use Rattle.searched_fans.proofs.Grouping.{at_place}
use Rattle.searched_splits.specs.Splits.{one, done_to, open_to, three_of, word_to, bit_of, flagged_in, pick_of, earlier_in, has_point, met_before, Stage}

-- ---- words that show the same faces

module _ (xs w w₀ : List ℕ) (long : length w ≡ length w₀) (alike : (g : ℕ) → g < length w₀ → Alike (get_or w g 0) (get_or w₀ g 0)) where
  -- the same list
  pub viewed_same : viewed xs w ≡ viewed xs w₀
  viewed_same =
      ap (λ k. map (view xs w) (there w k)) long
      ∙ ap (map (view xs w)) (filter_agree (stands w) (stands w₀) (below (length w₀)) (on_below (λ g. stands w g ≡ stands w₀ g) (length w₀) (λ g h. stands_alike w w₀ g (alike g h))))
      ∙ map_same (view xs w) (view xs w₀) (there w₀ (length w₀))
      (all_imp (λ (g : ℕ). (g < length w₀) × T (stands w₀ g)) (λ g. view xs w g ≡ view xs w₀ g) (λ g h. view_alike xs w w₀ g (alike g h.0)) (there w₀ (length w₀))
      (all_filter (λ g. g < length w₀) (stands w₀) (below (length w₀)) (below_all (length w₀))))

  -- the same places
  pub place_same : (g : ℕ) → g ≤ length w₀ → place w g ≡ place w₀ g
  place_same g h = count_below_agree (stands w) (stands w₀) g (λ i l. stands_alike w w₀ i (alike i (omega arith)))

-- ---- the bits of a word

-- 1 at most
pub one_most : (b : Bool) → one b ≤ 1
one_most true = omega arith
one_most false = omega arith

-- read as a test
pub one_test : (b : Bool) → eqb (one b) 1 ≡ b
one_test true = refl
one_test false = refl

-- the other way
pub one_not : (b : Bool) → eqb (one b) 0 ≡ cond b false true
one_not true = refl
one_not false = refl

-- a word of two low bits and six flags
pub record Bits (x a b c d e f : ℕ) : Type 0 where
  pub low : x < 4
  pub a1 : a ≤ 1
  pub b1 : b ≤ 1
  pub c1 : c ≤ 1
  pub d1 : d ≤ 1
  pub e1 : e ≤ 1
  pub f1 : f ≤ 1

-- the word
abbrev pub word_of : ℕ → ℕ → ℕ → ℕ → ℕ → ℕ → ℕ → ℕ
word_of x a b c d e f = x + (16 * a + 32 * b + 64 * c + 8 * (16 * d + 32 * e + 64 * f))

module _ {x a b c d e f : ℕ} (h : Bits x a b c d e f) where
  pub bit_zero : word_of x a b c d e f / 16 % 2 ≡ a
  bit_zero = omega (arith, h)

  pub bit_one : word_of x a b c d e f / 32 % 2 ≡ b
  bit_one = omega (arith, h)

  pub bit_two : word_of x a b c d e f / 64 % 2 ≡ c
  bit_two = omega (arith, h)

  pub lead_zero : word_of x a b c d e f / 128 % 2 ≡ d
  lead_zero = omega (arith, h)

  pub lead_one : word_of x a b c d e f / 256 % 2 ≡ e
  lead_one = omega (arith, h)

  pub lead_two : word_of x a b c d e f / 512 % 2 ≡ f
  lead_two = omega (arith, h)

  pub no_state : word_of x a b c d e f / 4 % 4 ≡ 0
  no_state = omega (arith, h)

  pub small : word_of x a b c d e f < 1100
  small = omega (arith, h)

  pub shows : Alike (word_of x a b c d e f) x
  shows = record { gone = omega (arith, h); turned = omega (arith, h) }

-- ---- the three corners of a face

-- 0, 1 or 2
pub by_three : (A : ℕ → Type 0) → A 0 → A 1 → A 2 → (k : ℕ) → k < 3 → A k
by_three A a b c k h = go (ℕ_discrete k 0) (ℕ_discrete k 1)
  where
    go : Dec (k ≡ 0) → Dec (k ≡ 1) → A k
    go (yes e) d = subst A (sym e) a
    go (no n) (yes e) = subst A (sym e) b
    go (no n) (no m) = let e : k ≡ 2 = omega arith in subst A (sym e) c

-- flags that are those of two tests together
pub three_plus :
    (t u v : ℕ → Bool) (p : ℕ) → ((k : ℕ) → k < 3 → one (t (3 * p + k)) ≡ one (u (3 * p + k)) + one (v (3 * p + k))) → three_of t p ≡ three_of u p + three_of v p
unfolding three_of
three_plus t u v p h =
    let z : 3 * p + 0 ≡ 3 * p = omega arith in
    let e : one (t (3 * p)) ≡ one (u (3 * p)) + one (v (3 * p)) = subst (λ y. one (t y) ≡ one (u y) + one (v y)) z (h 0 (omega arith)) in
    omega (arith, e, h 1 (omega arith), h 2 (omega arith))

-- flags of tests that agree
pub three_same : (t u : ℕ → Bool) (p : ℕ) → ((k : ℕ) → k < 3 → t (3 * p + k) ≡ u (3 * p + k)) → three_of t p ≡ three_of u p
unfolding three_of
three_same t u p h =
    let z : 3 * p + 0 ≡ 3 * p = omega arith in
    let e : t (3 * p) ≡ u (3 * p) = subst (λ y. t y ≡ u y) z (h 0 (omega arith)) in
    rw (e, h 1 (omega arith), h 2 (omega arith))

-- the flag of one corner
pub three_own : (p k : ℕ) → k < 3 → three_of (λ id. eqb id (3 * p + k)) p ≡ bit_of k
unfolding three_of bit_of
three_own p k h = by_three (λ k. three_of (λ id. eqb id (3 * p + k)) p ≡ bit_of k)
    (rw (eq-eqb (3 * p) (3 * p + 0) (omega arith), ne_eqb (3 * p + 1) (3 * p + 0) (λ e. absurd (omega arith)), ne_eqb (3 * p + 2) (3 * p + 0) (λ e. absurd (omega arith))))
    (rw (ne_eqb (3 * p) (3 * p + 1) (λ e. absurd (omega arith)), eq-eqb (3 * p + 1) (3 * p + 1) refl, ne_eqb (3 * p + 2) (3 * p + 1) (λ e. absurd (omega arith))))
    (rw (ne_eqb (3 * p) (3 * p + 2) (λ e. absurd (omega arith)), ne_eqb (3 * p + 1) (3 * p + 2) (λ e. absurd (omega arith)), eq-eqb (3 * p + 2) (3 * p + 2) refl))
    k h

-- none of another face
pub three_none : (t : ℕ → Bool) (p : ℕ) → ((k : ℕ) → k < 3 → t (3 * p + k) ≡ false) → three_of t p ≡ 0
unfolding three_of
three_none t p h =
    let z : 3 * p + 0 ≡ 3 * p = omega arith in
    let e : t (3 * p) ≡ false = subst (λ y. t y ≡ false) z (h 0 (omega arith)) in
    rw (e, h 1 (omega arith), h 2 (omega arith))

-- ---- the words before corner E

module _ {xs w₀ : List ℕ} (plain : (g : ℕ) → g < length w₀ → get_or w₀ g 0 < 4) {E : ℕ} {w : List ℕ} (s : Stage xs w₀ E w) where
  abbrev fs : List Face
  fs = viewed xs w₀

  -- the flags of the face at place p
  bits : (g : ℕ) → g < length w₀ → (p : ℕ) → Bits (get_or w₀ g 0) (one (done_to fs E (3 * p))) (one (done_to fs E (3 * p + 1))) (one (done_to fs E (3 * p + 2))) (one (open_to fs E (3 * p))) (one (open_to fs E (3 * p + 1))) (one (open_to fs E (3 * p + 2)))
  bits g h p =
      record {
        low = plain g h;
        a1 = one_most (done_to fs E (3 * p));
        b1 = one_most (done_to fs E (3 * p + 1));
        c1 = one_most (done_to fs E (3 * p + 2));
        d1 = one_most (open_to fs E (3 * p));
        e1 = one_most (open_to fs E (3 * p + 1));
        f1 = one_most (open_to fs E (3 * p + 2));
      }

  -- a word of a face that stands
  standing_word : (g : ℕ) → g < length w₀ → T (stands w₀ g) → get_or w g 0 ≡ get_or w₀ g 0 + word_to fs E (place w₀ g)
  standing_word g h t = s.at g h ∙ ap (λ (b : Bool). get_or w₀ g 0 + cond b (word_to fs E (place w₀ g)) 0) (is_true (stands w₀ g) t)

  -- whatever holds of the word of a face that stands, and of the word at first
  either : (A : ℕ → Type 0) (g : ℕ) → g < length w₀ → A (get_or w₀ g 0 + word_to fs E (place w₀ g)) → A (get_or w₀ g 0 + 0) → A (get_or w g 0)
  either A g h a b = subst A (sym (s.at g h)) (go (stands w₀ g))
    where
      go : (b : Bool) → A (get_or w₀ g 0 + cond b (word_to fs E (place w₀ g)) 0)
      go true = a
      go false = b

  -- it shows the face that it showed
  pub stage_alike : (g : ℕ) → g < length w₀ → Alike (get_or w g 0) (get_or w₀ g 0)
  unfolding word_to three_of
  stage_alike g h = either (λ y. Alike y (get_or w₀ g 0)) g h (shows (bits g h (place w₀ g))) (record { gone = omega arith; turned = omega arith })

  -- no search is under way
  pub stage_fresh : (g : ℕ) → g < length w₀ → get_or w g 0 / 4 % 4 ≡ 0
  unfolding word_to three_of
  stage_fresh g h = either (λ (y : ℕ). y / 4 % 4 ≡ 0) g h (no_state (bits g h (place w₀ g))) (let l = plain g h in omega arith)

  -- it is small
  pub stage_small : (g : ℕ) → g < length w₀ → get_or w g 0 < 1100
  unfolding word_to three_of
  stage_small g h = either (λ (y : ℕ). y < 1100) g h (small (bits g h (place w₀ g))) (let l = plain g h in omega arith)

  -- which corners are flagged
  pub flag_read : (f k : ℕ) → f < length w₀ → T (stands w₀ f) → k < 3 → flagged_in (get_or w f 0) k ≡ done_to fs E (3 * place w₀ f + k)
  unfolding word_to three_of bit_of flagged_in
  flag_read f k h t l =
      let p = place w₀ f in
      let z : 3 * p + 0 ≡ 3 * p = omega arith in
      rw (standing_word f h t)
      (by_three (λ k. flagged_in (get_or w₀ f 0 + word_to fs E p) k ≡ done_to fs E (3 * p + k))
      (ap (λ (n : ℕ). eqb n 1) (bit_zero (bits f h p)) ∙ one_test (done_to fs E (3 * p)) ∙ ap (done_to fs E) (sym z))
      (ap (λ (n : ℕ). eqb n 1) (bit_one (bits f h p)) ∙ one_test (done_to fs E (3 * p + 1)))
      (ap (λ (n : ℕ). eqb n 1) (bit_two (bits f h p)) ∙ one_test (done_to fs E (3 * p + 2)))
      k l)

  -- whether corner 0 is marked as one that opens a group
  pub lead_read : (f : ℕ) → f < length w₀ → T (stands w₀ f) → eqb (get_or w f 0 / 128 % 2) 0 ≡ cond (open_to fs E (3 * place w₀ f)) false true
  unfolding word_to three_of
  lead_read f h t =
      let p = place w₀ f in
      rw (standing_word f h t) (ap (λ (n : ℕ). eqb n 0) (lead_zero (bits f h p)) ∙ one_not (open_to fs E (3 * p)))

  -- which corners are marked
  pub mark_bits :
      (f : ℕ) → f < length w₀ → T (stands w₀ f)
      → (get_or w f 0 / 128 % 2 ≡ one (open_to fs E (3 * place w₀ f))) × (get_or w f 0 / 256 % 2 ≡ one (open_to fs E (3 * place w₀ f + 1))) × (get_or w f 0 / 512 % 2 ≡ one (open_to fs E (3 * place w₀ f + 2)))
  unfolding word_to three_of
  mark_bits f h t =
      let p = place w₀ f in
      let y = standing_word f h t in
      (ap (λ (n : ℕ). n / 128 % 2) y ∙ lead_zero (bits f h p), ap (λ (n : ℕ). n / 256 % 2) y ∙ lead_one (bits f h p), ap (λ (n : ℕ). n / 512 % 2) y ∙ lead_two (bits f h p))

-- ---- a corner of a face by its place

module _ (xs w : List ℕ) (f : ℕ) (h : f < length w) (t : T (stands w f)) where
  -- the face's corners
  corners_at : view xs w f ≡ record { a = corner_at (viewed xs w) (3 * place w f); b = corner_at (viewed xs w) (3 * place w f + 1); c = corner_at (viewed xs w) (3 * place w f + 2); origin = (face (viewed xs w) (place w f)).origin }
  corners_at = sym (viewed_face xs w f h t) ∙ three_at (viewed xs w) (place w f) (place_in xs w f h t)

  -- corner k
  pub pick_read : (k : ℕ) → k < 3 → pick_of (view xs w f).a (view xs w f).b (view xs w f).c k ≡ corner_at (viewed xs w) (3 * place w f + k)
  unfolding pick_of
  pick_read k l =
      let z : 3 * place w f + 0 ≡ 3 * place w f = omega arith in
      by_three (λ k. pick_of (view xs w f).a (view xs w f).b (view xs w f).c k ≡ corner_at (viewed xs w) (3 * place w f + k))
      (ap (λ g. g.a) corners_at ∙ ap (corner_at (viewed xs w)) (sym z)) (ap (λ g. g.b) corners_at) (ap (λ g. g.c) corners_at) k l

  -- an earlier corner of the face is v
  early_read : (k v : ℕ) → k < 3 → T (earlier_in (view xs w f).a (view xs w f).b k v) → (j : ℕ) × (j < k) × (corner_at (viewed xs w) (3 * place w f + j) ≡ v)
  unfolding earlier_in
  early_read k v l q =
      by_three (λ k. T (earlier_in (view xs w f).a (view xs w f).b k v) → (j : ℕ) × (j < k) × (corner_at (viewed xs w) (3 * place w f + j) ≡ v))
      (λ q. absurd q) (λ q. first 1 (omega arith) (or_elim (eqb (view xs w f).a v) false q)) (λ q. second (or_elim (eqb (view xs w f).a v) (eqb (view xs w f).b v) q)) k l q
    where
      zero_is : eqb (view xs w f).a v ≡ true → corner_at (viewed xs w) (3 * place w f + 0) ≡ v
      zero_is e = let z : 3 * place w f + 0 ≡ 3 * place w f = omega arith in ap (corner_at (viewed xs w)) z ∙ sym (ap (λ g. g.a) corners_at) ∙ eqb→eq (view xs w f).a v (subst T (sym e) tt)

      first : (k : ℕ) → 0 < k → T (eqb (view xs w f).a v) ⊎ T false → (j : ℕ) × (j < k) × (corner_at (viewed xs w) (3 * place w f + j) ≡ v)
      first k p (inl a) = (0, p, zero_is (is_true (eqb (view xs w f).a v) a))
      first k p (inr a) = absurd a

      second : T (eqb (view xs w f).a v) ⊎ T (eqb (view xs w f).b v) → (j : ℕ) × (j < 2) × (corner_at (viewed xs w) (3 * place w f + j) ≡ v)
      second (inl a) = (0, omega arith, zero_is (is_true (eqb (view xs w f).a v) a))
      second (inr a) = (1, omega arith, sym (ap (λ g. g.b) corners_at) ∙ eqb→eq (view xs w f).b v a)

  -- and the other way
  read_early : (k v j : ℕ) → k < 3 → j < k → corner_at (viewed xs w) (3 * place w f + j) ≡ v → T (earlier_in (view xs w f).a (view xs w f).b k v)
  unfolding earlier_in
  read_early k v j l r e = by_three (λ k. j < k → T (earlier_in (view xs w f).a (view xs w f).b k v)) (λ r. absurd (omega arith)) (λ r. or_left (eqb (view xs w f).a v) false (zero j e (omega arith))) (λ r. two (ℕ_discrete j 0) r) k l r
    where
      zero : (j : ℕ) → corner_at (viewed xs w) (3 * place w f + j) ≡ v → j ≡ 0 → T (eqb (view xs w f).a v)
      zero j e q =
          let z : 3 * place w f + j ≡ 3 * place w f = omega arith in
          rw (eq-eqb (view xs w f).a v (ap (λ g. g.a) corners_at ∙ ap (corner_at (viewed xs w)) (sym z) ∙ e)) tt

      two : Dec (j ≡ 0) → j < 2 → T (eqb (view xs w f).a v || eqb (view xs w f).b v)
      two (yes q) r = or_left (eqb (view xs w f).a v) (eqb (view xs w f).b v) (zero j e q)
      two (no n) r =
          let q : j ≡ 1 = omega arith in
          or_right (eqb (view xs w f).a v) (eqb (view xs w f).b v) (rw (eq-eqb (view xs w f).b v (ap (λ g. g.b) corners_at ∙ ap (λ i. corner_at (viewed xs w) (3 * place w f + i)) (sym q) ∙ e)) tt)

  -- whether the point was met before corner k
  pub met_read : (k v : ℕ) → k < 3 → (met_before xs w v f || earlier_in (view xs w f).a (view xs w f).b k v) ≡ met (viewed xs w) v (3 * place w f + k)
  unfolding met_before has_point met
  met_read k v l = both_ways (met_before xs w v f || earlier_in (view xs w f).a (view xs w f).b k v) (met (viewed xs w) v (3 * place w f + k)) (λ q. to (or_elim (met_before xs w v f) (earlier_in (view xs w f).a (view xs w f).b k v) q)) from
    where
      hit : (y : ℕ) → y < 3 * place w f + k → corner_at (viewed xs w) y ≡ v → T (met (viewed xs w) v (3 * place w f + k))
      hit y b e = any_intro (λ y. eqb (corner_at (viewed xs w) y) v) y (below (3 * place w f + k)) (mem_below y (3 * place w f + k) b) (rw (eq-eqb (corner_at (viewed xs w) y) v e) tt)

      to : T (met_before xs w v f) ⊎ T (earlier_in (view xs w f).a (view xs w f).b k v) → T (met (viewed xs w) v (3 * place w f + k))
      to (inl q) =
          let a = any_mem (λ g. stands w g && has v (corners (view xs w g))) (below f) q in
          let b = below_mem a.0 f a.1 in
          let c = and_elim (stands w a.0) (has v (corners (view xs w a.0))) a.2 in
          let hg : a.0 < length w = omega arith in
          let n = corner_number (viewed xs w) (place w a.0) v (place_in xs w a.0 hg c.0) (subst (λ g. Memᴰ v (corners g)) (sym (viewed_face xs w a.0 hg c.0)) (has_mem v (corners (view xs w a.0)) c.1)) in
          hit n.0 (omega (arith, n.2, count_strict (stands w) a.0 f b c.0)) n.3
      to (inr q) = let a = early_read k v l q in hit (3 * place w f + a.0) (omega (arith, a.1)) a.2

      from : T (met (viewed xs w) v (3 * place w f + k)) → T (met_before xs w v f || earlier_in (view xs w f).a (view xs w f).b k v)
      from q =
          let a = any_mem (λ y. eqb (corner_at (viewed xs w) y) v) (below (3 * place w f + k)) q in
          go a.0 (below_mem a.0 (3 * place w f + k) a.1) (eqb→eq (corner_at (viewed xs w) a.0) v a.2) (dec_lt a.0 (3 * place w f))
        where
          before : (y g : ℕ) → y < 3 * place w f → place w g ≡ y / 3 → Dec (g < f) → g < f
          before y g b e (yes r) = r
          before y g b e (no r) = absurd (omega (arith, count_mono (stands w) f g (omega arith)))

          go : (y : ℕ) → y < 3 * place w f + k → corner_at (viewed xs w) y ≡ v → Dec (y < 3 * place w f) → T (met_before xs w v f || earlier_in (view xs w f).a (view xs w f).b k v)
          go y b e (yes r) =
              let i = place_in xs w f h t in
              let g = at_place xs w (y / 3) (omega arith) in
              or_left (met_before xs w v f) (earlier_in (view xs w f).a (view xs w f).b k v)
              (any_intro (λ g. stands w g && has v (corners (view xs w g))) g.0 (below f) (mem_below g.0 f (before y g.0 r g.3 (dec_lt g.0 f)))
              (and_i (stands w g.0) (has v (corners (view xs w g.0))) g.2
              (mem_has v (corners (view xs w g.0)) (subst (λ x. Memᴰ x (corners (view xs w g.0))) e (subst (λ c. Memᴰ (corner_at (viewed xs w) y) (corners c)) (ap (face (viewed xs w)) (sym g.3) ∙ viewed_face xs w g.0 g.1 g.2) (number_corner (viewed xs w) y (omega arith)))))))
          go y b e (no r) =
              or_right (met_before xs w v f) (earlier_in (view xs w f).a (view xs w f).b k v)
              (let j = y - 3 * place w f in
              let z : 3 * place w f + j ≡ y = omega arith in
              read_early k v j l (omega arith) (ap (corner_at (viewed xs w)) z ∙ e))
