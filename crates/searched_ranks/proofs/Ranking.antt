-- When every corner has been gone through, the count of the marked corners before one is its rank. Assumes nothing.
use mathlib.Core.Path.{◌≡◌, refl, sym, ap, ◌∙◌, subst}
use mathlib.Core.Bool.{Bool, true, false, ◌&&◌, ◌||◌, cond}
use mathlib.Core.List.{List}
use Prim.Native.Nat.{ℕ, zero, suc, ◌+◌, ◌*◌, ◌≤◌, ◌<◌}
use native.Mathlib.Omega.{arith}
use native.Mathlib.Decide.{dec_lt}
use borrow.Author.Tests.{lt-ltb, le-ltb}
use lib.Dec.{T, eqb, ltb}
use lib.ListN.{length, get_or}
use Rattle.rules.specs.Lists.{below, filter, count}
use Rattle.rules.specs.Mesh.{Face}
use Rattle.rule_laws.proofs.Lists.{count_below}
use Rattle.rule_laws.proofs.Counting.{count_strict, count_next, count_stay}
use Rattle.splitting.specs.Corners.{corner_at}
use Rattle.splitting.proofs.Agreeing.{filter_agree, on_below}
use Rattle.fan_laws.specs.Sums.{sum_of}
use Rattle.fan_laws.specs.Opening.{opens, before, rank}
use Rattle.fan_laws.proofs.Sums.{sum_below}
use Rattle.fan_laws.proofs.Ranks.{rank_count}
use Rattle.face_words.specs.Words.{stands, view, viewed, place}
use Rattle.face_words.proofs.Places.{viewed_length, place_in}
use Rattle.searched_fans.proofs.Meeting.{stands_alike, view_alike}
use Rattle.searched_splits.specs.Splits.{one, bit_of, open_to, pick_of, id_of, Stage}
use Rattle.searched_splits.proofs.Flags.{one_test, by_three, stage_alike, mark_bits, pick_read}
use Rattle.searched_ranks.specs.Ranks.{marked_in, before_in, count_at, face_count, rank_by}

module _ {xs w₀ : List ℕ} (plain : (g : ℕ) → g < length w₀ → get_or w₀ g 0 < 4) {w : List ℕ} (s : Stage xs w₀ (3 * length (viewed xs w₀)) w) where
  abbrev fs : List Face
  fs = viewed xs w₀

  abbrev all : ℕ
  all = 3 * length fs

  -- a mark says that the corner opens a group
  pub mark_is : (g j : ℕ) → g < length w₀ → T (stands w₀ g) → j < 3 → marked_in (get_or w g 0) j ≡ opens fs (id_of w₀ g j)
  unfolding bit_of marked_in
  mark_is g j h t l =
      let b = mark_bits plain s g h t in
      let p = place w₀ g in
      let z : 3 * p + 0 ≡ 3 * p = omega arith in
      let i = place_in xs w₀ g h t in
      by_three (λ j. marked_in (get_or w g 0) j ≡ opens fs (3 * p + j))
      (ap (λ (n : ℕ). eqb n 1) b.0 ∙ one_test (open_to fs all (3 * p)) ∙ open_is (3 * p) (omega arith) ∙ ap (opens fs) (sym z))
      (ap (λ (n : ℕ). eqb n 1) b.1 ∙ one_test (open_to fs all (3 * p + 1)) ∙ open_is (3 * p + 1) (omega arith))
      (ap (λ (n : ℕ). eqb n 1) b.2 ∙ one_test (open_to fs all (3 * p + 2)) ∙ open_is (3 * p + 2) (omega arith)) j l
    where
      open_is : (y : ℕ) → y < all → open_to fs all y ≡ opens fs y
      open_is y h = unfold open_to in (ap (λ (b : Bool). b && opens fs y) (lt-ltb y all h))

  module _ (f k : ℕ) (hf : f < length w₀) (tf : T (stands w₀ f)) (hk : k < 3) where
    -- corners come in the order of faces
    order_is : (g j : ℕ) → T (stands w₀ g) → j < 3 → ltb (3 * g + j) (3 * f + k) ≡ ltb (id_of w₀ g j) (id_of w₀ f k)
    order_is g j t l = go (dec_lt g f) (dec_lt f g)
      where
        level : g ≡ f → Dec (j < k) → ltb (3 * g + j) (3 * f + k) ≡ ltb (id_of w₀ g j) (id_of w₀ f k)
        level e (yes b) = let q = ap (place w₀) e in lt-ltb (3 * g + j) (3 * f + k) (omega arith) ∙ sym (lt-ltb (id_of w₀ g j) (id_of w₀ f k) (omega arith))
        level e (no b) = let q = ap (place w₀) e in le-ltb (3 * g + j) (3 * f + k) (omega arith) ∙ sym (le-ltb (id_of w₀ g j) (id_of w₀ f k) (omega arith))

        go : Dec (g < f) → Dec (f < g) → ltb (3 * g + j) (3 * f + k) ≡ ltb (id_of w₀ g j) (id_of w₀ f k)
        go (yes a) d = let q = count_strict (stands w₀) g f a t in lt-ltb (3 * g + j) (3 * f + k) (omega arith) ∙ sym (lt-ltb (id_of w₀ g j) (id_of w₀ f k) (omega arith))
        go (no a) (yes b) = let q = count_strict (stands w₀) f g b tf in le-ltb (3 * g + j) (3 * f + k) (omega arith) ∙ sym (le-ltb (id_of w₀ g j) (id_of w₀ f k) (omega arith))
        go (no a) (no b) = level (omega arith) (dec_lt j k)

    -- which corners count
    abbrev counts : ℕ → Bool
    counts y = before fs y (id_of w₀ f k) && opens fs y

    -- one corner
    corner_is : (g j : ℕ) → g < length w₀ → T (stands w₀ g) → j < 3 → count_at xs w (corner_at fs (id_of w₀ f k)) (3 * f + k) g j ≡ one (counts (id_of w₀ g j))
    unfolding count_at before_in before
    corner_is g j h t l =
        let c : pick_of (view xs w g).a (view xs w g).b (view xs w g).c j ≡ corner_at fs (id_of w₀ g j) = ap (λ y. pick_of y.a y.b y.c j) (view_alike xs w w₀ g (stage_alike plain s g h)) ∙ pick_read xs w₀ g h t j l in
        let v = corner_at fs (id_of w₀ f k) in
        (λ i. one (mark_is g j h t l i && (ltb (c i) v || (eqb (c i) v && order_is g j t l i))))
        ∙ ap one (swap (opens fs (id_of w₀ g j)) (ltb (corner_at fs (id_of w₀ g j)) v || (eqb (corner_at fs (id_of w₀ g j)) v && ltb (id_of w₀ g j) (id_of w₀ f k))))
      where
        swap : (a b : Bool) → (a && b) ≡ (b && a)
        swap true true = refl
        swap true false = refl
        swap false true = refl
        swap false false = refl

    -- one face
    face_is : (g : ℕ) → g < length w₀ → T (stands w₀ g) → face_count xs w (corner_at fs (id_of w₀ f k)) (3 * f + k) g ≡ one (counts (3 * place w₀ g)) + one (counts (3 * place w₀ g + 1)) + one (counts (3 * place w₀ g + 2))
    unfolding face_count
    face_is g h t =
        let z : 3 * place w₀ g + 0 ≡ 3 * place w₀ g = omega arith in
        λ i. (corner_is g 0 h t (omega arith) ∙ ap (λ y. one (counts y)) z) i + corner_is g 1 h t (omega arith) i + corner_is g 2 h t (omega arith) i

    -- the faces below n
    faces_are : (n : ℕ) → n ≤ length w₀ → sum_of (face_count xs w (corner_at fs (id_of w₀ f k)) (3 * f + k)) (filter (stands w₀) (below n)) ≡ count counts (below (3 * place w₀ n))
    faces_are zero h = unfold below filter sum_of count in refl
    faces_are (suc n) h = sum_below (face_count xs w (corner_at fs (id_of w₀ f k)) (3 * f + k)) (stands w₀) n ∙ go (stands w₀ n) refl (faces_are n (omega arith))
      where
        go : (b : Bool) → stands w₀ n ≡ b → sum_of (face_count xs w (corner_at fs (id_of w₀ f k)) (3 * f + k)) (filter (stands w₀) (below n)) ≡ count counts (below (3 * place w₀ n))
            → sum_of (face_count xs w (corner_at fs (id_of w₀ f k)) (3 * f + k)) (filter (stands w₀) (below n)) + cond (stands w₀ n) (face_count xs w (corner_at fs (id_of w₀ f k)) (3 * f + k) n) 0 ≡ count counts (below (3 * place w₀ (suc n)))
        go true e i =
            let t : T (stands w₀ n) = subst T (sym e) tt in
            let p = place w₀ n in
            let q : 3 * place w₀ (suc n) ≡ suc (suc (suc (3 * p))) = omega (arith, count_next (stands w₀) n t) in
            let n1 : suc (3 * p) ≡ 3 * p + 1 = omega arith in
            let n2 : suc (suc (3 * p)) ≡ 3 * p + 2 = omega arith in
            rw e (omega (arith, i, face_is n h t, ap (λ j. count counts (below j)) q, count_below counts (suc (suc (3 * p))), count_below counts (suc (3 * p)), count_below counts (3 * p), ap (λ j. one (counts j)) n1, ap (λ j. one (counts j)) n2))
        go false e i = rw e (omega (arith, i, ap (λ j. count counts (below (3 * j))) (count_stay (stands w₀) n e)))

    -- so the search finds the rank
    pub rank_found : rank_by xs w (corner_at fs (id_of w₀ f k)) (3 * f + k) ≡ rank fs (id_of w₀ f k)
    unfolding rank_by
    rank_found =
        ap (λ n. sum_of (face_count xs w (corner_at fs (id_of w₀ f k)) (3 * f + k)) (filter (stands w) (below n))) s.long
        ∙ ap (sum_of (face_count xs w (corner_at fs (id_of w₀ f k)) (3 * f + k))) (filter_agree (stands w) (stands w₀) (below (length w₀)) (on_below (λ g. stands w g ≡ stands w₀ g) (length w₀) (λ g h. stands_alike w w₀ g (stage_alike plain s g h))))
        ∙ faces_are (length w₀) (omega arith)
        ∙ ap (λ n. count counts (below (3 * n))) (sym (viewed_length xs w₀))
        ∙ sym (rank_count fs (id_of w₀ f k) (omega (arith, place_in xs w₀ f hf tf)))
