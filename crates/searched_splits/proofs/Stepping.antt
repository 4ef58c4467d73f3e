-- One corner is gone through: the words, and what is told, are those before the next corner. Assumes nothing.
use mathlib.Core.Path.{◌≡◌, refl, sym, ap, ap₂, ◌∙◌, subst}
use mathlib.Core.Logic.{◌≢◌}
use mathlib.Core.Bool.{Bool, true, false, not, ◌&&◌, cond}
use mathlib.Core.List.{List, [], ◌∷◌}
use Prim.Native.Nat.{ℕ, suc, ◌+◌, ◌*◌, ◌/◌, ◌%◌, ◌≤◌, ◌<◌}
use native.Mathlib.Omega.{arith}
use native.Mathlib.Numerals.{add-one}
use native.Mathlib.Decide.{ℕ_discrete}
use borrow.Author.Tests.{eq-eqb, ne_eqb, lt-ltb}
use lib.Dec.{T, eqb}
use lib.Ieee.Bits.{is_true}
use lib.ListN.{length, get_or, set, length-set}
use lib.Seq.{get_or-set_same, get_or-set_other}
use Rattle.rules.specs.Lists.{below, filter}
use Rattle.rules.specs.Mesh.{Face}
use Rattle.rules.specs.Line.{decimal}
use Rattle.rule_laws.proofs.Digits.{decimal_short}
use Rattle.rule_laws.proofs.Counting.{count_next, count_stay, count_injective, count_below_le}
use Rattle.splitting.specs.Corners.{corner_at}
use Rattle.fan_laws.specs.Sums.{sum_of, field}
use Rattle.fan_laws.specs.Opening.{met, opens, giver, weight}
use Rattle.fan_laws.proofs.Sums.{sum_append, sum_below}
use Rattle.face_words.specs.Words.{stands, view, viewed, place}
use Rattle.face_words.proofs.Places.{viewed_length, place_in}
use Rattle.searched_fans.specs.Reaching.{state}
use Rattle.searched_fans.proofs.Meeting.{Alike, stands_alike}
use Rattle.searched_splits.specs.Splits.{same_group, done_to, open_to, three_of, word_to, bit_of, flagged_in, pick_of, met_at, gives_in, id_of, Stage, Counted, CloseAsks, CloseGives, CornerAsks, CornerGives}
use Rattle.searched_splits.proofs.Leading.{done_same, done_more, done_shut, fresh_opens, open_next}
use Rattle.searched_splits.proofs.Flags.{viewed_same, place_same, one_most, by_three, three_plus, three_same, three_own, three_none, stage_alike, stage_fresh, stage_small, flag_read, lead_read, pick_read, met_read}

-- three flags are at most 112
three_most : (t : ℕ → Bool) (p : ℕ) → three_of t p ≤ 112
unfolding three_of
three_most t p = omega (arith, one_most (t (3 * p)), one_most (t (3 * p + 1)), one_most (t (3 * p + 2)))

-- one number more
sum_last : (g : ℕ → ℕ) (n : ℕ) → sum_of g (below (suc n)) ≡ sum_of g (below n) + g n
unfolding below
sum_last g n = sum_append g (below n) (n ∷ []) ∙ unfold sum_of in (omega arith)

-- ---- the flags of the next corner

module _ (fs : List Face) (E : ℕ) (hE : E < 3 * length fs) where
  -- the mark of this corner, if it opens a group
  abbrev mark : ℕ → Bool
  mark id = eqb id E && opens fs E

  -- where the corner is flagged
  word_stays : T (done_to fs E E) → (p : ℕ) → word_to fs (suc E) p ≡ word_to fs E p
  unfolding word_to
  word_stays t p =
      let shut = done_shut fs E hE t in
      ap₂ (λ (a b : ℕ). a + 8 * b) (three_same (done_to fs (suc E)) (done_to fs E) p (λ k l. done_same fs E hE t (3 * p + k)))
      (three_plus (open_to fs (suc E)) (open_to fs E) mark p (λ k l. open_next fs E hE (3 * p + k))
      ∙ omega (arith, three_none mark p (λ k l. rw shut (off (eqb (3 * p + k) E)))))
    where
      off : (b : Bool) → (b && false) ≡ false
      off true = refl
      off false = refl

  -- where it is not
  word_more : done_to fs E E ≡ false → (p : ℕ) → word_to fs (suc E) p ≡ word_to fs E p + three_of (same_group fs E) p + 8 * three_of mark p
  unfolding word_to
  word_more e p =
      omega (arith, three_plus (done_to fs (suc E)) (done_to fs E) (same_group fs E) p (λ k l. done_more fs E hE e (3 * p + k)), three_plus (open_to fs (suc E)) (open_to fs E) mark p (λ k l. open_next fs E hE (3 * p + k)))

  -- no mark where it opens none
  no_mark : opens fs E ≡ false → (p : ℕ) → three_of mark p ≡ 0
  no_mark shut p = three_none mark p (λ k l. rw shut (off (eqb (3 * p + k) E)))
    where
      off : (b : Bool) → (b && false) ≡ false
      off true = refl
      off false = refl

  -- its own flag where it opens one
  own_mark : (p k : ℕ) → E ≡ 3 * p + k → k < 3 → opens fs E ≡ true → three_of mark p ≡ bit_of k
  own_mark p k q l o =
      three_same mark (λ id. eqb id (3 * p + k)) p (λ j m. rw (o, q) (whole (eqb (3 * p + j) (3 * p + k)))) ∙ three_own p k l
    where
      whole : (b : Bool) → (b && true) ≡ b
      whole true = refl
      whole false = refl

  -- none at another face
  other_mark : (p k r : ℕ) → E ≡ 3 * p + k → k < 3 → r ≢ p → three_of mark r ≡ 0
  other_mark p k r q l n = three_none mark r (λ j m. ap (λ (b : Bool). b && opens fs E) (ne_eqb (3 * r + j) E (λ s. n (omega arith))))

-- ---- what is told at the next corner

-- nothing more
told_stays : (fs : List Face) (P E splits bytes : ℕ) → opens fs E ≡ false → Counted fs P E splits bytes → Counted fs P (suc E) splits bytes
told_stays fs P E splits bytes shut c =
    record {
      many = c.many ∙ sym (count_stay (opens fs) E shut);
      sum = c.sum ∙ ap (λ (n : ℕ). n + sum_of (λ j. field (P + j)) (below splits)) (sym (sum_below (weight fs) (opens fs) E ∙ rw shut (omega arith)));
      few = omega (arith, c.few);
    }

-- one point more
told_more :
    (fs : List Face) (P E splits bytes old new taken : ℕ) → T (opens fs E) → Counted fs P E splits bytes → 2 + field (corner_at fs E) + taken ≡ weight fs E → field (corner_at fs E) ≡ 1 + old → field (P + splits) ≡ 1 + new
    → old ≤ 10 → new ≤ 10 → taken ≤ 11534336
    → Counted fs P (suc E) (splits + 1) (bytes + 4 + old + new + taken)
told_more fs P E splits bytes old new taken o c w fo fn lo ln lt =
    record {
      many = omega (arith, c.many, count_next (opens fs) E o);
      sum =
          parts
          ∙ ap₂ (λ (a b : ℕ). a + b) (sym (sum_below (weight fs) (opens fs) E ∙ rw (is_true (opens fs E) o))) (sym (ap (λ k. sum_of (λ j. field (P + j)) (below k)) (add-one splits) ∙ sum_last (λ j. field (P + j)) splits));
      few = omega (arith, c.few);
    }
  where
    parts : bytes + 4 + old + new + taken ≡ (sum_of (weight fs) (filter (opens fs) (below E)) + weight fs E) + (sum_of (λ j. field (P + j)) (below splits) + field (P + splits))
    parts = omega (arith, c.sum, w, fo, fn)

module _ {xs w : List ℕ} {f k P splits bytes : ℕ} (q : CornerAsks xs w f k P splits bytes) where
  abbrev w₀ : List ℕ
  w₀ = q.base

  abbrev fs : List Face
  fs = viewed xs w₀

  abbrev E : ℕ
  E = id_of w₀ f k

  -- it is a corner
  inside : E < 3 * length fs
  inside = omega (arith, place_in xs w₀ f q.here q.standing, q.corner)

  -- the words show what they showed
  alike : (g : ℕ) → g < length w₀ → Alike (get_or w g 0) (get_or w₀ g 0)
  alike = stage_alike q.split.plain q.stage

  -- the same list
  same_list : viewed xs w ≡ fs
  same_list = viewed_same xs w w₀ q.stage.long alike

  -- the same places
  same_place : (g : ℕ) → g < length w₀ → place w g ≡ place w₀ g
  same_place g h = place_same xs w w₀ q.stage.long alike g (omega arith)

  -- the same faces stand
  same_stands : (g : ℕ) → g < length w₀ → stands w g ≡ stands w₀ g
  same_stands g h = stands_alike w w₀ g (alike g h)

  -- the same corner
  same_id : id_of w f k ≡ E
  same_id = ap (λ (n : ℕ). 3 * n + k) (same_place f q.here)

  -- f is one of the words
  pub in_words : f < length w
  in_words = omega (arith, q.stage.long, q.here)

  -- f stands
  standing : T (stands w f)
  standing = subst T (sym (same_stands f q.here)) q.standing

  -- ---- the corner is flagged

  -- the test
  flag_is : {r b : Bool} → r ≡ flagged_in (get_or w f 0) k → r ≡ b → done_to fs E E ≡ b
  flag_is e t = sym (flag_read q.split.plain q.stage f k q.here q.standing q.corner) ∙ sym e ∙ t

  pub passed : {r : Bool} → r ≡ flagged_in (get_or w f 0) k → r ≡ true → CornerGives q w splits bytes
  passed e t =
      let d : T (done_to fs E E) = subst T (sym (flag_is e t)) tt in
      record {
        stage = record { long = q.stage.long; at = λ g h. q.stage.at g h ∙ ap (λ (n : ℕ). get_or w₀ g 0 + cond (stands w₀ g) n 0) (sym (word_stays fs E inside d (place w₀ g))) };
        counted = told_stays fs P E splits bytes (done_shut fs E inside d) q.counted;
      }

  -- ---- it is not

  -- the bounds of what is told
  pub record Bounds : Type 0 where
    pub few_splits : splits ≤ 3145728
    pub few_points : P ≤ 4194304
    pub few_bytes : bytes ≤ 37748736000000

  pub bounds : Bounds
  bounds =
      let m = q.counted.many in
      let c = count_below_le (opens fs) E in
      let d = count_below_le (stands w₀) (length w₀) in
      record { few_splits = omega (arith, inside, viewed_length xs w₀, q.split.worded.few); few_points = q.split.points; few_bytes = omega (arith, q.counted.few, inside, viewed_length xs w₀, q.split.worded.few) }

  module _ {r : Bool} (fe : r ≡ flagged_in (get_or w f 0) k) (ft : r ≡ false) where
    fresh : done_to fs E E ≡ false
    fresh = flag_is fe ft

    module _ {v : ℕ} (pe : v ≡ pick_of (view xs w f).a (view xs w f).b (view xs w f).c k) where
      -- the point
      point_then : corner_at (viewed xs w) (id_of w f k) ≡ v
      point_then = sym (pe ∙ pick_read xs w f in_words standing k q.corner)

      -- as at first
      point : corner_at fs E ≡ v
      point = ap₂ (λ (l : List Face) (i : ℕ). corner_at l i) (sym same_list) (sym same_id) ∙ point_then

      -- which corner gives its number to a face with three equal corners
      giving : T (opens fs E) → gives_in (get_or w f 0) k ≡ eqb E (giver fs (place w₀ f))
      unfolding gives_in giver
      giving o = by_three (λ k. Stage xs w₀ (id_of w₀ f k) w → T (opens fs (id_of w₀ f k)) → gives_in (get_or w f 0) k ≡ eqb (id_of w₀ f k) (giver fs (place w₀ f))) zero_gives one_gives two_gives k q.corner q.stage o
        where
          p : ℕ
          p = place w₀ f

          zero_gives : Stage xs w₀ (id_of w₀ f 0) w → T (opens fs (3 * p + 0)) → true ≡ eqb (3 * p + 0) (cond (opens fs (3 * p)) (3 * p) (3 * p + 1))
          zero_gives s o =
              let z : 3 * p + 0 ≡ 3 * p = omega arith in
              sym (ap (λ (b : Bool). eqb (3 * p + 0) (cond b (3 * p) (3 * p + 1))) (is_true (opens fs (3 * p)) (subst (λ y. T (opens fs y)) z o)) ∙ eq-eqb (3 * p + 0) (3 * p) z)

          one_gives : Stage xs w₀ (id_of w₀ f 1) w → T (opens fs (3 * p + 1)) → eqb (get_or w f 0 / 128 % 2) 0 ≡ eqb (3 * p + 1) (cond (opens fs (3 * p)) (3 * p) (3 * p + 1))
          one_gives s o = lead_read q.split.plain s f q.here q.standing ∙ unfold open_to in (rw (lt-ltb (3 * p) (3 * p + 1) (omega arith)) (pick (opens fs (3 * p))))
            where
              pick : (b : Bool) → cond b false true ≡ eqb (3 * p + 1) (cond b (3 * p) (3 * p + 1))
              pick true = sym (ne_eqb (3 * p + 1) (3 * p) (λ e. absurd (omega arith)))
              pick false = sym (eq-eqb (3 * p + 1) (3 * p + 1) refl)

          two_gives : Stage xs w₀ (id_of w₀ f 2) w → T (opens fs (3 * p + 2)) → false ≡ eqb (3 * p + 2) (cond (opens fs (3 * p)) (3 * p) (3 * p + 1))
          two_gives s o = pick (opens fs (3 * p))
            where
              pick : (b : Bool) → false ≡ eqb (3 * p + 2) (cond b (3 * p) (3 * p + 1))
              pick true = sym (ne_eqb (3 * p + 2) (3 * p) (λ e. absurd (omega arith)))
              pick false = sym (ne_eqb (3 * p + 2) (3 * p + 1) (λ e. absurd (omega arith)))

      -- in the words of the corner's turn
      giver_same : eqb (id_of w f k) (giver (viewed xs w) (place w f)) ≡ eqb E (giver fs (place w₀ f))
      giver_same = λ j. eqb (same_id j) (giver (same_list j) (same_place f q.here j))

      -- its group may be flagged
      pub close_ask : CloseAsks xs w f k v
      close_ask =
          let l = q.stage.long in
          record {
            worded = record { long = omega (arith, q.split.worded.long); few = omega (arith, q.split.worded.few) };
            few = λ g h. stage_small q.split.plain q.stage g (omega arith);
            fresh = λ g h. unfold state in (stage_fresh q.split.plain q.stage g (omega arith));
            here = in_words;
            standing = standing;
            corner = q.corner;
            point = point_then;
            giving = λ o t. giving (subst (λ i. T (opens fs i)) same_id (subst (λ l. T (opens l (id_of w f k))) same_list o)) ∙ sym giver_same;
          }

      -- whether the point was met
      extra_is : {x b : Bool} → x ≡ met_at xs w v f k → x ≡ b → opens fs E ≡ b
      unfolding met_at
      extra_is e t =
          fresh_opens fs E inside fresh
          ∙ ap (λ u. met fs u E) point
          ∙ ap₂ (λ (l : List Face) (i : ℕ). met l v i) (sym same_list) (sym same_id)
          ∙ sym (met_read xs w f in_words standing k v q.corner)
          ∙ sym e ∙ t

      module _ {w' : List ℕ} {taken : ℕ} (c : CloseGives xs w f k w' taken) where
        -- the words, as at first
        closed_at : (g : ℕ) → g < length w₀ → get_or w' g 0 ≡ get_or w₀ g 0 + cond (stands w₀ g) (word_to fs E (place w₀ g)) 0 + cond (stands w₀ g) (three_of (same_group fs E) (place w₀ g)) 0
        closed_at g h =
            let l = q.stage.long in
            c.at g (omega arith)
            ∙ ap₂ (λ (a b : ℕ). a + b) (q.stage.at g h)
            (λ j. cond (same_stands g h j) (three_of (same_group (same_list j) (same_id j)) (same_place g h j)) 0)

        -- the point was not met
        pub closed : {x : Bool} → x ≡ met_at xs w v f k → not x ≡ true → CornerGives q w' splits bytes
        closed {x} e t =
            let shut : opens fs E ≡ false = extra_is e (off x t) in
            record {
              stage = record { long = c.long ∙ q.stage.long; at = λ g h. closed_at g h ∙ both g (stands w₀ g) shut };
              counted = told_stays fs P E splits bytes shut q.counted;
            }
          where
            off : (b : Bool) → not b ≡ true → b ≡ false
            off true e = sym e
            off false e = refl

            both : (g : ℕ) (b : Bool) → opens fs E ≡ false → get_or w₀ g 0 + cond b (word_to fs E (place w₀ g)) 0 + cond b (three_of (same_group fs E) (place w₀ g)) 0 ≡ get_or w₀ g 0 + cond b (word_to fs (suc E) (place w₀ g)) 0
            both g true shut = omega (arith, word_more fs E inside fresh (place w₀ g), no_mark fs E inside shut (place w₀ g))
            both g false shut = omega arith

        -- the word that is marked is small
        pub mark_small : get_or w' f 0 < 1300
        mark_small =
            rw (c.at f in_words) (go (stands w f))
          where
            go : (b : Bool) → get_or w f 0 + cond b (three_of (same_group (viewed xs w) (id_of w f k)) (place w f)) 0 < 1300
            go true = omega (arith, stage_small q.split.plain q.stage f q.here, three_most (same_group (viewed xs w) (id_of w f k)) (place w f))
            go false = omega (arith, stage_small q.split.plain q.stage f q.here)

        -- it was
        pub opened :
            {x : Bool} {n old new : ℕ} → x ≡ met_at xs w v f k → not x ≡ false → n ≡ bit_of k → old ≡ length (decimal v) → new ≡ length (decimal (P + splits))
            → CornerGives q (set w' f (get_or w' f 0 + 8 * n)) (splits + 1) (bytes + 4 + old + new + taken)
        opened {x} {n} {old} {new} e t en eo enew =
            let o : opens fs E ≡ true = extra_is e (on x t) in
            let to : T (opens fs E) = subst T (sym o) tt in
            record {
              stage = record { long = length-set w' f (get_or w' f 0 + 8 * n) ∙ c.long ∙ q.stage.long; at = λ g h. at g h o (ℕ_discrete g f) };
              counted =
                  told_more fs P E splits bytes old new taken to q.counted (weighs to) (size (corner_at fs E) old (eo ∙ ap (λ u. length (decimal u)) (sym point))) (size (P + splits) new enew)
                  (rw eo (decimal_short v)) (rw enew (decimal_short (P + splits))) c.most;
            }
          where
            on : (b : Bool) → not b ≡ false → b ≡ true
            on true e = refl
            on false e = sym e

            size : (u r : ℕ) → r ≡ length (decimal u) → field u ≡ 1 + r
            size u r e = unfold field in (omega (arith, e))

            weighs : T (opens fs E) → 2 + field (corner_at fs E) + taken ≡ weight fs E
            weighs o =
                subst (λ i. T (opens fs i) → 2 + field (corner_at fs i) + taken ≡ weight fs i) same_id
                (subst (λ l. T (opens l (id_of w f k)) → 2 + field (corner_at l (id_of w f k)) + taken ≡ weight l (id_of w f k)) same_list c.bytes) o

            other : (g : ℕ) (b : Bool) → stands w₀ g ≡ b → g ≢ f → get_or w₀ g 0 + cond b (word_to fs E (place w₀ g)) 0 + cond b (three_of (same_group fs E) (place w₀ g)) 0 ≡ get_or w₀ g 0 + cond b (word_to fs (suc E) (place w₀ g)) 0
            other g false s n = omega arith
            other g true s n =
                omega (arith, word_more fs E inside fresh (place w₀ g), other_mark fs E inside (place w₀ f) k (place w₀ g) refl q.corner (λ i. n (count_injective (stands w₀) g f (subst T (sym s) tt) q.standing i)))

            at : (g : ℕ) → g < length w₀ → opens fs E ≡ true → Dec (g ≡ f) → get_or (set w' f (get_or w' f 0 + 8 * n)) g 0 ≡ get_or w₀ g 0 + cond (stands w₀ g) (word_to fs (suc E) (place w₀ g)) 0
            at g h o (no m) = get_or-set_other w' f g (get_or w' f 0 + 8 * n) 0 m ∙ closed_at g h ∙ other g (stands w₀ g) refl m
            at g h o (yes m) =
                subst (λ i. get_or (set w' f (get_or w' f 0 + 8 * n)) i 0 ≡ get_or w₀ i 0 + cond (stands w₀ i) (word_to fs (suc E) (place w₀ i)) 0) (sym m)
                (get_or-set_same w' f (get_or w' f 0 + 8 * n) 0 (omega (arith, c.long, in_words))
                ∙ ap₂ (λ (a b : ℕ). a + 8 * b) (closed_at f q.here) en
                ∙ rw (is_true (stands w₀ f) q.standing) (omega (arith, word_more fs E inside fresh (place w₀ f), own_mark fs E inside (place w₀ f) k refl q.corner o)))
