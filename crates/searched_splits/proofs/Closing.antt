-- The group of one corner is flagged: by a search, or, in a face with three equal corners, that corner alone. Assumes nothing.
use mathlib.Core.Path.{◌≡◌, refl, sym, ap, ap₂, ◌∙◌, subst}
use mathlib.Core.Logic.{◌≢◌}
use mathlib.Core.Bool.{Bool, true, false, ◌&&◌, cond}
use mathlib.Core.List.{List, [], ◌∷◌}
use Prim.Native.Nat.{ℕ, ◌+◌, ◌*◌, ◌/◌, ◌≤◌, ◌<◌}
use native.Mathlib.Omega.{arith}
use native.Mathlib.Decide.{ℕ_discrete}
use borrow.Author.Tests.{ne_eqb}
use lib.Dec.{T, eqb}
use lib.Ieee.Bits.{is_true}
use lib.ListN.{length, get_or, set, length-set}
use lib.Seq.{get_or-set_same, get_or-set_other}
use Rattle.rules.specs.Lists.{below, filter, count}
use Rattle.rules.specs.Mesh.{Face, face}
use Rattle.rules.specs.Line.{decimal}
use Rattle.rule_laws.proofs.Counting.{count_injective, count_below_le}
use Rattle.splitting.specs.Corners.{corner_at}
use Rattle.splitting.proofs.Entries.{three_at}
use Rattle.fan_laws.specs.Sums.{sum_of, field}
use Rattle.fan_laws.specs.Opening.{opens, single, giver, is_in_group, weight}
use Rattle.fan_laws.proofs.Weights.{weight_group, weight_alone}
use Rattle.face_words.specs.Words.{stands, view, viewed, place}
use Rattle.face_words.proofs.Places.{viewed_face, viewed_length, place_in}
use Rattle.searched_fans.specs.Reaching.{flags_of, flags_at, ReachAsks, ReachGives}
use Rattle.searched_fans.proofs.Settling.{field_most}
use Rattle.searched_fans.proofs.Grouping.{view_origin}
use Rattle.searched_splits.specs.Splits.{one, same_group, three_of, bit_of, gives_in, id_of, CloseAsks, CloseGives}
use Rattle.searched_splits.proofs.Leading.{group_corner, group_one}
use Rattle.searched_splits.proofs.Flags.{three_same, three_own, three_none}

-- fields, eleven bytes each at most
sum_most : (g : ℕ → ℕ) → ((x : ℕ) → g x ≤ 11) → (xs : List ℕ) → sum_of g xs ≤ 11 * length xs
unfolding sum_of
sum_most g h [] = omega arith
sum_most g h (x ∷ xs) = omega (arith, h x, sum_most g h xs)

-- a flag is at most 64
pub bit_most : (k : ℕ) → bit_of k ≤ 64
unfolding bit_of
bit_most k = go (eqb k 0) (eqb k 1)
  where
    go : (a b : Bool) → cond a 16 (cond b 32 64) ≤ 64
    go true b = omega arith
    go false true = omega arith
    go false false = omega arith

-- a bit as a flag
as_flag : (a : Bool) (n : ℕ) → cond a n 0 ≡ n * one a
as_flag true n = omega arith
as_flag false n = omega arith

-- three bits under a test
under : (b a₁ a₂ a₃ : Bool) → cond b (cond a₁ 16 0 + cond a₂ 32 0 + cond a₃ 64 0) 0 ≡ 16 * one (b && a₁) + 32 * one (b && a₂) + 64 * one (b && a₃)
under true a₁ a₂ a₃ = omega (arith, as_flag a₁ 16, as_flag a₂ 32, as_flag a₃ 64)
under false a₁ a₂ a₃ = omega arith

module _ {xs w : List ℕ} {f k v : ℕ} (p : CloseAsks xs w f k v) where
  abbrev fs : List Face
  fs = viewed xs w

  abbrev E : ℕ
  E = id_of w f k

  -- it is one of the corners
  inside : E < 3 * length fs
  inside = omega (arith, place_in xs w f p.here p.standing, p.corner)

  -- its face
  own : E / 3 ≡ place w f
  own = omega (arith, p.corner)

  -- as it is seen
  own_face : face fs (E / 3) ≡ view xs w f
  own_face = ap (face fs) own ∙ viewed_face xs w f p.here p.standing

  -- ---- a face with different corners

  module _ (e : single (view xs w f) ≡ false) where
    -- the search may begin
    pub reach_ask : ReachAsks xs w f v
    reach_ask =
        record {
          id = E;
          worded = p.worded;
          few = λ g h. omega (arith, p.few g h);
          fresh = p.fresh;
          here = p.here;
          standing = p.standing;
          several = e;
          inside = inside;
          own = own;
          point = p.point;
        }

    -- its group's flags at the face at place i
    group_flags : (i : ℕ) → i < length fs → cond (is_in_group fs E i) (flags_at (face fs i) v) 0 ≡ three_of (same_group fs E) i
    unfolding three_of flags_of
    group_flags i h =
        ap (λ g. cond (is_in_group fs E i) (flags_at g v) 0) (three_at fs i h)
        ∙ under (is_in_group fs E i) (eqb (corner_at fs (3 * i)) v) (eqb (corner_at fs (3 * i + 1)) v) (eqb (corner_at fs (3 * i + 2)) v)
        ∙ (λ j. 16 * one (at (3 * i) (omega arith) (omega arith) j) + 32 * one (at (3 * i + 1) (omega arith) (omega arith) j) + 64 * one (at (3 * i + 2) (omega arith) (omega arith) j))
      where
        at : (z : ℕ) → z < 3 * length fs → z / 3 ≡ i → (is_in_group fs E i && eqb (corner_at fs z) v) ≡ same_group fs E z
        at z hz q = sym (group_corner fs E inside (ap single own_face ∙ e) z hz ∙ ap₂ (λ (a : ℕ) (b : ℕ). is_in_group fs E a && eqb (corner_at fs z) b) q p.point)

    -- what the search gives
    pub reached : {w' : List ℕ} {r : ℕ} → ReachGives reach_ask w' r → CloseGives xs w f k w' r
    unfolding reach_ask
    reached {w'} {r} q =
        record {
          long = q.long;
          at = λ g h. q.at g h ∙ ap (λ (n : ℕ). get_or w g 0 + n) (word g h (stands w g) refl);
          bytes = λ t. ap (λ (n : ℕ). 2 + field (corner_at fs E) + n) q.bytes ∙ sym (weight_group fs E inside (ap single own_face ∙ e));
          most = omega (arith, q.bytes, sum_most (λ i. field (face fs i).origin) (λ i. field_most (face fs i).origin) (filter (is_in_group fs E) (below (length fs))), few, viewed_length xs w, count_below_le (stands w) (length w), p.worded.few);
        }
      where
        few : length (filter (is_in_group fs E) (below (length fs))) ≤ length fs
        few = unfold count in (count_below_le (is_in_group fs E) (length fs))

        word : (g : ℕ) → g < length w → (b : Bool) → stands w g ≡ b → cond (b && is_in_group fs E (place w g)) (flags_at (view xs w g) v) 0 ≡ cond b (three_of (same_group fs E) (place w g)) 0
        word g h false s = refl
        word g h true s =
            let t : T (stands w g) = subst T (sym s) tt in
            ap (λ c. cond (is_in_group fs E (place w g)) (flags_at c v) 0) (sym (viewed_face xs w g h t)) ∙ group_flags (place w g) (place_in xs w g h t)

  -- ---- a face with three equal corners

  module _ (t : T (single (view xs w f))) where
    -- its corner is alone
    alone : T (single (face fs (E / 3)))
    alone = subst (λ g. T (single g)) (sym own_face) t

    -- the words then
    flag_own : (n : ℕ) → n ≡ bit_of k → (g : ℕ) → g < length w → get_or (set w f (get_or w f 0 + n)) g 0 ≡ get_or w g 0 + cond (stands w g) (three_of (same_group fs E) (place w g)) 0
    flag_own n e g h = go (ℕ_discrete g f)
      where
        here : three_of (same_group fs E) (place w f) ≡ bit_of k
        here = three_same (same_group fs E) (λ id. eqb id E) (place w f) (λ j l. group_one fs E inside alone (3 * place w f + j)) ∙ three_own (place w f) k p.corner

        there : g ≢ f → T (stands w g) → three_of (same_group fs E) (place w g) ≡ 0
        there n s =
            three_none (same_group fs E) (place w g)
            (λ j l. group_one fs E inside alone (3 * place w g + j) ∙ ne_eqb (3 * place w g + j) E (λ q. n (count_injective (stands w) g f s p.standing (omega (arith, p.corner)))))

        other : g ≢ f → (b : Bool) → stands w g ≡ b → get_or w g 0 ≡ get_or w g 0 + cond b (three_of (same_group fs E) (place w g)) 0
        other n true s = omega (arith, there n (subst T (sym s) tt))
        other n false s = omega arith

        go : Dec (g ≡ f) → get_or (set w f (get_or w f 0 + n)) g 0 ≡ get_or w g 0 + cond (stands w g) (three_of (same_group fs E) (place w g)) 0
        go (yes q) =
            rw (q, is_true (stands w f) p.standing) (get_or-set_same w f (get_or w f 0 + n) 0 p.here ∙ ap (λ (m : ℕ). get_or w f 0 + m) (e ∙ sym here))
        go (no q) = get_or-set_other w f g (get_or w f 0 + n) 0 q ∙ other q (stands w g) refl

    -- what it weighs
    weighs : T (opens fs E) → weight fs E ≡ 2 + field (corner_at fs E) + cond (gives_in (get_or w f 0) k) (field f) 0
    weighs o =
        weight_alone fs E inside alone
        ∙ ap₂ (λ (b : Bool) (n : ℕ). 2 + field (corner_at fs E) + cond b (field n) 0) (ap (λ i. eqb E (giver fs i)) own ∙ sym (p.giving o t)) (ap (λ g. g.origin) own_face ∙ view_origin xs w f p.worded p.here)

    -- the face takes the point
    pub given : {n r : ℕ} → n ≡ bit_of k → gives_in (get_or w f 0) k ≡ true → r ≡ length (decimal f) → CloseGives xs w f k (set w f (get_or w f 0 + n)) (1 + r)
    given {n} {r} e g q =
        record {
          long = length-set w f (get_or w f 0 + n);
          at = flag_own n e;
          bytes = λ o. sym (weighs o ∙ ap (λ (b : Bool). 2 + field (corner_at fs E) + cond b (field f) 0) g ∙ unfold field in (omega (arith, q)));
          most = few;
        }
      where
        few : 1 + r ≤ 11534336
        few = let m = field_most f in omega (arith, m, size)
          where
            size : field f ≡ 1 + r
            size = unfold field in (omega (arith, q))

    -- it does not
    pub kept : {n : ℕ} → n ≡ bit_of k → gives_in (get_or w f 0) k ≡ false → CloseGives xs w f k (set w f (get_or w f 0 + n)) 0
    kept {n} e g =
        record {
          long = length-set w f (get_or w f 0 + n);
          at = flag_own n e;
          bytes = λ o. sym (weighs o ∙ ap (λ (b : Bool). 2 + field (corner_at fs E) + cond b (field f) 0) g);
          most = omega arith;
        }
