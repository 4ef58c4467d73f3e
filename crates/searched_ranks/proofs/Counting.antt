-- Marked corners that come before another, counted face after face. Assumes nothing.
use mathlib.Core.Path.{◌≡◌, refl, sym, ap, ap₂, ◌∙◌}
use mathlib.Core.Bool.{Bool, true, false, ◌&&◌, cond}
use mathlib.Core.List.{List}
use Prim.Native.Nat.{ℕ, ◌+◌, ◌*◌, ◌≤◌, ◌<◌}
use native.Mathlib.Omega.{arith}
use native.Mathlib.Numerals.{add-one}
use lib.ListN.{length, get_or}
use Rattle.rules.specs.Lists.{below, filter}
use Rattle.fan_laws.specs.Sums.{sum_of}
use Rattle.fan_laws.proofs.Sums.{sum_below}
use Rattle.face_words.specs.Words.{stands, view}
use Rattle.searched_splits.specs.Splits.{one, pick_of}
use Rattle.searched_splits.proofs.Flags.{one_most}
use Rattle.searched_ranks.specs.Ranks.{marked_in, before_in, count_at, face_count, rank_by}

-- ---- the order

-- ---- one corner

module _ (xs w : List ℕ) (v id g j : ℕ) where
  -- not marked
  pub unmarked : marked_in (get_or w g 0) j ≡ false → 0 ≡ count_at xs w v id g j
  unfolding count_at
  unmarked e = sym (ap (λ (b : Bool). one (b && before_in (pick_of (view xs w g).a (view xs w g).b (view xs w g).c j) v (3 * g + j) id)) e)

  -- marked
  pub by_order : (b : Bool) → marked_in (get_or w g 0) j ≡ true → before_in (pick_of (view xs w g).a (view xs w g).b (view xs w g).c j) v (3 * g + j) id ≡ b → one b ≡ count_at xs w v id g j
  unfolding count_at
  by_order b e f = sym (ap₂ (λ (a c : Bool). one (a && c)) e f)

  -- 1 at most
  pub count_most : count_at xs w v id g j ≤ 1
  unfolding count_at
  count_most = one_most (marked_in (get_or w g 0) j && before_in (pick_of (view xs w g).a (view xs w g).b (view xs w g).c j) v (3 * g + j) id)

-- ---- all faces

-- the faces before g
pub record Counted (xs w : List ℕ) (v id count g : ℕ) : Type 0 where
  pub most : g ≤ length w
  pub sum : count ≡ sum_of (face_count xs w v id) (filter (stands w) (below g))
  pub few : count ≤ 3 * g

-- none
pub begin : (xs w : List ℕ) (v id : ℕ) → Counted xs w v id 0 0
begin xs w v id = record { most = omega arith; sum = unfold below filter sum_of in refl; few = omega arith }

module _ {xs w : List ℕ} {v id count g : ℕ} (i : Counted xs w v id count g) (h : g < length w) where
  -- one face more
  next : (b : Bool) → stands w g ≡ b → sum_of (face_count xs w v id) (filter (stands w) (below (g + 1))) ≡ count + cond b (face_count xs w v id g) 0
  next b e = ap (λ k. sum_of (face_count xs w v id) (filter (stands w) (below k))) (add-one g) ∙ sum_below (face_count xs w v id) (stands w) g ∙ ap₂ (λ (n : ℕ) (t : Bool). n + cond t (face_count xs w v id g) 0) (sym i.sum) e

  -- it stands
  pub more : {a b c : ℕ} → stands w g ≡ true → a ≡ count_at xs w v id g 0 → b ≡ count_at xs w v id g 1 → c ≡ count_at xs w v id g 2 → Counted xs w v id (count + (a + b + c)) (g + 1)
  unfolding face_count
  more {a} {b} {c} e ea eb ec =
      record {
        most = omega arith;
        sum = omega (arith, next true e, ea, eb, ec);
        few = omega (arith, i.few, ea, eb, ec, count_most xs w v id g 0, count_most xs w v id g 1, count_most xs w v id g 2);
      }

  -- it is gone
  pub same : stands w g ≡ false → Counted xs w v id count (g + 1)
  same e = record { most = omega arith; sum = omega (arith, next false e); few = omega (arith, i.few) }

-- all
pub done : {xs w : List ℕ} {v id count g : ℕ} → Counted xs w v id count g → length w ≤ g → count ≡ rank_by xs w v id
unfolding rank_by
done {xs} {w} {v} {id} {count} {g} i h = let e : g ≡ length w = omega (arith, i.most) in i.sum ∙ ap (λ k. sum_of (face_count xs w v id) (filter (stands w) (below k))) e
