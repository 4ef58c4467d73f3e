-- The edges of the faces, written face by face, and that they are the rules'. Assumes nothing.
use mathlib.Core.Path.{◌≡◌, refl, sym, ap, ap₂, ◌∙◌}
use mathlib.Core.Bool.{cond}
use mathlib.Core.List.{List, [], ◌∷◌, ◌++◌, map}
use Prim.Native.Nat.{ℕ, zero, suc, ◌+◌, ◌-◌, ◌*◌, ◌/◌, ◌%◌, ◌≤◌, ◌<◌}
use native.Mathlib.Omega.{arith}
use borrow.Author.Tests.{eq-eqb, ne_eqb}
use lib.ListN.{length, get_or, take, set}
use Rattle.rows.specs.Region.{Only}
use Rattle.rows.proofs.Regions.{only_none, only_both, only_more}
use Rattle.rules.specs.Lists.{below, each}
use Rattle.rules.specs.Mesh.{Face, face, faces_of}
use Rattle.rules.specs.Steps.{step}
use Rattle.rules.specs.Edges.{position, face_edges}
use Rattle.rule_laws.proofs.Lists.{each_map}
use Rattle.rule_laws.proofs.Flat.{face_in, length_faces}
use Rattle.rule_laws.proofs.Splitting.{faces_by_place}
use Rattle.table.specs.Entries.{step_at}
use Rattle.table.proofs.Ids.{each_snoc, step_flat}
use Rattle.table.proofs.Theorems.{positions_row}
use Rattle.filling.proofs.Filling.{filled_whole}
use Rattle.listing.specs.Listing.{FaceEdgesAsks, FaceEdgesGives}
use Rattle.listing.proofs.Blocks.{block_next, three_only, three_part}

-- the runs of a face's steps 1, 2 and 0
abbrev pub side_row : List ℕ → ℕ → ℕ → ℕ → List ℕ
side_row w n at i = get_or w (at + 2 * n + 3 * i + 1) 0 ∷ get_or w (at + 2 * n + 3 * i + 2) 0 ∷ get_or w (at + 2 * n + 3 * i) 0 ∷ []

-- ---- the loop

-- the edges of the first i faces stand at the front
pub record Sides (w xs : List ℕ) (at : ℕ) (r₀ r : List ℕ) (i : ℕ) : Type 0 where
  pub at_most : i ≤ length xs / 3
  pub only : Only 0 (3 * i) r₀ r
  pub front : take (3 * i) r ≡ each (side_row w (length xs) at) (below i)

-- the bounds of a turn
pub record Turn (w xs : List ℕ) (at : ℕ) (r : List ℕ) (i : ℕ) : Type 0 where
  pub here : 3 * i + 3 ≤ length xs
  pub fit : at + 3 * length xs ≤ length w
  pub room : length xs ≤ length r

-- none does at first
pub begin : {w xs : List ℕ} {at : ℕ} {r : List ℕ} → FaceEdgesAsks w xs at r → Sides w xs at r r 0
begin {w} {xs} {at} {r} q = unfold below each in record { at_most = omega arith; only = only_none 0 0 r; front = refl }

module _ {w xs : List ℕ} {at : ℕ} {r₀ r : List ℕ} {i : ℕ} (q : FaceEdgesAsks w xs at r₀) (v : Sides w xs at r₀ r i) where
  module _ (h : i < length xs / 3) where
    -- the reads and the stores of a turn are in bounds
    pub turn : Turn w xs at r i
    turn = record { here = omega arith; fit = omega (arith, q.tabled.asks.fit); room = omega (arith, q.room, v.only.long) }

    -- one face more
    pub again :
        Sides w xs at r₀
        (set (set (set r (3 * i) (get_or w (at + 2 * length xs + 3 * i + 1) 0)) (3 * i + 1) (get_or w (at + 2 * length xs + 3 * i + 2) 0)) (3 * i + 2) (get_or w (at + 2 * length xs + 3 * i) 0)) (i + 1)
    again =
        let f : 3 * i + 3 ≤ length r = omega (arith, turn) in
        let x = get_or w (at + 2 * length xs + 3 * i + 1) 0 in
        let y = get_or w (at + 2 * length xs + 3 * i + 2) 0 in
        let z = get_or w (at + 2 * length xs + 3 * i) 0 in
        let s : 3 * (i + 1) ≡ 3 * i + 3 = omega arith in
        record {
          at_most = omega arith;
          only = only_both (only_more (omega arith) (omega arith) v.only) (only_more (omega arith) (omega arith) (three_only r (3 * i) x y z f));
          front = ap (λ j. take j (set (set (set r (3 * i) x) (3 * i + 1) y) (3 * i + 2) z)) s ∙ block_next 3 (side_row w (length xs) at) (three_only r (3 * i) x y z f) f v.front (three_part r (3 * i) x y z f);
        }

-- ---- the rules' words

-- lists that agree below n, one after the other
each_below : {B : Type 0} (g h : ℕ → List B) (n : ℕ) → ((i : ℕ) → i < n → g i ≡ h i) → each g (below n) ≡ each h (below n)
each_below g h zero e = unfold below each in refl
each_below g h (suc n) e = each_snoc g n ∙ ap₂ (λ u v. u ++ v) (each_below g h n (λ i l. e i (omega arith))) (e n (omega arith)) ∙ sym (each_snoc h n)

module _ {w xs : List ℕ} {at : ℕ} {r₀ : List ℕ} (q : FaceEdgesAsks w xs at r₀) where
  -- a whole number of faces
  abbrev whole : length xs % 3 ≡ 0
  whole = q.tabled.asks.whole

  -- the rules' positions of the edges of a face
  abbrev sidesOf : Face → List ℕ
  sidesOf f = map (position q.P (faces_of xs)) (step f.b f.c ∷ step f.c f.a ∷ step f.a f.b ∷ [])

  module _ (i : ℕ) (h : i < length xs / 3) where
    -- step 1 of face i
    step_one : step_at (faces_of xs) (3 * i + 1) ≡ step (get_or xs (3 * i + 1) 0) (get_or xs (3 * i + 2) 0)
    step_one =
        let k : (3 * i + 1) % 3 ≡ 1 = omega arith in
        step_flat xs whole (3 * i + 1) (omega arith)
        ∙ ap (λ b. step (get_or xs (3 * i + 1) 0) (get_or xs (cond b (3 * i + 1 - 2) (3 * i + 1 + 1)) 0)) (ne_eqb ((3 * i + 1) % 3) 2 (omega arith))
        ∙ ap (λ j. step (get_or xs (3 * i + 1) 0) (get_or xs j 0)) (omega arith)

    -- step 2
    step_two : step_at (faces_of xs) (3 * i + 2) ≡ step (get_or xs (3 * i + 2) 0) (get_or xs (3 * i) 0)
    step_two =
        let k : (3 * i + 2) % 3 ≡ 2 = omega arith in
        step_flat xs whole (3 * i + 2) (omega arith)
        ∙ ap (λ b. step (get_or xs (3 * i + 2) 0) (get_or xs (cond b (3 * i + 2 - 2) (3 * i + 2 + 1)) 0)) (eq-eqb ((3 * i + 2) % 3) 2 k)
        ∙ ap (λ j. step (get_or xs (3 * i + 2) 0) (get_or xs j 0)) (omega arith)

    -- step 0
    step_zero : step_at (faces_of xs) (3 * i) ≡ step (get_or xs (3 * i) 0) (get_or xs (3 * i + 1) 0)
    step_zero =
        let k : (3 * i) % 3 ≡ 0 = omega arith in
        step_flat xs whole (3 * i) (omega arith)
        ∙ ap (λ b. step (get_or xs (3 * i) 0) (get_or xs (cond b (3 * i - 2) (3 * i + 1)) 0)) (ne_eqb ((3 * i) % 3) 2 (omega arith))

    -- the runs of face i's steps are the positions of its edges
    side_is : side_row w (length xs) at i ≡ sidesOf (face (faces_of xs) i)
    side_is =
        let one : at + 2 * length xs + 3 * i + 1 ≡ at + 2 * length xs + (3 * i + 1) = omega arith in
        let two : at + 2 * length xs + 3 * i + 2 ≡ at + 2 * length xs + (3 * i + 2) = omega arith in
        ap₂ (λ u v. u ∷ v)
        (ap (λ j. get_or w j 0) one ∙ positions_row q.tabled (3 * i + 1) (omega arith) ∙ ap (position q.P (faces_of xs)) step_one)
        (ap₂ (λ u v. u ∷ v ∷ [])
        (ap (λ j. get_or w j 0) two ∙ positions_row q.tabled (3 * i + 2) (omega arith) ∙ ap (position q.P (faces_of xs)) step_two)
        (positions_row q.tabled (3 * i) (omega arith) ∙ ap (position q.P (faces_of xs)) step_zero))
        ∙ ap sidesOf (sym (face_in xs i h))

  -- of all faces
  all_sides : each (side_row w (length xs) at) (below (length xs / 3)) ≡ face_edges q.P (faces_of xs)
  unfolding face_edges
  all_sides =
      each_below (side_row w (length xs) at) (λ i. sidesOf (face (faces_of xs) i)) (length xs / 3) side_is
      ∙ ap (λ n. each (λ i. sidesOf (face (faces_of xs) i)) (below n)) (sym (length_faces xs))
      ∙ sym (each_map sidesOf (face (faces_of xs)) (below (length (faces_of xs))))
      ∙ ap (each sidesOf) (sym (faces_by_place (faces_of xs)))

  module _ {r : List ℕ} {i : ℕ} (v : Sides w xs at r₀ r i) where
    -- the room is the rules'
    pub done : length xs / 3 ≤ i → FaceEdgesGives q r
    done h =
        let s : 3 * i ≡ length xs = omega (arith, v.at_most, whole) in
        let e : i ≡ length xs / 3 = omega (arith, v.at_most) in
        record { whole = filled_whole 0 q.room (rw s at v.only) (ap (λ k. take k r) (sym s) ∙ v.front ∙ ap (λ k. each (side_row w (length xs) at) (below k)) e ∙ all_sides) }
