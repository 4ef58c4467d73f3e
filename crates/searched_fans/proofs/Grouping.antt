-- The group of a corner by the faces that stand: a face that shares v and another point with one of the group is of the group; and a set of faces that is
-- closed in this way and has the corner's face has all of them. Assumes nothing.
use mathlib.Core.Path.{◌≡◌, refl, sym, ap, ◌∙◌, subst}
use mathlib.Core.Bool.{Bool, true, false, cond}
use mathlib.Core.List.{List, Memᴰ}
use Prim.Native.Nat.{ℕ, ◌*◌, ◌/◌, ◌<◌}
use native.Mathlib.Omega.{arith}
use lib.Dec.{T, eqb, eqb→eq, eqb_refl}
use lib.Ieee.Fits.{and_i}
use lib.ListN.{length}
use Rattle.rules.specs.Lists.{has}
use Rattle.rules.specs.Mesh.{Face, face, faces_of, corners, exchanged}
use Rattle.rules.specs.Pass5.{share}
use Rattle.rule_laws.proofs.Tests.{and_elim}
use Rattle.rule_laws.proofs.Members.{mem_has, has_mem}
use Rattle.rule_laws.proofs.Counting.{count_onto}
use Rattle.rule_laws.proofs.Flat.{face_at}
use Rattle.rule_laws.proofs.Groups.{Chain, Chain.stay, Chain.link, group_chain, group_closed}
use Rattle.splitting.specs.Corners.{corner_at, joined_at}
use Rattle.splitting.proofs.Entries.{one_point}
use Rattle.fan_laws.specs.Opening.{is_in_group}
use Rattle.fan_laws.proofs.Takers.{corner_number, number_corner}
use Rattle.fan_laws.proofs.Weights.{in_group, group_in}
use Rattle.face_words.specs.Words.{stands, straight, view, viewed, place}
use Rattle.face_words.specs.Views.{Worded}
use Rattle.face_words.proofs.Places.{viewed_length, viewed_face, place_in}

-- a face's origin is its number
pub view_origin : (xs w : List ℕ) (g : ℕ) → Worded xs w → g < length w → (view xs w g).origin ≡ g
unfolding view exchanged
view_origin xs w g p h = go (straight w g) (ap (λ f. f.origin) (face_at xs g (omega (arith, p.long))))
  where
    go : (b : Bool) → (face (faces_of xs) g).origin ≡ g → (cond b (face (faces_of xs) g) (exchanged (face (faces_of xs) g))).origin ≡ g
    go true e = e
    go false e = e

module _ (xs w : List ℕ) where
  abbrev fs : List Face
  fs = viewed xs w

  abbrev all : ℕ
  all = 3 * length fs

  -- the face at a place
  pub at_place : (i : ℕ) → i < length fs → (g : ℕ) × (g < length w) × T (stands w g) × (place w g ≡ i)
  at_place i h = count_onto (stands w) (length w) i (omega (arith, viewed_length xs w))

  -- joined corners: of one point, and their faces share another
  pub joined_parts : (y z : ℕ) → T (joined_at fs y z) → (corner_at fs y ≡ corner_at fs z) × T (share (corner_at fs y) (face fs (y / 3)) (face fs (z / 3)))
  unfolding joined_at
  joined_parts y z t =
      let e = and_elim (eqb (corner_at fs y) (corner_at fs z)) (share (corner_at fs y) (face fs (y / 3)) (face fs (z / 3))) t in
      (eqb→eq (corner_at fs y) (corner_at fs z) e.0, e.1)

  -- and the other way
  pub joined_of : (v y z : ℕ) → corner_at fs y ≡ v → corner_at fs z ≡ v → T (share v (face fs (y / 3)) (face fs (z / 3))) → T (joined_at fs y z)
  unfolding joined_at
  joined_of v y z a b t =
      and_i (eqb (corner_at fs y) (corner_at fs z)) (share (corner_at fs y) (face fs (y / 3)) (face fs (z / 3))) (rw (a, b) (eqb_refl v)) (subst (λ u. T (share u (face fs (y / 3)) (face fs (z / 3)))) (sym a) t)

  -- all of a group are at one point
  chain_point : {id y : ℕ} → Chain (joined_at fs) all id y → corner_at fs y ≡ corner_at fs id
  chain_point stay = refl
  chain_point (link {j = j} {k = k} c t b) = sym (one_point fs j k t) ∙ chain_point c

  module _ (id v : ℕ) (hid : id < all) (point : corner_at fs id ≡ v) where
    -- a face that shares v and another point with one of the group is of the group
    pub join_group :
        (i g : ℕ) → i < length w → g < length w → T (stands w i) → T (stands w g) → T (is_in_group fs id (place w i)) → T (has v (corners (view xs w g))) → T (share v (view xs w i) (view xs w g))
        → T (is_in_group fs id (place w g))
    join_group i g hi hg si sg t h s =
        let a = in_group fs id (place w i) hid t in
        let y = a.0 in
        let cy : corner_at fs y ≡ v = chain_point (group_chain (joined_at fs) all id y a.3) ∙ point in
        let b = corner_number fs (place w g) v (place_in xs w g hg sg) (subst (λ f. Memᴰ v (corners f)) (sym (viewed_face xs w g hg sg)) (has_mem v (corners (view xs w g)) h)) in
        let z = b.0 in
        let ey : face fs (y / 3) ≡ view xs w i = ap (face fs) a.2 ∙ viewed_face xs w i hi si in
        let ez : face fs (z / 3) ≡ view xs w g = ap (face fs) b.2 ∙ viewed_face xs w g hg sg in
        let j : T (joined_at fs y z) = joined_of v y z cy b.3 (subst (λ k. T (share v k (face fs (z / 3)))) (sym ey) (subst (λ k. T (share v (view xs w i) k)) (sym ez) s)) in
        subst (λ k. T (is_in_group fs id k)) b.2 (group_in fs id z (group_closed (joined_at fs) all id y z hid b.1 a.3 j))

    -- a set of faces that has the corner's face, and with a face all that share v and another point with it
    module _ (S : ℕ → Type 0) (f : ℕ) (hf : f < length w) (sf : T (stands w f)) (own : id / 3 ≡ place w f) (start : S f)
        (closed : (i g : ℕ) → i < length w → g < length w → T (stands w i) → T (stands w g) → S i → T (has v (corners (view xs w g))) → T (share v (view xs w i) (view xs w g)) → S g) where
      -- has the face of each corner of the group
      chain_all : {y : ℕ} → Chain (joined_at fs) all id y → (g : ℕ) × (g < length w) × T (stands w g) × (place w g ≡ y / 3) × S g
      chain_all stay = (f, hf, sf, sym own, start)
      chain_all (link {j = j} {k = k} c t b) =
          let a = chain_all c in
          let p = at_place (k / 3) (omega arith) in
          let u = joined_parts j k t in
          let cj : corner_at fs j ≡ v = chain_point c ∙ point in
          let ej : face fs (j / 3) ≡ view xs w a.0 = ap (face fs) (sym a.3) ∙ viewed_face xs w a.0 a.1 a.2 in
          let ek : face fs (k / 3) ≡ view xs w p.0 = ap (face fs) (sym p.3) ∙ viewed_face xs w p.0 p.1 p.2 in
          let h : T (has v (corners (view xs w p.0))) =
          mem_has v (corners (view xs w p.0)) (subst (λ x. Memᴰ x (corners (view xs w p.0))) (sym u.0 ∙ cj) (subst (λ g. Memᴰ (corner_at fs k) (corners g)) ek (number_corner fs k b))) in
          let s : T (share v (view xs w a.0) (view xs w p.0)) =
          subst (λ g. T (share v (view xs w a.0) g)) ek (subst (λ g. T (share v g (face fs (k / 3)))) ej (subst (λ x. T (share x (face fs (j / 3)) (face fs (k / 3)))) cj u.1)) in
          (p.0, p.1, p.2, p.3, closed a.0 p.0 a.1 p.1 a.2 p.2 a.4 h s)

      -- so it has every face of the group
      pub all_of_group : (i : ℕ) → T (is_in_group fs id i) → (g : ℕ) × (g < length w) × T (stands w g) × (place w g ≡ i) × S g
      all_of_group i t =
          let a = in_group fs id i hid t in
          let r = chain_all (group_chain (joined_at fs) all id a.0 a.3) in
          (r.0, r.1, r.2, r.3 ∙ a.2, r.4)
