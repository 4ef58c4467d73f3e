-- Corners at the same end of steps of one edge are joined in the words of pass 5, and all that are joined there are such. Assumes nothing.
use mathlib.Core.Path.{◌≡◌, refl, sym, ap, ◌∙◌, subst}
use mathlib.Core.Logic.{◌⊎◌, inl, inr, ◌≢◌}
use mathlib.Core.Bool.{Bool, true, false, cond}
use mathlib.Core.List.{List, Memᴰ}
use Prim.Native.Nat.{ℕ, ◌+◌, ◌*◌, ◌-◌, ◌/◌, ◌%◌, ◌≤◌, ◌<◌, min, max}
use native.Mathlib.Omega.{arith}
use native.Mathlib.Decide.{dec_lt, ℕ_discrete}
use borrow.Author.Tests.{eq-eqb, ne_eqb, lt-ltb, le-ltb, eqb-true, eqb-false}
use lib.ListN.{length, get_or}
use lib.Dec.{T, eqb, eqb→eq}
use lib.Ieee.Fits.{and_i}
use Rattle.rules.specs.Mesh.{Face, face, faces_of, corners}
use Rattle.rules.specs.Steps.{step, edge}
use Rattle.rules.specs.Pass5.{share}
use Rattle.rule_laws.proofs.Tests.{and_elim}
use Rattle.rule_laws.proofs.Members.{mem_three}
use Rattle.rule_laws.proofs.Flat.{face_at, flat_faces_back}
use Rattle.rule_laws.proofs.Fans.{share_elim, share_intro}
use Rattle.table.specs.Entries.{next, step_at}
use Rattle.table.proofs.Ids.{next_in, step_flat}
use Rattle.splitting.specs.Corners.{corner_at, joined_at}
use Rattle.corner_groups.specs.Sides.{lower_of, higher_of}

-- the corner after one of a face is of the face
next_face : (i : ℕ) → next i / 3 ≡ i / 3
next_face i = go (eqb (i % 3) 2) refl
  where
    go : (b : Bool) → eqb (i % 3) 2 ≡ b → cond b (i - 2) (i + 1) / 3 ≡ i / 3
    go true e = let q = eqb-true (i % 3) 2 e in omega arith
    go false e = let q = eqb-false (i % 3) 2 e in omega arith

-- of two corners of a face one comes after the other
next_or : (x y : ℕ) → x / 3 ≡ y / 3 → x ≢ y → (next x ≡ y) ⊎ (next y ≡ x)
next_or x y f ne = go (eqb (x % 3) 2) (eqb (y % 3) 2) refl refl
  where
    pick : (a b : ℕ) → Dec (a ≡ y) → (a ≢ y → b ≡ x) → (a ≡ y) ⊎ (b ≡ x)
    pick a b (yes e) r = inl e
    pick a b (no e) r = inr (r e)

    go : (p q : Bool) → eqb (x % 3) 2 ≡ p → eqb (y % 3) 2 ≡ q → (cond p (x - 2) (x + 1) ≡ y) ⊎ (cond q (y - 2) (y + 1) ≡ x)
    go true true ep eq = absurd (ne (let a = eqb-true (x % 3) 2 ep in let b = eqb-true (y % 3) 2 eq in omega arith))
    go true false ep eq = let a = eqb-true (x % 3) 2 ep in let b = eqb-false (y % 3) 2 eq in pick (x - 2) (y + 1) (ℕ_discrete (x - 2) y) (λ n. omega arith)
    go false true ep eq = let a = eqb-false (x % 3) 2 ep in let b = eqb-true (y % 3) 2 eq in pick (x + 1) (y - 2) (ℕ_discrete (x + 1) y) (λ n. omega arith)
    go false false ep eq = let a = eqb-false (x % 3) 2 ep in let b = eqb-false (y % 3) 2 eq in pick (x + 1) (y + 1) (ℕ_discrete (x + 1) y) (λ n. omega arith)

-- which corner of its face it is
which : (i : ℕ) → (i ≡ 3 * (i / 3)) ⊎ ((i ≡ 3 * (i / 3) + 1) ⊎ (i ≡ 3 * (i / 3) + 2))
which i = go (ℕ_discrete (i % 3) 0) (ℕ_discrete (i % 3) 1)
  where
    go : Dec (i % 3 ≡ 0) → Dec (i % 3 ≡ 1) → (i ≡ 3 * (i / 3)) ⊎ ((i ≡ 3 * (i / 3) + 1) ⊎ (i ≡ 3 * (i / 3) + 2))
    go (yes e) d = inl (omega arith)
    go (no e) (yes d) = inr (inl (omega arith))
    go (no e) (no d) = inr (inr (omega arith))

module _ (xs : List ℕ) (whole : length xs % 3 ≡ 0) where
  -- the faces
  abbrev fs : List Face
  fs = faces_of xs

  -- the point at a corner
  abbrev at : ℕ → ℕ
  at id = get_or xs id 0

  -- the point at a corner, from the flat list
  pub corner_flat : (id : ℕ) → corner_at fs id ≡ at id
  unfolding corner_at
  corner_flat id = ap (λ l. get_or l id 0) (flat_faces_back xs whole)

  -- it is a corner of its face
  pub corner_mem : (id : ℕ) → id < length xs → Memᴰ (at id) (corners (face fs (id / 3)))
  corner_mem id h = subst (λ f. Memᴰ (at id) (corners f)) (sym (face_at xs (id / 3) (omega arith))) (go (which id))
    where
      go : (id ≡ 3 * (id / 3)) ⊎ ((id ≡ 3 * (id / 3) + 1) ⊎ (id ≡ 3 * (id / 3) + 2)) → Memᴰ (at id) (corners (record { a = at (3 * (id / 3)); b = at (3 * (id / 3) + 1); c = at (3 * (id / 3) + 2); origin = id / 3 }))
      go (inl e) = Memᴰ.head (ap at e)
      go (inr (inl e)) = Memᴰ.tail (Memᴰ.head (ap at e))
      go (inr (inr e)) = Memᴰ.tail (Memᴰ.tail (Memᴰ.head (ap at e)))

  -- and each corner of a face is one
  pub mem_corner : (i u : ℕ) → 3 * i + 2 < length xs → Memᴰ u (corners (face fs i)) → (id : ℕ) × (id < length xs) × (id / 3 ≡ i) × (at id ≡ u)
  mem_corner i u h m = go (mem_three (subst (λ f. Memᴰ u (corners f)) (face_at xs i h) m))
    where
      go : (u ≡ at (3 * i)) ⊎ ((u ≡ at (3 * i + 1)) ⊎ (u ≡ at (3 * i + 2))) → (id : ℕ) × (id < length xs) × (id / 3 ≡ i) × (at id ≡ u)
      go (inl e) = (3 * i, omega arith, omega arith, sym e)
      go (inr (inl e)) = (3 * i + 1, omega arith, omega arith, sym e)
      go (inr (inr e)) = (3 * i + 2, omega arith, omega arith, sym e)

  -- joined corners, in words
  pub joined_intro : (x y u : ℕ) → at x ≡ at y → u ≢ at x → Memᴰ u (corners (face fs (x / 3))) → Memᴰ u (corners (face fs (y / 3))) → T (joined_at fs x y)
  unfolding joined_at
  joined_intro x y u e ne mx my =
      rw (corner_flat x, corner_flat y)
      (and_i (eqb (at x) (at y)) (share (at x) (face fs (x / 3)) (face fs (y / 3))) (rw (eq-eqb (at x) (at y) e) tt) (share_intro (at x) (face fs (x / 3)) (face fs (y / 3)) u ne mx my))

  -- and what joined corners have
  pub joined_elim : (x y : ℕ) → T (joined_at fs x y) → (at x ≡ at y) × ((u : ℕ) × (u ≢ at x) × Memᴰ u (corners (face fs (x / 3))) × Memᴰ u (corners (face fs (y / 3))))
  unfolding joined_at
  joined_elim x y t =
      let w = and_elim (eqb (corner_at fs x) (corner_at fs y)) (share (corner_at fs x) (face fs (x / 3)) (face fs (y / 3))) t in
      (sym (corner_flat x) ∙ eqb→eq (corner_at fs x) (corner_at fs y) w.0 ∙ corner_flat y, share_elim (at x) (face fs (x / 3)) (face fs (y / 3)) (subst (λ v. T (share v (face fs (x / 3)) (face fs (y / 3)))) (corner_flat x) w.1))

  -- ---- the ends of a step

  -- the edge of a step
  pub edge_flat : (s : ℕ) → s < length xs → edge (step_at fs s) ≡ step (min (at s) (at (next s))) (max (at s) (at (next s)))
  unfolding edge
  edge_flat s h = ap edge (step_flat xs whole s h)

  -- the other end is of the same face
  other_mem : (s : ℕ) → s < length xs → Memᴰ (at (next s)) (corners (face fs (s / 3)))
  other_mem s h = subst (λ f. Memᴰ (at (next s)) (corners (face fs f))) (next_face s) (corner_mem (next s) (next_in (length xs) s whole h))

  -- a corner at v, of a face with the corner u
  pub record Stands (v u id : ℕ) : Type 0 where
    pub is_at : at id ≡ v
    pub with : Memᴰ u (corners (face fs (id / 3)))

  -- the corner at the lower end
  lower_at : (s : ℕ) → s < length xs → at s ≢ at (next s) → Stands (min (at s) (at (next s))) (max (at s) (at (next s))) (lower_of xs s)
  lower_at s h ne = go (dec_lt (at s) (at (next s)))
    where
      up : at s < at (next s) → lower_of xs s ≡ s
      up l = rw (ne_eqb (at s) (at (next s)) ne, lt-ltb (at s) (at (next s)) l)

      down : at (next s) ≤ at s → lower_of xs s ≡ next s
      down l = rw (ne_eqb (at s) (at (next s)) ne, le-ltb (at s) (at (next s)) l)

      go : Dec (at s < at (next s)) → Stands (min (at s) (at (next s))) (max (at s) (at (next s))) (lower_of xs s)
      go (yes l) =
          let a : min (at s) (at (next s)) ≡ at s = omega arith in
          let b : max (at s) (at (next s)) ≡ at (next s) = omega arith in
          rw (a, b) (subst (λ i. Stands (at s) (at (next s)) i) (sym (up l)) (record { is_at = refl; with = other_mem s h }))
      go (no l) =
          let a : min (at s) (at (next s)) ≡ at (next s) = omega arith in
          let b : max (at s) (at (next s)) ≡ at s = omega arith in
          rw (a, b) (subst (λ i. Stands (at (next s)) (at s) i) (sym (down (omega arith))) (record { is_at = refl; with = subst (λ f. Memᴰ (at s) (corners (face fs f))) (sym (next_face s)) (corner_mem s h) }))

  -- the corner at the higher end
  higher_at : (s : ℕ) → s < length xs → at s ≢ at (next s) → Stands (max (at s) (at (next s))) (min (at s) (at (next s))) (higher_of xs s)
  higher_at s h ne = go (dec_lt (at s) (at (next s)))
    where
      up : at s < at (next s) → higher_of xs s ≡ next s
      up l = rw (ne_eqb (at s) (at (next s)) ne, lt-ltb (at s) (at (next s)) l)

      down : at (next s) ≤ at s → higher_of xs s ≡ s
      down l = rw (ne_eqb (at s) (at (next s)) ne, le-ltb (at s) (at (next s)) l)

      go : Dec (at s < at (next s)) → Stands (max (at s) (at (next s))) (min (at s) (at (next s))) (higher_of xs s)
      go (yes l) =
          let a : min (at s) (at (next s)) ≡ at s = omega arith in
          let b : max (at s) (at (next s)) ≡ at (next s) = omega arith in
          rw (a, b) (subst (λ i. Stands (at (next s)) (at s) i) (sym (up l)) (record { is_at = refl; with = subst (λ f. Memᴰ (at s) (corners (face fs f))) (sym (next_face s)) (corner_mem s h) }))
      go (no l) =
          let a : min (at s) (at (next s)) ≡ at (next s) = omega arith in
          let b : max (at s) (at (next s)) ≡ at s = omega arith in
          rw (a, b) (subst (λ i. Stands (at s) (at (next s)) i) (sym (down (omega arith))) (record { is_at = refl; with = other_mem s h }))

  -- corners at v of faces with the corner u are joined
  two_stand : {v u x y : ℕ} → u ≢ v → Stands v u x → Stands v u y → T (joined_at fs x y)
  two_stand {v} {u} {x} {y} ne a b = joined_intro x y u (a.is_at ∙ sym b.is_at) (λ e. ne (e ∙ a.is_at)) a.with b.with

  module _ (s t : ℕ) (hs : s < length xs) (ht : t < length xs) (e : edge (step_at fs s) ≡ edge (step_at fs t)) where
    ends : step (min (at s) (at (next s))) (max (at s) (at (next s))) ≡ step (min (at t) (at (next t))) (max (at t) (at (next t)))
    ends = sym (edge_flat s hs) ∙ e ∙ edge_flat t ht

    low : min (at s) (at (next s)) ≡ min (at t) (at (next t))
    low = ap (λ d. d.from) ends

    high : max (at s) (at (next s)) ≡ max (at t) (at (next t))
    high = ap (λ d. d.to) ends

    -- corners at the same end of steps of one edge are joined, or they are the same
    pub lowers_joined : (lower_of xs s ≡ lower_of xs t) ⊎ T (joined_at fs (lower_of xs s) (lower_of xs t))
    lowers_joined = go (ℕ_discrete (at s) (at (next s)))
      where
        go : Dec (at s ≡ at (next s)) → (lower_of xs s ≡ lower_of xs t) ⊎ T (joined_at fs (lower_of xs s) (lower_of xs t))
        go (yes q) = inl (rw (eq-eqb (at s) (at (next s)) q, eq-eqb (at t) (at (next t)) (omega (arith, low, high))))
        go (no q) =
            inr (two_stand (λ z. absurd (q (omega arith))) (lower_at s hs q)
            (subst (λ v. Stands v (max (at s) (at (next s))) (lower_of xs t)) (sym low) (subst (λ u. Stands (min (at t) (at (next t))) u (lower_of xs t)) (sym high) (lower_at t ht (λ z. q (omega (arith, low, high)))))))

    pub highers_joined : (higher_of xs s ≡ higher_of xs t) ⊎ T (joined_at fs (higher_of xs s) (higher_of xs t))
    highers_joined = go (ℕ_discrete (at s) (at (next s)))
      where
        go : Dec (at s ≡ at (next s)) → (higher_of xs s ≡ higher_of xs t) ⊎ T (joined_at fs (higher_of xs s) (higher_of xs t))
        go (yes q) = inl (rw (eq-eqb (at s) (at (next s)) q, eq-eqb (at t) (at (next t)) (omega (arith, low, high))))
        go (no q) =
            inr (two_stand (λ z. absurd (q (omega arith))) (higher_at s hs q)
            (subst (λ v. Stands v (min (at s) (at (next s))) (higher_of xs t)) (sym high) (subst (λ u. Stands (max (at t) (at (next t))) u (higher_of xs t)) (sym low) (higher_at t ht (λ z. q (omega (arith, low, high)))))))

  -- ---- the step between two corners of a face

  -- a step of the edge {v, u}, with the corner x at v
  pub record Between (v u x s : ℕ) : Type 0 where
    pub here : s < length xs
    pub along : edge (step_at fs s) ≡ step (min v u) (max v u)
    pub up : v < u → lower_of xs s ≡ x
    pub down : u < v → higher_of xs s ≡ x

  -- there is one for each other corner of the face
  pub between : (x u : ℕ) → x < length xs → u ≢ at x → Memᴰ u (corners (face fs (x / 3))) → (s : ℕ) × Between (at x) u x s
  between x u h ne m =
      let w = mem_corner (x / 3) u (omega arith) m in
      go w.0 w.1 w.3 (next_or x w.0 (sym w.2) (λ e. ne (sym w.3 ∙ ap at (sym e))))
    where
      go : (y : ℕ) → y < length xs → at y ≡ u → (next x ≡ y) ⊎ (next y ≡ x) → (s : ℕ) × Between (at x) u x s
      go y hy e (inl n) =
          let a : at (next x) ≡ u = ap at n ∙ e in (
            x,
            record {
              here = h;
              along = edge_flat x h ∙ ap (λ z. step (min (at x) z) (max (at x) z)) a;
              up = λ l. rw (ne_eqb (at x) (at (next x)) (λ z. absurd (omega arith)), lt-ltb (at x) (at (next x)) (omega arith));
              down = λ l. rw (ne_eqb (at x) (at (next x)) (λ z. absurd (omega arith)), le-ltb (at x) (at (next x)) (omega arith));
            },
          )
      go y hy e (inr n) =
          let a : at (next y) ≡ at x = ap at n in
          let c : min (at y) (at (next y)) ≡ min (at x) u = omega arith in
          let d : max (at y) (at (next y)) ≡ max (at x) u = omega arith in (
            y,
            record {
              here = hy;
              along = edge_flat y hy ∙ ap (λ z. step z (max (at y) (at (next y)))) c ∙ ap (λ z. step (min (at x) u) z) d;
              up = λ l. rw (ne_eqb (at y) (at (next y)) (λ z. absurd (omega arith)), le-ltb (at y) (at (next y)) (omega arith)) n;
              down = λ l. rw (ne_eqb (at y) (at (next y)) (λ z. absurd (omega arith)), lt-ltb (at y) (at (next y)) (omega arith)) n;
            },
          )
