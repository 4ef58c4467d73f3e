-- The number that a corner takes, read from the rows, is what the pass makes of the corner. Assumes nothing.
use mathlib.Core.Path.{◌≡◌, refl, sym, ap, ◌∙◌, subst}
use mathlib.Core.Logic.{◌⊎◌, inl, inr, ◌≢◌}
use mathlib.Core.Bool.{◌&&◌, cond}
use mathlib.Core.List.{List, map, Memᴰ}
use Prim.Native.Nat.{ℕ, ◌+◌, ◌*◌, ◌/◌, ◌%◌, ◌<◌}
use native.Mathlib.Omega.{arith}
use native.Mathlib.Decide.{ℕ_discrete}
use borrow.Author.Tests.{eq-eqb, ne_eqb}
use lib.Ieee.{Float}
use lib.ListN.{length, get_or}
use lib.Dec.{T, eqb}
use Rattle.rules.specs.Lists.{below}
use Rattle.rules.specs.Mesh.{Face, face, faces_of, corners, renamed}
use Rattle.rules.specs.Groups.{group, leads}
use Rattle.rule_laws.proofs.Members.{mem_three}
use Rattle.rule_laws.proofs.Once.{Inside, CornersBelow, face_inside}
use Rattle.rule_laws.proofs.Splitting.{face_map_below, length_map_below}
use Rattle.table.proofs.Ids.{three_faces}
use Rattle.splitting.specs.Corners.{corner_at, joined_at, number_at, base, goal_of}
use Rattle.splitting.proofs.Entries.{joined_turns, three_at}
use Rattle.splitting.proofs.Goals.{led, alone}
use Rattle.corner_groups.proofs.Laid.{leader_of_is}
use Rattle.corner_numbers.specs.Numbers.{led_by, alone_by, new_by}
use Rattle.split_bowtie_vertices.specs.Splits.{Reached}
use Rattle.split_bowtie_vertices.proofs.Places.{column_row}

-- which corner of its face a corner is
which : (i : ℕ) → (i ≡ 3 * (i / 3)) ⊎ ((i ≡ 3 * (i / 3) + 1) ⊎ (i ≡ 3 * (i / 3) + 2))
which i = go (ℕ_discrete (i % 3) 0) (ℕ_discrete (i % 3) 1)
  where
    go : Dec (i % 3 ≡ 0) → Dec (i % 3 ≡ 1) → (i ≡ 3 * (i / 3)) ⊎ ((i ≡ 3 * (i / 3) + 1) ⊎ (i ≡ 3 * (i / 3) + 2))
    go (yes e) d = inl (omega arith)
    go (no e) (yes d) = inr (inl (omega arith))
    go (no e) (no d) = inr (inr (omega arith))

-- the corners of faces that are made one by one
pub corner_made : (fs : List Face) (g : ℕ → ℕ → ℕ) (id : ℕ) → id < 3 * length fs → corner_at (map (λ i. renamed (g i) (face fs i)) (below (length fs))) id ≡ g (id / 3) (corner_at fs id)
corner_made fs g id h = go (which id)
  where
    gs : List Face
    gs = map (λ i. renamed (g i) (face fs i)) (below (length fs))

    i : ℕ
    i = id / 3

    hi : i < length fs
    hi = omega arith

    new : record { a = corner_at gs (3 * i); b = corner_at gs (3 * i + 1); c = corner_at gs (3 * i + 2); origin = (face gs i).origin } ≡ renamed (g i) (record { a = corner_at fs (3 * i); b = corner_at fs (3 * i + 1); c = corner_at fs (3 * i + 2); origin = (face fs i).origin })
    new = sym (three_at gs i (rw (length_map_below (λ k. renamed (g k) (face fs k)) (length fs)) hi)) ∙ face_map_below (λ k. renamed (g k) (face fs k)) (length fs) i hi ∙ ap (renamed (g i)) (three_at fs i hi)

    go : (id ≡ 3 * i) ⊎ ((id ≡ 3 * i + 1) ⊎ (id ≡ 3 * i + 2)) → corner_at gs id ≡ g i (corner_at fs id)
    go (inl e) = ap (corner_at gs) e ∙ ap (λ f. f.a) new ∙ (unfold renamed in ap (λ k. g i (corner_at fs k)) (sym e))
    go (inr (inl e)) = ap (corner_at gs) e ∙ ap (λ f. f.b) new ∙ (unfold renamed in ap (λ k. g i (corner_at fs k)) (sym e))
    go (inr (inr e)) = ap (corner_at gs) e ∙ ap (λ f. f.c) new ∙ (unfold renamed in ap (λ k. g i (corner_at fs k)) (sym e))

-- a corner of faces within Q points
pub corner_within : (Q : ℕ) (fs : List Face) → Inside Q fs → (id : ℕ) → id < 3 * length fs → corner_at fs id < Q
corner_within Q fs inside id h = go (which id) (subst (CornersBelow Q) (three_at fs (id / 3) (omega arith)) (face_inside Q fs inside (id / 3) (omega arith)))
  where
    go : (id ≡ 3 * (id / 3)) ⊎ ((id ≡ 3 * (id / 3) + 1) ⊎ (id ≡ 3 * (id / 3) + 2)) → CornersBelow Q (record { a = corner_at fs (3 * (id / 3)); b = corner_at fs (3 * (id / 3) + 1); c = corner_at fs (3 * (id / 3) + 2); origin = (face fs (id / 3)).origin }) → corner_at fs id < Q
    go (inl e) b = omega (arith, ap (corner_at fs) e, b.0)
    go (inr (inl e)) b = omega (arith, ap (corner_at fs) e, b.1)
    go (inr (inr e)) b = omega (arith, ap (corner_at fs) e, b.2)

module _ {ys : List ℕ} {P : ℕ} {ps₀ : List Float} {ps : List Float} {w : List ℕ} {begin next : ℕ} (q : Reached ys P ps₀ P ps w begin next) where
  -- the faces
  abbrev fs : List Face
  fs = faces_of ys

  -- where the numbers stand
  abbrev numbers : ℕ
  numbers = 13 * length ys + 2 + P

  -- where the first members stand
  abbrev leading : ℕ
  leading = 10 * length ys + 2 + P

  -- three corners for each face
  three : 3 * length fs ≡ length ys
  three = three_faces ys q.rows.whole

  -- the first member of a corner's group is a corner, leads and has the corner in its group
  pub leader_row :
      (id : ℕ) → id < length ys
      → (get_or w (leading + id) 0 < 3 * length fs) × T (leads (joined_at fs) (3 * length fs) (get_or w (leading + id) 0)) × Memᴰ id (group (joined_at fs) (3 * length fs) (get_or w (leading + id) 0))
  leader_row id h =
      subst (λ n. (get_or w (leading + id) 0 < n) × T (leads (joined_at fs) n (get_or w (leading + id) 0)) × Memᴰ id (group (joined_at fs) n (get_or w (leading + id) 0))) (sym three)
      (subst (λ l. (l < length ys) × T (leads (joined_at fs) (length ys) l) × Memᴰ id (group (joined_at fs) (length ys) l)) (sym (q.rows.led.each id h)) (leader_of_is (joined_at fs) (length ys) (joined_turns fs) id h))

  -- a corner is at a point
  at_point : (id : ℕ) → id < length ys → corner_at fs id < P
  at_point id h = omega (arith, column_row q.rows id h, (let e : id ≡ 0 + id = omega arith in ap (λ k. get_or w k 0) e), q.rows.column.each id h, q.rows.inside id h)

  module _ (id : ℕ) (h : id < length ys) where
    abbrev i : ℕ
    i = id / 3

    abbrev v : ℕ
    v = corner_at fs id

    hi : i < length fs
    hi = omega (arith, three)

    -- a face with another corner
    by_leader : (x : ℕ) → x ≢ v → Memᴰ x (corners (face fs i)) → led_by w leading numbers id ≡ goal_of fs P i v
    by_leader x ne m =
        let l = leader_row id h in
        let g = led fs P id (get_or w (leading + id) 0) x (omega (arith, three)) l.0 l.1 l.2 ne m in
        ap (λ k. get_or w (numbers + k) 0) g.2 ∙ q.numbered v g.0 (at_point id h) g.1 ∙ sym g.3

    -- the face's corners
    a : ℕ
    a = corner_at fs (3 * i)

    b : ℕ
    b = corner_at fs (3 * i + 1)

    c : ℕ
    c = corner_at fs (3 * i + 2)

    three_corners : corners (face fs i) ≡ corners (record { a = a; b = b; c = c; origin = (face fs i).origin })
    unfolding a b c
    three_corners = ap (λ f. corners f) (three_at fs i hi)

    -- a face with one point at all corners
    by_alone : (x : ℕ) → x < P → a ≡ x → b ≡ x → c ≡ x → alone_by w numbers (id / 3 * 3) ≡ goal_of fs P i x
    unfolding a b c
    by_alone x hx ea eb ec =
        let g = alone fs P i x hi hx ea eb (λ y m. one y (mem_three (subst (λ l. Memᴰ y l) three_corners m))) in
        let e : id / 3 * 3 ≡ 3 * i = omega arith in
        let j : get_or w (numbers + id / 3 * 3) 0 ≡ number_at fs x (base fs P x) g.0 = ap (λ k. get_or w (numbers + k) 0) (e ∙ g.4) ∙ q.numbered x g.0 hx g.2 in
        let f : numbers + id / 3 * 3 + 1 ≡ numbers + (3 * i + 1) = omega arith in
        let k : get_or w (numbers + id / 3 * 3 + 1) 0 ≡ number_at fs x (base fs P x) g.1 = ap (λ z. get_or w z 0) f ∙ ap (λ z. get_or w (numbers + z) 0) g.5 ∙ q.numbered x g.1 hx g.3 in
        let p : get_or w (id / 3 * 3) 0 ≡ x = ap (λ z. get_or w z 0) e ∙ column_row q.rows (3 * i) (omega arith) ∙ ea in
        rw (j, k, p) (sym g.6)
      where
        one : (y : ℕ) → (y ≡ a) ⊎ ((y ≡ b) ⊎ (y ≡ c)) → y ≡ x
        one y (inl z) = z ∙ ea
        one y (inr (inl z)) = z ∙ eb
        one y (inr (inr z)) = z ∙ ec

    column_is : (k : ℕ) → k < 3 → get_or w (id / 3 * 3 + k) 0 ≡ corner_at fs (3 * i + k)
    column_is k l = (let e : id / 3 * 3 + k ≡ 3 * i + k = omega arith in ap (λ z. get_or w z 0) e) ∙ column_row q.rows (3 * i + k) (omega (arith, three))

    -- the number that the corner takes
    pub new_is : new_by w leading numbers id ≡ goal_of fs P i v
    unfolding a b c
    new_is = ap (λ t. cond t (alone_by w numbers (id / 3 * 3)) (led_by w leading numbers id)) tests ∙ go (ℕ_discrete a b) (ℕ_discrete b c)
      where
        first_is : get_or w (id / 3 * 3) 0 ≡ a
        first_is = (let e : id / 3 * 3 ≡ 3 * i = omega arith in ap (λ z. get_or w z 0) e) ∙ column_row q.rows (3 * i) (omega (arith, three))

        tests : (eqb (get_or w (id / 3 * 3) 0) (get_or w (id / 3 * 3 + 1) 0) && eqb (get_or w (id / 3 * 3 + 1) 0) (get_or w (id / 3 * 3 + 2) 0)) ≡ (eqb a b && eqb b c)
        tests = rw (first_is, column_is 1 (omega arith), column_is 2 (omega arith))

        mem_a : Memᴰ a (corners (face fs i))
        mem_a = subst (λ l. Memᴰ a l) (sym three_corners) (Memᴰ.head refl)

        mem_b : Memᴰ b (corners (face fs i))
        mem_b = subst (λ l. Memᴰ b l) (sym three_corners) (Memᴰ.tail (Memᴰ.head refl))

        mem_c : Memᴰ c (corners (face fs i))
        mem_c = subst (λ l. Memᴰ c l) (sym three_corners) (Memᴰ.tail (Memᴰ.tail (Memᴰ.head refl)))

        -- one of two different corners is another than v
        other : (x y : ℕ) → x ≢ y → Memᴰ x (corners (face fs i)) → Memᴰ y (corners (face fs i)) → Dec (x ≡ v) → led_by w leading numbers id ≡ goal_of fs P i v
        other x y ne mx my (no d) = by_leader x d mx
        other x y ne mx my (yes d) = by_leader y (λ z. ne (d ∙ sym z)) my

        all_v : (id ≡ 3 * i) ⊎ ((id ≡ 3 * i + 1) ⊎ (id ≡ 3 * i + 2)) → a ≡ b → b ≡ c → a ≡ v
        all_v (inl e) p r = ap (corner_at fs) (sym e)
        all_v (inr (inl e)) p r = p ∙ ap (corner_at fs) (sym e)
        all_v (inr (inr e)) p r = p ∙ r ∙ ap (corner_at fs) (sym e)

        go : Dec (a ≡ b) → Dec (b ≡ c) → cond (eqb a b && eqb b c) (alone_by w numbers (id / 3 * 3)) (led_by w leading numbers id) ≡ goal_of fs P i v
        go (yes p) (yes r) =
            let e = all_v (which id) p r in
            rw (eq-eqb a b p, eq-eqb b c r) (by_alone v (at_point id h) e (sym p ∙ e) (sym r ∙ sym p ∙ e))
        go (yes p) (no r) = rw (eq-eqb a b p, ne_eqb b c r) (other b c r mem_b mem_c (ℕ_discrete b v))
        go (no p) d = rw (ne_eqb a b p) (other a b p mem_a mem_b (ℕ_discrete a v))
