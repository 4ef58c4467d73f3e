-- What stands at a corner after pass 5, by the number of its group's leader. Assumes nothing.
use mathlib.Core.Path.{◌≡◌, refl, sym, ap, ◌∙◌, subst}
use mathlib.Core.Logic.{◌≢◌}
use mathlib.Core.Bool.{cond}
use mathlib.Core.List.{List, map, Memᴰ}
use Prim.Native.Nat.{ℕ, zero, suc, ◌+◌, ◌*◌, ◌/◌, ◌≤◌, ◌<◌}
use native.Mathlib.Omega.{arith}
use native.Mathlib.Decide.{dec_lt}
use borrow.Author.Tests.{eq-eqb, ne_eqb}
use lib.ListN.{length, get_or, drop}
use lib.Dec.{T, eqb, ltb}
use Rattle.rules.specs.Lists.{below, count}
use Rattle.rules.specs.Mesh.{Face, face, corners, renamed}
use Rattle.rules.specs.State.{State, more, vertices_split, points_added}
use Rattle.rules.specs.Groups.{group, leads}
use Rattle.rules.specs.Pass5.{entries_at, fans, pass5}
use Rattle.rule_laws.proofs.Counting.{count_below_agree}
use Rattle.rule_laws.proofs.Leaders.{group_sym}
use Rattle.rule_laws.proofs.Classes.{group_into, leads_same}
use Rattle.rule_laws.proofs.Once.{Inside, CornersBelow, face_inside}
use Rattle.rule_laws.proofs.Splitting.{target, map_below}
use Rattle.splitting.specs.Corners.{corner_at, joined_at, corners_at, extra, extras, number_at, base, goal_of}
use Rattle.splitting.proofs.Entries.{corner, at, joined, as_many, place_of, corner_rises, at_is, class, joined_turns}
use Rattle.splitting.proofs.Numbers.{by_leader, by_first, turns, number_new, number_old, leads_extra, alone_leads, zero_not, rest_length, split_is}
use Rattle.splitting.proofs.AllAtOnce.{so_far, so_far_suc, so_far_zero, goal, faces_after, is-split, report_after}

module _ (fs : List Face) (P : ℕ) where
  -- the points only become more
  pub base_least : (v : ℕ) → P ≤ base fs P v
  unfolding base
  base_least zero = omega arith
  base_least (suc v) = omega (arith, base_least v)

  -- The leader of a corner of a face with another corner has a place at the point, and what is noted there is what the pass makes of the corner.
  pub led :
      (id L x : ℕ) → id < 3 * length fs → L < 3 * length fs → T (leads (joined_at fs) (3 * length fs) L) → Memᴰ id (group (joined_at fs) (3 * length fs) L)
      → x ≢ corner_at fs id → Memᴰ x (corners (face fs (id / 3)))
      → (l : ℕ) × (l < length (corners_at fs (corner_at fs id))) × (L ≡ get_or (corners_at fs (corner_at fs id)) l 0)
      × (goal_of fs P (id / 3) (corner_at fs id) ≡ number_at fs (corner_at fs id) (base fs P (corner_at fs id)) l)
  unfolding goal_of
  led id L x hi hL tL mL ne mx =
      let v = corner_at fs id in
      let p = place_of fs v id hi refl in
      let f : at fs v p.0 ≡ id / 3 = at_is fs v p.0 p.1 ∙ ap (λ y. y / 3) (sym p.2) in
      let g = group_into (class fs v) p.0 L p.1 (subst (λ y. Memᴰ L (group (joined_at fs) (3 * length fs) y)) p.2 (group_sym (joined_at fs) (3 * length fs) (joined_turns fs) L id hL mL)) in
      let t = subst T (sym (leads_same (class fs v) g.0 g.1 ∙ ap (leads (joined_at fs) (3 * length fs)) (sym g.2))) tL in
      let m = group_sym (joined fs v) (length (entries_at fs v)) (turns fs v) p.0 g.0 p.1 g.3 in (
        g.0,
        omega (arith, as_many fs v, g.1),
        g.2,
        ap (target v (base fs P v) (drop 1 (fans fs v))) (sym f)
            ∙ by_leader fs v (base fs P v) p.0 x g.0 p.1 ne (subst (λ y. Memᴰ x (corners (face fs y))) (sym f) mx) g.1 t m,
      )

  -- The first two corners of a face with no other corner than v: the first that is not the first at v gives the number.
  pub alone :
      (i v : ℕ) → i < length fs → v < P → corner_at fs (3 * i) ≡ v → corner_at fs (3 * i + 1) ≡ v → ((x : ℕ) → Memᴰ x (corners (face fs i)) → x ≡ v)
      → (j k : ℕ) × (j < length (corners_at fs v)) × (k < length (corners_at fs v)) × (3 * i ≡ get_or (corners_at fs v) j 0) × (3 * i + 1 ≡ get_or (corners_at fs v) k 0)
      × (goal_of fs P i v ≡ cond (eqb (number_at fs v (base fs P v) j) v) (number_at fs v (base fs P v) k) (number_at fs v (base fs P v) j))
  unfolding goal_of
  alone i v hi hv e0 e1 only =
      let a = place_of fs v (3 * i) (omega arith) e0 in
      let b = place_of fs v (3 * i + 1) (omega arith) e1 in
      (a.0, b.0, omega (arith, as_many fs v, a.1), omega (arith, as_many fs v, b.1), a.2, b.2, go a.0 b.0 a.1 b.1 a.2 b.2 (dec_lt 0 a.0))
    where
      Q : ℕ
      Q = base fs P v

      many : ℕ
      many = length (entries_at fs v)

      face_of : (y : ℕ) → y < many → at fs v y ≡ i → (3 * i ≤ corner fs v y) × (corner fs v y < 3 * i + 3)
      face_of y h e = let f = at_is fs v y h in (omega arith, omega arith)

      of_face : (j id : ℕ) → j < many → id ≡ corner fs v j → id / 3 ≡ i → at fs v j ≡ i
      of_face j id h q r = at_is fs v j h ∙ ap (λ y. y / 3) (sym q) ∙ r

      later : (j y : ℕ) → j < many → y < many → corner fs v j ≤ corner fs v y → j ≤ y
      later j y hj hy l = case (dec_lt y j)
        where
          case : Dec (y < j) → j ≤ y
          case (yes q) = absurd (omega (arith, corner_rises fs v y j q hj))
          case (no q) = omega arith

      go : (j k : ℕ) → j < many → k < many → 3 * i ≡ corner fs v j → 3 * i + 1 ≡ corner fs v k → Dec (0 < j)
          → target v Q (drop 1 (fans fs v)) i ≡ cond (eqb (number_at fs v Q j) v) (number_at fs v Q k) (number_at fs v Q j)
      go j k hj hk ej ek (yes p) =
          let f = of_face j (3 * i) hj ej (omega arith) in
          by_first fs v Q i only j hj p f (λ y hy ey py. later j y hj hy (omega (arith, face_of y hy ey)))
          ∙ sym (ap (λ t. cond t (number_at fs v Q k) (number_at fs v Q j)) (ne_eqb (number_at fs v Q j) v (λ q. absurd (omega (arith, number_new fs v Q j (leads_extra fs v j hj p (alone_leads fs v Q i only j hj f)), base_least v)))))
      go j k hj hk ej ek (no p) =
          let z : j ≡ 0 = omega arith in
          let pk : 0 < k = past j k hj hk ej ek z (dec_lt 0 k) in
          by_first fs v Q i only k hk pk (of_face k (3 * i + 1) hk ek (omega arith)) (λ y hy ey py. later k y hk hy (omega (arith, face_of y hy ey, corner_rises fs v j y (omega arith) hy)))
          ∙ sym (ap (λ t. cond t (number_at fs v Q k) (number_at fs v Q j)) (eq-eqb (number_at fs v Q j) v (number_old fs v Q j (ap (extra fs v) z ∙ zero_not fs v))))
        where
          past : (j k : ℕ) → j < many → k < many → 3 * i ≡ corner fs v j → 3 * i + 1 ≡ corner fs v k → j ≡ 0 → Dec (0 < k) → 0 < k
          past j k hj hk ej ek z (yes q) = q
          past j k hj hk ej ek z (no q) = let s : j ≡ k = omega arith in absurd (omega (arith, ap (corner fs v) s))

module _ (m : State) (inside : Inside (length m.points) m.faces) where
  -- how many points there are on the way
  pub so_far_is : (k : ℕ) → k ≤ length m.points → so_far m inside k ≡ base m.faces (length m.points) k
  unfolding base
  so_far_is zero h = so_far_zero m inside
  so_far_is (suc k) h = so_far_suc m inside k h ∙ rw (so_far_is k (omega arith), rest_length m.faces k)

  -- the faces after the pass
  pub faces_are : (pass5 m).faces ≡ map (λ i. renamed (goal_of m.faces (length m.points) i) (face m.faces i)) (below (length m.faces))
  unfolding renamed goal_of
  faces_are =
      faces_after m inside
      ∙ map_below (λ i. renamed (goal m inside i) (face m.faces i)) (λ i. renamed (goal_of m.faces (length m.points) i) (face m.faces i)) (length m.faces)
      (λ i l. same i (face m.faces i) (face_inside (length m.points) m.faces inside i l))
    where
      one : (i x : ℕ) → x < length m.points → goal m inside i x ≡ target x (base m.faces (length m.points) x) (drop 1 (fans m.faces x)) i
      one i x h = ap (λ q. target x q (drop 1 (fans m.faces x)) i) (so_far_is x (omega arith))

      same : (i : ℕ) (f : Face) → CornersBelow (length m.points) f → renamed (goal m inside i) f ≡ renamed (goal_of m.faces (length m.points) i) f
      same i f b = λ j. record { a = one i f.a b.0 j; b = one i f.b b.1 j; c = one i f.c b.2 j; origin = f.origin }

  -- how many points there are after it
  pub points_many : length (pass5 m).points ≡ base m.faces (length m.points) (length m.points)
  unfolding pass5
  points_many = so_far_is (length m.points) (omega arith)

  -- the report after it
  pub report_is :
      (a : ℕ) → length (pass5 m).points ≡ length m.points + a
      → (pass5 m).report ≡ more points_added a (more vertices_split (count (λ v. ltb 0 (extras m.faces v)) (below (length m.points))) m.report)
  report_is a e =
      report_after m inside a e
      ∙ ap (λ k. more points_added a (more vertices_split k m.report)) (count_below_agree (is-split m inside) (λ v. ltb 0 (extras m.faces v)) (length m.points) (λ v h. split_is m.faces v))
