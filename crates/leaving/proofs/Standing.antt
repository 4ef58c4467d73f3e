-- The faces that stand at the front of a room, by the room's entries; and how they stand once some have left. Assumes nothing.
use mathlib.Core.Path.{◌≡◌, sym, ap, ◌∙◌}
use mathlib.Core.Bool.{Bool}
use mathlib.Core.List.{List}
use Prim.Native.Nat.{ℕ, ◌+◌, ◌-◌, ◌*◌, ◌≤◌, ◌<◌}
use native.Mathlib.Omega.{arith}
use lib.ListN.{length, get_or, take}
use lib.Seq.{get_or-take, length-take-le}
use Rattle.rules.specs.Lists.{below, count, leave}
use Rattle.rules.specs.Mesh.{Point, face, faces_of, flat_faces, corners}
use Rattle.rules.specs.State.{State, Count, more, counted, with_faces, dropped}
use Rattle.rule_laws.proofs.Flat.{face_at, length_faces_take}
use Rattle.rule_laws.proofs.Relabel.{Alike}
use Rattle.rule_laws.proofs.Origins.{origins, leave_map}
use Rattle.rule_laws.proofs.Carried.{leave_alike, flat_same, with_are, with_origins, with_alike}
use Rattle.rule_laws.proofs.Rising.{All, all_at, all_from, all_leave, all_each}
use Rattle.leaving.specs.Pass.{standing, carried, FacesStand, LeaveGives}

-- face i has the corners at 3i, 3i + 1 and 3i + 2
pub standing_face : (xs : List ℕ) (n : ℕ) → 3 * n ≤ length xs → (i : ℕ) → i < n → face (standing xs n) i ≡ record { a = get_or xs (3 * i) 0; b = get_or xs (3 * i + 1) 0; c = get_or xs (3 * i + 2) 0; origin = i }
standing_face xs n fit i h =
    let l = length-take-le (3 * n) xs fit in
    face_at (take (3 * n) xs) i (omega arith)
    ∙ rw (get_or-take (3 * n) xs (3 * i) 0 (omega arith), get_or-take (3 * n) xs (3 * i + 1) 0 (omega arith), get_or-take (3 * n) xs (3 * i + 2) 0 (omega arith))

-- as many have left as were marked
pub left_number : {marked : ℕ → Bool} {xs os : List ℕ} {n : ℕ} {xs' os' : List ℕ} {r : ℕ} → 3 * n ≤ length xs → LeaveGives marked xs os n xs' os' r → n - r ≡ count marked (below (length (standing xs n)))
left_number {marked} {xs} {os} {n} fit g = rw (length_faces_take xs n fit) (omega (arith, g.number))

-- the corners of the faces that stand are of the P points
standing_inside : {taken P : ℕ} {xs : List ℕ} {n : ℕ} {w : List ℕ} → FacesStand taken P xs n w → All (λ f. All (λ v. v < P) (corners f)) (standing xs n)
unfolding face
standing_inside {taken} {P} {xs} {n} p =
    all_from (λ f. All (λ v. v < P) (corners f)) (record { a = 0; b = 0; c = 0; origin = 0 }) (standing xs n)
    (λ i h.
    let l : i < n = omega (arith, length_faces_take xs n p.fit) in
    rw (standing_face xs n p.fit i l) (p.inside (3 * i) (omega arith), (p.inside (3 * i + 1) (omega arith), (p.inside (3 * i + 2) (omega arith), tt))))

-- so are the corners of those that stay
pub left_inside : {marked : ℕ → Bool} {taken P : ℕ} {xs os : List ℕ} {n : ℕ} {w xs' os' : List ℕ} {r : ℕ} → FacesStand taken P xs n w → LeaveGives marked xs os n xs' os' r → (i : ℕ) → i < 3 * r → get_or xs' i 0 < P
left_inside {marked} {taken} {P} {xs} {os} {n} {w} {xs'} {os'} {r} p g i h =
    let l = g.only_faces.long in
    let c = g.number in
    let e = length-take-le (3 * r) xs' (omega (arith, p.fit)) in
    rw (get_or-take (3 * r) xs' i 0 h) at (rw (← g.faces) at (all_at (λ v. v < P) (flat_faces (leave marked (standing xs n))) 0 i flat_inside (omega (arith, ap length g.faces))))
  where
    flat_inside : All (λ v. v < P) (flat_faces (leave marked (standing xs n)))
    flat_inside = unfold flat_faces in (all_each (λ v. v < P) corners (leave marked (standing xs n)) (all_leave (λ f. All (λ v. v < P) (corners f)) marked (standing xs n) (standing_inside p)))

-- ---- with origins

module _ (xs os : List ℕ) (n : ℕ) (fit : 3 * n ≤ length xs) (own : n ≤ length os) where
  -- three corners for each origin
  three_each : length (take (3 * n) xs) ≡ 3 * length (take n os)
  three_each = omega (arith, length-take-le (3 * n) xs fit, length-take-le n os own)

  -- the faces that stand are the same but for their origins
  pub stands_alike : Alike (standing xs n) (carried xs os n)
  stands_alike = with_alike (take (3 * n) xs) (take n os) three_each

  -- whose origins stand in their room
  pub carried_origins : origins (carried xs os n) ≡ take n os
  carried_origins = with_origins (take (3 * n) xs) (take n os) three_each

  -- those that stay, with their origins, are what the rules leave
  pub carried_left : {marked : ℕ → Bool} {xs' os' : List ℕ} {r : ℕ} → LeaveGives marked xs os n xs' os' r → carried xs' os' r ≡ leave marked (carried xs os n)
  carried_left {marked} {xs'} {os'} {r} g =
      with_are (leave marked (carried xs os n)) (take (3 * r) xs') (take r os')
      (g.faces ∙ flat_same (leave marked (standing xs n)) (leave marked (carried xs os n)) (leave_alike marked (standing xs n) (carried xs os n) stands_alike))
      (g.origins ∙ sym (leave_map (λ f. f.origin) marked (carried xs os n) ∙ ap (leave marked) carried_origins))

-- where more entries are taken fewer may be
pub fewer_taken : {k taken P : ℕ} {xs : List ℕ} {n : ℕ} {w : List ℕ} → k ≤ taken → FacesStand taken P xs n w → FacesStand k P xs n w
fewer_taken h p = record { points = p.points; few = p.few; fit = p.fit; inside = p.inside; room = omega (arith, p.room) }
