-- The parts of `finish`, put together: faces closed up, numbers, renumbered corners and points closed up are what the rules say. Assumes nothing.
use mathlib.Core.Path.{◌≡◌, refl, sym, ap, ◌∙◌}
use mathlib.Core.Bool.{Bool, not}
use mathlib.Core.List.{List, [], ◌∷◌, map}
use Prim.Native.Nat.{ℕ, ◌+◌, ◌*◌, ◌≤◌, ◌<◌}
use native.Mathlib.Nat.{zero-add}
use native.Mathlib.Omega.{arith}
use lib.Ieee.{Float, nan}
use lib.ListN.{length, get_or, take, length-map}
use lib.Seq.{get_or-take, length-take-le, ext_get_or}
use Rattle.rows.specs.Region.{Apart.before, Only}
use Rattle.rows.specs.Retain.{RetainGives, NumberAsks, NumberGives}
use Rattle.rows.proofs.Regions.{only_both, only_more, holds_kept}
use Rattle.rules.specs.Lists.{below, count, each, leave}
use Rattle.rules.specs.Mesh.{Face, face, corners, flat_faces, renamed}
use Rattle.rule_laws.proofs.Lists.{get_or_map_in}
use Rattle.rule_laws.proofs.Flat.{length_faces_take}
use Rattle.rule_laws.proofs.Rising.{All, all_at, all_from, all_leave, all_each}
use Rattle.leaving.specs.Pass.{standing, Flagged}
use Rattle.leaving.proofs.Leaving.{kept_count, left_count, faces_left, points_left}
use Rattle.leaving.proofs.Standing.{standing_face}
use Rattle.drop_isolated_vertices.specs.Unused.{RenumberAsks, RenumberGives}
use Rattle.list_changes.specs.Finish.{FinishAsks, FinishGives, number_left}

-- renamed faces have the renamed corners
pub flat_renamed : (g : ℕ → ℕ) (fs : List Face) → flat_faces (map (renamed g) fs) ≡ map g (flat_faces fs)
unfolding flat_faces each renamed
flat_renamed g [] = refl
flat_renamed g (f ∷ fs) = ap (λ l. g f.a ∷ g f.b ∷ g f.c ∷ l) (flat_renamed g fs)

-- corners in their room are below P, so are those of the faces that stand
standing_inside : (P : ℕ) (xs : List ℕ) (n : ℕ) → 3 * n ≤ length xs → ((i : ℕ) → i < 3 * n → get_or xs i 0 < P) → All (λ f. All (λ v. v < P) (corners f)) (standing xs n)
unfolding face
standing_inside P xs n fit h =
    all_from (λ f. All (λ v. v < P) (corners f)) (record { a = 0; b = 0; c = 0; origin = 0 }) (standing xs n)
    (λ i q.
    let l : i < n = omega (arith, length_faces_take xs n fit) in
    rw (standing_face xs n fit i l) (h (3 * i) (omega arith), (h (3 * i + 1) (omega arith), (h (3 * i + 2) (omega arith), tt))))

module _ {ps : List Float} {P : ℕ} {xs : List ℕ} {n : ℕ} {w : List ℕ} (p : FinishAsks ps P xs n w) where
  module _ {xs1 : List ℕ} {r : ℕ} (k : RetainGives 0 xs w 0 n xs1 r) where
    -- the faces at the front are those that stay
    stay : take (3 * r) xs1 ≡ flat_faces (leave p.gone (standing xs n))
    stay = faces_left p.gone p.fit p.flags k

    -- how many they are
    stay_number : r + count p.gone (below n) ≡ n
    stay_number = left_count p.gone p.flags k

    -- their corners are of the points
    stay_inside : (i : ℕ) → i < 3 * r → get_or xs1 i 0 < P
    stay_inside i h =
        let l = k.only.long in
        let c = stay_number in
        let e = length-take-le (3 * r) xs1 (omega (arith, p.fit)) in
        rw (get_or-take (3 * r) xs1 i 0 h) at (rw (← stay) at (all_at (λ v. v < P) (flat_faces (leave p.gone (standing xs n))) 0 i inside (omega (arith, ap length stay))))
      where
        inside : All (λ v. v < P) (flat_faces (leave p.gone (standing xs n)))
        inside = unfold flat_faces in (all_each (λ v. v < P) corners (leave p.gone (standing xs n)) (all_leave (λ f. All (λ v. v < P) (corners f)) p.gone (standing xs n) (standing_inside P xs n p.fit p.inside)))

    -- the numbers go behind the flags
    pub number_asks : NumberAsks w n P (n + P)
    number_asks = record { flags_fit = omega (arith, p.room); to_fit = omega (arith, p.room); apart = before (omega arith); few = p.few }

    module _ {w1 : List ℕ} (g : NumberGives w n P (n + P) w1) where
      -- each corner has its number
      pub renumber_asks : RenumberAsks xs1 r w1 (n + P)
      renumber_asks =
          let l = k.only.long in
          let m = g.only.long in
          let c = stay_number in
          record { fit = omega (arith, p.fit); inside = λ i h. omega (arith, stay_inside i h, p.room) }

      -- which is that of the rules
      number_at : (v : ℕ) → v < P → get_or w1 (n + P + v) 0 ≡ number_left p.named v
      number_at v h = g.numbers.each v h ∙ kept_count p.named p.names v (omega arith)

      -- the flags stay while the numbers are written
      flagged : Flagged w1 n P p.named
      flagged = holds_kept g.only (before (omega arith)) p.names

      module _ {xs2 : List ℕ} (u : RenumberGives xs1 r w1 (n + P) xs2) where
        -- the renumbered corners are those of the rules' faces
        faces_are : take (3 * r) xs2 ≡ flat_faces (map (renamed (number_left p.named)) (leave p.gone (standing xs n)))
        faces_are =
            let q = renumber_asks in
            let a = length-take-le (3 * r) xs1 q.fit in
            let l = u.only.long in
            let b = length-take-le (3 * r) xs2 (omega (arith, q.fit)) in
            ext_get_or 0 (take (3 * r) xs2) (map f (take (3 * r) xs1)) (b ∙ sym (length-map (take (3 * r) xs1) f ∙ a)) (λ i h. entry i (omega arith))
            ∙ ap (map f) stay
            ∙ sym (flat_renamed f (leave p.gone (standing xs n)))
          where
            f : ℕ → ℕ
            f = number_left p.named

            entry : (i : ℕ) → i < 3 * r → get_or (take (3 * r) xs2) i 0 ≡ get_or (map f (take (3 * r) xs1)) i 0
            entry i h =
                let q = renumber_asks in
                let a = length-take-le (3 * r) xs1 q.fit in
                get_or-take (3 * r) xs2 i 0 h
                ∙ ap (λ j. get_or xs2 j 0) (sym (zero-add i))
                ∙ u.numbers.each i h
                ∙ number_at (get_or xs1 i 0) (stay_inside i h)
                ∙ ap f (sym (get_or-take (3 * r) xs1 i 0 h))
                ∙ sym (get_or_map_in f (take (3 * r) xs1) i 0 0 (omega arith))

        -- what `finish` gives
        pub finish_gives : {ps1 : List Float} {m : ℕ} → RetainGives nan ps w1 n P ps1 m → FinishGives p.gone p.named ps P xs n w ps1 xs2 w1 (record { points = m; faces = r })
        finish_gives t =
            let e = left_count p.named flagged t in
            let c = stay_number in
            record {
              points = points_left p.named p.points_fit flagged t;
              faces = faces_are;
              points_left = e;
              faces_left = c;
              only_points = only_more (omega arith) (omega arith) t.only;
              only_faces = only_both (only_more (omega arith) (omega arith) k.only) (only_more (omega arith) (omega arith) u.only);
              only_work = only_more (omega arith) (omega arith) g.only;
            }
