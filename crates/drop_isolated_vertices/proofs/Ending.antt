-- The parts of pass 6, put together: flags, numbers, renumbered corners and points closed up are what the rules say. Assumes nothing.
use mathlib.Core.Path.{◌≡◌, sym, ap, ◌∙◌}
use mathlib.Core.Bool.{not, not-not}
use mathlib.Core.List.{List, map}
use Prim.Native.Nat.{ℕ, ◌+◌, ◌*◌, ◌<◌}
use native.Mathlib.Nat.{zero-add}
use native.Mathlib.Omega.{arith}
use lib.Ieee.{Float, nan}
use lib.ListN.{get_or, take, length-map}
use lib.Seq.{get_or-take, length-take-le, ext_get_or}
use Rattle.rows.specs.Region.{Apart.before, Only}
use Rattle.rows.specs.Retain.{RetainGives, NumberAsks, NumberGives}
use Rattle.rows.proofs.Regions.{only_both, only_more, holds_kept}
use Rattle.rules.specs.Mesh.{flat_faces, renamed}
use Rattle.rules.specs.Pass6.{used, marked6, number}
use Rattle.rule_laws.proofs.Counting.{count_below_agree}
use Rattle.rule_laws.proofs.Lists.{get_or_map_in}
use Rattle.leaving.specs.Pass.{standing, Flagged}
use Rattle.leaving.proofs.Leaving.{kept_count, left_count, points_left}
use Rattle.drop_isolated_vertices.specs.Unused.{UseGives, RenumberAsks, RenumberGives, UnusedAsks, UnusedGives}
use Rattle.drop_isolated_vertices.proofs.Corners.{flat_renamed}

module _ {ps : List Float} {P : ℕ} {xs : List ℕ} {n : ℕ} {w : List ℕ} (p : UnusedAsks ps P xs n w) where
  module _ {w1 : List ℕ} (u : UseGives xs n P w w1) where
    -- the numbers go behind the flags
    pub number_asks : NumberAsks w1 0 P P
    number_asks = let l = u.only.long in record { flags_fit = omega (arith, p.room); to_fit = omega (arith, p.room); apart = before (omega arith); few = p.few }

    module _ {w2 : List ℕ} (k : NumberGives w1 0 P P w2) where
      -- both rows together
      within : Only 0 (2 * P) w w2
      within = only_both (only_more (omega arith) (omega arith) u.only) (only_more (omega arith) (omega arith) k.only)

      -- each corner has its number
      pub renumber_asks : RenumberAsks xs n w2 P
      renumber_asks = let l = within.long in record { fit = p.fit; inside = λ i h. omega (arith, p.inside i h, p.room) }

      -- which is that of the rules
      number_at : (v : ℕ) → v < P → get_or w2 (P + v) 0 ≡ number (standing xs n) v
      unfolding number
      number_at v h =
          k.numbers.each v h
          ∙ kept_count (marked6 (standing xs n)) u.flags v (omega arith)
          ∙ count_below_agree (λ i. not (marked6 (standing xs n) i)) (used (standing xs n)) v (λ i q. unfold marked6 in (not-not (used (standing xs n) i)))

      -- the flags stay while the numbers are written
      flagged : Flagged w2 0 P (marked6 (standing xs n))
      flagged = holds_kept k.only (before (omega arith)) u.flags

      module _ {xs' : List ℕ} (g : RenumberGives xs n w2 P xs') where
        -- the renumbered corners are those of the rules' faces
        faces_are : take (3 * n) xs' ≡ flat_faces (map (renamed (number (standing xs n))) (standing xs n))
        faces_are =
            let a = length-take-le (3 * n) xs p.fit in
            let l = g.only.long in
            let b = length-take-le (3 * n) xs' (omega (arith, p.fit)) in
            ext_get_or 0 (take (3 * n) xs') (map f (take (3 * n) xs)) (b ∙ sym (length-map (take (3 * n) xs) f ∙ a)) (λ i h. entry i (omega arith))
            ∙ sym (flat_renamed f 0 (take (3 * n) xs) (omega arith))
          where
            f : ℕ → ℕ
            f = number (standing xs n)

            entry : (i : ℕ) → i < 3 * n → get_or (take (3 * n) xs') i 0 ≡ get_or (map f (take (3 * n) xs)) i 0
            entry i h =
                let a = length-take-le (3 * n) xs p.fit in
                get_or-take (3 * n) xs' i 0 h
                ∙ ap (λ j. get_or xs' j 0) (sym (zero-add i))
                ∙ g.numbers.each i h
                ∙ number_at (get_or xs i 0) (p.inside i h)
                ∙ ap f (sym (get_or-take (3 * n) xs i 0 h))
                ∙ sym (get_or_map_in f (take (3 * n) xs) i 0 0 (omega arith))

        -- the pass
        pub unused_gives : {ps' : List Float} {r : ℕ} → RetainGives nan ps w2 0 P ps' r → UnusedGives ps P xs n w ps' xs' w2 r
        unused_gives q =
            let e = left_count (marked6 (standing xs n)) flagged q in
            record {
              points = points_left (marked6 (standing xs n)) p.points_fit flagged q;
              faces = faces_are;
              number = e;
              only_points = only_more (omega arith) (omega arith) q.only;
              only_faces = g.only;
              only_work = within;
            }
