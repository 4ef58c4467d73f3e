-- Where each directed edge is used at most once no face is marked, so every face stays. Assumes nothing.
use mathlib.Core.Path.{◌≡◌, refl, sym, ap, ◌∙◌}
use mathlib.Core.Bool.{Bool, false}
use mathlib.Core.List.{List, [], ◌∷◌}
use Prim.Native.Nat.{ℕ, suc, ◌*◌}
use native.Mathlib.Omega.{arith}
use lib.ListN.{length, take}
use lib.Seq.{length-take-le}
use lib.Ieee.{Float}
use Rattle.rows.proofs.Regions.{only_none}
use Rattle.rules.specs.Lists.{any, has, leave}
use Rattle.rules.specs.Mesh.{Point, Face, points_of, flat_faces}
use Rattle.rules.specs.Steps.{walkers, directed, quality_of}
use Rattle.rules.specs.Rank.{best, without}
use Rattle.rules.specs.Pass4.{marked4}
use Rattle.rule_laws.proofs.Lists.{leave_length}
use Rattle.rule_laws.proofs.Once.{Once}
use Rattle.rule_laws.proofs.Flat.{flat_faces_back, length_faces_take}
use Rattle.leaving.specs.Pass.{standing, PassAsks, LeaveGives}
use Rattle.resolve_directed_collisions.proofs.Colliding.{none_after}

-- a test that no element passes
any_none : {A : Type 0} (p : A → Bool) → ((x : A) → p x ≡ false) → (xs : List A) → any p xs ≡ false
unfolding any
any_none p h [] = refl
any_none p h (x ∷ xs) = rw (h x) (any_none p h xs)

-- no face is marked
none_marked : (ps : List Point) (fs : List Face) → Once fs → (i : ℕ) → marked4 ps fs i ≡ false
unfolding marked4
none_marked ps fs once i =
    any_none (λ d. has i (without (best (quality_of ps fs) (walkers fs d)) (walkers fs d))) (λ d. none_after (quality_of ps fs) (walkers fs d) i (once d)) (directed (length ps) fs)

-- where none is marked all stay
leave_none : {A : Type 0} (marked : ℕ → Bool) → ((i : ℕ) → marked i ≡ false) → (xs : List A) → leave marked xs ≡ xs
unfolding leave
leave_none marked h [] = refl
leave_none marked h (x ∷ xs) = rw (h 0) (ap (λ l. x ∷ l) (leave_none (λ i. marked (suc i)) (λ i. h (suc i)) xs))

-- so nothing is changed
pub all_stay : {taken : ℕ} {ps : List Float} {xs os : List ℕ} {n : ℕ} {w : List ℕ} → PassAsks taken ps xs n w → Once (standing xs n) → LeaveGives (marked4 (points_of ps) (standing xs n)) xs os n xs os n
all_stay {taken} {ps} {xs} {os} {n} {w} p once =
    let m = marked4 (points_of ps) (standing xs n) in
    let none = none_marked (points_of ps) (standing xs n) once in
    let stay = leave_none m none (standing xs n) in
    let l = length_faces_take xs n p.stand.fit in
    let k = length-take-le (3 * n) xs p.stand.fit in
    record {
      faces = sym (ap flat_faces stay ∙ flat_faces_back (take (3 * n) xs) (omega arith));
      origins = sym (leave_none m none (take n os));
      number = rw (ap length stay, l) at (leave_length m (standing xs n));
      only_faces = only_none 0 (3 * n) xs;
      only_origins = only_none 0 n os;
    }
