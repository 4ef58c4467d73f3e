-- A work room that is parted as it must be and long enough, and one that is not. Over plain numbers. Assumes nothing.
use mathlib.Core.Path.{◌≡◌, sym, subst}
use mathlib.Core.Bool.{false}
use Prim.Native.Nat.{ℕ, ◌+◌, ◌*◌, ◌≤◌, ◌<◌}
use native.Mathlib.Omega.{arith}
use native.Mathlib.Decide.{dec_lt}
use lib.Dec.{T, leb}
use borrow.Author.Tests.{leb-true, leb-false}
use Rattle.rules.specs.Rooms.{work_room}
use Rattle.list_refusal.specs.Checks.{Parted, Ready, ReadyTold}

module _ {P F corners origins rest : ℕ} where
  -- one that is ready is parted so
  pub ready_parted : Ready P F corners origins rest → Parted F corners origins rest
  ready_parted r = record { first = omega (arith, r); second = omega (arith, r) }

  -- and as long as is stated
  pub ready_long : Ready P F corners origins rest → work_room P F ≤ corners + origins + rest
  unfolding work_room
  ready_long r = omega (arith, r)

  -- one that is parted so and is not ready is too short
  pub parted_short : Parted F corners origins rest → (Ready P F corners origins rest → ⊥) → corners + origins + rest < work_room P F
  unfolding work_room
  parted_short p n = go (dec_lt (corners + origins + rest) (16 * P + 64 * F + 64))
    where
      go : Dec (corners + origins + rest < 16 * P + 64 * F + 64) → corners + origins + rest < 16 * P + 64 * F + 64
      go (yes l) = l
      go (no l) = absurd (n (record { corners_are = omega (arith, p); origins_are = omega (arith, p); rest_fits = omega (arith, p) }))

  -- ---- the test

  -- the first two parts are as long as they must be, and the third decides
  pub told_last : corners ≡ 3 * F → origins ≡ F → {stated : ℕ} → stated ≡ 16 * P + 60 * F + 64 → ReadyTold P F corners origins rest (leb stated rest)
  told_last a b {stated} e =
      record {
        so = λ t. record { corners_are = a; origins_are = b; rest_fits = omega (arith, leb-true stated rest t) };
        not_so = λ t r. absurd (omega (arith, leb-false stated rest t, r.rest_fits));
      }

  -- one is not
  pub told_no : (Ready P F corners origins rest → ⊥) → ReadyTold P F corners origins rest false
  told_no n = record { so = λ t. absurd (subst T (sym t) tt); not_so = λ t. n }
