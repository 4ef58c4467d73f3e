-- The place of a refusal to repair many meshes is below 2^32: it names a list, a setting or a room. Assumes nothing.
use mathlib.Core.Path.{◌≡◌}
use mathlib.Core.List.{List}
use Prim.Native.Nat.{ℕ, ◌<◌, ◌^◌}
use native.Mathlib.Omega.{arith}
use lib.Ieee.{Float}
use Rattle.rules.specs.Refusal.{no2, no3_threshold, no3_options}
use Rattle.rules.specs.Rooms.{refused}
use Rattle.rules.specs.PanelCall.{no1_rows, no1_total, panel_rooms, PanelRooms, panel_check, repair_panel}
use Rattle.place_laws.proofs.Places.{Near, unless_near, no6_near, step, end}
use Rattle.place_laws.proofs.Outcomes.{outcome_near, refused_near}

-- of its checks
panel_near : (points : List Float) (faces ps fs : List ℕ) (s : Float) (options : ℕ) (r : PanelRooms) → Near (panel_check points faces ps fs s options r)
unfolding panel_check panel_rooms no1_rows no1_total no2 no3_threshold no3_options
panel_near points faces ps fs s options r =
    step _ _ (unless_near 1 0 _ (omega arith))
    (λ _. step _ _ (unless_near 1 0 _ (omega arith))
    (λ _. step _ _ (unless_near 1 1 _ (omega arith))
    (λ _. step _ _ (unless_near 2 0 _ (omega arith))
    (λ _. step _ _ (unless_near 3 0 _ (omega arith))
    (λ _. step _ _ (unless_near 3 1 _ (omega arith))
    (λ _. step _ _ (no6_near (panel_rooms ps fs) _ (omega arith))
    (λ _. end)))))))

-- so its place fits C's struct
pub panel_place :
    (points : List Float) (faces ps fs : List ℕ) (s : Float) (options : ℕ) (r : PanelRooms) {n p : ℕ} {rooms : PanelRooms}
    → record { answer = refused n p; rooms = rooms } ≡ repair_panel points faces ps fs s options r → p < 2 ^ 32
unfolding repair_panel
panel_place points faces ps fs s options r e =
    refused_near (outcome_near (panel_check points faces ps fs s options r) _ _ _ (panel_near points faces ps fs s options r)) e
