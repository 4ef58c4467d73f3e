-- The checks of the repair of many meshes with the rooms' lengths for the rooms, and what is known where they find nothing. Definitions only.
use Rattle.std.specs.Prelude.{◌≡◌, List, [], ◌∷◌, ◌++◌, ℕ, ◌+◌, ◌*◌, ◌^◌, ◌≤◌, Float, length}
use Rattle.rules.specs.State.{report_counts}
use Rattle.rules.specs.Refusal.{Check, no2, no6}
use Rattle.rules.specs.PanelCall.{most_meshes, total, largest, no1_rows, no1_total, panel_rooms}
use Rattle.refuse.specs.Verdicts.{settings}

-- 1 and 2
abbrev pub rows_list : List ℕ → List ℕ → ℕ → ℕ → List Check
rows_list ps fs points faces = no1_rows ps fs ∷ no1_total 0 ps points ∷ no1_total 1 fs faces ∷ no2 0 (length ps) most_meshes ∷ []

-- the rules' `panel_check`
abbrev pub panel_list : ℕ → ℕ → List ℕ → List ℕ → Float → ℕ → ℕ → ℕ → ℕ → ℕ → ℕ → ℕ → List Check
panel_list points faces ps fs s options out_points out_faces report origins meshes work =
    rows_list ps fs points faces ++ settings s options
    ++ (no6 (panel_rooms ps fs) (out_points ∷ out_faces ∷ report ∷ origins ∷ meshes ∷ work ∷ []) ∷ [])

-- the stated rooms of m meshes that have P points and F faces together, the largest of them with this work room
abbrev pub stated : ℕ → ℕ → ℕ → ℕ → List ℕ
stated P F m work = 3 * (P + 3 * F) ∷ 3 * F ∷ report_counts * m ∷ F ∷ 4 * m ∷ work ∷ []

-- how large these sums are at most, so that no room wraps: what is lent has less than 2^63 bytes
pub record Sums (P F m : ℕ) : Type 0 where
  pub points : P ≤ 2 ^ 60
  pub faces : F ≤ 2 ^ 60
  pub meshes : m ≤ most_meshes

-- what 1 and 2 leave where they find nothing
pub record Rows (points faces : ℕ) (ps fs : List ℕ) : Type 0 where
  pub same : length ps ≡ length fs
  pub points_total : 3 * total ps ≡ points
  pub faces_total : 3 * total fs ≡ faces
  pub few : length ps ≤ most_meshes

-- what an accepted call says of its rows and of the lengths of its rooms
pub record PanelAccepted (points faces : ℕ) (ps fs : List ℕ) (out_points out_faces report origins meshes work : ℕ) : Type 0 where
  pub rows : Rows points faces ps fs
  pub room_out_points : 3 * (total ps + 3 * total fs) ≤ out_points
  pub room_out_faces : 3 * total fs ≤ out_faces
  pub room_report : report_counts * length ps ≤ report
  pub room_origins : total fs ≤ origins
  pub room_meshes : 4 * length ps ≤ meshes
  pub room_work : largest ps fs ≤ work
