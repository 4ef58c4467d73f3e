-- The words of this crate's contracts: the job in hand, and the lines that answer it. Definitions only.
use Rattle.std.specs.Prelude.{◌≡◌, List, ℕ, ◌%◌, ◌≤◌, length, Float}
use Rattle.rules.specs.Text.{Job, job_check, job_lines}

-- the job of these options, threshold, points and faces
abbrev pub job_of : ℕ → Float → List Float → List ℕ → Job
job_of options threshold points faces = record { options = options; threshold = threshold; points = points; faces = faces }

-- the lines that answer it
abbrev pub lines : ℕ → Float → List Float → List ℕ → List ℕ
lines options threshold points faces = job_lines (job_of options threshold points faces) (job_check (job_of options threshold points faces))

-- whole points and faces, at most 64 of each, and room for the longest answer
pub record MendAsks (points : List Float) (faces : List ℕ) (out : List ℕ) : Type 0 where
  pub whole_points : length points % 3 ≡ 0
  pub whole_faces : length faces % 3 ≡ 0
  pub few_points : length points ≤ 192
  pub few_faces : length faces ≤ 192
  pub room : 16384 ≤ length out
