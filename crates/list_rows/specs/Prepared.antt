-- What the functions that prepare the rows of a mending list ask and give. Definitions only.
use Rattle.std.specs.Prelude.{◌≡◌, cond, List, [], map, ℕ, ◌+◌, ◌*◌, ◌/◌, ◌≤◌, ◌<◌, eqb, Float, length, get_or, take}
use Rattle.rows.specs.Region.{Only, Only2}
use Rattle.rules.specs.Lists.{below, filter, has}
use Rattle.rules.specs.Mesh.{face, corners, points_of, faces_of, flat_faces}
use Rattle.rules.specs.State.{State}
use Rattle.rules.specs.Repair.{bit, optional}
use Rattle.rules.specs.Pass5.{pass5}
use Rattle.rules.specs.Mending.{lines5, lines6, list_text}
use Rattle.leaving.specs.Pass.{standing}
use Rattle.refuse.specs.Accepted.{Accepted}
use Rattle.mending_rows.specs.Told.{Fates, splits_told, unused_told}
use Rattle.split_bowtie_vertices.specs.Splits.{taken}
use Rattle.split_rows.specs.Rows.{Stands}
use Rattle.list_text.specs.Written.{ListAsks, list_text_by_rows}
use Rattle.list_text.specs.declared.Rows.{Rows}

-- Pass 5 by its option, of n faces over P points: r points are split off, the corners are renamed as the rule says, and the old points and the corners tell its
-- lines.
pub record SplitIf (options : ℕ) (xs : List ℕ) (n P : ℕ) (w : List ℕ) (olds : ℕ) (xs' w' : List ℕ) (r : ℕ) : Type 0 where
  pub number : (m : State) → Stands P xs n m → P + r ≡ length (optional (bit 3 options) pass5 m).points
  pub faces : (m : State) → Stands P xs n m → take (3 * n) xs' ≡ flat_faces (optional (bit 3 options) pass5 m).faces
  pub tells :
      (m : State) → Stands P xs n m → (t : Fates) → t.splits ≡ r → ((j : ℕ) → j < r → t.old j ≡ get_or w' (olds + j) 0)
      → ((j : ℕ) → j < r → t.takers j ≡ map (λ i. (face m.faces i).origin) (filter (λ i. has (P + j) (corners (face (standing xs' n) i))) (below n)))
      → cond (bit 3 options) (lines5 m) [] ≡ splits_told P t
  pub most : r ≤ 3 * n
  pub inside : (i : ℕ) → i < 3 * n → get_or xs' i 0 < P + r
  pub only_faces : Only 0 (3 * n) xs xs'
  pub only_work : Only2 0 (taken P n) olds (3 * n) w w'

-- Pass 6 by its option, of n faces over `count` points: the flags tell its lines.
pub record FlagsIf (options : ℕ) (xs : List ℕ) (n count : ℕ) (w : List ℕ) (unused : ℕ) (w' : List ℕ) : Type 0 where
  pub only : Only unused count w w'
  pub tells :
      (m : State) → length m.points ≡ count → flat_faces m.faces ≡ take (3 * n) xs → (P : ℕ) (t : Fates) → P + t.splits ≡ count
      → ((v : ℕ) → v < count → t.unused v ≡ eqb (get_or w' (unused + v) 0) 1)
      → cond (bit 5 options) (lines6 m) [] ≡ unused_told P t

-- an accepted input, and the three parts of the work room
pub record PrepareAsks (ps : List Float) (fs xs os w : List ℕ) : Type 0 where
  pub input : Accepted ps fs
  pub corners_are : length xs ≡ 3 * (length fs / 3)
  pub origins_are : length os ≡ length fs / 3
  pub rest_fits : 16 * (length ps / 3) + 60 * (length fs / 3) + 64 ≤ length w

-- The rows tell the text of the mending list; only what is stated of the work room is changed.
pub record PrepareGives (options : ℕ) (s : Float) (ps : List Float) (fs xs os w xs' os' w' : List ℕ) (rows : Rows) : Type 0 where
  pub long_corners : length xs' ≡ length xs
  pub long_origins : length os' ≡ length os
  pub only_rest : Only 0 (16 * (length ps / 3) + 60 * (length fs / 3) + 64) w w'
  pub asks : ListAsks w' os' rows
  pub tells : list_text_by_rows w' os' rows ≡ list_text s options (points_of ps) (faces_of fs)
