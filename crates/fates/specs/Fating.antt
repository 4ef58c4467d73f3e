-- What passes 1 to 4 leave in their rooms and in the row of fates. Definitions only.
use Rattle.std.specs.Prelude.{◌≡◌, Bool, cond, List, [], ◌++◌, ℕ, ◌+◌, ◌*◌, ◌/◌, ◌%◌, ◌≤◌, ◌<◌, length, get_or, take, Float}
use Rattle.rows.specs.Region.{Only, Only2}
use Rattle.leaving.specs.Pass.{carried}
use Rattle.mending_rows.specs.Told.{first_told, drops_told, exchanges_told}
use Rattle.rules.specs.Mesh.{points_of, faces_of}
use Rattle.rules.specs.Refusal.{most_points, most_faces}
use Rattle.rules.specs.Repair.{bit, optional}
use Rattle.rules.specs.State.{State, start}
use Rattle.rules.specs.Pass1.{pass1}
use Rattle.rules.specs.Pass2.{pass2}
use Rattle.rules.specs.Pass3.{pass3}
use Rattle.rules.specs.Pass4.{pass4}
use Rattle.rules.specs.Mending.{Line, for_duplicate, for_edge, for_direction, lines1, lines2, lines3, lines4}
use Rattle.rule_laws.proofs.Rising.{All, Up}

-- The input's points; n faces at the front of their room and the origins of these, of which there is room for one for each input face; the work room, in
-- which a row of fates stands from `fates` on, an entry for each input face.
pub record Rooms : Type 0 where
  pub points : List Float
  pub faces : List ℕ
  pub origins : List ℕ
  pub n : ℕ
  pub work : List ℕ
  pub fates : ℕ

-- rooms by their parts
abbrev pub rooms : List Float → List ℕ → List ℕ → ℕ → List ℕ → ℕ → Rooms
rooms points faces origins n work fates = record { points = points; faces = faces; origins = origins; n = n; work = work; fates = fates }

-- how many points and faces the input has
abbrev pub points_in : Rooms → ℕ
points_in r = length r.points / 3

-- as many as there is room for
abbrev pub faces_in : Rooms → ℕ
faces_in r = length r.origins

-- the fate of an input face
abbrev pub fate_in : Rooms → ℕ → ℕ
fate_in r f = get_or r.work (r.fates + f) 0

-- what the passes take of the work room for themselves
abbrev pub scratch : Rooms → ℕ
scratch r = 29 * faces_in r + 4 + points_in r

-- The faces stand, with origins that rise and are input faces. The fates stand behind what the passes take: 0 for each face that stands, and none above `most`.
pub record Stands (most : ℕ) (r : Rooms) : Type 0 where
  pub whole : length r.points % 3 ≡ 0
  pub points : points_in r ≤ most_points
  pub few : faces_in r ≤ most_faces
  pub own : r.n ≤ faces_in r
  pub fit : 3 * r.n ≤ length r.faces
  pub inside : (i : ℕ) → i < 3 * r.n → get_or r.faces i 0 < points_in r
  pub up : Up 0 (take r.n r.origins)
  pub low : All (λ o. o < faces_in r) (take r.n r.origins)
  pub behind : scratch r ≤ r.fates
  pub room : r.fates + faces_in r ≤ length r.work
  pub untold : All (λ o. fate_in r o ≡ 0) (take r.n r.origins)
  pub least : (f : ℕ) → f < faces_in r → fate_in r f ≤ most

-- the rooms hold the points and the faces of a state
pub record Has (m : State) (r : Rooms) : Type 0 where
  pub points : m.points ≡ points_of r.points
  pub faces : m.faces ≡ carried r.faces r.origins r.n

-- a fate stays as it is; or there was none, and there is none for a reason whose code is below `code`
pub data Became (code a b : ℕ) : Type 0 where
  same : b ≡ a → Became code a b
  fresh : a ≡ 0 → ((c : ℕ) → 0 < c → c < code → b % 8 ≡ c → ⊥) → Became code a b

-- what a pass changes: faces and origins at the front, what it takes of the work room, and the fates
pub record Changed (r r' : Rooms) : Type 0 where
  pub only_faces : Only 0 (3 * r.n) r.faces r'.faces
  pub only_origins : Only 0 r.n r.origins r'.origins
  pub only_work : Only2 0 (scratch r) r.fates (faces_in r) r.work r'.work

-- A pass whose codes are from `code` on, up to `most`: the rooms hold what the rule makes of the state that they held, and the fates tell the lines.
pub record PassGives (pass : State → State) (lines : State → List Line) (told : (ℕ → ℕ) → ℕ → List Line) (code most : ℕ) (r r' : Rooms) : Type 0 where
  pub stands : Stands most r'
  pub changed : Changed r r'
  pub became : (f : ℕ) → f < faces_in r → Became code (fate_in r f) (fate_in r' f)
  pub has : (m : State) → Has m r → Has (pass m) r'
  pub tells : (m : State) → Has m r → lines m ≡ told (fate_in r') (faces_in r)

-- the lines of a pass by its option
abbrev pub lines_if : Bool → (State → List Line) → State → List Line
lines_if b lines m = cond b (lines m) []

-- pass 1
abbrev pub Pass1 : ℕ → Float → Rooms → Rooms → Type 0
Pass1 options s r r' = PassGives (optional (bit 0 options) (pass1 s)) (lines_if (bit 0 options) (lines1 s)) first_told 1 2 r r'

-- pass 2
abbrev pub Pass2 : ℕ → Rooms → Rooms → Type 0
Pass2 options r r' = PassGives (optional (bit 1 options) pass2) (lines_if (bit 1 options) lines2) (λ fate. drops_told fate for_duplicate) 3 3 r r'

-- pass 3
abbrev pub Pass3 : ℕ → Rooms → Rooms → Type 0
Pass3 options r r' = PassGives (optional (bit 2 options) pass3) (lines_if (bit 2 options) lines3) (λ fate. drops_told fate for_edge) 4 4 r r'

-- corner 1 of each face is that of its input face: so it is before pass 4
abbrev pub Owned : List ℕ → State → Type 0
Owned input m = All (λ f. f.b ≡ get_or input (3 * f.origin + 1) 0) m.faces

-- a fate is a code from 0 to 5, or 8 more
pub record Known (fate : ℕ) : Type 0 where
  pub most : fate ≤ 13
  pub code : fate % 8 ≤ 5

-- what stands after pass 4
pub record Left (r : Rooms) : Type 0 where
  pub own : r.n ≤ faces_in r
  pub fit : 3 * r.n ≤ length r.faces
  pub inside : (i : ℕ) → i < 3 * r.n → get_or r.faces i 0 < points_in r
  pub up : Up 0 (take r.n r.origins)
  pub low : All (λ o. o < faces_in r) (take r.n r.origins)
  pub known : (f : ℕ) → f < faces_in r → Known (fate_in r f)

-- pass 4: exchanges are told too, and a face that is exchanged may leave after that
pub record Pass4 (options : ℕ) (input : List ℕ) (r r' : Rooms) : Type 0 where
  pub left : Left r'
  pub changed : Changed r r'
  pub became : (f : ℕ) → f < faces_in r → Became 5 (fate_in r f) (fate_in r' f)
  pub has : (m : State) → Has m r → Has (optional (bit 4 options) pass4 m) r'
  pub tells : (m : State) → Has m r → Owned input m → lines_if (bit 4 options) lines4 m ≡ exchanges_told (fate_in r') (faces_in r) ++ drops_told (fate_in r') for_direction (faces_in r)

-- ---- all four

-- The input's points and faces; rooms for its faces and their origins; and a row of fates behind what the passes take of the work room.
pub record FourAsks (ps : List Float) (fs xs os w : List ℕ) (fates : ℕ) : Type 0 where
  pub whole : length ps % 3 ≡ 0
  pub points : length ps / 3 ≤ most_points
  pub few : length os ≤ most_faces
  pub input : length fs ≡ 3 * length os
  pub inside : (i : ℕ) → i < length fs → get_or fs i 0 < length ps / 3
  pub fit : length fs ≤ length xs
  pub behind : 29 * length os + 4 + length ps / 3 ≤ fates
  pub room : fates + length os ≤ length w

-- the states of the rules before each of the passes 2, 3 and 4, and after it
abbrev pub after1 : ℕ → Float → State → State
after1 options s m = optional (bit 0 options) (pass1 s) m

abbrev pub after2 : ℕ → Float → State → State
after2 options s m = optional (bit 1 options) pass2 (after1 options s m)

abbrev pub after3 : ℕ → Float → State → State
after3 options s m = optional (bit 2 options) pass3 (after2 options s m)

abbrev pub after4 : ℕ → Float → State → State
after4 options s m = optional (bit 4 options) pass4 (after3 options s m)

-- n faces stand at the front as the rules have them after four passes, with their origins; and the fates tell the lines of these passes
pub record FourGives (options : ℕ) (s : Float) (ps : List Float) (fs xs os w : List ℕ) (fates : ℕ) (xs' os' w' : List ℕ) (n : ℕ) : Type 0 where
  pub left : Left (rooms ps xs' os' n w' fates)
  pub has : Has (after4 options s (start (points_of ps) (faces_of fs))) (rooms ps xs' os' n w' fates)
  pub first : lines_if (bit 0 options) (lines1 s) (start (points_of ps) (faces_of fs)) ≡ first_told (λ f. get_or w' (fates + f) 0) (length os)
  pub second : lines_if (bit 1 options) lines2 (after1 options s (start (points_of ps) (faces_of fs))) ≡ drops_told (λ f. get_or w' (fates + f) 0) for_duplicate (length os)
  pub third : lines_if (bit 2 options) lines3 (after2 options s (start (points_of ps) (faces_of fs))) ≡ drops_told (λ f. get_or w' (fates + f) 0) for_edge (length os)
  pub fourth :
      lines_if (bit 4 options) lines4 (after3 options s (start (points_of ps) (faces_of fs)))
      ≡ exchanges_told (λ f. get_or w' (fates + f) 0) (length os) ++ drops_told (λ f. get_or w' (fates + f) 0) for_direction (length os)
  pub only_faces : Only 0 (length fs) xs xs'
  pub only_origins : Only 0 (length os) os os'
  pub only_work : Only2 0 (29 * length os + 4 + length ps / 3) fates (length os) w w'
