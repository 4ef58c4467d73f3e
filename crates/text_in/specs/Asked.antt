-- The words of this crate's contracts: pieces of a text, what a field holds, how a line adds to the rooms, and the job. Definitions only.
use Rattle.std.specs.Prelude.{◌≡◌, Bool, cond, List, [], ◌∷◌, ℕ, ◌+◌, ◌-◌, ◌≤◌, ◌<◌, Float, length, get_or, take}
use Rattle.std.specs.Prelude as std
use Rattle.std.specs.Float.{nan}
use Rattle.std.proofs.Math.Option.{Option, none, some}
use Rattle.rows.specs.Region.{part, OnlyOf}
use Rattle.rules.specs.Text as rule
use Rattle.rules.specs.Text.{Job}
use Rattle.text_in.specs.declared.Fields.{Fields}
use Rattle.text_in.specs.declared.Fields.TheVariants.{Three, Four}
use Rattle.text_in.specs.declared.Opened.{Opened}
use Rattle.text_in.specs.declared.Grown.{Grown}
use Rattle.text_in.specs.declared.Told.{Told}

-- ---- pieces

-- a line cut into three fields
abbrev pub three_fields : List ℕ → ℕ → ℕ → List (List ℕ)
three_fields line a b = take a line ∷ part line (a + 1) (b - (a + 1)) ∷ part line (b + 1) (length line - (b + 1)) ∷ []

-- a line cut into four fields
abbrev pub four_of : List ℕ → ℕ → ℕ → ℕ → List (List ℕ)
four_of line a b c = take a line ∷ part line (a + 1) (b - (a + 1)) ∷ part line (b + 1) (c - (b + 1)) ∷ part line (c + 1) (length line - (c + 1)) ∷ []

-- two cuts of a line
pub record OpenAsks (line : List ℕ) (a b : ℕ) : Type 0 where
  pub rise_a : a < b
  pub rise_b : b < length line

-- three cuts of a line
pub record CutsAsk (line : List ℕ) (a b c : ℕ) : Type 0 where
  pub rise_a : a < b
  pub rise_b : b < c
  pub rise_c : c < length line

-- the cuts of a line of three fields
pub record PartsThree (line : List ℕ) (a b : ℕ) : Type 0 where
  pub cuts : OpenAsks line a b
  pub fields : rule.parted 9 line ≡ three_fields line a b

-- the cuts of a line of four fields
pub record PartsFour (line : List ℕ) (a b c : ℕ) : Type 0 where
  pub cuts : CutsAsk line a b c
  pub fields : rule.parted 9 line ≡ four_of line a b c

-- a line of neither three nor four fields has no form
pub record PartsOther (line : List ℕ) : Type 0 where
  pub first : rule.first_line (rule.parted 9 line) ≡ none
  pub further : (j : Job) → rule.with_line j (rule.parted 9 line) ≡ none

abbrev pub Parts : List ℕ → std.Option Fields → Type 0
Parts line (std.Some (Three a b)) = PartsThree line a b
Parts line (std.Some (Four a b c)) = PartsFour line a b c
Parts line std.None = PartsOther line

-- ---- what a field holds

-- what three fields hold
abbrev pub three_of : {A : Type 0} → (List ℕ → Option A) → List ℕ → ℕ → ℕ → ℕ → Option (List A)
three_of f line a b c = rule.three (f (part line (a + 1) (b - (a + 1)))) (f (part line (b + 1) (c - (b + 1)))) (f (part line (c + 1) (length line - (c + 1))))

-- ---- lines

-- a job whose points and faces stand in front of the rooms
abbrev pub job_of : ℕ → Float → List Float → ℕ → List ℕ → ℕ → Job
job_of o s ps p fs f = record { options = o; threshold = s; points = take p ps; faces = take f fs }

-- the job after a line
abbrev pub grown_of : ℕ → Float → std.Option Grown → List Float → List ℕ → Option Job
grown_of o s (std.Some g) ps fs = some (job_of o s ps g.points fs g.faces)
grown_of o s std.None ps fs = none

-- what stands in the rooms
pub record RoomAsks (ps : List Float) (p : ℕ) (fs : List ℕ) (f : ℕ) : Type 0 where
  pub points : 192 ≤ length ps
  pub faces : 192 ≤ length fs
  pub few_points : p ≤ 192
  pub few_faces : f ≤ 192

-- still within the rooms after a line
abbrev pub Within : std.Option Grown → Type 0
Within (std.Some g) = (g.points ≤ 192) × (g.faces ≤ 192)
Within std.None = Unit {0}

-- a line of these fields is taken in, if no more than 64 points and 64 faces then stand there
pub record Grows (fields : List (List ℕ)) (ps : List Float) (p : ℕ) (fs : List ℕ) (f : ℕ) (ps' : List Float) (fs' : List ℕ) (r : std.Option Grown) : Type 0 where
  pub long_points : length ps' ≡ length ps
  pub long_faces : length fs' ≡ length fs
  pub within : Within r
  pub told : (o : ℕ) (s : Float) → grown_of o s r ps' fs' ≡ rule.small (rule.with_line (job_of o s ps p fs f) fields)

-- a `p` line or an `f` line of these fields
pub record AddAsks {A : Type 0} (line : List ℕ) (a b c : ℕ) (w : List A) (n : ℕ) : Type 0 where
  pub cuts : CutsAsk line a b c
  pub room : 192 ≤ length w
  pub few : n ≤ 192

-- a point more, or none: all stays but the three entries behind those that stand in the room
pub record PointGives (o : Option (List Float)) (ps : List Float) (p f : ℕ) (ps' : List Float) (r : std.Option Grown) : Type 0 where
  pub only : OnlyOf nan p 3 ps ps'
  pub grows : (fs : List ℕ) → RoomAsks ps p fs f → Within r × ((n : ℕ) (s : Float) → grown_of n s r ps' fs ≡ rule.small (rule.with_point (job_of n s ps p fs f) o))

-- a face more, or none: the same of its room
pub record FaceGives (o : Option (List ℕ)) (fs : List ℕ) (p f : ℕ) (fs' : List ℕ) (r : std.Option Grown) : Type 0 where
  pub only : OnlyOf 0 f 3 fs fs'
  pub grows : (ps : List Float) → RoomAsks ps p fs f → Within r × ((n : ℕ) (s : Float) → grown_of n s r ps fs' ≡ rule.small (rule.with_corners (job_of n s ps p fs f) o))

pub record FieldsAsks (line : List ℕ) (a b c : ℕ) (ps : List Float) (p : ℕ) (fs : List ℕ) (f : ℕ) : Type 0 where
  pub cuts : CutsAsk line a b c
  pub rooms : RoomAsks ps p fs f

-- ---- the text

abbrev pub opened_of : std.Option Opened → Option Job
opened_of (std.Some j) = some (record { options = j.options; threshold = j.threshold; points = []; faces = [] })
opened_of std.None = none

-- a job with no point and no face yet
abbrev pub empty : ℕ → Float → Option Job
empty o s = some (record { options = o; threshold = s; points = []; faces = [] })

-- nothing stands after the last newline
unfoldable pub ends : List ℕ → Option Job → Option Job
ends [] j = rule.small j
ends (b ∷ bs) j = none

-- a job, and the lines that are still to be taken in
unfoldable pub rest : Option Job → List (List ℕ) → Option Job
rest j [] = none
rest j (l ∷ []) = ends l j
rest j (l ∷ m ∷ ls) = rest (rule.and_line j (rule.parted 9 l)) (m ∷ ls)

-- the answer, and what its rooms then hold, as the rules' job
abbrev pub told_of : std.Option Told → List Float → List ℕ → Option Job
told_of (std.Some t) ps fs = some (job_of t.options t.threshold ps t.points fs t.faces)
told_of std.None ps fs = none

-- a job's entries are no more than 64 points and 64 faces have
abbrev pub ToldWithin : std.Option Told → Type 0
ToldWithin (std.Some t) = (t.points ≤ 192) × (t.faces ≤ 192)
ToldWithin std.None = Unit {0}

-- rooms for 64 points and 64 faces
pub record ReadAsks (ps : List Float) (fs : List ℕ) : Type 0 where
  pub points : 192 ≤ length ps
  pub faces : 192 ≤ length fs

pub record LinesAsks (text : List ℕ) (from : ℕ) (ps : List Float) (fs : List ℕ) : Type 0 where
  pub begins : from ≤ length text
  pub rooms : ReadAsks ps fs
