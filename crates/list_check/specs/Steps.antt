-- The words of this crate's contracts: what a line makes of the bench, and what all lines make. Definitions only.
use Rattle.std.specs.Prelude.{◌≡◌, Bool, true, false, ◌&&◌, ◌||◌, List, [], ◌∷◌, ◌++◌, ℕ, zero, suc, ◌+◌, ◌*◌, ◌/◌, ◌≤◌, ◌<◌, ◌^◌, eqb, ltb, leb, length, get_or, drop}
use Rattle.std.specs.Prelude as std
use Rattle.std.specs.Prelude.{Result, Ok, Err, ⊤}
use Rattle.std.proofs.Math.Option.{Option, none, some}
use Rattle.rules.specs.Mesh.{Point, faces_of}
use Rattle.rules.specs.Mending as list
use Rattle.rules.specs.Refusal.{ok, no}
use Rattle.rules.specs.Pass6.{used}
use Rattle.rules.specs.Applying.{Bench, change, section, numbers, precedes, with_list_line, lines_read, after_lines, no15}
use Rattle.refuse.specs.Accepted as input
use Rattle.refuse.specs.Verdicts.{number_of, place_of, check_of}
use Rattle.refuse.specs.declared.Refusal.{Refusal}
use Rattle.list_lines.specs.Lines as lines
use Rattle.point_bits.specs.Bits.{bit}
use Rattle.face_marks.specs.Marks.{Small, TakeAllAsks, TakeAllGives}
use Rattle.list_check.specs.Standing.{Standing, room, names_one}
use Rattle.list_check.specs.declared.Step.{Step}
use Rattle.list_check.specs.declared.Turn.{Turn}
use Rattle.list_check.specs.declared.Turn.TheVariants as turn
use Rattle.list_check.specs.declared.FirstUnused.{FirstUnused}
use Rattle.list_check.specs.declared.UnusedPoint.{UnusedPoint}

-- the faces and the rows: a byte a face, and a bit a point, new ones too
pub record Rows (P : ℕ) (xs m u : List ℕ) : Type 0 where
  pub input : input.Faces P xs
  pub bytes : length xs / 3 ≤ length m
  pub bits : P + length xs ≤ 32 * length u

-- when so many points were split off
pub record Ready (P : ℕ) (xs m u : List ℕ) (k : ℕ) : Type 0 where
  pub rows : Rows P xs m u
  pub small : Small m
  pub few : k ≤ 3 * (length xs / 3)

-- ---- one line

-- the bench after a line that applies
abbrev pub changed_by : Bench → list.Line → Bench
changed_by b l = change b l (section l ∷ numbers l)

-- the line l applies, and the rows then say what stands
pub record Applies (P : ℕ) (xs : List ℕ) (l : list.Line) (b : Bench) (m u : List ℕ) (s f g k : ℕ) : Type 0 where
  pub applies : with_list_line P (length xs / 3) (some b) (some l) ≡ some (changed_by b l)
  pub standing : Standing P xs m u s f g k (changed_by b l)

-- it does, whatever stands; and there may be one line more up to it
pub record LineOn (P : ℕ) (xs : List ℕ) (l : list.Line) (m u : List ℕ) (s f g k : ℕ) (m' u' : List ℕ) (s' f' g' k' : ℕ) : Type 0 where
  pub long_bytes : length m' ≡ length m
  pub long_bits : length u' ≡ length u
  pub small : Small m'
  pub few : k' ≤ 3 * (length xs / 3)
  pub each : (b : Bench) → Standing P xs m u s f g k b → Applies P xs l b m' u' s' f' g' k'
  pub rise : (b : Bench) → Standing P xs m u s f g k b → room (length xs / 3) s f k < room (length xs / 3) s' f' k'

-- this line was read, up to its end
pub record EndsOn (P : ℕ) (xs : List ℕ) (l : list.Line) (end : ℕ) (m u : List ℕ) (s f g k : ℕ) (m' u' : List ℕ) (e s' f' g' k' : ℕ) : Type 0 where
  pub ends : e ≡ end
  pub on : LineOn P xs l m u s f g k m' u' s' f' g' k'

-- or it does not apply
pub record LineBad (P : ℕ) (xs : List ℕ) (l : Option list.Line) (m u : List ℕ) (s f g k : ℕ) : Type 0 where
  pub bad : (b : Bench) → Standing P xs m u s f g k b → with_list_line P (length xs / 3) (some b) l ≡ none

abbrev pub LineGives : ℕ → List ℕ → list.Line → ℕ → List ℕ → List ℕ → ℕ → ℕ → ℕ → ℕ → List ℕ → List ℕ → std.Option Step → Type 0
LineGives P xs l end m u s f g k m' u' std.None = LineBad P xs (some l) m u s f g k
LineGives P xs l end m u s f g k m' u' (std.Some r) = EndsOn P xs l end m u s f g k m' u' r.end r.place.section r.place.first r.place.second r.splits

-- a new point, for the faces of a split
pub record PointAsks (text : List ℕ) (from end : ℕ) (xs m u : List ℕ) (v : ℕ) : Type 0 where
  pub take : TakeAllAsks text from end xs m
  pub room : v / 32 < length u

pub record PointGives (xs m u fs : List ℕ) (old v : ℕ) (m' u' : List ℕ) : Type 0 where
  pub taken : TakeAllGives xs m fs old m'
  pub long : length u' ≡ length u
  pub told : (w : ℕ) → bit u' w ≡ ((eqb w v && names_one fs) || bit u w)

pub record SplitAsks (P : ℕ) (text : List ℕ) (from end : ℕ) (xs m u : List ℕ) (k : ℕ) : Type 0 where
  pub ready : Ready P xs m u k
  pub faces : lines.Faces text from end

-- ---- the line that begins at `at`

-- it is bad
pub record StepBad (P : ℕ) (xs text : List ℕ) (at : ℕ) (m u : List ℕ) (s f g k : ℕ) : Type 0 where
  pub head : Option list.Line
  pub others : List (Option list.Line)
  pub lines : lines_read (drop at text) ≡ head ∷ others
  pub line : LineBad P xs head m u s f g k

-- it is a `u` line
pub record StepUnused (text : List ℕ) (at : ℕ) : Type 0 where
  pub point : ℕ
  pub end : ℕ
  pub says : lines.Says text at (list.isolated_point point) end

-- then nothing was changed
pub record Untouched (text : List ℕ) (at : ℕ) (m u m' u' : List ℕ) : Type 0 where
  pub unused : StepUnused text at
  pub same_bytes : m' ≡ m
  pub same_bits : u' ≡ u

-- it applies
pub record StepOn (P : ℕ) (xs text : List ℕ) (at : ℕ) (m u : List ℕ) (s f g k : ℕ) (m' u' : List ℕ) (e s' f' g' k' : ℕ) : Type 0 where
  pub line : list.Line
  pub says : lines.Says text at line e
  pub on : LineOn P xs line m u s f g k m' u' s' f' g' k'

abbrev pub StepGives : ℕ → List ℕ → List ℕ → ℕ → List ℕ → List ℕ → ℕ → ℕ → ℕ → ℕ → List ℕ → List ℕ → std.Option Turn → Type 0
StepGives P xs text at m u s f g k m' u' std.None = StepBad P xs text at m u s f g k
StepGives P xs text at m u s f g k m' u' (std.Some turn.Unused) = Untouched text at m u m' u'
StepGives P xs text at m u s f g k m' u' (std.Some (turn.On r)) = StepOn P xs text at m u s f g k m' u' r.end r.place.section r.place.first r.place.second r.splits

pub record StepAsks (P : ℕ) (xs text : List ℕ) (at : ℕ) (m u : List ℕ) (k : ℕ) : Type 0 where
  pub left : at < length text
  pub ready : Ready P xs m u k

-- ---- all lines

-- the lines before `at`, `line` of them, apply to the points ps and the faces xs, and make b
pub record Run (ps : List Point) (xs text : List ℕ) (at line : ℕ) (b : Bench) : Type 0 where
  pub done : List (Option list.Line)
  pub lines : lines_read text ≡ done ++ lines_read (drop at text)
  pub long : length done ≡ line
  pub goes : after_lines ps (faces_of xs) done ≡ some b

-- and the rows say what stands
pub record Running (P : ℕ) (ps : List Point) (xs text : List ℕ) (at line : ℕ) (m u : List ℕ) (s f g k : ℕ) : Type 0 where
  pub bench : Bench
  pub run : Run ps xs text at line bench
  pub standing : Standing P xs m u s f g k bench

-- rows of zeros
pub record Begins (P : ℕ) (xs m u : List ℕ) : Type 0 where
  pub rows : Rows P xs m u
  pub no_marks : (f : ℕ) → get_or m f 0 ≡ 0
  pub no_bits : (j : ℕ) → get_or u j 0 ≡ 0

-- the first bad line is this one
pub record FirstBad (P : ℕ) (xs text : List ℕ) (r : Refusal) : Type 0 where
  pub is : (ps : List Point) → length ps ≡ P → no15 ps (faces_of xs) text ≡ no (number_of r) (place_of r)
  pub early : place_of r ≤ 8 * (length xs / 3)

-- no line is bad
pub record NoneBad (P : ℕ) (xs text : List ℕ) : Type 0 where
  pub is : (ps : List Point) → length ps ≡ P → no15 ps (faces_of xs) text ≡ ok

-- the lines before the `u` line at `at` apply
pub record ToUnused (P : ℕ) (xs text m₀ u₀ : List ℕ) (at line k : ℕ) (m u : List ℕ) : Type 0 where
  pub left : at < length text
  pub early : line ≤ 8 * (length xs / 3)
  pub long_bytes : length m ≡ length m₀
  pub long_bits : length u ≡ length u₀
  pub few : k ≤ 3 * (length xs / 3)
  pub unused : StepUnused text at
  pub section : ℕ
  pub first : ℕ
  pub second : ℕ
  pub each : (ps : List Point) → length ps ≡ P → Running P ps xs text at line m u section first second k

abbrev pub ChangedGives : ℕ → List ℕ → List ℕ → List ℕ → List ℕ → List ℕ → List ℕ → Result (std.Option FirstUnused) Refusal → Type 0
ChangedGives P xs text m u m' u' (Err r) = FirstBad P xs text r
ChangedGives P xs text m u m' u' (Ok std.None) = NoneBad P xs text
ChangedGives P xs text m u m' u' (Ok (std.Some r)) = ToUnused P xs text m u r.at r.line r.splits m' u'

-- ---- the `u` lines

-- another line, of an earlier section if it is one
pub record OtherLine (text : List ℕ) (at : ℕ) : Type 0 where
  pub head : Option list.Line
  pub others : List (Option list.Line)
  pub lines : lines_read (drop at text) ≡ head ∷ others
  pub early : (l : list.Line) → head ≡ some l → section l < 7

abbrev pub UnusedLine : List ℕ → ℕ → std.Option UnusedPoint → Type 0
UnusedLine text at (std.Some r) = lines.Says text at (list.isolated_point r.point) r.end
UnusedLine text at std.None = OtherLine text at

pub record UnusedAsks (text : List ℕ) (from number bound : ℕ) (u : List ℕ) : Type 0 where
  pub begins : from ≤ length text
  pub bits : bound ≤ 32 * length u
  pub fits : number + bound < 2 ^ 63

-- what stands before them: the bits say which points are used
pub record Before (ps : List Point) (xs text : List ℕ) (from number bound : ℕ) (u : List ℕ) (b : Bench) : Type 0 where
  pub run : Run ps xs text from number b
  pub points : length b.points ≡ bound
  pub told : (v : ℕ) → v < bound → bit u v ≡ used b.faces v
  pub unused : StepUnused text from
  pub earlier : (v : ℕ) → precedes b.last (7 ∷ v ∷ []) ≡ true

-- a place within a bound, if there is one
abbrev pub Placed : ℕ → Result ⊤ Refusal → Type 0
Placed most (Ok _) = Unit {0}
Placed most (Err r) = place_of r ≤ most

pub record UnusedGives (text : List ℕ) (from number bound : ℕ) (u : List ℕ) (r : Result ⊤ Refusal) : Type 0 where
  pub placed : Placed (number + bound) r
  pub is : (ps : List Point) (xs : List ℕ) (b : Bench) → Before ps xs text from number bound u b → check_of r ≡ no15 ps (faces_of xs) text

-- ---- the whole

pub record BadList (P : ℕ) (xs text : List ℕ) (r : Result ⊤ Refusal) : Type 0 where
  pub is : (ps : List Point) → length ps ≡ P → check_of r ≡ no15 ps (faces_of xs) text
  pub placed : Placed (P + 11 * (length xs / 3)) r
