-- The words of this crate's contracts: the fields of a line after its letter, what they tell, the line that was read, and the faces of a split.
-- Definitions only.
use Rattle.std.specs.Prelude.{◌≡◌, Bool, true, false, ◌&&◌, cond, List, [], ◌∷◌, ℕ, zero, suc, ◌+◌, ◌-◌, ◌≤◌, ◌<◌, eqb, leb, length, drop}
use Rattle.std.specs.Prelude as std
use Rattle.std.proofs.Math.Option.{Option, none, some}
use Rattle.rows.specs.Region.{part}
use Rattle.rules.specs.Line.{bytes}
use Rattle.rules.specs.Text.{parted, equal, whole}
use Rattle.rules.specs.Mending as list
use Rattle.rules.specs.Mending.{Reason, for_repeated, for_thin, for_duplicate, for_edge, for_direction}
use Rattle.rules.specs.Applying as rule
use Rattle.list_lines.specs.declared.Line.{Line}
use Rattle.list_lines.specs.declared.Line.TheVariants as line
use Rattle.list_lines.specs.declared.Number.{Number}
use Rattle.list_lines.specs.declared.Reason as read
use Rattle.list_lines.specs.declared.Reason.TheVariants as word

-- ---- fields

-- the fields of bytes that begin with a tab, or that are none
unfoldable pub tabbed : List ℕ → List (List ℕ)
tabbed [] = []
tabbed (b ∷ bs) = parted 9 bs

-- the fields from `from` to `end`
abbrev pub fields_in : List ℕ → ℕ → ℕ → List (List ℕ)
fields_in text from end = tabbed (part text from (end - from))

-- the first field holds n, and the others begin at k
pub record NumberIs (xs : List ℕ) (n k : ℕ) : Type 0 where
  pub begins : 0 < k
  pub ends : k ≤ length xs
  pub first : whole (part xs 1 (k - 1)) ≡ some n
  pub fields : tabbed xs ≡ part xs 1 (k - 1) ∷ tabbed (drop k xs)

-- the first field holds no number
pub record NumberNone (xs : List ℕ) : Type 0 where
  pub field : List ℕ
  pub others : List (List ℕ)
  pub first : whole field ≡ none
  pub fields : tabbed xs ≡ field ∷ others

-- what is read of the first field
abbrev pub FirstNumber : List ℕ → std.Option Number → Type 0
FirstNumber xs (std.Some r) = NumberIs xs r.value r.end
FirstNumber xs std.None = NumberNone xs

-- the number of exactly one field
unfoldable pub one_of : List (List ℕ) → Option ℕ
one_of [] = none
one_of (f ∷ []) = whole f
one_of (f ∷ g ∷ rest) = none

-- ---- reasons

-- a reason as the rules have it
unfoldable pub reason : read.Reason → Reason
reason word.Repeated = for_repeated
reason word.Thin = for_thin
reason word.Duplicate = for_duplicate
reason word.Edge = for_edge
reason word.Direction = for_direction

-- or none
unfoldable pub why : std.Option read.Reason → Option Reason
why std.None = none
why (std.Some w) = some (reason w)

-- the reason whose pass is k and whose word this is
unfoldable pub reason_at : ℕ → List ℕ → Option Reason
reason_at k word =
    cond (eqb k 1 && equal word (bytes "repeated")) (some for_repeated)
    (cond (eqb k 1 && equal word (bytes "thin")) (some for_thin)
    (cond (eqb k 2 && equal word (bytes "duplicate")) (some for_duplicate)
    (cond (eqb k 3 && equal word (bytes "edge")) (some for_edge)
    (cond (eqb k 4 && equal word (bytes "direction")) (some for_direction) none))))

-- the reason that exactly two fields tell
unfoldable pub reason_told : List (List ℕ) → Option Reason
reason_told [] = none
reason_told (p ∷ []) = none
reason_told (p ∷ w ∷ []) = rule.reason_read p w rule.all_reasons
reason_told (p ∷ w ∷ x ∷ rest) = none

-- ---- lines

-- what the fields after the letter tell: of a dropped face, of an exchange, of an isolated point, of a split
abbrev pub dropped_told : List (List ℕ) → Option list.Line
dropped_told fs = rule.d_read fs

abbrev pub exchange_told : List (List ℕ) → Option list.Line
exchange_told fs = rule.and_then (rule.one_read list.exchange) (rule.wholes fs)

abbrev pub isolated_told : List (List ℕ) → Option list.Line
isolated_told fs = rule.and_then (rule.one_read list.isolated_point) (rule.wholes fs)

abbrev pub split_told : List (List ℕ) → Option list.Line
split_told fs = rule.and_then rule.s_read (rule.wholes fs)

-- the line whose bytes stand from `at` to `end`
abbrev pub line_told : List ℕ → ℕ → ℕ → Option list.Line
line_told text at end = rule.fields_read (parted 9 (part text at (end - at)))

-- all fields are numbers that rise, from k on
unfoldable pub rise_from : ℕ → List (List ℕ) → Bool
rise_from k [] = true
rise_from k (f ∷ fs) = elim (whole f) [ none ↦ false | some n ↦ leb k n && rise_from (suc n) fs ]

-- ---- the faces of a split

-- the numbers that were read
unfoldable pub numbers_of : Option (List ℕ) → List ℕ
numbers_of none = []
numbers_of (some ns) = ns

-- the faces whose fields go from `at` to `end`
unfoldable pub faces_from_row : List ℕ → ℕ → ℕ → List ℕ
faces_from_row text at end = numbers_of (rule.wholes (fields_in text at end))

-- all fields from `at` to `end` are numbers
pub record Faces (text : List ℕ) (at end : ℕ) : Type 0 where
  pub begins : at ≤ end
  pub ends : end ≤ length text
  pub told : rule.wholes (fields_in text at end) ≡ some (faces_from_row text at end)

-- one face at least is left
pub record FaceAsks (text : List ℕ) (at end : ℕ) : Type 0 where
  pub faces : Faces text at end
  pub left : at < end

-- the next face, and the faces after it
pub record FaceGives (text : List ℕ) (at end n next : ℕ) : Type 0 where
  pub on : at < next
  pub faces : Faces text next end
  pub told : faces_from_row text at end ≡ n ∷ faces_from_row text next end

-- ---- what a line says

-- there is a field at least
pub record FieldsAsk (text : List ℕ) (from end : ℕ) : Type 0 where
  pub begins : from < end
  pub ends : end ≤ length text

-- there may be none
pub record LetterAsks (text : List ℕ) (at end : ℕ) : Type 0 where
  pub begins : at ≤ end
  pub ends : end ≤ length text

-- the fields tell this line, which ends at `end`
pub record LineIs (told : Option list.Line) (l : list.Line) (end e : ℕ) : Type 0 where
  pub ends : e ≡ end
  pub is : told ≡ some l

-- they tell a split
pub record SplitIs (told : Option list.Line) (text : List ℕ) (old new from end e : ℕ) : Type 0 where
  pub ends : e ≡ end
  pub faces : Faces text from end
  pub rise : rule.rising (faces_from_row text from end) ≡ true
  pub is : told ≡ some (list.split_point old new (faces_from_row text from end))

abbrev pub Tells : Option list.Line → List ℕ → ℕ → std.Option Line → Type 0
Tells told text end (std.Some (line.Dropped f w e)) = LineIs told (list.dropped_face f (reason w)) end e
Tells told text end (std.Some (line.Exchange f e)) = LineIs told (list.exchange f) end e
Tells told text end (std.Some (line.Split old new from e)) = SplitIs told text old new from end e
Tells told text end (std.Some (line.Isolated v e)) = LineIs told (list.isolated_point v) end e
Tells told text end std.None = told ≡ none

-- ---- the line that begins at `at`

-- it says l, its newline stands at `end`, and the lines after it begin behind that
pub record Says (text : List ℕ) (at : ℕ) (l : list.Line) (end : ℕ) : Type 0 where
  pub begins : at ≤ end
  pub ends : end < length text
  pub lines : rule.lines_read (drop at text) ≡ some l ∷ rule.lines_read (drop (end + 1) text)

-- it is bad
pub record SaysNothing (text : List ℕ) (at : ℕ) : Type 0 where
  pub others : List (Option list.Line)
  pub lines : rule.lines_read (drop at text) ≡ none ∷ others

-- a split, whose faces rise
pub record SaysSplit (text : List ℕ) (at old new from end : ℕ) : Type 0 where
  pub says : Says text at (list.split_point old new (faces_from_row text from end)) end
  pub faces : Faces text from end
  pub rise : rule.rising (faces_from_row text from end) ≡ true

-- the line that was read
abbrev pub Reads : List ℕ → ℕ → std.Option Line → Type 0
Reads text at (std.Some (line.Dropped f w end)) = Says text at (list.dropped_face f (reason w)) end
Reads text at (std.Some (line.Exchange f end)) = Says text at (list.exchange f) end
Reads text at (std.Some (line.Split old new from end)) = SaysSplit text at old new from end
Reads text at (std.Some (line.Isolated v end)) = Says text at (list.isolated_point v) end
Reads text at std.None = SaysNothing text at
