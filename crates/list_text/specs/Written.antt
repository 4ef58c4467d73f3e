-- The words of this crate's contracts: the lines that rows tell, as bytes, and what the functions ask of the rows. Definitions only.
use Rattle.std.specs.Prelude.{Option, Some, None, ◌≡◌, ◌&&◌, cond, List, [], ◌∷◌, ◌++◌, map, ℕ, ◌+◌, ◌-◌, ◌*◌, ◌/◌, ◌%◌, ◌≤◌, ◌<◌, eqb, leb, length, get_or}
use Prim.Native.String.{String}
use Rattle.rows.specs.Region.{part}
use Rattle.rows.specs.Retain.{up_to}
use Rattle.sorting.specs.Groups.{sorted_by}
use Rattle.sorting.specs.Sort.{key_by}
use Rattle.rules.specs.Lists.{below, filter, each, has}
use Rattle.rules.specs.Mesh.{faces_of, face, corners}
use Rattle.rules.specs.Line.{bytes, decimal}
use Rattle.rules.specs.Mending.{line_text}
use Rattle.mending_rows.specs.Told.{Fates, splits_told, told}
use Rattle.list_text.specs.declared.Rows.{Rows}
use Rattle.list_text.specs.declared.Kind.{Kind}
use Rattle.list_text.specs.declared.Kind.TheVariants as kind
use Rattle.list_text.specs.declared.Section.{Section}
use Rattle.list_text.specs.declared.Section.TheVariants as section

-- ---- what the rows tell

-- the input faces that have the point v, by the corners of n faces: rising, and each once
abbrev pub takers_of : List ℕ → List ℕ → ℕ → ℕ → List ℕ
takers_of column origins n v = map (λ i. get_or origins i 0) (filter (λ i. has v (corners (face (faces_of column) i))) (below n))

-- the fates that the rows hold
abbrev pub fates_of : List ℕ → List ℕ → Rows → Fates
fates_of w origins rows =
    record {
      fate = λ f. get_or w (rows.fates + f) 0;
      splits = rows.splits;
      old = λ j. get_or w (rows.olds + j) 0;
      takers = λ j. takers_of (part w rows.column (3 * rows.left)) origins rows.left (rows.points + j);
      unused = λ v. eqb (get_or w (rows.unused + v) 0) 1;
    }

-- the text of the lines that they tell
abbrev pub list_text_by_rows : List ℕ → List ℕ → Rows → List ℕ
list_text_by_rows w origins rows = each line_text (told rows.points rows.faces (fates_of w origins rows))

-- ---- a line of a face or a point, by its kind: 1 to 5 it leaves for that reason, 6 it was exchanged, 7 it is an isolated point, 0 no line

-- the kind that an entry tells, of those from `first` to `last`
abbrev pub kind_of : ℕ → ℕ → ℕ → ℕ
kind_of entry first last =
    cond (eqb first 6) (cond (leb 8 entry) 6 0)
    (cond (eqb first 7) (cond (eqb entry 1) 7 0)
    (cond (leb first (entry % 8) && leb (entry % 8) last) (entry % 8) 0))

-- the number of a kind that the code knows
abbrev pub code_of : Kind → ℕ
code_of kind.Repeated = 1
code_of kind.Thin = 2
code_of kind.Duplicate = 3
code_of kind.Edge = 4
code_of kind.Direction = 5
code_of kind.Exchange = 6
code_of kind.Isolated = 7

-- 0 for none
abbrev pub told_code : Option Kind → ℕ
told_code None = 0
told_code (Some k) = code_of k

-- the kinds of a section
abbrev pub first_of : Section → ℕ
first_of section.Degenerate = 1
first_of section.Duplicate = 3
first_of section.Edge = 4
first_of section.Exchange = 6
first_of section.Direction = 5
first_of section.Isolated = 7

abbrev pub last_of : Section → ℕ
last_of section.Degenerate = 2
last_of section.Duplicate = 3
last_of section.Edge = 4
last_of section.Exchange = 6
last_of section.Direction = 5
last_of section.Isolated = 7

-- its letter
abbrev pub letter_of : ℕ → ℕ
letter_of k = cond (eqb k 6) 111 (cond (eqb k 7) 117 100)

-- a pass, a reason and the newline
abbrev pub tail_with : ℕ → String → List ℕ
tail_with pass word = 9 ∷ (48 + pass) ∷ 9 ∷ (bytes word ++ (10 ∷ []))

-- what follows the number
abbrev pub tail_of : ℕ → List ℕ
tail_of k =
    cond (eqb k 1) (tail_with 1 "repeated")
    (cond (eqb k 2) (tail_with 1 "thin")
    (cond (eqb k 3) (tail_with 2 "duplicate")
    (cond (eqb k 4) (tail_with 3 "edge")
    (cond (eqb k 5) (tail_with 4 "direction") (10 ∷ [])))))

-- a tab and a number
abbrev pub field : ℕ → List ℕ
field n = 9 ∷ decimal n

-- the line
abbrev pub kind_text : ℕ → ℕ → List ℕ
kind_text k n = cond (eqb k 0) [] ((letter_of k ∷ field n) ++ tail_of k)

-- the line that entry i of the row tells
abbrev pub line_at : List ℕ → ℕ → ℕ → ℕ → ℕ → List ℕ
line_at w row first last i = kind_text (kind_of (get_or w (row + i) 0) first last) i

-- the lines that the n entries from `row` on tell
abbrev pub row_text : List ℕ → ℕ → ℕ → ℕ → ℕ → List ℕ
row_text w row n first last = each (line_at w row first last) (below n)

-- a row that stands in the room, of at most as many entries as there may be points at the end
pub record RowAsks (w : List ℕ) (row n : ℕ) : Type 0 where
  pub fit : row + n ≤ length w
  pub few : n ≤ 7340032

-- ---- the splits

-- how many of the corners stand at points below v
abbrev pub start_of : List ℕ → Rows → ℕ → ℕ
start_of w rows v = length (sorted_by (key_by w rows.column (3 * rows.left)) v (up_to (3 * rows.left)))

-- the corners of the faces that stand, sorted by their points: as `sorting::order` leaves them, for points below `top`
pub record Sorted (w : List ℕ) (rows : Rows) : Type 0 where
  pub column_fit : rows.column + 3 * rows.left ≤ length w
  pub sorted_fit : rows.sorted + 3 * rows.left ≤ length w
  pub few : rows.left ≤ 1048576
  pub top : ℕ
  pub enough : rows.points + rows.splits ≤ top
  pub sorted : part w rows.sorted (3 * rows.left) ≡ sorted_by (key_by w rows.column (3 * rows.left)) top (up_to (3 * rows.left))

-- the first `from` of them stand at points below v
pub record BelowAsks (w : List ℕ) (rows : Rows) (from v : ℕ) : Type 0 where
  pub sorted : Sorted w rows
  pub most : v ≤ rows.points + rows.splits
  pub begun : from ≤ start_of w rows v

-- the faces at some corners, without one that was just told
abbrev pub once : ℕ → List ℕ → List ℕ
once last [] = []
once last (id ∷ ids) = cond (eqb (id / 3) last) [] ((id / 3) ∷ []) ++ once (id / 3) ids

-- the field of face i, if it was not just told
abbrev pub taker_text : List ℕ → ℕ → ℕ → List ℕ
taker_text origins i last = cond (eqb i last) [] (field (get_or origins i 0))

-- the fields of the faces at some corners, each once
abbrev pub fields_of : List ℕ → ℕ → List ℕ → List ℕ
fields_of origins last ids = each (λ i. field (get_or origins i 0)) (once last ids)

-- of those at the sorted corners from `from` to before `to`
abbrev pub run_text : List ℕ → List ℕ → Rows → ℕ → ℕ → List ℕ
run_text w origins rows from to = fields_of origins rows.left (part w (rows.sorted + from) (to - from))

-- those are some of the corners, and each face has an origin
pub record RunAsks (w origins : List ℕ) (rows : Rows) (from to : ℕ) : Type 0 where
  pub sorted : Sorted w rows
  pub origins_fit : rows.left ≤ length origins
  pub rises : from ≤ to
  pub inside : to ≤ 3 * rows.left

-- the line of the j-th split
abbrev pub split_text : List ℕ → List ℕ → Rows → ℕ → ℕ → ℕ → List ℕ
split_text w origins rows j from to =
    115 ∷ (field (get_or w (rows.olds + j) 0) ++ (field (rows.points + j) ++ (run_text w origins rows from to ++ (10 ∷ []))))

-- the j-th of the splits, the old points in the room, and the corners at the new one
pub record SplitAsks (w origins : List ℕ) (rows : Rows) (j from to : ℕ) : Type 0 where
  pub run : RunAsks w origins rows from to
  pub here : j < rows.splits
  pub olds_fit : rows.olds + rows.splits ≤ length w
  pub few_points : rows.points + rows.splits ≤ 7340032

-- the lines of all splits
abbrev pub splits_text : List ℕ → List ℕ → Rows → List ℕ
splits_text w origins rows = each line_text (splits_told rows.points (fates_of w origins rows))

-- the sorted corners, the origins, and the old points in the room
pub record SplitsAsk (w origins : List ℕ) (rows : Rows) : Type 0 where
  pub sorted : Sorted w rows
  pub origins_fit : rows.left ≤ length origins
  pub olds_fit : rows.olds + rows.splits ≤ length w
  pub few_points : rows.points + rows.splits ≤ 7340032

-- ---- the list

-- the rows stand in the room
pub record ListAsks (w origins : List ℕ) (rows : Rows) : Type 0 where
  pub fates : RowAsks w rows.fates rows.faces
  pub splits : SplitsAsk w origins rows
  pub unused : RowAsks w rows.unused (rows.points + rows.splits)
