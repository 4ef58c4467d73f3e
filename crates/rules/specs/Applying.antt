-- Document 02, item 8: a mending list applied to the input, and its first bad line. Definitions only.
use Rattle.std.specs.Prelude.{ℕ, suc, ◌*◌, Bool, true, false, not, ◌&&◌, ◌||◌, cond, List, [], ◌∷◌, ◌++◌, map, length, take, eqb, ltb}
use Rattle.std.proofs.Math.Option.{Option, none, some}
use Rattle.rules.specs.Lists.{below, filter, count, any, all, leave, through, has}
use Rattle.rules.specs.Mesh.{Point, Face, point, corners, exchanged, renamed}
use Rattle.rules.specs.Pass6.{used}
use Rattle.rules.specs.Refusal.{Check, at_first}
use Rattle.rules.specs.Line.{bytes}
use Rattle.rules.specs.Text.{parted, equal, whole}
use Rattle.rules.specs.Mending.{Reason, Line, dropped_face, exchange, split_point, isolated_point, for_repeated, for_thin, for_duplicate, for_edge, for_direction, pass_of, word_of}

-- ---- lines: none where the form is wrong

-- all fields are numbers
unfoldable pub wholes : List (List ℕ) → Option (List ℕ)
wholes [] = some []
wholes (f ∷ fs) = elim (whole f) [ none ↦ none | some n ↦ elim (wholes fs) [ none ↦ none | some ns ↦ some (n ∷ ns) ] ]

-- the reason whose pass and word these are
unfoldable pub reason_read : List ℕ → List ℕ → List Reason → Option Reason
reason_read pass word [] = none
reason_read pass word (why ∷ rest) =
    cond (elim (whole pass) [ none ↦ false | some k ↦ eqb k (pass_of why) ] && equal word (bytes (word_of why))) (some why) (reason_read pass word rest)

-- the reasons there are
abbrev pub all_reasons : List Reason
all_reasons = for_repeated ∷ for_thin ∷ for_duplicate ∷ for_edge ∷ for_direction ∷ []

-- a face and a reason
unfoldable pub drop_read : Option ℕ → Option Reason → Option Line
drop_read none why = none
drop_read (some f) none = none
drop_read (some f) (some why) = some (dropped_face f why)

-- the three fields of a dropped face
unfoldable pub d_read : List (List ℕ) → Option Line
d_read [] = none
d_read (f ∷ []) = none
d_read (f ∷ p ∷ []) = none
d_read (f ∷ p ∷ w ∷ []) = drop_read (whole f) (reason_read p w all_reasons)
d_read (f ∷ p ∷ w ∷ x ∷ rest) = none

-- a line of exactly one number
unfoldable pub one_read : (ℕ → Line) → List ℕ → Option Line
one_read make [] = none
one_read make (n ∷ []) = some (make n)
one_read make (n ∷ m ∷ rest) = none

-- numbers that rise, each once
unfoldable pub rising : List ℕ → Bool
rising [] = true
rising (n ∷ []) = true
rising (n ∷ m ∷ rest) = ltb n m && rising (m ∷ rest)

-- the numbers of a split: two, and the faces that take the new point, which rise
unfoldable pub s_read : List ℕ → Option Line
s_read [] = none
s_read (old ∷ []) = none
s_read (old ∷ new ∷ fs) = cond (rising fs) (some (split_point old new fs)) none

-- read on from what has been read
unfoldable pub and_then : {A B : Type 0} → (A → Option B) → Option A → Option B
and_then f none = none
and_then f (some a) = f a

-- a line by its first field
unfoldable pub fields_read : List (List ℕ) → Option Line
fields_read [] = none
fields_read (k ∷ fs) =
    cond (equal k (bytes "d")) (d_read fs)
    (cond (equal k (bytes "o")) (and_then (one_read exchange) (wholes fs))
    (cond (equal k (bytes "s")) (and_then s_read (wholes fs))
    (cond (equal k (bytes "u")) (and_then (one_read isolated_point) (wholes fs)) none)))

-- a line for each piece but the last, which is what stands after the last newline: bytes there are a line whose form is wrong
unfoldable pub pieces_read : List (List ℕ) → List (Option Line)
pieces_read [] = []
pieces_read ([] ∷ []) = []
pieces_read ((b ∷ bs) ∷ []) = none ∷ []
pieces_read (p ∷ q ∷ rest) = fields_read (parted 9 p) ∷ pieces_read (q ∷ rest)

-- the lines of a text
unfoldable pub lines_read : List ℕ → List (Option Line)
lines_read text = pieces_read (parted 10 text)

-- ---- order: lines follow the passes, in pass 4 the exchanges before the drops; within, by first number and then by second

-- the section of a line
unfoldable pub section : Line → ℕ
section (dropped_face f for_repeated) = 1
section (dropped_face f for_thin) = 1
section (dropped_face f for_duplicate) = 2
section (dropped_face f for_edge) = 3
section (exchange f) = 4
section (dropped_face f for_direction) = 5
section (split_point old new fs) = 6
section (isolated_point v) = 7

-- the numbers that order it within its section
unfoldable pub numbers : Line → List ℕ
numbers (dropped_face f why) = f ∷ pass_of why ∷ []
numbers (exchange f) = f ∷ []
numbers (split_point old new fs) = old ∷ new ∷ []
numbers (isolated_point v) = v ∷ []

-- one list of numbers stands before another: the first that differs is lower
unfoldable pub precedes : List ℕ → List ℕ → Bool
precedes [] [] = false
precedes [] (y ∷ ys) = true
precedes (x ∷ xs) [] = false
precedes (x ∷ xs) (y ∷ ys) = ltb x y || eqb x y && precedes xs ys

-- ---- the bench: what stands there when some lines have been applied

-- points and faces, how many points were split off, the points named unused, and section and numbers of the last line
pub record Bench : Type 0 where
  pub points : List Point
  pub faces : List Face
  pub splits : ℕ
  pub unused : List ℕ
  pub last : List ℕ

-- an input face that is there
unfoldable pub present : Bench → ℕ → Bool
present b f = any (λ g. eqb f g.origin) b.faces

-- a face that is there and has the point v
unfoldable pub present_with : Bench → ℕ → ℕ → Bool
present_with b v f = any (λ g. eqb f g.origin && has v (corners g)) b.faces

-- a line applies to what stands, for P points and F faces of the input
unfoldable pub applies : ℕ → ℕ → Bench → Line → Bool
applies P F b (dropped_face f why) = present b f
applies P F b (exchange f) = present b f
applies P F b (split_point old new fs) = ltb b.splits (3 * F) && ltb old P && eqb new (length b.points) && all (present_with b old) fs
applies P F b (isolated_point v) = ltb v (length b.points) && not (used b.faces v)

-- what stands then
unfoldable pub change : Bench → Line → List ℕ → Bench
change b (dropped_face f why) last =
    record { points = b.points; faces = filter (λ g. not (eqb f g.origin)) b.faces; splits = b.splits; unused = b.unused; last = last }
change b (exchange f) last =
    record { points = b.points; faces = map (λ g. cond (eqb f g.origin) (exchanged g) g) b.faces; splits = b.splits; unused = b.unused; last = last }
change b (split_point old new fs) last =
    record {
      points = b.points ++ (point b.points old ∷ []);
      faces = map (λ g. cond (has g.origin fs) (renamed (λ x. cond (eqb x old) new x) g) g) b.faces;
      splits = suc b.splits;
      unused = b.unused;
      last = last;
    }
change b (isolated_point v) last =
    record { points = b.points; faces = b.faces; splits = b.splits; unused = b.unused ++ (v ∷ []); last = last }

-- one line more: none where it is bad
unfoldable pub with_list_line : ℕ → ℕ → Option Bench → Option Line → Option Bench
with_list_line P F none l = none
with_list_line P F (some b) none = none
with_list_line P F (some b) (some l) =
    let at = section l ∷ numbers l in
    cond (precedes b.last at && applies P F b l) (some (change b l at)) none

-- the input
unfoldable pub bench_of : List Point → List Face → Bench
bench_of ps fs = record { points = ps; faces = fs; splits = 0; unused = []; last = [] }

-- what stands after the lines, if all of them apply
unfoldable pub after_lines : List Point → List Face → List (Option Line) → Option Bench
after_lines ps fs ls = through (with_list_line (length ps) (length fs)) (some (bench_of ps fs)) ls

-- nothing stands
unfoldable pub is_none : {A : Type 0} → Option A → Bool
is_none none = true
is_none (some a) = false

-- 15 at the first bad line: the first up to which the lines do not all apply
unfoldable pub no15 : List Point → List Face → List ℕ → Check
no15 ps fs text =
    let ls = lines_read text in
    at_first 15 (λ k. is_none (after_lines ps fs (take (suc k) ls))) (below (length ls))

-- points and faces
pub record Mesh : Type 0 where
  pub points : List Point
  pub faces : List Face

-- the mesh that a bench leaves: the isolated points leave together, order is kept, corners are renumbered
unfoldable pub finished : Bench → Mesh
finished b =
    record {
      points = leave (λ v. has v b.unused) b.points;
      faces = map (renamed (λ v. count (λ u. not (has u b.unused)) (below v))) b.faces;
    }

-- what a list makes of the input; of a list that does not apply nothing is said, since it is refused
unfoldable pub applied : List Point → List Face → List ℕ → Mesh
applied ps fs text = elim (after_lines ps fs (lines_read text)) [ none ↦ record { points = ps; faces = fs } | some b ↦ finished b ]
