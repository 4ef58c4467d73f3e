-- A job's points and faces are whole, and no more than 64: what a repair of it need not refuse. Assumes nothing.
use mathlib.Core.Path.{◌≡◌, refl, sym, subst}
use mathlib.Core.Bool.{Bool, true, false, cond}
use mathlib.Core.Option.{Option, none, some}
use mathlib.Core.List.{List, [], ◌∷◌}
use Prim.Native.Nat.{ℕ, ◌%◌, ◌≤◌}
use native.Mathlib.Omega.{arith}
use lib.Dec.{leb}
use borrow.Author.Tests.{leb-true, leb-false}
use lib.Ieee.{Float}
use lib.ListN.{length, length-append}
use Rattle.rules.specs.Lists.{through}
use Rattle.rules.specs.Line.{bytes}
use Rattle.rules.specs.Text.{Job, equal, real, whole, three, parted, lines_of, with_point, with_corners, with_line, and_line, opened, first_line, job_of_lines, small, all_lines, read}
use Rattle.text_in.proofs.Growing.{small_none, small_fits, small_points, small_faces}

-- points and faces are made of threes
pub record Whole (j : Job) : Type 0 where
  pub points : length j.points % 3 ≡ 0
  pub faces : length j.faces % 3 ≡ 0

-- or there is no job
abbrev Threes : Option Job → Type 0
Threes none = Unit {0}
Threes (some j) = Whole j

-- a point more
threes_point : (j : Job) (x y z : Option Float) → Whole j → Threes (with_point j (three x y z))
unfolding with_point three
threes_point j none y z w = tt
threes_point j (some x) none z w = tt
threes_point j (some x) (some y) none w = tt
threes_point j (some x) (some y) (some z) w = record { points = simp length-append (omega (arith, w.points)); faces = w.faces }

-- a face more
threes_corners : (j : Job) (x y z : Option ℕ) → Whole j → Threes (with_corners j (three x y z))
unfolding with_corners three
threes_corners j none y z w = tt
threes_corners j (some x) none z w = tt
threes_corners j (some x) (some y) none w = tt
threes_corners j (some x) (some y) (some z) w = record { points = w.points; faces = simp length-append (omega (arith, w.faces)) }

-- a line more
threes_line : (j : Job) (fields : List (List ℕ)) → Whole j → Threes (with_line j fields)
unfolding with_line
threes_line j [] w = tt
threes_line j (k ∷ []) w = tt
threes_line j (k ∷ x ∷ []) w = tt
threes_line j (k ∷ x ∷ y ∷ []) w = tt
threes_line j (k ∷ x ∷ y ∷ z ∷ []) w = go (equal k (bytes "p")) (equal k (bytes "f"))
  where
    go : (t u : Bool) → Threes (cond t (with_point j (three (real x) (real y) (real z))) (cond u (with_corners j (three (whole x) (whole y) (whole z))) none))
    go true u = threes_point j (real x) (real y) (real z) w
    go false true = threes_corners j (whole x) (whole y) (whole z) w
    go false false = tt
threes_line j (k ∷ x ∷ y ∷ z ∷ u ∷ more) w = tt

-- also after a bad one
threes_and : (o : Option Job) (fields : List (List ℕ)) → Threes o → Threes (and_line o fields)
unfolding and_line
threes_and none fields w = tt
threes_and (some j) fields w = threes_line j fields w

-- all lines
threes_through : (ls : List (List (List ℕ))) (o : Option Job) → Threes o → Threes (through and_line o ls)
unfolding through
threes_through [] o w = w
threes_through (l ∷ ls) o w = threes_through ls (and_line o l) (threes_and o l w)

-- the first
threes_opened : (o : Option ℕ) (s : Option Float) → Threes (opened o s)
unfolding opened
threes_opened none s = tt
threes_opened (some o) none = tt
threes_opened (some o) (some s) = record { points = refl; faces = refl }

threes_first : (fields : List (List ℕ)) → Threes (first_line fields)
unfolding first_line
threes_first [] = tt
threes_first (k ∷ []) = tt
threes_first (k ∷ o ∷ []) = tt
threes_first (k ∷ o ∷ s ∷ []) = go (equal k (bytes "o"))
  where
    go : (t : Bool) → Threes (cond t (opened (whole o) (real s)) none)
    go true = threes_opened (whole o) (real s)
    go false = tt
threes_first (k ∷ o ∷ s ∷ u ∷ rest) = tt

-- the job
threes_job : (ls : List (List (List ℕ))) → Threes (job_of_lines ls)
unfolding job_of_lines
threes_job [] = tt
threes_job (l ∷ ls) = threes_through ls (first_line l) (threes_first l)

-- what a job is
pub record Sized (j : Job) : Type 0 where
  pub points : length j.points % 3 ≡ 0
  pub faces : length j.faces % 3 ≡ 0
  pub few_points : length j.points ≤ 192
  pub few_faces : length j.faces ≤ 192

abbrev Sizes : Option Job → Type 0
Sizes none = Unit {0}
Sizes (some j) = Sized j

-- a small one
sizes_small : (o : Option Job) → Threes o → Sizes (small o)
sizes_small none w = subst Sizes (sym small_none) tt
sizes_small (some j) w = go (leb (length j.points) 192) (leb (length j.faces) 192) refl refl
  where
    go : (t u : Bool) → leb (length j.points) 192 ≡ t → leb (length j.faces) 192 ≡ u → Sizes (small (some j))
    go true true e f = subst Sizes (sym (small_fits j (leb-true _ _ e) (leb-true _ _ f))) (record { points = w.points; faces = w.faces; few_points = leb-true _ _ e; few_faces = leb-true _ _ f })
    go true false e f = subst Sizes (sym (small_faces j (leb-false _ _ f))) tt
    go false u e f = subst Sizes (sym (small_points j (leb-false _ _ e))) tt

-- whether or not the last line has a newline
sizes_lines : (o : Option (List (List (List ℕ)))) → Sizes (all_lines o)
unfolding all_lines
sizes_lines none = tt
sizes_lines (some ls) = sizes_small (job_of_lines ls) (threes_job ls)

-- a text's
sizes_read : (text : List ℕ) → Sizes (read text)
unfolding read
sizes_read text = go (leb (length text) 8192)
  where
    go : (t : Bool) → Sizes (cond t (all_lines (lines_of (parted 10 text))) none)
    go true = sizes_lines (lines_of (parted 10 text))
    go false = tt

-- the job that a text asks for
pub read_sized : (text : List ℕ) (j : Job) → read text ≡ some j → Sized j
read_sized text j e = subst Sizes e (sizes_read text)
