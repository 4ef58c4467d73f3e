-- Document 02, item 8: the mending list, one line a change, pass by pass. Definitions only.
use Rattle.std.specs.Prelude.{ℕ, Bool, not, ◌&&◌, cond, List, [], ◌∷◌, ◌++◌, map, length, drop, eqb, Float}
use Prim.Native.String.{String}
use Rattle.rules.specs.Lists.{below, filter, each, through, has}
use Rattle.rules.specs.Mesh.{Point, Face, face, corners}
use Rattle.rules.specs.Float.{Shape, good, repeated, thin, shape}
use Rattle.rules.specs.State.{State, start}
use Rattle.rules.specs.Pass1.{pass1, marked1}
use Rattle.rules.specs.Pass2.{pass2, marked2}
use Rattle.rules.specs.Pass3.{pass3, marked3}
use Rattle.rules.specs.Pass4.{pass4, oriented, marked4}
use Rattle.rules.specs.Pass5.{pass5, fans, split_off}
use Rattle.rules.specs.Pass6.{marked6}
use Rattle.rules.specs.Repair.{bit, optional}
use Rattle.rules.specs.Line.{bytes, decimal}
use Rattle.rules.specs.Text.{text_line}

-- why a face was dropped
pub data Reason : Type 0 where
  for_repeated for_thin for_duplicate for_edge for_direction : Reason

-- the pass that drops for it
unfoldable pub pass_of : Reason → ℕ
pass_of for_repeated = 1
pass_of for_thin = 1
pass_of for_duplicate = 2
pass_of for_edge = 3
pass_of for_direction = 4

-- its word
unfoldable pub word_of : Reason → String
word_of for_repeated = "repeated"
word_of for_thin = "thin"
word_of for_duplicate = "duplicate"
word_of for_edge = "edge"
word_of for_direction = "direction"

-- one change
pub data Line : Type 0 where
  -- `d` input face, pass number and reason for a dropped face
  dropped_face : ℕ → Reason → Line
  -- `o` input face for an exchange
  exchange : ℕ → Line
  -- `s` old point, new point and the input faces that take the new one
  split_point : ℕ → ℕ → List ℕ → Line
  -- `u` point for an isolated one
  isolated_point : ℕ → Line

-- in `meshfix`'s form
unfoldable pub line_text : Line → List ℕ
line_text (dropped_face f why) = text_line (bytes "d") (decimal f ∷ decimal (pass_of why) ∷ bytes (word_of why) ∷ [])
line_text (exchange f) = text_line (bytes "o") (decimal f ∷ [])
line_text (split_point old new fs) = text_line (bytes "s") (decimal old ∷ decimal new ∷ map decimal fs)
line_text (isolated_point v) = text_line (bytes "u") (decimal v ∷ [])

-- ---- the lines of each pass, from the state before it

-- a line for each marked face, by its origin
unfoldable pub drops : (ℕ → Bool) → (ℕ → Reason) → List Face → List Line
drops marked why fs = each (λ i. cond (marked i) (dropped_face (face fs i).origin (why i) ∷ []) []) (below (length fs))

-- the reason in pass 1; a good face has none and leaves not
unfoldable pub reason_of : Shape → Reason
reason_of good = for_thin
reason_of repeated = for_repeated
reason_of thin = for_thin

-- pass 1: why each degenerate face leaves
unfoldable pub lines1 : Float → State → List Line
lines1 s m = drops (marked1 s m.points m.faces) (λ i. reason_of (shape s m.points (face m.faces i))) m.faces

-- pass 2
unfoldable pub lines2 : State → List Line
lines2 m = drops (marked2 m.faces) (λ i. for_duplicate) m.faces

-- pass 3
unfoldable pub lines3 : State → List Line
lines3 m = drops (marked3 m.points m.faces) (λ i. for_edge) m.faces

-- corner 1 is another one: corners 1 and 2 were exchanged. A face that repeats a corner is never exchanged
unfoldable pub turned : List Face → List Face → ℕ → Bool
turned fs gs i = not (eqb (face fs i).b (face gs i).b)

-- pass 4: the exchanges come before the drops
unfoldable pub lines4 : State → List Line
lines4 m =
    let gs = (oriented m.faces).walk.faces in
    each (λ i. cond (turned m.faces gs i) (exchange (face gs i).origin ∷ []) []) (below (length gs))
    ++ drops (marked4 m.points gs) (λ i. for_direction) gs

-- the faces of a group that still have the point v take the new one
unfoldable pub takers : ℕ → List Face → List ℕ → List ℕ
takers v fs fan = map (λ i. (face fs i).origin) (filter (λ i. has i fan && has v (corners (face fs i))) (below (length fs)))

-- the state on the way through pass 5, and the lines so far
pub record SplitLog : Type 0 where
  pub state : State
  pub lines : List Line

-- one group more than the first: the copy, and the line that tells it
unfoldable pub log_off : ℕ → SplitLog → List ℕ → SplitLog
log_off v l fan =
    record {
      state = split_off v l.state fan;
      lines = l.lines ++ (split_point v (length l.state.points) (takers v l.state.faces fan) ∷ []);
    }

-- the groups at a point, but the first
unfoldable pub log_at : SplitLog → ℕ → SplitLog
log_at l v = through (log_off v) l (drop 1 (fans l.state.faces v))

-- pass 5
unfoldable pub lines5 : State → List Line
lines5 m = (through log_at (record { state = m; lines = [] }) (below (length m.points))).lines

-- pass 6: the unused points, by the numbers that they have as it begins
unfoldable pub lines6 : State → List Line
lines6 m = each (λ v. cond (marked6 m.faces v) (isolated_point v ∷ []) []) (below (length m.points))

-- ---- the list: lines follow the passes, and a pass that is off has none
unfoldable pub list : Float → ℕ → List Point → List Face → List Line
list s options ps fs =
    let m0 = start ps fs in
    let m1 = optional (bit 0 options) (pass1 s) m0 in
    let m2 = optional (bit 1 options) pass2 m1 in
    let m3 = optional (bit 2 options) pass3 m2 in
    let m4 = optional (bit 4 options) pass4 m3 in
    let m5 = optional (bit 3 options) pass5 m4 in
    cond (bit 0 options) (lines1 s m0) []
    ++ cond (bit 1 options) (lines2 m1) []
    ++ cond (bit 2 options) (lines3 m2) []
    ++ cond (bit 4 options) (lines4 m3) []
    ++ cond (bit 3 options) (lines5 m4) []
    ++ cond (bit 5 options) (lines6 m5) []

-- its text
unfoldable pub list_text : Float → ℕ → List Point → List Face → List ℕ
list_text s options ps fs = each line_text (list s options ps fs)
