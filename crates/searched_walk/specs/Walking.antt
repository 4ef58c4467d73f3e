-- The rules' walk as the words of the faces have it, and what the functions ask and give. Definitions only.
use Rattle.std.specs.Prelude.{◌≡◌, Bool, true, false, cond, List, [], ◌∷◌, map, ℕ, zero, suc, ◌+◌, ◌/◌, ◌%◌, ◌≤◌, ◌<◌, eqb, T, length, get_or, replicate}
use Rattle.rules.specs.Lists.{filter, through}
use Rattle.rules.specs.Steps.{Step, steps}
use Rattle.rules.specs.Pass4 as pass4
use Rattle.rules.specs.Pass4.{Walk, Oriented, oriented}
use Rattle.rule_laws.proofs.Rising.{All}
use Rattle.orienting.proofs.Room.{Sound}
use Rattle.face_words.specs.Words.{stands, view, there, viewed, place}
use Rattle.face_words.specs.Views.{Worded}
use Rattle.entry_search.specs.Searching.{along}
use Rattle.searched_walk.specs.declared.Hand.{Hand}
use Rattle.searched_walk.specs.declared.Turned.{Turned}

-- face f is visited
unfoldable pub seen : List ℕ → ℕ → Bool
seen w f = eqb (get_or w f 0 / 8 % 2) 1

-- the n faces of the chain from h on
unfoldable pub chain : List ℕ → ℕ → ℕ → List ℕ
chain w zero h = []
chain w (suc n) h = h ∷ chain w n (get_or w h 0 / 256)

-- the rules' walk
unfoldable pub walk_of : List ℕ → List ℕ → Hand → Walk
walk_of xs w h =
    record {
      faces = viewed xs w;
      visited = map (seen w) (there w (length w));
      stack = map (place w) (chain w h.size h.top);
      exchanges = h.exchanges;
      mark = h.mark;
    }

-- with the marked components before
abbrev pub oriented_of : List ℕ → List ℕ → Hand → Oriented
oriented_of xs w h = record { walk = walk_of xs w h; marks = h.marks }

-- f has a word
pub record Within (w : List ℕ) (f : ℕ) : Type 0 where
  pub here : f < length w

-- a face that stands and is visited
abbrev pub Visited : List ℕ → ℕ → Type 0
Visited w f = (f < length w) × T (stands w f) × (seen w f ≡ true)

-- the words and the hand are those of a walk: an unvisited face has at most bit 0, and links are faces
pub record Ready (xs w : List ℕ) (h : Hand) : Type 0 where
  pub worded : Worded xs w
  pub fresh : (f : ℕ) → f < length w → seen w f ≡ false → get_or w f 0 < 2
  pub top : h.top ≤ length w
  pub links : (f : ℕ) → f < length w → get_or w f 0 / 256 ≤ length w
  pub stacked : All (Visited w) (chain w h.size h.top)
  pub sound : Sound (place w (length w)) (walk_of xs w h)

-- the same faces stand
pub record Kept (w w' : List ℕ) : Type 0 where
  pub long : length w' ≡ length w
  pub stays : stands w' ≡ stands w

-- the walk is v then
pub record WalkGives (xs w : List ℕ) (h : Hand) (v : Walk) (w' : List ℕ) (r : Hand) : Type 0 where
  pub kept : Kept w w'
  pub ready : Ready xs w' r
  pub marks : r.marks ≡ h.marks
  pub walk : walk_of xs w' r ≡ v

-- a walk, and a face
pub record FaceAsks (xs w : List ℕ) (h : Hand) (g : ℕ) : Type 0 where
  pub ready : Ready xs w h
  pub here : g < length w

-- that stands
pub record MeetAsks (xs w : List ℕ) (h : Hand) (g : ℕ) : Type 0 where
  pub ready : Ready xs w h
  pub here : g < length w
  pub up : T (stands w g)

-- it is met across s
abbrev pub MeetGives : List ℕ → List ℕ → Hand → ℕ → Step → List ℕ → Hand → Type 0
MeetGives xs w h g s w' r = WalkGives xs w h (pass4.meet s (walk_of xs w h) (place w g)) w' r

-- so many times
abbrev pub TimesGives : List ℕ → List ℕ → Hand → ℕ → Step → ℕ → List ℕ → Hand → Type 0
TimesGives xs w h g s n w' r = WalkGives xs w h (through (pass4.meet s) (walk_of xs w h) (replicate n (place w g))) w' r

-- the entries of face g along the edge of s that face j meets
abbrev pub met_at : List ℕ → List ℕ → ℕ → Step → ℕ → List ℕ
met_at xs w j s g = cond (eqb g j) [] (cond (stands w g) (map (λ x. g) (filter (along false s) (steps (view xs w g)))) [])

-- they are met
abbrev pub FaceGives : List ℕ → List ℕ → Hand → ℕ → ℕ → Step → List ℕ → Hand → Type 0
FaceGives xs w h j g s w' r = WalkGives xs w h (through (pass4.meet s) (walk_of xs w h) (map (place w) (met_at xs w j s g))) w' r

-- face j crosses by s
abbrev pub AcrossGives : List ℕ → List ℕ → Hand → ℕ → Step → List ℕ → Hand → Type 0
AcrossGives xs w h j s w' r = WalkGives xs w h (pass4.across (place w j) (walk_of xs w h) s) w' r

-- by all of its steps
abbrev pub CrossGives : List ℕ → List ℕ → Hand → ℕ → List ℕ → Hand → Type 0
CrossGives xs w h j w' r = WalkGives xs w h (through (pass4.across (place w j)) (walk_of xs w h) (steps (view xs w j))) w' r

-- a face is on the stack
pub record PopAsks (xs w : List ℕ) (h : Hand) : Type 0 where
  pub ready : Ready xs w h
  pub some : 0 < h.size

-- one turn of the rule's run was made
pub record PopGives (xs w : List ℕ) (h : Hand) (w' : List ℕ) (r : Hand) : Type 0 where
  pub kept : Kept w w'
  pub ready : Ready xs w' r
  pub marks : r.marks ≡ h.marks
  pub runs : (k : ℕ) → pass4.run k (walk_of xs w' r).stack (walk_of xs w' r) ≡ pass4.run (suc k) (walk_of xs w h).stack (walk_of xs w h)

-- n turns were
abbrev pub EmptyGives : List ℕ → List ℕ → Hand → ℕ → List ℕ → Hand → Type 0
EmptyGives xs w h n w' r = WalkGives xs w h (pass4.run n (walk_of xs w h).stack (walk_of xs w h)) w' r

-- n faces stand, and f is one that is unvisited
pub record StartAsks (xs w : List ℕ) (h : Hand) (n f : ℕ) : Type 0 where
  pub ready : Ready xs w h
  pub here : f < length w
  pub up : T (stands w f)
  pub new : seen w f ≡ false
  pub number : n ≡ place w (length w)

-- its component is walked
abbrev pub ComponentGives : List ℕ → List ℕ → Hand → ℕ → List ℕ → Hand → Type 0
ComponentGives xs w h f w' r = WalkGives xs w h (pass4.component (walk_of xs w h) (place w f)) w' r

-- n faces stand, and f may be one of them
pub record BeginAsks (xs w : List ℕ) (h : Hand) (n f : ℕ) : Type 0 where
  pub ready : Ready xs w h
  pub here : f < length w
  pub number : n ≡ place w (length w)
  pub few : h.marks ≤ f

-- the walk is begun there, if face f stands
pub record BeginGives (xs w : List ℕ) (h : Hand) (f : ℕ) (w' : List ℕ) (r : Hand) : Type 0 where
  pub kept : Kept w w'
  pub ready : Ready xs w' r
  pub few : r.marks ≤ h.marks + 1
  pub walk : oriented_of xs w' r ≡ cond (stands w f) (pass4.begin (oriented_of xs w h) (place w f)) (oriented_of xs w h)

-- words of faces that are gone or not, and nothing else
pub record WalkAsks (xs w : List ℕ) : Type 0 where
  pub worded : Worded xs w
  pub low : (f : ℕ) → f < length w → get_or w f 0 < 2

-- of which n stand
pub record AllAsks (xs w : List ℕ) (n : ℕ) : Type 0 where
  pub asks : WalkAsks xs w
  pub number : n ≡ place w (length w)

-- the whole first half
pub record AllGives (xs w w' : List ℕ) (r : Hand) : Type 0 where
  pub kept : Kept w w'
  pub walk : oriented_of xs w' r ≡ oriented (viewed xs w)

-- bits 0 and 1 are left
pub record CleanGives (w w' : List ℕ) : Type 0 where
  pub long : length w' ≡ length w
  pub words : (f : ℕ) → f < length w → get_or w' f 0 ≡ get_or w f 0 % 4

-- the list is oriented, and what was counted
pub record TurnedGives (xs w w' : List ℕ) (r : Turned) : Type 0 where
  pub long : length w' ≡ length w
  pub low : (f : ℕ) → f < length w' → get_or w' f 0 < 4
  pub stays : stands w' ≡ stands w
  pub list : viewed xs w' ≡ (oriented (viewed xs w)).walk.faces
  pub reoriented : r.reoriented ≡ (oriented (viewed xs w)).walk.exchanges
  pub components : r.components ≡ (oriented (viewed xs w)).marks
