-- What the rows say of the bench of a mending list: which faces are there, which points they have, and what the last line was. Definitions only.
use Rattle.std.specs.Prelude.{◌≡◌, Bool, true, false, ◌&&◌, ◌||◌, List, [], ◌∷◌, ℕ, zero, suc, ◌+◌, ◌*◌, ◌/◌, ◌≤◌, ◌<◌, eqb, ltb, length}
use Rattle.rules.specs.Pass6.{used}
use Rattle.rules.specs.Applying.{Bench, present, present_with}
use Rattle.rule_laws.proofs.Rising.{All}
use Rattle.rule_laws.proofs.Once.{Inside}
use Rattle.list_lines.specs.declared.Reason as read
use Rattle.list_lines.specs.declared.Reason.TheVariants as word
use Rattle.point_bits.specs.Bits.{bit}
use Rattle.face_marks.specs.Marks.{here, keeps, Small}

-- ---- order

-- section s and the numbers f and g stand behind section, first and second
unfoldable pub behind : ℕ → ℕ → ℕ → ℕ → ℕ → ℕ → Bool
behind section first second s f g = ltb section s || (eqb section s && (ltb first f || (eqb first f && ltb second g)))

-- the section of a dropped face, by its reason
unfoldable pub section_of : read.Reason → ℕ
section_of word.Repeated = 1
section_of word.Thin = 1
section_of word.Duplicate = 2
section_of word.Edge = 3
section_of word.Direction = 5

-- section and numbers as the rules have them, where the pass of a dropped face is told by its section
unfoldable pub last_of : ℕ → ℕ → ℕ → List ℕ
last_of zero f g = []
last_of (suc zero) f g = 1 ∷ f ∷ 1 ∷ []
last_of (suc (suc zero)) f g = 2 ∷ f ∷ 2 ∷ []
last_of (suc (suc (suc zero))) f g = 3 ∷ f ∷ 3 ∷ []
last_of (suc (suc (suc (suc zero)))) f g = 4 ∷ f ∷ []
last_of (suc (suc (suc (suc (suc zero))))) f g = 5 ∷ f ∷ 4 ∷ []
last_of (suc (suc (suc (suc (suc (suc k)))))) f g = 6 ∷ f ∷ g ∷ []

-- how many lines there are at most up to this one, before the `u` lines: each section has its faces, and the splits
unfoldable pub room : ℕ → ℕ → ℕ → ℕ → ℕ
room F zero f k = 0
room F (suc zero) f k = f + 1
room F (suc (suc zero)) f k = F + f + 1
room F (suc (suc (suc zero))) f k = 2 * F + f + 1
room F (suc (suc (suc (suc zero)))) f k = 3 * F + f + 1
room F (suc (suc (suc (suc (suc zero))))) f k = 4 * F + f + 1
room F (suc (suc (suc (suc (suc (suc s)))))) f k = 5 * F + k

-- ---- the bench

-- Faces xs over P points of the input, a row of bytes m and a row of bits u.
pub record Stands (P : ℕ) (xs m u : List ℕ) (b : Bench) : Type 0 where
  pub small : Small m
  pub points : length b.points ≡ P + b.splits
  pub origins : All (λ g. g.origin < length xs / 3) b.faces
  pub inside : Inside (length b.points) b.faces
  pub here_is : (f : ℕ) → present b f ≡ (ltb f (length xs / 3) && here m f)
  pub with_is : (v f : ℕ) → v < P → present_with b v f ≡ ((ltb f (length xs / 3) && here m f) && keeps xs m f v)
  pub old_clear : (v : ℕ) → v < P → bit u v ≡ false
  pub far_clear : (v : ℕ) → length b.points ≤ v → bit u v ≡ false
  pub new_used : (v : ℕ) → P ≤ v → v < length b.points → bit u v ≡ used b.faces v

-- besides, section and numbers of the last line, and how many points were split off
pub record Standing (P : ℕ) (xs m u : List ℕ) (s f g k : ℕ) (b : Bench) : Type 0 where
  pub stands : Stands P xs m u b
  pub last : b.last ≡ last_of s f g
  pub splits : b.splits ≡ k
  pub few : k ≤ 3 * (length xs / 3)
  pub section : s ≤ 6
  pub early : s < 6 → k ≡ 0
  pub alone : s < 6 → g ≡ 0
  pub low : 0 < s → s < 6 → f < length xs / 3

-- some face is named
unfoldable pub names_one : List ℕ → Bool
names_one [] = false
names_one (f ∷ fs) = true
