-- What the functions of the rows of passes 5 and 6 ask and give. The faces stand at the front of the room xs; ys is the flat list of them. Definitions only.
use Rattle.std.specs.Prelude.{◌≡◌, cond, List, ℕ, suc, ◌+◌, ◌*◌, ◌-◌, ◌^◌, ◌≤◌, ◌<◌, length, get_or, take}
use Rattle.rows.specs.Region.{part, Only, Only2, Holds}
use Rattle.rows.specs.Retain.{up_to}
use Rattle.rules.specs.Lists.{below, each}
use Rattle.rules.specs.Mesh.{Face, faces_of, flat_faces}
use Rattle.rules.specs.State.{State}
use Rattle.rules.specs.Pass5.{pass5}
use Rattle.rules.specs.Pass6.{marked6}
use Rattle.leaving.specs.Pass.{FacesStand}
use Rattle.splitting.specs.Corners.{corners_at, number_at, base}
use Rattle.split_bowtie_vertices.specs.Splits.{taken}
use Rattle.split_bowtie_vertices.specs.Splits as splits
use Rattle.split_laws.specs.Olds.{olds_to, old_of}
use Rattle.sorting.specs.Groups.{sorted_by}
use Rattle.sorting.specs.Sort.{key_by}
use Rattle.sorting.specs.Order.{OrderGives}
use Rattle.split_rows.specs.declared.Run.{Run}

-- when the groups at the points below k have numbers: where the run of k begins, the next free number, the numbers, and the old points so far
pub record Reached (ys : List ℕ) (P olds k : ℕ) (w : List ℕ) (begin next : ℕ) : Type 0 where
  pub rows : splits.Rows ys P w
  pub behind : 14 * length ys + 2 + P ≤ olds
  pub room : olds + length ys ≤ length w
  pub begin_is : begin ≡ length (each (corners_at (faces_of ys)) (below k))
  pub next_is : next ≡ base (faces_of ys) P k
  pub numbered : (v j : ℕ) → v < k → j < length (corners_at (faces_of ys) v) → get_or w (13 * length ys + 2 + P + get_or (corners_at (faces_of ys) v) j 0) 0 ≡ number_at (faces_of ys) v (base (faces_of ys) P v) j
  pub old : part w olds (next - P) ≡ olds_to (faces_of ys) k

pub record VertexAsks (w : List ℕ) (P m olds v begin next : ℕ) : Type 0 where
  pub ys : List ℕ
  pub long : m ≡ length ys
  pub vertex : v < P
  pub reached : Reached ys P olds v w begin next

pub record VertexGives {w : List ℕ} {P m olds v begin next : ℕ} (q : VertexAsks w P m olds v begin next) (w' : List ℕ) (r : Run) : Type 0 where
  pub only : Only2 (13 * m + 2 + P) m olds m w w'
  pub reached : Reached q.ys P olds (suc v) w' r.end r.next

pub record AllAsks (w : List ℕ) (P m olds : ℕ) : Type 0 where
  pub ys : List ℕ
  pub long : m ≡ length ys
  pub rows : splits.Rows ys P w
  pub behind : 14 * m + 2 + P ≤ olds
  pub room : olds + m ≤ length w

pub record AllGives {w : List ℕ} {P m olds : ℕ} (q : AllAsks w P m olds) (w' : List ℕ) (r : ℕ) : Type 0 where
  pub only : Only2 (13 * m + 2 + P) m olds m w w'
  pub begin : ℕ
  pub reached : Reached q.ys P olds P w' begin r

-- n faces at the front of their room over P points, the room that pass 5 takes, and behind it one for the old points
pub record SplitAsks (xs : List ℕ) (n P : ℕ) (w : List ℕ) (olds : ℕ) : Type 0 where
  pub stand : FacesStand (taken P n) P xs n w
  pub behind : taken P n ≤ olds
  pub room : olds + 3 * n ≤ length w

-- a state with P points whose faces are the n ones, whatever their origins are
pub record Stands (P : ℕ) (xs : List ℕ) (n : ℕ) (m : State) : Type 0 where
  pub many : length m.points ≡ P
  pub corners : flat_faces m.faces ≡ take (3 * n) xs

-- r points are split off, the corners are renamed as the rule says, and the old points stand in their row. All is as it was elsewhere.
pub record SplitGives (xs : List ℕ) (n P : ℕ) (w : List ℕ) (olds : ℕ) (xs' w' : List ℕ) (r : ℕ) : Type 0 where
  pub number : (m : State) → Stands P xs n m → P + r ≡ length (pass5 m).points
  pub faces : (m : State) → Stands P xs n m → take (3 * n) xs' ≡ flat_faces (pass5 m).faces
  pub old : (m : State) → Stands P xs n m → Holds olds r (old_of m.faces P) w'
  pub vertices : (j : ℕ) → j < r → get_or w' (olds + j) 0 < P
  pub most : r ≤ 3 * n
  pub inside : (i : ℕ) → i < 3 * n → get_or xs' i 0 < P + r
  pub only_faces : Only 0 (3 * n) xs xs'
  pub only_work : Only2 0 (taken P n) olds (3 * n) w w'

-- the corners of n faces are of the P points; rows for the corners, for the bins and for the sorted corners, in line
pub record TakersAsks (w xs : List ℕ) (n P bins sorted : ℕ) : Type 0 where
  pub few : 3 * n < 2 ^ 32
  pub fit : 3 * n ≤ length xs
  pub inside : (i : ℕ) → i < 3 * n → get_or xs i 0 < P
  pub first : 3 * n ≤ bins
  pub second : bins + P ≤ sorted
  pub room : sorted + 3 * n ≤ length w

-- the corners stand at the front, were put in order there, and so their numbers are sorted by what stands there now
pub record TakersGives (w xs : List ℕ) (n P bins sorted : ℕ) (w' : List ℕ) : Type 0 where
  pub only : Only 0 (sorted + 3 * n) w w'
  pub column : take (3 * n) w' ≡ take (3 * n) xs
  pub before : List ℕ
  pub column_before : take (3 * n) before ≡ take (3 * n) xs
  pub ordered : OrderGives before (3 * n) 0 bins P sorted w'
  pub sorted_are : part w' sorted (3 * n) ≡ sorted_by (key_by w' 0 (3 * n)) P (up_to (3 * n))

-- the corners of n faces are of the P points, and a flag for each point has room
pub record FlagsAsks (xs : List ℕ) (n P : ℕ) (w : List ℕ) (unused : ℕ) : Type 0 where
  pub fit : 3 * n ≤ length xs
  pub inside : (i : ℕ) → i < 3 * n → get_or xs i 0 < P
  pub room : unused + P ≤ length w

-- the flag of a point is 1 where none of the faces uses it, whatever their origins are
pub record FlagsGives (xs : List ℕ) (n P : ℕ) (w : List ℕ) (unused : ℕ) (w' : List ℕ) : Type 0 where
  pub only : Only unused P w w'
  pub flags : (fs : List Face) → flat_faces fs ≡ take (3 * n) xs → Holds unused P (λ v. cond (marked6 fs v) 1 0) w'
