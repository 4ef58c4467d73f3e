-- What pass 5's functions ask and give. The points stand at the front of the room ps, the faces at the front of xs; ys is the flat list of the faces.
-- Definitions only.
use Rattle.std.specs.Prelude.{◌≡◌, List, ◌++◌, ℕ, suc, ◌+◌, ◌*◌, ◌-◌, ◌%◌, ◌^◌, ◌≤◌, ◌<◌, Float, length, get_or, take, ltb}
use Rattle.std.specs.Float.{nan}
use Rattle.rows.specs.Region.{part, OnlyOf, Only, Holds}
use Rattle.rules.specs.Lists.{below, count, each}
use Rattle.rules.specs.Mesh.{faces_of, flat_points, flat_faces}
use Rattle.rules.specs.State.{more, vertices_split, points_added}
use Rattle.rules.specs.Pass5.{pass5}
use Rattle.flood.specs.Answers.{leader_of}
use Rattle.leaving.specs.Pass.{FacesStand, state_of}
use Rattle.splitting.specs.Corners.{joined_at, corners_at, extras, number_at, base}
use Rattle.corner_numbers.specs.Numbers.{NewAsks, new_by}
use Rattle.split_bowtie_vertices.specs.declared.Split.{Split}
use Rattle.split_bowtie_vertices.specs.declared.Run.{Run}

-- m copies of point v behind the first `from` points
pub record CopiesAsks (ps : List Float) (v from m : ℕ) : Type 0 where
  pub vertex : v < from
  pub fit : 3 * (from + m) ≤ length ps

pub record CopiesGives (ps : List Float) (v from m : ℕ) (ps' : List Float) : Type 0 where
  pub only : OnlyOf nan (3 * from) (3 * m) ps ps'
  pub copied : take (3 * (from + m)) ps' ≡ take (3 * from) ps ++ each (λ j. part ps (3 * v) 3) (below m)

-- the rows of crates/corner_numbers over the corners ys: the point at each, the first member of its group, and the corners point after point
pub record Rows (ys : List ℕ) (P : ℕ) (w : List ℕ) : Type 0 where
  pub whole : length ys % 3 ≡ 0
  pub few : 2 * length ys + P < 2 ^ 31
  pub fit : 14 * length ys + 2 + P ≤ length w
  pub inside : (i : ℕ) → i < length ys → get_or ys i 0 < P
  pub column : Holds 0 (length ys) (λ id. get_or ys id 0) w
  pub led : Holds (10 * length ys + 2 + P) (length ys) (leader_of (joined_at (faces_of ys)) (length ys)) w
  pub sorted : part w (12 * length ys + 2 + P) (length ys) ≡ each (corners_at (faces_of ys)) (below P)

-- the copies of the points below k, in order
abbrev pub copies_of : List Float → List ℕ → ℕ → List Float
copies_of ps ys k = each (λ v. each (λ j. part ps (3 * v) 3) (below (extras (faces_of ys) v))) (below k)

-- when the points below k have been split: where the run of k begins, the next free number, the numbers and the points. ps₀ are the points before
pub record Reached (ys : List ℕ) (P : ℕ) (ps₀ : List Float) (k : ℕ) (ps : List Float) (w : List ℕ) (begin next : ℕ) : Type 0 where
  pub rows : Rows ys P w
  pub room : 3 * (P + length ys) ≤ length ps
  pub begin_is : begin ≡ length (each (corners_at (faces_of ys)) (below k))
  pub next_is : next ≡ base (faces_of ys) P k
  pub numbered : (v j : ℕ) → v < k → j < length (corners_at (faces_of ys) v) → get_or w (13 * length ys + 2 + P + get_or (corners_at (faces_of ys) v) j 0) 0 ≡ number_at (faces_of ys) v (base (faces_of ys) P v) j
  pub only : OnlyOf nan (3 * P) (3 * length ys) ps₀ ps
  pub points : take (3 * next) ps ≡ take (3 * P) ps₀ ++ copies_of ps₀ ys k

pub record VertexAsks (ps : List Float) (w : List ℕ) (P n v begin next : ℕ) : Type 0 where
  pub ys : List ℕ
  pub ps₀ : List Float
  pub long : n ≡ length ys
  pub vertex : v < P
  pub reached : Reached ys P ps₀ v ps w begin next

pub record VertexGives {ps : List Float} {w : List ℕ} {P n v begin next : ℕ} (q : VertexAsks ps w P n v begin next) (ps' : List Float) (w' : List ℕ) (r : Run) : Type 0 where
  pub only_work : Only (13 * n + 2 + P) n w w'
  pub only_points : OnlyOf nan (3 * P) (3 * n) ps ps'
  pub added : r.next ≡ next + extras (faces_of q.ys) v
  pub reached : Reached q.ys P q.ps₀ (suc v) ps' w' r.end r.next

pub record AllAsks (ps : List Float) (w : List ℕ) (P n : ℕ) : Type 0 where
  pub ys : List ℕ
  pub long : n ≡ length ys
  pub rows : Rows ys P w
  pub room : 3 * (P + n) ≤ length ps

pub record AllGives {ps : List Float} {w : List ℕ} {P n : ℕ} (q : AllAsks ps w P n) (ps' : List Float) (w' : List ℕ) (r : Split) : Type 0 where
  pub only_work : Only (13 * n + 2 + P) n w w'
  pub only_points : OnlyOf nan (3 * P) (3 * n) ps ps'
  pub splits : r.splits ≡ count (λ v. ltb 0 (extras (faces_of q.ys) v)) (below P)
  pub begin : ℕ
  pub reached : Reached q.ys P ps P ps' w' begin r.points

-- n corners, and the rows that give each its number
pub record RenameAsks (xs w : List ℕ) (leads numbers n : ℕ) : Type 0 where
  pub fit : n ≤ length xs
  pub each : (id : ℕ) → id < n → NewAsks w leads numbers n id

pub record RenameGives (xs w : List ℕ) (leads numbers n : ℕ) (xs' : List ℕ) : Type 0 where
  pub only : Only 0 n xs xs'
  pub renamed : (id : ℕ) → id < n → get_or xs' id 0 ≡ new_by w leads numbers id

-- what pass 5 takes of the work room
abbrev pub taken : ℕ → ℕ → ℕ
taken P n = 42 * n + 2 + P

-- P points and n faces at the front of their rooms, and the rooms
pub record SplitAsks (ps : List Float) (P : ℕ) (xs : List ℕ) (n : ℕ) (w : List ℕ) : Type 0 where
  pub stand : FacesStand (taken P n) P xs n w
  pub room : 3 * (P + 3 * n) ≤ length ps

-- the points, the faces and the report are those of the rule, whatever the report was before; corners are below the new number of points
pub record SplitGives (P : ℕ) (ps : List Float) (xs : List ℕ) (n : ℕ) (w : List ℕ) (ps' : List Float) (xs' w' : List ℕ) (r : Split) : Type 0 where
  pub number : (R : List ℕ) → r.points ≡ length (pass5 (state_of ps P xs n R)).points
  pub points : (R : List ℕ) → take (3 * r.points) ps' ≡ flat_points (pass5 (state_of ps P xs n R)).points
  pub faces : (R : List ℕ) → take (3 * n) xs' ≡ flat_faces (pass5 (state_of ps P xs n R)).faces
  pub report : (R : List ℕ) → (pass5 (state_of ps P xs n R)).report ≡ more points_added (r.points - P) (more vertices_split r.splits R)
  pub few : r.splits ≤ P
  pub least : P ≤ r.points
  pub most : r.points ≤ P + 3 * n
  pub inside : (i : ℕ) → i < 3 * n → get_or xs' i 0 < r.points
  pub only_points : OnlyOf nan 0 (3 * (P + 3 * n)) ps ps'
  pub only_faces : Only 0 (3 * n) xs xs'
  pub only_work : Only 0 (taken P n) w w'
