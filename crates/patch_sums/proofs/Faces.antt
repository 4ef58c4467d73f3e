-- The record with a face more, step by step. Assumes nothing.
use mathlib.Core.Path.{◌≡◌, ◌∙◌}
use mathlib.Core.List.{List}
use Prim.Native.Nat.{ℕ, ◌+◌, ◌*◌}
use native.Mathlib.Omega.{arith}
use lib.ListN.{get_or}
use lib.Ieee.{Float, nan}
use Rattle.rows.specs.Region.{OnlyOf}
use Rattle.rules.specs.Lists.{through}
use Rattle.rules.specs.Mesh.{Point, points_of, point}
use Rattle.rules.specs.Float.{◌⊕◌}
use Rattle.rules.specs.Float as float
use Rattle.rules.specs.Patches as rule
use Rattle.rule_laws.proofs.Flat.{face_in}
use Rattle.measure.specs.Measure.{face_of, Corners}
use Rattle.patch_sums.specs.Sums.{record_at, AddAsks, AddGives}

-- the box takes in a point: six box numbers, each by itself
pub widened_is :
    (r : rule.Patch) (p : Point) {a b c d e f : Float} → a ≡ rule.lower r.low.x p.x → b ≡ rule.lower r.low.y p.y → c ≡ rule.lower r.low.z p.z
    → d ≡ rule.higher r.high.x p.x → e ≡ rule.higher r.high.y p.y → f ≡ rule.higher r.high.z p.z
    → record { area = r.area; low = record { x = a; y = b; z = c }; high = record { x = d; y = e; z = f } } ≡ rule.widened r p
unfolding rule.widened
widened_is r p ea eb ec ed ee ef = rw (ea, eb, ec, ed, ee, ef)

-- the area is added, and then the corners are taken in
pub with_face_is :
    (ps : List Point) (r : rule.Patch) (a b c : ℕ) {area : Float} {one two three : rule.Patch} {p q s : Point}
    → area ≡ float.area ps (face_of a b c) → p ≡ point ps a → q ≡ point ps b → s ≡ point ps c
    → one ≡ rule.widened (record { area = r.area ⊕ area; low = r.low; high = r.high }) p → two ≡ rule.widened one q → three ≡ rule.widened two s
    → three ≡ rule.with_face ps r (face_of a b c)
unfolding rule.with_face through
with_face_is ps r a b c e ep eq es e1 e2 e3 = rw (e3, e2, e1, e, ep, eq, es)

module _ {points : List Float} {faces : List ℕ} {i : ℕ} {xs : List Float} {k : ℕ} (p : AddAsks points faces i xs k) where
  -- the corners of face i are points
  pub corners_in : Corners points (get_or faces (3 * i) 0) (get_or faces (3 * i + 1) 0) (get_or faces (3 * i + 2) 0)
  corners_in =
      let h = p.there in
      record { a_in = p.inside (3 * i) (omega arith); b_in = p.inside (3 * i + 1) (omega arith); c_in = p.inside (3 * i + 2) (omega arith) }

  -- the record read, with the face, written back
  pub added :
      {r s : rule.Patch} {xs' : List Float} → r ≡ record_at xs k
      → s ≡ rule.with_face (points_of points) r (face_of (get_or faces (3 * i) 0) (get_or faces (3 * i + 1) 0) (get_or faces (3 * i + 2) 0))
      → OnlyOf nan (7 * k) 7 xs xs' → record_at xs' k ≡ s → AddGives points faces i xs k xs'
  unfolding rule.with_face float.area
  added {r} {s} {xs'} er es o w =
      record { only = o; added = w ∙ es ∙ rw (er, face_in faces i p.there) }
