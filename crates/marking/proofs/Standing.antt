-- The n faces at the front of their room, as a pass hands them on to be marked, and what the marks then give. Assumes nothing.
use mathlib.Core.Path.{◌≡◌}
use mathlib.Core.Bool.{Bool}
use mathlib.Core.List.{List}
use Prim.Native.Nat.{ℕ, ◌+◌, ◌*◌, ◌<◌}
use native.Mathlib.Omega.{arith}
use lib.ListN.{length, take}
use lib.Seq.{length-take-le, get_or-take}
use lib.Ieee.{Float}
use Rattle.rows.proofs.Regions.{only_more}
use Rattle.leaving.specs.Pass.{PassAsks, MarkGives}
use Rattle.marking.specs.Marking.{taken, point_count, face_count, MarkAsks}

module _ {ps : List Float} {xs : List ℕ} {n : ℕ} {w : List ℕ} (p : PassAsks (taken (point_count ps) n) ps xs n w) where
  -- the front of the room has 3n entries
  pub front_long : length (take (3 * n) xs) ≡ 3 * n
  front_long = length-take-le (3 * n) xs p.stand.fit

  -- the table of the faces and their marks fit into the work room
  pub mark_ok : MarkAsks ps (take (3 * n) xs) w (15 * n + 1 + point_count ps)
  mark_ok =
      let l = front_long in
      let s = p.stand in
      record {
        table = record {
          whole = omega arith;
          few = omega arith;
          fit = omega arith;
          inside = λ i h. let k : i < 3 * n = omega arith in rw (get_or-take (3 * n) xs i 0 k) (s.inside i k);
        };
        behind = omega arith;
        fit = omega arith;
      }

  -- the marks of the front are those of the n faces
  pub marks_are :
      {marked : ℕ → Bool} {w₁ : List ℕ} → MarkGives marked (15 * n + 1 + point_count ps + face_count (take (3 * n) xs)) (face_count (take (3 * n) xs)) w w₁ (15 * n + 1 + point_count ps)
      → MarkGives marked (taken (point_count ps) n) n w w₁ (15 * n + 1 + point_count ps)
  marks_are g =
      let l = front_long in
      record { within = omega arith; only = only_more (omega arith) (omega arith) g.only; flags = record { each = λ i h. g.flags.each i (omega arith) } }
