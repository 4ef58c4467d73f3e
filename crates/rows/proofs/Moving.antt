-- A row of three entries written over another, as a fact of lists: three stores change only that row, and it holds what was read.
-- Assumes nothing.
use mathlib.Core.Path.{◌≡◌, ◌∙◌}
use mathlib.Core.List.{List}
use Prim.Native.Nat.{ℕ, zero, suc, ◌+◌, ◌*◌, ◌<◌}
use native.Mathlib.Nat.{add-zero}
use native.Mathlib.Omega.{arith}
use lib.ListN.{get_or, set, length-set}
use Rattle.std.proofs.lemmas.List.{get_or_read}
use lib.Seq.{get_or-set_same, get_or-set_other}
use Rattle.rows.specs.Region.{OnlyOf}
use Rattle.rows.specs.Retain.{MoveAsks, MoveGives}
use Rattle.rows.proofs.Regions.{only_both, only_set, part_eq_of}

-- the row after three stores from b on
abbrev stored : {A : Type 0} → List A → ℕ → A → A → A → List A
stored xs b x y z = set (set (set xs b x) (b + 1) y) (b + 2) z

-- three stores change three entries
only_stored : {A : Type 0} {d : A} (xs : List A) (b : ℕ) (x y z : A) → OnlyOf d b 3 xs (stored xs b x y z)
only_stored xs b x y z = only_both (only_both (only_set xs b x (omega arith) (omega arith)) (only_set (set xs b x) (b + 1) y (omega arith) (omega arith))) (only_set (set (set xs b x) (b + 1) y) (b + 2) z (omega arith) (omega arith))

module _ {A : Type 0} (d : A) {xs : List A} {from to : ℕ} (p : MoveAsks xs from to) where
  -- where the row goes, and the three entries that are read
  abbrev b : ℕ
  b = 3 * to

  abbrev x : A
  x = get_or xs (3 * from) d

  abbrev y : A
  y = get_or xs (3 * from + 1) d

  abbrev z : A
  z = get_or xs (3 * from + 2) d

  -- each of the three entries is what was read
  stored_at : (i : ℕ) → i < 3 → get_or (stored xs b x y z) (b + i) d ≡ get_or xs (3 * from + i) d
  stored_at zero h = rw (add-zero b, add-zero (3 * from), get_or-set_other (set (set xs b x) (b + 1) y) (b + 2) b z d (omega arith), get_or-set_other (set xs b x) (b + 1) b y d (omega arith)) (get_or-set_same xs b x d (omega arith))
  stored_at (suc zero) h = get_or-set_other (set (set xs b x) (b + 1) y) (b + 2) (b + 1) z d (omega arith) ∙ get_or-set_same (set xs b x) (b + 1) y d (simp length-set (omega arith))
  stored_at (suc (suc zero)) h = get_or-set_same (set (set xs b x) (b + 1) y) (b + 2) z d (simp length-set (omega arith))
  stored_at (suc (suc (suc i))) h = absurd (omega arith)

  -- so the row has moved
  moved_to : MoveGives d xs from to (stored xs b x y z)
  moved_to =
      let o = only_stored {d = d} xs b x y z in
      let l = o.long in
      record { only = o; moved = part_eq_of d (stored xs b x y z) xs b (3 * from) 3 (omega arith) (omega arith) stored_at }

  -- and so it has where the three entries are what three reads gave
  pub moves : {u v w : A} → u ≡ get_or xs (3 * from) u → v ≡ get_or xs (3 * from + 1) v → w ≡ get_or xs (3 * from + 2) w → MoveGives d xs from to (stored xs b u v w)
  moves {u} {v} {w} r s t =
      rw (get_or_read xs (3 * from) u (omega (arith, p.from_fit)) r d, get_or_read xs (3 * from + 1) v (omega (arith, p.from_fit)) s d, get_or_read xs (3 * from + 2) w (omega (arith, p.from_fit)) t d) moved_to
