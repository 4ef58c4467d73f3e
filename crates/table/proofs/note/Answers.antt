-- `table::note` meets its contract: the store lies behind the beginnings so far. Assumes nothing.
use mathlib.Core.Path.{◌≡◌, refl, sym, ◌∙◌}
use mathlib.Core.Bool.{Bool, true, false}
use mir.Val.{bool_byte}
use mathlib.Core.List.{List, append-nil}
use Prim.Native.Nat.{ℕ, ◌+◌, ◌*◌, ◌<◌}
use native.Mathlib.Omega.{arith}
use native.Mathlib.Numerals.{add-one}
use lib.ListN.{length, set, length-set}
use lib.Seq.{get_or-set_same}
use Rattle.rows.specs.Region.{part, Only}
use Rattle.rows.proofs.Regions.{only_set, part_suc, part_set}
use Rattle.table.specs.Runs.{begins, NoteAsks, NoteGives}
use Rattle.table.proofs.note.Goals as goal

module _ {w : List ℕ} {n at m i : ℕ} (p : NoteAsks w n at m i) where
  abbrev noted : List ℕ
  noted = set w (at + 4 * n + m) i

  in_room : at + 4 * n + m < length w
  in_room = omega (arith, p.rows.fit, p.here, p.begun)

  only_there : Only (at + 4 * n) (n + 1) w noted
  only_there = only_set w (at + 4 * n + m) i (omega arith) (omega (arith, p.here, p.begun))

  -- the beginnings so far stay
  earlier : part noted (at + 4 * n) m ≡ part w (at + 4 * n) m
  earlier = part_set w (at + 4 * n) m (at + 4 * n + m) i (omega (arith, in_room)) (λ j h. omega arith)

  -- a run begins: i stands behind them
  one_more : begins w n at i ≡ true → NoteGives w n at m i noted (m + 1)
  one_more e =
      record {
        only = only_there;
        number = rw e refl;
        starts = rw (e, add-one m, part_suc noted (at + 4 * n) m (rw length-set in_room), earlier, get_or-set_same w (at + 4 * n + m) i 0 in_room);
      }

  -- none begins: i is not counted
  no_more : begins w n at i ≡ false → NoteGives w n at m i noted m
  no_more e = record { only = only_there; number = rw e (omega arith); starts = rw e (earlier ∙ sym (append-nil (part w (at + 4 * n) m))) }

  -- by the test
  done : (b : Bool) → b ≡ begins w n at i → NoteGives w n at m i noted (m + bool_byte b)
  done true e = one_more (sym e)
  done false e = let z : m + 0 ≡ m = omega arith in rw z (no_more (sym e))

pub returns : goal.returns
returns c = rw c.from.ensures (done c.requires c.begins-b.result c.begins-b.ensures)
