-- A pass that marks the faces, which are then closed up: where the flags say what leaves, the kept rows are what the pass leaves. Assumes nothing.
use mathlib.Core.Path.{◌≡◌, sym, ◌∙◌}
use mathlib.Core.Bool.{Bool}
use mathlib.Core.List.{List}
use Prim.Native.Nat.{ℕ, ◌*◌, ◌≤◌}
use native.Mathlib.Omega.{arith}
use lib.ListN.{length}
use Rattle.rows.specs.Retain.{RetainGives, OnesGive}
use Rattle.rows.proofs.Regions.{only_more}
use Rattle.leaving.specs.Pass.{Flagged, MarkGives, LeaveAsks, LeaveGives}
use Rattle.leaving.proofs.Leaving.{faces_left, origins_left, left_count}

-- faces that are marked may leave
pub may_leave : {marked : ℕ → Bool} {taken : ℕ} {xs os : List ℕ} {n : ℕ} {w w' : List ℕ} {marks : ℕ} → 3 * n ≤ length xs → n ≤ length os → taken ≤ length w → MarkGives marked taken n w w' marks → LeaveAsks xs os w' marks n
may_leave fit origins room g = let l = g.only.long in record { faces_fit = fit; origins_fit = origins; flags_fit = omega (arith, g.within) }

-- the flags are right, and faces and origins are closed up by them: the marked ones have left together
pub leave_by_flags :
    {xs os : List ℕ} {n : ℕ} {w : List ℕ} {marks : ℕ} {xs' os' : List ℕ} {r k : ℕ} → LeaveAsks xs os w marks n → OnesGive os w marks n os' k → RetainGives 0 xs w marks n xs' r
    → (marked : ℕ → Bool) → Flagged w marks n marked → LeaveGives marked xs os n xs' os' r
leave_by_flags {r = r} {k} p h g marked f =
    let e = left_count marked f g in
    let same : k ≡ r = h.count ∙ sym g.count in
    record {
      faces = faces_left marked p.faces_fit f g;
      origins = rw same at (origins_left marked p.origins_fit f h);
      number = e;
      only_faces = only_more (omega arith) (omega arith) g.only;
      only_origins = only_more (omega arith) (omega arith) (rw same at h.only);
    }

-- the faces that were marked are those that left
pub left_by :
    {marked : ℕ → Bool} {taken : ℕ} {xs os : List ℕ} {n : ℕ} {w w' : List ℕ} {marks : ℕ} {xs' os' : List ℕ} {r : ℕ}
    → MarkGives marked taken n w w' marks → ((by : ℕ → Bool) → Flagged w' marks n by → LeaveGives by xs os n xs' os' r) → LeaveGives marked xs os n xs' os' r
left_by {marked} g leaves = leaves marked g.flags

-- no more stay than stood
pub left_fewer : {marked : ℕ → Bool} {xs os : List ℕ} {n : ℕ} {xs' os' : List ℕ} {r : ℕ} → LeaveGives marked xs os n xs' os' r → r ≤ n
left_fewer g = omega (arith, g.number)
