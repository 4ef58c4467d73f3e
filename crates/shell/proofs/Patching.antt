-- The patch call for C: its outcome by the mask's filter, with a place in 32 bits. Assumes nothing.
use mathlib.Core.Path.{◌≡◌, ap, ◌∙◌}
use mathlib.Core.List.{List}
use Prim.Native.Nat.{ℕ, ◌≤◌, ◌<◌}
use borrow.Author.Tests.{lt-ltb, le-ltb}
use lib.Ieee.{Float}
use Rattle.rules.specs.Patches.{Filter}
use Rattle.rules.specs.Rooms.{Outcome}
use Rattle.rules.specs.PatchesCall.{PatchesRooms, find_patches}
use Rattle.shell.specs.Clip.{clip, clipped}

-- an outcome under the filter of the code is that under the mask's, with its place in 32 bits
pub told_by :
    (points : List Float) (faces labels : List ℕ) (C : ℕ) (r : PatchesRooms) {by by' : Filter} {o : Outcome PatchesRooms} → by ≡ by'
    → o ≡ find_patches points faces labels C by r → clipped o ≡ clipped (find_patches points faces labels C by' r)
told_by points faces labels C r e f = ap clipped (f ∙ ap (λ b. find_patches points faces labels C b r) e)

-- a place below 4,294,967,295 is told as it is
pub clip_small : (p : ℕ) → p < 4294967295 → p ≡ clip p
clip_small p h = rw (lt-ltb p 4294967295 h)

-- any other as that number
pub clip_large : (p : ℕ) → 4294967295 ≤ p → 4294967295 ≡ clip p
clip_large p h = rw (le-ltb p 4294967295 h)
