-- Pass 6 renumbers one to one, keeps each used point where it was, and leaves only used points. Assumes nothing.
use mathlib.Core.Path.{◌≡◌, subst}
use mathlib.Core.List.Memᴰ
use mathlib.Core.List.{List, map}
use Prim.Native.Nat.{ℕ, ◌<◌}
use lib.ListN.{length}
use lib.Dec.{T}
use Rattle.rules.specs.Lists.{leave, has}
use Rattle.rules.specs.Mesh.{Point, Face, point, corners, renamed}
use Rattle.rules.specs.State.{State}
use Rattle.rules.specs.Pass6.{used, marked6, number, pass6}
use Rattle.rule_laws.proofs.Lists.{leave_at, leave_count}
use Rattle.rule_laws.proofs.Members.{any_intro, any_mem, has_mem, mem_has}
use Rattle.rule_laws.proofs.Counting.{count_injective, count_onto}

-- used points have different numbers
pub number_injective : (fs : List Face) (u v : ℕ) → T (used fs u) → T (used fs v) → number fs u ≡ number fs v → u ≡ v
unfolding number
number_injective fs u v tu tv e = count_injective (used fs) u v tu tv e

-- a used point lies, under its new number, where it lay
pub number_point :
    (ps : List Point) (fs : List Face) (v : ℕ) → v < length ps → T (used fs v)
    → point (leave (marked6 fs) ps) (number fs v) ≡ point ps v
unfolding point number marked6
number_point ps fs v h t = leave_at (used fs) ps v _ h t

-- a used corner is used under its new number
pub used_renamed : (fs : List Face) (f : ℕ → ℕ) (v : ℕ) → T (used fs v) → T (used (map (renamed f) fs) (f v))
unfolding used renamed
used_renamed fs f v t =
    let w = any_mem (λ g. has v (corners g)) fs t in
    any_intro (λ g. has (f v) (corners g)) (renamed f w.0) (map (renamed f) fs) (Memᴰ.map (renamed f) w.1)
    (mem_has (f v) (map f (corners w.0)) (Memᴰ.map f (has_mem v (corners w.0) w.2)))

-- every point that is left is used
pub all_used : (m : State) (k : ℕ) → k < length (pass6 m).points → T (used (pass6 m).faces k)
unfolding pass6 marked6 number
all_used m k h =
    let w = count_onto (used m.faces) (length m.points) k (rw (leave_count (used m.faces) m.points) at h) in
    subst (λ j. T (used (map (renamed (number m.faces)) m.faces) j)) w.3
    (used_renamed m.faces (number m.faces) w.0 w.2)
