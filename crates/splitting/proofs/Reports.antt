-- Counts added one after the other are added at once. Assumes nothing.
use mathlib.Core.Path.{◌≡◌, sym, ap, ◌∙◌}
use mathlib.Core.Logic.{◌≢◌}
use mathlib.Core.List.{List}
use Prim.Native.Nat.{ℕ, ◌+◌, ◌<◌}
use native.Mathlib.Omega.{arith}
use native.Mathlib.Decide.{dec_lt}
use lib.ListN.{length, get_or, set}
use lib.Seq.{set-set, set_out, set_comm, set-get_or, get_or-set_same, get_or-set_other}
use Rattle.rules.specs.State.{Count, place, more}

-- nothing more
pub more_none : (c : Count) (r : List ℕ) → more c 0 r ≡ r
unfolding more
more_none c r = let e : get_or r (place c) 0 + 0 ≡ get_or r (place c) 0 = omega arith in ap (set r (place c)) e ∙ set-get_or r (place c) 0

-- twice more of one count
pub more_twice : (c : Count) (a b : ℕ) (r : List ℕ) → more c b (more c a r) ≡ more c (a + b) r
unfolding more
more_twice c a b r = set-set r (place c) (get_or r (place c) 0 + a) (get_or (set r (place c) (get_or r (place c) 0 + a)) (place c) 0 + b) ∙ go (dec_lt (place c) (length r))
  where
    go : Dec (place c < length r) → set r (place c) (get_or (set r (place c) (get_or r (place c) 0 + a)) (place c) 0 + b) ≡ set r (place c) (get_or r (place c) 0 + (a + b))
    go (yes h) = ap (set r (place c)) (let e = get_or-set_same r (place c) (get_or r (place c) 0 + a) 0 h in omega arith)
    go (no h) = set_out r (place c) (get_or (set r (place c) (get_or r (place c) 0 + a)) (place c) 0 + b) (omega arith) ∙ sym (set_out r (place c) (get_or r (place c) 0 + (a + b)) (omega arith))

-- more of two counts, in either order
pub more_swap : (c d : Count) (a b : ℕ) (r : List ℕ) → place c ≢ place d → more d b (more c a r) ≡ more c a (more d b r)
unfolding more
more_swap c d a b r ne =
    ap (λ x. set (set r (place c) (get_or r (place c) 0 + a)) (place d) (x + b)) (get_or-set_other r (place c) (place d) (get_or r (place c) 0 + a) 0 (λ e. ne (sym e)))
    ∙ set_comm r (place c) (place d) (get_or r (place c) 0 + a) (get_or r (place d) 0 + b) ne
    ∙ ap (λ x. set (set r (place d) (get_or r (place d) 0 + b)) (place c) (x + a)) (sym (get_or-set_other r (place d) (place c) (get_or r (place d) 0 + b) 0 ne))
