-- The loop that finds where runs begin, and the copy of a run. Assumes nothing.
use Rattle.std.proofs.Common.{◌≡◌, ℕ, suc, ◌+◌, ◌-◌, ◌*◌, ◌^◌, ◌<◌, ◌≤◌, List, length, get_or, set, sym, refl, ◌∙◌, add-one, arith, length-set, get_or-set_other, get_or-set_same}
use native.Mathlib.Decide.{ℕ_discrete}
use Rattle.windows.specs.Around.{sum_to, FitAsks, FitGives, WidenAsks, WidenGives}
use Rattle.windows.proofs.Places.{sum_zero, sum_suc}

-- the first k runs fit, and s is where the next begins
pub record Fitted (counts : List ℕ) (limit room most : ℕ) (ends₀ ends : List ℕ) (s k : ℕ) : Type 0 where
  pub at_most : k ≤ limit
  pub long : length ends ≡ length ends₀
  pub s_is : s ≡ sum_to counts k
  pub fits : s ≤ room
  pub starts : (j : ℕ) → j < k → get_or ends j 0 ≡ sum_to counts j
  pub each : (j : ℕ) → j < k → 2 * get_or counts j 0 ≤ most

-- what a turn needs
pub record Bounds (counts : List ℕ) (limit room : ℕ) (ends : List ℕ) (s k : ℕ) : Type 0 where
  pub counts_fit : limit ≤ length counts
  pub ends_fit : limit ≤ length ends
  pub fits : s ≤ room
  pub small : room < 2 ^ 32

module _ {counts : List ℕ} {limit room most : ℕ} {ends₀ : List ℕ} (p : FitAsks counts limit room ends₀) where
  -- none
  pub begin : Fitted counts limit room most ends₀ ends₀ 0 0
  begin = record { at_most = omega arith; long = refl; s_is = sym (sum_zero counts); fits = omega arith; starts = λ j h. absurd (omega arith); each = λ j h. absurd (omega arith) }

  module _ {ends : List ℕ} {s k : ℕ} (q : Fitted counts limit room most ends₀ ends s k) where
    -- where it stops
    pub done : FitGives counts limit room most ends k
    done = record { within = q.at_most; starts = q.starts; fits = omega (arith, q.fits, q.s_is); each = q.each }

    -- what the needs of a turn follow from
    pub turn : Bounds counts limit room ends s k
    turn = record { counts_fit = p.counts_fit; ends_fit = omega (arith, p.ends_fit, q.long); fits = q.fits; small = p.small }

    -- one run more
    pub again : k < limit → 2 * get_or counts k 0 ≤ most → 2 * get_or counts k 0 ≤ room - s → Fitted counts limit room most ends₀ (set ends k s) (s + 2 * get_or counts k 0) (k + 1)
    again h m r =
        rw (add-one k) (record {
          at_most = h;
          long = length-set ends k s ∙ q.long;
          s_is = omega (arith, q.s_is, sum_suc counts k);
          fits = omega (arith, q.fits);
          starts = λ j l. at j l (ℕ_discrete k j);
          each = λ j l. of j l (ℕ_discrete k j);
        })
      where
        at : (j : ℕ) → j < suc k → Dec (k ≡ j) → get_or (set ends k s) j 0 ≡ sum_to counts j
        at j l (yes e) = rw (← e) (get_or-set_same ends k s 0 (omega (arith, p.ends_fit, q.long)) ∙ q.s_is)
        at j l (no e) = get_or-set_other ends k j s 0 (omega arith) ∙ q.starts j (omega arith)

        of : (j : ℕ) → j < suc k → Dec (k ≡ j) → 2 * get_or counts j 0 ≤ most
        of j l (yes e) = rw (← e) m
        of j l (no e) = q.each j (omega arith)

-- the first i entries are copied
pub record Widened (b : List ℕ) (s n base : ℕ) (to₀ to : List ℕ) (i : ℕ) : Type 0 where
  pub at_most : i ≤ n
  pub long : length to ≡ length to₀
  pub each : (j : ℕ) → j < i → get_or to j 0 ≡ base + get_or b (s + j) 0

-- what a turn needs
pub record Copying (b : List ℕ) (s n base : ℕ) (to : List ℕ) (i : ℕ) : Type 0 where
  pub run : s + n ≤ length b
  pub room : n ≤ length to
  pub small : base + 2 ^ 32 ≤ 2 ^ 64

module _ {b : List ℕ} {s n base : ℕ} {to₀ : List ℕ} (p : WidenAsks b s n base to₀) where
  -- none
  pub widen_none : Widened b s n base to₀ to₀ 0
  widen_none = record { at_most = omega arith; long = refl; each = λ j h. absurd (omega arith) }

  module _ {to : List ℕ} {i : ℕ} (q : Widened b s n base to₀ to i) where
    -- all
    pub widen_all : n ≤ i → WidenGives b s n base to
    widen_all h = let l = q.at_most in record { each = λ j k. q.each j (omega arith) }

    -- what the needs of a turn follow from
    pub widen_turn : Copying b s n base to i
    widen_turn = record { run = p.run; room = omega (arith, p.room, q.long); small = p.small }

    -- one more
    pub widen_more : i < n → Widened b s n base to₀ (set to i (base + get_or b (s + i) 0)) (i + 1)
    widen_more h =
        rw (add-one i) (record { at_most = h; long = length-set to i (base + get_or b (s + i) 0) ∙ q.long; each = λ j l. at j l (ℕ_discrete i j) })
      where
        at : (j : ℕ) → j < suc i → Dec (i ≡ j) → get_or (set to i (base + get_or b (s + i) 0)) j 0 ≡ base + get_or b (s + j) 0
        at j l (yes e) = rw (← e) (get_or-set_same to i (base + get_or b (s + i) 0) 0 (omega (arith, p.room, q.long)))
        at j l (no e) = get_or-set_other to i j (base + get_or b (s + i) 0) 0 (omega arith) ∙ q.each j (omega arith)
