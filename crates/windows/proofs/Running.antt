-- The loop over the runs of a window: each is copied with the part of its vertex added, and its keys are taken in. Assumes nothing.
use Rattle.std.proofs.Common.{◌≡◌, ℕ, zero, suc, ◌+◌, ◌-◌, ◌*◌, ◌/◌, ◌<◌, ◌≤◌, List, length, get_or, sym, refl, ap, ◌∙◌, add-zero, mul-le-mul_right, zero-add, add-one, arith}
use native.Mathlib.Decide.{ℕ_discrete}
use Rattle.std.specs.Prelude.{Ok, Err}
use Rattle.refuse.specs.declared.Refusal.{Refusal}
use Rattle.halves.specs.declared.State.{State}
use Rattle.halves.specs.Split.{hit, tally}
use Rattle.halves.specs.Scan.{Upto, Small}
use Rattle.halves.specs.Walk.{Counts, WalkAsks, WalkGives}
use Rattle.halves.proofs.Tallies.{hit_other, tally_zero, tally_suc}
use Rattle.halves.proofs.Halves.{bound}
use Rattle.halves.proofs.Walking.{early_more}
use Rattle.windows.specs.Around.{WidenAsks, WidenGives}
use Rattle.windows.specs.Window.{begin_of, RunsAsks, RunsCount, RunsGives}
use Rattle.windows.proofs.Arounds.{hit_is}
use Rattle.windows.proofs.Places.{tally_next, begin_zero, begin_suc}

-- values that are as much more
hit_shift : (base y x : ℕ) → hit (base + y) (base + x) ≡ hit y x
hit_shift base y x = go (ℕ_discrete y x)
  where
    go : Dec (y ≡ x) → hit (base + y) (base + x) ≡ hit y x
    go (yes e) = hit_is (base + y) (base + x) (omega arith) ∙ sym (hit_is y x e)
    go (no e) = hit_other (base + y) (base + x) (λ z. e (omega arith)) ∙ sym (hit_other y x e)

-- a copy of a run, with base added to each
tally_shift : (a b : List ℕ) (s base n x : ℕ) → ((i : ℕ) → i < n → get_or a i 0 ≡ base + get_or b (s + i) 0) → tally a 0 n (base + x) ≡ tally b s n x
tally_shift a b s base zero x h = tally_zero a 0 (base + x) ∙ sym (tally_zero b s x)
tally_shift a b s base (suc n) x h =
    omega (
      arith,
      tally_next a n (base + x),
      tally_suc b s n x,
      tally_shift a b s base n x (λ i l. h i (omega arith)),
      ap (λ (y : ℕ). hit y (base + x)) (h n (omega arith)),
      hit_shift base (get_or b (s + n) 0) x,
    )

-- the runs before run j are taken in
pub record Ran (P v w : ℕ) (ends b entries₀ : List ℕ) (t : State) (entries : List ℕ) (r : State) (from s j : ℕ) : Type 0 where
  pub at_most : j ≤ w
  pub long : length entries ≡ length entries₀
  pub from_is : from ≡ (v + j) * P
  pub s_is : s ≡ begin_of ends j
  pub small : Small from r
  pub upto : (c : ℕ → ℕ) → RunsCount c P v w ends b → Upto c P (v * P) t → Upto c P from r

-- what a turn needs
pub record Bounds (P w : ℕ) (ends b entries : List ℕ) (from s j : ℕ) : Type 0 where
  pub few : from + P ≤ 4194304 * 4194304
  pub keys : from + P ≤ P * P
  pub rise : s ≤ get_or ends j 0
  pub fit : get_or ends j 0 ≤ length b
  pub ends_fit : w ≤ length ends
  pub room : get_or ends j 0 - s ≤ length entries

module _ {P v w : ℕ} {ends b entries₀ : List ℕ} {t : State} (p : RunsAsks P v w ends b entries₀ t) where
  -- none
  pub begin : Ran P v w ends b entries₀ t entries₀ t (v * P) 0 0
  begin =
      record {
        at_most = omega arith;
        long = refl;
        from_is = ap (λ (z : ℕ). z * P) (sym (add-zero v));
        s_is = sym (begin_zero ends);
        small = p.small;
        upto = λ c q u. u;
      }

  -- the first key of the first vertex is small
  pub first_bound : v * P ≤ 4194304 * 4194304
  first_bound = let l = p.points in let k : v ≤ 4194304 = omega (arith, p.within) in bound 4194304 4194304 k l

  module _ {entries : List ℕ} {r : State} {from s j : ℕ} (q : Ran P v w ends b entries₀ t entries r from s j) where
    -- all
    pub done : w ≤ j → RunsGives P v w ends b t (Ok r)
    done h =
        let z = q.at_most in
        let e : j ≡ w = omega arith in
        let k : from ≡ (v + w) * P = q.from_is ∙ ap (λ (y : ℕ). (v + y) * P) e in
        record { small = rw k at q.small; told = λ c m u. rw k at (q.upto c m u) }

    module _ (h : j < w) where
      -- where the next vertex' keys begin
      next_is : from + P ≡ (v + (j + 1)) * P
      next_is = omega (arith, q.from_is)

      -- its keys are of the window
      window_in : from + P ≤ (v + w) * P
      window_in =
          let l : suc (v + j) ≤ v + w = omega arith in
          omega (arith, q.from_is, mul-le-mul_right P l)

      -- it is a vertex
      keys_in : from + P ≤ P * P
      keys_in =
          let l : suc (v + j) ≤ P = omega (arith, p.within) in
          omega (arith, q.from_is, mul-le-mul_right P l)

      -- its numbers are small
      few_in : from + P ≤ 4194304 * 4194304
      few_in = let l = p.points in omega (arith, keys_in, bound 4194304 4194304 l l)

      -- what the needs of a turn follow from
      pub turn : Bounds P w ends b entries from s j
      turn =
          record {
            few = few_in;
            keys = keys_in;
            rise = omega (arith, p.rise j h, q.s_is);
            fit = p.fit j h;
            ends_fit = p.ends_fit;
            room = omega (arith, p.each j h, q.s_is, q.long);
          }

      -- the run is copied
      pub widen_asks : WidenAsks b s (get_or ends j 0 - s) (2 * from) entries
      widen_asks = record { run = omega (arith, turn); room = omega (arith, turn); small = omega (arith, turn) }

      module _ {entries₁ : List ℕ} (g : WidenGives b s (get_or ends j 0 - s) (2 * from) entries₁) (long₁ : length entries₁ ≡ length entries) where
        -- an entry of the copy
        at : (i : ℕ) → i < get_or ends j 0 - s → get_or entries₁ i 0 ≡ 2 * from + get_or b (s + i) 0
        at = g.each

        -- the other end is a point
        below_at : (i : ℕ) → i < get_or ends j 0 - s → get_or b (s + i) 0 / 2 < P
        below_at i l = rw q.s_is (p.below j h i (rw q.s_is at l))

        -- its keys are those of the vertex
        pub walk_asks : WalkAsks entries₁ 0 (get_or ends j 0 - s) from (from + P) P r
        walk_asks =
            record {
              fit = omega (arith, turn);
              points = omega (arith, p.within);
              top = keys_in;
              order = omega arith;
              inside = record {
                low = λ i l. rw zero-add (omega (arith, at i l));
                high = λ i l. rw zero-add (omega (arith, at i l, below_at i l));
              };
              small = q.small;
            }

        -- it has them all
        counts : (c : ℕ → ℕ) → RunsCount c P v w ends b → Counts c entries₁ 0 (get_or ends j 0 - s) from (from + P)
        counts c m = record { each = λ x l k. go x (x - 2 * from) (omega arith) (omega arith) }
          where
            go : (x y : ℕ) → x ≡ 2 * from + y → y / 2 < P → tally entries₁ 0 (get_or ends j 0 - s) x ≡ c x
            go x y e k =
                rw e (tally_shift entries₁ b s (2 * from) (get_or ends j 0 - s) y at
                ∙ ap (λ (z : ℕ). tally b z (get_or ends j 0 - z) y) q.s_is ∙ m.each j h y k ∙ ap (λ (z : ℕ). c (2 * z + y)) (sym q.from_is))

        -- a crowded edge is met
        pub stop : {entries₂ : List ℕ} {e : Refusal} → WalkGives entries₁ 0 (get_or ends j 0 - s) from (from + P) P r entries₂ (Err e) → RunsGives P v w ends b t (Err e)
        stop k = record { small = early_more window_in k.small; told = λ c m u. k.told c (counts c m) (q.upto c m u) }

        -- one run more
        pub again : {entries₂ : List ℕ} {r₂ : State} → WalkGives entries₁ 0 (get_or ends j 0 - s) from (from + P) P r entries₂ (Ok r₂) → Ran P v w ends b entries₀ t entries₂ r₂ (from + P) (get_or ends j 0) (j + 1)
        again k =
            record {
              at_most = omega arith;
              long = k.only.long ∙ long₁ ∙ q.long;
              from_is = next_is;
              s_is = rw (add-one j) (sym (begin_suc ends j));
              small = k.small;
              upto = λ c m u. k.told c (counts c m) (q.upto c m u);
            }
