-- The walk over one buffer of half entries: where it stops, where all keys are one, and where it goes through two halves. Assumes nothing.
use mathlib.Core.Path.{◌≡◌, sym, ap, ◌∙◌}
use mathlib.Core.List.{List}
use Prim.Native.Nat.{ℕ, ◌+◌, ◌-◌, ◌*◌, ◌/◌, ◌≤◌, ◌<◌, ◌^◌}
use native.Mathlib.Nat.{add_assoc}
use native.Mathlib.Omega.{arith}
use native.Mathlib.Decide.{dec_lt}
use lib.ListN.{get_or}
use Rattle.rows.specs.Region.{Apart.after}
use Rattle.rows.proofs.Regions.{only_none, only_both, only_more, kept_at}
use Rattle.std.specs.Prelude.{Result, Ok, Err}
use Rattle.refuse.specs.declared.Refusal.{Refusal}
use Rattle.halves.specs.declared.State.{State}
use Rattle.halves.specs.Split.{tally, SplitGives, SpanGives, EvensGives}
use Rattle.halves.specs.Scan.{Upto, Told, Small, Early, SmallIn, VisitAsks, VisitGives}
use Rattle.halves.specs.Walk.{Counts, Inside, WalkAsks, WalkGives}
use Rattle.halves.proofs.Tallies.{tally_none, tally_some, tally_add, tally_kept, tally_zero}
use Rattle.halves.proofs.Scanning.{pass_many}

-- keys with no half entry, from from up to to
pub blank : {c : ℕ → ℕ} {P : ℕ} {s : State} (from to : ℕ) → from ≤ to → ((j : ℕ) → from ≤ j → j < to → (c (2 * j) ≡ 0) × (c (2 * j + 1) ≡ 0)) → Upto c P from s → Upto c P to s
blank from to l h t =
    let e : from + (to - from) ≡ to = omega arith in
    rw e at (pass_many (to - from) t (λ j p q. h j p (omega arith)))

-- whether or not a crowded edge was met
pub blank_told : (c : ℕ → ℕ) (P : ℕ) (r : Result State Refusal) (from to : ℕ) → from ≤ to → ((j : ℕ) → from ≤ j → j < to → (c (2 * j) ≡ 0) × (c (2 * j + 1) ≡ 0)) → Told c P from r → Told c P to r
blank_told c P (Ok s) from to l h w = blank from to l h w
blank_told c P (Err e) from to l h w = w

-- a bound may be larger
pub small_more : {t : State} {k l : ℕ} → k ≤ l → Small k t → Small l t
small_more h s = record { unique = omega (arith, s.unique); begins = omega (arith, s.begins); ends = omega (arith, s.ends) }

-- of a position too
pub early_more : {e : Refusal} {k l : ℕ} → k ≤ l → Early k e → Early l e
early_more h s = record { unique = s.unique; is = s.is; most = omega (arith, s.most) }

-- whether or not the scan goes on
pub small_in_more : (r : Result State Refusal) {k l : ℕ} → k ≤ l → SmallIn k r → SmallIn l r
small_in_more (Ok t) h s = small_more h s
small_in_more (Err e) h s = early_more h s

-- what is inside stays so where no value is gained
pub inside_same : (a b : List ℕ) (s n from to : ℕ) → ((x : ℕ) → tally b s n x ≡ tally a s n x) → Inside a s n from to → Inside b s n from to
inside_same a b s n from to e p = record { low = λ i h. low i h (dec_lt (get_or b (s + i) 0 / 2) from); high = λ i h. high i h (dec_lt (get_or b (s + i) 0 / 2) to) }
  where
    low : (i : ℕ) → i < n → Dec (get_or b (s + i) 0 / 2 < from) → from ≤ get_or b (s + i) 0 / 2
    low i h (yes q) =
        let x = get_or b (s + i) 0 in
        let z = tally_none a s n (get_or b (s + i) 0) (λ j l f. let y = p.low j l in let g = ap (λ (v : ℕ). v / 2) f in omega arith) in
        omega (arith, e (get_or b (s + i) 0), tally_some b s n i h)
    low i h (no q) = omega arith

    high : (i : ℕ) → i < n → Dec (get_or b (s + i) 0 / 2 < to) → get_or b (s + i) 0 / 2 < to
    high i h (yes q) = q
    high i h (no q) =
        let z = tally_none a s n (get_or b (s + i) 0) (λ j l f. let y = p.high j l in let g = ap (λ (v : ℕ). v / 2) f in omega arith) in
        omega (arith, e (get_or b (s + i) 0), tally_some b s n i h)

-- what stands in the first and the second part after a split
module _ {a : List ℕ} {s n mid : ℕ} {a₁ : List ℕ} {m : ℕ} (g : SplitGives a s n mid a₁ m) where
  -- below the middle
  pub split_first : (x : ℕ) → x / 2 < mid → tally a₁ s m x ≡ tally a s n x
  split_first x k =
      let fw = g.fewer in
      let e : m + (n - m) ≡ n = omega arith in
      let z = tally_none a₁ (s + m) (n - m) x (λ i j w. let y = g.high (m + i) (omega arith) (omega arith) in let u = ap (λ (v : ℕ). v / 2) (ap (λ (v : ℕ). get_or a₁ v 0) (sym (add_assoc s m i)) ∙ w) in omega arith) in
      omega (arith, tally_add a₁ s m (n - m) x, ap (λ (v : ℕ). tally a₁ s v x) e, g.same x)

  -- from the middle on
  pub split_second : (x : ℕ) → mid ≤ x / 2 → tally a₁ (s + m) (n - m) x ≡ tally a s n x
  split_second x k =
      let fw = g.fewer in
      let e : m + (n - m) ≡ n = omega arith in
      let z = tally_none a₁ s m x (λ i j w. let y = g.low i j in let u = ap (λ (v : ℕ). v / 2) w in omega arith) in
      omega (arith, tally_add a₁ s m (n - m) x, ap (λ (v : ℕ). tally a₁ s v x) e, g.same x)

module _ {a : List ℕ} {s n from to P : ℕ} {t : State} (p : WalkAsks a s n from to P t) where
  -- there is no half entry
  pub empty : n ≡ 0 → WalkGives a s n from to P t a (Ok t)
  empty e =
      record {
        only = only_none _ _ _;
        small = small_more p.order p.small;
        told = λ c q w. blank from to p.order (λ j l r. (none c q (2 * j) (omega arith) (omega arith), none c q (2 * j + 1) (omega arith) (omega arith))) w;
      }
    where
      none : (c : ℕ → ℕ) → Counts c a s n from to → (x : ℕ) → from ≤ x / 2 → x / 2 < to → c x ≡ 0
      none c q x l r = sym (q.each x l r) ∙ ap (λ (z : ℕ). tally a s z x) e ∙ tally_zero a s x

  module _ {low high : ℕ} (f : (n ≡ 0) → ⊥) (q : SpanGives a s n low high) where
    -- the least key is in the range
    pub low_in : from ≤ low
    low_in = q.low_at from p.inside.low

    -- so is the greatest
    pub high_in : high < to
    high_in = q.high_at to p.inside.high

    -- which is not below it
    pub low_high : low ≤ high
    low_high = let x = q.each_low 0 (omega arith) in let y = q.each_high 0 (omega arith) in omega arith

    module _ (e : low ≡ high) {b : ℕ} (v : EvensGives a s n b) where
      -- where they are one, it is the key of all
      each : (i : ℕ) → i < n → get_or a (s + i) 0 / 2 ≡ low
      each i h = let x = q.each_low i h in let y = q.each_high i h in omega arith

      -- it is taken in
      pub visit_asks : to < 2 ^ 64 → VisitAsks P low n b t
      visit_asks h =
          let x = high_in in
          let y = p.top in
          record { points = p.points; below = omega arith; fits = omega arith; fewer = v.fewer; small = small_more low_in p.small }

      -- and the other keys have no half entry
      pub leaf : {r : Result State Refusal} → VisitGives P low n b t r → WalkGives a s n from to P t a r
      leaf {r} g =
          let x = high_in in
          let y = low_in in
          record {
            only = only_none _ _ _;
            small = small_in_more r (omega arith) g.small;
            told = λ c m w.
                blank_told c P r (low + 1) to (omega arith) (λ j l k. (none c m j (2 * j) (omega arith) (omega arith) (omega arith) (omega arith), none c m j (2 * j + 1) (omega arith) (omega arith) (omega arith) (omega arith)))
                (g.told c (v.even low each ∙ m.each (2 * low) (omega arith) (omega arith)) (v.odd low each ∙ ap (λ (z : ℕ). b + z) (m.each (2 * low + 1) (omega arith) (omega arith))) (omega arith)
                (blank from low y (λ j l k. (none c m j (2 * j) (omega arith) (omega arith) (omega arith) (omega arith), none c m j (2 * j + 1) (omega arith) (omega arith) (omega arith) (omega arith))) w));
          }
        where
          none : (c : ℕ → ℕ) → Counts c a s n from to → (j x : ℕ) → x / 2 ≡ j → (j ≡ low → ⊥) → from ≤ j → j < to → c x ≡ 0
          none c m j x d o l k =
              sym (m.each x (omega arith) (omega arith)) ∙ tally_none a s n x (λ i h z. let y = each i h in let g = ap (λ (v : ℕ). v / 2) z in o (omega arith))

    -- the middle of two keys that differ
    pub mid_above : low < low + (high - low) / 2 + 1
    mid_above = omega arith

    -- it is not above the higher one
    pub mid_within : (low ≡ high → ⊥) → low + (high - low) / 2 + 1 ≤ high
    mid_within e = omega (arith, low_high)

    -- the range below it is smaller
    pub left_falls : (low ≡ high → ⊥) → low + (high - low) / 2 + 1 - from < to - from
    left_falls e = omega (arith, mid_within e, high_in, low_in)

    -- so is the range from it on
    pub right_falls : (low ≡ high → ⊥) → to - (low + (high - low) / 2 + 1) < to - from
    right_falls e = omega (arith, mid_within e, high_in, low_in)

    module _ {mid : ℕ} (l : low < mid) (h : mid ≤ high) {a₁ : List ℕ} {m : ℕ} (g : SplitGives a s n mid a₁ m) where
      -- all are in the range after the split
      inside₁ : Inside a₁ s n from to
      inside₁ = inside_same a a₁ s n from to g.same p.inside

      -- the lower part is walked
      pub left_asks : WalkAsks a₁ s m from mid P t
      left_asks =
          let x = high_in in
          let y = low_in in
          let z = p.top in
          let fw = g.fewer in
          let long = g.only.long in
          let fit = p.fit in
          record {
            fit = omega arith;
            points = p.points;
            top = omega arith;
            order = omega arith;
            inside = record { low = λ i k. inside₁.low i (omega arith); high = g.low };
            small = p.small;
          }

      -- a crowded edge is met there
      pub stopped : {a₂ : List ℕ} {e : Refusal} → WalkGives a₁ s m from mid P t a₂ (Err e) → WalkGives a s n from to P t a₂ (Err e)
      stopped w₁ =
          let y = high_in in
          let fw = g.fewer in
          record {
            only = only_both g.only (only_more (omega arith) (omega arith) w₁.only);
            small = early_more (omega arith) w₁.small;
            told = λ c k w. w₁.told c (record { each = λ z d e. split_first g z e ∙ k.each z d (omega arith) }) w;
          }

      module _ {a₂ : List ℕ} {t₁ : State} (w₁ : WalkGives a₁ s m from mid P t a₂ (Ok t₁)) where
        -- the upper part stands still
        at₂ : (i : ℕ) → i < n - m → get_or a₂ (s + m + i) 0 ≡ get_or a₁ (s + (m + i)) 0
        at₂ i k = kept_at w₁.only {b = s + m} {m = n - m} (after (omega arith)) i k ∙ ap (λ (v : ℕ). get_or a₁ v 0) (add_assoc s m i)

        -- then it is walked
        pub right_asks : WalkAsks a₂ (s + m) (n - m) mid to P t₁
        right_asks =
            let x = high_in in
            let fw = g.fewer in
            let long = g.only.long in
            let long₂ = w₁.only.long in
            let fit = p.fit in
            record {
              fit = omega arith;
              points = p.points;
              top = p.top;
              order = omega arith;
              inside = record { low = λ i k. rw (at₂ i k) (g.high (m + i) (omega arith) (omega arith)); high = λ i k. rw (at₂ i k) (inside₁.high (m + i) (omega arith)) };
              small = w₁.small;
            }

        -- both parts are
        pub both : {a₃ : List ℕ} {r : Result State Refusal} → WalkGives a₂ (s + m) (n - m) mid to P t₁ a₃ r → WalkGives a s n from to P t a₃ r
        both w₂ =
            let x = high_in in
            let y = low_in in
            let fw = g.fewer in
            record {
              only = only_both g.only (only_both (only_more (omega arith) (omega arith) w₁.only) (only_more (omega arith) (omega arith) w₂.only));
              small = w₂.small;
              told = λ c k w.
                  w₂.told c (record { each = λ z d e. tally_kept w₁.only (s + m) (n - m) z (after (omega arith)) ∙ split_second g z d ∙ k.each z (omega arith) e })
                  (w₁.told c (record { each = λ z d e. split_first g z e ∙ k.each z d (omega arith) }) w);
            }
