-- The pass over the faces: a corner of the window is put at the end of its run, one after the window is counted. Assumes nothing.
use Rattle.std.proofs.Common.{◌≡◌, ℕ, suc, ◌+◌, ◌-◌, ◌*◌, ◌%◌, ◌^◌, ◌<◌, ◌≤◌, List, length, get_or, set, sym, refl, ap, ◌∙◌, zero-add, add-one, arith, length-set, get_or-set_other, get_or-set_same}
use native.Mathlib.Decide.{ℕ_discrete, dec_lt}
use Rattle.halves.specs.Split.{hit, tally}
use Rattle.halves.specs.Gather.{next_of}
use Rattle.halves.proofs.Tallies.{tally_zero}
use Rattle.halves.proofs.Halves.{next_in}
use Rattle.windows.specs.Around.{previous_of, around, corners_of, start_of, CornerAsks, CornerGives, PassAsks, PassGives}
use Rattle.windows.proofs.Arounds.{previous_in, around_zero, around_same, around_other}
use Rattle.windows.proofs.Places.{corner_same, corner_other, corners_most, tally_most, tally_end, tally_out, start_suc, start_before}

-- place n is one of f
pub record There (f : List ℕ) (n : ℕ) : Type 0 where
  pub in_f : n < length f
  pub value : get_or f n 0 ≤ 4194304
  pub few : length f < 2 ^ 32

module _ {f : List ℕ} {i j : ℕ} {ends b : List ℕ} (p : CornerAsks f i j ends b) where
  -- the next corner is there
  pub next_there : {n : ℕ} → n ≡ next_of i → There f n
  next_there {n} e = let h : n < length f = omega (arith, next_in f i p.whole p.here) in record { in_f = h; value = p.below n h; few = p.few }

  -- so is the one before
  pub previous_there : {n : ℕ} → n ≡ previous_of i → There f n
  previous_there {n} e = let h : n < length f = omega (arith, previous_in f i p.whole p.here) in record { in_f = h; value = p.below n h; few = p.few }

  -- both half entries are put
  pub corner_put :
      {n m : ℕ} → n ≡ next_of i → m ≡ previous_of i
      → CornerGives f i j ends b (set ends j (get_or ends j 0 + 2)) (set (set b (get_or ends j 0) (2 * get_or f n 0)) (get_or ends j 0 + 1) (2 * get_or f m 0 + 1))
  corner_put e g = record { ends_are = refl; entries_are = rw (e, g) refl }

-- of the first i corners those of the window are in their runs, and those after it are counted
pub record Passed (f : List ℕ) (v w width : ℕ) (ends₀ b₀ counts₀ : List ℕ) (inner outer : ℕ) (ends b counts : List ℕ) (i : ℕ) : Type 0 where
  pub inner_is : inner ≡ w
  pub outer_is : outer ≡ w + width
  pub at_most : i ≤ length f
  pub ends_long : length ends ≡ length ends₀
  pub b_long : length b ≡ length b₀
  pub counts_long : length counts ≡ length counts₀
  pub ends_at : (j : ℕ) → j < w → get_or ends j 0 ≡ start_of f v j + 2 * tally f 0 i (v + j)
  pub runs : (j : ℕ) → j < w → (x : ℕ) → tally b (start_of f v j) (2 * tally f 0 i (v + j)) x ≡ around f i (v + j) x
  pub counted : (k : ℕ) → k < width → get_or counts k 0 ≡ tally f 0 i (v + w + k)

-- what a turn needs
pub record Bounds (f : List ℕ) (v w width : ℕ) (ends counts : List ℕ) (outer i : ℕ) : Type 0 where
  pub few : length f < 2 ^ 26
  pub corner : get_or f i 0 ≤ 4194304
  pub first : v ≤ 4194304
  pub wide : width ≤ 65536
  pub within : w ≤ width
  pub outer_is : outer ≡ w + width
  pub ends_fit : width ≤ length ends
  pub counts_fit : width ≤ length counts

module _ {f : List ℕ} {v w width : ℕ} {ends₀ b₀ counts₀ : List ℕ} (p : PassAsks f v w width ends₀ b₀ counts₀) where
  -- no corner
  pub begin : Passed f v w width ends₀ b₀ counts₀ w (w + width) ends₀ b₀ counts₀ 0
  begin =
      record {
        inner_is = refl;
        outer_is = refl;
        at_most = omega arith;
        ends_long = refl;
        b_long = refl;
        counts_long = refl;
        ends_at = λ j h. omega (arith, p.starts j h, tally_zero f 0 (v + j));
        runs = λ j h x. rw (tally_zero f 0 (v + j)) (tally_zero b₀ (start_of f v j) x ∙ sym (around_zero f (v + j) x));
        counted = λ k h. rw zero-add at (p.zeros.each k h) ∙ sym (tally_zero f 0 (v + w + k));
      }

  module _ {inner outer : ℕ} {ends b counts : List ℕ} {i : ℕ} (s : Passed f v w width ends₀ b₀ counts₀ inner outer ends b counts i) where
    -- all corners
    pub done : length f ≤ i → PassGives f v w width ends b counts
    done h =
        let l = s.at_most in
        let e : i ≡ length f = omega arith in
        record {
          ends_are = λ j q. omega (arith, s.ends_at j q, start_suc f v j, ap (λ (n : ℕ). tally f 0 n (v + j)) e);
          runs = λ j q x. rw e at (s.runs j q x);
          counted = λ k q. s.counted k q ∙ ap (λ (n : ℕ). tally f 0 n (v + w + k)) e;
        }

    module _ (h : i < length f) where
      -- what the needs of a turn follow from
      pub bounds : Bounds f v w width ends counts outer i
      bounds =
          let x = p.faces.few in
          let y = p.faces.whole in
          let z = p.faces.points in
          record {
            few = omega arith;
            corner = omega (arith, p.faces.below i h);
            first = p.first;
            wide = p.wide;
            within = p.within;
            outer_is = s.outer_is;
            ends_fit = omega (arith, p.ends_fit, s.ends_long);
            counts_fit = omega (arith, p.counts_fit, s.counts_long);
          }

      module _ {j : ℕ} (wraps : (j + v) % 2 ^ 64 ≡ get_or f i 0) (fits : j < 2 ^ 64) where
        -- where the offset is beyond, the corner is none of these vertices
        not_here : outer ≤ j → (k : ℕ) → k < w + width → get_or f i 0 ≡ v + k → ⊥
        not_here o k l e = omega (arith, s.outer_is, p.first, p.wide, p.within)

        -- a corner elsewhere
        pub elsewhere : outer ≤ j → Passed f v w width ends₀ b₀ counts₀ inner outer ends b counts (i + 1)
        elsewhere o =
            rw (add-one i) (record {
              inner_is = s.inner_is;
              outer_is = s.outer_is;
              at_most = h;
              ends_long = s.ends_long;
              b_long = s.b_long;
              counts_long = s.counts_long;
              ends_at = λ k l. omega (arith, s.ends_at k l, corner_other f i (v + k) (not_here o k (omega arith)));
              runs = λ k l x. rw (corner_other f i (v + k) (not_here o k (omega arith)), around_other f i (v + k) x (not_here o k (omega arith))) (s.runs k l x);
              counted = λ k l. s.counted k l ∙ sym (corner_other f i (v + w + k) (λ e. not_here o (w + k) (omega arith) (omega arith)));
            })

        module _ (o : j < outer) where
          -- else it is this one
          here : get_or f i 0 ≡ v + j
          here = omega (arith, s.outer_is, p.first, p.wide, p.within)

          -- and no other
          not_other : (k : ℕ) → (j ≡ k → ⊥) → get_or f i 0 ≡ v + k → ⊥
          not_other k n e = n (omega (arith, here))

          -- after the window
          module _ (q : inner ≤ j) where
            -- its counter
            pub counter_in : j - inner < length counts
            counter_in = omega (arith, bounds, s.inner_is)

            -- which does not overflow
            pub counter_small : get_or counts (j - inner) 0 + 1 < 2 ^ 32
            counter_small =
                omega (arith, bounds, s.inner_is, s.counted (j - inner) (omega (arith, bounds, s.inner_is)), tally_most f 0 i (v + w + (j - inner)))

            -- it is counted
            pub counting : Passed f v w width ends₀ b₀ counts₀ inner outer ends b (set counts (j - inner) (get_or counts (j - inner) 0 + 1)) (i + 1)
            counting =
                let e : v + j ≡ v + w + (j - inner) = omega (arith, s.inner_is) in
                rw (add-one i) (record {
                  inner_is = s.inner_is;
                  outer_is = s.outer_is;
                  at_most = h;
                  ends_long = s.ends_long;
                  b_long = s.b_long;
                  counts_long = length-set counts (j - inner) (get_or counts (j - inner) 0 + 1) ∙ s.counts_long;
                  ends_at = λ k l. omega (arith, s.ends_at k l, corner_other f i (v + k) (not_other k (omega (arith, s.inner_is))));
                  runs = λ k l x. rw (corner_other f i (v + k) (not_other k (omega (arith, s.inner_is))), around_other f i (v + k) x (not_other k (omega (arith, s.inner_is)))) (s.runs k l x);
                  counted = λ k l. go k l (ℕ_discrete (j - inner) k);
                })
              where
                go : (k : ℕ) → k < width → Dec (j - inner ≡ k) → get_or (set counts (j - inner) (get_or counts (j - inner) 0 + 1)) k 0 ≡ tally f 0 (suc i) (v + w + k)
                go k l (yes e) =
                    rw (← e) (get_or-set_same counts (j - inner) (get_or counts (j - inner) 0 + 1) 0 counter_in
                    ∙ omega (arith, s.counted (j - inner) (omega (arith, bounds, s.inner_is)), corner_same f i (v + w + (j - inner)) (omega (arith, here, s.inner_is))))
                go k l (no e) =
                    get_or-set_other counts (j - inner) k (get_or counts (j - inner) 0 + 1) 0 (omega arith) ∙ s.counted k l
                    ∙ sym (corner_other f i (v + w + k) (λ z. e (omega (arith, here, s.inner_is))))

          -- in the window
          module _ (q : j < inner) where
            -- it is a vertex of the window
            inside : j < w
            inside = omega (arith, s.inner_is)

            -- its run has room
            roomy : start_of f v j + 2 * tally f 0 i (v + j) + 2 ≤ start_of f v w
            roomy = omega (arith, start_before f v j w inside, corners_most f (suc i) (v + j) h, corner_same f i (v + j) here)

            -- for its two half entries
            pub corner_asks : CornerAsks f i j ends b
            corner_asks =
                let r = roomy in
                let e = s.ends_at j inside in
                let z = p.faces.points in
                record {
                  whole = p.faces.whole;
                  below = λ k l. omega (arith, p.faces.below k l);
                  few = omega (arith, bounds);
                  here = h;
                  run = omega (arith, bounds, inside);
                  room = omega (arith, p.room, s.b_long);
                  small = omega (arith, p.small);
                }

            -- which are put
            module _ {ends' b' : List ℕ} (g : CornerGives f i j ends b ends' b') where
              -- the end of run k
              end_at : (k : ℕ) → k < w → Dec (j ≡ k) → get_or ends' k 0 ≡ start_of f v k + 2 * tally f 0 (suc i) (v + k)
              end_at k l (yes e) =
                  rw (← e, g.ends_are) (get_or-set_same ends j (get_or ends j 0 + 2) 0 (omega (arith, bounds, inside))
                  ∙ omega (arith, s.ends_at j inside, corner_same f i (v + j) here))
              end_at k l (no e) =
                  rw g.ends_are (get_or-set_other ends j k (get_or ends j 0 + 2) 0 (omega arith)
                  ∙ omega (arith, s.ends_at k l, corner_other f i (v + k) (not_other k e)))

              -- no entry of run k, which is another, is among the two
              apart : (k : ℕ) → k < w → (j ≡ k → ⊥) → (m : ℕ) → m < 2 * tally f 0 i (v + k) → (start_of f v k + m ≡ get_or ends j 0 → ⊥) × (start_of f v k + m ≡ get_or ends j 0 + 1 → ⊥)
              apart k l n m lm = go (dec_lt j k)
                where
                  c₁ : tally f 0 i (v + k) ≤ corners_of f (v + k)
                  c₁ = corners_most f i (v + k) s.at_most

                  c₂ : suc (tally f 0 i (v + j)) ≤ corners_of f (v + j)
                  c₂ = omega (arith, corners_most f (suc i) (v + j) h, corner_same f i (v + j) here)

                  go : Dec (j < k) → (start_of f v k + m ≡ get_or ends j 0 → ⊥) × (start_of f v k + m ≡ get_or ends j 0 + 1 → ⊥)
                  go (yes a) = (λ z. omega (arith, start_before f v j k a, c₂, s.ends_at j inside), λ z. omega (arith, start_before f v j k a, c₂, s.ends_at j inside))
                  go (no a) =
                      let b : k < j = omega arith in
                      (λ z. omega (arith, start_before f v k j b, c₁, s.ends_at j inside), λ z. omega (arith, start_before f v k j b, c₁, s.ends_at j inside))

              -- the entries of run k
              run_at : (k : ℕ) → k < w → (x : ℕ) → Dec (j ≡ k) → tally b' (start_of f v k) (2 * tally f 0 (suc i) (v + k)) x ≡ around f (suc i) (v + k) x
              run_at k l x (yes e) =
                  let c : 2 * tally f 0 (suc i) (v + j) ≡ suc (suc (2 * tally f 0 i (v + j))) = omega (arith, corner_same f i (v + j) here) in
                  rw (← e, g.entries_are, s.ends_at j inside, c, around_same f i (v + j) x here)
                  (tally_end b (start_of f v j) (2 * tally f 0 i (v + j)) (2 * get_or f (next_of i) 0) (2 * get_or f (previous_of i) 0 + 1) x (omega (arith, roomy, p.room, s.b_long))
                  ∙ ap (λ (n : ℕ). n + (hit (2 * get_or f (next_of i) 0) x + hit (2 * get_or f (previous_of i) 0 + 1) x)) (s.runs j inside x))
              run_at k l x (no e) =
                  rw (g.entries_are, corner_other f i (v + k) (not_other k e), around_other f i (v + k) x (not_other k e))
                  (tally_out b (start_of f v k) (2 * tally f 0 i (v + k)) (get_or ends j 0) (2 * get_or f (next_of i) 0) (2 * get_or f (previous_of i) 0 + 1) x (apart k l e) ∙ s.runs k l x)

              -- one corner more
              pub putting : Passed f v w width ends₀ b₀ counts₀ inner outer ends' b' counts (i + 1)
              putting =
                  rw (add-one i) (record {
                    inner_is = s.inner_is;
                    outer_is = s.outer_is;
                    at_most = h;
                    ends_long = ap length g.ends_are ∙ length-set ends j (get_or ends j 0 + 2) ∙ s.ends_long;
                    b_long =
                        ap length g.entries_are ∙ length-set (set b (get_or ends j 0) (2 * get_or f (next_of i) 0)) (get_or ends j 0 + 1) (2 * get_or f (previous_of i) 0 + 1)
                        ∙ length-set b (get_or ends j 0) (2 * get_or f (next_of i) 0) ∙ s.b_long;
                    counts_long = s.counts_long;
                    ends_at = λ k l. end_at k l (ℕ_discrete j k);
                    runs = λ k l x. run_at k l x (ℕ_discrete j k);
                    counted = λ k l. s.counted k l ∙ sym (corner_other f i (v + w + k) (λ z. omega (arith, here, inside)));
                  })
