-- What a window makes of what is known: its runs have the half entries of its vertices. Assumes nothing.
use Rattle.std.proofs.Common.{◌≡◌, ℕ, zero, suc, ◌+◌, ◌-◌, ◌*◌, ◌/◌, ◌<◌, ◌≤◌, min, List, length, get_or, sym, refl, ap, ◌∙◌, add-zero, mul-le-mul_right, arith}
use native.Mathlib.Decide.{dec_lt}
use Rattle.rows.specs.Region.{Filled}
use Rattle.std.specs.Prelude.{Result, Ok, Err}
use Rattle.refuse.specs.declared.Refusal.{Refusal}
use Rattle.halves.specs.declared.State.{State}
use Rattle.halves.specs.Split.{tally}
use Rattle.halves.specs.Scan.{Upto, Small, StartGives}
use Rattle.halves.specs.Gather.{halves, RoundsAsks, RoundsGives}
use Rattle.halves.proofs.Tallies.{tally_some}
use Rattle.halves.proofs.Halves.{bound}
use Rattle.halves.proofs.Walking.{early_more}
use Rattle.windows.specs.Around.{around, corners_of, start_of, sum_to, PassAsks, PassGives, FitGives}
use Rattle.windows.specs.Window.{begin_of, many_of, RunsAsks, RunsCount, RunsGives, WindowAsks, Counted, AdvanceAsks, Passed, WindowGives, Stepped, AllAsks}
use Rattle.windows.specs.declared.Step.{Step}
use Rattle.windows.proofs.Arounds.{around_none, around_halves}
use Rattle.windows.proofs.Places.{start_zero, start_suc, start_before, sum_start, begin_zero, begin_suc}

-- ---- the runs of a window

module _ {f : List ℕ} {P v w more width : ℕ} {t : State} {ends b counts entries : List ℕ} (p : WindowAsks f P v w more width t ends b counts entries) where
  -- the pass is asked for
  pub pass_asks : PassAsks f v w width ends b counts
  pass_asks =
      record {
        points = P;
        faces = p.faces;
        first = omega (arith, p.left, p.faces.points);
        wide = p.wide;
        within = p.within;
        ends_fit = p.ends_fit;
        counts_fit = p.counts_fit;
        starts = p.starts;
        room = p.room;
        small = p.bounded;
        zeros = p.zeros;
      }

  module _ (enough : w ≤ more) {ends' b' counts' : List ℕ} (g : PassGives f v w width ends' b' counts') (ends_long : length ends' ≡ length ends) (b_long : length b' ≡ length b) where
    -- run j begins where it should
    begin_is : (j : ℕ) → j < w → begin_of ends' j ≡ start_of f v j
    begin_is zero h = begin_zero ends' ∙ sym (start_zero f v)
    begin_is (suc j) h = begin_suc ends' j ∙ g.ends_are j (omega arith)

    -- and has two entries for each corner
    many_is : (j : ℕ) → j < w → many_of ends' j ≡ 2 * corners_of f (v + j)
    many_is j h = omega (arith, begin_is j h, g.ends_are j h, start_suc f v j)

    -- they are the half entries of the vertex
    run_is : (j : ℕ) → j < w → (x : ℕ) → tally b' (begin_of ends' j) (many_of ends' j) x ≡ around f (length f) (v + j) x
    run_is j h x = rw (many_is j h, begin_is j h) (g.runs j h x)

    -- whose other ends are points
    below_is : (j : ℕ) → j < w → (i : ℕ) → i < many_of ends' j → get_or b' (begin_of ends' j + i) 0 / 2 < P
    below_is j h i l = go (dec_lt (get_or b' (begin_of ends' j + i) 0 / 2) P)
      where
        go : Dec (get_or b' (begin_of ends' j + i) 0 / 2 < P) → get_or b' (begin_of ends' j + i) 0 / 2 < P
        go (yes q) = q
        go (no q) =
            let z = around_none f P p.faces (length f) (v + j) (get_or b' (begin_of ends' j + i) 0) (omega arith) (omega arith) in
            absurd (omega (arith, tally_some b' (begin_of ends' j) (many_of ends' j) i l, run_is j h (get_or b' (begin_of ends' j + i) 0)))

    -- so the runs are asked for
    pub runs_asks : RunsAsks P v w ends' b' entries t
    runs_asks =
        record {
          points = p.faces.points;
          within = omega (arith, p.left);
          ends_fit = omega (arith, p.within, p.ends_fit);
          rise = λ j h. omega (arith, begin_is j h, g.ends_are j h, start_suc f v j);
          fit = λ j h. omega (arith, g.ends_are j h, start_suc f v j, start_before f v j w h, p.room);
          each = λ j h. omega (arith, many_is j h, p.each j h);
          below = below_is;
          small = p.small;
        }

    -- as the rules count
    runs_count : RunsCount (halves f P (length f)) P v w ends' b'
    runs_count = record { each = λ j h x l. run_is j h x ∙ around_halves f P p.faces (v + j) x l }

    -- and the vertices are passed
    pub together_gives : (r : Result State Refusal) → RunsGives P v w ends' b' t r → WindowGives f P (v + w) width counts' r
    together_gives (Ok s) k = record { counted = record { each = g.counted }; small = k.small; upto = k.told (halves f P (length f)) runs_count p.upto }
    together_gives (Err e) k = record { small = k.small; told = k.told (halves f P (length f)) runs_count p.upto }

-- ---- a vertex alone

module _ {f : List ℕ} {P v width : ℕ} {t : State} {ends b counts entries : List ℕ} (p : WindowAsks f P v 0 1 width t ends b counts entries) where
  -- its keys
  keys_in : v * P + P ≤ P * P
  keys_in = let l : suc v ≤ P = omega (arith, p.left) in omega (arith, mul-le-mul_right P l)

  -- are small
  pub alone_bounds : v * P + P ≤ 4194304 * 4194304
  alone_bounds = let l = p.faces.points in omega (arith, keys_in, bound 4194304 4194304 l l)

  -- and are taken in
  pub alone_asks : RoundsAsks f P (v * P) (v * P + P) t entries
  alone_asks = record { faces = p.faces; order = omega arith; within = keys_in; small = p.small; upto = p.upto; room = p.entries_fit }

  -- the vertices after it are counted
  pub alone_pass : PassAsks f (v + 1) 0 width ends b counts
  alone_pass =
      record {
        points = P;
        faces = p.faces;
        first = omega (arith, p.left, p.faces.points);
        wide = p.wide;
        within = omega arith;
        ends_fit = p.ends_fit;
        counts_fit = p.counts_fit;
        starts = λ j h. absurd (omega arith);
        room = omega (arith, start_zero f (v + 1));
        small = omega (arith, start_zero f (v + 1));
        zeros = p.zeros;
      }

  -- it is passed
  pub alone_gives : {ends' b' counts' : List ℕ} {r : State} → RoundsGives f P (v * P + P) (Ok r) → PassGives f (v + 1) 0 width ends' b' counts' → Passed f P (v + 1) width counts' r
  alone_gives k g =
      let e : v * P + P ≡ (v + 1) * P = omega arith in
      record { counted = record { each = λ j h. g.counted j h ∙ ap (λ (z : ℕ). corners_of f (z + j)) (add-zero (v + 1)) }; small = rw e at k.small; upto = rw e at k.told }

-- ---- the next window

module _ {f : List ℕ} {P v width : ℕ} {t : State} {ends counts entries : List ℕ} (p : AdvanceAsks f P v width t ends counts entries) where
  module _ {limit room w : ℕ} {ends' counts' : List ℕ} (limit_is : limit ≡ min width (P - v)) (room_small : room ≤ 1073741824) (ends_long : length ends' ≡ length ends) (counts_long : length counts' ≡ length counts)
      (g : FitGives counts limit room (length entries) ends' w) (z : Filled 0 width 0 counts') where
    -- they do
    starts_are : (j : ℕ) → j < w → get_or ends' j 0 ≡ start_of f v j
    starts_are j h = g.starts j h ∙ sum_start p.counted j (omega (arith, g.within))

    -- all of them
    sum_is : sum_to counts w ≡ start_of f v w
    sum_is = sum_start p.counted w (omega (arith, g.within))

    -- a window of several vertices, or of one
    window_asks : {b : List ℕ} → room ≤ length b → (more : ℕ) → v + more ≤ P → WindowAsks f P v w more width t ends' b counts' entries
    window_asks {b} fits more l =
        record {
          faces = p.faces;
          left = l;
          wide = p.wide;
          within = omega (arith, g.within);
          ends_fit = omega (arith, p.ends_fit);
          counts_fit = omega (arith, p.counts_fit);
          starts = starts_are;
          room = omega (arith, g.fits, sum_is);
          bounded = omega (arith, g.fits, sum_is);
          each = λ j h. omega (arith, g.each j h, p.counted.each j (omega (arith, g.within)));
          zeros = z;
          entries_fit = p.entries_fit;
          small = p.small;
          upto = p.upto;
        }

    -- of one, where the first is too many
    pub one_asks : {b : List ℕ} → room ≤ length b → w ≡ 0 → WindowAsks f P v 0 1 width t ends' b counts' entries
    one_asks {b} fits e = rw e at (window_asks {b = b} fits 1 (omega (arith, p.left)))

    -- of several
    pub some_asks : {b : List ℕ} → room ≤ length b → WindowAsks f P v w w width t ends' b counts' entries
    some_asks {b} fits = window_asks {b = b} fits w (omega (arith, g.within, p.left))

    -- none beyond the last
    pub some_in : v + w ≤ P
    some_in = omega (arith, g.within, p.left)

    -- it is passed
    pub one_step : {counts₂ : List ℕ} {r : State} → Passed f P (v + 1) width counts₂ r → Stepped f P v width counts₂ (record { v = v + 1; t = r })
    one_step k = record { passed = k; above = omega arith; within = omega (arith, p.left) }

    -- they are
    pub some_step : {counts₂ : List ℕ} {r : State} → (w ≡ 0 → ⊥) → Passed f P (v + w) width counts₂ r → Stepped f P v width counts₂ (record { v = v + w; t = r })
    some_step n k = record { passed = k; above = omega arith; within = some_in }

-- ---- all windows

-- the vertices before v are passed
pub record Advanced (f : List ℕ) (P width : ℕ) (ends₀ b₀ counts₀ entries₀ : List ℕ) (ends b counts entries : List ℕ) (t : State) (v : ℕ) : Type 0 where
  pub at_most : v ≤ P
  pub wide : width ≤ 65536
  pub ends_fit : width ≤ length ends₀
  pub counts_fit : width ≤ length counts₀
  pub ends_long : length ends ≡ length ends₀
  pub b_long : length b ≡ length b₀
  pub counts_long : length counts ≡ length counts₀
  pub entries_long : length entries ≡ length entries₀
  pub counted : Counted f v width counts
  pub small : Small (v * P) t
  pub upto : Upto (halves f P (length f)) P (v * P) t

module _ {f : List ℕ} {P : ℕ} {entries₀ : List ℕ} (p : AllAsks f P entries₀) where
  -- the first pass only counts
  pub first_asks : {width : ℕ} {ends b counts : List ℕ} → width ≤ 65536 → width ≤ length ends → width ≤ length counts → Filled 0 width 0 counts → PassAsks f 0 0 width ends b counts
  first_asks h e c z =
      record {
        points = P;
        faces = p.faces;
        first = omega arith;
        wide = h;
        within = omega arith;
        ends_fit = e;
        counts_fit = c;
        starts = λ j l. absurd (omega arith);
        room = omega (arith, start_zero f 0);
        small = omega (arith, start_zero f 0);
        zeros = z;
      }

  -- before the first window
  pub begin :
      {width : ℕ} {ends₀ b₀ counts₀ ends b counts : List ℕ} {t : State} → width ≤ 65536 → width ≤ length ends₀ → width ≤ length counts₀
      → length ends ≡ length ends₀ → length b ≡ length b₀ → length counts ≡ length counts₀ → PassGives f 0 0 width ends b counts → StartGives t
      → Advanced f P width ends₀ b₀ counts₀ entries₀ ends b counts entries₀ t 0
  begin h e c el bl cl g s =
      let n : 0 ≡ 0 * P = omega arith in
      record {
        at_most = omega arith;
        wide = h;
        ends_fit = e;
        counts_fit = c;
        ends_long = el;
        b_long = bl;
        counts_long = cl;
        entries_long = refl;
        counted = record { each = λ k l. g.counted k l };
        small = rw n at s.small;
        upto = rw n at (s.upto (halves f P (length f)) P);
      }

  module _ {width : ℕ} {ends₀ b₀ counts₀ ends b counts entries : List ℕ} {t : State} {v : ℕ} (q : Advanced f P width ends₀ b₀ counts₀ entries₀ ends b counts entries t v) where
    -- after the last
    pub done : P ≤ v → RoundsGives f P (P * P) (Ok t)
    done h =
        let l = q.at_most in
        let e : v ≡ P = omega arith in
        record { small = rw e at q.small; told = rw e at q.upto }

    -- the next
    pub advance_asks : v < P → AdvanceAsks f P v width t ends counts entries
    advance_asks h =
        record {
          faces = p.faces;
          left = h;
          wide = q.wide;
          ends_fit = omega (arith, q.ends_fit, q.ends_long);
          counts_fit = omega (arith, q.counts_fit, q.counts_long);
          counted = q.counted;
          entries_fit = omega (arith, p.entries_fit, q.entries_long);
          small = q.small;
          upto = q.upto;
        }

    -- one window more
    pub again :
        {ends₁ b₁ counts₁ entries₁ : List ℕ} {s : Step} → Stepped f P v width counts₁ s
        → length ends₁ ≡ length ends → length b₁ ≡ length b → length counts₁ ≡ length counts → length entries₁ ≡ length entries
        → Advanced f P width ends₀ b₀ counts₀ entries₀ ends₁ b₁ counts₁ entries₁ s.t s.v
    again g el bl cl nl =
        record {
          at_most = g.within;
          wide = q.wide;
          ends_fit = q.ends_fit;
          counts_fit = q.counts_fit;
          ends_long = el ∙ q.ends_long;
          b_long = bl ∙ q.b_long;
          counts_long = cl ∙ q.counts_long;
          entries_long = nl ∙ q.entries_long;
          counted = g.passed.counted;
          small = g.passed.small;
          upto = g.passed.upto;
        }

-- a crowded edge ends the loop
pub crowd : {f : List ℕ} {P v : ℕ} {e : Refusal} → v ≤ P → RoundsGives f P (v * P) (Err e) → RoundsGives f P (P * P) (Err e)
crowd {f} {P} h k = record { small = early_more (mul-le-mul_right P h) k.small; told = k.told }
