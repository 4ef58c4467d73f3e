-- The whole first half of pass 4: rows are cleared, the table made, all components walked, and the faces turned. Assumes nothing.
use mathlib.Core.Path.{◌≡◌, ap, ◌∙◌}
use mathlib.Core.Bool.{false}
use mathlib.Core.List.{List}
use Prim.Native.Nat.{ℕ, ◌+◌, ◌*◌, ◌≤◌, ◌<◌}
use native.Mathlib.Omega.{arith}
use lib.ListN.{length, get_or, take}
use Rattle.rows.specs.Region.{Apart.before, Apart.after, Only, Filled}
use Rattle.rows.proofs.Regions.{length_part, get_d_part, only_both, only_more, holds_kept}
use Rattle.rules.specs.Mesh.{flat_faces}
use Rattle.leaving.specs.Pass.{FacesStand}
use Rattle.table.specs.Table.{TableAsks, Tabled, TableGives}
use Rattle.table.proofs.Places.{tabled_kept}
use Rattle.table.proofs.Handing.{at_run}
use Rattle.reaching.specs.Walking.{walk_of, Fits}
use Rattle.crossing.specs.Crossing.{MateAllAsks, MateGives}
use Rattle.crossing.proofs.Mating.{mated_none}
use Rattle.orient_consistently.specs.Walked.{taken, LayAsks, LayGives, AllGives, TurnAsks, TurnGives, OrientGives}
use Rattle.orient_consistently.proofs.Beginning.{zero_at, blank_ready}

-- ---- lay

-- what the code reads
pub record LayBounds (w : List ℕ) (n : ℕ) : Type 0 where
  pub few : n ≤ 4194304
  pub fit : 3 + 14 * n ≤ length w

module _ {w xs : List ℕ} {n m : ℕ} (p : LayAsks w xs n m) where
  -- they hold
  pub lay_bounds : LayBounds w n
  lay_bounds = record { few = p.few; fit = omega (arith, p.tabled.asks.fit) }

  module _ {w₁ : List ℕ} (o : Only 0 (3 + 14 * n) w w₁) (z : Filled 0 (3 + 14 * n) 0 w₁) where
    -- the table still stands, and nothing is noted
    pub mates_asks : MateAllAsks w₁ xs n m
    mates_asks = record { few = p.few; long = p.long; points = p.points; tabled = tabled_kept o (after (omega arith)) p.tabled; mated = mated_none z }

    module _ {w₂ : List ℕ} (g : MateGives w₁ xs n w₂) where
      -- the rows of the walk are there
      fits : Fits w₂ xs n
      fits = let u = lay_bounds in record { long = p.long; few = p.few; fit = omega (arith, u, o.long, g.only.long) }

      -- they are still 0
      blank : Filled 0 (3 + 11 * n) 0 w₂
      blank = holds_kept g.only (before (omega arith)) (record { each = λ i h. z.each i (omega arith) })

      -- and so does the table
      stands : Tabled w₂ xs p.points false (3 + 14 * n) m
      stands = tabled_kept g.only (after (omega arith)) (tabled_kept o (after (omega arith)) p.tabled)

      -- the walk may start
      pub lay_gives : LayGives w xs n w₂
      lay_gives =
          record {
            only = only_both o (only_more (omega arith) (omega arith) g.only);
            all = record {
              going = record {
                ready = blank_ready fits blank;
                points = p.points;
                runs = m;
                tabled = stands;
                mated = g.mated;
                crossed = λ r h c. absurd (c (zero_at fits blank (3 + 2 * n + 3 * r) (omega (arith, (at_run stands r h).runs, p.long))));
              };
              blank = blank;
            };
          }

-- ---- settle

-- what the code reads
pub record Bounds (P : ℕ) (xs : List ℕ) (n : ℕ) (w : List ℕ) : Type 0 where
  pub points : P ≤ 4194304
  pub few : n ≤ 4194304
  pub fit : 3 * n ≤ length xs
  pub room : taken P n ≤ length w
  pub front : length (take (3 * n) xs) ≡ 3 * n

module _ {P : ℕ} {xs : List ℕ} {n : ℕ} {w : List ℕ} (p : FacesStand (taken P n) P xs n w) where
  -- they hold
  pub bounds : Bounds P xs n w
  bounds = record { points = p.points; few = omega (arith, p.few); fit = p.fit; room = p.room; front = length_part xs 0 (3 * n) (omega (arith, p.fit)) }

  module _ {w₁ : List ℕ} (o : Only 3 n w w₁) where
    -- a table may be made of the faces
    pub table_asks : TableAsks w₁ (take (3 * n) xs) P (3 + 14 * n)
    table_asks =
        let u = bounds in
        let l = o.long in
        record {
          whole = omega (arith, u);
          few = omega (arith, u);
          fit = omega (arith, u);
          inside = λ i h.
              let q : i < 3 * n = omega (arith, u) in
              let e : 0 + i ≡ i = omega arith in
              omega (arith, get_d_part xs 0 (3 * n) i q, ap (λ j. get_or xs j 0) e, p.inside i q);
        }

    module _ {w₂ : List ℕ} {m : ℕ} (t : TableGives w₁ (take (3 * n) xs) P false (3 + 14 * n) w₂ m) where
      -- it may be made ready for the walk
      pub lay_asks : LayAsks w₂ (take (3 * n) xs) n m
      lay_asks = let u = bounds in record { few = u.few; long = u.front; points = P; tabled = t.tabled }

      module _ {w₃ : List ℕ} (y : LayGives w₂ (take (3 * n) xs) n w₃) {w₄ : List ℕ} {r : ℕ} (g : AllGives w₃ (take (3 * n) xs) n w₄ r) where
        -- the faces may be turned
        pub turn_asks : TurnAsks xs w₄ n
        turn_asks = let u = bounds in record { few = u.few; fit = u.fit; room = omega (arith, u, o.long, t.only.long, y.only.long, g.only.long) }

        -- no more are exchanged than there are
        pub few_exchanges : get_or w₄ 1 0 ≤ n
        unfolding walk_of
        few_exchanges = omega (arith, g.going.ready.sound.turns)

        -- nothing beyond the stated work room is changed
        pub only_all : Only 0 (taken P n) w w₄
        only_all =
            let u = bounds in
            only_both (only_more (omega arith) (omega arith) o)
            (only_both (only_more (omega arith) (omega (arith, u)) t.only)
            (only_both (only_more (omega arith) (omega arith) y.only) (only_more (omega arith) (omega arith) g.only)))

        -- the rule's result
        pub orient_gives : {xs' : List ℕ} → TurnGives xs w₄ n xs' → OrientGives P xs n w xs' w₄ (get_or w₄ 1 0) r
        unfolding walk_of
        orient_gives {xs'} h =
            record {
              faces = h.faces ∙ ap (λ a. flat_faces a.walk.faces) g.is;
              exchanges = ap (λ a. a.walk.exchanges) g.is;
              marks = ap (λ a. a.marks) g.is;
              few_exchanges = few_exchanges;
              few_marks = g.few;
              only_faces = h.only;
              only_work = only_all;
            }
