-- The rooms after pass 5 hold what the rule says, whatever the points are. Assumes nothing.
use mathlib.Core.Path.{◌≡◌, refl, sym, ap, ◌∙◌, subst}
use mathlib.Core.List.{List, []}
use Prim.Native.Nat.{ℕ, ◌+◌, ◌*◌, ◌-◌, ◌≤◌, ◌<◌}
use native.Mathlib.Omega.{arith}
use lib.Dec.{ltb}
use lib.Ieee.{nan}
use lib.ListN.{length, get_or, take, length-replicate}
use lib.Seq.{length-take-le}
use Rattle.rows.specs.Region.{Only2, Holds, Out, Out.below, Out.above}
use Rattle.rows.proofs.Regions.{get_d_part, only_none}
use Rattle.rules.specs.Lists.{count}
use Rattle.rules.specs.Lists as lists
use Rattle.rules.specs.Mesh.{faces_of, flat_faces}
use Rattle.rules.specs.State.{State}
use Rattle.rules.specs.Pass5.{pass5}
use Rattle.rule_laws.proofs.Rising.{all_at}
use Rattle.rule_laws.proofs.Once.{Inside}
use Rattle.rule_laws.proofs.Relabel.{Alike}
use Rattle.leaving.specs.Pass.{standing, state_of}
use Rattle.leaving.proofs.Leaving.{length_points_take}
use Rattle.splitting.specs.Corners.{extras}
use Rattle.corner_numbers.specs.Numbers.{SortAsks, SortGives}
use Rattle.split_bowtie_vertices.specs.Splits.{RenameAsks, RenameGives, taken}
use Rattle.split_bowtie_vertices.specs.Splits as splits
use Rattle.split_bowtie_vertices.specs.declared.Split.{Split}
use Rattle.split_bowtie_vertices.proofs.Ending as ending
use Rattle.split_laws.specs.Olds.{olds_to, old_of}
use Rattle.split_laws.proofs.Lines.{olds_low, olds_many}
use Rattle.split_laws.proofs.Alone.{old_alike, points_same, flat_alone}
use Rattle.split_rows.specs.Rows.{AllAsks, AllGives, SplitAsks, Stands, SplitGives}
use Rattle.split_rows.proofs.Blank.{blank, over_blank}
use Rattle.split_rows.proofs.Standing.{corners_in, stands_alike}

module _ {xs : List ℕ} {n P : ℕ} {w : List ℕ} {olds : ℕ} (p : SplitAsks xs n P w olds) where
  -- the corners of the faces
  abbrev ys : List ℕ
  ys = take (3 * n) xs

  -- there are 3n of them
  pub long : length ys ≡ 3 * n
  long = length-take-le (3 * n) xs p.stand.fit

  -- coordinates, all the same
  abbrev N : ℕ
  N = 3 * (P + length ys)

  -- they have room for the copies
  pub wide : 3 * (P + 3 * n) ≤ length (blank N)
  wide = omega (arith, long, length-replicate N nan)

  -- with them all is as crates/split_bowtie_vertices asks
  abbrev asks : splits.SplitAsks (blank N) P xs n w
  asks = record { stand = p.stand; room = wide }

  -- what the sort of the corners asks
  pub sort_ok : SortAsks w ys P
  sort_ok = ending.sort_ok asks

  module _ {w₁ : List ℕ} (g : SortGives w ys P w₁) where
    abbrev pub all-ok : AllAsks w₁ P (3 * n) olds
    all-ok = record { ys = ys; long = sym long; rows = ending.rows asks g; behind = omega (arith, p.behind); room = omega (arith, p.room, g.only.long) }

    module _ {w₂ : List ℕ} {r : ℕ} (s : AllGives all-ok w₂ r) where
      -- the rows as they are after all vertices
      stood : splits.SplitAsks (blank N) P xs n w₂
      stood =
          let a = g.only.long in
          let b = s.only.long in
          record {
            stand = record { points = p.stand.points; few = p.stand.few; fit = p.stand.fit; inside = p.stand.inside; room = omega (arith, p.stand.room) };
            room = wide;
          }

      sorted : SortGives w₂ ys P w₂
      sorted = record { only = only_none _ _ _; column = s.reached.rows.column; led = s.reached.rows.led; sorted = s.reached.rows.sorted }

      abbrev result : Split
      result = record { splits = count (λ v. ltb 0 (extras (faces_of ys) v)) (lists.below P); points = r }

      split : splits.AllGives (ending.all-ok stood sorted) (blank N) w₂ result
      split = record { only_work = only_none _ _ _; only_points = only_none _ _ _; splits = refl; begin = s.begin; reached = over_blank (omega arith) s.reached }

      pub rename_ok : RenameAsks xs w₂ (10 * (3 * n) + 2 + P) (13 * (3 * n) + 2 + P) (3 * n)
      rename_ok = ending.rename_ok stood sorted split

      -- there are at least the points of the mesh
      pub least : P ≤ r
      least = omega (arith, s.reached.next_is, olds_many (faces_of ys) P P)

      module _ {xs' : List ℕ} (h : RenameGives xs w₂ (10 * (3 * n) + 2 + P) (13 * (3 * n) + 2 + P) (3 * n) xs') where
        whole : splits.SplitGives P (blank N) xs n w₂ (blank N) xs' w₂ result
        whole = ending.done stood sorted split h

        -- the mesh with these points
        abbrev m₀ : State
        m₀ = state_of (blank N) P xs n []

        many₀ : length m₀.points ≡ P
        many₀ = length_points_take (blank N) P (omega (arith, length-replicate N nan))

        inside₀ : Inside (length m₀.points) m₀.faces
        inside₀ = subst (λ k. Inside k m₀.faces) (sym many₀) (corners_in p.stand)

        -- any state of these faces
        module _ (m : State) (t : Stands P xs n m) where
          alike : Alike m.faces (standing xs n)
          alike = stands_alike t

          number : P + (r - P) ≡ length (pass5 m).points
          number = omega (arith, least, points_same m m₀ inside₀ (t.many ∙ sym many₀) alike, whole.number [])

          faces : take (3 * n) xs' ≡ flat_faces (pass5 m).faces
          faces = whole.faces [] ∙ sym (flat_alone m m₀ inside₀ (t.many ∙ sym many₀) alike)

          old : Holds olds (r - P) (old_of m.faces P) w₂
          old = record { each = λ i l. sym (get_d_part w₂ olds (r - P) i l) ∙ ap (λ o. get_or o i 0) s.reached.old ∙ (unfold old_of in sym (old_alike m.faces (standing xs n) alike P i)) }

        -- an old point is a point
        vertices : (j : ℕ) → j < r - P → get_or w₂ (olds + j) 0 < P
        vertices j l =
            let o = olds_many (faces_of ys) P P in
            let a = all_at (λ v. v < P) (olds_to (faces_of ys) P) 0 j (olds_low (faces_of ys) P) (omega (arith, s.reached.next_is)) in
            omega (arith, sym (get_d_part w₂ olds (r - P) j l) ∙ ap (λ z. get_or z j 0) s.reached.old)

        only_work : Only2 0 (taken P n) olds (3 * n) w w₂
        only_work = record { long = s.only.long ∙ g.only.long; same = same }
          where
            same : (j : ℕ) → Out 0 (taken P n) j → Out olds (3 * n) j → get_or w₂ j 0 ≡ get_or w j 0
            same j (below l) b = absurd (omega arith)
            same j (above l) b = s.only.same j (above (omega arith)) b ∙ g.only.same j (above (omega (arith, long)))

        pub done : SplitGives xs n P w olds xs' w₂ (r - P)
        done =
            record {
              number = number;
              faces = faces;
              old = old;
              vertices = vertices;
              most = omega (arith, whole.most);
              inside = λ i l. omega (arith, least, whole.inside i l);
              only_faces = h.only;
              only_work = only_work;
            }
