-- What stands in the rooms before a pass: origins by place, what the functions may read and add to, and the faces with their origins. Assumes nothing.
use mathlib.Core.Path.{◌≡◌, sym, ap, ◌∙◌}
use mathlib.Core.List.{List}
use Prim.Native.Nat.{ℕ, ◌+◌, ◌*◌, ◌≤◌, ◌<◌}
use native.Mathlib.Omega.{arith}
use lib.ListN.{length, get_or, take}
use lib.Seq.{get_or-take, length-take-le}
use Rattle.rows.specs.Region.{Only, Out.above}
use Rattle.leaving.specs.Pass.{standing, carried, FacesStand, PassAsks}
use Rattle.leaving.proofs.Standing.{standing_face, stands_alike, carried_origins}
use Rattle.rules.specs.Mesh.{Face, face}
use Rattle.rule_laws.proofs.Flat.{length_faces_take}
use Rattle.rule_laws.proofs.Lists.{get_or_map_in}
use Rattle.rule_laws.proofs.Relabel.{Alike}
use Rattle.rule_laws.proofs.Rising.{all_at, all_imp, up_at}
use Rattle.fates.specs.Adding.{AddAsks}
use Rattle.fates.specs.Fating.{Rooms, rooms, points_in, faces_in, fate_in, scratch, Stands}

module _ {most : ℕ} {r : Rooms} (a : Stands most r) where
  -- n origins
  front : length (take r.n r.origins) ≡ r.n
  front = length-take-le r.n r.origins a.own

  -- they rise
  pub origin_up : (i j : ℕ) → i < j → j < r.n → get_or r.origins i 0 < get_or r.origins j 0
  origin_up i j l h =
      omega (arith, up_at 0 (take r.n r.origins) i j a.up l (omega (arith, front)), get_or-take r.n r.origins i 0 (omega arith), get_or-take r.n r.origins j 0 h)

  -- and are input faces
  pub origin_low : (i : ℕ) → i < r.n → get_or r.origins i 0 < faces_in r
  origin_low i h = omega (arith, all_at (λ o. o < faces_in r) (take r.n r.origins) 0 i a.low (omega (arith, front)), get_or-take r.n r.origins i 0 h)

  -- without a fate
  pub origin_untold : (i : ℕ) → i < r.n → fate_in r (get_or r.origins i 0) ≡ 0
  origin_untold i h =
      ap (fate_in r) (sym (get_or-take r.n r.origins i 0 h)) ∙ all_at (λ o. fate_in r o ≡ 0) (take r.n r.origins) 0 i a.untold (omega (arith, front))

  -- small fates may be added to
  pub add_asks : most ≤ 13 → AddAsks r.origins r.n r.work r.fates
  add_asks h = record { few = a.few; own = a.own; low = origin_low; room = a.room; small = λ f l. omega (arith, a.least f l) }

  -- a pass may read the faces
  pub reads : (t : ℕ) → t ≤ scratch r → FacesStand t (points_in r) r.faces r.n r.work
  reads t h =
      record {
        points = a.points;
        few = omega (arith, a.few, a.own);
        fit = a.fit;
        inside = a.inside;
        room = omega (arith, a.behind, a.room);
      }

  -- and the points
  pub asks : (t : ℕ) → t ≤ scratch r → PassAsks t r.points r.faces r.n r.work
  asks t h = record { whole = a.whole; stand = reads t h }

  -- what a pass takes of the work room has no fate in it
  module _ {t : ℕ} {w : List ℕ} (h : t ≤ scratch r) (o : Only 0 t r.work w) where
    pub fate_kept : (f : ℕ) → get_or w (r.fates + f) 0 ≡ fate_in r f
    fate_kept f = o.same (r.fates + f) (above (omega (arith, a.behind)))

    -- so all still stands
    pub scratched : Stands most (rooms r.points r.faces r.origins r.n w r.fates)
    scratched =
        record {
          whole = a.whole;
          points = a.points;
          few = a.few;
          own = a.own;
          fit = a.fit;
          inside = a.inside;
          up = a.up;
          low = a.low;
          behind = a.behind;
          room = omega (arith, a.room, o.long);
          untold = all_imp (λ x. fate_in r x ≡ 0) (λ x. get_or w (r.fates + x) 0 ≡ 0) (λ x e. fate_kept x ∙ e) (take r.n r.origins) a.untold;
          least = λ f l. omega (arith, fate_kept f, a.least f l);
        }

  -- ---- the faces with their origins

  -- but for these they are the faces that stand
  pub alike : Alike (standing r.faces r.n) (carried r.faces r.origins r.n)
  alike = stands_alike r.faces r.origins r.n a.fit a.own

  -- there are n
  pub carried_many : length (carried r.faces r.origins r.n) ≡ r.n
  carried_many = sym alike.long ∙ length_faces_take r.faces r.n a.fit

  -- the origin of face i
  pub carried_origin : (i : ℕ) → i < r.n → (face (carried r.faces r.origins r.n) i).origin ≡ get_or r.origins i 0
  unfolding face
  carried_origin i h =
      sym (get_or_map_in (λ f. f.origin) (carried r.faces r.origins r.n) i (record { a = 0; b = 0; c = 0; origin = 0 }) 0 (omega (arith, carried_many)))
      ∙ ap (λ (l : List ℕ). get_or l i 0) (carried_origins r.faces r.origins r.n a.fit a.own) ∙ get_or-take r.n r.origins i 0 h

  -- its corner 1
  pub carried_b : (i : ℕ) → i < r.n → (face (carried r.faces r.origins r.n) i).b ≡ get_or r.faces (3 * i + 1) 0
  carried_b i h = sym (alike.at_b i) ∙ ap (λ (f : Face). f.b) (standing_face r.faces r.n a.fit i h)
