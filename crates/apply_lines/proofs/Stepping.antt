-- One line of those that are left, all of which apply: what it says of the bench, and how the bench stands in the rooms after it. Assumes nothing.
use mathlib.Core.Path.{◌≡◌, sym, ap, ◌∙◌, subst}
use mathlib.Core.Option.{some}
use mathlib.Core.List.{List, ◌∷◌}
use Prim.Native.Nat.{ℕ, ◌+◌, ◌*◌, ◌≤◌, ◌<◌}
use native.Mathlib.Omega.{arith}
use lib.Ieee.{Float, nan}
use lib.ListN.{length, set, drop}
use Rattle.rows.specs.Retain.{MoveAsks, MoveGives}
use Rattle.rows.proofs.Regions.{only_none, only_more, only_set}
use Rattle.rules.specs.Lists.{through}
use Rattle.rules.specs.Mesh.{exchanged}
use Rattle.rules.specs.Mending as list
use Rattle.rules.specs.Applying.{Bench, section, numbers, change, with_list_line, lines_read}
use Rattle.list_lines.specs.declared.Line.{Line}
use Rattle.list_lines.specs.declared.Line.TheVariants as read
use Rattle.list_lines.specs.declared.Reason as told
use Rattle.std.specs.Prelude.{Some}
use Rattle.list_lines.specs.Lines.{reason, faces_from_row, Says, SaysSplit, Reads}
use Rattle.list_runs.proofs.Stepping.{Stepped, step}
use Rattle.list_changes.specs.Changes.{FaceChanged, TakenOver, Stands}
use Rattle.list_changes.proofs.Standing.{Splits, drop_applies, exchange_applies, isolated_applies, split_applies, drop_stands, exchange_stands, split_stands, isolated_stands}
use Rattle.apply_lines.specs.Runs.{TakeAsks, Run, Within, LineAsks, LineGives}

module _ {text : List ℕ} {line : Line} {ps : List Float} {xs w : List ℕ} {F n : ℕ} (q : LineAsks text line ps xs w F n) where
  -- the bench before the line
  abbrev b : Bench
  b = q.run.bench

  -- the line that was read is one that applies
  next : (l : list.Line) (end : ℕ) → Says text q.at l end → Stepped q.P F b l (lines_read (drop (end + 1) text)) q.z
  next l end s = step q.P F b l (lines_read (drop (end + 1) text)) q.z (sym (ap (through (with_list_line q.P F) (some b)) s.lines) ∙ q.run.goes)

  -- nothing is changed
  untouched : Within q.P F ps xs w ps xs w
  untouched = record { only_points = only_none _ _ _; only_faces = only_none _ _ _; only_work = only_none _ _ _ }

  -- its change is made
  made :
      (l : list.Line) (end : ℕ) → Says text q.at l end → {ps' : List Float} {xs' w' : List ℕ} {n' : ℕ} → Stands q.P F (change b l (section l ∷ numbers l)) ps' n' xs' w'
      → Within q.P F ps xs w ps' xs' w' → LineGives q ps' xs' w' n' (end + 1)
  made l end s t i =
      record {
        on = omega (arith, s.begins);
        inside = omega (arith, s.ends);
        run = record { bench = change b l (section l ∷ numbers l); stands = t; goes = (next l end s).goes };
        within = i;
      }

  -- ---- `d`

  module _ {f : ℕ} {why : told.Reason} {end : ℕ} (e : line ≡ read.Dropped f why end) where
    dropped_says : Says text q.at (list.dropped_face f (reason why)) end
    dropped_says = subst (λ (l : Line). Reads text q.at (Some l)) e q.reads

    -- the face, the room of its flag, and where the line ends
    pub record DropFits : Type 0 where
      pub low : f < F
      pub fits : f < length w
      pub ends : end < length text

    pub drop_fits : DropFits
    drop_fits =
        let h = drop_applies q.run.stands f (reason why) (next (list.dropped_face f (reason why)) end dropped_says).applies in
        record { low = h; fits = omega (arith, q.run.stands.work_fit); ends = dropped_says.ends }

    -- it is flagged
    pub dropped : LineGives q ps xs (set w f 1) n (end + 1)
    dropped =
        let h = drop_fits.low in
        made (list.dropped_face f (reason why)) end dropped_says (drop_stands f (reason why) _ q.run.stands h)
        (record { only_points = only_none _ _ _; only_faces = only_none _ _ _; only_work = only_set w f 1 (omega arith) (omega arith) })

  -- ---- `o`

  module _ {f end : ℕ} (e : line ≡ read.Exchange f end) where
    exchange_says : Says text q.at (list.exchange f) end
    exchange_says = subst (λ (l : Line). Reads text q.at (Some l)) e q.reads

    -- the face, the room of its corners, and where the line ends
    pub record ExchangeFits : Type 0 where
      pub low : f < F
      pub fits : 3 * f + 3 ≤ length xs
      pub ends : end < length text

    pub exchange_fits : ExchangeFits
    exchange_fits =
        let h = exchange_applies q.run.stands f (next (list.exchange f) end exchange_says).applies in
        record { low = h; fits = omega (arith, q.run.stands.faces_fit); ends = exchange_says.ends }

    -- its corners are exchanged
    pub exchange : {xs' : List ℕ} → FaceChanged exchanged f xs xs' → LineGives q ps xs' w n (end + 1)
    exchange c =
        let h = exchange_fits.low in
        made (list.exchange f) end exchange_says (exchange_stands f _ q.run.stands h c)
        (record { only_points = only_none _ _ _; only_faces = only_more (omega arith) (omega arith) c.only; only_work = only_none _ _ _ })

  -- ---- `s`

  module _ {old new from end : ℕ} (e : line ≡ read.Split old new from end) where
    split_says : SaysSplit text q.at old new from end
    split_says = subst (λ (l : Line). Reads text q.at (Some l)) e q.reads

    splits : Splits q.P F b n old new (faces_from_row text from end)
    splits = split_applies q.run.stands old new (faces_from_row text from end) (next (list.split_point old new (faces_from_row text from end)) end split_says.says).applies

    -- how many points there are, and where the line ends
    pub record SplitFits : Type 0 where
      pub low : old < n
      pub more : n < q.P + 3 * F
      pub fits : 3 * (q.P + 3 * F) ≤ length ps
      pub ends : end < length text

    pub split_fits : SplitFits
    split_fits =
        let s = q.run.stands in
        record { low = omega (arith, s.splits, splits.old_low); more = omega (arith, s.splits, splits.more); fits = s.points_fit; ends = split_says.says.ends }

    -- the copy has room
    pub move_asks : MoveAsks ps old n
    move_asks = let z = split_fits in record { from_fit = omega (arith, z); to_fit = omega (arith, z) }

    -- the faces may take it
    pub take_asks : TakeAsks text from end xs F old new
    take_asks = record { faces = split_says.faces; low = splits.faces_low; fit = q.run.stands.faces_fit; other = omega (arith, splits.next, split_fits.low) }

    -- the copy stands behind the points, and the faces have it
    pub split : {ps' : List Float} {xs' : List ℕ} → MoveGives nan ps old n ps' → TakenOver (faces_from_row text from end) old new F xs xs' → LineGives q ps' xs' w (n + 1) (end + 1)
    split g t =
        let z = split_fits in
        made (list.split_point old new (faces_from_row text from end)) end split_says.says (split_stands _ q.run.stands splits g t)
        (record { only_points = only_more (omega arith) (omega (arith, z)) g.only; only_faces = t.only; only_work = only_none _ _ _ })

  -- ---- `u`

  module _ {v end : ℕ} (e : line ≡ read.Isolated v end) where
    isolated_says : Says text q.at (list.isolated_point v) end
    isolated_says = subst (λ (l : Line). Reads text q.at (Some l)) e q.reads

    -- the point, the room of its flag, and where the line ends
    pub record IsolatedFits : Type 0 where
      pub low : v < n
      pub most : n ≤ q.P + 3 * F
      pub fits : F + 2 * (q.P + 3 * F) ≤ length w
      pub ends : end < length text

    pub isolated_fits : IsolatedFits
    isolated_fits =
        let s = q.run.stands in
        record { low = isolated_applies s v (next (list.isolated_point v) end isolated_says).applies; most = s.most; fits = s.work_fit; ends = isolated_says.ends }

    -- it is flagged
    pub isolated : LineGives q ps xs (set w (F + v) 1) n (end + 1)
    isolated =
        let z = isolated_fits in
        made (list.isolated_point v) end isolated_says (isolated_stands v _ q.run.stands z.low)
        (record { only_points = only_none _ _ _; only_faces = only_none _ _ _; only_work = only_set w (F + v) 1 (omega arith) (omega (arith, z)) })
