-- What a table of directed edges and the groups of the corners say of the answer. Assumes nothing.
use mathlib.Core.Path.{◌≡◌, sym, ap, ◌∙◌}
use mathlib.Core.Bool.{Bool, true, false, not}
use mathlib.Core.List.{List}
use Prim.Native.Nat.{ℕ, ◌+◌, ◌*◌, ◌/◌, ◌≤◌, ◌<◌}
use native.Mathlib.Omega.{arith}
use lib.ListN.{length}
use borrow.Author.Tests.{eq-eqb, ne_eqb}
use Rattle.rows.specs.Region.{Only, Filled, Apart.before}
use Rattle.rows.proofs.Regions.{only_none, only_more, only_both, holds_kept}
use Rattle.rules.specs.Lists.{all}
use Rattle.rules.specs.Mesh.{faces_of, face}
use Rattle.rules.specs.Float.{repeats}
use Rattle.rules.specs.Steps.{directed}
use Rattle.rules.specs.Edges.{sound}
use Rattle.rules.specs.Rooms.{work_room}
use Rattle.rule_laws.proofs.Rising.{all_from}
use Rattle.rule_laws.proofs.Flat.{face_in, length_faces}
use Rattle.rule_laws.proofs.Once.{CornersBelow, Inside}
use Rattle.refuse.specs.Accepted.{Faces}
use Rattle.edge_check_refusal.specs.Checks.{CheckAccepted}
use Rattle.table.specs.Table.{TableAsks, TableGives}
use Rattle.table.proofs.Ids.{three_faces, directed_keys}
use Rattle.corner_groups.specs.Sides.{CornersAsks, CornersGives}
use Rattle.edge_check.specs.Answers.{MetAsks, MetGives, GroupGives, SoundGives}
use Rattle.edge_check.proofs.Directed.{sound_is}

-- the corners of accepted faces are points
inside : {P : ℕ} {xs : List ℕ} → Faces P xs → Inside P (faces_of xs)
unfolding face
inside {P} {xs} a =
    all_from (CornersBelow P) (record { a = 0; b = 0; c = 0; origin = 0 }) (faces_of xs)
    (λ i l.
    let h : i < length xs / 3 = omega (arith, length_faces xs) in
    rw (face_in xs i h) (a.below (3 * i) (omega arith), a.below (3 * i + 1) (omega arith), a.below (3 * i + 2) (omega arith)))

module _ {P : ℕ} {xs w : List ℕ} (a : CheckAccepted P xs (length w)) where
  -- the table's 15F + 1 + P entries are within the stated work room
  pub table_asks : TableAsks w xs P 0
  unfolding work_room
  table_asks =
      let f = a.input in
      record { whole = f.whole; few = omega (arith, f.few); fit = omega (arith, f.whole, a.room_work); inside = f.below }

  -- no table is needed where a face repeats a corner
  pub not_distinct : false ≡ all (λ f. not (repeats f)) (faces_of xs) → SoundGives P xs w w false
  unfolding sound
  not_distinct e = record { only = only_none 0 (work_room P (length xs / 3)) w; says = rw (← e) }

  -- else the number of runs says no, or lets the groups decide
  module _ (e : true ≡ all (λ f. not (repeats f)) (faces_of xs)) {w' : List ℕ} {m : ℕ} (g : TableGives w xs P true 0 w' m) where
    -- as many runs as directed edges
    counted : m ≡ length (directed P (faces_of xs))
    counted = g.tabled.count ∙ ap length (directed_keys P (faces_of xs))

    -- the table lies in the work room
    tabled : Only 0 (work_room P (length xs / 3)) w w'
    unfolding work_room
    tabled = only_more (omega arith) (omega (arith, a.input.whole)) g.only

    -- there are fewer runs than steps
    pub not_once : (m ≡ length xs → ⊥) → SoundGives P xs w w' false
    not_once ne =
        let n : length xs ≡ 3 * length (faces_of xs) = sym (three_faces xs a.input.whole) in
        record {
          only = tabled;
          says = rw (sound_is P (faces_of xs) (inside a.input), ← e, ← counted, ← n, ne_eqb m (length xs) ne);
        }

    -- as many runs as steps: the groups decide
    pub by_groups : m ≡ length xs → {w'' : List ℕ} {r : Bool} → GroupGives P xs w' w'' r → SoundGives P xs w w'' r
    by_groups q h =
        let n : length xs ≡ 3 * length (faces_of xs) = sym (three_faces xs a.input.whole) in
        record {
          only = only_both tabled h.only;
          says = rw (sound_is P (faces_of xs) (inside a.input), ← e, ← counted, ← n, eq-eqb m (length xs) q) h.says;
        }

-- ---- the groups

module _ {P : ℕ} {xs w : List ℕ} (a : CheckAccepted P xs (length w)) where
  -- the 10n + 2 + P entries of the corners' groups are within the stated work room
  pub corners_ask : CornersAsks w xs P 0
  unfolding work_room
  corners_ask =
      let f = a.input in
      record { whole = f.whole; few = omega (arith, f.few, f.whole); fit = omega (arith, f.whole, a.room_work); inside = f.below }

  module _ {w' : List ℕ} (g : CornersGives w xs P 0 w') where
    -- and so are the P marks behind them
    pub marks_fit : 10 * length xs + 2 + P + P ≤ length w'
    unfolding work_room
    marks_fit = omega (arith, a.input.whole, a.room_work, g.only.long)

    module _ {w'' : List ℕ} (o : Only (10 * length xs + 2 + P) P w' w'') (z : Filled (10 * length xs + 2 + P) P 0 w'') where
      -- what the scan may start from
      pub met_asks : MetAsks P xs w''
      met_asks =
          let f = a.input in
          let q : 0 + 9 * length xs + 2 + P ≡ 9 * length xs + 2 + P = omega arith in
          record {
            whole = f.whole;
            few = omega (arith, f.few, f.whole);
            fit = omega (arith, marks_fit, o.long);
            inside = f.below;
            led = holds_kept o (before (omega arith)) (rw q at g.led);
            unmet = z;
          }

      -- the answer of the scan
      pub met_gives : {w''' : List ℕ} {r : Bool} → MetGives P xs w'' w''' r → GroupGives P xs w w''' r
      unfolding work_room
      met_gives h =
          record {
            only = only_both (only_more (omega arith) (omega (arith, a.input.whole)) g.only) (only_both (only_more (omega arith) (omega (arith, a.input.whole)) o) (only_more (omega arith) (omega (arith, a.input.whole)) h.only));
            says = h.says;
          }
