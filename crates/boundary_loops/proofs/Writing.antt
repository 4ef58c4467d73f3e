-- The rooms of an accepted loop call, and the cleared work room. Assumes nothing.
use mathlib.Core.Path.{◌≡◌, refl, ap, ◌∙◌}
use mathlib.Core.List.{List}
use Prim.Native.Nat.{ℕ, ◌+◌, ◌*◌, ◌/◌, ◌≤◌}
use native.Mathlib.Omega.{arith}
use lib.ListN.{length}
use Rattle.rows.specs.Region.{Apart.before, Only, Filled}
use Rattle.rows.proofs.Regions.{only_both}
use Rattle.rules.specs.Mesh.{faces_of}
use Rattle.rules.specs.Rooms.{work_room, filled, cleared}
use Rattle.rules.specs.Edges as rule
use Rattle.rules.specs.LoopsCall.{LoopsRooms}
use Rattle.table.proofs.Frames.{only2_wide}
use Rattle.filling.proofs.Filling.{cleared_is}
use Rattle.boundary.specs.Rows.{onward}
use Rattle.loops.specs.Loops.{LoopsAsks, LoopsGives}
use Rattle.boundary_loops.specs.Answers.{rooms_of}
use Rattle.boundary_loops.specs.Steps.{ListAsks, ListGives}

module _ {P : ℕ} {xs : List ℕ} {r : LoopsRooms} (a : ListAsks P xs r) where
  -- sizes, and the stated work room
  pub record Sizes (faces work : ℕ) : Type 0 where
    pub whole : 3 * (faces / 3) ≡ faces
    pub few_points : P ≤ 4194304
    pub few_faces : faces ≤ 3145728
    pub stated : 16 * P + 64 * (faces / 3) + 64 ≤ work

  -- they are so
  pub sizes : Sizes (length xs) (length r.work)
  unfolding work_room
  sizes =
      let f = a.faces in
      record { whole = omega (arith, f.whole); few_points = f.points; few_faces = omega (arith, f.few, f.whole); stated = a.room_work }

  -- what the loops ask
  pub loops_asks : LoopsAsks r.work xs P (5 * length xs + 1 + 3 * P) (5 * length xs + 1 + 3 * P + P) r.loop_vertices r.loop_ends
  unfolding onward
  loops_asks =
      let f = a.faces in
      let s = sizes in
      record {
        whole = f.whole;
        inside = f.below;
        simple = a.simple;
        few = omega (arith, s);
        short = omega (arith, s);
        next_fit = omega (arith, s);
        spare_fit = omega (arith, s);
        apart = before (omega arith);
        row = a.stands.next refl;
        room_vertices = omega (arith, a.room_loop_vertices, s);
        room_ends = omega (arith, a.room_loop_ends, s);
      }

  module _ {w' v' n' : List ℕ} {total count : ℕ}
      (go : LoopsGives r.work xs P (5 * length xs + 1 + 3 * P) (5 * length xs + 1 + 3 * P + P) r.loop_vertices r.loop_ends w' v' n' total count) where
    -- the walks stay in the stated work room
    walks_only : Only 0 (16 * P + 64 * (length xs / 3) + 64) r.work w'
    walks_only = let s = sizes in only2_wide 0 (16 * P + 64 * (length xs / 3) + 64) (omega arith) (omega (arith, s)) (omega arith) (omega (arith, s)) go.only

    -- which can be cleared
    pub clear_fits : 0 + (16 * P + 64 * (length xs / 3) + 64) ≤ length w'
    clear_fits = omega (arith, sizes, walks_only.long)

    -- and then every room is the rules'
    pub all_done :
        {w'' : List ℕ} → Only 0 (16 * P + 64 * (length xs / 3) + 64) w' w'' → Filled 0 (16 * P + 64 * (length xs / 3) + 64) 0 w''
        → ListGives P xs r (rooms_of v' n' w'') total count
    unfolding work_room
    all_done {w''} o z =
        let s = sizes in
        let one : length xs ≡ 3 * (length xs / 3) = omega (arith, s) in
        let pv : v' ≡ filled 0 (3 * (length xs / 3)) (rule.loop_vertices P (faces_of xs)) r.loop_vertices = go.vertices ∙ ap (λ k. filled 0 k (rule.loop_vertices P (faces_of xs)) r.loop_vertices) one in
        let pn : n' ≡ filled 0 (3 * (length xs / 3)) (rule.loop_ends P (faces_of xs)) r.loop_ends = go.ends ∙ ap (λ k. filled 0 k (rule.loop_ends P (faces_of xs)) r.loop_ends) one in
        let pw : w'' ≡ cleared (16 * P + 64 * (length xs / 3) + 64) r.work = cleared_is s.stated (only_both walks_only o) z in
        record { vertices_is = go.total_is; ends_is = go.count_is; rooms = λ i. rooms_of (pv i) (pn i) (pw i) }
