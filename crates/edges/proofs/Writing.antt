-- The rooms of an accepted edge call, one after the other, and the cleared work room. Assumes nothing.
use mathlib.Core.Path.{◌≡◌, ap, ◌∙◌}
use mathlib.Core.List.{List}
use Prim.Native.Nat.{ℕ, ◌+◌, ◌*◌, ◌/◌, ◌≤◌}
use native.Mathlib.Omega.{arith}
use lib.ListN.{length}
use lib.Ieee.{Float}
use Rattle.rows.specs.Region.{Only, Filled}
use Rattle.rules.specs.Lists.{each}
use Rattle.rules.specs.Mesh.{faces_of, points_of, zero64}
use Rattle.rules.specs.Steps.{edges}
use Rattle.rules.specs.Rooms.{work_room, filled, cleared}
use Rattle.rules.specs.Edges as rule
use Rattle.rules.specs.Edges.{both_ends}
use Rattle.rules.specs.EdgesCall.{EdgesRooms}
use Rattle.table.proofs.Theorems.{edge_count}
use Rattle.filling.proofs.Filling.{cleared_is}
use Rattle.listing.specs.Listing as listing
use Rattle.listing.specs.Listing.{EdgesAsks, ListLengthsAsks, ListLengthsGives, FaceEdgesAsks, FaceEdgesGives}
use Rattle.listing.proofs.Ends.{fewer}
use Rattle.edges.specs.Answers.{rooms_of}
use Rattle.edges.specs.Steps.{ListAsks, after}

module _ {ps : List Float} {xs : List ℕ} {m : ℕ} {r : EdgesRooms} (a : ListAsks ps xs m r) where
  -- P
  abbrev P : ℕ
  P = length ps / 3

  -- sizes, and the stated work room
  pub record Sizes (points faces work : ℕ) : Type 0 where
    pub whole : 3 * (faces / 3) ≡ faces
    pub few_points : points ≤ 4194304
    pub few_faces : faces ≤ 3145728
    pub stated : 16 * points + 64 * (faces / 3) + 64 ≤ work

  -- they are so
  pub sizes : Sizes P (length xs) (length r.work)
  unfolding work_room
  sizes =
      let f = a.accepted.input.faces_fine in
      record { whole = omega (arith, f.whole); few_points = f.points; few_faces = omega (arith, f.few, f.whole); stated = a.accepted.room_work }

  -- ---- what each step asks

  -- the edges
  abbrev pub edges-asks : EdgesAsks r.work xs 0 m r.edges
  edges-asks = record { P = P; tabled = a.stands.tabled; room = omega (arith, a.accepted.room_edges, sizes) }

  -- there are no more of them than entries
  pub few_edges : m ≤ length xs
  few_edges = fewer edges-asks

  -- the lengths, from the room of the edges
  pub lengths_asks : {e' : List ℕ} → ((q : EdgesAsks r.work xs 0 m r.edges) → listing.ListGives q e') → ListLengthsAsks ps xs e' m r.lengths
  lengths_asks g =
      let y = g edges-asks in
      record {
        pairs = omega (arith, few_edges, a.accepted.room_edges, sizes, y.long);
        fewer = few_edges;
        room = omega (arith, a.accepted.room_lengths, sizes);
        listed = y.front;
        count = edge_count a.stands.tabled;
      }

  -- the edges of the faces
  abbrev pub face-edges-asks : FaceEdgesAsks r.work xs 0 r.face_edges
  face-edges-asks = record { P = P; m = m; tabled = a.stands.tabled; room = omega (arith, a.accepted.room_face_edges, sizes) }

  -- ---- the rooms

  -- the stated work room can be cleared
  pub clear_fits : 0 + (16 * P + 64 * (length xs / 3) + 64) ≤ length r.work
  clear_fits = omega (arith, sizes)

  -- and then every room is the rules'
  pub all_done :
      {e' : List ℕ} {l' : List Float} {s' w' : List ℕ} → ((q : EdgesAsks r.work xs 0 m r.edges) → listing.ListGives q e') → ListLengthsGives ps xs r.lengths l'
      → ((q : FaceEdgesAsks r.work xs 0 r.face_edges) → FaceEdgesGives q s')
      → Only 0 (16 * P + 64 * (length xs / 3) + 64) r.work w' → Filled 0 (16 * P + 64 * (length xs / 3) + 64) 0 w' → rooms_of e' l' s' w' ≡ after ps xs r
  unfolding work_room
  all_done {e'} {l'} {s'} {w'} ge gl gs o z =
      let s = sizes in
      let two : 2 * length xs ≡ 6 * (length xs / 3) = omega (arith, s) in
      let one : length xs ≡ 3 * (length xs / 3) = omega (arith, s) in
      let pe : e' ≡ filled 0 (6 * (length xs / 3)) (each both_ends (edges P (faces_of xs))) r.edges = (ge edges-asks).whole ∙ ap (λ k. filled 0 k (each both_ends (edges P (faces_of xs))) r.edges) two in
      let pl : l' ≡ filled zero64 (3 * (length xs / 3)) (rule.lengths (points_of ps) (faces_of xs)) r.lengths = gl.whole ∙ ap (λ k. filled zero64 k (rule.lengths (points_of ps) (faces_of xs)) r.lengths) one in
      let ps' : s' ≡ filled 0 (3 * (length xs / 3)) (rule.face_edges P (faces_of xs)) r.face_edges = (gs face-edges-asks).whole ∙ ap (λ k. filled 0 k (rule.face_edges P (faces_of xs)) r.face_edges) one in
      let pw : w' ≡ cleared (16 * P + 64 * (length xs / 3) + 64) r.work = cleared_is s.stated o z in
      λ i. rooms_of (pe i) (pl i) (ps' i) (pw i)
