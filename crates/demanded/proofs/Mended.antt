-- Demand 3 in the words of the repair's own contract: an accepted `repair` with options 63 leaves in its rooms lists for which it holds. Assumes nothing.
use Rattle.std.specs.Prelude.{Ok}
use mathlib.Core.Path.{◌≡◌, ap, subst, sym}
use mathlib.Core.List.{List, [], ◌∷◌}
use Prim.Native.Nat.{ℕ, ◌/◌}
use lib.ListN.{length, take}
use lib.Ieee.{Float}
use Rattle.rules.specs.Mesh.{points_of, faces_of, faces_with}
use Rattle.rules.specs.State.{State, report_counts}
use Rattle.rules.specs.Rooms.{accepted}
use Rattle.rules.specs.Calls.{EdgesRooms, LoopsRooms, repair, find_edges, find_loops}
use Rattle.rule_laws.proofs.Demand.{Demand3, Beside, Looped, EdgesEnough, LoopsEnough, SaysYes}
use Rattle.rule_laws.proofs.Called.{Called3, called3, left}
use Rattle.repair.specs.Answers.{rooms_of, outcome_of}

-- the mesh that stands in the rooms: a numbers of points, b numbers of faces with k origins, and the counts
abbrev pub standing : ℕ → ℕ → ℕ → List Float → List ℕ → List ℕ → List ℕ → State
standing a b k ps xs rs os = record { points = points_of (take a ps); faces = faces_with (take b xs) (take k os); report = take report_counts rs }

module _ (points : List Float) (faces : List ℕ) (s : Float) (ps : List Float) (xs rs os w : List ℕ) {ps' : List Float} {xs' rs' os' w' : List ℕ} {a b k : ℕ}
    (e : outcome_of (Ok (record { points = a; faces = b; origins = k })) ps' xs' rs' os' w' ≡ repair points faces s 63 (rooms_of ps xs rs os w)) where
  -- the rules' word on the call
  said : Called3 points faces s (rooms_of ps xs rs os w) (a ∷ b ∷ report_counts ∷ k ∷ [])
  said = called3 points faces s (rooms_of ps xs rs os w) (a ∷ b ∷ report_counts ∷ k ∷ []) (ap (λ o. o.answer) (sym e))

  -- what stands in the rooms is what the rules speak of
  standing_is : standing a b k ps' xs' rs' os' ≡ left points faces s (rooms_of ps xs rs os w) (a ∷ b ∷ report_counts ∷ k ∷ [])
  standing_is = ap (λ o. standing a b k o.rooms.out_points o.rooms.out_faces o.rooms.report o.rooms.origins) e

  -- demand 3 holds of it
  pub demanded : Demand3 (points_of points) (faces_of faces) (standing a b k ps' xs' rs' os')
  demanded = subst (Demand3 (points_of points) (faces_of faces)) (sym standing_is) said.holds

  -- its corners are points, and no face repeats one
  pub demanded_beside : Beside (standing a b k ps' xs' rs' os')
  demanded_beside = subst Beside (sym standing_is) said.beside

  -- given enough room, the rules' edge call accepts it
  pub demanded_edges :
      (q : EdgesRooms) → EdgesEnough (length (take a ps') / 3) (length (take b xs') / 3) q
      → (n : List ℕ) × ((find_edges (take a ps') (take b xs') q).answer ≡ accepted n)
  demanded_edges =
      subst (λ o. (q : EdgesRooms) → EdgesEnough (length (take a o.rooms.out_points) / 3) (length (take b o.rooms.out_faces) / 3) q
      → (n : List ℕ) × ((find_edges (take a o.rooms.out_points) (take b o.rooms.out_faces) q).answer ≡ accepted n)) (sym e) said.edge_call

  -- and so does their loop call
  pub demanded_loop_call :
      (q : LoopsRooms) → LoopsEnough (length (take a ps') / 3) (length (take b xs') / 3) q
      → (n : List ℕ) × ((find_loops (take a ps') (take b xs') q).answer ≡ accepted n)
  demanded_loop_call =
      subst (λ o. (q : LoopsRooms) → LoopsEnough (length (take a o.rooms.out_points) / 3) (length (take b o.rooms.out_faces) / 3) q
      → (n : List ℕ) × ((find_loops (take a o.rooms.out_points) (take b o.rooms.out_faces) q).answer ≡ accepted n)) (sym e) said.loop_call

  -- given enough work room, their edge check says yes to it
  pub demanded_yes : SaysYes (length (take a ps') / 3) (take b xs')
  demanded_yes = subst (λ o. SaysYes (length (take a o.rooms.out_points) / 3) (take b o.rooms.out_faces)) (sym e) said.check_call

  -- each boundary edge of it is in exactly one loop
  pub demanded_loops : Looped (length (take a ps') / 3) (faces_of (take b xs'))
  demanded_loops = subst (λ o. Looped (length (take a o.rooms.out_points) / 3) (faces_of (take b o.rooms.out_faces))) (sym e) said.edge_loops
