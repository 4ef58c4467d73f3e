-- What an accepted `repair_panel` leaves in its rooms: cut by the meshes room alone, each mesh is what `repair` of it leaves in any rooms that are long enough;
-- its number is 0, 2, 4 or 5; with options 63 demand 3 holds of each accepted mesh. Assumes nothing.
use Rattle.std.specs.Prelude.{Result, Ok, Err}
use Rattle.refuse.specs.declared.Refusal.{Refusal}
use mathlib.Core.Path.{◌≡◌, sym, ap, subst, ◌∙◌}
use mathlib.Core.List.{List, [], ◌∷◌}
use Prim.Native.Nat.{ℕ, ◌*◌, ◌<◌}
use lib.Ieee.{Float}
use lib.ListN.{length, get_or}
use Rattle.rules.specs.Refusal.{ok}
use Rattle.rules.specs.Rooms.{accepted, Outcome}
use Rattle.rules.specs.RepairCall.{RepairRooms, repair}
use Rattle.rules.specs.PanelCall.{PanelRooms, panel_check, repair_panel}
use Rattle.rule_laws.proofs.Called.{outcome_ok}
use Rattle.repair.specs.declared.Repaired.{Repaired}
use Rattle.repair.specs.Answers as mended
use Rattle.repair_panel.specs.Answers.{rooms_of, outcome_of}
use Rattle.panel_laws.specs.Cutting.{mesh_part, points_part, faces_part, counts_part, origins_part}
use Rattle.panel_laws.proofs.Alone.{LongEnough}
use Rattle.panel_laws.proofs.Telling.{Own}
use Rattle.panel_laws.proofs.Packs.{ItsCall}
use Rattle.panel_laws.proofs.Mesh3.{Mesh3}
use Rattle.panel_laws.proofs.Panels.{each_its_call, number_own, panel_demand3}
use Rattle.panel_laws.proofs.OneMesh.{repair_part, one_mesh}

-- an accepted call is one whose check finds nothing
pub accepted_check :
    (points : List Float) (faces pc fc : List ℕ) (s : Float) (o : ℕ) (r : PanelRooms) (n : List ℕ) → (repair_panel points faces pc fc s o r).answer ≡ accepted n
    → panel_check points faces pc fc s o r ≡ ok
unfolding repair_panel
accepted_check points faces pc fc s o r n e = (outcome_ok (panel_check points faces pc fc s o r) r _ _ n e).0

module _ (points : List Float) (faces pc fc : List ℕ) (s : Float) (o : ℕ) (ps : List Float) (xs rs os ms w : List ℕ)
    {ps' : List Float} {xs' rs' os' ms' w' : List ℕ} {a b c d m : ℕ}
    (e : outcome_of (Ok (record { points = a; faces = b; counts = c; origins = d; meshes = m })) ps' xs' rs' os' ms' w' ≡ repair_panel points faces pc fc s o (rooms_of ps xs rs os ms w)) where
  -- the rooms after it
  abbrev left : PanelRooms
  left = rooms_of ps' xs' rs' os' ms' w'

  -- its check found nothing
  fine : panel_check points faces pc fc s o (rooms_of ps xs rs os ms w) ≡ ok
  fine = accepted_check points faces pc fc s o (rooms_of ps xs rs os ms w) _ (sym (ap (λ q. q.answer) e))

  module _ (k : ℕ) (h : k < length pc) where
    -- the number of a mesh is 0, 2, 4 or 5
    pub number_left : Own (get_or ms' (4 * k) 0)
    number_left =
        subst (λ q. Own (get_or q.rooms.meshes (4 * k) 0)) (sym e) (number_own points faces pc fc s o (rooms_of ps xs rs os ms w) fine k h)

    -- a `repair` of mesh k, in rooms that are long enough, left what is its part here
    pub mesh_left :
        (qs : List Float) (ys ts us v : List ℕ) → LongEnough (get_or pc k 0) (get_or fc k 0) (mended.rooms_of qs ys ts us v)
        → (r : Result Repaired Refusal) {qs' : List Float} {ys' ts' us' v' : List ℕ}
        → mended.outcome_of r qs' ys' ts' us' v' ≡ repair (mesh_part pc points k) (mesh_part fc faces k) s o (mended.rooms_of qs ys ts us v)
        → ItsCall left k (mended.outcome_of r qs' ys' ts' us' v')
    mesh_left qs ys ts us v l r {qs'} {ys'} {ts'} {us'} {v'} g =
        subst (λ q. ItsCall q.rooms k (mended.outcome_of r qs' ys' ts' us' v')) (sym e)
        (subst (λ q. ItsCall (repair_panel points faces pc fc s o (rooms_of ps xs rs os ms w)).rooms k q) (sym g)
        (each_its_call points faces pc fc s o (rooms_of ps xs rs os ms w) fine k h (mended.rooms_of qs ys ts us v) l))

-- with options 63
module _ (points : List Float) (faces pc fc : List ℕ) (s : Float) (ps : List Float) (xs rs os ms w : List ℕ)
    {ps' : List Float} {xs' rs' os' ms' w' : List ℕ} {a b c d m : ℕ}
    (e : outcome_of (Ok (record { points = a; faces = b; counts = c; origins = d; meshes = m })) ps' xs' rs' os' ms' w' ≡ repair_panel points faces pc fc s 63 (rooms_of ps xs rs os ms w)) where
  -- demand 3 holds of each accepted mesh, as it stands in the rooms
  pub mesh_demanded :
      (k : ℕ) → k < length pc → get_or ms' (4 * k) 0 ≡ 0
      → (let left = rooms_of ps' xs' rs' os' ms' w' in
      Mesh3 (mesh_part pc points k) (mesh_part fc faces k) (points_part left k) (faces_part left k) (origins_part left k) (counts_part left k))
  mesh_demanded =
      subst
      (λ (q : Outcome PanelRooms). (k : ℕ) → k < length pc → get_or q.rooms.meshes (4 * k) 0 ≡ 0
      → Mesh3 (mesh_part pc points k) (mesh_part fc faces k) (points_part q.rooms k) (faces_part q.rooms k) (origins_part q.rooms k) (counts_part q.rooms k)) (sym e)
      (panel_demand3 points faces pc fc s (rooms_of ps xs rs os ms w)
      (accepted_check points faces pc fc s 63 (rooms_of ps xs rs os ms w) _ (sym (ap (λ q. q.answer) e))))

-- one mesh: the call leaves in its rooms what `repair` leaves in the same ones
pub one_mesh_left :
    (points : List Float) (faces : List ℕ) (P F : ℕ) (s : Float) (o : ℕ) (ps : List Float) (xs rs os ms w : List ℕ)
    {ps₁ : List Float} {xs₁ rs₁ os₁ ms₁ w₁ : List ℕ} {a b c d m : ℕ} {ps₂ : List Float} {xs₂ rs₂ os₂ w₂ : List ℕ} {i j n : ℕ}
    → outcome_of (Ok (record { points = a; faces = b; counts = c; origins = d; meshes = m })) ps₁ xs₁ rs₁ os₁ ms₁ w₁ ≡ repair_panel points faces (P ∷ []) (F ∷ []) s o (rooms_of ps xs rs os ms w)
    → mended.outcome_of (Ok (record { points = i; faces = j; origins = n })) ps₂ xs₂ rs₂ os₂ w₂ ≡ repair points faces s o (mended.rooms_of ps xs rs os w)
    → mended.rooms_of ps₁ xs₁ rs₁ os₁ w₁ ≡ mended.rooms_of ps₂ xs₂ rs₂ os₂ w₂
one_mesh_left points faces P F s o ps xs rs os ms w e g =
    ap (λ q. repair_part q.rooms) e
    ∙ one_mesh points faces P F s o (rooms_of ps xs rs os ms w)
    (accepted_check points faces (P ∷ []) (F ∷ []) s o (rooms_of ps xs rs os ms w) _ (sym (ap (λ q. q.answer) e))) _ (sym (ap (λ q. q.answer) g))
    ∙ sym (ap (λ q. q.rooms) g)
