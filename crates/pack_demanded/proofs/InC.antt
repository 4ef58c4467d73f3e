-- What C gets from `shell_repair_panel`, where its number is 0: cut by the meshes room alone, each mesh is what `shell_repair` of it gives in any rooms that are
-- long enough, entry by entry; its number is 0, 2, 4 or 5; with options 63 demand 3 holds of each accepted mesh. Assumes nothing.
use mathlib.Core.Path.{◌≡◌, refl, sym, ap, subst, ◌∙◌}
use mathlib.Core.List.{List, [], ◌∷◌}
use Prim.Native.Nat.{ℕ, suc, ◌*◌, ◌/◌, ◌<◌}
use lib.Ieee.{Float}
use lib.ListN.{length, get_or, take, replicate}
use Rattle.rules.specs.Refusal.{ok}
use Rattle.rules.specs.Rooms.{Answer, accepted, refused, Outcome}
use Rattle.rules.specs.RepairCall.{RepairRooms, repair}
use Rattle.rules.specs.PanelCall.{shared, its_points, its_faces, its_counts, its_origins, four, PanelRooms, panel_check, repair_panel}
use Rattle.shell.specs.Told.{Given, told}
use Rattle.shell.specs.declared.ShellRepaired.{ShellRepaired}
use Rattle.shell.specs.declared.ShellPanel.{ShellPanel}
use Rattle.one_answer.proofs.Numbered.{panel_numbered}
use Rattle.demanded_in_c.proofs.Zero.{zero_accepted}
use Rattle.panel_laws.specs.Cutting.{mesh_part, four_at, points_part, faces_part, counts_part, origins_part}
use Rattle.panel_laws.proofs.Alone.{LongEnough}
use Rattle.panel_laws.proofs.Telling.{Own}
use Rattle.panel_laws.proofs.Packs.{ItsCall}
use Rattle.panel_laws.proofs.Mesh3.{Mesh3}
use Rattle.panel_laws.proofs.Panels.{each_its_call, number_own, panel_demand3}
use Rattle.pack_demanded.proofs.Leaving.{accepted_check}

-- what `shell_repair_panel` ensures, of its rooms before and after and of what it gives back
abbrev pub PanelAs : List Float → List ℕ → List ℕ → List ℕ → Float → ℕ → PanelRooms → PanelRooms → ShellPanel → Type 0
PanelAs points faces pc fc s o before after r =
    Given r.number r.place (r.points ∷ r.faces ∷ r.counts ∷ r.origins ∷ r.meshes ∷ []) after (repair_panel points faces pc fc s o before)

-- what `shell_repair` ensures
abbrev pub RepairAs : List Float → List ℕ → Float → ℕ → RepairRooms → RepairRooms → ShellRepaired → Type 0
RepairAs points faces s o before after r =
    Given r.number r.place (r.points ∷ r.faces ∷ r.counts ∷ r.origins ∷ []) after (repair points faces s o before)

-- mesh k of the pack is what `shell_repair` told and left
pub record SameMesh (rooms : PanelRooms) (k : ℕ) (after : RepairRooms) (r : ShellRepaired) : Type 0 where
  pub in_meshes : four_at rooms.meshes k ≡ r.number ∷ r.place ∷ r.points / 3 ∷ r.faces / 3 ∷ []
  pub in_points : points_part rooms k ≡ take r.points after.out_points
  pub in_faces : faces_part rooms k ≡ take r.faces after.out_faces
  pub in_counts : counts_part rooms k ≡ take r.counts after.report
  pub in_origins : origins_part rooms k ≡ take r.origins after.origins

-- ---- from the rules' words to C's

-- the four entries of an answer, from what is told
told_four : (a : Answer) (n p i j k l : ℕ) → n ∷ p ∷ i ∷ j ∷ k ∷ l ∷ [] ≡ told 4 a → four a ≡ n ∷ p ∷ i / 3 ∷ j / 3 ∷ []
unfolding four
told_four (accepted ns) n p i j k l e = sym (ap (λ xs. get_or xs 0 0 ∷ get_or xs 1 0 ∷ get_or xs 2 0 / 3 ∷ get_or xs 3 0 / 3 ∷ []) e)
told_four (refused m q) n p i j k l e = sym (ap (λ xs. get_or xs 0 0 ∷ get_or xs 1 0 ∷ get_or xs 2 0 / 3 ∷ get_or xs 3 0 / 3 ∷ []) e)

-- what an answer shares of a room, from what is told
told_shared :
    {A : Type 0} (a : Answer) (told_entries : List ℕ) (j : ℕ) (room : List A) → told_entries ≡ told 4 a → ◌≡◌ {A = ℕ} (get_or (replicate 4 0) j 0) 0
    → shared j a room ≡ take (get_or told_entries (suc (suc j)) 0) room
unfolding shared
told_shared (accepted ns) es j room e z = ap (λ xs. take (get_or xs (suc (suc j)) 0) room) (sym e)
told_shared (refused m q) es j room e z = ap (λ i. take i room) (sym z) ∙ ap (λ xs. take (get_or xs (suc (suc j)) 0) room) (sym e)

module _ (points : List Float) (faces pc fc : List ℕ) (s : Float) (o : ℕ) (before after : PanelRooms) (r : ShellPanel)
    (g : PanelAs points faces pc fc s o before after r) (zero : r.number ≡ 0) where
  -- the rules accepted it
  fine : panel_check points faces pc fc s o before ≡ ok
  fine = accepted_check points faces pc fc s o before _ (zero_accepted (panel_numbered points faces pc fc s o before) g zero)

  module _ (k : ℕ) (h : k < length pc) where
    -- the number of a mesh is 0, 2, 4 or 5
    pub shell_number : Own (get_or after.meshes (4 * k) 0)
    shell_number = subst (λ (q : PanelRooms). Own (get_or q.meshes (4 * k) 0)) (sym g.after) (number_own points faces pc fc s o before fine k h)

    -- a `shell_repair` of mesh k, in rooms that are long enough, gave what is its part here
    pub shell_mesh :
        (room room' : RepairRooms) (t : ShellRepaired) → LongEnough (get_or pc k 0) (get_or fc k 0) room
        → RepairAs (mesh_part pc points k) (mesh_part fc faces k) s o room room' t → SameMesh after k room' t
    unfolding its_points its_faces its_counts its_origins
    shell_mesh room room' t l m =
        let i = each_its_call points faces pc fc s o before fine k h room l in
        let c = repair (mesh_part pc points k) (mesh_part fc faces k) s o room in
        let q = g.after in
        let x = m.after in
        record {
          in_meshes = ap (λ (u : PanelRooms). four_at u.meshes k) q ∙ i.in_meshes ∙ told_four c.answer _ _ _ _ _ _ m.answer;
          in_points =
              ap (λ (u : PanelRooms). points_part u k) q ∙ i.in_points ∙ told_shared c.answer _ 0 c.rooms.out_points m.answer refl
              ∙ ap (λ (u : RepairRooms). take t.points u.out_points) (sym x);
          in_faces =
              ap (λ (u : PanelRooms). faces_part u k) q ∙ i.in_faces ∙ told_shared c.answer _ 1 c.rooms.out_faces m.answer refl
              ∙ ap (λ (u : RepairRooms). take t.faces u.out_faces) (sym x);
          in_counts =
              ap (λ (u : PanelRooms). counts_part u k) q ∙ i.in_counts ∙ told_shared c.answer _ 2 c.rooms.report m.answer refl
              ∙ ap (λ (u : RepairRooms). take t.counts u.report) (sym x);
          in_origins =
              ap (λ (u : PanelRooms). origins_part u k) q ∙ i.in_origins ∙ told_shared c.answer _ 3 c.rooms.origins m.answer refl
              ∙ ap (λ (u : RepairRooms). take t.origins u.origins) (sym x);
        }

-- with all options
pub shell_mesh_demanded :
    (points : List Float) (faces pc fc : List ℕ) (s : Float) (before after : PanelRooms) (r : ShellPanel) → PanelAs points faces pc fc s 63 before after r
    → r.number ≡ 0 → (k : ℕ) → k < length pc → get_or after.meshes (4 * k) 0 ≡ 0
    → Mesh3 (mesh_part pc points k) (mesh_part fc faces k) (points_part after k) (faces_part after k) (origins_part after k) (counts_part after k)
shell_mesh_demanded points faces pc fc s before after r g zero =
    subst
    (λ (q : PanelRooms). (k : ℕ) → k < length pc → get_or q.meshes (4 * k) 0 ≡ 0
    → Mesh3 (mesh_part pc points k) (mesh_part fc faces k) (points_part q k) (faces_part q k) (origins_part q k) (counts_part q k)) (sym g.after)
    (panel_demand3 points faces pc fc s before (fine points faces pc fc s 63 before after r g zero))
