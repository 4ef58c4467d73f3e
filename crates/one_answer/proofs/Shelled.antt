-- The C functions: of two structs whose statement names one outcome of the rules, all fields are the same, and so is every room. Assumes nothing.
use mathlib.Core.Path.{◌≡◌, refl, sym, ap, ◌∙◌}
use mathlib.Core.Logic.{⊎_elim}
use mathlib.Core.List.{List, [], ◌∷◌}
use Prim.Native.Nat.{ℕ, ◌/◌}
use lib.ListN.{length, get_or}
use lib.Ieee.{Float}
use Rattle.rules.specs.Rooms.{Outcome}
use Rattle.rules.specs.ListCall.{ListRooms}
use Rattle.list_room.specs.Parts.{joined}
use Rattle.write_list.specs.Called.{Kept}
use Rattle.shell.specs.Told.{Given, told}
use Rattle.shell.specs.declared.ShellRepaired.{ShellRepaired}
use Rattle.shell.specs.declared.ShellPanel.{ShellPanel}
use Rattle.shell.specs.declared.ShellEdges.{ShellEdges}
use Rattle.shell.specs.declared.ShellLoops.{ShellLoops}
use Rattle.shell.specs.declared.ShellCheck.{ShellCheck}
use Rattle.shell.specs.declared.ShellPatches.{ShellPatches}
use Rattle.shell.specs.declared.ShellLine.{ShellLine}
use Rattle.shell.specs.declared.ShellStl.{ShellStl}
use Rattle.shell.specs.declared.ShellPly.{ShellPly}
use Rattle.shell.specs.declared.ShellPlyFile.{ShellPlyFile}
use Rattle.shell.specs.declared.ShellPlyCounts.{ShellPlyCounts}
use Rattle.shell.specs.declared.ShellApplied.{ShellApplied}
use Rattle.shell.specs.Listed.{ListTold}
use Rattle.shell.specs.declared.ShellList.{ShellList}
use Rattle.shell.proofs.ListPlaces.{parted_or}

-- a number, a place and as many entries, told of one outcome, are the same, and so are the rooms
pub one_given :
    {R : Type 0} {o : Outcome R} {n n' p p' : ℕ} {es es' : List ℕ} {rooms rooms' : R} → length es ≡ length es' → Given n p es rooms o
    → Given n' p' es' rooms' o → (n ∷ p ∷ es ≡ n' ∷ p' ∷ es') × (rooms ≡ rooms')
one_given {R} {o} l g h = (g.answer ∙ ap (λ k. told k o.answer) l ∙ sym h.answer, g.after ∙ sym h.after)

module _ {R : Type 0} {o : Outcome R} {rooms rooms' : R} where
  -- shell_repair
  pub one_shell_repair :
      {r r' : ShellRepaired} → Given r.number r.place (r.points ∷ r.faces ∷ r.counts ∷ r.origins ∷ []) rooms o
      → Given r'.number r'.place (r'.points ∷ r'.faces ∷ r'.counts ∷ r'.origins ∷ []) rooms' o → (r ≡ r') × (rooms ≡ rooms')
  one_shell_repair g h =
      let b = one_given refl g h in
      (ap (λ xs. record { number = get_or xs 0 0; place = get_or xs 1 0; points = get_or xs 2 0; faces = get_or xs 3 0; counts = get_or xs 4 0; origins = get_or xs 5 0 }) b.0, b.1)

  -- shell_repair_panel
  pub one_shell_panel :
      {r r' : ShellPanel} → Given r.number r.place (r.points ∷ r.faces ∷ r.counts ∷ r.origins ∷ r.meshes ∷ []) rooms o
      → Given r'.number r'.place (r'.points ∷ r'.faces ∷ r'.counts ∷ r'.origins ∷ r'.meshes ∷ []) rooms' o → (r ≡ r') × (rooms ≡ rooms')
  one_shell_panel g h =
      let b = one_given refl g h in
      (ap (λ xs. record { number = get_or xs 0 0; place = get_or xs 1 0; points = get_or xs 2 0; faces = get_or xs 3 0; counts = get_or xs 4 0; origins = get_or xs 5 0; meshes = get_or xs 6 0 }) b.0, b.1)

  -- shell_edges
  pub one_shell_edges :
      {r r' : ShellEdges} → Given r.number r.place (r.edges ∷ r.lengths ∷ r.face_edges ∷ []) rooms o
      → Given r'.number r'.place (r'.edges ∷ r'.lengths ∷ r'.face_edges ∷ []) rooms' o → (r ≡ r') × (rooms ≡ rooms')
  one_shell_edges g h =
      let b = one_given refl g h in
      (ap (λ xs. record { number = get_or xs 0 0; place = get_or xs 1 0; edges = get_or xs 2 0; lengths = get_or xs 3 0; face_edges = get_or xs 4 0 }) b.0, b.1)

  -- shell_loops
  pub one_shell_loops :
      {r r' : ShellLoops} → Given r.number r.place (r.loop_vertices ∷ r.loop_ends ∷ []) rooms o
      → Given r'.number r'.place (r'.loop_vertices ∷ r'.loop_ends ∷ []) rooms' o → (r ≡ r') × (rooms ≡ rooms')
  one_shell_loops g h =
      let b = one_given refl g h in
      (ap (λ xs. record { number = get_or xs 0 0; place = get_or xs 1 0; loop_vertices = get_or xs 2 0; loop_ends = get_or xs 3 0 }) b.0, b.1)

  -- shell_check
  pub one_shell_check :
      {r r' : ShellCheck} → Given r.number r.place (r.yes ∷ []) rooms o → Given r'.number r'.place (r'.yes ∷ []) rooms' o
      → (r ≡ r') × (rooms ≡ rooms')
  one_shell_check g h =
      let b = one_given refl g h in (ap (λ xs. record { number = get_or xs 0 0; place = get_or xs 1 0; yes = get_or xs 2 0 }) b.0, b.1)

  -- shell_patches
  pub one_shell_patches :
      {r r' : ShellPatches} → Given r.number r.place (r.face_counts ∷ r.numbers ∷ r.flags ∷ []) rooms o
      → Given r'.number r'.place (r'.face_counts ∷ r'.numbers ∷ r'.flags ∷ []) rooms' o → (r ≡ r') × (rooms ≡ rooms')
  one_shell_patches g h =
      let b = one_given refl g h in
      (ap (λ xs. record { number = get_or xs 0 0; place = get_or xs 1 0; face_counts = get_or xs 2 0; numbers = get_or xs 3 0; flags = get_or xs 4 0 }) b.0, b.1)

  -- shell_line
  pub one_shell_line :
      {r r' : ShellLine} → Given r.number r.place (r.bytes ∷ []) rooms o → Given r'.number r'.place (r'.bytes ∷ []) rooms' o
      → (r ≡ r') × (rooms ≡ rooms')
  one_shell_line g h =
      let b = one_given refl g h in (ap (λ xs. record { number = get_or xs 0 0; place = get_or xs 1 0; bytes = get_or xs 2 0 }) b.0, b.1)

  -- shell_read_stl
  pub one_shell_read :
      {r r' : ShellStl} → Given r.number r.place (r.points ∷ r.faces ∷ []) rooms o → Given r'.number r'.place (r'.points ∷ r'.faces ∷ []) rooms' o
      → (r ≡ r') × (rooms ≡ rooms')
  one_shell_read g h =
      let b = one_given refl g h in (ap (λ xs. record { number = get_or xs 0 0; place = get_or xs 1 0; points = get_or xs 2 0; faces = get_or xs 3 0 }) b.0, b.1)

  -- shell_read_ply
  pub one_shell_read_ply :
      {r r' : ShellPly} → Given r.number r.place (r.points ∷ r.faces ∷ []) rooms o → Given r'.number r'.place (r'.points ∷ r'.faces ∷ []) rooms' o
      → (r ≡ r') × (rooms ≡ rooms')
  one_shell_read_ply g h =
      let b = one_given refl g h in (ap (λ xs. record { number = get_or xs 0 0; place = get_or xs 1 0; points = get_or xs 2 0; faces = get_or xs 3 0 }) b.0, b.1)

  -- shell_write_ply
  pub one_shell_write_ply :
      {r r' : ShellPlyFile} → Given r.number r.place (r.bytes ∷ []) rooms o → Given r'.number r'.place (r'.bytes ∷ []) rooms' o
      → (r ≡ r') × (rooms ≡ rooms')
  one_shell_write_ply g h =
      let b = one_given refl g h in (ap (λ xs. record { number = get_or xs 0 0; place = get_or xs 1 0; bytes = get_or xs 2 0 }) b.0, b.1)

  -- shell_ply_counts
  pub one_shell_ply_counts :
      {r r' : ShellPlyCounts} → Given r.number r.place (r.points ∷ r.faces ∷ []) rooms o
      → Given r'.number r'.place (r'.points ∷ r'.faces ∷ []) rooms' o → (r ≡ r') × (rooms ≡ rooms')
  one_shell_ply_counts g h =
      let b = one_given refl g h in (ap (λ xs. record { number = get_or xs 0 0; place = get_or xs 1 0; points = get_or xs 2 0; faces = get_or xs 3 0 }) b.0, b.1)

  -- shell_apply
  pub one_shell_apply :
      {r r' : ShellApplied} → Given r.number r.place (r.points ∷ r.faces ∷ []) rooms o
      → Given r'.number r'.place (r'.points ∷ r'.faces ∷ []) rooms' o → (r ≡ r') × (rooms ≡ rooms')
  one_shell_apply g h =
      let b = one_given refl g h in (ap (λ xs. record { number = get_or xs 0 0; place = get_or xs 1 0; points = get_or xs 2 0; faces = get_or xs 3 0 }) b.0, b.1)

-- parts that are as they were are one room as it was
kept_joined :
    {text corners origins rest text' corners' origins' rest' : List ℕ} → Kept text corners origins rest text' corners' origins' rest'
    → joined corners' origins' rest' ≡ joined corners origins rest
kept_joined k = λ i. joined (k.corners_are i) (k.origins_are i) (k.rest_is i)

-- shell_list_in_parts, however the parts lie; the parts after it are one room
pub one_shell_list :
    {points : List Float} {faces : List ℕ} {s : Float} {options : ℕ} {text corners origins rest text₁ corners₁ origins₁ rest₁ text₂ corners₂ origins₂ rest₂ : List ℕ}
    {r r' : ShellList} → ListTold points faces s options text corners origins rest text₁ corners₁ origins₁ rest₁ r.number r.place r.bytes
    → ListTold points faces s options text corners origins rest text₂ corners₂ origins₂ rest₂ r'.number r'.place r'.bytes
    → (r ≡ r') × (text₁ ≡ text₂) × (joined corners₁ origins₁ rest₁ ≡ joined corners₂ origins₂ rest₂)
one_shell_list {points} {faces} {s} {options} {text} {corners} {origins} {rest} g h =
    ⊎_elim
    (λ p. let b = one_given refl (g.parted p) (h.parted p) in (struct b.0, ap (λ (w : ListRooms). w.text) b.1, ap (λ (w : ListRooms). w.work) b.1))
    (λ p.
    let b = one_given refl (g.apart p) (h.apart p) in
    (struct b.0, ap (λ (w : ListRooms). w.text) b.1, kept_joined (g.apart_kept p) ∙ sym (kept_joined (h.apart_kept p))))
    (parted_or (length faces / 3) (length corners) (length origins) (length rest))
  where
    struct : {n n' p p' k k' : ℕ} → n ∷ p ∷ k ∷ [] ≡ n' ∷ p' ∷ k' ∷ [] → ◌≡◌ {A = ShellList} (record { number = n; place = p; bytes = k }) (record { number = n'; place = p'; bytes = k' })
    struct e = ap (λ xs. record { number = get_or xs 0 0; place = get_or xs 1 0; bytes = get_or xs 2 0 }) e
