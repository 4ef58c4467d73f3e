-- The words of this crate's contracts: what all meshes give in the rooms. Definitions only.
use Rattle.std.specs.Prelude.{List, ℕ, ◌+◌, ◌*◌, Float, length}
use Rattle.std.specs.Float.{nan}
use Rattle.rows.specs.Region.{Only}
use Rattle.rules.specs.Lists.{each}
use Rattle.rules.specs.State.{report_counts}
use Rattle.rules.specs.Rooms.{Outcome}
use Rattle.rules.specs.RepairCall.{RepairRooms}
use Rattle.rules.specs.PanelCall.{total, largest, its_points, its_faces, its_counts, its_origins, four}
use Rattle.mend_mesh.specs.Meshes.{Grown}
use Rattle.mend_mesh.specs.declared.At.{At}

-- each list is what the repairs `calls` contribute, packed
pub record AllGives
    (calls : List (Outcome RepairRooms)) (counts faces : List ℕ) (ps : List Float) (xs rs os ms w : List ℕ) (ps' : List Float) (xs' rs' os' ms' w' : List ℕ) (r : At)
    : Type 0 where
  pub out_points : Grown nan (3 * (total counts + 3 * total faces)) 0 (each its_points calls) ps ps' r.mended
  pub out_faces : Grown 0 (3 * total faces) 0 (each its_faces calls) xs xs' r.triples
  pub report : Grown 0 (report_counts * length counts) 0 (each its_counts calls) rs rs' r.counts
  pub origins : Grown 0 (total faces) 0 (each its_origins calls) os os' r.origins
  pub meshes : Grown 0 (4 * length counts) 0 (each (λ o. four o.answer) calls) ms ms' (4 * length counts)
  pub only_work : Only 0 (largest counts faces) w w'
