-- `rank::best` meets its contract: what is picked from none is the best. Assumes nothing.
use mathlib.Core.Path.{◌≡◌, ◌∙◌}
use mathlib.Core.List.{List}
use Prim.Native.Nat.{ℕ, ◌/◌}
use lib.ListN.{length-map}
use lib.Ieee.{Float}
use Rattle.std.specs.Prelude.{Option, None, Some, IsSome}
use Rattle.rank.specs.declared.Choice.{Choice}
use Rattle.rank.specs.Ranks.{faces_in, count, value_of, face_or, BestAsks, BestGives, ScanGives}
use Rattle.rank.proofs.RankLaws.{run_all, pick_some, face_some, face_of_some}
use Rattle.rank.proofs.best.Goals as goal

module _ {ps : List Float} {xs run : List ℕ} (p : BestAsks ps xs run) {r : Option Choice} (g : ScanGives ps xs run None r) where
  picked : BestGives ps xs run (face_or (count xs) r)
  picked =
      let some = pick_some (count xs) (value_of ps xs) (faces_in run) (run_all p.rank) (rw (length-map run (λ id. id / 3)) p.some) in
      record { first = g.picked ∙ some.0; here = rw g.picked some.1 }

  is_some : IsSome r
  is_some = face_some r picked.here

  done : {c : Choice} → r ≡ Some c → BestGives ps xs run c.face
  done e = rw (face_of_some (count xs) e) picked

pub unwrap-requires : goal.unwrap-requires
unwrap-requires c = is_some c.requires c.scan.ensures

pub returns : goal.returns
returns c = done c.requires c.scan.ensures c.unwrap.ensures
