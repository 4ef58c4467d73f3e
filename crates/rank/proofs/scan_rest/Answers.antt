-- `rank::scan_rest` meets its contract. The scans of the parts before and behind the first entry of `one` rank all entries but that one.
-- Assumes nothing.
use mathlib.Core.Path.{refl}
use Rattle.rank.specs.Ranks.{count, value_of, face_or}
use Rattle.rank.proofs.RankLaws.{around, absent, found_at, found_none}
use Rattle.rank.proofs.scan_rest.Goals as goal

pub returns-in-Some : goal.returns-in-Some
returns-in-Some c = let k = found_at c.args.one c.args.run.now c.in-Some.ensures in
    record { picked = around (count c.args.faces.now) (value_of c.args.points.now c.args.faces.now) c.args.run.now c.args.one c.in-Some.k k.0 (face_or (count c.args.faces.now) c.scan-before.result) (face_or (count c.args.faces.now) c.scan.result) k.1 c.scan-before.ensures.picked c.scan.ensures.picked }

pub returns-in-None : goal.returns-in-None
returns-in-None c = record { picked = absent (count c.args.faces.now) (value_of c.args.points.now c.args.faces.now) c.args.run.now c.args.one _ refl (face_or (count c.args.faces.now) c.scan-in-None.result) (found_none c.args.one c.args.run.now c.in-None.ensures) c.scan-in-None.ensures.picked }
