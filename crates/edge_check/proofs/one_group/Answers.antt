-- `edge_check::one_group` meets its contract: the groups of all corners, a row made zero, and the scan. Assumes nothing.
use native.Mathlib.Omega.{arith}
use Rattle.edge_check.proofs.Tabling.{corners_ask, marks_fit, met_asks, met_gives}
use Rattle.edge_check.proofs.one_group.Goals as goal

pub lead_corners-requires : goal.lead_corners-requires
lead_corners-requires c = corners_ask c.requires

pub clear-requires : goal.clear-requires
clear-requires c = omega (arith, marks_fit c.requires c.lead_corners.ensures)

pub met_once-requires : goal.met_once-requires
met_once-requires c = let g = c.clear.ensures in
    met_asks c.requires c.lead_corners.ensures g.only g.filled

pub returns : goal.returns
returns c = let g = c.clear.ensures in
    met_gives c.requires c.lead_corners.ensures g.only g.filled c.met_once.ensures
