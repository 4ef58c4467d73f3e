-- `fates::first_four` meets its contract: the rooms are filled, and the four passes follow each other. Assumes nothing.
use Rattle.fates.proofs.Four.{four_start, input_fits, four_done}
use Rattle.fates.proofs.first_four.Goals as goal

pub pass1-a-requires : goal.pass1-a-requires
pass1-a-requires c = four_start c.requires c.copy_row.ensures c.number.ensures.only c.number.ensures.holds c.clear.ensures.only c.clear.ensures.filled

pub pass2-b-requires : goal.pass2-b-requires
pass2-b-requires c = c.pass1-a.ensures.stands

pub pass3-c-requires : goal.pass3-c-requires
pass3-c-requires c = c.pass2-b.ensures.stands

pub pass4-requires : goal.pass4-requires
pass4-requires c = record { stands = c.pass3-c.ensures.stands; input_len = input_fits c.requires c.copy_row.ensures c.number.ensures.only c.number.ensures.holds c.clear.ensures.only c.clear.ensures.filled c.args.options c.args.s c.pass1-a.ensures c.pass2-b.ensures c.pass3-c.ensures }

pub shape_of-faces : goal.shape_of-faces
shape_of-faces c = (four_done c.requires c.copy_row.ensures c.number.ensures.only c.number.ensures.holds c.clear.ensures.only c.clear.ensures.filled c.args.options c.args.s c.pass1-a.ensures c.pass2-b.ensures c.pass3-c.ensures c.pass4.ensures).only_faces.long

pub shape_of-origins : goal.shape_of-origins
shape_of-origins c = (four_done c.requires c.copy_row.ensures c.number.ensures.only c.number.ensures.holds c.clear.ensures.only c.clear.ensures.filled c.args.options c.args.s c.pass1-a.ensures c.pass2-b.ensures c.pass3-c.ensures c.pass4.ensures).only_origins.long

pub shape_of-work : goal.shape_of-work
shape_of-work c = (four_done c.requires c.copy_row.ensures c.number.ensures.only c.number.ensures.holds c.clear.ensures.only c.clear.ensures.filled c.args.options c.args.s c.pass1-a.ensures c.pass2-b.ensures c.pass3-c.ensures c.pass4.ensures).only_work.long

pub returns : goal.returns
returns c = four_done c.requires c.copy_row.ensures c.number.ensures.only c.number.ensures.holds c.clear.ensures.only c.clear.ensures.filled c.args.options c.args.s c.pass1-a.ensures c.pass2-b.ensures c.pass3-c.ensures c.pass4.ensures
