-- `passes::drop_collisions` meets its contract: every face stays, or those that collide are marked and leave. Assumes nothing.
use Rattle.rows.proofs.Regions.{only_none}
use Rattle.leaving.proofs.ByFlags.{left_by}
use Rattle.passes.proofs.Steps.{collided_leave}
use Rattle.resolve_directed_collisions.proofs.Staying.{all_stay}
use Rattle.passes.proofs.drop_collisions.Goals as goal

pub returns-then-single : goal.returns-then-single
returns-then-single c = record { leave_gives = all_stay c.requires.pass_asks (c.requires.once c.if-single.true); only = only_none 0 _ _ }

pub leave-requires : goal.leave-requires
leave-requires c = collided_leave c.requires.pass_asks c.requires.n_in_bounds c.mark-marked.ensures.fact

pub returns : goal.returns
returns c = record { leave_gives = left_by c.mark-marked.ensures.fact c.leave.ensures; only = c.mark-marked.ensures.fact.only }
