-- `passes::pass5` meets its contract: the pass is on and vertices are split, or it is off. Assumes nothing.
use Rattle.passes.proofs.Steps.{bit_set, bit_clear}
use Rattle.passes.proofs.Rooms.{splits, on5, off5}
use Rattle.passes.proofs.pass5.Goals as goal

pub split_bowtie_vertices-split-requires : goal.split_bowtie_vertices-split-requires
split_bowtie_vertices-split-requires c = splits c.requires

pub overflow_sub-result : goal.overflow_sub-result
overflow_sub-result c = c.split_bowtie_vertices-split.ensures.least

pub returns-then-options-eq1 : goal.returns-then-options-eq1
returns-then-options-eq1 c = rw (bit_set 3 c.args.options c.if-options-eq1.true) (on5 c.requires c.split_bowtie_vertices-split.ensures)

pub returns : goal.returns
returns c = rw (c.all_kept.ensures, bit_clear 3 c.args.options c.if-options-eq1.false) (off5 c.requires)
