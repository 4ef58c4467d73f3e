-- `searched_length_try::tell` asks for the length of accepted input only. Assumes nothing.
use Rattle.searched_length_try.proofs.Ready.{ready}
use Rattle.searched_length_try.proofs.tell.Goals as goal

pub searched_length-requires : goal.searched_length-requires
searched_length-requires g c = ready _ _ _ _ c.sizes.ensures c.is_err.ensures.value c.if-is_err.false c.contents.ensures c.is_err-2.ensures.value c.if-is_err-2.false
