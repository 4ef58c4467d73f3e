-- `orient_consistently_try::run` is safe and ends. Assumes nothing.
use mathlib.Core.Path.{refl}
use Rattle.orient_consistently.proofs.Standing.{still_stand}
use Rattle.orient_consistently_try.proofs.Ready.{stand}
use Rattle.orient_consistently_try.proofs.run.Goals as goal

pub orient_consistently-turned-requires : goal.orient_consistently-turned-requires
orient_consistently-turned-requires g c = stand c.requires refl

pub settle-settled-requires : goal.settle-settled-requires
settle-settled-requires g c = let o = c.before.before.before.before.before.before.before.before.before in
    still_stand (stand o.requires refl) o.orient_consistently-turned.ensures
