-- `panel_refusal::short_room` meets its contract: the first room that is too short, or none. Assumes nothing.
use native.Mathlib.Omega.{arith}
use Rattle.panel_refusal.proofs.Short.{short_0, short_1, short_2, short_3, short_4, short_5, long}
use Rattle.panel_refusal.proofs.short_room.Goals as goal

pub returns-then-rooms-p : goal.returns-then-rooms-p
returns-then-rooms-p c = short_0 _ _ _ _ _ _ _ _ _ _ (omega arith)

pub returns-then-rooms-f : goal.returns-then-rooms-f
returns-then-rooms-f c = short_1 _ _ _ _ _ _ _ _ _ _ (omega arith) (omega arith)

pub returns-then-rooms-m : goal.returns-then-rooms-m
returns-then-rooms-m c = short_2 _ _ _ _ _ _ _ _ _ _ (omega arith) (omega arith) (omega arith)

pub returns-then-rooms-f-2 : goal.returns-then-rooms-f-2
returns-then-rooms-f-2 c = short_3 _ _ _ _ _ _ _ _ _ _ (omega arith) (omega arith) (omega arith) (omega arith)

pub returns-then-rooms-m-2 : goal.returns-then-rooms-m-2
returns-then-rooms-m-2 c = short_4 _ _ _ _ _ _ _ _ _ _ (omega arith) (omega arith) (omega arith) (omega arith) (omega arith)

pub returns-then-rooms-work : goal.returns-then-rooms-work
returns-then-rooms-work c = short_5 _ _ _ _ _ _ _ _ _ _ (omega arith) (omega arith) (omega arith) (omega arith) (omega arith) (omega arith)

pub returns : goal.returns
returns c = long _ _ _ _ _ _ _ _ _ _ (omega arith) (omega arith) (omega arith) (omega arith) (omega arith) (omega arith)
