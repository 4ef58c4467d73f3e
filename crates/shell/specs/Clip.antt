-- The place of a patch call as C gives it, in 32 bits. Definitions only.
use Rattle.std.specs.Prelude.{cond, ℕ, ltb}
use Rattle.rules.specs.Rooms.{Answer, accepted, refused, Outcome}

-- a place in 32 bits: one that does not fit, in a list of more than 4,294,967,295 labels, is told as the largest that does
abbrev pub clip : ℕ → ℕ
clip p = cond (ltb p 4294967295) p 4294967295

-- an answer with its place so
abbrev pub clipped_answer : Answer → Answer
clipped_answer (accepted entries) = accepted entries
clipped_answer (refused n p) = refused n (clip p)

-- an outcome with its place so
abbrev pub clipped : {R : Type 0} → Outcome R → Outcome R
clipped o = record { answer = clipped_answer o.answer; rooms = o.rooms }
