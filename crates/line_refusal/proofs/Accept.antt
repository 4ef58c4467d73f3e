-- What an accepted report line says of its counts and of its room. Assumes nothing.
use mathlib.Core.Path.{◌≡◌, refl}
use mathlib.Core.List.{List, [], ◌∷◌}
use Prim.Native.Nat.{ℕ}
use lib.ListN.{length}
use lib.Dec.{eqb, eqb→eq, nltb→le}
use Rattle.rules.specs.State.{report_counts}
use Rattle.rules.specs.Lists.{below}
use Rattle.rules.specs.Refusal.{ok, decided, no1_counts}
use Rattle.rules.specs.LineCall.{line_rooms, line_check}
use Rattle.rule_laws.proofs.Decided.{decided_all, unless_ok}
use Rattle.refuse.proofs.Accept.{rooms_fine}
use Rattle.line_refusal.specs.Checks.{line_list, LineAccepted}

-- the list of checks is the rules', at the length of the room
pub line_is : (counts r : List ℕ) → decided (line_list counts (length r)) ≡ line_check counts r
unfolding line_check
line_is counts r = refl

-- where 1 finds nothing there are as many counts as a report has
counts_fine : (counts : List ℕ) → no1_counts counts ≡ ok → length counts ≡ report_counts
unfolding no1_counts
counts_fine counts e = eqb→eq (length counts) report_counts (unless_ok 1 2 (eqb (length counts) report_counts) e)

-- where neither does there are as many counts and the room is long enough
pub line_accepted : (counts : List ℕ) (a : ℕ) → decided (line_list counts a) ≡ ok → LineAccepted counts a
unfolding below line_rooms
line_accepted counts a e =
    let r = decided_all (line_list counts a) e in
    let g = rooms_fine line_rooms (a ∷ []) r.1.0 in
    record { whole = counts_fine counts r.0; room_line = nltb→le a 512 g.0 }
