-- The measure of `number_length` is the number, and a tenth of it is less.
use Rattle.byte_rows.proofs.+number_length.Given as goal

abbrev pub decreases-number_length : goal.decreases-number_length
decreases-number_length l = l.n
