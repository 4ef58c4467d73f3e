-- The measure of `put_number` is the number, and a tenth of it is less.
use Rattle.byte_rows.proofs.+put_number.Given as goal

abbrev pub decreases-put_number : goal.decreases-put_number
decreases-put_number l = l.n
