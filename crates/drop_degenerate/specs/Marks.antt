-- What a flag of pass 1 says. Definitions only.
use Rattle.std.specs.Prelude.{Bool, cond, ℕ}

-- the flag of what leaves is 1, and of what stays 0
abbrev pub flag_of : Bool → ℕ
flag_of leaves = cond leaves 1 0
