-- Texts for the program at its limits: 64 and 65 points, 64 and 65 faces, and the longest text that is well formed. Each computed.
use Rattle.std.specs.Prelude.{◌≡◌, refl, List, [], ◌∷◌, ◌++◌, ℕ, replicate}
use Prim.Native.String.{String}
use Rattle.rules.specs.Lists.{each}
use Rattle.rules.specs.Line.{bytes}
use Rattle.rules.specs.Text.{meshfix}
use Rattle.rules.specs.CallRows.{row, faults, every_word}
use Rattle.rules.specs.Open.{every_rule}
use Rattle.rules.specs.Bench.{Row}

-- a line n times
copies : ℕ → String → List ℕ
copies n line = each (λ l. l) (replicate n (bytes line))

-- a text of P points and F faces, all of one kind, with options 0
text_of : ℕ → String → ℕ → String → List ℕ
text_of P point F face = bytes "o\t0\t0000000000000000\n" ++ copies P point ++ copies F face

-- the `p` line of (1,0,-0)
unit : String
unit = "p\t3ff0000000000000\t0000000000000000\t8000000000000000\n"

-- the `f` line of 0 0 0
short : String
short = "f\t0\t0\t0\n"

-- the longest `f` line
long : String
long = "f\t4294967295\t4294967295\t4294967295\n"

-- the `r` line of a repair without passes
none : List ℕ
none = bytes "r\t0\t0\t0\t0\t0\t0\t0\t0\t0\t0\t0\n"

-- what the program prints
pub text_rows : List Row
text_rows =
    -- 64 points pass and 65 do not
    row (meshfix (text_of 64 unit 0 short) ∷ []) ((copies 64 unit ++ none) ∷ [])
    ∷ row (meshfix (text_of 65 unit 0 short) ∷ []) (bytes "x\t11\n" ∷ [])
    -- 64 faces pass and 65 do not
    ∷ row (meshfix (text_of 1 unit 64 short) ∷ []) ((copies 1 unit ++ copies 64 short ++ none) ∷ [])
    ∷ row (meshfix (text_of 1 unit 65 short) ∷ []) (bytes "x\t11\n" ∷ [])
    -- the longest text that is well formed has no bad line, and is refused for its corners only
    ∷ row (meshfix (text_of 64 unit 64 long) ∷ []) (bytes "x\t5\n" ∷ [])
    ∷ []

-- every row holds
pub texts_so : faults text_rows ≡ []
unfolding text_rows copies text_of unit short long none every_word every_rule
texts_so = refl
