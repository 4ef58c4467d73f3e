-- Numbers in the bytes of a file, the lowest byte first. Definitions only.
use Rattle.std.specs.Prelude.{ℕ, zero, suc, ◌+◌, ◌*◌, ◌/◌, ◌%◌, List, [], ◌∷◌, get_or}

-- n in k bytes, the lowest first
unfoldable pub little : ℕ → ℕ → List ℕ
little zero n = []
little (suc k) n = n % 256 ∷ little k (n / 256)

-- the little-endian u32 whose lowest byte is byte i
unfoldable pub u32_at : List ℕ → ℕ → ℕ
u32_at file i = get_or file i 0 + 256 * get_or file (i + 1) 0 + 65536 * get_or file (i + 2) 0 + 16777216 * get_or file (i + 3) 0

-- the little-endian u64 whose lowest byte is byte i
abbrev pub u64_at : List ℕ → ℕ → ℕ
u64_at file i = u32_at file i + 4294967296 * u32_at file (i + 4)
