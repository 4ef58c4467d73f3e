-- `Blocks` has what an entry, a region or a block more says of a region.
pub mod Blocks
-- `Zeros` has that a room of zeros, once cleared again, is as it was.
pub mod Zeros
-- `Patterns` has what the bits of a float say of it.
pub mod Patterns
