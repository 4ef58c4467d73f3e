-- `Pieces` has where a piece ends, `Bytes` which bytes are digits. `Numbers` has the loop over decimal digits and what it says of a field, `Hex` the same of
-- hex digits.
pub mod Pieces
pub mod Bytes
pub mod Numbers
pub mod Hex
