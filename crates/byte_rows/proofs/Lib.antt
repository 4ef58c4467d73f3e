-- `Reading` has a number and a float from bytes. `Putting` has the laws of `Puts`, `Numbers` a number put in decimal, `Little` one put byte by byte.
pub mod Reading
pub mod Putting
pub mod Numbers
pub mod Little
