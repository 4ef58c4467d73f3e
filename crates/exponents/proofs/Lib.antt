-- `Bounded` has what an exponent says of its number, `Compared` what four exponents say of the degeneracy test.
pub mod Bounded
pub mod Compared
