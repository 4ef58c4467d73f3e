-- `Turns` has mesh after mesh, `Ending` the outcome of the call.
pub mod Turns
pub mod Ending
