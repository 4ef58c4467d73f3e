-- `Prepared` has what the rows of a mending list are made from and what they tell.
pub mod Prepared
