-- `Opening` has the corners that open the groups which pass 5 splits off, and `Sums` has sums over lists.
pub mod Opening
pub mod Sums
