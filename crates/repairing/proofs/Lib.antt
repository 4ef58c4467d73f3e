-- `Keeping` has what each pass keeps.
pub mod Keeping
-- `Copies` has how many points pass 5 adds at most.
pub mod Copies
-- `Fitting` has that a repair's answer fits its rooms under any options.
pub mod Fitting
-- `Exchanges` has how many faces pass 4 exchanges at most, and how many components it marks.
pub mod Exchanges
-- `Counts` has that no count of a report is above 2P + 15F.
pub mod Counts
