-- `Standing` has a text that stands in a file, and a count in a line; `Heading` the header, part after part. `Scanning` has the first vertex and the first
-- face at fault, `Short` the first room that is too short, `Deciding` their order, `Accept` what an accepted file says.
pub mod Standing
pub mod Heading
pub mod Scanning
pub mod Short
pub mod Deciding
pub mod Accept
