-- What an accepted report line may start from.
pub mod Accept
