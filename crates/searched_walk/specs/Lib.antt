-- `Walking` has the walk as the words have it, and what the functions ask and give.
pub mod Walking
