-- `Words` has what one word a face says, and the rules' list that it stands for.
pub mod Words
-- `Views` has what the accessors ask.
pub mod Views
