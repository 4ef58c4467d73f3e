-- `Uniforms` has parts that are all one number, `Joined` the parts as one room.
pub mod Uniforms
pub mod Joined
-- `Putting` has the text in its room.
pub mod Putting
