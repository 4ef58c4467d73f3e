pub mod Mended
pub mod Edged
pub mod GoneAlong
pub mod Sound
