-- `Lines` has the bytes of lines, point after point and face after face.
pub mod Lines
