pub mod Current
pub mod Lines
