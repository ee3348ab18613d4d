-- Laws of what is held, and of nothing printed.
pub mod Holding
pub mod Printing
