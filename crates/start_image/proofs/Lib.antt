-- Start: its refusals, and its image byte by byte.
pub mod Refusing
pub mod Starting
