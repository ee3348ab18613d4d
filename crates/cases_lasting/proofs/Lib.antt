-- The cases of flags that last, computed.
pub mod Lasting
