-- Cases of flags that last.
pub mod Lasting
