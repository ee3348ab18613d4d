-- What a read shows of a byte, and the bytes laid over a buffer's front.
pub mod Taking
