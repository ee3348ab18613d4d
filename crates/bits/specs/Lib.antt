-- Fields of a byte list, sets of lanes, and the loops over both. No register is named here.
pub mod Choice
pub mod Number
pub mod Place
pub mod Lane
pub mod Loop
pub mod Sets
pub mod Word
