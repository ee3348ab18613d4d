-- That the records stay eight, that firmware's calls give what those of the registers give, and the forms of working states.
pub mod Eight
pub mod Theorem
pub mod Forms
