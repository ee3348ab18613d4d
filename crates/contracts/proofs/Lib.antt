-- That the contract of a call that prints admits one text.
pub mod OneText
