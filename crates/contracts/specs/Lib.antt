-- What the contracts of the steps, of the public calls and of the calls that print cite beside the model.
pub mod Asked
pub mod Forms
pub mod Texts
