-- Public calls, a list of events and a night file say the same.
pub mod SaySame
