-- Agree: an entry of both runs. Cases: the code's cases of it. Schedule: a whole run. ReadOnly: what it leaves below the limit.
pub mod Agree
pub mod Cases
mod Begins
pub mod Schedule
pub mod ReadOnly
