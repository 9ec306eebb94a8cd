-- Followers: what linked cores leave. Alone: a run without them. Agree: both runs. Cases: the code's cases of one linked core.
pub mod Followers
pub mod Alone
pub mod Agree
pub mod Cases
pub mod Entry
