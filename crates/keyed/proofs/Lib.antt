pub mod Periods
pub mod Acceptance
pub mod Outcomes
pub mod Outputs
pub mod Events
pub mod Requests
pub mod Chains
