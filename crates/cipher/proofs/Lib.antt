pub mod FieldClaims
pub mod StateClaims
pub mod ScheduleLaws
pub mod Bytes
pub mod Laws
pub mod Rows
