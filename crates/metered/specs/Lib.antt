pub mod Metering
pub mod KeyedMetering
