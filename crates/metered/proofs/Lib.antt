pub mod EventNumbers
pub mod Gating
pub mod Charged
pub mod PlainCalls
pub mod Eventing
pub mod KeyedPlainCalls
pub mod KeyedEventing
