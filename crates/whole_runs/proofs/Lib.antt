pub mod Hands
pub mod Prefixes
pub mod FaultTurns
pub mod TurnCalls
pub mod Starting
