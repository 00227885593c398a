pub mod CallLaws
pub mod WaitingCalls
pub mod GuardedCalls
pub mod ExaminedCalls
