pub mod Seeing
pub mod Pond
pub mod Effective
pub mod TwoStage
pub mod ThreeStage
pub mod Printed
pub mod Runs
