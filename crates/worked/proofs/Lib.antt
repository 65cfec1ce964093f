-- What the definitions of the stepper answer on closed inputs.
pub mod Opened
pub mod Pond
pub mod Effective
pub mod TwoStage
pub mod ThreeStage
pub mod Printed
