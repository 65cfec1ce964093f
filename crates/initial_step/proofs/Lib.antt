-- `Never` has the theorems on the last two tests.
pub mod Never
