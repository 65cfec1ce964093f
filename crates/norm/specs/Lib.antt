pub mod ErrorNorm
pub mod ScaledErrorNorm
