-- EveryList has the theorems about lists, Counting, Caches and Finite those about counters, caches and finite numbers in them, Accepting, Refused and
-- Telling those about every call, Lines those about one; the others lead to them. Dependents may cite Steady too.
mod Alike
mod Fresh
mod Booked
mod Firsts
mod Endings
mod Running
pub mod Accepting
pub mod Refused
pub mod Telling
pub mod Steady
mod Known
mod Tallied
pub mod Finite
mod Kept
mod Noted
pub mod Caches
mod Reached
mod Told
pub mod Counting
pub mod EveryList
pub mod Lines
