-- What the core of a plan promises.
pub mod Plots
