pub mod CayleyGraphs
