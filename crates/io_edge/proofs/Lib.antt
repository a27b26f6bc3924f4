mod DiskExamples
pub mod Moments
mod Overwritten
mod PastLemmas
pub mod RisesLemmas
mod StoppedLemmas
pub mod TornLemmas
