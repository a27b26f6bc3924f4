mod Flushed
mod Fronts
mod Ids
