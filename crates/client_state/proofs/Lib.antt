mod Known
mod Seen
mod Marks
mod Changed
mod Linked
mod Rows
