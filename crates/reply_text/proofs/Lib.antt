mod Compact
mod Listed
mod Ordered
mod Pieces
mod PlainTexts
mod Ranges
