mod Outcomes
mod Served
mod Transfers
mod Verdicts
