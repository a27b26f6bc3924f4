mod Clients
mod Places
mod Steps
