mod Places
mod Kept
