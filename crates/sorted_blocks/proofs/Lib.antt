mod Tokens
mod Order
mod Places
mod Putting
