mod Pairs
mod Tokens
mod Read
mod Bodies
