mod Aloft
mod Counted
