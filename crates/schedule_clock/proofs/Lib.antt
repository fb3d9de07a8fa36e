mod Acting
mod NextActing
mod FirstActing
