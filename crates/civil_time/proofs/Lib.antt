pub mod CivilSeconds
mod OneOfEach
