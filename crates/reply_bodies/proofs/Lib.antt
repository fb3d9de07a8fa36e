mod BodiesOnExamples
mod Ids
mod Pieces
mod Writes
