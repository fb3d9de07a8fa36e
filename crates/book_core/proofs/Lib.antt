pub mod RoomLemmas
pub mod SoundLemmas
