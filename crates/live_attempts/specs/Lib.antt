pub mod AirLaws
pub mod CountLaws
