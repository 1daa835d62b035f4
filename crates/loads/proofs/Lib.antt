-- Laws of bytes at a place, of bodies, chunks and stores.
pub mod PlaceLaws
pub mod EntryLaws
pub mod SetLaws
pub mod SinkLaws
pub mod WordLaws
pub mod ChunkLaws
pub mod ImageLaws
pub mod TailLaws
pub mod SinkPlaces
pub mod LayLaws
pub mod LoadLaws
