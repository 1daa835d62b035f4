-- Laws of the functions below the calls.
pub mod RoomLaws
pub mod PartLaws
pub mod ClearedLaws
pub mod NamedLaws
pub mod ClusterLaws
