-- What the proofs of the functions share.
pub mod PutLaws
pub mod SeenLaws
pub mod FillLaws
pub mod LatestLaws
pub mod WordLaws
pub mod ExactLaws
