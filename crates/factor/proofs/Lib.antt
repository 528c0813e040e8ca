pub mod Factor
pub mod LongerLaws
pub mod ShortestLaws
pub mod CardLaws
pub mod MountedLaws
