pub mod DistanceLaws
pub mod SweepLaws
