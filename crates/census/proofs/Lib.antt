pub mod PlanLaws
pub mod CardLaws
pub mod FewerLaws
pub mod EndLaws
