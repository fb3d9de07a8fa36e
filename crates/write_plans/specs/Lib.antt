pub mod Planning
pub mod Looking
pub mod PlanLaws
