mod ControlledLemmas
mod PlanLemmas
