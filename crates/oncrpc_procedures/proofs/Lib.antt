pub mod Cuts
pub mod Finding
pub mod First
pub mod Meaning
pub mod Naming
pub mod ProgramCuts
