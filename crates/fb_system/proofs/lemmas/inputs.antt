pub mod Views
pub mod TablesOfInputs
pub mod Stimuli
