pub mod OneTurn
pub mod ManyTurns
pub mod TurnByTurn
pub mod Turned
