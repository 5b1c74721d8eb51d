use Rattle.fb_read_positions.proofs.resume.left_past_inner.Goals as goal

pub returns-in-With : goal.returns-in-With
returns-in-With c = rw c.in-With.is c.left_past.ensures

pub returns-in-Parameters : goal.returns-in-Parameters
returns-in-Parameters c = rw c.in-Parameters.is c.left_past-in-Parameters.ensures

pub returns-in-Actions : goal.returns-in-Actions
returns-in-Actions c = rw c.in-Actions.is c.left_past_actions.ensures

pub returns-in-Statements : goal.returns-in-Statements
returns-in-Statements c = rw c.in-Statements.is c.statement_left.ensures
