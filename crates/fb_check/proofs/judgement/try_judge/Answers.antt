use Rattle.fb_check.proofs.judgement.try_judge.Goals as goal

pub returns-clause-accepted : goal.returns-clause-accepted
returns-clause-accepted c = c.in_ok-holders.ensures.accepted

pub returns-clause-catalog : goal.returns-clause-catalog
returns-clause-catalog c = c.in_ok-catalog.ensures.ok

pub returns-clause-numbers : goal.returns-clause-numbers
returns-clause-numbers c = c.in_ok-numbers.ensures.ok

pub returns-clause-holders : goal.returns-clause-holders
returns-clause-holders c = c.in_ok-holders.ensures.holders

pub returns-clause-rows : goal.returns-clause-rows
returns-clause-rows c = c.in_ok-holders.ensures.rows
