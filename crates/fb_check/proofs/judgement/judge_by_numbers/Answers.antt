use Rattle.fb_check.proofs.judgement.judge_by_numbers.Goals as goal

pub judge_mapping-requires-clause-passed : goal.judge_mapping-requires-clause-passed
judge_mapping-requires-clause-passed c = c.in_ok-judge_networks.ensures.ok

pub judge_stimuli-requires-clause-passed : goal.judge_stimuli-requires-clause-passed
judge_stimuli-requires-clause-passed c = c.in_ok-holders.ensures.ok

pub judge_limits-requires-clause-passed : goal.judge_limits-requires-clause-passed
judge_limits-requires-clause-passed c = c.in_ok-rows.ensures.ok

pub returns-clause-accepted : goal.returns-clause-accepted
returns-clause-accepted c = c.in_ok-judge_limits.ensures.ok

pub returns-clause-holders : goal.returns-clause-holders
returns-clause-holders c = c.in_ok-holders.ensures.holders

pub returns-clause-rows : goal.returns-clause-rows
returns-clause-rows c = c.in_ok-rows.ensures.rows
