use Rattle.fb_inputs.proofs.near_stimuli.field_span.Goals as goal

pub returns-in_default-clause-found : goal.returns-in_default-clause-found
returns-in_default-clause-found c = λ span field. c.in_default.ensures.begins field.at.begin field.at.record_begins

pub returns-in-None-clause-found : goal.returns-in-None-clause-found
returns-in-None-clause-found c = λ span field. c.in-None.ensures c.args.record_index c.in-Some.ensures.begins span field.at
