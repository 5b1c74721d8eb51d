use Rattle.fb_types.proofs.Common.{map, ◌∙◌}
use Rattle.fb_types.specs.declared.library.Instance.{Instance}
use Rattle.fb_check.proofs.mapping_checks.judge_mapping.Goals as goal

pub judge_links-requires : goal.judge_links-requires
judge_links-requires c = record { mapping = c.in_ok-mapping.ensures.mapping; passed = c.in_ok-mapping.ensures.ok }

pub judge_events-requires : goal.judge_events-requires
judge_events-requires c = record { mapping = c.in_ok-mapping.ensures.mapping; resolved = c.requires.resolved; passed = c.in_ok-judge_links.ensures.ok }

pub returns-clause-holders : goal.returns-clause-holders
returns-clause-holders c =
    c.in_ok-holders.ensures ∙ (λ j. map (λ (i : Instance). c.in_ok-mapping.ensures.mapping.holds.holder i.name j) c.args.case.now.library.now.application.network.instances)

pub returns-clause-ok : goal.returns-clause-ok
returns-clause-ok c = c.in_ok-judge_events.ensures.ok
