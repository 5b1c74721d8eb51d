use Rattle.fb_window.proofs.lemmas.Common.{◌≡◌, length, ◌∙◌, system_of, count_of, AreGood}
use Rattle.fb_window.proofs.lemmas.phases.Opens.{opened_at, opened_belong, opened_brought, opened_left, reached_as}
use Rattle.fb_window.proofs.cores.Core.open.Goals as goal

pub returns-clause-at : goal.returns-clause-at
returns-clause-at c =
    let good : AreGood c.args.system.now = record { accepted = c.facts.ensures.accepted; limits = c.facts.ensures.limits } in
    opened_at c.args.system.now c.args.steps c.args.resources.items good c.requires.opened

pub returns-clause-left : goal.returns-clause-left
returns-clause-left c = λ horizon.
    let counted : length c.in_ok-pending.pending.items ≡ count_of (system_of c.args.system.now) =
    c.in_ok-pending.ensures.counted ∙ c.len.ensures ∙ c.args.resources.ok.0 ∙ c.requires.opened.counted in
    opened_left c.args.system.now c.args.steps horizon c.in_ok-pending.pending.items counted c.in_ok-pending.ensures.none

pub invariant_of-result : goal.invariant_of-result
invariant_of-result c =
    let good : AreGood c.args.system.now = record { accepted = c.facts.ensures.accepted; limits = c.facts.ensures.limits } in
    reached_as c.args.system.now c.in_ok-links.links c.args.steps c.args.resources c.in_ok-pending.pending (c.in_ok-links.ensures)
    (opened_brought c.args.system.now c.args.steps c.args.resources.items good c.requires.opened) c.requires.some_steps c.requires.few_steps
    (c.in_ok-pending.ensures.counted ∙ c.len.ensures ∙ c.args.resources.ok.0) (opened_belong c.args.system.now c.in_ok-pending.pending.items c.in_ok-pending.ensures.none)
