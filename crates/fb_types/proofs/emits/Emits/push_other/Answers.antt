use Rattle.std.proofs.Common.{ap, ◌∙◌}
use Rattle.fb_types.specs.Emitted.{in_order}
use Rattle.fb_types.proofs.lemmas.events.Emitting.{err_kept, other_pushed}
use Rattle.fb_types.proofs.emits.Emits.push_other.Goals as goal

pub returns-clause-ok : goal.returns-clause-ok
returns-clause-ok c =
    let q = c.self.inside in
    other_pushed q.is_filled q.first c.args.emission q.others.items _ c.args.self.now c.self.invariant c.self.view_is c.requires c.in_ok-push_back.ensures.items

pub returns-in_err-push_back-clause-err : goal.returns-in_err-push_back-clause-err
returns-in_err-push_back-clause-err c =
    let q = c.self.inside in
    err_kept c.from_residual.result (ap (in_order q.is_filled q.first) c.in_err-push_back.ensures.items ∙ c.self.view_is)
