use Rattle.fb_resource.proofs.lemmas.Common.{sym, subst, ◌∙◌, IsOf}
use Rattle.fb_resource.proofs.lemmas.Running.{traffic_back, run_back}
use Rattle.fb_resource.proofs.resource.Resource.run_here.Goals as goal

pub take_all-requires-clause-of : goal.take_all-requires-clause-of
take_all-requires-clause-of c =
    let q = c.over-traffic.result in
    subst (IsOf c.args.system.now) (sym (traffic_back c.args.self.now q (c.over-traffic.ensures.agenda ∙ c.replace-agenda.ensures.value) (c.over-traffic.ensures.sent ∙ c.replace-sent.ensures.value))) c.requires.of

pub returns : goal.returns
returns c =
    run_back c.args.system.now c.args.steps c.args.self.now c.take_all.new.self c.over-traffic.result c.take_all.new.traffic c.args.to _ _ _ _ c.in_ok-stop.stop
    (c.over-traffic.ensures.agenda ∙ c.replace-agenda.ensures.value) (c.over-traffic.ensures.sent ∙ c.replace-sent.ensures.value)
    c.into_kept-agenda.ensures.agenda c.into_kept-agenda.ensures.sent c.replace-lines.ensures.value c.replace-mail.ensures.value c.in_ok-stop.ensures
