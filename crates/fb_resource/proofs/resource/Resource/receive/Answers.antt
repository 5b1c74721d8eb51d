use Rattle.fb_types.proofs.Common.{ap, ◌∙◌, on_ok_weaker, found, or_else}
use Rattle.fb_agenda.specs.Agendas.{waiting}
use Rattle.fb_agenda.specs.Arrivals.{arrivals_at}
use Rattle.fb_resource.proofs.lemmas.Received.{received}
use Rattle.fb_resource.proofs.resource.Resource.receive.Goals as goal

pub returns-clause-received : goal.returns-clause-received
returns-clause-received c =
    let x = c.args.self.now in
    let ms = c.args.messages.items in
    on_ok_weaker c.receive.result
    (λ put.
    received ms x c.receive.new.self (λ j. put j ∙ ap (λ n. or_else (found j (arrivals_at n ms)) (waiting x.agenda j)) c.resource-resource.ensures) c.receive.ensures.due)
    c.receive.ensures.put
