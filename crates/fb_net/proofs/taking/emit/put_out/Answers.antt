use Rattle.fb_net.proofs.lemmas.Common.{◌∷◌, [], ◌++◌, ◌∙◌, List, sym, ap, on_ok_weaker, carried_by, Out}
use Rattle.fb_net.specs.declared.outbox.Out.TheVariants.{Local}
use Rattle.fb_net.proofs.lemmas.taking.Targets.{kept_to, sent_to}
use Rattle.fb_net.proofs.taking.emit.put_out.Goals as goal

pub returns-then-reached : goal.returns-then-reached
returns-then-reached c =
    let n = c.args.reached.now in
    let carried = carried_by c.args.instance c.args.indexes.now c.args.values.now in
    c.push_reserved.ensures.items
    ∙ ap (λ (os : List Out). os ++ Local n.target ∷ []) c.in_ok-reserve.ensures.items
    ∙ ap (λ (o : Out). c.args.outs.now.items ++ o ∷ []) (sym (kept_to n carried c.if-reached.true))

pub returns : goal.returns
returns c =
    let n = c.args.reached.now in
    let carried = carried_by c.args.instance c.args.indexes.now c.args.values.now in
    on_ok_weaker c.put_message.result
    (λ sent. sent ∙ ap (λ (o : Out). c.args.outs.now.items ++ o ∷ []) (sym (sent_to n carried c.if-reached.false)))
    c.put_message.ensures
