use Rattle.fb_agenda.proofs.lemmas.Common.{◌≡◌, take, refl, sym, ap, subst, ◌∙◌, Some, arith, Key, HasKeys, KeepsOthers, arrival_at, arrivals_at, Pending, Sets}
use Rattle.fb_types.specs.declared.run.Event.TheVariants.{Stimulus}
use Rattle.fb_agenda.proofs.lemmas.MessagesPut.{arrivals_more, has_more, keeps_all, keeps_more}
use Rattle.fb_agenda.proofs.arrivals.reserve_keys.Goals as goal

pub put-requires : goal.put-requires
put-requires c = λ timer. let class : c.key_of_arrival.result.class ≡ 2 = ap (λ (k : Key). k.class) c.key_of_arrival.ensures in omega (arith, timer, class)

pub returns-in_err-put-clause-kept : goal.returns-in_err-put-clause-kept
returns-in_err-put-clause-kept c =
    keeps_all c.args.receiver c.args.messages.now c.loop-message.message-index c.args.later.now.events c.put.new.self.events
    (subst (λ (l : Pending). KeepsOthers (arrivals_at c.args.receiver (take c.loop-message.message-index c.args.messages.now)) c.args.later.now.events l.events) (sym c.in_err-put.ensures.err)
    c.loop-message.invariant.kept)

pub loop-message-preserved : goal.loop-message-preserved
loop-message-preserved c =
    let r = c.args.receiver in
    let ms = c.args.messages.now in
    let n = c.loop-message.message-index in
    let m = c.message-item.result in
    let old = c.args.later.now.events in
    let mid = c.loop-message.later.events in
    let new = c.put.new.self.events in
    let k = (arrival_at r m).0 in
    let more = arrivals_more r ms n m (omega (arith, c.loop-message-test.true)) c.message-item.is in
    let sets : Sets k (Some (Stimulus 0)) mid new = subst (λ (z : Key). Sets z (Some (Stimulus 0)) mid new) c.key_of_arrival.ensures c.in_ok-put.ensures.put in
    record {
      kept = subst (λ es. KeepsOthers es old new) (sym more) (keeps_more (arrivals_at r (take n ms)) k (arrival_at r m).1 (Some (Stimulus 0)) mid new sets old c.loop-message.invariant.kept);
      held = subst (λ es. HasKeys es new) (sym more) (has_more (arrivals_at r (take n ms)) k (arrival_at r m).1 (Some (Stimulus 0)) mid new sets refl c.loop-message.invariant.held);
      due = c.put.ensures.due ∙ c.loop-message.invariant.due;
    }
