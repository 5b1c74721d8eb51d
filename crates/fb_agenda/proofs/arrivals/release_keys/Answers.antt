use Rattle.fb_agenda.proofs.lemmas.Common.{◌≡◌, take, refl, sym, ap, subst, ◌∙◌, None, arith, Key, KeepsOthers, LacksKeys, arrival_at, arrivals_at, Sets}
use Rattle.fb_agenda.proofs.lemmas.MessagesPut.{arrivals_more, keeps_more, lacks_more}
use Rattle.fb_agenda.proofs.arrivals.release_keys.Goals as goal

pub remove-requires : goal.remove-requires
remove-requires c = λ timer. let class : c.key_of_arrival.result.class ≡ 2 = ap (λ (k : Key). k.class) c.key_of_arrival.ensures in omega (arith, timer, class)

pub loop-message-preserved : goal.loop-message-preserved
loop-message-preserved c =
    let r = c.args.receiver in
    let ms = c.args.messages.now in
    let n = c.loop-message.message-index in
    let m = c.message-item.result in
    let old = c.args.later.now.events in
    let mid = c.loop-message.later.events in
    let new = c.remove.new.self.events in
    let k = (arrival_at r m).0 in
    let more = arrivals_more r ms n m (omega (arith, c.loop-message-test.true)) c.message-item.is in
    let sets : Sets k None mid new = subst (λ (z : Key). Sets z None mid new) c.key_of_arrival.ensures c.remove.ensures.gone in
    record {
      kept = subst (λ es. KeepsOthers es old new) (sym more) (keeps_more (arrivals_at r (take n ms)) k (arrival_at r m).1 None mid new sets old c.loop-message.invariant.kept);
      freed = subst (λ es. LacksKeys es new) (sym more) (lacks_more (arrivals_at r (take n ms)) k (arrival_at r m).1 None mid new sets refl c.loop-message.invariant.freed);
      due = c.remove.ensures.due ∙ c.loop-message.invariant.due;
    }
