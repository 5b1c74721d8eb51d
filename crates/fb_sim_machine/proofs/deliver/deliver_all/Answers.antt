use Rattle.fb_types.proofs.Common.{◌≡◌, ◌++◌, ◌∷◌, ◌<◌, [], All, map, vec_len, sym, ap, subst, ◌∙◌, append_assoc, append-nil, arith, eqb-true, nil_from_length, system_of, found, message_key, or_else}
use Rattle.fb_types.specs.declared.run.Message.{Message}
use Rattle.fb_types.specs.declared.run.Event.TheVariants.{Arrival}
use Rattle.std.specs.Vec.Iter.{drain_items}
use Rattle.fb_resource.specs.Posts.{IsMessage, IsPut, arriving, key_of}
use Rattle.fb_resource.specs.Waiting.{meaning}
use Rattle.fb_resource.proofs.lemmas.Lists.{slice_all}
use Rattle.fb_resource.proofs.lemmas.PostLaws.{next_of, order_put}
use Rattle.fb_sim_machine.proofs.lemmas.DeliverIs.{delivered_more, message_waits}
use Rattle.fb_sim_machine.proofs.deliver.deliver_all.Goals as goal

-- ---- No message

pub returns-then-is_empty-clause-put : goal.returns-then-is_empty-clause-put
returns-then-is_empty-clause-put c j =
    let i = c.args.system.now in
    let mail = c.args.mail.now in
    let none = nil_from_length mail.items (sym mail.ok.0 ∙ eqb-true (vec_len mail) 0 (sym c.is_empty.ensures ∙ c.if-is_empty.true)) in
    ap (λ ms. or_else (found j (map (arriving i) ms)) (meaning i c.args.agenda.now j)) (sym none)

pub returns-then-is_empty-clause-none : goal.returns-then-is_empty-clause-none
returns-then-is_empty-clause-none c =
    let mail = c.args.mail.now in
    nil_from_length mail.items (sym mail.ok.0 ∙ eqb-true (vec_len mail) 0 (sym c.is_empty.ensures ∙ c.if-is_empty.true))

-- ---- Messages

pub loop-message-preserved : goal.loop-message-preserved
loop-message-preserved c =
    let i = c.args.system.now in
    let sys = system_of i in
    let inv = c.loop-message.invariant in
    let step = c.in-Some.ensures.steps in
    let m = c.in-Some.message in
    let mid = c.loop-message.agenda in
    let new = c.put_message.new.self in
    let whole : drain_items c.into_iter-message-iterator.result ≡ c.args.mail.now.items =
    rw c.into_iter-message-iterator.ensures.into_iter_gives (c.drain-message-items.ensures.rest ∙ slice_all c.args.mail.now.items c.args.mail.now.len c.args.mail.now.ok.0) in
    let rest = ap (λ z. c.loop-message.yielded ++ z) (sym step.0) ∙ inv.rest in
    let is = next_of (IsMessage i) c.loop-message.yielded _ m (subst (All (IsMessage i)) (sym (rest ∙ whole)) c.requires) in
    let put = subst (λ r. IsPut mid new (message_key m.arrives r m.link m.number) (Arrival m)) c.receiver.ensures c.in_ok-put_message.ensures.put in
    record {
      put = delivered_more i c.args.agenda.now mid new c.loop-message.yielded m put inv.put;
      order = λ tick before later.
          let arrives = next_of (λ (x : Message). tick < x.arrives) c.loop-message.yielded _ m (subst (All (λ (x : Message). tick < x.arrives)) (sym rest) later) in
          order_put i tick mid new (key_of sys m) (Arrival m) put (λ one. omega (arith, one)) (message_waits i tick m c.facts.ensures.accepted c.facts.ensures.limits is arrives) c.put_message.ensures.due (inv.order tick before later);
      due = c.put_message.ensures.due ∙ inv.due;
      rest = append_assoc c.loop-message.yielded (m ∷ []) (drain_items c.next.new.self) ∙ rest;
      keeps = (step.2.0 ∙ inv.keeps.0, step.2.1 ∙ inv.keeps.1, step.2.2 ∙ inv.keeps.2);
    }

pub returns-clause-put : goal.returns-clause-put
returns-clause-put c j =
    let i = c.args.system.now in
    let inv = c.loop-message.invariant in
    let none : drain_items c.loop-message.message-iterator ≡ [] = c.in-None.ensures.steps.0 in
    let whole : drain_items c.into_iter-message-iterator.result ≡ c.args.mail.now.items =
    rw c.into_iter-message-iterator.ensures.into_iter_gives (c.drain-message-items.ensures.rest ∙ slice_all c.args.mail.now.items c.args.mail.now.len c.args.mail.now.ok.0) in
    let all = sym (append-nil c.loop-message.yielded) ∙ ap (λ z. c.loop-message.yielded ++ z) (sym none) ∙ inv.rest ∙ whole in
    inv.put j ∙ ap (λ ms. or_else (found j (map (arriving i) ms)) (meaning i c.args.agenda.now j)) all

pub returns-clause-order : goal.returns-clause-order
returns-clause-order c tick before later =
    let whole : drain_items c.into_iter-message-iterator.result ≡ c.args.mail.now.items =
    rw c.into_iter-message-iterator.ensures.into_iter_gives (c.drain-message-items.ensures.rest ∙ slice_all c.args.mail.now.items c.args.mail.now.len c.args.mail.now.ok.0) in
    c.loop-message.invariant.order tick before (subst (All (λ (x : Message). tick < x.arrives)) (sym whole) later)
