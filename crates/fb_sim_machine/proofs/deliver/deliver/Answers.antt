use Rattle.fb_types.proofs.Common.{◌<◌, [], All, map, refl, sym, ap, subst, ◌∙◌, append-nil, arith, nil_from_length, on_ok_weaker, system_of, found, message_key, or_else}
use Rattle.fb_types.specs.declared.run.Message.{Message}
use Rattle.fb_types.specs.declared.run.Event.TheVariants.{Arrival}
use Rattle.fb_resource.specs.Posts.{IsMessage, IsPut, arriving, key_of}
use Rattle.fb_resource.specs.Waiting.{meaning}
use Rattle.fb_resource.proofs.lemmas.PostLaws.{next_of, order_put}
use Rattle.fb_sim_machine.proofs.lemmas.DeliverIs.{delivered_more, message_waits, none_left, only_popped}
use Rattle.fb_sim_machine.proofs.deliver.deliver.Goals as goal

-- ---- Several messages

pub returns-then-len-gt1-clause-put : goal.returns-then-len-gt1-clause-put
returns-then-len-gt1-clause-put c = c.deliver_all.ensures.put

pub returns-then-len-gt1-clause-order : goal.returns-then-len-gt1-clause-order
returns-then-len-gt1-clause-order c = c.deliver_all.ensures.order

-- ---- One message

pub receiver-requires : goal.receiver-requires
receiver-requires c =
    let m = c.in-Some.message in
    let alone = only_popped c.args.mail.now.items c.pop.new.self.items m c.in-Some.ensures.items (let count = c.len.ensures in let ok = c.args.mail.now.ok.0 in omega (arith, c.if-len-gt1.false, count, ok)) in
    next_of (IsMessage c.args.system.now) [] [] m (subst (All (IsMessage c.args.system.now)) alone c.requires)

pub returns-clause-put : goal.returns-clause-put
returns-clause-put c =
    let i = c.args.system.now in
    let m = c.in-Some.message in
    let alone = only_popped c.args.mail.now.items c.pop.new.self.items m c.in-Some.ensures.items (let count = c.len.ensures in let ok = c.args.mail.now.ok.0 in omega (arith, c.if-len-gt1.false, count, ok)) in
    let old = c.args.agenda.now in
    let new = c.put_message.new.self in
    on_ok_weaker c.put_message.result
    (λ put j.
    delivered_more i old old new [] m (subst (λ r. IsPut old new (message_key m.arrives r m.link m.number) (Arrival m)) c.receiver.ensures put) (λ k. refl) j
    ∙ ap (λ ms. or_else (found j (map (arriving i) ms)) (meaning i old j)) (sym alone))
    c.put_message.ensures.put

pub returns-clause-order : goal.returns-clause-order
returns-clause-order c =
    let i = c.args.system.now in
    let m = c.in-Some.message in
    let alone = only_popped c.args.mail.now.items c.pop.new.self.items m c.in-Some.ensures.items (let count = c.len.ensures in let ok = c.args.mail.now.ok.0 in omega (arith, c.if-len-gt1.false, count, ok)) in
    let old = c.args.agenda.now in
    let new = c.put_message.new.self in
    let is = next_of (IsMessage i) [] [] m (subst (All (IsMessage i)) alone c.requires) in
    on_ok_weaker c.put_message.result
    (λ put tick before later.
    let arrives = next_of (λ (x : Message). tick < x.arrives) [] [] m (subst (All (λ (x : Message). tick < x.arrives)) alone later) in
    order_put i tick old new (key_of (system_of i) m) (Arrival m) (subst (λ r. IsPut old new (message_key m.arrives r m.link m.number) (Arrival m)) c.receiver.ensures put) (λ one. omega (arith, one))
    (message_waits i tick m c.facts.ensures.accepted c.facts.ensures.limits is arrives) c.put_message.ensures.due before)
    c.put_message.ensures.put

pub returns-clause-none : goal.returns-clause-none
returns-clause-none c =
    let m = c.in-Some.message in
    let none = none_left c.args.mail.now.items c.pop.new.self.items m c.in-Some.ensures.items (let count = c.len.ensures in let ok = c.args.mail.now.ok.0 in omega (arith, c.if-len-gt1.false, count, ok)) in
    on_ok_weaker c.put_message.result (λ put. none) c.put_message.ensures.put

-- ---- No message

pub returns-in_default-clause-put : goal.returns-in_default-clause-put
returns-in_default-clause-put c j =
    let i = c.args.system.now in
    let none = nil_from_length c.args.mail.now.items (sym c.args.mail.now.ok.0 ∙ c.in_default.ensures.cases.0) in
    ap (λ ms. or_else (found j (map (arriving i) ms)) (meaning i c.args.agenda.now j)) (sym none)

pub returns-in_default-clause-none : goal.returns-in_default-clause-none
returns-in_default-clause-none c =
    let none = nil_from_length c.args.mail.now.items (sym c.args.mail.now.ok.0 ∙ c.in_default.ensures.cases.0) in
    sym (append-nil c.pop.new.self.items) ∙ sym c.in_default.ensures.items ∙ none
