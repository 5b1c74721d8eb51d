use Rattle.fb_types.proofs.Common.{◌≡◌, ◌<◌, ◌≤◌, ◌++◌, [], ◌∷◌, All, length, refl, sym, ap, subst, ◌∙◌, append_assoc, append-nil, arith, Global, into_iter_items, length-set, nil_from_length, slice_get_read, system_of}
use Rattle.fb_types.specs.declared.run.Message.{Message}
use Rattle.std.proofs.Common.{Vec}
use Rattle.fb_link.specs.Exchanges.{all_of, AreDealt}
use Rattle.fb_link.proofs.lemmas.Dealt.{all_snoc, sorted_all, sorted_more, sorted_none}
use Rattle.fb_link.proofs.lemmas.Lists.{next_of}
use Rattle.fb_link.proofs.inboxes.exchange.Goals as goal

pub deal-requires-clause-targets : goal.deal-requires-clause-targets
deal-requires-clause-targets c =
    let shown : Vec Message Global → Type 0 = λ box. All (λ m. m.target.instance < length (system_of c.args.system.now).paths) box.items in
    let ys = c.loop-outbox.yielded in
    let rest = ap (λ z. ys ++ z) (sym c.in-Some.ensures.steps.0) ∙ c.loop-outbox.invariant.rest in
    next_of shown ys (into_iter_items c.next.new.self) c.in-Some.outbox (subst (All shown) (sym rest) c.requires.targets)

pub loop-outbox-preserved : goal.loop-outbox-preserved
loop-outbox-preserved c =
    let sys = system_of c.args.system.now in
    let inv = c.loop-outbox.invariant in
    let step = c.in-Some.ensures.steps in
    let rest = ap (λ z. c.loop-outbox.yielded ++ z) (sym step.0) ∙ inv.rest in
    record {
      counted = c.in_ok-deal.ensures.counted ∙ inv.counted;
      dealt = subst (λ z. AreDealt sys z c.deal.new.inboxes.items) (sym (all_snoc c.loop-outbox.yielded c.in-Some.outbox)) (c.in_ok-deal.ensures.dealt (all_of c.loop-outbox.yielded) inv.dealt);
      rest = append_assoc c.loop-outbox.yielded (c.in-Some.outbox ∷ []) (into_iter_items c.next.new.self) ∙ rest;
      len = let same = ap length step.0 in omega (arith, inv.len, step.1, same);
    }

pub loop-receiver-init : goal.loop-receiver-init
loop-receiver-init c =
    let sys = system_of c.args.system.now in
    let inv = c.loop-outbox.invariant in
    let ys = c.loop-outbox.yielded in
    let none : into_iter_items c.loop-outbox.outbox-iterator ≡ [] = nil_from_length _ (let done = c.in-None.ensures.steps.0 in omega (arith, inv.len, done)) in
    let all = sym (append-nil ys) ∙ ap (λ z. ys ++ z) (sym none) ∙ inv.rest in
    record {
      counted = inv.counted;
      sorted = sorted_none sys _ _ (subst (λ boxes. AreDealt sys (all_of boxes) c.loop-outbox.inboxes.items) all inv.dealt);
    }

pub loop-receiver-preserved : goal.loop-receiver-preserved
loop-receiver-preserved c =
    let sys = system_of c.args.system.now in
    let inv = c.loop-receiver.invariant in
    let boxes = c.loop-receiver.inboxes.items in
    let n = c.loop-receiver.receiver in
    let counted = inv.counted in
    let first = c.loop-outbox.invariant.counted in
    let end = c.len-receiver-end.ensures in
    let ok = c.loop-outbox.inboxes.ok.0 in
    let test = c.loop-receiver-test.true in
    let within : n < length boxes = omega (arith, counted, first, end, ok, test) in
    let was = slice_get_read boxes (length boxes) n c.index_mut.result.now refl within c.index_mut.ensures.value in
    record {
      counted = length-set boxes n c.sort.new.messages ∙ inv.counted;
      sorted = sorted_more sys (all_of c.args.outboxes.items) boxes _ n c.index_mut.result.now c.sort.new.messages within was c.in_ok-sort.ensures refl inv.sorted;
    }

pub returns-clause-each : goal.returns-clause-each
returns-clause-each c =
    let inv = c.loop-receiver.invariant in
    let boxes = c.loop-receiver.inboxes.items in
    let n = c.loop-receiver.receiver in
    let counted = inv.counted in
    let first = c.loop-outbox.invariant.counted in
    let end = c.len-receiver-end.ensures in
    let ok = c.loop-outbox.inboxes.ok.0 in
    let test = c.loop-receiver-test.false in
    let enough : length boxes ≤ n = omega (arith, counted, first, end, ok, test) in
    sorted_all (system_of c.args.system.now) (all_of c.args.outboxes.items) boxes n enough inv.sorted
