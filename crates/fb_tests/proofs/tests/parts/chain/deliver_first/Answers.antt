use Rattle.std.proofs.Common.{subst, sym, refl, All}
use Rattle.fb_resource.specs.Resources.{IsFor, IsSame}
use Rattle.fb_tests.proofs.lemmas.RefusedMemory.{still_for, still_of}
use Rattle.fb_tests.proofs.lemmas.Unheard.{are_new}
use Rattle.fb_tests.proofs.tests.parts.chain.deliver_first.Goals as goal

pub returns-in-Ok : goal.returns-in-Ok
returns-in-Ok g c =
    c.in-Ok.ensures.received.of c.args.system.now c.requires.of
    (subst (λ ms. All (IsFor c.args.system.now c.args.resource) ms) c.as_slice.ensures.value (c.if-not-are_for.ensures refl))

pub returns-in-Ok-receive : goal.returns-in-Ok-receive
returns-in-Ok-receive g c =
    let i = c.args.system.now in
    let old = c.args.resource in
    let same : IsSame old c.receive.new.self =
    c.in-Err.ensures.err (are_new old.tree.resource c.args.messages.items old.agenda c.requires.unheard) in
    c.in-Ok-receive.ensures.received.of i (still_of i old c.receive.new.self same c.requires.of)
    (subst (λ ms. All (IsFor i c.receive.new.self) ms) (sym c.in-Err.ensures.back)
    (still_for i old c.receive.new.self c.args.messages.items same
    (subst (λ ms. All (IsFor i old) ms) c.as_slice.ensures.value (c.if-not-are_for.ensures refl))))
