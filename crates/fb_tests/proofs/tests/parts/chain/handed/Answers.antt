use Rattle.fb_types.proofs.Common.{◌≡◌, sym, subst, Some, length, slice_get, system_of}
use Rattle.fb_resource.specs.Posts.{IsMessage}
use Rattle.fb_types.proofs.lemmas.lists.ByIndex.{slice_get-append_here}
use Rattle.fb_tests.proofs.lemmas.Handed.{handed}
use Rattle.fb_tests.proofs.tests.parts.chain.handed.Goals as goal

pub returns : goal.returns
returns g c =
    let i = c.args.system.now in
    let inbox = c.in-Some.inbox in
    let rest = c.pop.new.self.items in
    handed (IsMessage i) (system_of i) (length rest) c.args.sent c.in-Ok.outboxes.items inbox.items c.in-Ok.ensures.items c.requires
    (c.in-Ok-exchange.ensures.each (length rest) inbox (subst (λ xs. slice_get xs (length rest) ≡ Some inbox) (sym c.in-Some.ensures.items) (slice_get-append_here rest inbox)))
