use Rattle.fb_window.proofs.lemmas.Common.{◌≡◌, All, List, [], subst, Vec, system_of, Message, all_of}
use Rattle.fb_types.proofs.lemmas.lists.ByIndex.{all_at}
use Rattle.fb_window.specs.Mails.{AreDelivered}
use Rattle.fb_window.proofs.lemmas.lines.FoundLines.{boxes_empty, posted_none, posted_of}
use Rattle.fb_window.proofs.post.post.Goals as goal

pub returns-then-are_empty : goal.returns-then-are_empty
returns-then-are_empty c =
    let boxes = c.args.outboxes.items in
    let none = subst (λ (z : List (Vec Message)). All (λ p. p.items ≡ []) z) c.deref.ensures.value (c.are_empty.ensures c.if-are_empty.true) in
    posted_none (system_of c.args.system.now) (all_of boxes) c.args.resources.items (boxes_empty boxes (λ r box e. all_at (λ (p : Vec Message). p.items ≡ []) boxes r box none e))

pub returns : goal.returns
returns c =
    let boxes = c.in_ok-inboxes.inboxes.items in
    let given = subst (λ (z : List (Vec Message)). AreDelivered c.args.resources.items z c.deliver_each-received.new.delivered.items) c.into_iter.ensures.rest c.in_ok-received.ensures in
    posted_of (system_of c.args.system.now) (all_of c.args.outboxes.items) c.args.resources.items c.deliver_each-received.new.delivered.items boxes c.in_ok-inboxes.ensures.each given
