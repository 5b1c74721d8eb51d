use Rattle.fb_window.proofs.post.deliver_next.Goals as goal

pub returns-in_ok-push-in-Ok : goal.returns-in_ok-push-in-Ok
returns-in_ok-push-in-Ok c = (c.in-Some.messages, c.receive.new.self, c.in-Some.ensures.items, c.in-Ok.ensures.received, c.in_ok-push-in-Ok.ensures.items)
