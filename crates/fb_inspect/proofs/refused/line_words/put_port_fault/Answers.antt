use Rattle.fb_inspect.proofs.refused.line_words.put_port_fault.Goals as goal

pub returns-in-Sign : goal.returns-in-Sign
returns-in-Sign c = rw c.in-Sign.is c.put_known.ensures

pub returns-in-NoEvent : goal.returns-in-NoEvent
returns-in-NoEvent c = rw c.in-NoEvent.is c.put_known-in-NoEvent.ensures

pub returns-in-Instance : goal.returns-in-Instance
returns-in-Instance c = rw c.in-Instance.is c.put_unknown-in-Instance.ensures
