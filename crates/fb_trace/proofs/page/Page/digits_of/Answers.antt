use Rattle.fb_trace.proofs.page.Page.digits_of.Goals as goal

pub returns-clause-kept : goal.returns-clause-kept
returns-clause-kept c = c.self.view_is
