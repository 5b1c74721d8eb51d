use Rattle.std.proofs.Common.{sym, ◌∙◌}
use Rattle.fb_sim.proofs.lemmas.text.Cutting.{cut_put, past_put}
use Rattle.fb_sim.proofs.rounds.join_texts.put.Goals as goal

pub returns-then-is_past : goal.returns-then-is_past
returns-then-is_past c = λ i form lines h.
    past_put i form c.args.tick lines c.args.text.now.items c.args.rest.now h (sym c.is_past.ensures ∙ c.if-is_past.true)

pub returns : goal.returns
returns c = λ i form lines h.
    cut_put i form c.args.tick lines c.args.text.now.items c.cut.result.0.now c.extend_from_slice.new.self.items c.cut.result.1 (c.cut.ensures i form lines h) c.in_ok-extend_from_slice.ensures.items
