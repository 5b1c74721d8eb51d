use Rattle.fb_types.proofs.Common.{map, Vec}
use Rattle.fb_types.specs.declared.run.Line.{Line}
use Rattle.fb_sim.proofs.lemmas.text.Texts.{one_joined}
use Rattle.fb_sim.proofs.lemmas.text.TextsAre.{unwritten_texts}
use Rattle.fb_sim.proofs.rounds.unwritten_lines.UnwrittenLines.text.Goals as goal

-- the texts that workers made
pub returns-in-Some : goal.returns-in-Some
returns-in-Some g c =
    let i = c.args.system.now in
    let lists = map (λ (p : Vec Line). p.items) c.args.self.now.lists.items in
    one_joined i c.args.form lists c.with_last.result c.new.result c.joined_text.result c.new.ensures.items c.with_last.ensures
    (c.joined_text.ensures i c.args.form lists
    (unwritten_texts i c.args.form c.args.self.now.lists.items c.args.self.now.texts c.in-Some.texts.now c.in-Some.ensures c.requires.texts))
