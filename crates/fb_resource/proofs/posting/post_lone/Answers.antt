use Rattle.std.proofs.Common.{rules, ◌≡◌, ◌++◌, [], option_to_list, ap, ◌∙◌}
use Rattle.fb_resource.proofs.lemmas.Lone.{left_none, mailed, not_local, not_none}
use Rattle.fb_resource.proofs.posting.post_lone.Goals as goal

pub returns-in-Send-clause-put : goal.returns-in-Send-clause-put
returns-in-Send-clause-put c s is =
    let first = c.pop.new.self.items in
    mailed c.args.system.now c.args.key.now c.args.link _ c.args.outs.now.items first c.in-Some.only c.in-Send.sending s c.args.mail.now.items _
    c.requires.alone (c.pop.ensures.items ∙ ap (λ o. first ++ option_to_list o) c.in-Some.is) c.in-Send.is is (search rules)

pub returns-in-Send-clause-none : goal.returns-in-Send-clause-none
returns-in-Send-clause-none c =
    let first = c.pop.new.self.items in
    left_none c.args.link c.args.outs.now.items first c.in-Some.only c.requires.alone (c.pop.ensures.items ∙ ap (λ o. first ++ option_to_list o) c.in-Some.is)

-- ---- Nothing else was put out

pub returns-in-Local-clause-put : goal.returns-in-Local-clause-put
returns-in-Local-clause-put c s is =
    let first = c.pop.new.self.items in
    absurd (not_local c.args.link c.args.outs.now.items first c.in-Some.only c.requires.alone (c.pop.ensures.items ∙ ap (λ o. first ++ option_to_list o) c.in-Some.is) _ c.in-Local.is)

pub returns-in-Local-clause-none : goal.returns-in-Local-clause-none
returns-in-Local-clause-none c =
    let first = c.pop.new.self.items in
    left_none c.args.link c.args.outs.now.items first c.in-Some.only c.requires.alone (c.pop.ensures.items ∙ ap (λ o. first ++ option_to_list o) c.in-Some.is)

pub returns-in_default-clause-put : goal.returns-in_default-clause-put
returns-in_default-clause-put c s is =
    let none : c.args.outs.now.items ≡ [] = search rules in
    absurd (not_none c.args.link c.args.outs.now.items c.requires.alone none)

pub returns-in_default-clause-none : goal.returns-in_default-clause-none
returns-in_default-clause-none c =
    let none : c.args.outs.now.items ≡ [] = search rules in
    absurd (not_none c.args.link c.args.outs.now.items c.requires.alone none)
