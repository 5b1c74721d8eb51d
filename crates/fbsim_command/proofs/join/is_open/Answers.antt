use Rattle.std.proofs.Common.{rules, ◌≡◌, ◌+◌, drop, get_or, sym, ap, ◌∙◌}
use Rattle.fbsim_command.specs.Joining.{beyond, byte_at, is_open_from}
use Rattle.fbsim_command.specs.declared.join.Within.{Within}
use Rattle.fbsim_command.proofs.lemmas.files.OpenLaws.{open-end, open-turn}
use Rattle.fbsim_command.proofs.join.is_open.Goals as goal

pub loop-i-preserved : goal.loop-i-preserved
loop-i-preserved c =
    let z = c.args.text.now in
    let i = c.loop-i.i in
    let next : c.beyond-within.result ≡ beyond c.loop-i.within (get_or z i 0) (byte_at z (i + 1)) = search rules in
    ap (λ (w : Within). is_open_from w (drop (i + 1) z)) next ∙ sym (open-turn c.loop-i.within z i c.loop-i-test.true) ∙ c.loop-i.invariant

pub returns : goal.returns
returns c = c.leaves_open.ensures ∙ sym (open-end c.loop-i.within c.args.text.now c.loop-i.i c.loop-i-test.false) ∙ c.loop-i.invariant
