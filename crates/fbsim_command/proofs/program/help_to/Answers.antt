use Rattle.fb_types.proofs.Common.{refl, subst, Appends}
use Rattle.fbsim_command.proofs.program.help_to.Goals as goal

pub returns-clause-whole : goal.returns-clause-whole
returns-clause-whole g c =
    (refl, subst (Appends (g.W.Write.contents c.args.out.now) (g.W.Write.contents c.write_text.new.out)) c.as_bytes.ensures.value c.in_ok-write_text.ensures.whole)
