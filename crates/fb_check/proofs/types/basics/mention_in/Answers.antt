use Rattle.fb_check.proofs.lemmas.Common.{sym, ap, Naming, mention_in}
use Rattle.fb_check.proofs.types.basics.mention_in.Goals as goal

pub returns-in-Guard : goal.returns-in-Guard
returns-in-Guard c = ap (λ (n : Naming). mention_in n c.args.mention) (sym c.in-Guard.is)

pub returns-in-Body : goal.returns-in-Body
returns-in-Body c = ap (λ (n : Naming). mention_in n c.args.mention) (sym c.in-Body.is)
