use Rattle.fb_agenda.proofs.lemmas.Common.{sym, subst, IsFirst, Pending}
use Rattle.fb_agenda.proofs.lemmas.Moments.{quiet_first}
use Rattle.fb_agenda.proofs.later.Later.note_first.Goals as goal

pub invariant_of-self : goal.invariant_of-self
invariant_of-self c =
    let inv = c.self.invariant in
    record {
      split = inv.split;
      only = inv.only;
      untimed = inv.untimed;
      marked = inv.marked;
      quiet = quiet_first c.of-self-inside.result _ c.args.first.now c.of-self-inside.ensures.tick c.of-self-inside.ensures.resource (subst (λ (l : Pending). IsFirst l.events c.args.first.now) (sym c.self.view_is) c.requires);
    }
