use Rattle.fb_agenda.proofs.lemmas.Common.{sym, ap, subst, true, ◌∙◌, AreApart, local_events, contents_of, Pending}
use Rattle.fb_agenda.proofs.lemmas.QueueAndOthers.{contents}
use Rattle.fb_agenda.proofs.lemmas.NothingWaits.{is_clear}
use Rattle.fb_agenda.proofs.agenda.Agenda.is_clear.Goals as goal

-- ---- It is noted

pub returns-then-is_past-clause-clear : goal.returns-then-is_past-clause-clear
returns-then-is_past-clause-clear c =
    rw (← c.self.view_is)
    (is_clear true (contents_of c.self.inside) (record { tick = c.args.tick; resource = c.args.resource }) (ap local_events c.if-not-is_empty.ensures) c.if-is_past.ensures)

-- ---- It is found

pub invariant_of-self : goal.invariant_of-self
invariant_of-self c = subst (λ (l : Pending). AreApart (contents (local_events c.self.inside.now) l)) (sym c.comes_past.ensures.kept) c.self.invariant

pub returns-clause-clear : goal.returns-clause-clear
returns-clause-clear c =
    rw (← c.self.view_is)
    (is_clear c.comes_past.result (contents_of c.self.inside) (record { tick = c.args.tick; resource = c.args.resource }) (ap local_events c.if-not-is_empty.ensures) c.comes_past.ensures.past)

pub returns-clause-kept : goal.returns-clause-kept
returns-clause-kept c = ap (λ (l : Pending). contents (local_events c.self.inside.now) l) c.comes_past.ensures.kept ∙ c.self.view_is
