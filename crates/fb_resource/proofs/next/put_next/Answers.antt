use Rattle.fb_types.proofs.Common.{◌≡◌, true, refl, sym, subst, OnTrue}
use Rattle.fb_agenda.specs.Agendas.{waiting}
use Rattle.fb_resource.specs.Takings.{IsRaised, with_next}
use Rattle.fb_resource.proofs.lemmas.Finding.{put_next}
use Rattle.fb_resource.proofs.lemmas.ReadyIs.{when_ok}
use Rattle.fb_resource.proofs.next.put_next.Goals as goal

pub returns-then-raised-clause-put : goal.returns-then-raised-clause-put
returns-then-raised-clause-put c = when_ok c.put_back.result c.put_back.ensures.put
    (λ put j.
    subst (λ b. waiting c.put_back.new.self j ≡ waiting (with_next b c.args.least.now.key c.args.least.now.event c.args.agenda.now) j) (sym c.if-raised.true)
    (put_next c.args.least.now.key c.args.least.now.event c.args.agenda.now c.put_back.new.self put j))

pub returns-else-raised-clause-put : goal.returns-else-raised-clause-put
returns-else-raised-clause-put c j =
    subst (λ b. waiting c.args.agenda.now j ≡ waiting (with_next b c.args.least.now.key c.args.least.now.event c.args.agenda.now) j) (sym c.if-raised.false) refl

pub put_back-requires : goal.put_back-requires
put_back-requires c = subst (λ b. OnTrue b (IsRaised c.args.least.now.key c.args.least.now.event)) c.if-raised.true c.requires
