use Rattle.fb_laws.proofs.lemmas.soundness.Accepting.{sound_of}
use Rattle.fb_tests.proofs.lemmas.Unheard.{unheard}
use Rattle.fb_tests.proofs.tests.parts.chain.opened.Goals as goal

pub returns-clause-unheard : goal.returns-clause-unheard
returns-clause-unheard g c =
    let i = c.args.system.now in
    unheard i c.args.number _ (sound_of i (record { accepted = c.facts.ensures.accepted; limits = c.facts.ensures.limits })) c.in-Ok.ensures.opened
