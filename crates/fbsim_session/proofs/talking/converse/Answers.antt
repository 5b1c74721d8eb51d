use Rattle.std.proofs.Common.{◌≡◌, refl}
use Rattle.fb_laws.specs.Sound.{AreGood}
use Rattle.fbsim_session.specs.Talks.{Opening, Spoken, of_talk}
use Rattle.fbsim_session.proofs.lemmas.Telling.{concludes_lost, nothing_told}
use Rattle.fbsim_session.proofs.talking.converse.Goals as goal

pub returns-in_err-line : goal.returns-in_err-line
returns-in_err-line g c =
    let i = c.args.system.now in
    let o = c.args.options in
    let good : AreGood i = record { accepted = c.facts.ensures.accepted; limits = c.facts.ensures.limits } in
    concludes_lost (record { inputs = i; steps = o.steps; form = o.form; start = g.W.Write.contents c.args.out.now }) good c.from_residual.result c.from_residual.ensures.1

pub returns-in_err-open : goal.returns-in_err-open
returns-in_err-open g c =
    let i = c.args.system.now in
    let o = c.args.options in
    let good : AreGood i = record { accepted = c.facts.ensures.accepted; limits = c.facts.ensures.limits } in
    concludes_lost (record { inputs = i; steps = o.steps; form = o.form; start = g.W.Write.contents c.args.out.now }) good c.from_residual-in_err-open.result c.from_residual-in_err-open.ensures.1

pub answer_all-requires : goal.answer_all-requires
answer_all-requires g c =
    let i = c.args.system.now in
    let o = c.args.options in
    let x : Opening = record { inputs = i; steps = o.steps; form = o.form; start = g.W.Write.contents c.args.out.now } in
    let good : AreGood i = record { accepted = c.facts.ensures.accepted; limits = c.facts.ensures.limits } in
    let e = c.in_ok-open.ensures.opened in
    let t : Spoken = record { session = c.in_ok-open.field-0; answered = 0 } in
    let of : of_talk x.start t.session ≡ x = (λ k. record { inputs = e.0 k; steps = e.1 k; form = e.2 k; start = x.start }) in
    record { told = (x, nothing_told x t good of e.5 e.8 refl c.in_ok-open.ensures.stands) }

pub returns : goal.returns
returns g c =
    let i = c.args.system.now in
    let o = c.args.options in
    let x : Opening = record { inputs = i; steps = o.steps; form = o.form; start = g.W.Write.contents c.args.out.now } in
    let good : AreGood i = record { accepted = c.facts.ensures.accepted; limits = c.facts.ensures.limits } in
    let e = c.in_ok-open.ensures.opened in
    let t : Spoken = record { session = c.in_ok-open.field-0; answered = 0 } in
    let of : of_talk x.start t.session ≡ x = (λ k. record { inputs = e.0 k; steps = e.1 k; form = e.2 k; start = x.start }) in
    c.answer_all.ensures x (nothing_told x t good of e.5 e.8 refl c.in_ok-open.ensures.stands)
