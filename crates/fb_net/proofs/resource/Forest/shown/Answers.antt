use Rattle.fb_net.proofs.lemmas.Common.{ap, sym, ◌∙◌, true≢false, unwrap_or, value_in}
use Rattle.fb_types.specs.Flat.{zero_value}
use Rattle.fb_net.proofs.lemmas.values.ShownValues.{shell_there_reads, copy_stands, published_stands}
use Rattle.fb_net.proofs.lemmas.values.Sampled.{input_seen, output_seen, shown_away, shown_here}
use Rattle.fb_net.proofs.resource.Forest.shown.Goals as goal

pub shell-shell-requires-clause-stands : goal.shell-shell-requires-clause-stands
shell-shell-requires-clause-stands c = record { here = c.requires.place.0 c.if-not-source.false; whole = c.requires.whole }

pub returns-in-Some : goal.returns-in-Some
returns-in-Some c =
    shown_away c.args.system.now c.args.self.now c.args.source.now.variable _ c.requires.variable (λ lies. true≢false (sym (c.requires.place.1 lies) ∙ c.if-not-source.true))
    (ap (λ o. unwrap_or o zero_value) c.in-Some.ensures)

pub returns-in-None : goal.returns-in-None
returns-in-None c =
    shown_away c.args.system.now c.args.self.now c.args.source.now.variable _ c.requires.variable (λ lies. true≢false (sym (c.requires.place.1 lies) ∙ c.if-not-source.true))
    (ap (λ o. unwrap_or o zero_value) c.in-None.ensures)

pub returns-then-source : goal.returns-then-source
returns-then-source c =
    let i = c.args.system.now in
    let source = c.args.source.now.variable in
    shown_here i c.args.self.now source _ (c.requires.place.0 c.if-not-source.false)
    (λ w tree within is_source.
    shell_there_reads i c.args.self.now source (λ b. b.published) c.shell-shell.result.now _ c.requires.variable.instance c.shell-shell.ensures
    (λ m s. c.value_of.ensures ∙ ap (λ vs. value_in vs source.variable) c.as_slice.ensures
    ∙ published_stands _ _ _ m c.requires.variable s c.if-source.true) w tree within
    ∙ output_seen i source c.requires.variable c.facts.ensures.accepted c.if-source.true w)

pub returns-else-source : goal.returns-else-source
returns-else-source c =
    let i = c.args.system.now in
    let source = c.args.source.now.variable in
    shown_here i c.args.self.now source _ (c.requires.place.0 c.if-not-source.false)
    (λ w tree within is_source.
    let composite = is_source.composite c.if-source.false in
    shell_there_reads i c.args.self.now source (λ b. b.variables) c.shell-shell.result.now _ c.requires.variable.instance c.shell-shell.ensures
    (λ m s. c.value_of-else-source.ensures ∙ ap (λ vs. value_in vs source.variable) c.as_slice-else-source.ensures
    ∙ copy_stands _ _ _ m c.requires.variable s composite c.if-source.false) w tree within
    ∙ input_seen i source c.requires.variable c.if-source.false composite w)
