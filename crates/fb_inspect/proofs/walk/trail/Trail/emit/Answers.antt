use Rattle.fb_inspect.proofs.lemmas.Common.{List, ℕ, [], ◌∷◌, refl, subst, sym, ◌∙◌, system_of, line_of, line_text, Key, IsNext, Goes, shown_text, Next, Reading, Trail}
use Rattle.fb_types.specs.declared.run.Line as run
use Rattle.fb_wave.proofs.lemmas.Handing.{on_ok}
use Rattle.fb_inspect.proofs.lemmas.lines.Moving.{aside, goes_same}
use Rattle.fb_inspect.proofs.lemmas.lines.OneEmission.{other_event, other_next}
use Rattle.fb_inspect.proofs.lemmas.results.Refused.{emits_fail, err_none, refused_then}
use Rattle.fb_inspect.proofs.walk.trail.Trail.emit.Goals as goal

pub returns-clause-goes : goal.returns-clause-goes
returns-clause-goes g c =
    let sys = system_of c.args.fixed.now.table.now.system.now in
    let form = c.args.fixed.now.form in
    let l = c.in-Event.next in
    let old : Trail = c.args.self.now in
    let cut : Trail = record old { reading = record (old.reading) { next = c.replace-next.new.dest } } in
    let new : Trail = c.pass.new.self in
    let bytes : List ℕ = shown_text old.is_shown (line_text form sys (line_of sys l)) in
    let left = g.R.Read.remaining c.args.input.now in
    let after = g.R.Read.remaining c.pass.new.input in
    let is = c.is_emission.ensures.same c.if-not-is_emission.false in
    on_ok c.pass.result _ _ c.pass.ensures.goes
    (λ goes. (
      l,
      is,
      goes_same sys form c.args.line.now.key.tick (l ∷ []) bytes cut old new left after (aside old cut refl refl refl refl) refl refl
          (subst (λ (k : Key). Goes sys form k.tick (l ∷ []) bytes cut new left after) is.key goes),
    ))

pub returns-clause-next : goal.returns-clause-next
returns-clause-next g c =
    let sys = system_of c.args.fixed.now.table.now.system.now in
    let new : Reading = c.pass.new.self.reading in
    let is = c.is_emission.ensures.same c.if-not-is_emission.false in
    on_ok c.pass.result _ _ c.pass.ensures.next (λ there. subst (λ (k : Key). IsNext sys c.args.fixed.now.form k.tick new.line.items new.next) is.key there)

pub returns-clause-refused : goal.returns-clause-refused
returns-clause-refused g c = λ own fit. err_none c.pass.result _ c.pass.ensures.fault

pub returns-in_default-clause-refused : goal.returns-in_default-clause-refused
returns-in_default-clause-refused g c = λ own fit.
    let t = c.args.fixed.now.table.now in
    let sys = system_of t.system.now in
    let form = c.args.fixed.now.form in
    let line = c.args.line.now in
    let e = c.args.emission.now in
    let old : Reading = c.args.self.now.reading in
    let new : Reading = record old { next = c.replace-next.new.dest } in
    let other = other_next t form old.line.items line e own fit c.refusal_for.ensures.small old.next c.requires
    (λ (l : run.Line) at em. c.in_default.not-Event l (c.replace-next.ensures.value ∙ at)) in
    refused_then c.refusal_for.result _ _ c.refusal_for.ensures.refused
    (λ n is. emits_fail sys form line e old new (g.R.Read.remaining c.args.input.now) n refl refl is other)

pub returns-then-not-is_emission-clause-refused : goal.returns-then-not-is_emission-clause-refused
returns-then-not-is_emission-clause-refused g c = λ own fit.
    let t = c.args.fixed.now.table.now in
    let sys = system_of t.system.now in
    let form = c.args.fixed.now.form in
    let line = c.args.line.now in
    let e = c.args.emission.now in
    let old : Reading = c.args.self.now.reading in
    let new : Reading = record old { next = c.replace-next.new.dest } in
    let here = subst (λ (n : Next). IsNext sys form line.key.tick old.line.items n) (sym c.replace-next.ensures.value ∙ c.in-Event.is) c.requires in
    let other = other_event t form old.line.items line e own fit c.is_emission.ensures.small c.in-Event.next here.0 here.2 (c.is_emission.ensures.other c.if-not-is_emission.true) in
    refused_then c.refusal_for-then-not-is_emission.result _ _ c.refusal_for-then-not-is_emission.ensures.refused
    (λ n is. emits_fail sys form line e old new (g.R.Read.remaining c.args.input.now) n refl refl is other)
