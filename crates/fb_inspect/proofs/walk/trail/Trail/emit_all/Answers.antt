use Rattle.fb_inspect.proofs.lemmas.Common.{List, [], ◌∷◌, ◌++◌, refl, sym, ◌∙◌, ap, map, subst, append_assoc, system_of, All, emission_of, path_at, ports_at, Ports, IsEmission as IsEmissionOf, EmitsFail}
use Rattle.fb_types.specs.declared.run.Emission as run
use Rattle.fb_inspect.proofs.lemmas.lines.Emitted.{emits_none, emits_one}
use Rattle.fb_inspect.proofs.lemmas.results.Refused.{err_passed, fit_at, rest_fails}
use Rattle.fb_inspect.proofs.walk.trail.Trail.emit_all.Goals as goal

pub loop-emission-init : goal.loop-emission-init
loop-emission-init g c = record {
  next = c.requires;
  charts = refl;
  came = ([], refl, emits_none (system_of c.args.fixed.now.table.now.system.now) c.args.fixed.now.form c.args.line.now c.args.self.now (g.R.Read.remaining c.args.input.now));
}

pub loop-emission-preserved : goal.loop-emission-preserved
loop-emission-preserved g c =
    let inv = c.loop-emission.invariant in
    let es : List run.Emission = inv.came.0 in
    let e : run.Emission = c.in-Some.emission in
    let one = c.in_ok-emit.ensures.goes in
    record {
      next = c.in_ok-emit.ensures.next;
      charts = c.in_ok-emit.ensures.charts ∙ inv.charts;
      came = (
        es ++ e ∷ [],
        inv.came.1 ∙ ap (λ (xs : List run.Emission). es ++ xs) c.in-Some.ensures ∙ sym (append_assoc es (e ∷ []) c.pop_first.new.self),
        emits_one (system_of c.args.fixed.now.table.now.system.now) c.args.fixed.now.form c.args.line.now es e one.0 c.args.self.now c.loop-emission.self c.emit.new.self
            (g.R.Read.remaining c.args.input.now) (g.R.Read.remaining c.loop-emission.input) (g.R.Read.remaining c.emit.new.input) inv.came.2 one.1 one.2 c.in_ok-emit.ensures.alone,
      );
    }

pub returns-in_err-emit-clause-refused : goal.returns-in_err-emit-clause-refused
returns-in_err-emit-clause-refused g c = λ own fit.
    let sys = system_of c.args.fixed.now.table.now.system.now in
    let line = c.args.line.now in
    let its : Ports = ports_at sys (path_at sys line.instance) in
    let inv = c.loop-emission.invariant in
    let es : List run.Emission = inv.came.0 in
    let e : run.Emission = c.in-Some.emission in
    let parts = inv.came.1 ∙ ap (λ (xs : List run.Emission). es ++ xs) c.in-Some.ensures in
    let left = g.R.Read.remaining c.args.input.now in
    let middle = g.R.Read.remaining c.loop-emission.input in
    let after = g.R.Read.remaining c.emit.new.input in
    err_passed _ _ (λ n. EmitsFail sys c.args.fixed.now.form line (emission_of its e ∷ []) c.loop-emission.self.reading c.emit.new.self.reading middle after n)
    (λ n. EmitsFail sys c.args.fixed.now.form line (map (emission_of its) c.args.emits.now) c.args.self.now.reading c.emit.new.self.reading left after n) c.from_residual.ensures.1
    (c.in_err-emit.ensures.refused own (fit_at (IsEmissionOf its) es e c.pop_first.new.self (subst (λ (xs : List run.Emission). All (IsEmissionOf its) xs) parts fit)))
    (λ n fails. rest_fails sys c.args.fixed.now.form line c.args.emits.now es e c.pop_first.new.self c.args.self.now c.loop-emission.self c.emit.new.self.reading left middle after n parts inv.came.2 fails)
