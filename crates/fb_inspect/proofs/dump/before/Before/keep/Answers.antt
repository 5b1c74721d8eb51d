use Rattle.fb_inspect.proofs.lemmas.Common.{◌≡◌, map, sym, ap, ◌∙◌, system_of, path_at, state_of, Values, values_of}
use Rattle.fb_wave.proofs.lemmas.Handing.{on_ok}
use Rattle.fb_inspect.proofs.lemmas.dump.Changing.{before_none, before_of}
use Rattle.fb_inspect.proofs.dump.before.Before.keep.Goals as goal

pub returns-in_default : goal.returns-in_default
returns-in_default c = λ look are.
    before_none ((system_of c.args.system.now).kind (path_at (system_of c.args.system.now) c.args.instance)) _ _ (c.in_default.ensures.none look are)

pub returns : goal.returns
returns c = λ look are.
    let sys = system_of c.args.system.now in
    let p = path_at sys c.args.instance in
    let x = c.in-Some.inside in
    let s = look.blocks p in
    let one = c.in-Some.ensures.some look are in
    let all : s.variables ≡ values_of x.chart.now.state.frame = (λ i. λ n. one.1.variables_are n i) in
    on_ok c.keep_values.result _ _ c.keep_values.ensures
    (λ e.
    before_of (sys.kind p) x.block.now _ s one.0
    (record {
      state_is = ap state_of one.1.memory_is;
      values_are = e ∙ ap (λ (f : Values). map f c.as_slice-hidden.result.now) (sym all) ∙ ap (map s.variables) (c.as_slice-hidden.ensures.value ∙ one.1.chart.hidden);
    }))
