use Rattle.fb_types.proofs.Common.{ℕ, List, ◌++◌, sym, ap, ◌∙◌, append-nil, system_of, path_at}
use Rattle.fb_wave.proofs.lemmas.Handing.{on_ok}
use Rattle.fb_inspect.specs.dump.Inner.{chart_changes}
use Rattle.fb_inspect.proofs.lemmas.dump.Changing.{chart_text, no_chart_text, saved_of}
use Rattle.fb_inspect.proofs.dump.before.Before.put_changes.Goals as goal

pub put_chart_changes-requires-clause-hidden : goal.put_chart_changes-requires-clause-hidden
put_chart_changes-requires-clause-hidden c = (c.in-Some.ensures.some c.requires.kept.0 c.requires.kept.1).1.chart.hidden

pub put_chart_changes-requires-clause-saved : goal.put_chart_changes-requires-clause-saved
put_chart_changes-requires-clause-saved c =
    let sys = system_of c.args.system.now in
    let one = c.in-Some.ensures.some c.requires.kept.0 c.requires.kept.1 in
    (c.requires.saved.0, saved_of (sys.kind (path_at sys c.args.instance)) c.in-Some.inside.block.now c.args.self.now c.requires.saved.0 one.0 c.requires.saved.1)

pub returns-in_default : goal.returns-in_default
returns-in_default c = λ a look before are.
    let sys = system_of c.args.system.now in
    let p = path_at sys c.args.instance in
    let old = c.args.text.now.items in
    sym (append-nil old)
    ∙ ap (λ (t : List ℕ). old ++ t) (sym (no_chart_text (chart_changes c.args.instance a (look.blocks p) c.args.is_lost) (sys.kind p) (c.in_default.ensures.none look are)))

pub returns : goal.returns
returns c = λ a look before are.
    let sys = system_of c.args.system.now in
    let p = path_at sys c.args.instance in
    let old = c.args.text.now.items in
    let t = c.in-Some.inside.block.now in
    let one = c.in-Some.ensures.some look are in
    on_ok c.put_chart_changes.result _ _ (c.put_chart_changes.ensures a (look.blocks p) (saved_of (sys.kind p) t c.args.self.now a one.0 before) one.1)
    (λ e. e ∙ ap (λ (u : List ℕ). old ++ u) (sym (chart_text (chart_changes c.args.instance a (look.blocks p) c.args.is_lost) (sys.kind p) t one.0)))
