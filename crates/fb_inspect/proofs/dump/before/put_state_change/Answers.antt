use Rattle.fb_types.proofs.Common.{ℕ, List, ◌++◌, ap, ◌∙◌, both_ways, Decides-eqb, slice_eq-Decides}
use Rattle.fb_wave.proofs.lemmas.Handing.{on_ok}
use Rattle.fb_inspect.proofs.lemmas.dump.Changing.{state_other, state_same}
use Rattle.fb_inspect.proofs.dump.before.put_state_change.Goals as goal

pub returns-then-eq : goal.returns-then-eq
returns-then-eq c =
    state_same c.args.instance c.args.before.now c.args.after.now c.args.text.now.items ((slice_eq-Decides Decides-eqb c.args.after.now c.args.before.now c.eq.result c.eq.ensures).0 c.if-eq.true)

pub returns : goal.returns
returns c =
    on_ok c.put_state.result _ _ c.put_state.ensures
    (λ e.
    e
    ∙ ap (λ (t : List ℕ). c.args.text.now.items ++ t)
    (state_other c.args.instance c.args.before.now c.args.after.now
    (λ same. both_ways _ c.if-eq.false ((slice_eq-Decides Decides-eqb c.args.after.now c.args.before.now c.eq.result c.eq.ensures).1 same))))
