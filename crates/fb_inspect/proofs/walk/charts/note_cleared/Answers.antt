use Rattle.fb_inspect.proofs.lemmas.Common.{◌≡◌, ◌++◌, Bool, List, Option, get_or, refl, sym, ap, ◌∙◌, append-nil, unwrap_or, Transition, shown_text}
use Rattle.fb_ecc.specs.Trials.{nowhere, transition_at}
use Rattle.fb_wave.proofs.lemmas.Handing.{on_ok}
use Rattle.fb_inspect.specs.walk.Notes.{cleared_note}
use Rattle.fb_inspect.proofs.lemmas.reactions.Placed.{item_is}
use Rattle.fb_inspect.proofs.walk.charts.note_cleared.Goals as goal

pub returns-then-not-trail-clause-noted : goal.returns-then-not-trail-clause-noted
returns-then-not-trail-clause-noted c =
    let old = c.args.trail.now.page.text.items in
    let note = cleared_note (transition_at c.args.taking.now.block.now c.args.index) in
    record {
      aside = record { kept = refl; ported = refl; passed = refl; number = refl };
      added = sym (append-nil old) ∙ ap (λ (b : Bool). old ++ shown_text b note) (sym c.if-not-trail.true);
      marked = c.mark_cleared.ensures;
    }

pub returns-clause-noted : goal.returns-clause-noted
returns-clause-noted c =
    let old = c.args.trail.now.page.text.items in
    let all = c.args.taking.now.block.now.transitions in
    let y : Transition = c.index-as_slice-index.result in
    let at : transition_at c.args.taking.now.block.now c.args.index ≡ y =
    ap (λ (o : Option Transition). unwrap_or o nowhere)
    (item_is all c.args.index y c.requires (c.index-as_slice-index.is ∙ ap (λ (ys : List Transition). get_or ys c.args.index y) c.as_slice.ensures))
    in
    on_ok c.put_cleared.result _ _ c.put_cleared.ensures
    (λ e.
    record {
      aside = record { kept = refl; ported = refl; passed = refl; number = refl };
      added = e ∙ ap (λ (b : Bool). old ++ shown_text b (cleared_note y)) (sym c.if-not-trail.false) ∙ ap (λ (x : Transition). old ++ shown_text c.args.trail.now.is_shown (cleared_note x)) (sym at);
      marked = c.mark_cleared.ensures;
    })
