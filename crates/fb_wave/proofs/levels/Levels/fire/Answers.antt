use Rattle.fb_wave.proofs.lemmas.Common.{◌++◌, [], ◌∷◌, set, refl, ap, ◌∙◌, Cell}
use Rattle.fb_wave.specs.Levels.{after_event}
use Rattle.fb_wave.proofs.lemmas.Noting.{fired_one}
use Rattle.fb_wave.proofs.levels.Levels.fire.Goals as goal

pub returns-clause-levels : goal.returns-clause-levels
returns-clause-levels c n f t u all =
    let items = c.args.self.now.cells.items in
    let s = c.args.signal in
    let v = c.after_event-shown.result in
    c.mark.ensures.levels n (f ++ s ∷ []) t u
    (fired_one n f t u c.args.self.now _ s c.index_mut.result.now c.index.result.now v all c.requires
    (c.after_event-shown.ensures ∙ ap (λ (x : Cell). after_event x.shown) c.index.ensures)
    (ap (λ (x : Cell). set items s (record { shown = v; is_marked = x.is_marked })) c.index_mut.ensures.value) refl)
