use Rattle.fb_wave.proofs.lemmas.Common.{◌++◌, [], ◌∷◌, set, refl, ap, Cell}
use Rattle.fb_wave.specs.declared.levels.Level.TheVariants.{Last}
use Rattle.fb_wave.proofs.lemmas.Noting.{shown_one}
use Rattle.fb_wave.proofs.levels.Levels.show.Goals as goal

pub returns-clause-levels : goal.returns-clause-levels
returns-clause-levels c n f t u all =
    let items = c.args.self.now.cells.items in
    let s = c.args.signal in
    c.mark.ensures.levels n f (t ++ (s, c.args.value) ∷ []) u
    (shown_one n f t u c.args.self.now _ s c.index_mut.result.now c.args.value all c.requires
    (ap (λ (x : Cell). set items s (record { shown = Last c.args.value; is_marked = x.is_marked })) c.index_mut.ensures.value) refl)
