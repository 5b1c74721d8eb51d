use Rattle.fb_wave.proofs.lemmas.Common.{true, set, sym, ap, ◌∙◌, Cell}
use Rattle.fb_wave.proofs.lemmas.Noting.{marked_new, marked_old, within_more}
use Rattle.fb_wave.proofs.levels.Levels.mark.Goals as goal

pub returns-then-index-clause-levels : goal.returns-then-index-clause-levels
returns-then-index-clause-levels c n f t u all =
    marked_old n f t u c.args.self.now c.args.signal c.index.result.now all c.requires
    (ap (λ (x : Cell). x.is_marked) (sym c.index.ensures) ∙ c.if-index.true)

pub returns-clause-levels : goal.returns-clause-levels
returns-clause-levels c n f t u all =
    let items = c.args.self.now.cells.items in
    let s = c.args.signal in
    let here = c.index_mut.result.now in
    marked_new n f t u c.args.self.now _ s here all c.requires
    ((all.cells s here c.requires).is_marked ∙ sym ((all.cells s c.index.result.now c.requires).is_marked)
    ∙ ap (λ (x : Cell). x.is_marked) (sym c.index.ensures) ∙ c.if-index.false)
    (ap (λ (x : Cell). set items s (record { shown = x.shown; is_marked = true })) c.index_mut.ensures.value)
    c.in_ok-push.ensures.items

pub invariant_of-self-2 : goal.invariant_of-self-2
invariant_of-self-2 c = record {
  within = within_more c.args.self.now.cells.items c.args.self.now.marked.items c.push.new.self.items c.args.signal _ c.args.self.now.within c.requires c.in_ok-push.ensures.items;
}
