use Rattle.fb_wave.proofs.lemmas.Common.{◌≡◌, ℕ, ◌<◌, ◌≤◌, false, List, length, get_or, set, refl, sym, ap, subst, ◌∙◌, arith, Cell}
use Rattle.fb_wave.specs.declared.levels.Level.TheVariants.{Count}
use Rattle.fb_wave.proofs.lemmas.Turning.{turned_levels, turned_more, turned_none, turned_text}
use Rattle.fb_wave.proofs.change.put_changes.Goals as goal

pub loop-index-init : goal.loop-index-init
loop-index-init c = turned_none c.args.text.now.items c.args.levels.now

pub loop-index-preserved : goal.loop-index-preserved
loop-index-preserved c =
    let from = c.args.levels.now in
    let to = c.loop-index.levels in
    let turned = c.loop-index.invariant in
    let p = c.loop-index.index in
    let s = c.index-signal.result.now in
    let within : p < length from.marked.items = omega (arith, c.len-index-end.ensures, from.marked.ok.0, c.loop-index-test.true) in
    let at : s ≡ get_or from.marked.items p s = c.index-signal.ensures ∙ ap (λ (l : List ℕ). get_or l p s) turned.marked in
    turned_more c.args.text.now.items c.loop-index.text.items c.put_change.new.text.items from to _ p s c.index.result.now c.index_mut.result.now turned within at
    (subst (λ (k : ℕ). k < length from.cells.items) (sym at) (from.within p s within)) c.index.ensures c.in_ok-put_change.ensures
    (ap (λ (x : Cell). set to.cells.items s (record { shown = x.shown; is_marked = false })) c.index_mut.ensures.value) refl

pub returns-clause-text : goal.returns-clause-text
returns-clause-text c n f t u are =
    let from = c.args.levels.now in
    let past : length from.marked.items ≤ c.loop-index.index = omega (arith, c.len-index-end.ensures, from.marked.ok.0, c.loop-index-test.false) in
    let none : Cell = record { shown = Count 0; is_marked = false } in
    turned_text n f t u c.args.text.now.items c.loop-index.text.items from c.loop-index.levels c.loop-index.index none are from.within c.loop-index.invariant past

pub returns-clause-levels : goal.returns-clause-levels
returns-clause-levels c n f t u are =
    let from = c.args.levels.now in
    let past : length from.marked.items ≤ c.loop-index.index = omega (arith, c.len-index-end.ensures, from.marked.ok.0, c.loop-index-test.false) in
    turned_levels n f t u c.args.text.now.items c.loop-index.text.items from c.loop-index.levels _ c.loop-index.index are c.loop-index.invariant past refl c.clear.ensures.items
