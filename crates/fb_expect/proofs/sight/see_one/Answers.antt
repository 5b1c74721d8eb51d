use Rattle.fb_expect.proofs.lemmas.Common.{◌||◌, ◌≡◌, ◌++◌, [], ◌∷◌, List, true, false, sym, ◌∙◌, list_any, Event, event_of, is_at, Pattern}
use Rattle.fb_expect.specs.Patterns.{has_all, has_kinds, meets}
use Rattle.fb_expect.specs.Sights.{sight_of}
use Rattle.fb_expect.specs.declared.sight.Sight.{Sight}
use Rattle.fb_expect.proofs.lemmas.patterns.Sighting.{fitting-stays, lacks-all, lacks-kinds, met-now, met-stays, named-fits, named-stays, nothing-at, nothing-stays, port-more, seen, sight-more}
use Rattle.fb_expect.proofs.sight.see_one.Goals as goal

-- what is seen with one more line, where this is it of the four parts
on :
    (p : Pattern) (e : Event) (s : Sight) (es : List Event)
    → s ≡ seen (list_any (meets p) es || meets p e) (list_any (has_kinds p) es || has_kinds p e) (list_any (has_all p) es || has_all p e) (list_any (is_at p) es || is_at p e)
    → s ≡ sight_of p (es ++ e ∷ [])
on p e s es is = is ∙ sym (sight-more p es e)

pub returns-then-is_met : goal.returns-then-is_met
returns-then-is_met c = λ es same.
    let p = c.args.pattern.now in
    let e = event_of c.args.entry.now in
    on p e _ es (met-now (list_any (meets p) es) (list_any (has_kinds p) es) (list_any (has_all p) es) (list_any (is_at p) es) (meets p e) (has_kinds p e) (has_all p e) (is_at p e) (sym c.requires ∙ c.if-is_met.true))

pub returns-in-Met : goal.returns-in-Met
returns-in-Met c = λ es same.
    let p = c.args.pattern.now in
    let e = event_of c.args.entry.now in
    on p e _ es (met-stays (list_any (meets p) es) (list_any (has_kinds p) es) (list_any (has_all p) es) (list_any (is_at p) es) (meets p e) (has_kinds p e) (has_all p e) (is_at p e) (sym c.in-Met.is ∙ same))

pub returns-in-Fitting : goal.returns-in-Fitting
returns-in-Fitting c = λ es same.
    let p = c.args.pattern.now in
    let e = event_of c.args.entry.now in
    on p e _ es (fitting-stays (list_any (meets p) es) (list_any (has_kinds p) es) (list_any (has_all p) es) (list_any (is_at p) es) (meets p e) (has_kinds p e) (has_all p e) (is_at p e) (sym c.in-Fitting.is ∙ same)
    (sym c.requires ∙ c.if-is_met.false))

pub returns-then-has_kinds : goal.returns-then-has_kinds
returns-then-has_kinds c = λ es same.
    let p = c.args.pattern.now in
    let e = event_of c.args.entry.now in
    on p e _ es (named-fits (list_any (meets p) es) (list_any (has_kinds p) es) (list_any (has_all p) es) (list_any (is_at p) es) (meets p e) (has_kinds p e) (has_all p e) (is_at p e) (sym c.in-Named.is ∙ same)
    (sym c.requires ∙ c.if-is_met.false) (sym c.has_kinds.ensures ∙ c.if-has_kinds.true))

pub returns-else-has_kinds : goal.returns-else-has_kinds
returns-else-has_kinds c = λ es same.
    let p = c.args.pattern.now in
    let e = event_of c.args.entry.now in
    on p e _ es (named-stays (list_any (meets p) es) (list_any (has_kinds p) es) (list_any (has_all p) es) (list_any (is_at p) es) (meets p e) (has_kinds p e) (has_all p e) (is_at p e) (sym c.in-Named.is ∙ same)
    (sym c.requires ∙ c.if-is_met.false) (sym c.has_kinds.ensures ∙ c.if-has_kinds.false))

pub returns-in-Port : goal.returns-in-Port
returns-in-Port c = λ es same.
    let p = c.args.pattern.now in
    let e = event_of c.args.entry.now in
    on p e _ es (port-more _ (list_any (meets p) es) (list_any (has_kinds p) es) (list_any (has_all p) es) (list_any (is_at p) es) (meets p e) (has_kinds p e) (has_all p e) (is_at p e) (sym c.in-Port.is ∙ same)
    (sym c.requires ∙ c.if-is_met.false) c.nearest.ensures)

pub returns-then-is_at : goal.returns-then-is_at
returns-then-is_at c = λ es same.
    let p = c.args.pattern.now in
    let e = event_of c.args.entry.now in
    on p e _ es (nothing-at _ (list_any (meets p) es) (list_any (has_kinds p) es) (list_any (has_all p) es) (list_any (is_at p) es) (meets p e) (has_kinds p e) (has_all p e) (is_at p e) (sym c.in-Nothing.is ∙ same)
    (sym c.requires ∙ c.if-is_met.false) (sym c.is_at.ensures ∙ c.if-is_at.true) c.nearest-then-is_at.ensures)

pub returns-else-is_at : goal.returns-else-is_at
returns-else-is_at c = λ es same.
    let p = c.args.pattern.now in
    let e = event_of c.args.entry.now in
    let off = sym c.is_at.ensures ∙ c.if-is_at.false in
    on p e _ es (nothing-stays (list_any (meets p) es) (list_any (has_kinds p) es) (list_any (has_all p) es) (list_any (is_at p) es) (meets p e) (has_kinds p e) (has_all p e) (is_at p e) (sym c.in-Nothing.is ∙ same)
    (sym c.requires ∙ c.if-is_met.false) (lacks-kinds p e off) (lacks-all p e off) off)
