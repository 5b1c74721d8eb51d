use Rattle.fb_inspect.proofs.lemmas.Common.{◌≡◌, ◌≤◌, ℕ, List, Option, Some, Consumes, system_of, HasNames, Selection, most, BeginsText, IsLeft, StandsWell, HasCovered, Starts, unread, false, is_unended}
use Rattle.fb_inspect.specs.Inspections.{ShowsBefore}
use Rattle.fb_inspect.specs.walk.Standing.{StandsWhole}
use Rattle.fb_wave.specs.declared.truncation.Cut.TheVariants.{Allowed}
use Rattle.fb_inspect.proofs.walk.Walk.go.Given as goal

-- the takings up to here were gone through, and the walk stands at the next line
abbrev pub invariant-loop : goal.invariant-loop
invariant-loop g l =
    ((what : Selection) (known : Option (List ℕ)) → Starts (system_of l.fixed.table.now.system.now) l.fixed.form what l.fn.self
    → Consumes known (g.R.Read.remaining l.fn.input) l.fn.self.trail.reading.line.items
    → HasCovered l.fixed.table.now.system.now.library.blocks l.fn.self.trail.marks (system_of l.fixed.table.now.system.now) l.fixed.form what l.terms.steps l.self known (unread l.ahead (g.R.Read.remaining l.input)) (g.W.Write.contents l.fn.out) (g.W.Write.contents l.out))
    × ((what : Selection) (rest text : List ℕ) → l.terms.steps ≤ most → HasNames (system_of l.fixed.table.now.system.now) → Starts (system_of l.fixed.table.now.system.now) l.fixed.form what l.fn.self
    → g.R.Read.remaining l.fn.input ≡ Some rest → BeginsText (system_of l.fixed.table.now.system.now) l.fixed.form l.fn.self.trail.reading.line.items l.fn.ahead.excess rest text
    → IsLeft (g.R.Read.remaining l.input) (λ left. StandsWell (system_of l.fixed.table.now.system.now) l.fixed.form l.terms.steps l.self l.ahead left text))
    × ((what : Selection) (rest text : List ℕ) → l.terms.steps ≤ most → HasNames (system_of l.fixed.table.now.system.now) → Starts (system_of l.fixed.table.now.system.now) l.fixed.form what l.fn.self
    → g.R.Read.remaining l.fn.input ≡ Some rest → BeginsText (system_of l.fixed.table.now.system.now) l.fixed.form l.fn.self.trail.reading.line.items l.fn.ahead.excess rest text
    → l.terms.cut ≡ Allowed → is_unended l.fn.self.trail.reading.line.items ≡ false
    → IsLeft (g.R.Read.remaining l.input) (λ left. StandsWhole (system_of l.fixed.table.now.system.now) l.fixed.form l.terms.steps l.self l.ahead left text))
    × ((what : Selection) (rest text : List ℕ) → l.terms.steps ≤ most → HasNames (system_of l.fixed.table.now.system.now) → Starts (system_of l.fixed.table.now.system.now) l.fixed.form what l.fn.self
    → g.R.Read.remaining l.fn.input ≡ Some rest → BeginsText (system_of l.fixed.table.now.system.now) l.fixed.form l.fn.self.trail.reading.line.items l.fn.ahead.excess rest text
    → ShowsBefore (system_of l.fixed.table.now.system.now) what l.self.trail.reading.number text (g.W.Write.contents l.fn.out) (g.W.Write.contents l.out))
