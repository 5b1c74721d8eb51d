use Rattle.fb_inspect.proofs.lemmas.Common.{◌≡◌, ◌≤◌, ◌++◌, ℕ, List, Option, Some, Consumes, system_of, HasNames, most, IsLeft, StandsWell, unread, HasWaved}
use Rattle.fb_inspect.specs.StateWaves.{WritesBefore}
use Rattle.fb_inspect.specs.walk.Standing.{StandsWhole}
use Rattle.fb_wave.specs.declared.truncation.Cut.TheVariants.{Allowed}
use Rattle.fb_inspect.proofs.dump.state_wave.StateWave.go.Given as goal

-- the takings up to here were gone through, and the walk stands at the next line
abbrev pub invariant-loop : goal.invariant-loop
invariant-loop g l =
    ((known : Option (List ℕ)) → Consumes known (g.R.Read.remaining l.fn.input) l.fn.self.walk.trail.reading.line.items
    → HasWaved (system_of l.fixed.table.now.system.now) l.fixed.form l.terms.steps l.self known (unread l.ahead (g.R.Read.remaining l.input)) (g.W.Write.contents l.fn.out) (g.W.Write.contents l.out))
    × ((rest text : List ℕ) → l.terms.steps ≤ most → HasNames (system_of l.fixed.table.now.system.now) → g.R.Read.remaining l.fn.input ≡ Some rest
    → StandsWell (system_of l.fixed.table.now.system.now) l.fixed.form l.terms.steps l.fn.self.walk l.fn.ahead rest text
    → IsLeft (g.R.Read.remaining l.input) (λ left. StandsWell (system_of l.fixed.table.now.system.now) l.fixed.form l.terms.steps l.self.walk l.ahead left text))
    × ((rest text : List ℕ) → l.terms.steps ≤ most → HasNames (system_of l.fixed.table.now.system.now) → g.R.Read.remaining l.fn.input ≡ Some rest
    → StandsWhole (system_of l.fixed.table.now.system.now) l.fixed.form l.terms.steps l.fn.self.walk l.fn.ahead rest text → l.terms.cut ≡ Allowed
    → IsLeft (g.R.Read.remaining l.input) (λ left. StandsWhole (system_of l.fixed.table.now.system.now) l.fixed.form l.terms.steps l.self.walk l.ahead left text))
    × ((rest text : List ℕ) → l.terms.steps ≤ most → HasNames (system_of l.fixed.table.now.system.now) → g.R.Read.remaining l.fn.input ≡ Some rest
    → StandsWell (system_of l.fixed.table.now.system.now) l.fixed.form l.terms.steps l.fn.self.walk l.fn.ahead rest text → text ≡ l.fn.self.walk.trail.reading.line.items ++ rest
    → WritesBefore (system_of l.fixed.table.now.system.now) l.self.walk.trail.reading.number text (g.W.Write.contents l.fn.out) (g.W.Write.contents l.out))
