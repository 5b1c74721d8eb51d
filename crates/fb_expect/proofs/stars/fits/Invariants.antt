use Rattle.std.proofs.Common.{◌≡◌, length}
use Rattle.fb_expect.specs.Stars.{fits}
use Rattle.fb_expect.proofs.lemmas.patterns.Starred.{parts}
use Rattle.fb_expect.proofs.stars.fits.Given as goal

abbrev pub invariant-loop-one : goal.invariant-loop-one
invariant-loop-one l = fits (parts l.form) (parts l.port) ≡ fits (parts l.forms) (parts l.names)

abbrev pub decreases-loop-one : goal.decreases-loop-one
decreases-loop-one l = length l.forms
