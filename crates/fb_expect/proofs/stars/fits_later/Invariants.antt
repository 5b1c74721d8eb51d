use Rattle.std.proofs.Common.{◌≡◌, length}
use Rattle.fb_expect.specs.Stars.{fits_later}
use Rattle.fb_expect.proofs.lemmas.patterns.Starred.{parts}
use Rattle.fb_expect.proofs.stars.fits_later.Given as goal

abbrev pub invariant-loop-after : goal.invariant-loop-after
invariant-loop-after l = fits_later (parts l.form) (parts l.port) ≡ fits_later (parts l.form) (parts l.rest)

abbrev pub decreases-loop-after : goal.decreases-loop-after
decreases-loop-after l = length l.rest
