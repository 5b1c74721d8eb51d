-- What is true of every text (this project's own).
use Rattle.std.specs.Prelude.{ℕ, List}
use Rattle.fb_expect.specs.Events.{Event}
use Rattle.fb_expect.specs.Judging.{IsRefused}
use Rattle.fb_expect.specs.Traces.{IsTrace}
use Rattle.fb_expect.specs.Words.{Text}
use Rattle.fb_expect.specs.declared.ending.End.{End}
use Rattle.fb_expect.specs.declared.judging.Cut.{Cut}

-- A text with a line that is refused is no trace.
abbrev pub RefusedIsNoTrace : Type 0
RefusedIsNoTrace = (cut : Cut) (text : Text) (number : ℕ) (events : List Event) (end : End) → IsRefused cut text number → IsTrace cut text events end → ⊥
