use Rattle.fb_types.proofs.Common.{◌≡◌, ◌∙◌, ℕ, Option, Some, None, refl, unwrap_or}
use Rattle.fb_stop.specs.Blamed.{blamed}
use Rattle.fb_stop.proofs.running.blamed.Goals as goal

loop_or_itself : (around : Option ℕ) (number : ℕ) → unwrap_or around number ≡ blamed around number
loop_or_itself None number = refl
loop_or_itself (Some n) number = refl

pub returns : goal.returns
returns c = c.unwrap_or.ensures ∙ loop_or_itself c.args.around c.args.number
