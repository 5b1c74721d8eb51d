use Rattle.fb_expect.proofs.lemmas.Common.{◌≡◌, List, [], append-nil, sym, ap, ◌∙◌, Option, Pattern, Pairing}
use Rattle.fb_expect.specs.Needs.{names_in, with_names}
use Rattle.fb_expect.specs.declared.pattern.Condition.{Condition}
use Rattle.fb_expect.proofs.rules.with_names.Goals as goal

none_more : (p : Pattern) → p ≡ with_names [] p
none_more p = sym (ap (λ (cs : List Condition). record p { conditions = cs }) (append-nil p.conditions))

pub returns-in-None : goal.returns-in-None
returns-in-None c = none_more c.args.pattern ∙ ap (λ (g : Option Pairing). with_names (names_in g) c.args.pattern) (sym c.in-None.is)
