use Rattle.fb_inputs.proofs.lemmas.Common.{◌≡◌, ℕ, Err, None, refl, value_at, or_refuse, setting}
use Rattle.fb_inputs.specs.declared.row.Word.{Word}
use Rattle.fb_inputs.proofs.row.setting_of.Goals as goal

no_value : (w : Word) (k : ℕ) → w.value ≡ None → or_refuse (value_at k) (setting w) ≡ Err (value_at k)
no_value w k none = rw none refl

pub returns-in-None : goal.returns-in-None
returns-in-None c = no_value c.args.word c.args.index c.in-None.is
