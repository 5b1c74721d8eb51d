-- Names that may be required.
use Rattle.fb_check.proofs.lemmas.Common.{◌≡◌, Bool, Option, Some, None, sym, ap, Required, UnknownName, unless}
use Rattle.fb_check.specs.types.Unknowns.{is_optional_met, unmet_at}

pub unmet_is : (o : Option Required) (b : Bool) (p : UnknownName) → b ≡ is_optional_met o → unmet_at o p ≡ unless b p
unmet_is None b p e = ap (λ (d : Bool). unless d p) (sym e)
unmet_is (Some w) b p e = ap (λ (d : Bool). unless d p) (sym e)
