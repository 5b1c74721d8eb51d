-- A resource to which memory was refused is as it was, and what was for it still is.
use Rattle.fb_types.proofs.Common.{List, [], sym, subst, All, All-nil, All-weaker, Inputs}
use Rattle.fb_types.specs.declared.run.Message.{Message}
use Rattle.fb_resource.specs.Resources.{IsFor, IsOf, IsSame}
use Rattle.fb_resource.specs.declared.resource.Resource.{Resource}
use Rattle.fb_resource.proofs.lemmas.Received.{received}

pub still_of : (i : Inputs) (old new : Resource) → IsSame old new → IsOf i old → IsOf i new
still_of i old new same of =
    subst (IsOf i) (sym same.besides)
    ((received [] old new.agenda same.waits same.due).of i of (All-nil (IsFor i old)))

pub still_for : (i : Inputs) (old new : Resource) (ms : List Message) → IsSame old new → All (IsFor i old) ms → All (IsFor i new) ms
still_for i old new ms same for_it =
    let then : Resource = record old { agenda = new.agenda } in
    subst (λ x. All (IsFor i x) ms) (sym same.besides)
    (All-weaker (IsFor i old) (IsFor i then) (λ m f. record { message = f.message; here = f.here; later = f.later }) ms for_it)
