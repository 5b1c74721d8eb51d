-- What was read after what was found.
use Rattle.fb_read.proofs.lemmas.Common.{◌≡◌, [], ◌∷◌, ◌++◌, List, Result, Ok, Err, refl, subst, ParseFault, Tokens, Parser, Outcome, Reads, and_then}
use Rattle.fb_read.specs.declared.fault.ParseFault.TheVariants as fault
use Rattle.fb_read.specs.Added.{Adds}

-- the item that was added is the one that was read
pub item_of : {A : Type 0} (outcome : Outcome A) (read : Result A ParseFault) (new : Tokens) (found all : List A)
    → Reads outcome read new → Adds found read (Ok all) → (x : A) × (outcome ≡ Ok (x, new)) × (all ≡ found ++ x ∷ [])
item_of outcome (Ok item) new found all r more = (item, r, more)
item_of outcome (Err e) new found all r more = absurd more

-- nothing was added, for the fault for which nothing was read
pub fault_of : {A : Type 0} (outcome : Outcome A) (read : Result A ParseFault) (new : Tokens) (found : List A) (e : ParseFault)
    → Reads outcome read new → Adds found read (Err e) → Reads outcome (Err e) new
fault_of outcome read new found fault.Memory r shown = tt
fault_of outcome read new found fault.Syntax r shown = subst (λ q. Reads outcome q new) shown r
fault_of outcome read new found fault.Nesting r shown = subst (λ q. Reads outcome q new) shown r

-- the parser continues with what was found and the item that was read
pub added_on : {A B : Type 0} (outcome : Outcome A) (read : Result A ParseFault) (new : Tokens) (found all : List A) (go : List A → Parser B)
    → Reads outcome read new → Adds found read (Ok all) → and_then outcome (λ x. go (found ++ x ∷ [])) ≡ go all new
added_on outcome (Ok item) new found all go r more = rw (r, more) refl
added_on outcome (Err e) new found all go r more = absurd more
