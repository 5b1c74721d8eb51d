-- What a search finds, for another search.
use Rattle.std.proofs.Common.{Option, Some, None}
use Rattle.fb_inputs.specs.Searches.{FindsOne}

-- what is found is also one of those that the other one seeks, and each of those is one of these
pub found_as : {A : Type 0} (P Q : A → Type 0) (o : Option A) → ((x : A) → P x → Q x) → ((x : A) → Q x → P x) → FindsOne o P → FindsOne o Q
found_as P Q None to from none = λ x q. none x (from x q)
found_as P Q (Some x) to from found = to x found
