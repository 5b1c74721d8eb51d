use Rattle.fb_types.proofs.Common.{ℕ, List, IfSome, MatchOption, Option, Some, None, Decides-eqb}
use Rattle.std.specs.Borrow.{Bor}
use Rattle.std.proofs.lemmas.Slice.Eq.{strip_suffix_is}
use Rattle.fb_expect.proofs.words.before.Goals as goal

some_of : (o : Option (Bor (List ℕ))) (P : Type 0) (Q : Bor (List ℕ) → Type 0) → MatchOption o P Q → IfSome o Q
some_of None P Q m = tt
some_of (Some x) P Q m = m

pub returns-clause-parts : goal.returns-clause-parts
returns-clause-parts c = some_of c.strip_suffix.result _ _ (strip_suffix_is Decides-eqb c.args.text.now c.args.end.now c.strip_suffix.result c.strip_suffix.ensures.cases)
