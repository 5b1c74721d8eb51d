-- What is said of a refusal where the text may be known.
use Rattle.fb_inspect.proofs.lemmas.Common.{◌≡◌, ℕ, List, Option, Some, Result, Ok, Err, IfErr, IfSome, Refusal, Refuses, WalkError}
use Rattle.fb_inspect.proofs.lemmas.results.Errors.{of_known}

pub err_known :
    {A : Type 0} (r : Result A WalkError) (o : Option (List ℕ)) (P : Refusal → List ℕ → Type 0) → ((text : List ℕ) → o ≡ Some text → IfErr r (Refuses (λ n. P n text))) → IfErr r (Refuses (λ n. IfSome o (P n)))
err_known (Ok x) o P f = tt
err_known (Err e) o P f = of_known o P e f
