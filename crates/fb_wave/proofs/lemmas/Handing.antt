-- What holds of the last call of a function, whose answer is the function's.
use Rattle.fb_types.proofs.Common.{◌≡◌, ℕ, List, Result, Ok, Err, sym, subst, IsErrAnd, IfErr, IfNone, None, OnOk, Option, Some, if◌then◌else◌, is_ok}

-- where the call goes well, something more holds
pub on_ok : {A E : Type 0} (r : Result A E) (P Q : Type 0) → OnOk r P → (P → Q) → OnOk r Q
on_ok (Ok x) P Q h f = f h
on_ok (Err e) P Q h f = tt

pub on_three : {A E : Type 0} (r : Result A E) (P Q R S : Type 0) → OnOk r P → OnOk r Q → OnOk r R → (P → Q → R → S) → OnOk r S
on_three (Ok x) P Q R S h k l f = f h k l
on_three (Err e) P Q R S h k l f = tt

-- whatever the call answers
pub on_any : {A E : Type 0} (r : Result A E) (P : Type 0) → P → OnOk r P
on_any (Ok x) P p = p
on_any (Err e) P p = tt

-- where the call fails, something more holds of the error
pub on_fault : {A E : Type 0} (r : Result A E) (P Q : E → Type 0) → IfErr r P → ((e : E) → P e → Q e) → IfErr r Q
on_fault (Ok a) P Q h f = tt
on_fault (Err e) P Q h f = f e h

pub on_faults : {A E : Type 0} (r : Result A E) (P Q R : E → Type 0) → IfErr r P → IfErr r Q → ((e : E) → P e → Q e → R e) → IfErr r R
on_faults (Ok a) P Q R h k f = tt
on_faults (Err e) P Q R h k f = f e h k

-- a failure that is passed on
pub on_passed : {A E : Type 0} (r : Result A E) (e : E) (P : E → Type 0) → IsErrAnd r (λ g. g ≡ e) → P e → IfErr r P
on_passed (Ok a) e P is p = tt
on_passed (Err g) e P is p = subst P (sym is) p

-- then nothing is said of what goes well
pub ok_passed : {A E : Type 0} (r : Result A E) (e : E) (P : Type 0) → IsErrAnd r (λ g. g ≡ e) → OnOk r P
ok_passed (Ok a) e P is = absurd is
ok_passed (Err g) e P is = tt

-- bytes were put after a text where the call goes well
pub on_put :
    {A E : Type 0} (r : Result A E) (new put old : List ℕ) (P : Type 0) → new ≡ (if is_ok r then put else old) → (new ≡ put → P) → OnOk r P
on_put (Ok x) new put old P is f = f is
on_put (Err e) new put old P is f = tt

-- where there is none, something more holds
pub none_then : {A : Type 0} (o : Option A) (P Q : Type 0) → IfNone o P → (P → Q) → IfNone o Q
none_then None P Q h f = f h
none_then (Some x) P Q h f = tt
