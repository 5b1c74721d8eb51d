-- Calls whose results are joined.
use Rattle.fb_types.proofs.Common.{◌≡◌, ◌++◌, ℕ, List, Result, Ok, Err, sym, subst, ap, ◌∙◌, IfErr, IfOk, OnErr, OnOk, IsErrAnd}
use Rattle.std.specs.Result.{result_and}
use Rattle.fb_wave.proofs.lemmas.Handing.{on_ok}

-- what holds after a call, if another answer is given in place of its own
pub ok_joined : {A B E : Type 0} (q : Result B E) (r : Result A E) (x : B) (P : Type 0) (Q : B → Type 0) → q ≡ result_and r (Ok x) → OnOk r P → (P → Q x) → IfOk q Q
ok_joined {A} {B} {E} q (Ok a) x P Q is h f = subst (λ (d : Result B E). IfOk d Q) (sym is) (f h)
ok_joined {A} {B} {E} q (Err e) x P Q is h f = subst (λ (d : Result B E). IfOk d Q) (sym is) tt

pub both_joined :
    {A B E : Type 0} (q : Result B E) (r : Result A E) (x : B) (P R : Type 0) (Q : B → Type 0) → q ≡ result_and r (Ok x) → OnOk r P → OnOk r R → (P → R → Q x) → IfOk q Q
both_joined {A} {B} {E} q (Ok a) x P R Q is h k f = subst (λ (d : Result B E). IfOk d Q) (sym is) (f h k)
both_joined {A} {B} {E} q (Err e) x P R Q is h k f = subst (λ (d : Result B E). IfOk d Q) (sym is) tt

pub on_joined : {A B E : Type 0} (q : Result B E) (r : Result A E) (x : B) (P : Type 0) → q ≡ result_and r (Ok x) → OnOk r P → OnOk q P
on_joined {A} {B} {E} q (Ok a) x P is h = subst (λ (d : Result B E). OnOk d P) (sym is) h
on_joined {A} {B} {E} q (Err e) x P is h = subst (λ (d : Result B E). OnOk d P) (sym is) tt

-- what holds if the call fails
pub err_joined : {A B E : Type 0} (q : Result B E) (r : Result A E) (x : B) (P : E → Type 0) → q ≡ result_and r (Ok x) → IfErr r P → IfErr q P
err_joined {A} {B} {E} q (Ok a) x P is h = subst (λ (d : Result B E). IfErr d P) (sym is) tt
err_joined {A} {B} {E} q (Err e) x P is h = subst (λ (d : Result B E). IfErr d P) (sym is) h

pub fails_joined : {A B E : Type 0} (q : Result B E) (r : Result A E) (x : B) (P : Type 0) → q ≡ result_and r (Ok x) → OnErr r P → OnErr q P
fails_joined {A} {B} {E} q (Ok a) x P is h = subst (λ (d : Result B E). OnErr d P) (sym is) tt
fails_joined {A} {B} {E} q (Err e) x P is h = subst (λ (d : Result B E). OnErr d P) (sym is) h

-- what holds whether a call fails or not
pub on_any : {A E : Type 0} (r : Result A E) (P : Type 0) → P → OnOk r P
on_any (Ok x) P p = p
on_any (Err e) P p = tt

-- what holds of an answer, where an error was passed on
pub ok_passed : {A E : Type 0} (r : Result A E) (P : A → Type 0) (Q : E → Type 0) → IsErrAnd r Q → IfOk r P
ok_passed (Ok x) P Q is = absurd is
ok_passed (Err e) P Q is = tt

-- what two calls put after a text
pub both_put :
    {A B E : Type 0} (q : Result B E) (r : Result A E) (s : Result B E) (b c x t : List ℕ) → q ≡ result_and r s → OnOk r (b ≡ x) → OnOk s (c ≡ b ++ t) → OnOk q (c ≡ x ++ t)
both_put {A} {B} {E} q (Ok a) s b c x t is first last =
    subst (λ (d : Result B E). OnOk d (c ≡ x ++ t)) (sym is) (on_ok s (c ≡ b ++ t) (c ≡ x ++ t) last (λ e. e ∙ ap (λ (l : List ℕ). l ++ t) first))
both_put {A} {B} {E} q (Err e) s b c x t is first last = subst (λ (d : Result B E). OnOk d (c ≡ x ++ t)) (sym is) tt
