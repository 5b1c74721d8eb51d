-- What is left of the tokens after a walk.
use Rattle.fb_types.proofs.Common.{◌≡◌, ℕ, List, length, Option, Some, None, Result, Ok, Err, refl, sym, ◌∙◌, subst, IfOk, IfSome, MatchOption}
use Rattle.fb_read.specs.Parser.{Outcome, Reads, RuleFault, syntax, too_deep}
use Rattle.fb_read.specs.Tokens.{Tokens, tokens_of}
use Rattle.fb_read.specs.declared.fault.ParseFault.{ParseFault}
use Rattle.fb_read.specs.declared.fault.ParseFault.TheVariants as fault
use Rattle.fb_read.specs.declared.token.Located.{Located}
use Rattle.fb_read_positions.specs.Resumed.{IsStop, Leads, StopsAt}
use Rattle.fb_read_positions.specs.Walks.{Walk}
use Rattle.fb_read_positions.specs.declared.resume.Stop.{Stop}

-- what holds of what was found, and what holds where nothing was
pub where_some : {A : Type 0} (N : Type 0) (P : A → Type 0) (o : Option A) (x : A) → o ≡ Some x → MatchOption o N P → P x
where_some {A} N P o x is h = subst (λ (y : Option A). MatchOption y N P) is h

pub where_none : {A : Type 0} (N : Type 0) (P : A → Type 0) (o : Option A) → o ≡ None → MatchOption o N P → N
where_none {A} N P o is h = subst (λ (y : Option A). MatchOption y N P) is h

-- a walk that read
pub was_read : (o : Outcome (Unit {0})) (new : Tokens) (r : Result (Unit {0}) ParseFault) → Reads o r new → r ≡ Ok tt → o ≡ Ok (tt, new)
was_read o new r reads ok = subst (λ (x : Result (Unit {0}) ParseFault). Reads o x new) ok reads

-- a walk that did not
not_read : (o : Outcome (Unit {0})) (f : RuleFault) (here : Tokens) → o ≡ Err f → o ≡ Ok (tt, here) → ⊥
not_read o f here h ok = cc

pub was_refused :
    (o : Outcome (Unit {0})) (new here : Tokens) (r : Result (Unit {0}) ParseFault) (e : ParseFault) → Reads o r new → r ≡ Err e → (e ≡ fault.Memory → ⊥) → o ≡ Ok (tt, here) → ⊥
was_refused o new here r e reads err some ok = go e (subst (λ (x : Result (Unit {0}) ParseFault). Reads o x new) err reads) some
  where
    go : (f : ParseFault) → Reads o (Err f) new → (f ≡ fault.Memory → ⊥) → ⊥
    go fault.Memory h is_other = is_other refl
    go fault.Syntax h is_other = not_read o (syntax new) here h ok
    go fault.Nesting h is_other = not_read o too_deep here h ok

-- two walks with one outcome lead to the same number of tokens
pub leads_as : (v w : Walk) (qs ps : List Located) (o : Option ℕ) → v (tokens_of qs) ≡ w (tokens_of ps) → Leads v qs o → Leads w ps o
leads_as v w qs ps None same none = λ here e. none here (same ∙ e)
leads_as v w qs ps (Some n) same left = (left.0, sym same ∙ left.1, left.2)

-- a walk from all these tokens, and what is left after it
pub leaves_if :
    {E : Type 0} (w : Walk) (ps : List Located) (ts new : Tokens) (r : Result (Unit {0}) ParseFault) (left : ℕ) (found : Result (Option ℕ) E) → ts ≡ tokens_of ps
    → Reads (w ts) r new → left ≡ length new → ((v : Walk) (qs : List Located) (rest : Tokens) → Reads (v (tokens_of qs)) r rest → left ≡ length rest → IfOk found (Leads v qs))
    → IfOk found (Leads w ps)
leaves_if w ps ts new r left found all reads is h = h w ps new (subst (λ (us : Tokens). Reads (w us) r new) all reads) is

-- the end of a walk, if one was found
pub stop_if : (ps : List Located) (w : Walk) (o : Option Stop) → StopsAt ps w o → IfSome o (IsStop ps w)
stop_if ps w None h = tt
stop_if ps w (Some s) h = h
