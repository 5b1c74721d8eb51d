-- What a rule reads, by what its parts read.
use Rattle.fb_read.proofs.lemmas.Common.{◌≡◌, Bool, true, false, if◌then◌else◌, Result, Ok, Err, ap, sym, subst, ◌∙◌, Mark, ParseFault, Tokens, Parser, Outcome, Reads, and_then, sees, after}
use Rattle.fb_read.specs.declared.fault.ParseFault.TheVariants as fault

-- what its first part refuses, a rule refuses
pub stops : {A B : Type 0} (o : Outcome A) (f : A → Parser B) (e : ParseFault) (new : Tokens) → Reads o (Err e) new → Reads (and_then o f) (Err e) new
stops o f fault.Memory new r = tt
stops {A = A} o f fault.Syntax new r = ap (λ (x : Outcome A). and_then x f) r
stops {A = A} o f fault.Nesting new r = ap (λ (x : Outcome A). and_then x f) r

-- after its first part, a rule reads what the rest of it reads
pub goes_on : {A B : Type 0} (o : Outcome A) (f : A → Parser B) (x : A) (mid : Tokens) (r : Result B ParseFault) (new : Tokens)
    → o ≡ Ok (x, mid) → Reads (f x mid) r new → Reads (and_then o f) r new
goes_on {A = A} o f x mid r new is reads = subst (λ (y : Outcome A). Reads (and_then y f) r new) (sym is) reads

-- the same, where the rest refuses
pub stops_later : {A B : Type 0} (o : Outcome A) (f : A → Parser B) (x : A) (mid : Tokens) (e : ParseFault) (new : Tokens)
    → o ≡ Ok (x, mid) → Reads (f x mid) (Err e) new → Reads (and_then o f) (Err e) new
stops_later o f x mid e new is reads = goes_on o f x mid (Err e) new is reads

-- the same, where nothing is refused
pub went_on : {A B : Type 0} (o : Outcome A) (f : A → Parser B) (x : A) (mid : Tokens) (p : Outcome B) → o ≡ Ok (x, mid) → f x mid ≡ p → and_then o f ≡ p
went_on {A = A} o f x mid p is rest = ap (λ (y : Outcome A). and_then y f) is ∙ rest

-- the same rule, written in another way
pub read_as : {A : Type 0} (o p : Outcome A) (r : Result A ParseFault) (new : Tokens) → o ≡ p → Reads p r new → Reads o r new
read_as {A = A} o p r new same reads = subst (λ (x : Outcome A). Reads x r new) (sym same) reads

pub stops_as : {A : Type 0} (o p : Outcome A) (e : ParseFault) (new : Tokens) → o ≡ p → Reads p (Err e) new → Reads o (Err e) new
stops_as o p e new same reads = read_as o p (Err e) new same reads

-- the first of two rules, where its mark is next
pub begun : {A : Type 0} (k : Mark) (p q : Parser A) (ts mid : Tokens) (b : Bool) (r : Result A ParseFault) (new : Tokens)
    → b ≡ sees k ts → b ≡ true → mid ≡ after k ts → Reads (p mid) r new → Reads ((if sees k ts then p else q) (after k ts)) r new
begun {A = A} k p q ts mid b r new found some there reads =
    let is : sees k ts ≡ true = sym found ∙ some in
    rw is (subst (λ (t : Tokens). Reads (p t) r new) there reads)

-- the same, where the outcome is known
pub begun_is : {A : Type 0} (k : Mark) (p q : Parser A) (ts mid : Tokens) (b : Bool) (o : Outcome A)
    → b ≡ sees k ts → b ≡ true → mid ≡ after k ts → p mid ≡ o → (if sees k ts then p else q) (after k ts) ≡ o
begun_is {A = A} k p q ts mid b o found some there is =
    let next : sees k ts ≡ true = sym found ∙ some in
    rw next (subst (λ (t : Tokens). p t ≡ o) there is)

-- the second of them, where it is not
pub passed : {A : Type 0} (k : Mark) (p q : Parser A) (ts mid : Tokens) (b : Bool) (r : Result A ParseFault) (new : Tokens)
    → b ≡ sees k ts → b ≡ false → mid ≡ after k ts → Reads (q mid) r new → Reads ((if sees k ts then p else q) (after k ts)) r new
passed {A = A} k p q ts mid b r new found none there reads =
    let is : sees k ts ≡ false = sym found ∙ none in
    rw is (subst (λ (t : Tokens). Reads (q t) r new) there reads)

pub passed_is : {A : Type 0} (k : Mark) (p q : Parser A) (ts mid : Tokens) (b : Bool) (o : Outcome A)
    → b ≡ sees k ts → b ≡ false → mid ≡ after k ts → q mid ≡ o → (if sees k ts then p else q) (after k ts) ≡ o
passed_is {A = A} k p q ts mid b o found none there is =
    let next : sees k ts ≡ false = sym found ∙ none in
    rw next (subst (λ (t : Tokens). q t ≡ o) there is)
