-- One iteration of a loop that reads items, and adds what was read to what was found.
use Rattle.fb_read.proofs.lemmas.Common.{◌≡◌, ℕ, suc, Bool, true, false, if◌then◌else◌, List, [], ◌∷◌, ◌++◌, Result, Ok, Err, refl, subst, ◌∙◌, Choice, Mark, ParseFault, Tokens, Stmt, Parser, Reads, and_then, sees, after, expect, rest_of, run_from, many_from, separated_from, several_from, choice, elsif}
use Rattle.fb_read.specs.declared.token.Mark.TheVariants as mark
use Rattle.fb_read.specs.Added.{Adds}
use Rattle.fb_read.proofs.lemmas.rules.AddedItems.{added_on, fault_of}
use Rattle.fb_read.proofs.lemmas.rules.Reading.{stops, stops_as}

pub several_more :
    {A : Type 0} (begins : Tokens → Bool) (item : Parser A) (n : ℕ) (found all : List A) (ts new : Tokens) (read : Result A ParseFault)
    → begins ts ≡ true → Reads (item ts) read new → Adds found read (Ok all) → several_from begins item (suc n) found ts ≡ several_from begins item n all new
unfolding several_from
several_more begins item n found all ts new read b r more = rw b (added_on (item ts) read new found all (λ xs. several_from begins item n xs) r more)

pub several_fault :
    {A : Type 0} (begins : Tokens → Bool) (item : Parser A) (n : ℕ) (found : List A) (ts new : Tokens) (read : Result A ParseFault) (e : ParseFault)
    → begins ts ≡ true → Reads (item ts) read new → Adds found read (Err e) → Reads (several_from begins item (suc n) found ts) (Err e) new
unfolding several_from
several_fault begins item n found ts new read e b r shown =
    stops_as _ (and_then (item ts) (λ x. several_from begins item n (found ++ x ∷ []))) e new (rw b refl) (stops _ _ e new (fault_of (item ts) read new found e r shown))

pub several_over :
    {A : Type 0} (begins : Tokens → Bool) (item : Parser A) (n : ℕ) (found : List A) (ts : Tokens) → begins ts ≡ false → several_from begins item (suc n) found ts ≡ Ok (found, ts)
unfolding several_from
several_over begins item n found ts b = rw b refl

pub run_more :
    {A : Type 0} (item : Parser A) (begin : Mark) (n : ℕ) (found all : List A) (ts new : Tokens) (read : Result A ParseFault)
    → sees begin ts ≡ true → Reads (item ts) read new → Adds found read (Ok all) → run_from item begin (suc n) found ts ≡ run_from item begin n all new
unfolding run_from
run_more item begin n found all ts new read b r more = rw b (added_on (item ts) read new found all (λ xs. run_from item begin n xs) r more)

pub run_fault :
    {A : Type 0} (item : Parser A) (begin : Mark) (n : ℕ) (found : List A) (ts new : Tokens) (read : Result A ParseFault) (e : ParseFault)
    → sees begin ts ≡ true → Reads (item ts) read new → Adds found read (Err e) → Reads (run_from item begin (suc n) found ts) (Err e) new
unfolding run_from
run_fault item begin n found ts new read e b r shown =
    stops_as _ (and_then (item ts) (λ x. run_from item begin n (found ++ x ∷ []))) e new (rw b refl) (stops _ _ e new (fault_of (item ts) read new found e r shown))

pub run_over : {A : Type 0} (item : Parser A) (begin : Mark) (n : ℕ) (found : List A) (ts : Tokens) → sees begin ts ≡ false → run_from item begin (suc n) found ts ≡ Ok (found, ts)
unfolding run_from
run_over item begin n found ts b = rw b refl

pub many_over : {A : Type 0} (item : Parser A) (end : Mark) (n : ℕ) (found : List A) (ts : Tokens) → sees end ts ≡ true → many_from item end (suc n) found ts ≡ Ok (found, after end ts)
unfolding many_from
many_over item end n found ts b = rw b refl

pub many_more :
    {A : Type 0} (item : Parser A) (end : Mark) (n : ℕ) (found all : List A) (ts mid new : Tokens) (read : Result A ParseFault)
    → sees end ts ≡ false → mid ≡ after end ts → Reads (item mid) read new → Adds found read (Ok all) → many_from item end (suc n) found ts ≡ many_from item end n all new
unfolding many_from
many_more item end n found all ts mid new read b m r more =
    rw b (added_on (item (after end ts)) read new found all (λ xs. many_from item end n xs) (subst (λ (t : Tokens). Reads (item t) read new) m r) more)

pub many_fault :
    {A : Type 0} (item : Parser A) (end : Mark) (n : ℕ) (found : List A) (ts mid new : Tokens) (read : Result A ParseFault) (e : ParseFault)
    → sees end ts ≡ false → mid ≡ after end ts → Reads (item mid) read new → Adds found read (Err e) → Reads (many_from item end (suc n) found ts) (Err e) new
unfolding many_from
many_fault item end n found ts mid new read e b m r shown =
    let here : Reads (item (after end ts)) read new = subst (λ (t : Tokens). Reads (item t) read new) m r in
    stops_as _ (and_then (item (after end ts)) (λ x. many_from item end n (found ++ x ∷ []))) e new (rw b refl)
    (stops _ _ e new (fault_of (item (after end ts)) read new found e here shown))

pub separated_fault :
    {A : Type 0} (item : Parser A) (n : ℕ) (found : List A) (ts new : Tokens) (read : Result A ParseFault) (e : ParseFault)
    → Reads (item ts) read new → Adds found read (Err e) → Reads (separated_from item (suc n) found ts) (Err e) new
unfolding separated_from
separated_fault item n found ts new read e r shown = stops (item ts) _ e new (fault_of (item ts) read new found e r shown)

-- the items with one more, where a comma follows it
pub separated_more :
    {A : Type 0} (item : Parser A) (n : ℕ) (found all : List A) (ts new mid : Tokens) (read : Result A ParseFault)
    → Reads (item ts) read new → Adds found read (Ok all) → sees mark.Comma new ≡ true → mid ≡ after mark.Comma new → separated_from item (suc n) found ts ≡ separated_from item n all mid
unfolding separated_from
separated_more item n found all ts new mid read r shown more next =
    added_on (item ts) read new found all (λ xs rest. (if sees mark.Comma rest then separated_from item n xs else (λ us. Ok (xs, us))) (after mark.Comma rest)) r shown ∙ rw (more, next) refl

-- the last one
pub separated_last :
    {A : Type 0} (item : Parser A) (n : ℕ) (found all : List A) (ts new mid : Tokens) (read : Result A ParseFault)
    → Reads (item ts) read new → Adds found read (Ok all) → sees mark.Comma new ≡ false → mid ≡ after mark.Comma new → separated_from item (suc n) found ts ≡ Ok (all, mid)
unfolding separated_from
separated_last item n found all ts new mid read r shown over next =
    added_on (item ts) read new found all (λ xs rest. (if sees mark.Comma rest then separated_from item n xs else (λ us. Ok (xs, us))) (after mark.Comma rest)) r shown ∙ rw (over, next) refl

pub after_none : (k : Mark) (ts : Tokens) → sees k ts ≡ false → after k ts ≡ ts
unfolding after
after_none k ts none = rw none refl

-- a choice after ELSIF
pub elsif_reads :
    (inner : Parser Stmt) (ts mid new : Tokens) (read : Result Choice ParseFault)
    → sees mark.Elsif ts ≡ true → mid ≡ after mark.Elsif ts → Reads (choice inner mid) read new → Reads (elsif inner ts) read new
unfolding elsif expect after
elsif_reads inner ts mid new read b m r =
    let following : mid ≡ rest_of ts = rw b at m in
    rw b (subst (λ (t : Tokens). Reads (choice inner t) read new) following r)
