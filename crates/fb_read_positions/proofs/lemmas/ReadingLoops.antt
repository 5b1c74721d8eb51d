-- One iteration of a loop that reads up to a position.
use Rattle.fb_types.proofs.Common.{Bool, Err, List, Ok, [], ap, arith, cond, eqb, false, refl, subst, suc, sym, true, zero, ℕ, ◌-◌, ◌||◌, ◌∙◌, ◌∷◌, ◌≡◌, ◌≤◌, ◌&&◌, length}
use Rattle.fb_read.specs.Parser.{Parser, Outcome, Reads, and_then, sees_name, rest_of, syntax}
use Rattle.fb_read.specs.Statements.{begins_statement}
use Rattle.fb_read.specs.Tokens.{Tokens}
use Rattle.fb_read.specs.declared.fault.ParseFault.{ParseFault}
use Rattle.fb_read.specs.declared.fault.ParseFault.TheVariants as fault
use Rattle.fb_read.specs.declared.token.Token.TheVariants as token
use Rattle.fb_read_positions.specs.Walks.{begins_clause, begins_clauses, depth_after, ends_clauses, opens, pass, take_all, to_clause, to_name, to_statement}
use Rattle.fb_read_positions.specs.declared.step.Step.{Step}

-- ---- Outcomes

-- what a rule refuses, the rule of which it is the first part refuses
pub fault_on : {A B : Type 0} (o : Outcome A) (f : A → Parser B) (e : ParseFault) (new : Tokens) → Reads o (Err e) new → Reads (and_then o f) (Err e) new
fault_on o f fault.Memory new r = tt
fault_on {A} {B} o f fault.Syntax new r = ap (λ (x : Outcome A). and_then x f) r
fault_on {A} {B} o f fault.Nesting new r = ap (λ (x : Outcome A). and_then x f) r

pub fault_at : {A : Type 0} (o p : Outcome A) (e : ParseFault) (new : Tokens) → o ≡ p → Reads p (Err e) new → Reads o (Err e) new
fault_at {A} o p e new same r = subst (λ (x : Outcome A). Reads x (Err e) new) (sym same) r

pub then_on : {A B : Type 0} (o : Outcome A) (f : A → Parser B) (x : A) (new : Tokens) → o ≡ Ok (x, new) → and_then o f ≡ f x new
then_on {A} o f x new is = ap (λ (y : Outcome A). and_then y f) is

-- ---- Steps

module _ (steps : List Step) where
  pub pass_more : (n : ℕ) (ts new : Tokens) → take_all steps ts ≡ Ok (tt, new) → pass steps (suc n) ts ≡ pass steps n new
  unfolding pass
  pass_more n ts new is = then_on (take_all steps ts) (λ x. pass steps n) tt new is

  pub pass_fault : (n : ℕ) (ts new : Tokens) (e : ParseFault) → Reads (take_all steps ts) (Err e) new → Reads (pass steps (suc n) ts) (Err e) new
  unfolding pass
  pass_fault n ts new e r = fault_on (take_all steps ts) (λ x. pass steps n) e new r

-- ---- Names

pub at_name : (ts : Tokens) → sees_name ts ≡ true → to_name ts zero ≡ Ok (tt, ts)
unfolding to_name
at_name [] sees = absurd (let no : false ≡ true = sees in cc)
at_name (token.Name n ∷ ts) sees = refl
at_name (token.Mark k ∷ ts) sees = absurd (let no : false ≡ true = sees in cc)
at_name (token.Whole n ∷ ts) sees = absurd (let no : false ≡ true = sees in cc)
at_name (token.Time n ∷ ts) sees = absurd (let no : false ≡ true = sees in cc)

pub past_name : (ts : Tokens) (n : ℕ) → sees_name ts ≡ true → to_name ts (suc n) ≡ to_name (rest_of ts) n
unfolding to_name
past_name [] n sees = absurd (let no : false ≡ true = sees in cc)
past_name (token.Name text ∷ ts) n sees = refl
past_name (token.Mark k ∷ ts) n sees = absurd (let no : false ≡ true = sees in cc)
past_name (token.Whole m ∷ ts) n sees = absurd (let no : false ≡ true = sees in cc)
past_name (token.Time m ∷ ts) n sees = absurd (let no : false ≡ true = sees in cc)

pub past_other : (ts : Tokens) (n : ℕ) → sees_name ts ≡ false → to_name ts n ≡ to_name (rest_of ts) n
unfolding to_name
past_other [] n sees = refl
past_other (token.Name text ∷ ts) n sees = absurd (let no : true ≡ false = sees in cc)
past_other (token.Mark k ∷ ts) n sees = refl
past_other (token.Whole m ∷ ts) n sees = refl
past_other (token.Time m ∷ ts) n sees = refl

-- ---- Statements

pub at_statement : (ts : Tokens) (ready : Bool) → ready ≡ true → begins_statement ts ≡ true → to_statement ts ready zero ≡ Ok (tt, ts)
unfolding to_statement
at_statement [] ready o begins = absurd (let no : false ≡ true = begins in cc)
at_statement (t ∷ ts) ready o begins = rw o (rw begins refl)

pub past_statement : (ts : Tokens) (ready : Bool) (n : ℕ) → ready ≡ true → begins_statement ts ≡ true → to_statement ts ready (suc n) ≡ to_statement (rest_of ts) (opens ts) n
unfolding to_statement
past_statement [] ready n o begins = absurd (let no : false ≡ true = begins in cc)
past_statement (t ∷ ts) ready n o begins = rw o (rw begins refl)

pub past_token : (ts : Tokens) (ready : Bool) (n : ℕ) → (ready && begins_statement ts) ≡ false → to_statement ts ready n ≡ to_statement (rest_of ts) (opens ts) n
unfolding to_statement
past_token [] ready zero none = refl
past_token [] ready (suc n) none = refl
past_token (t ∷ ts) ready zero none = rw none refl
past_token (t ∷ ts) ready (suc n) none = rw none refl

pub moved :
    (ts us : Tokens) (a b : Bool) (m n : ℕ) → us ≡ ts → b ≡ a → n ≡ m → to_statement ts a m ≡ to_statement us b n
moved ts us a b m n t o k =
    ap (λ (x : Tokens). to_statement x a m) (sym t) ∙ ap (λ (x : Bool). to_statement us x m) (sym o) ∙ ap (λ (x : ℕ). to_statement us b x) (sym k)

pub moved_name : (ts us : Tokens) (m n : ℕ) → us ≡ ts → n ≡ m → to_name ts m ≡ to_name us n
moved_name ts us m n t k = ap (λ (x : Tokens). to_name x m) (sym t) ∙ ap (λ (x : ℕ). to_name us x) (sym k)

pub not_ready : (a b : Bool) → a ≡ false → (a && b) ≡ false
not_ready a b is = rw is refl

pub begins_none : (a b : Bool) → b ≡ false → (a && b) ≡ false
begins_none true b is = is
begins_none false b is = refl

-- where no token is left, no statement begins
pub none_stated : (ready : Bool) (n : ℕ) (here : Tokens) → to_statement [] ready n ≡ Ok (tt, here) → ⊥
unfolding to_statement
none_stated ready zero here e = cc
none_stated ready (suc n) here e = cc

-- ---- Clauses

-- none begins where no token is left
none_begins : (depth : ℕ) → begins_clause [] depth ≡ true → ⊥
none_begins depth h = go (eqb depth 0) (eqb depth 1) h
  where
    go : (a b : Bool) → ((a && false) || (b && false)) ≡ true → ⊥
    go true true e = cc
    go true false e = cc
    go false true e = cc
    go false false e = cc

pub at_clause : (ts : Tokens) (depth : ℕ) → begins_clause ts depth ≡ true → to_clause ts depth zero ≡ Ok (tt, ts)
unfolding to_clause
at_clause [] depth begins = absurd (none_begins depth begins)
at_clause (t ∷ ts) depth begins = rw begins refl

pub past_clause : (ts : Tokens) (depth n : ℕ) → begins_clause ts depth ≡ true → to_clause ts depth (suc n) ≡ to_clause (rest_of ts) (depth_after ts depth) n
unfolding to_clause
past_clause [] depth n begins = absurd (none_begins depth begins)
past_clause (t ∷ ts) depth n begins = rw begins refl

pub past_no_clause : (ts : Tokens) (depth n : ℕ) → begins_clause ts depth ≡ false → to_clause ts depth n ≡ to_clause (rest_of ts) (depth_after ts depth) n
unfolding to_clause
past_no_clause [] depth zero none = refl
past_no_clause [] depth (suc n) none = refl
past_no_clause (t ∷ ts) depth zero none = rw none refl
past_no_clause (t ∷ ts) depth (suc n) none = rw none refl

-- where no token is left, no clause begins
pub no_clause_begun : (depth n : ℕ) (here : Tokens) → to_clause [] depth n ≡ Ok (tt, here) → ⊥
unfolding to_clause
no_clause_begun depth zero here e = cc
no_clause_begun depth (suc n) here e = cc

-- one more at most
pub depth_more : (ts : Tokens) (depth : ℕ) → depth_after ts depth ≤ suc depth
depth_more ts depth = go (begins_clauses ts) (ends_clauses ts)
  where
    go : (a b : Bool) → cond a (suc depth) (cond b (depth - 1) depth) ≤ suc depth
    go true b = omega arith
    go false true = omega arith
    go false false = omega arith

-- ---- Tokens that are left

pub from_start : {X : Type 0} (f : ℕ → X) (n : ℕ) → f n ≡ f (n - 0)
from_start f n = let same : n ≡ n - 0 = omega arith in ap f same

pub none_named : (ts : Tokens) (n : ℕ) → length ts ≡ 0 → to_name ts n ≡ Err (syntax ts)
unfolding to_name
none_named [] n e = refl
none_named (t ∷ ts) n e = absurd (let no : suc (length ts) ≡ 0 = e in cc)

pub fewer : (ts : Tokens) (k : ℕ) → length ts ≡ suc k → length (rest_of ts) ≡ k
fewer [] k e = absurd (let no : 0 ≡ suc k = e in cc)
fewer (t ∷ ts) k e = let is : suc (length ts) ≡ suc k = e in cc
