-- What is passed without being kept.
use Rattle.fb_types.proofs.Common.{◌≡◌, ℕ, suc, Bool, true, false, cond, [], ◌∷◌, Ok, Err, refl, sym, ap, subst, ◌∙◌, false≢true, Some, None, Result, if◌then◌else◌, Name}
use Rattle.fb_types.specs.declared.library.Action.{Action}
use Rattle.fb_read.specs.Charts.{action}
use Rattle.fb_read.specs.Network.{application}
use Rattle.fb_read.specs.Nodes.{action_of}
use Rattle.fb_read.specs.Parser.{Outcome, Reads, ◌>>=◌, ◌>>◌, and_then, pure, refuse, eat, expect, name, name_if, sees, sees_name, after, syntax}
use Rattle.fb_read.specs.Tokens.{Tokens}
use Rattle.fb_read.specs.declared.fault.ParseFault.{ParseFault}
use Rattle.fb_read.specs.declared.token.Mark.TheVariants as mark
use Rattle.fb_read.specs.declared.token.Token.TheVariants as token
use Rattle.fb_read_positions.specs.Walks.{Walk, after_name, pass_actions, passed, past_application, skip, take, take_all}
use Rattle.fb_read_positions.specs.declared.step.Step.TheVariants as step
use Rattle.fb_read_positions.proofs.lemmas.ReadingLoops.{fault_at, fault_on, pass_fault, pass_more, then_on}

-- what is the same outcome was read too
pub read_as : {A : Type 0} (o p : Outcome A) (read : Result A ParseFault) (new : Tokens) → o ≡ p → Reads p read new → Reads o read new
read_as {A} o p read new same r = subst (λ (x : Outcome A). Reads x read new) (sym same) r

-- ---- The application

pub application_passed : (ts : Tokens) (b : Bool) → b ≡ sees mark.Application ts → b ≡ true → past_application ts ≡ skip application ts
application_passed ts b found seen = ap (λ (x : Bool). if x then skip application ts else Ok (tt, ts)) (sym found ∙ seen)

-- ---- Names

pub name_passed : (ts new : Tokens) (b : Bool) → b ≡ sees_name ts → b ≡ true → new ≡ after_name ts → skip name ts ≡ Ok (tt, new)
unfolding name
name_passed [] new b found seen next = absurd (false≢true (sym found ∙ seen))
name_passed (token.Name text ∷ ts) new b found seen next = ap (λ (x : Tokens). Ok (tt, x)) (sym next)
name_passed (token.Mark k ∷ ts) new b found seen next = absurd (false≢true (sym found ∙ seen))
name_passed (token.Whole n ∷ ts) new b found seen next = absurd (false≢true (sym found ∙ seen))
name_passed (token.Time n ∷ ts) new b found seen next = absurd (false≢true (sym found ∙ seen))

pub no_name_passed : (ts new : Tokens) (b : Bool) → b ≡ sees_name ts → b ≡ false → new ≡ after_name ts → skip name ts ≡ Err (syntax new)
unfolding name
no_name_passed [] new b found seen next = ap (λ (x : Tokens). Err (syntax x)) (sym next)
no_name_passed (token.Name text ∷ ts) new b found seen next = absurd (false≢true (sym seen ∙ found))
no_name_passed (token.Mark k ∷ ts) new b found seen next = ap (λ (x : Tokens). Err (syntax x)) (sym next)
no_name_passed (token.Whole n ∷ ts) new b found seen next = ap (λ (x : Tokens). Err (syntax x)) (sym next)
no_name_passed (token.Time n ∷ ts) new b found seen next = ap (λ (x : Tokens). Err (syntax x)) (sym next)

-- ---- Actions

-- what follows the algorithm of an action, by whether it has one
abbrev pub after_algorithm : Bool → Walk
after_algorithm has = do
  emits ← eat mark.Arrow
  if emits then skip name else (if has then pure tt else refuse)

-- what an action is does not matter
output_passed : (o : Outcome Name) (f : Name → Action) → passed (and_then o (λ output. pure (f output))) ≡ passed o
output_passed (Ok p) f = refl
output_passed (Err e) f = refl

with_algorithm : (text : Name) (emits : Bool) (ts : Tokens) →
    passed (cond emits (name >>= (λ output. pure (action_of (Some text) (Some output)))) (pure (action_of (Some text) None)) ts) ≡ cond emits (skip name) (pure tt) ts
with_algorithm text true ts = output_passed (name ts) (λ output. action_of (Some text) (Some output))
with_algorithm text false ts = refl

without_algorithm : (emits : Bool) (ts : Tokens) →
    passed (cond emits (name >>= (λ output. pure (action_of None (Some output)))) refuse ts) ≡ cond emits (skip name) refuse ts
without_algorithm true ts = output_passed (name ts) (λ output. action_of None (Some output))
without_algorithm false ts = refl

action_is : (ts : Tokens) → skip action ts ≡ after_algorithm (sees_name ts) (after_name ts)
unfolding action name_if
action_is [] = without_algorithm (sees mark.Arrow []) (after mark.Arrow [])
action_is (token.Name text ∷ ts) = with_algorithm text (sees mark.Arrow ts) (after mark.Arrow ts)
action_is (token.Mark k ∷ ts) = without_algorithm (sees mark.Arrow (token.Mark k ∷ ts)) (after mark.Arrow (token.Mark k ∷ ts))
action_is (token.Whole n ∷ ts) = without_algorithm (sees mark.Arrow (token.Whole n ∷ ts)) (after mark.Arrow (token.Whole n ∷ ts))
action_is (token.Time n ∷ ts) = without_algorithm (sees mark.Arrow (token.Time n ∷ ts)) (after mark.Arrow (token.Time n ∷ ts))

-- an action, by whether it has an algorithm, whether an arrow is next then, and what is left after both
module _ (ts us vs : Tokens) (has emits : Bool) (is_name : has ≡ sees_name ts) (past_name : us ≡ after_name ts) (is_arrow : emits ≡ sees mark.Arrow us) (past_arrow : vs ≡ after mark.Arrow us) where
  by_parts : skip action ts ≡ cond emits (skip name) (cond has (pure tt) refuse) vs
  by_parts =
      action_is ts ∙ ap (λ (b : Bool). after_algorithm b (after_name ts)) (sym is_name) ∙ ap (λ (x : Tokens). after_algorithm has x) (sym past_name)
      ∙ ap (λ (b : Bool). cond b (skip name) (cond has (pure tt) refuse) (after mark.Arrow us)) (sym is_arrow)
      ∙ ap (λ (x : Tokens). cond emits (skip name) (cond has (pure tt) refuse) x) (sym past_arrow)

  pub to_output : emits ≡ true → skip action ts ≡ skip name vs
  to_output e = by_parts ∙ ap (λ (b : Bool). cond b (skip name) (cond has (pure tt) refuse) vs) e

  no_output : emits ≡ false → skip action ts ≡ cond has (pure tt) refuse vs
  no_output e = by_parts ∙ ap (λ (b : Bool). cond b (skip name) (cond has (pure tt) refuse) vs) e

  pub algorithm_alone : emits ≡ false → has ≡ true → skip action ts ≡ Ok (tt, vs)
  algorithm_alone e h = no_output e ∙ ap (λ (b : Bool). cond b (pure tt) refuse vs) h

  pub no_action : emits ≡ false → has ≡ false → skip action ts ≡ Err (syntax vs)
  no_action e h = no_output e ∙ ap (λ (b : Bool). cond b (pure tt) refuse vs) h

-- ---- Actions one after another

module _ (n : ℕ) (ts : Tokens) where
  first_passed : (mid : Tokens) → skip action ts ≡ Ok (tt, mid) → take_all (step.Action ∷ step.Mark mark.Comma ∷ []) ts ≡ take_all (step.Mark mark.Comma ∷ []) mid
  unfolding take_all take
  first_passed mid is = then_on (skip action ts) (λ x. take_all (step.Mark mark.Comma ∷ [])) tt mid is

  comma_passed : (mid new : Tokens) → expect mark.Comma mid ≡ Ok (tt, new) → take_all (step.Mark mark.Comma ∷ []) mid ≡ Ok (tt, new)
  unfolding take_all take
  comma_passed mid new is = then_on (expect mark.Comma mid) (λ x. take_all []) tt new is

  pub action_more : (mid new : Tokens) → skip action ts ≡ Ok (tt, mid) → expect mark.Comma mid ≡ Ok (tt, new) → pass_actions (suc n) ts ≡ pass_actions n new
  action_more mid new is comma = pass_more _ n ts new (first_passed mid is ∙ comma_passed mid new comma)

  pub action_fault : (e : ParseFault) (new : Tokens) → Reads (skip action ts) (Err e) new → Reads (pass_actions (suc n) ts) (Err e) new
  unfolding take_all take
  action_fault e new r = pass_fault _ n ts new e (fault_on (skip action ts) (λ x. take_all (step.Mark mark.Comma ∷ [])) e new r)

  comma_refused : (mid : Tokens) (e : ParseFault) (new : Tokens) → Reads (expect mark.Comma mid) (Err e) new → Reads (take_all (step.Mark mark.Comma ∷ []) mid) (Err e) new
  unfolding take_all take
  comma_refused mid e new r = fault_on (expect mark.Comma mid) (λ x. take_all []) e new r

  pub comma_fault : (mid : Tokens) (e : ParseFault) (new : Tokens) → skip action ts ≡ Ok (tt, mid) → Reads (expect mark.Comma mid) (Err e) new → Reads (pass_actions (suc n) ts) (Err e) new
  comma_fault mid e new is r = pass_fault _ n ts new e (fault_at _ _ e new (first_passed mid is) (comma_refused mid e new r))
