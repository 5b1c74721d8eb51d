use Rattle.fb_read.proofs.lemmas.Common.{◌≡◌, Bool, true, false, if◌then◌else◌, Option, Some, None, Ok, Err, refl, ◌&&◌, err_from_is_err_and, Name, Action, Tokens, Parser, Outcome, ◌>>=◌, and_then, pure, refuse, name, name_if, sees, after, action}
use Rattle.std.specs.Prelude.{is_none}
use Rattle.fb_read.specs.declared.token.Mark.TheVariants as mark
use Rattle.fb_read.specs.Nodes.{action_of}
use Rattle.fb_read.specs.Parser.{optional}
use Rattle.fb_read.proofs.lemmas.rules.Pairs.{alike}
use Rattle.fb_read.proofs.lemmas.rules.Reading.{stops, stops_as, stops_later}
use Rattle.fb_read.proofs.chart.ActionRule.read.Goals as goal

-- an action has an algorithm or an output
abbrev made : Option Name → Option Name → Parser Action
made algorithm output = if is_none algorithm && is_none output then refuse else pure (action_of algorithm output)

with_output : (algorithm : Option Name) (o : Outcome Name) → and_then o (λ x. pure (action_of algorithm (Some x))) ≡ and_then {A = Option Name} (and_then o (λ x. pure (Some x))) (made algorithm)
with_output None (Ok x) = refl
with_output (Some n) (Ok x) = refl
with_output algorithm (Err e) = refl

without_output : (algorithm : Option Name) (ts : Tokens) → (if is_none algorithm then refuse else pure (action_of algorithm None)) ts ≡ made algorithm None ts
without_output None ts = refl
without_output (Some n) ts = refl

after_algorithm : (algorithm : Option Name) (b : Bool) (ts : Tokens)
    → (if b then (name >>= (λ x. pure (action_of algorithm (Some x)))) else (if is_none algorithm then refuse else pure (action_of algorithm None))) ts
    ≡ and_then {A = Option Name} ((if b then (name >>= (λ x. pure (Some x))) else pure None) ts) (made algorithm)
after_algorithm algorithm true ts = with_output algorithm (name ts)
after_algorithm algorithm false ts = without_output algorithm ts

action_is : (ts : Tokens) → action ts ≡ (name_if >>= (λ algorithm. optional name mark.Arrow >>= made algorithm)) ts
unfolding action optional
action_is ts =
    alike (name_if ts) (λ algorithm mid. (if sees mark.Arrow mid then (name >>= (λ x. pure (action_of algorithm (Some x)))) else (if is_none algorithm then refuse else pure (action_of algorithm None))) (after mark.Arrow mid))
    (λ algorithm. optional name mark.Arrow >>= made algorithm) (λ algorithm mid. after_algorithm algorithm (sees mark.Arrow mid) (after mark.Arrow mid))

pub returns-in_err-algorithm : goal.returns-in_err-algorithm
returns-in_err-algorithm c =
    let p = err_from_is_err_and c.from_residual.result c.from_residual.ensures.1 in
    rw (p.1, p.2) (stops_as _ _ _ _ (action_is c.args.cursor.now) (stops _ _ _ _ c.in_err-algorithm.ensures))

pub returns-in_err-output : goal.returns-in_err-output
returns-in_err-output c =
    let p = err_from_is_err_and c.from_residual-in_err-output.result c.from_residual-in_err-output.ensures.1 in
    rw (p.1, p.2) (stops_as _ _ _ _ (action_is c.args.cursor.now) (stops_later _ _ _ _ _ _ c.in_ok-algorithm.ensures (stops _ _ _ _ c.in_err-output.ensures)))
