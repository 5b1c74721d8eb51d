-- What the parser of execution control charts reads is in the grammar.
use Rattle.fb_read.proofs.lemmas.Common.{◌≡◌, cond, List, [], ◌∷◌, Option, Some, None, Ok, codes, sym, subst, inl, inr, ◌&&◌, Name, Expr, Action, transition_of, Tokens, pure, refuse, name, name_if, one, word, expect, after, expression, action, actions, state, states, condition, transition, transitions, structured_text, algorithm, algorithms, IsMark, IsName, is_name, AreAll}
use Rattle.std.specs.Option.{is_none}
use Rattle.fb_types.specs.declared.library.State.{State}
use Rattle.fb_types.specs.declared.library.Condition.{Condition}
use Rattle.fb_read.specs.declared.token.Mark.TheVariants as mark
use Rattle.fb_read.specs.declared.token.Token.TheVariants as token
use Rattle.fb_read.specs.Nodes.{action_of, state_of, condition_of, algorithm_of}
use Rattle.fb_read.specs.Parser.{◌>>◌}
use Rattle.fb_read.specs.Charts.{guard}
use Rattle.fb_read.specs.ChartsGrammar.{IsAction, of_algorithm, of_both, of_event, AreActions, no_actions, some_actions, IsState, is_state, AreStates, are_states, IsGuard, no_guard, some_guard, IsCondition, is_one, is_event, is_guarded, IsTransition, is_transition, AreTransitions, IsAlgorithm, is_algorithm}
use Rattle.fb_read.proofs.lemmas.rules.Steps.{both_ok, made, eaten, expected, named, spelled, alone}
use Rattle.fb_read.proofs.lemmas.rules.Lists.{IsSound, separated-sound, many_after-sound, section-sound, run-sound, adds-all}
use Rattle.fb_read.proofs.lemmas.expressions.ExpressionSound.{expression-right}
use Rattle.fb_read.proofs.lemmas.statements.StatementSound.{body-right}

-- what was taken, if a name came next
data IsNameIf : Option Name → Tokens → Tokens → Type 0 where
  a_name : {n : Name} {ts rest : Tokens} → IsName n ts rest → IsNameIf (Some n) ts rest
  no_name : {ts : Tokens} → IsNameIf None ts ts

name_if-sound : IsSound name_if IsNameIf
unfolding name_if
name_if-sound [] x rest h = made IsNameIf None x [] [] rest h no_name
name_if-sound (token.Name s ∷ ts) x rest h = made IsNameIf (Some s) x (token.Name s ∷ ts) ts rest h (a_name is_name)
name_if-sound (token.Mark k ∷ ts) x rest h = made IsNameIf None x (token.Mark k ∷ ts) (token.Mark k ∷ ts) rest h no_name
name_if-sound (token.Whole n ∷ ts) x rest h = made IsNameIf None x (token.Whole n ∷ ts) (token.Whole n ∷ ts) rest h no_name
name_if-sound (token.Time n ∷ ts) x rest h = made IsNameIf None x (token.Time n ∷ ts) (token.Time n ∷ ts) rest h no_name

emitting : (a : Option Name) (e : Name) (ts b c rest : Tokens) → IsNameIf a ts b → IsMark mark.Arrow b c → IsName e c rest → IsAction (action_of a (Some e)) ts rest
emitting a e ts b c rest (a_name n) k o = of_both n k o
emitting a e ts b c rest no_name k o = of_event k o

silent : (a : Option Name) (ts b : Tokens) (x : Action) (rest : Tokens) → IsNameIf a ts b → (cond (is_none a) refuse (pure (action_of a None))) b ≡ Ok (x, rest) → IsAction x ts rest
silent (Some n) ts b x rest (a_name i) h = made IsAction (action_of (Some n) None) x ts b rest h (of_algorithm i)
silent None ts b x rest i h = absurd cc

pub action-sound : IsSound action IsAction
unfolding action
action-sound ts x rest h =
    let a = both_ok (name_if ts) _ (x, rest) h in
    let n = name_if-sound ts a.0 a.1 a.2 in
    elim (eaten mark.Arrow _ _ a.1 (x, rest) a.3) [
      | inl w ↦
          let b = both_ok (name (after mark.Arrow a.1)) _ (x, rest) w.1 in
          made IsAction (action_of a.0 (Some b.0)) x ts b.1 rest b.3 (emitting a.0 b.0 ts a.1 (after mark.Arrow a.1) b.1 n w.0 (named (after mark.Arrow a.1) b.0 b.1 b.2))
      | inr w ↦ silent a.0 ts a.1 x rest n w.1
    ]

actions-sound : IsSound actions AreActions
unfolding actions
actions-sound ts x rest h =
    elim (eaten mark.Colon _ _ ts (x, rest) h) [
      | inl w ↦ some_actions w.0 (separated-sound action IsAction action-sound (after mark.Colon ts) x rest w.1)
      | inr w ↦ made AreActions [] x ts ts rest w.1 no_actions
    ]

state-sound : IsSound state IsState
unfolding state
state-sound ts x rest h =
    let a = both_ok (name ts) _ (x, rest) h in
    let b = both_ok (actions a.1) _ (x, rest) a.3 in
    let c = both_ok (expect mark.Semicolon b.1) _ (x, rest) b.3 in
    made IsState (state_of a.0 b.0) x ts c.1 rest c.3 (is_state (named ts a.0 a.1 a.2) (actions-sound a.1 b.0 b.1 b.2) (expected mark.Semicolon b.1 c.1 c.2))

pub states-sound : IsSound states AreStates
unfolding states
states-sound ts x rest h =
    let a = both_ok (expect mark.EcStates ts) _ (x, rest) h in
    let b = both_ok (state a.1) _ (x, rest) a.3 in
    let c = many_after-sound state IsState mark.EndStates state-sound (b.0 ∷ []) b.1 x rest b.3 in
    subst (λ (all : List State). AreStates all ts rest) (sym c.read_is)
    (are_states (expected mark.EcStates ts a.1 a.2) (state-sound a.1 b.0 b.1 b.2) c.derived)

guard-sound : IsSound guard IsGuard
unfolding guard
guard-sound ts x rest h =
    elim (eaten mark.OpenSquare _ _ ts (x, rest) h) [
      | inl w ↦
          let a = both_ok (expression (after mark.OpenSquare ts)) _ (x, rest) w.1 in
          let b = both_ok (expect mark.CloseSquare a.1) _ (x, rest) a.3 in
          let e = expression-right (after mark.OpenSquare ts) a.0 a.1 a.2 in
          made IsGuard (Some a.0) x ts b.1 rest b.3 (some_guard w.0 e.derived (expected mark.CloseSquare a.1 b.1 b.2))
      | inr w ↦ made IsGuard None x ts ts rest w.1 no_guard
    ]

tested : (e : Option Name) (g : Option Expr) (ts a b : Tokens) (x : Condition) (rest : Tokens) → IsNameIf e ts a → IsGuard g a b
    → (cond (is_none e && is_none g) (one >> pure (condition_of e g)) (pure (condition_of e g))) b ≡ Ok (x, rest) → IsCondition x ts rest
tested (Some n) g ts a b x rest (a_name i) k h = made IsCondition (condition_of (Some n) g) x ts b rest h (is_event i k)
tested None (Some y) ts a b x rest no_name k h = made IsCondition (condition_of None (Some y)) x ts b rest h (is_guarded k)
tested None None ts a b x rest no_name no_guard h =
    let c = both_ok (one ts) _ (x, rest) h in
    made IsCondition (condition_of None None) x ts c.1 rest c.3 (is_one (alone ts c.1 c.2))

condition-sound : IsSound condition IsCondition
unfolding condition
condition-sound ts x rest h =
    let a = both_ok (name_if ts) _ (x, rest) h in
    let b = both_ok (guard a.1) _ (x, rest) a.3 in
    tested a.0 b.0 ts a.1 b.1 x rest (name_if-sound ts a.0 a.1 a.2) (guard-sound a.1 b.0 b.1 b.2) b.3

transition-sound : IsSound transition IsTransition
unfolding transition
transition-sound ts x rest h =
    let a = both_ok (name ts) _ (x, rest) h in
    let b = both_ok (expect mark.To a.1) _ (x, rest) a.3 in
    let c = both_ok (name b.1) _ (x, rest) b.3 in
    let d = both_ok (expect mark.Assign c.1) _ (x, rest) c.3 in
    let e = both_ok (condition d.1) _ (x, rest) d.3 in
    let f = both_ok (expect mark.Semicolon e.1) _ (x, rest) e.3 in
    made IsTransition (transition_of a.0 c.0 e.0) x ts f.1 rest f.3
    (is_transition (named ts a.0 a.1 a.2) (expected mark.To a.1 b.1 b.2) (named b.1 c.0 c.1 c.2) (expected mark.Assign c.1 d.1 d.2) (condition-sound d.1 e.0 e.1 e.2)
    (expected mark.Semicolon e.1 f.1 f.2))

pub transitions-sound : IsSound transitions AreTransitions
unfolding transitions
transitions-sound = section-sound transition IsTransition mark.EcTransitions mark.EndTransitions transition-sound

-- ---- algorithms

algorithm-sound : IsSound algorithm IsAlgorithm
unfolding algorithm structured_text
algorithm-sound ts x rest h =
    let a = both_ok (expect mark.Algorithm ts) _ (x, rest) h in
    let b = both_ok (name a.1) _ (x, rest) a.3 in
    let f = both_ok (structured_text b.1) _ (x, rest) b.3 in
    let c = both_ok (word (codes "IN") b.1) _ (f.0, f.1) f.2 in
    let d = both_ok (word (codes "ST") c.1) _ (f.0, f.1) c.3 in
    let e = both_ok (expect mark.Colon d.1) _ (f.0, f.1) d.3 in
    let r = body-right e.1 f.0 f.1 e.3 in
    made IsAlgorithm (algorithm_of b.0 f.0) x ts f.1 rest f.3
    (is_algorithm (expected mark.Algorithm ts a.1 a.2) (named a.1 b.0 b.1 b.2) (spelled (codes "IN") b.1 c.1 c.2) (spelled (codes "ST") c.1 d.1 d.2) (expected mark.Colon d.1 e.1 e.2) r.derived)

pub algorithms-sound : IsSound algorithms (AreAll IsAlgorithm)
unfolding algorithms
algorithms-sound ts x rest h = adds-all (AreAll IsAlgorithm) x ts rest (run-sound algorithm IsAlgorithm mark.Algorithm algorithm-sound [] ts x rest h)
