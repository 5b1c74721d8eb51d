-- What the grammar of execution control charts derives is read.
use Rattle.fb_read.proofs.lemmas.Common.{◌≡◌, ◌<◌, ◌≤◌, Bool, true, false, List, ◌∷◌, [], length, Option, Some, None, refl, ap, ◌∙◌, arith, Expr, Action, Mark, transition_of, Tokens, same_mark, sees, after, name, name_if, one, word, expect, Stops, loosest, action, actions, state, states, condition, transition, transitions, structured_text, algorithm, algorithms, IsMark, is_mark, is_name, is_whole, AreAll}
use Rattle.fb_types.specs.declared.library.Transition.{Transition}
use Rattle.fb_types.specs.declared.library.Algorithm.{Algorithm}
use Rattle.fb_types.specs.declared.library.State.{State}
use Rattle.fb_types.specs.declared.library.Condition.{Condition}
use Rattle.fb_read.specs.declared.token.Mark.TheVariants as mark
use Rattle.fb_read.specs.declared.token.Token.TheVariants as token
use Rattle.fb_read.specs.Nodes.{condition_of, algorithm_of}
use Rattle.fb_read.specs.Charts.{guard}
use Rattle.fb_read.specs.Nesting.{fits_expression, fits_body}
use Rattle.fb_read.specs.Fits.{fits_guard, fits_transition, fits_algorithm}
use Rattle.fb_read.specs.Grammar.{none, and_more}
use Rattle.fb_read.specs.ChartsGrammar.{IsAction, of_algorithm, of_both, of_event, AreActions, no_actions, some_actions, IsState, is_state, AreStates, are_states, IsGuard, no_guard, some_guard, IsCondition, is_one, is_event, is_guarded, IsTransition, is_transition, AreTransitions, IsAlgorithm, is_algorithm}
use Rattle.fb_read.proofs.lemmas.rules.Steps.{done, mark-shorter, name-shorter, whole-shorter}
use Rattle.fb_read.proofs.lemmas.rules.Lists.{IsComplete, IsShorter, Anything, always, all-always, all_fit, picked, pass-picked, many-complete, many_after-complete, many-shorter, separated-complete, separated-shorter, section-complete, section-shorter, run-complete}
use Rattle.fb_read.proofs.lemmas.rules.Lengths.{level-shorter}
use Rattle.fb_read.proofs.lemmas.expressions.ExpressionComplete.{expression-complete}
use Rattle.fb_read.proofs.lemmas.statements.StatementLengths.{body-shorter}
use Rattle.fb_read.proofs.lemmas.statements.StatementComplete.{body-complete}

-- ---- states

abbrev NoArrow : Tokens → Type 0
NoArrow ts = sees mark.Arrow ts ≡ false

action-complete : IsComplete action IsAction NoArrow always
unfolding action name_if name after same_mark
action-complete x ts rest (of_algorithm is_name) ends = rw ends refl
action-complete x ts rest (of_both is_name is_mark is_name) ends = refl
action-complete x ts rest (of_event is_mark is_name) ends = refl

action-shorter : IsShorter IsAction
action-shorter x ts rest (of_algorithm n) = name-shorter n
action-shorter x ts rest (of_both n k e) = omega (arith, name-shorter n, mark-shorter k, name-shorter e)
action-shorter x ts rest (of_event k e) = omega (arith, mark-shorter k, name-shorter e)

comma-no-arrow : (ts rest : Tokens) → IsMark mark.Comma ts rest → NoArrow ts
unfolding same_mark
comma-no-arrow ts rest is_mark = refl

actions-complete : (xs : List Action) (ts rest : Tokens) → AreActions xs ts rest → sees mark.Colon rest ≡ false → sees mark.Comma rest ≡ false → NoArrow rest → actions ts ≡ done xs rest
unfolding actions after same_mark
actions-complete xs ts rest no_actions ends alone silent = rw ends refl
actions-complete xs ts rest (some_actions {a = a} is_mark l) ends alone silent =
    separated-complete action IsAction NoArrow always action-complete action-shorter comma-no-arrow xs a rest l silent alone ∙ ap (λ (b : Bool). picked b xs rest) (all-always xs)

actions-shorter : {xs : List Action} {ts rest : Tokens} → AreActions xs ts rest → length rest ≤ length ts
actions-shorter no_actions = omega arith
actions-shorter (some_actions k l) = omega (arith, mark-shorter k, separated-shorter IsAction action-shorter l)

state-complete : IsComplete state IsState Anything always
unfolding state name expect same_mark
state-complete x ts rest (is_state {xs = xs} {a = a} is_name l is_mark) before = rw (actions-complete xs a (token.Mark mark.Semicolon ∷ rest) l refl refl refl) refl

state-shorter : IsShorter IsState
state-shorter x ts rest (is_state n l k) = omega (arith, name-shorter n, actions-shorter l, mark-shorter k)

state-starts : (k : Mark) (x : State) (ts rest : Tokens) → IsState x ts rest → sees k ts ≡ false
state-starts k x ts rest (is_state is_name l e) = refl

pub states-complete : (xs : List State) (ts rest : Tokens) → AreStates xs ts rest → states ts ≡ done xs rest
unfolding states expect same_mark
states-complete xs ts rest (are_states {x = y} {xs = ys} {a = a} {b = b} is_mark s l) =
    rw (state-complete y a b s tt)
    (many_after-complete state IsState always mark.EndStates state-complete state-shorter (state-starts mark.EndStates) (y ∷ []) ys b rest l ∙ ap (λ (c : Bool). picked c (y ∷ ys) rest) (all-always ys))

pub states-shorter : {xs : List State} {ts rest : Tokens} → AreStates xs ts rest → length rest < length ts
states-shorter (are_states {x = y} {a = a} {b = b} k s l) = omega (arith, mark-shorter k, state-shorter y a b s, many-shorter IsState mark.EndStates state-shorter l)

pub states-start : {xs : List State} {ts rest : Tokens} (k : Mark) → AreStates xs ts rest → sees k ts ≡ same_mark mark.EcStates k
states-start k (are_states is_mark s l) = refl

-- ---- transitions

square-stops : (rest : Tokens) → Stops loosest (token.Mark mark.CloseSquare ∷ rest)
unfolding same_mark
square-stops rest = record { no_call = refl; no_operator = λ m le. refl }

guard-complete : (g : Option Expr) (ts rest : Tokens) → IsGuard g ts rest → sees mark.OpenSquare rest ≡ false → guard ts ≡ picked (fits_guard g) g rest
unfolding guard expect after same_mark
guard-complete g ts rest no_guard ends = rw ends refl
guard-complete g ts rest (some_guard {x = x} {a = a} is_mark l is_mark) ends =
    rw (expression-complete x a (token.Mark mark.CloseSquare ∷ rest) l (square-stops rest)) (pass-picked (fits_expression x) x (token.Mark mark.CloseSquare ∷ rest) _ (Some x) rest refl)

guard-shorter : {g : Option Expr} {ts rest : Tokens} → IsGuard g ts rest → length rest ≤ length ts
guard-shorter no_guard = omega arith
guard-shorter (some_guard k l e) = omega (arith, mark-shorter k, level-shorter l, mark-shorter e)

guarded-shorter : {x : Expr} {ts rest : Tokens} → IsGuard (Some x) ts rest → length rest < length ts
guarded-shorter (some_guard k l e) = omega (arith, mark-shorter k, level-shorter l, mark-shorter e)

condition-complete : (x : Condition) (ts rest : Tokens) → IsCondition x ts rest → sees mark.OpenSquare rest ≡ false → condition ts ≡ picked (fits_guard x.guard) x rest
unfolding condition name_if one
condition-complete x ts rest (is_one is_whole) ends = rw (guard-complete None (token.Whole 1 ∷ rest) (token.Whole 1 ∷ rest) no_guard refl) refl
condition-complete x ts rest (is_event {n = n} {g = g} {a = a} is_name l) ends =
    rw (guard-complete g a rest l ends) (pass-picked (fits_guard g) g rest _ (condition_of (Some n) g) rest refl)
condition-complete x ts rest (is_guarded {x = y} (some_guard {a = a} is_mark l is_mark)) ends =
    rw (guard-complete (Some y) (token.Mark mark.OpenSquare ∷ a) rest (some_guard is_mark l is_mark) ends) (pass-picked (fits_expression y) (Some y) rest _ (condition_of None (Some y)) rest refl)

condition-shorter : {x : Condition} {ts rest : Tokens} → IsCondition x ts rest → length rest < length ts
condition-shorter (is_one w) = whole-shorter w
condition-shorter (is_event n g) = omega (arith, name-shorter n, guard-shorter g)
condition-shorter (is_guarded g) = guarded-shorter g

transition-complete : IsComplete transition IsTransition Anything fits_transition
unfolding transition name expect same_mark
transition-complete x ts rest (is_transition {m = m} {n = n} {x = c} {d = d} is_name is_mark is_name is_mark l is_mark) before =
    rw (condition-complete c d (token.Mark mark.Semicolon ∷ rest) l refl) (pass-picked (fits_guard c.guard) c (token.Mark mark.Semicolon ∷ rest) _ (transition_of m n c) rest refl)

transition-shorter : IsShorter IsTransition
transition-shorter x ts rest (is_transition m k n a c e) =
    omega (arith, name-shorter m, mark-shorter k, name-shorter n, mark-shorter a, condition-shorter c, mark-shorter e)

transition-starts : (k : Mark) (x : Transition) (ts rest : Tokens) → IsTransition x ts rest → sees k ts ≡ false
transition-starts k x ts rest (is_transition is_name t n a c e) = refl

pub transitions-complete : (xs : List Transition) (ts rest : Tokens) → AreTransitions xs ts rest → sees mark.EcTransitions rest ≡ false → transitions ts ≡ picked (all_fit fits_transition xs) xs rest
unfolding transitions
transitions-complete xs ts rest l ends =
    section-complete transition IsTransition fits_transition mark.EcTransitions mark.EndTransitions
    (many-complete transition IsTransition fits_transition mark.EndTransitions transition-complete transition-shorter (transition-starts mark.EndTransitions)) xs ts rest l ends

pub transitions-shorter : {xs : List Transition} {ts rest : Tokens} → AreTransitions xs ts rest → length rest ≤ length ts
transitions-shorter l = section-shorter transition-shorter l

-- ---- algorithms

algorithm-complete : IsComplete algorithm IsAlgorithm Anything fits_algorithm
unfolding algorithm structured_text name word expect same_mark
algorithm-complete x ts rest (is_algorithm {n = n} {x = y} {e = e} is_mark is_name is_name is_name is_mark l) before =
    rw (body-complete y e rest l tt) (pass-picked (fits_body y) y rest _ (algorithm_of n y) rest refl)

algorithm-shorter : IsShorter IsAlgorithm
algorithm-shorter x ts rest (is_algorithm {x = y} {e = e} k n i s c l) =
    omega (arith, mark-shorter k, name-shorter n, name-shorter i, name-shorter s, mark-shorter c, body-shorter y e rest l)

algorithm-starts : (x : Algorithm) (ts rest : Tokens) → IsAlgorithm x ts rest → sees mark.Algorithm ts ≡ true
unfolding same_mark
algorithm-starts x ts rest (is_algorithm is_mark n i s c l) = refl

pub algorithms-complete : (xs : List Algorithm) (ts rest : Tokens) → AreAll IsAlgorithm xs ts rest → sees mark.Algorithm rest ≡ false → algorithms ts ≡ picked (all_fit fits_algorithm xs) xs rest
unfolding algorithms
algorithms-complete xs ts rest l ends = run-complete algorithm IsAlgorithm fits_algorithm mark.Algorithm algorithm-complete algorithm-shorter algorithm-starts [] xs ts rest l ends

pub algorithms-start : {xs : List Algorithm} {ts rest : Tokens} (k : Mark) → AreAll IsAlgorithm xs ts rest → same_mark mark.Algorithm k ≡ false → sees k rest ≡ false → sees k ts ≡ false
algorithms-start k none other ends = ends
algorithms-start k (and_more (is_algorithm is_mark n i s c l) more) other ends = other

pub algorithms-shorter : {xs : List Algorithm} {ts rest : Tokens} → AreAll IsAlgorithm xs ts rest → length rest ≤ length ts
algorithms-shorter none = omega arith
algorithms-shorter {ts = ts} (and_more {x = x} {mid = mid} r l) = omega (arith, algorithm-shorter x ts mid r, algorithms-shorter l)
