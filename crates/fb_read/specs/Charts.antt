-- What the parser of execution control charts and algorithms computes.
use Rattle.std.specs.Prelude.{◌&&◌, if◌then◌else◌, List, [], ◌∷◌, Option, Some, None, codes}
use Rattle.std.specs.Option.{is_none}
use Rattle.fb_types.specs.declared.text.Expr.{Expr}
use Rattle.fb_types.specs.declared.text.Body.{Body}
use Rattle.fb_types.specs.declared.library.Action.{Action}
use Rattle.fb_types.specs.declared.library.State.{State}
use Rattle.fb_types.specs.declared.library.Condition.{Condition}
use Rattle.fb_types.specs.declared.library.Transition.{Transition}
use Rattle.fb_types.specs.declared.library.Algorithm.{Algorithm}
use Rattle.fb_read.specs.declared.token.Mark.TheVariants as mark
use Rattle.fb_read.specs.Nodes.{action_of, state_of, condition_of, transition_of, algorithm_of}
use Rattle.fb_read.specs.Parser.{Parser, ◌>>=◌, ◌>>◌, pure, refuse, eat, expect, name, name_if, one, word, separated, many_after, section, run_after}
use Rattle.fb_read.specs.Expressions.{expression}
use Rattle.fb_read.specs.Statements.{body}

unfoldable pub action : Parser Action
action = do
  algorithm ← name_if
  emits ← eat mark.Arrow
  if emits then (do
    output ← name
    pure (action_of algorithm (Some output)))
      else (if is_none algorithm then refuse else pure (action_of algorithm None))

unfoldable pub actions : Parser (List Action)
actions = do
  some ← eat mark.Colon
  if some then separated action else pure []

unfoldable pub state : Parser State
state = do
  first ← name
  found ← actions
  expect mark.Semicolon
  pure (state_of first found)

-- one or more states
unfoldable pub states : Parser (List State)
states = do
  expect mark.EcStates
  first ← state
  many_after state mark.EndStates (first ∷ [])

-- a guard, if there is one
unfoldable pub guard : Parser (Option Expr)
guard = do
  some ← eat mark.OpenSquare
  if some then (do
    test ← expression
    expect mark.CloseSquare
    pure (Some test))
      else pure None

unfoldable pub condition : Parser Condition
condition = do
  event ← name_if
  test ← guard
  if is_none event && is_none test then (do
    one
    pure (condition_of event test))
      else pure (condition_of event test)

unfoldable pub transition : Parser Transition
transition = do
  from ← name
  expect mark.To
  to ← name
  expect mark.Assign
  found ← condition
  expect mark.Semicolon
  pure (transition_of from to found)

unfoldable pub transitions : Parser (List Transition)
transitions = section transition mark.EcTransitions mark.EndTransitions

-- after the name of an algorithm
unfoldable pub structured_text : Parser Body
structured_text = do
  word (codes "IN")
  word (codes "ST")
  expect mark.Colon
  body

unfoldable pub algorithm : Parser Algorithm
algorithm = do
  expect mark.Algorithm
  first ← name
  found ← structured_text
  pure (algorithm_of first found)

unfoldable pub algorithms : Parser (List Algorithm)
algorithms = run_after algorithm mark.Algorithm []
