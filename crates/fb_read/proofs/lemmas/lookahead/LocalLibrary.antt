-- The rules of charts, of block types and of a whole library look one token ahead.
use Rattle.fb_read.proofs.lemmas.Common.{◌<◌, [], ◌∷◌, length, Some, None, codes, refl, arith, ◌&&◌, Name, Action, Ports, transition_of, Tokens, ◌>>=◌, pure, eat, expect, name, name_if, word, one, after, sees, network, application, ports, expression, action, actions, state, states, condition, transition, transitions, structured_text, algorithm, algorithms, basic, block, library}
use Rattle.std.specs.Option.{is_none}
use Rattle.fb_read.specs.declared.token.Mark.TheVariants as mark
use Rattle.fb_types.specs.declared.library.BlockType.TheVariants as block_type
use Rattle.fb_read.specs.Nodes.{action_of, state_of, condition_of, algorithm_of, basic_of, composite_of, library_of}
use Rattle.fb_read.specs.Charts.{guard}
use Rattle.fb_read.specs.Blocks.{composite, body, inside}
use Rattle.fb_read.specs.ChartsGrammar.{IsAction, of_algorithm, of_both, of_event}
use Rattle.fb_read.proofs.lemmas.rules.Steps.{mark-shorter, name-shorter}
use Rattle.fb_read.proofs.lemmas.declarations.ChartsSound.{action-sound}
use Rattle.fb_read.proofs.lemmas.lookahead.OneTokenAhead.{Local, local-bind, local-pure, local-refuse, local-cond, local-if}
use Rattle.fb_read.proofs.lemmas.lookahead.LocalSteps.{Advances, local-eat, local-expect, local-name, local-name_if, local-word, local-one}
use Rattle.fb_read.proofs.lemmas.lookahead.LocalLoops.{IsNoneAtEnd, sees-head, local-many_after, local-section, local-run_after, local-separated}
use Rattle.fb_read.proofs.lemmas.lookahead.LocalRules.{advances-bind, none-bind, advances-name, advances-expect, none-name, local-ended, local-network, local-application, local-variables, local-ports}
use Rattle.fb_read.proofs.lemmas.lookahead.LocalExpressions.{local-expression}
use Rattle.fb_read.proofs.lemmas.lookahead.LocalStatements.{local-body}

-- ---- charts

pub local-action : Local action
unfolding action
local-action =
    local-bind name_if _ local-name_if (λ a. local-bind (eat mark.Arrow) _ (local-eat mark.Arrow) (λ b. local-cond b _ _
    (local-bind name _ local-name (λ output. local-pure (action_of a (Some output))))
    (local-cond (is_none a) _ _ local-refuse (local-pure (action_of a None)))))

action-shorter : {x : Action} {ts rest : Tokens} → IsAction x ts rest → length rest < length ts
action-shorter (of_algorithm n) = name-shorter n
action-shorter (of_both n k o) = omega (arith, name-shorter n, mark-shorter k, name-shorter o)
action-shorter (of_event k o) = omega (arith, mark-shorter k, name-shorter o)

advances-action : Advances action
advances-action ts rest x h = action-shorter (action-sound ts x rest h)

none-action : IsNoneAtEnd action
unfolding action name_if after
none-action = refl

local-actions : Local actions
unfolding actions
local-actions = local-bind (eat mark.Colon) _ (local-eat mark.Colon) (λ b. local-cond b _ _ (local-separated action local-action advances-action none-action) (local-pure []))

state-rest : (first : Name) → Local (actions >>= (λ found. expect mark.Semicolon >>= (λ _. pure (state_of first found))))
state-rest first = local-bind actions _ local-actions (λ found. local-ended mark.Semicolon (state_of first found))

pub local-state : Local state
unfolding state
local-state = local-bind name _ local-name (λ first. state-rest first)

advances-state : Advances state
unfolding state
advances-state = advances-bind name _ advances-name (λ first. state-rest first)

none-state : IsNoneAtEnd state
unfolding state
none-state = none-bind name _ none-name

pub local-states : Local states
unfolding states
local-states =
    local-bind (expect mark.EcStates) _ (local-expect mark.EcStates) (λ _. local-bind state _ local-state (λ first. local-many_after state mark.EndStates local-state advances-state none-state (first ∷ [])))

local-guard : Local guard
unfolding guard
local-guard =
    local-bind (eat mark.OpenSquare) _ (local-eat mark.OpenSquare) (λ b. local-cond b _ _
    (local-bind expression _ local-expression (λ test. local-ended mark.CloseSquare (Some test)))
    (local-pure None))

local-condition : Local condition
unfolding condition
local-condition =
    local-bind name_if _ local-name_if (λ event. local-bind guard _ local-guard (λ test. local-cond (is_none event && is_none test) _ _
    (local-bind one _ local-one (λ _. local-pure (condition_of event test)))
    (local-pure (condition_of event test))))

transition-rest : (from : Name) → Local (expect mark.To >>= (λ _. name >>= (λ to. expect mark.Assign >>= (λ _. condition >>= (λ found. expect mark.Semicolon >>= (λ _. pure (transition_of from to found)))))))
transition-rest from =
    local-bind (expect mark.To) _ (local-expect mark.To) (λ _. local-bind name _ local-name (λ to. local-bind (expect mark.Assign) _ (local-expect mark.Assign) (λ _.
    local-bind condition _ local-condition (λ found. local-ended mark.Semicolon (transition_of from to found)))))

pub local-transition : Local transition
unfolding transition
local-transition = local-bind name _ local-name (λ from. transition-rest from)

advances-transition : Advances transition
unfolding transition
advances-transition = advances-bind name _ advances-name (λ from. transition-rest from)

none-transition : IsNoneAtEnd transition
unfolding transition
none-transition = none-bind name _ none-name

pub local-transitions : Local transitions
unfolding transitions
local-transitions = local-section transition mark.EcTransitions mark.EndTransitions local-transition advances-transition none-transition

local-structured_text : Local structured_text
unfolding structured_text
local-structured_text =
    local-bind (word (codes "IN")) _ (local-word (codes "IN")) (λ _. local-bind (word (codes "ST")) _ (local-word (codes "ST")) (λ _. local-bind (expect mark.Colon) _ (local-expect mark.Colon) (λ _. local-body)))

algorithm-rest : Local (name >>= (λ first. structured_text >>= (λ found. pure (algorithm_of first found))))
algorithm-rest = local-bind name _ local-name (λ first. local-bind structured_text _ local-structured_text (λ found. local-pure (algorithm_of first found)))

pub local-algorithm : Local algorithm
unfolding algorithm
local-algorithm = local-bind (expect mark.Algorithm) _ (local-expect mark.Algorithm) (λ _. algorithm-rest)

advances-algorithm : Advances algorithm
unfolding algorithm
advances-algorithm = advances-bind (expect mark.Algorithm) _ (advances-expect mark.Algorithm) (λ _. algorithm-rest)

local-algorithms : Local algorithms
unfolding algorithms
local-algorithms = local-run_after algorithm mark.Algorithm local-algorithm advances-algorithm []

-- ---- block types

local-basic : (n : Name) (p : Ports) → Local (basic n p)
unfolding basic
local-basic n p =
    local-bind _ _ (local-variables mark.Var) (λ internals. local-bind states _ local-states (λ chart. local-bind transitions _ local-transitions (λ found. local-bind algorithms _ local-algorithms (λ bodies. local-pure (block_type.Basic (basic_of n p internals chart found bodies))))))

local-composite : (n : Name) (p : Ports) → Local (composite n p)
unfolding composite
local-composite n p = local-bind network _ local-network (λ found. local-pure (block_type.Composite (composite_of n p found)))

local-typed : (n : Name) (p : Ports) → Local (body n p)
unfolding body
local-typed n p = local-if (sees mark.Fbs) (composite n p) (basic n p) (sees-head mark.Fbs) (local-composite n p) (local-basic n p)

local-inside : Local inside
unfolding inside
local-inside = local-bind name _ local-name (λ first. local-bind ports _ local-ports (λ interface. local-typed first interface))

block-rest : Local (inside >>= (λ found. expect mark.EndFunctionBlock >>= (λ _. pure found)))
block-rest = local-bind inside _ local-inside (λ found. local-ended mark.EndFunctionBlock found)

pub local-block : Local block
unfolding block
local-block = local-bind (expect mark.FunctionBlock) _ (local-expect mark.FunctionBlock) (λ _. block-rest)

pub advances-block : Advances block
unfolding block
advances-block = advances-bind (expect mark.FunctionBlock) _ (advances-expect mark.FunctionBlock) (λ _. block-rest)

pub local-library : Local library
unfolding library
local-library =
    local-bind _ _ (local-run_after block mark.FunctionBlock local-block advances-block []) (λ before. local-bind application _ local-application (λ found.
    local-bind _ _ (local-run_after block mark.FunctionBlock local-block advances-block before) (λ all. local-pure (library_of all found))))
