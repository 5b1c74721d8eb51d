-- The grammar of execution control charts and algorithms, a case for each production (this project's profile, in the manner of
-- IEC 61499-1, Annex B).
use Rattle.std.specs.Prelude.{List, [], ◌∷◌, Option, Some, None, codes}
use Rattle.fb_types.specs.Names.{Name}
use Rattle.fb_types.specs.declared.text.Expr.{Expr}
use Rattle.fb_types.specs.declared.text.Body.{Body}
use Rattle.fb_types.specs.declared.library.Action.{Action}
use Rattle.fb_types.specs.declared.library.State.{State}
use Rattle.fb_types.specs.declared.library.Condition.{Condition}
use Rattle.fb_types.specs.declared.library.Transition.{Transition}
use Rattle.fb_types.specs.declared.library.Algorithm.{Algorithm}
use Rattle.fb_read.specs.declared.token.Mark.TheVariants as mark
use Rattle.fb_read.specs.Nodes.{action_of, state_of, condition_of, transition_of, algorithm_of}
use Rattle.fb_read.specs.Tokens.{Tokens}
use Rattle.fb_read.specs.Grammar.{IsMark, IsName, IsWhole, AreMany, AreSeparated, IsSection}
use Rattle.fb_read.specs.ExpressionGrammar.{IsExpression}
use Rattle.fb_read.specs.StatementGrammar.{IsBody}

-- action = name [ "->" name ] | "->" name
pub data IsAction : Action → Tokens → Tokens → Type 0 where
  of_algorithm : {n : Name} {ts rest : Tokens} → IsName n ts rest → IsAction (action_of (Some n) None) ts rest
  of_both : {n e : Name} {ts a b rest : Tokens} → IsName n ts a → IsMark mark.Arrow a b → IsName e b rest → IsAction (action_of (Some n) (Some e)) ts rest
  of_event : {e : Name} {ts a rest : Tokens} → IsMark mark.Arrow ts a → IsName e a rest → IsAction (action_of None (Some e)) ts rest

-- [ ":" action { "," action } ]
pub data AreActions : List Action → Tokens → Tokens → Type 0 where
  no_actions : {ts : Tokens} → AreActions [] ts ts
  some_actions : {xs : List Action} {ts a rest : Tokens} → IsMark mark.Colon ts a → AreSeparated IsAction xs a rest → AreActions xs ts rest

-- state = name [ ":" action { "," action } ] ";"
pub data IsState : State → Tokens → Tokens → Type 0 where
  is_state : {n : Name} {xs : List Action} {ts a b rest : Tokens} → IsName n ts a → AreActions xs a b → IsMark mark.Semicolon b rest → IsState (state_of n xs) ts rest

-- EC_STATES state { state } END_STATES
pub data AreStates : List State → Tokens → Tokens → Type 0 where
  are_states : {x : State} {xs : List State} {ts a b rest : Tokens} → IsMark mark.EcStates ts a → IsState x a b → AreMany IsState mark.EndStates xs b rest
      → AreStates (x ∷ xs) ts rest

-- [ "[" expr "]" ]
pub data IsGuard : Option Expr → Tokens → Tokens → Type 0 where
  no_guard : {ts : Tokens} → IsGuard None ts ts
  some_guard : {x : Expr} {ts a b rest : Tokens} → IsMark mark.OpenSquare ts a → IsExpression x a b → IsMark mark.CloseSquare b rest → IsGuard (Some x) ts rest

-- condition = whole | name [ "[" expr "]" ] | "[" expr "]", where the whole is 1
pub data IsCondition : Condition → Tokens → Tokens → Type 0 where
  is_one : {ts rest : Tokens} → IsWhole 1 ts rest → IsCondition (condition_of None None) ts rest
  is_event : {n : Name} {g : Option Expr} {ts a rest : Tokens} → IsName n ts a → IsGuard g a rest → IsCondition (condition_of (Some n) g) ts rest
  is_guarded : {x : Expr} {ts rest : Tokens} → IsGuard (Some x) ts rest → IsCondition (condition_of None (Some x)) ts rest

-- transition = name TO name ":=" condition ";"
pub data IsTransition : Transition → Tokens → Tokens → Type 0 where
  is_transition : {m n : Name} {x : Condition} {ts a b c d e rest : Tokens} → IsName m ts a → IsMark mark.To a b → IsName n b c → IsMark mark.Assign c d
      → IsCondition x d e → IsMark mark.Semicolon e rest → IsTransition (transition_of m n x) ts rest

-- [ EC_TRANSITIONS { transition } END_TRANSITIONS ]
abbrev pub AreTransitions : List Transition → Tokens → Tokens → Type 0
AreTransitions = IsSection IsTransition mark.EcTransitions mark.EndTransitions

-- algorithm = ALGORITHM name IN ST ":" { stmt } END_ALGORITHM
pub data IsAlgorithm : Algorithm → Tokens → Tokens → Type 0 where
  is_algorithm : {n : Name} {x : Body} {ts a b c d e rest : Tokens} → IsMark mark.Algorithm ts a → IsName n a b → IsName (codes "IN") b c → IsName (codes "ST") c d
      → IsMark mark.Colon d e → IsBody x e rest → IsAlgorithm (algorithm_of n x) ts rest
