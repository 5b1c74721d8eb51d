-- What the parser reads up to a position of a declaration: the entries before it, as the grammar has them (this project's
-- own). What is left begins at the position.
use Rattle.std.specs.Prelude.{ℕ, zero, suc, ◌-◌, ◌==◌, Bool, true, ◌&&◌, ◌||◌, if◌then◌else◌, List, [], ◌∷◌, Option, Some, None, Ok, Err, codes}
use Rattle.fb_read.specs.declared.token.Mark.{Mark}
use Rattle.fb_read.specs.declared.token.Mark.TheVariants as mark
use Rattle.fb_read.specs.declared.token.Token.TheVariants as token
use Rattle.fb_read.specs.Tokens.{Tokens}
use Rattle.fb_read.specs.Parser.{Parser, Outcome, and_then, ◌>>=◌, ◌>>◌, pure, syntax, sees, sees_name, rest_of, eat, expect, name, name_if, ty_name, word, optional, many, section, run_after}
use Rattle.fb_read.specs.Network.{application, connection, constant, instance, parameter, port}
use Rattle.fb_read.specs.Ports.{event, ports, variables}
use Rattle.fb_read.specs.Charts.{action, algorithm, state, states, transition, transitions}
use Rattle.fb_read.specs.Blocks.{block}
use Rattle.fb_read.specs.Statements.{begins_statement}
use Rattle.fb_read_positions.specs.Lists.{item_of}
use Rattle.fb_read_positions.specs.declared.position.BasicPart.{BasicPart}
use Rattle.fb_read_positions.specs.declared.position.BasicPart.TheVariants as basic_part
use Rattle.fb_read_positions.specs.declared.position.ConnectionPart.{ConnectionPart}
use Rattle.fb_read_positions.specs.declared.position.ConnectionPart.TheVariants as connection_part
use Rattle.fb_read_positions.specs.declared.lists.BasicList.{BasicList}
use Rattle.fb_read_positions.specs.declared.lists.BasicList.TheVariants as basic_list
use Rattle.fb_read_positions.specs.declared.lists.InnerList.{InnerList}
use Rattle.fb_read_positions.specs.declared.lists.InnerList.TheVariants as inner_list
use Rattle.fb_read_positions.specs.declared.lists.Item.{Item}
use Rattle.fb_read_positions.specs.declared.lists.ItemList.{ItemList}
use Rattle.fb_read_positions.specs.declared.lists.ItemList.TheVariants as item_list
use Rattle.fb_read_positions.specs.declared.lists.NetworkList.{NetworkList}
use Rattle.fb_read_positions.specs.declared.lists.NetworkList.TheVariants as network_list
use Rattle.fb_read_positions.specs.declared.lists.OuterList.{OuterList}
use Rattle.fb_read_positions.specs.declared.lists.OuterList.TheVariants as outer_list
use Rattle.fb_read_positions.specs.declared.lists.PortList.{PortList}
use Rattle.fb_read_positions.specs.declared.lists.PortList.TheVariants as port_list
use Rattle.fb_read_positions.specs.declared.position.NetworkPart.{NetworkPart}
use Rattle.fb_read_positions.specs.declared.position.NetworkPart.TheVariants as network_part
use Rattle.fb_read_positions.specs.declared.position.Position.{Position}
use Rattle.fb_read_positions.specs.declared.position.Position.TheVariants as position
use Rattle.fb_read_positions.specs.declared.position.TransitionPart.{TransitionPart}
use Rattle.fb_read_positions.specs.declared.position.TransitionPart.TheVariants as transition_part
use Rattle.fb_read_positions.specs.declared.step.Step.{Step}
use Rattle.fb_read_positions.specs.declared.step.Step.TheVariants as step

-- nothing of what is read is kept
abbrev pub Walk : Type 0
Walk = Parser (Unit {0})

abbrev pub passed : {A : Type 0} → Outcome A → Outcome (Unit {0})
passed o = and_then o (λ _. pure tt)

abbrev pub skip : {A : Type 0} → Parser A → Walk
skip item = λ ts. passed (item ts)

-- ---- Steps

-- the tokens after a name, if it is next
abbrev pub after_name : Tokens → Tokens
after_name ts = if sees_name ts then rest_of ts else ts

-- the application, if it is next
abbrev pub past_application : Walk
past_application = λ ts. if sees mark.Application ts then skip application ts else Ok (tt, ts)

-- the block types before the application
abbrev pub past_blocks : Walk
past_blocks = skip (run_after block mark.FunctionBlock [])

-- what is between the last name of a declaration of variables and the next declaration
unfoldable pub past_type : Walk
past_type = do
  expect mark.Colon
  skip ty_name
  skip (optional constant mark.Assign)
  expect mark.Semicolon

-- a variable, up to the next one
unfoldable pub past_variable : Walk
past_variable = do
  skip name
  more ← eat mark.Comma
  if more then pure tt else past_type

unfoldable pub take : Step → Walk
take (step.Mark k) = expect k
take step.In = word (codes "IN")
take step.St = word (codes "ST")
take step.Name = skip name
take step.Event = skip name_if
take step.Port = skip port
take step.Ports = skip ports
take (step.Events begin) = skip (section event begin mark.EndEvent)
take (step.Variables begin) = skip (variables begin)
take step.Instances = skip (many instance mark.EndFbs)
take step.EventConnections = skip (section connection mark.EventConnections mark.EndConnections)
take step.States = skip states
take step.Transitions = skip transitions
take step.Blocks = past_blocks
take step.Application = past_application
take step.Block = skip block
take step.EventPort = skip event
take step.Variable = past_variable
take step.Instance = skip instance
take step.Parameter = skip parameter
take step.Connection = skip connection
take step.State = skip state
take step.Action = skip action
take step.Transition = skip transition
take step.Algorithm = skip algorithm

-- one after another
unfoldable pub take_all : List Step → Walk
take_all [] = pure tt
take_all (s ∷ steps) = do
  take s
  take_all steps

-- the same steps, this many times
unfoldable pub pass : List Step → ℕ → Walk
pass steps zero = pure tt
pass steps (suc n) = do
  take_all steps
  pass steps n

-- The first token that is left is the name at this index among the names of these tokens.
unfoldable pub to_name : Tokens → ℕ → Outcome (Unit {0})
to_name [] n = Err (syntax [])
to_name (token.Name text ∷ ts) zero = Ok (tt, token.Name text ∷ ts)
to_name (token.Name text ∷ ts) (suc n) = to_name ts n
to_name (t ∷ ts) n = to_name ts n

-- ---- Networks

-- from a connection to a name of it
abbrev pub to_end : ConnectionPart → List Step
to_end connection_part.From = []
to_end connection_part.FromPort = step.Name ∷ step.Mark mark.Dot ∷ []
to_end connection_part.To = step.Port ∷ step.Mark mark.To ∷ []
to_end connection_part.ToPort = step.Port ∷ step.Mark mark.To ∷ step.Name ∷ step.Mark mark.Dot ∷ []

-- from a network to the first item of a list of it
abbrev pub to_network_list : NetworkList → List Step
to_network_list network_list.Instances = step.Mark mark.Fbs ∷ []
to_network_list network_list.EventConnections = step.Mark mark.Fbs ∷ step.Instances ∷ step.Mark mark.EventConnections ∷ []
to_network_list network_list.DataConnections = step.Mark mark.Fbs ∷ step.Instances ∷ step.EventConnections ∷ step.Mark mark.DataConnections ∷ []

-- past an item of a list
abbrev pub past_in_network : NetworkList → List Step
past_in_network network_list.Instances = step.Instance ∷ []
past_in_network network_list.EventConnections = step.Connection ∷ []
past_in_network network_list.DataConnections = step.Connection ∷ []

-- from an item to a part of it
abbrev pub to_network_part : NetworkPart → List Step
to_network_part (network_part.Instance n) = []
to_network_part (network_part.InstanceType n) = step.Name ∷ step.Mark mark.Colon ∷ []
to_network_part (network_part.Parameter n k) = []
to_network_part (network_part.EventConnection n part) = to_end part
to_network_part (network_part.DataConnection n part) = to_end part

-- ---- Interfaces

-- from an interface to the first item of a list of it
abbrev pub to_port_list : PortList → List Step
to_port_list port_list.EventInputs = step.Mark mark.EventInput ∷ []
to_port_list port_list.EventOutputs = step.Events mark.EventInput ∷ step.Mark mark.EventOutput ∷ []
to_port_list port_list.Inputs = step.Events mark.EventInput ∷ step.Events mark.EventOutput ∷ step.Mark mark.VarInput ∷ []
to_port_list port_list.Outputs = step.Events mark.EventInput ∷ step.Events mark.EventOutput ∷ step.Variables mark.VarInput ∷ step.Mark mark.VarOutput ∷ []

-- past an item of a list
abbrev pub past_in_ports : PortList → List Step
past_in_ports port_list.EventInputs = step.EventPort ∷ []
past_in_ports port_list.EventOutputs = step.EventPort ∷ []
past_in_ports port_list.Inputs = step.Variable ∷ []
past_in_ports port_list.Outputs = step.Variable ∷ []

-- ---- Charts and algorithms

-- from the end of an interface to the first item of a list
abbrev pub to_basic_list : BasicList → List Step
to_basic_list basic_list.Internals = step.Mark mark.Var ∷ []
to_basic_list basic_list.States = step.Variables mark.Var ∷ step.Mark mark.EcStates ∷ []
to_basic_list basic_list.Transitions = step.Variables mark.Var ∷ step.States ∷ step.Mark mark.EcTransitions ∷ []
to_basic_list basic_list.Algorithms = step.Variables mark.Var ∷ step.States ∷ step.Transitions ∷ []

-- past an item of a list
abbrev pub past_in_basic : BasicList → List Step
past_in_basic basic_list.Internals = step.Variable ∷ []
past_in_basic basic_list.States = step.State ∷ []
past_in_basic basic_list.Transitions = step.Transition ∷ []
past_in_basic basic_list.Algorithms = step.Algorithm ∷ []

-- from a transition to its guard
abbrev pub to_guard : List Step
to_guard = step.Name ∷ step.Mark mark.To ∷ step.Name ∷ step.Mark mark.Assign ∷ step.Event ∷ step.Mark mark.OpenSquare ∷ []

-- from a transition to a part of it
abbrev pub to_transition_part : TransitionPart → List Step
to_transition_part transition_part.From = []
to_transition_part transition_part.To = step.Name ∷ step.Mark mark.To ∷ []
to_transition_part transition_part.Condition = step.Name ∷ step.Mark mark.To ∷ step.Name ∷ step.Mark mark.Assign ∷ []
to_transition_part transition_part.Guard = to_guard
to_transition_part (transition_part.Mention n) = []

-- from an algorithm to its statements
abbrev pub to_body : List Step
to_body = step.Mark mark.Algorithm ∷ step.Name ∷ step.In ∷ step.St ∷ step.Mark mark.Colon ∷ []

-- after this token a statement may begin
abbrev pub opens : Tokens → Bool
opens ts = sees mark.Semicolon ts || (sees mark.Then ts || (sees mark.Else ts || (sees mark.Do ts || (sees mark.Repeat ts || sees mark.Colon ts))))

-- The first token that is left begins the statement at this index among those that begin in these tokens. A statement
-- begins with a token that may begin one, if the token before it is one after which a statement may begin.
unfoldable pub to_statement : Tokens → Bool → ℕ → Outcome (Unit {0})
to_statement [] ready n = Err (syntax [])
to_statement (t ∷ ts) ready zero = if ready && begins_statement (t ∷ ts) then Ok (tt, t ∷ ts) else to_statement ts (opens (t ∷ ts)) zero
to_statement (t ∷ ts) ready (suc n) = to_statement ts (opens (t ∷ ts)) (if ready && begins_statement (t ∷ ts) then n else suc n)

-- an IF or a REPEAT begins
abbrev pub begins_clauses : Tokens → Bool
begins_clauses ts = sees mark.If ts || sees mark.Repeat ts

-- another clause of it
abbrev pub begins_another : Tokens → Bool
begins_another ts = sees mark.Elsif ts || sees mark.Until ts

-- it ends
abbrev pub ends_clauses : Tokens → Bool
ends_clauses ts = sees mark.EndIf ts || sees mark.EndRepeat ts

-- any of these is so
abbrev pub is_of_clauses : Tokens → Bool
is_of_clauses ts = begins_clauses ts || (begins_another ts || ends_clauses ts)

-- how many IFs and REPEATs have begun and not ended, after the next token
abbrev pub depth_after : Tokens → ℕ → ℕ
depth_after ts depth = if begins_clauses ts then suc depth else (if ends_clauses ts then depth - 1 else depth)

-- the next token begins a clause of an IF or a REPEAT that is in no other one
abbrev pub begins_clause : Tokens → ℕ → Bool
begins_clause ts depth = (depth == 0 && begins_clauses ts) || (depth == 1 && begins_another ts)

-- The first token that is left begins the clause at this index of the IF or the REPEAT with which these tokens begin: the
-- IF or the REPEAT itself, one of the ELSIFs, or the UNTIL. `depth`: how many IFs and REPEATs have begun and not ended.
unfoldable pub to_clause : Tokens → (depth index : ℕ) → Outcome (Unit {0})
to_clause [] depth n = Err (syntax [])
to_clause (t ∷ ts) depth zero = if begins_clause (t ∷ ts) depth then Ok (tt, t ∷ ts) else to_clause ts (depth_after (t ∷ ts) depth) zero
to_clause (t ∷ ts) depth (suc n) = to_clause ts (depth_after (t ∷ ts) depth) (if begins_clause (t ∷ ts) depth then n else suc n)

-- how many IFs and REPEATs have begun where a clause is next
abbrev pub depth_at : Tokens → ℕ
depth_at ts = if begins_another ts then 1 else 0

-- up to the clause at an index, counted from the one that is next
abbrev pub pass_clauses : ℕ → Walk
pass_clauses n = λ ts. to_clause ts (depth_at ts) n

-- from an item to a part of it
abbrev pub to_basic_part : BasicPart → List Step
to_basic_part (basic_part.Internal n) = []
to_basic_part (basic_part.State n) = []
to_basic_part (basic_part.Action n k) = []
to_basic_part (basic_part.OutputAlone n k) = step.Mark mark.Arrow ∷ []
to_basic_part (basic_part.OutputAfter n k) = step.Name ∷ step.Mark mark.Arrow ∷ []
to_basic_part (basic_part.Transition n part) = to_transition_part part
to_basic_part (basic_part.Algorithm n) = step.Mark mark.Algorithm ∷ []
to_basic_part (basic_part.Statement n k) = []
to_basic_part (basic_part.Clause n k j) = []
to_basic_part (basic_part.Mention n k) = []

-- ---- Lists that are in no item

-- to the network, the interface or what follows an interface that has the list, from the beginning of the text or of the
-- block type
abbrev pub to_inside : OuterList → List Step
to_inside outer_list.Blocks = []
to_inside (outer_list.InApplication l) = step.Blocks ∷ step.Mark mark.Application ∷ step.Name ∷ []
to_inside (outer_list.InPorts k l) = step.Application ∷ step.Mark mark.FunctionBlock ∷ step.Name ∷ []
to_inside (outer_list.InBasic k l) = step.Application ∷ step.Mark mark.FunctionBlock ∷ step.Name ∷ step.Ports ∷ []
to_inside (outer_list.InComposite k l) = step.Application ∷ step.Mark mark.FunctionBlock ∷ step.Name ∷ step.Ports ∷ []

-- from there to the first item
abbrev pub to_first_inside : OuterList → List Step
to_first_inside outer_list.Blocks = []
to_first_inside (outer_list.InApplication l) = to_network_list l
to_first_inside (outer_list.InPorts k l) = to_port_list l
to_first_inside (outer_list.InBasic k l) = to_basic_list l
to_first_inside (outer_list.InComposite k l) = to_network_list l

-- past an item; past a block type, past the application too if that is before it
abbrev pub past_outer : OuterList → List Step
past_outer outer_list.Blocks = step.Application ∷ step.Block ∷ []
past_outer (outer_list.InApplication l) = past_in_network l
past_outer (outer_list.InPorts k l) = past_in_ports l
past_outer (outer_list.InBasic k l) = past_in_basic l
past_outer (outer_list.InComposite k l) = past_in_network l

-- up to the block type at an index
abbrev pub pass_blocks : ℕ → Walk
pass_blocks k = pass (past_outer outer_list.Blocks) k

-- up to what has the list: the text, or a block type
abbrev pub to_outer_owner : OuterList → Walk
to_outer_owner outer_list.Blocks = pure tt
to_outer_owner (outer_list.InApplication l) = pure tt
to_outer_owner (outer_list.InPorts k l) = pass_blocks k
to_outer_owner (outer_list.InBasic k l) = pass_blocks k
to_outer_owner (outer_list.InComposite k l) = pass_blocks k

-- from there up to the first item
abbrev pub to_first_outer : OuterList → Walk
to_first_outer l = do
  take_all (to_inside l)
  take_all (to_first_inside l)

-- this many items
abbrev pub pass_outer : OuterList → ℕ → Walk
pass_outer l n = pass (past_outer l) n

-- up to an item
unfoldable pub to_outer : OuterList → ℕ → Walk
to_outer l n = do
  to_outer_owner l
  to_first_outer l
  pass_outer l n

-- ---- Lists of items

-- from an item to the first item of a list of it
abbrev pub to_first_inner : InnerList → List Step
to_first_inner inner_list.With = step.Name ∷ step.Mark mark.With ∷ []
to_first_inner inner_list.Parameters = step.Name ∷ step.Mark mark.Colon ∷ step.Name ∷ step.Mark mark.Open ∷ []
to_first_inner inner_list.Actions = step.Name ∷ step.Mark mark.Colon ∷ []
to_first_inner inner_list.Statements = to_body
to_first_inner inner_list.Mentions = to_body
to_first_inner inner_list.GuardMentions = to_guard

-- this step and a comma, this many times
abbrev pub pass_separated : Step → ℕ → Walk
pass_separated item n = pass (item ∷ step.Mark mark.Comma ∷ []) n

-- this many actions, each with the comma after it
abbrev pub pass_actions : ℕ → Walk
pass_actions n = pass_separated step.Action n

-- from the first item up to the item at an index
abbrev pub pass_inner : InnerList → ℕ → Walk
pass_inner inner_list.With n = pass_separated step.Name n
pass_inner inner_list.Parameters n = pass_separated step.Parameter n
pass_inner inner_list.Actions n = pass_actions n
pass_inner inner_list.Statements n = λ ts. to_statement ts true n
pass_inner inner_list.Mentions n = λ ts. to_name ts n
pass_inner inner_list.GuardMentions n = λ ts. to_name ts n

-- up to an item
unfoldable pub to_inner : OuterList → ℕ → InnerList → ℕ → Walk
to_inner l n inside k = do
  to_outer l n
  take_all (to_first_inner inside)
  pass_inner inside k

-- ---- Items of all lists

abbrev pub to_owner : ItemList → Walk
to_owner (item_list.Outer l) = to_outer_owner l
to_owner (item_list.Inner l n inside) = to_outer l n
to_owner (item_list.Clauses l n k) = to_inner l n inner_list.Statements k

abbrev pub to_first : ItemList → Walk
to_first (item_list.Outer l) = to_first_outer l
to_first (item_list.Inner l n inside) = take_all (to_first_inner inside)
to_first (item_list.Clauses l n k) = pure tt

abbrev pub pass_items : ItemList → ℕ → Walk
pass_items (item_list.Outer l) n = pass_outer l n
pass_items (item_list.Inner l n inside) k = pass_inner inside k
pass_items (item_list.Clauses l n k) j = pass_clauses j

-- up to an item
unfoldable pub to_item : Item → Walk
to_item i = do
  to_owner i.list
  to_first i.list
  pass_items i.list i.index

-- ---- Positions

-- to a position from the item to which it belongs, or from the beginning of the text
abbrev pub to_part : Position → List Step
to_part position.Application = step.Blocks ∷ step.Mark mark.Application ∷ []
to_part (position.Block k) = step.Application ∷ step.Mark mark.FunctionBlock ∷ []
to_part (position.InApplication part) = to_network_part part
to_part (position.InPorts k part) = []
to_part (position.InBasic k part) = to_basic_part part
to_part (position.InComposite k part) = to_network_part part

-- up to an item, if there is one
abbrev pub to_item_if : Option Item → Walk
to_item_if None = pure tt
to_item_if (Some i) = to_item i

-- up to a position of a declaration
unfoldable pub to_position : Position → Walk
to_position position = do
  to_item_if (item_of position)
  take_all (to_part position)
