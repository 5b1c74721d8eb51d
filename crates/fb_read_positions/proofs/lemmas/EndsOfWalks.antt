-- What a walk leaves is an end of the tokens that it was given.
use Rattle.fb_types.proofs.Common.{◌≡◌, ℕ, zero, suc, Bool, true, false, List, [], ◌∷◌, Some, None, Ok, Err, codes, ap, subst, cond, Option, ◌&&◌, Name}
use Rattle.fb_read.specs.Blocks.{block}
use Rattle.fb_read.specs.Charts.{action, algorithm, state, states, transition, transitions}
use Rattle.fb_read.specs.Network.{application, connection, constant, instance, parameter, parameters, port}
use Rattle.fb_read.specs.Nodes.{instance_of}
use Rattle.fb_read.specs.Parser.{Parser, Outcome, ◌>>=◌, ◌>>◌, eat, expect, name, name_if, optional, pure, sees, ty_name}
use Rattle.fb_read.specs.Ports.{event, ports, variables}
use Rattle.fb_read.specs.Statements.{begins_statement}
use Rattle.fb_read.specs.Tokens.{Tokens}
use Rattle.fb_read.specs.declared.token.Mark.{Mark}
use Rattle.fb_read.specs.declared.token.Mark.TheVariants as mark
use Rattle.fb_read.specs.declared.token.Token.TheVariants as token
use Rattle.fb_read.proofs.lemmas.lookahead.OneTokenAhead.{IsLeft, Local, left-all, left-left, left-more, local-bind, local-cond, local-if, local-pure}
use Rattle.fb_read.proofs.lemmas.lookahead.LocalLibrary.{advances-block, local-action, local-algorithm, local-block, local-state, local-states, local-transition, local-transitions}
use Rattle.fb_read.proofs.lemmas.lookahead.LocalLoops.{IsNoneAtEnd, local-many, local-run_after, local-section, sees-head}
use Rattle.fb_read.proofs.lemmas.lookahead.LocalRules.{advances-bind, advances-connection, advances-event, advances-name, local-application, local-connection, local-constant, local-event, local-instance, local-parameter, local-parameters, local-port, local-ports, local-variables, none-bind, none-connection, none-event, none-name}
use Rattle.fb_read.proofs.lemmas.lookahead.LocalSteps.{Advances, local-eat, local-expect, local-name, local-name_if, local-ty_name, local-word}
use Rattle.fb_read.proofs.lemmas.rules.Steps.{both_ok}
use Rattle.fb_read_positions.specs.Walks.{begins_clause, depth_after, depth_at, opens, pass, pass_inner, pass_items, pass_outer, past_application, past_outer, past_type, past_variable, skip, take, take_all, to_clause, to_first, to_first_inner, to_first_inside, to_first_outer, to_inner, to_inside, to_item, to_item_if, to_name, to_outer, to_outer_owner, to_owner, to_statement}
use Rattle.fb_read_positions.specs.declared.lists.InnerList.{InnerList}
use Rattle.fb_read_positions.specs.declared.lists.InnerList.TheVariants as inner_list
use Rattle.fb_read_positions.specs.declared.lists.Item.{Item}
use Rattle.fb_read_positions.specs.declared.lists.ItemList.{ItemList}
use Rattle.fb_read_positions.specs.declared.lists.ItemList.TheVariants as item_list
use Rattle.fb_read_positions.specs.declared.lists.OuterList.{OuterList}
use Rattle.fb_read_positions.specs.declared.lists.OuterList.TheVariants as outer_list
use Rattle.fb_read_positions.specs.declared.step.Step.{Step}
use Rattle.fb_read_positions.specs.declared.step.Step.TheVariants as step

abbrev pub Ends : {A : Type 0} → Parser A → Type 0
Ends {A} p = (ts rest : Tokens) (x : A) → p ts ≡ Ok (x, rest) → IsLeft rest ts

-- what is left, or these tokens
abbrev rest_or : Tokens → Outcome (Unit {0}) → Tokens
rest_or us (Ok p) = p.1
rest_or us (Err f) = us

abbrev found : Tokens → Outcome (Unit {0})
found ts = Ok (tt, ts)

-- a walk that has read nothing
pub nothing_read : (ts rest : Tokens) (x : Unit {0}) → found ts ≡ Ok (x, rest) → ts ≡ rest
nothing_read ts rest x e = ap (rest_or ts) e

same_left : (ts rest : Tokens) (x : Unit {0}) → found ts ≡ Ok (x, rest) → IsLeft rest ts
same_left ts rest x e = subst (λ (us : Tokens). IsLeft us ts) (nothing_read ts rest x e) (left-all ts)

ends : {A : Type 0} {p : Parser A} → Local p → Ends p
ends l = l.looks.left

ends-bind : {A B : Type 0} (p : Parser A) (f : A → Parser B) → Ends p → ((x : A) → Ends (f x)) → Ends (p >>= f)
ends-bind p f l m = λ ts rest y e.
    let w = both_ok (p ts) f (y, rest) e in
    left-left rest w.1 ts (m w.0 w.1 rest y w.3) (l ts w.1 w.0 w.2)

ends-then : {A B : Type 0} (p : Parser A) (q : Parser B) → Ends p → Ends q → Ends (p >> q)
ends-then p q l m = ends-bind p (λ _. q) l (λ _. m)

ends-skip : {A : Type 0} (p : Parser A) → Local p → Ends (skip p)
unfolding skip
ends-skip p l = ends-then p (pure tt) (ends l) (ends (local-pure tt))

ends-expect : (k : Mark) → Ends (expect k)
ends-expect k = ends (local-expect k)

-- ---- Steps

ends-application : Ends past_application
ends-application =
    ends (local-if (sees mark.Application) (application >> pure tt) (pure tt) (sees-head mark.Application) (local-bind application _ local-application (λ _. local-pure tt)) (local-pure tt))

ends-type : Ends past_type
unfolding past_type optional
ends-type =
    ends-then (expect mark.Colon) _ (ends-expect mark.Colon) (ends-then (skip ty_name) _ (ends-skip ty_name local-ty_name) (ends-then (skip (optional constant mark.Assign)) (expect mark.Semicolon)
    (ends-skip (optional constant mark.Assign) (local-bind (eat mark.Assign) _ (local-eat mark.Assign) (λ b. local-cond b _ _ (local-bind constant _ local-constant (λ x. local-pure (Some x))) (local-pure None))))
    (ends-expect mark.Semicolon)))

ends-variable : Ends past_variable
unfolding past_variable
ends-variable =
    ends-then (skip name) _ (ends-skip name local-name) (ends-bind (eat mark.Comma) _ (ends (local-eat mark.Comma)) more)
  where
    more : (b : Bool) → Ends (cond b (pure tt) past_type)
    more true = ends (local-pure tt)
    more false = ends-type

-- what follows the name of an instance
typed : (first : Name) → Local (expect mark.Colon >>= (λ _. name >>= (λ t. parameters >>= (λ given. expect mark.Semicolon >>= (λ _. pure (instance_of first t given))))))
typed first =
    local-bind (expect mark.Colon) _ (local-expect mark.Colon) (λ _. local-bind name _ local-name (λ t. local-bind parameters _ local-parameters (λ given.
    local-bind (expect mark.Semicolon) _ (local-expect mark.Semicolon) (λ _. local-pure (instance_of first t given)))))

advances-instance : Advances instance
unfolding instance
advances-instance = advances-bind name _ advances-name (λ first. typed first)

none-instance : IsNoneAtEnd instance
unfolding instance
none-instance = none-bind name _ none-name

ends-take : (s : Step) → Ends (take s)
unfolding take
ends-take (step.Mark k) = ends-expect k
ends-take step.In = ends (local-word (codes "IN"))
ends-take step.St = ends (local-word (codes "ST"))
ends-take step.Name = ends-skip name local-name
ends-take step.Event = ends-skip name_if local-name_if
ends-take step.Port = ends-skip port local-port
ends-take step.Ports = ends-skip ports local-ports
ends-take (step.Events begin) = ends-skip _ (local-section event begin mark.EndEvent local-event advances-event none-event)
ends-take (step.Variables begin) = ends-skip (variables begin) (local-variables begin)
ends-take step.Instances = ends-skip _ (local-many instance mark.EndFbs local-instance advances-instance none-instance)
ends-take step.EventConnections = ends-skip _ (local-section connection mark.EventConnections mark.EndConnections local-connection advances-connection none-connection)
ends-take step.States = ends-skip states local-states
ends-take step.Transitions = ends-skip transitions local-transitions
ends-take step.Blocks = ends-skip _ (local-run_after block mark.FunctionBlock local-block advances-block [])
ends-take step.Application = ends-application
ends-take step.Block = ends-skip block local-block
ends-take step.EventPort = ends-skip event local-event
ends-take step.Variable = ends-variable
ends-take step.Instance = ends-skip instance local-instance
ends-take step.Parameter = ends-skip parameter local-parameter
ends-take step.Connection = ends-skip connection local-connection
ends-take step.State = ends-skip state local-state
ends-take step.Action = ends-skip action local-action
ends-take step.Transition = ends-skip transition local-transition
ends-take step.Algorithm = ends-skip algorithm local-algorithm

ends-take_all : (steps : List Step) → Ends (take_all steps)
unfolding take_all
ends-take_all [] = ends (local-pure tt)
ends-take_all (s ∷ steps) = ends-then (take s) (take_all steps) (ends-take s) (ends-take_all steps)

ends-pass : (steps : List Step) (n : ℕ) → Ends (pass steps n)
unfolding pass
ends-pass steps zero = ends (local-pure tt)
ends-pass steps (suc n) = ends-then (take_all steps) (pass steps n) (ends-take_all steps) (ends-pass steps n)

-- ---- Names, statements and clauses

named_left : (ts rest : Tokens) (n : ℕ) (x : Unit {0}) → to_name ts n ≡ Ok (x, rest) → IsLeft rest ts
unfolding to_name
named_left [] rest n x e = absurd cc
named_left (token.Name text ∷ ts) rest zero x e = same_left (token.Name text ∷ ts) rest x e
named_left (token.Name text ∷ ts) rest (suc n) x e = left-more (token.Name text) rest ts (named_left ts rest n x e)
named_left (token.Mark k ∷ ts) rest n x e = left-more (token.Mark k) rest ts (named_left ts rest n x e)
named_left (token.Whole m ∷ ts) rest n x e = left-more (token.Whole m) rest ts (named_left ts rest n x e)
named_left (token.Time m ∷ ts) rest n x e = left-more (token.Time m) rest ts (named_left ts rest n x e)

stated_left : (ts rest : Tokens) (ready : Bool) (n : ℕ) (x : Unit {0}) → to_statement ts ready n ≡ Ok (x, rest) → IsLeft rest ts
unfolding to_statement
stated_left [] rest ready n x e = absurd cc
stated_left (t ∷ ts) rest ready zero x e =
    go (ready && begins_statement (t ∷ ts)) (λ h. left-more t rest ts (stated_left ts rest (opens (t ∷ ts)) zero x h)) e
  where
    go : (b : Bool) → (to_statement ts (opens (t ∷ ts)) zero ≡ Ok (x, rest) → IsLeft rest (t ∷ ts)) → cond b (found (t ∷ ts)) (to_statement ts (opens (t ∷ ts)) zero) ≡ Ok (x, rest) → IsLeft rest (t ∷ ts)
    go true more h = same_left (t ∷ ts) rest x h
    go false more h = more h
stated_left (t ∷ ts) rest ready (suc n) x e = left-more t rest ts (stated_left ts rest (opens (t ∷ ts)) _ x e)

claused_left : (ts rest : Tokens) (depth n : ℕ) (x : Unit {0}) → to_clause ts depth n ≡ Ok (x, rest) → IsLeft rest ts
unfolding to_clause
claused_left [] rest depth n x e = absurd cc
claused_left (t ∷ ts) rest depth zero x e =
    go (begins_clause (t ∷ ts) depth) (λ h. left-more t rest ts (claused_left ts rest (depth_after (t ∷ ts) depth) zero x h)) e
  where
    go : (b : Bool) → (to_clause ts (depth_after (t ∷ ts) depth) zero ≡ Ok (x, rest) → IsLeft rest (t ∷ ts)) → cond b (found (t ∷ ts)) (to_clause ts (depth_after (t ∷ ts) depth) zero) ≡ Ok (x, rest) → IsLeft rest (t ∷ ts)
    go true more h = same_left (t ∷ ts) rest x h
    go false more h = more h
claused_left (t ∷ ts) rest depth (suc n) x e = left-more t rest ts (claused_left ts rest (depth_after (t ∷ ts) depth) _ x e)

-- ---- Items of lists

ends-inner : (l : InnerList) (n : ℕ) → Ends (pass_inner l n)
ends-inner inner_list.With n = ends-pass _ n
ends-inner inner_list.Parameters n = ends-pass _ n
ends-inner inner_list.Actions n = ends-pass _ n
ends-inner inner_list.Statements n = λ ts rest x e. stated_left ts rest true n x e
ends-inner inner_list.Mentions n = λ ts rest x e. named_left ts rest n x e
ends-inner inner_list.GuardMentions n = λ ts rest x e. named_left ts rest n x e

ends-first_outer : (l : OuterList) → Ends (to_first_outer l)
ends-first_outer l = ends-then (take_all (to_inside l)) (take_all (to_first_inside l)) (ends-take_all (to_inside l)) (ends-take_all (to_first_inside l))

ends-outer_owner : (l : OuterList) → Ends (to_outer_owner l)
ends-outer_owner outer_list.Blocks = ends (local-pure tt)
ends-outer_owner (outer_list.InApplication l) = ends (local-pure tt)
ends-outer_owner (outer_list.InPorts k l) = ends-pass _ k
ends-outer_owner (outer_list.InBasic k l) = ends-pass _ k
ends-outer_owner (outer_list.InComposite k l) = ends-pass _ k

ends-outer : (l : OuterList) (n : ℕ) → Ends (to_outer l n)
unfolding to_outer
ends-outer l n = ends-then (to_outer_owner l) _ (ends-outer_owner l) (ends-then (to_first_outer l) (pass_outer l n) (ends-first_outer l) (ends-pass (past_outer l) n))

ends-to_inner : (l : OuterList) (n : ℕ) (inside : InnerList) (k : ℕ) → Ends (to_inner l n inside k)
unfolding to_inner
ends-to_inner l n inside k = ends-then (to_outer l n) _ (ends-outer l n) (ends-then (take_all (to_first_inner inside)) (pass_inner inside k) (ends-take_all (to_first_inner inside)) (ends-inner inside k))

pub ends-owner : (l : ItemList) → Ends (to_owner l)
ends-owner (item_list.Outer l) = ends-outer_owner l
ends-owner (item_list.Inner l n inside) = ends-outer l n
ends-owner (item_list.Clauses l n k) = ends-to_inner l n inner_list.Statements k

pub ends-first : (l : ItemList) → Ends (to_first l)
ends-first (item_list.Outer l) = ends-first_outer l
ends-first (item_list.Inner l n inside) = ends-take_all (to_first_inner inside)
ends-first (item_list.Clauses l n k) = ends (local-pure tt)

ends-items : (l : ItemList) (n : ℕ) → Ends (pass_items l n)
ends-items (item_list.Outer l) n = ends-pass (past_outer l) n
ends-items (item_list.Inner l n inside) k = ends-inner inside k
ends-items (item_list.Clauses l n k) j = λ ts rest x e. claused_left ts rest (depth_at ts) j x e

pub ends-item : (i : Item) → Ends (to_item i)
unfolding to_item
ends-item i = ends-then (to_owner i.list) _ (ends-owner i.list) (ends-then (to_first i.list) (pass_items i.list i.index) (ends-first i.list) (ends-items i.list i.index))

pub ends-item_if : (o : Option Item) → Ends (to_item_if o)
ends-item_if None = ends (local-pure tt)
ends-item_if (Some i) = ends-item i
