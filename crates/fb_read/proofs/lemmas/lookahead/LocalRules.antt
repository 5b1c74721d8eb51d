-- The rules of networks, interfaces and charts look one token ahead.
use Rattle.fb_read.proofs.lemmas.Common.{ℕ, true, false, cond, List, [], ◌∷◌, ◌++◌, length, Some, None, pos, refl, ap, arith, Name, flat_map, Mark, separated_from, Parser, and_then, ◌>>=◌, pure, eat, expect, name, ty_name, whole, literal, separated, port, connection, constant, parameter, parameters, instance, network, application, with_names, event, initial, declaration, variables, ports}
use Rattle.fb_types.proofs.Common.{neg_ℤ}
use Rattle.fb_types.specs.declared.value.Value.TheVariants as value
use Rattle.fb_read.specs.declared.token.Mark.TheVariants as mark
use Rattle.fb_read.specs.Nodes.{port_of, connection_of, parameter_of, instance_of, network_of, application_of, event_of, declaration_of, ports_of}
use Rattle.fb_read.specs.Ports.{variables_of}
use Rattle.fb_read.proofs.lemmas.rules.Steps.{both_ok, expected, named, mark-shorter, name-shorter}
use Rattle.fb_read.proofs.lemmas.lookahead.OneTokenAhead.{left-length, Local, local-bind, local-pure, local-cond}
use Rattle.fb_read.proofs.lemmas.lookahead.LocalSteps.{Advances, local-eat, local-expect, local-name, local-ty_name, local-whole, local-literal}
use Rattle.fb_read.proofs.lemmas.lookahead.LocalLoops.{IsNoneAtEnd, local-many, local-section, local-separated_from, local-separated}

-- a rule after one that takes a token, and one that takes a token after a rule
pub advances-bind : {A B : Type 0} (p : Parser A) (f : A → Parser B) → Advances p → ((x : A) → Local (f x)) → Advances (p >>= f)
advances-bind p f adv l ts rest y h =
    let w = both_ok (p ts) f (y, rest) h in
    let a = adv ts w.1 w.0 w.2 in
    let b = left-length rest w.1 ((l w.0).looks.left w.1 rest y w.3) in
    omega arith

pub none-bind : {A B : Type 0} (p : Parser A) (f : A → Parser B) → IsNoneAtEnd p → IsNoneAtEnd (p >>= f)
none-bind p f h = ap (λ o. and_then o f) h

pub advances-name : Advances name
advances-name ts rest x h = name-shorter (named ts x rest h)

pub advances-expect : (k : Mark) → Advances (expect k)
advances-expect k ts rest x h = mark-shorter (expected k ts rest h)

pub none-name : IsNoneAtEnd name
unfolding name
none-name = refl

-- what is read, and a mark
pub local-ended : {A : Type 0} (k : Mark) (x : A) → Local (expect k >>= (λ _. pure x))
local-ended k x = local-bind (expect k) _ (local-expect k) (λ _. local-pure x)

-- ---- networks

pub local-port : Local port
unfolding port
local-port =
    local-bind name _ local-name (λ first. local-bind (eat mark.Dot) _ (local-eat mark.Dot) (λ b. local-cond b _ _
    (local-bind name _ local-name (λ second. local-pure (port_of (Some first) second)))
    (local-pure (port_of None first))))

pub local-connection : Local connection
unfolding connection
local-connection =
    local-bind port _ local-port (λ from. local-bind (expect mark.To) _ (local-expect mark.To) (λ _. local-bind port _ local-port (λ to. local-ended mark.Semicolon (connection_of from to))))

advances-port : Advances port
unfolding port
advances-port =
    advances-bind name _ advances-name (λ first. local-bind (eat mark.Dot) _ (local-eat mark.Dot) (λ b. local-cond b _ _
    (local-bind name _ local-name (λ second. local-pure (port_of (Some first) second)))
    (local-pure (port_of None first))))

pub advances-connection : Advances connection
unfolding connection
advances-connection =
    advances-bind port _ advances-port (λ from. local-bind (expect mark.To) _ (local-expect mark.To) (λ _. local-bind port _ local-port (λ to. local-ended mark.Semicolon (connection_of from to))))

none-port : IsNoneAtEnd port
unfolding port
none-port = none-bind name _ none-name

pub none-connection : IsNoneAtEnd connection
unfolding connection
none-connection = none-bind port _ none-port

pub local-constant : Local constant
unfolding constant
local-constant =
    local-bind (eat mark.True) _ (local-eat mark.True) (λ a. local-cond a _ _ (local-pure (value.Bool true))
    (local-bind (eat mark.False) _ (local-eat mark.False) (λ b. local-cond b _ _ (local-pure (value.Bool false))
    (local-bind (eat mark.Minus) _ (local-eat mark.Minus) (λ c. local-cond c _ _
    (local-bind whole _ local-whole (λ n. local-pure (value.Whole (neg_ℤ (pos n)))))
    (local-bind literal _ local-literal (λ n. local-pure (value.Whole n))))))))

assigned : (first : Name) → Local (expect mark.Assign >>= (λ _. constant >>= (λ given. pure (parameter_of first given))))
assigned first = local-bind (expect mark.Assign) _ (local-expect mark.Assign) (λ _. local-bind constant _ local-constant (λ given. local-pure (parameter_of first given)))

pub local-parameter : Local parameter
unfolding parameter
local-parameter = local-bind name _ local-name (λ first. assigned first)

advances-parameter : Advances parameter
unfolding parameter
advances-parameter = advances-bind name _ advances-name (λ first. assigned first)

none-parameter : IsNoneAtEnd parameter
unfolding parameter
none-parameter = none-bind name _ none-name

pub local-parameters : Local parameters
unfolding parameters
local-parameters =
    local-bind (eat mark.Open) _ (local-eat mark.Open) (λ b. local-cond b _ _
    (local-bind (separated parameter) _ (local-separated parameter local-parameter advances-parameter none-parameter) (λ found. local-ended mark.Close found))
    (local-pure []))

typed : (first : Name) → Local (expect mark.Colon >>= (λ _. name >>= (λ t. parameters >>= (λ given. expect mark.Semicolon >>= (λ _. pure (instance_of first t given))))))
typed first =
    local-bind (expect mark.Colon) _ (local-expect mark.Colon) (λ _. local-bind name _ local-name (λ t. local-bind parameters _ local-parameters (λ given. local-ended mark.Semicolon (instance_of first t given))))

pub local-instance : Local instance
unfolding instance
local-instance = local-bind name _ local-name (λ first. typed first)

advances-instance : Advances instance
unfolding instance
advances-instance = advances-bind name _ advances-name (λ first. typed first)

none-instance : IsNoneAtEnd instance
unfolding instance
none-instance = none-bind name _ none-name

pub local-network : Local network
unfolding network
local-network =
    local-bind (expect mark.Fbs) _ (local-expect mark.Fbs) (λ _. local-bind _ _ (local-many instance mark.EndFbs local-instance advances-instance none-instance) (λ instances.
    local-bind _ _ (local-section connection mark.EventConnections mark.EndConnections local-connection advances-connection none-connection) (λ events.
    local-bind _ _ (local-section connection mark.DataConnections mark.EndConnections local-connection advances-connection none-connection) (λ values. local-pure (network_of instances events values)))))

pub local-application : Local application
unfolding application
local-application =
    local-bind (expect mark.Application) _ (local-expect mark.Application) (λ _. local-bind name _ local-name (λ first. local-bind network _ local-network (λ body. local-ended mark.EndApplication (application_of first body))))

-- ---- interfaces

pub local-names : Local (separated name)
local-names = local-separated name local-name advances-name none-name

pub local-with_names : Local with_names
unfolding with_names
local-with_names = local-bind (eat mark.With) _ (local-eat mark.With) (λ b. local-cond b _ _ local-names (local-pure []))

with_event : (first : Name) → Local (with_names >>= (λ names. expect mark.Semicolon >>= (λ _. pure (event_of first names))))
with_event first = local-bind with_names _ local-with_names (λ names. local-ended mark.Semicolon (event_of first names))

pub local-event : Local event
unfolding event
local-event = local-bind name _ local-name (λ first. with_event first)

pub advances-event : Advances event
unfolding event
advances-event = advances-bind name _ advances-name (λ first. with_event first)

pub none-event : IsNoneAtEnd event
unfolding event
none-event = none-bind name _ none-name

local-initial : Local initial
unfolding initial
local-initial = local-bind (eat mark.Assign) _ (local-eat mark.Assign) (λ b. local-cond b _ _ (local-bind constant _ local-constant (λ v. local-pure (Some v))) (local-pure None))

-- a rule that goes on after what it read first
pub advances-separated : {A : Type 0} (item : Parser A) → Local item → Advances item → Advances (separated item)
unfolding separated separated_from
advances-separated item l adv [] rest x h = absurd cc
advances-separated {A = A} item l adv (t ∷ ts) rest x h = advances-bind item _ adv (λ y. turn (length ts) y) (t ∷ ts) rest x h
  where
    turn : (n : ℕ) (y : A) → Local (eat mark.Comma >>= (λ b. cond b (separated_from item n ([] ++ y ∷ [])) (pure ([] ++ y ∷ []))))
    turn n y = local-bind (eat mark.Comma) _ (local-eat mark.Comma) (λ b. local-cond b _ _ (local-separated_from item l n ([] ++ y ∷ [])) (local-pure ([] ++ y ∷ [])))

none-separated : {A : Type 0} (item : Parser A) → IsNoneAtEnd (separated item)
unfolding separated separated_from
none-separated item = refl

declared : (names : List Name) → Local (expect mark.Colon >>= (λ _. ty_name >>= (λ found. initial >>= (λ value. expect mark.Semicolon >>= (λ _. pure (declaration_of names found value))))))
declared names =
    local-bind (expect mark.Colon) _ (local-expect mark.Colon) (λ _. local-bind ty_name _ local-ty_name (λ found. local-bind initial _ local-initial (λ value. local-ended mark.Semicolon (declaration_of names found value))))

local-declaration : Local declaration
unfolding declaration
local-declaration = local-bind (separated name) _ local-names (λ names. declared names)

advances-declaration : Advances declaration
unfolding declaration
advances-declaration = advances-bind (separated name) _ (advances-separated name local-name advances-name) (λ names. declared names)

none-declaration : IsNoneAtEnd declaration
unfolding declaration
none-declaration = none-bind (separated name) _ (none-separated name)

pub local-variables : (begin : Mark) → Local (variables begin)
unfolding variables
local-variables begin = local-bind _ _ (local-section declaration begin mark.EndVar local-declaration advances-declaration none-declaration) (λ found. local-pure (flat_map variables_of found))

pub local-ports : Local ports
unfolding ports
local-ports =
    local-bind _ _ (local-section event mark.EventInput mark.EndEvent local-event advances-event none-event) (λ a.
    local-bind _ _ (local-section event mark.EventOutput mark.EndEvent local-event advances-event none-event) (λ b.
    local-bind _ _ (local-variables mark.VarInput) (λ c. local-bind _ _ (local-variables mark.VarOutput) (λ d. local-pure (ports_of a b c d)))))
