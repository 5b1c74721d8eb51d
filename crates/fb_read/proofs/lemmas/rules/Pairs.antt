-- Rules with a mark between two parts.
use Rattle.fb_read.proofs.lemmas.Common.{◌≡◌, false, List, Option, Ok, Err, refl, ◌∙◌, Name, Branch, Expr, Stmt, Mark, Tokens, transition_of, Parser, Outcome, and_then, ◌>>=◌, pure, expect, name, ty_name, separated, sees, after, port, connection, constant, parameter, parameters, instance, declaration, initial, condition, transition, expression, assignment, branches, case_body, case_statement, for_end, for_to, for_statement, loop_body, others, simple}
use Rattle.fb_types.specs.declared.text.Stmt.TheVariants as s
use Rattle.fb_read.specs.declared.token.Mark.TheVariants as mark
use Rattle.fb_read.specs.Nodes.{connection_of, parameter_of, instance_of, declaration_of}
use Rattle.fb_read.specs.Parser.{◌>>◌, optional, then_read, pair, ended, finished}
use Rattle.fb_read.specs.Statements.{bounds, cases, step}

-- a mark and a rule after what was found, and what continues with both
after_then : {A B C : Type 0} (x : A) (k : Mark) (q : Parser B) (go : A → B → Parser C) (ts : Tokens)
    → (expect k >> (q >>= go x)) ts ≡ (then_read x k q >>= (λ both. go both.0 both.1)) ts
unfolding then_read
after_then {A = A} {B = B} {C = C} x k q go ts = after_none (expect k ts)
  where
    after_mark : (o : Outcome B) → and_then o (go x) ≡ and_then {A = A × B} (and_then o (λ y. pure (x, y))) (λ both. go both.0 both.1)
    after_mark (Ok y) = refl
    after_mark (Err e) = refl

    after_none : (o : Outcome (Unit {0})) → and_then o (λ u. q >>= go x) ≡ and_then {A = A × B} (and_then o (λ u. q >>= (λ y. pure (x, y)))) (λ both. go both.0 both.1)
    after_none (Ok u) = after_mark (q u.1)
    after_none (Err e) = refl

-- two rules and a mark between them, and what continues with both
pair_then : {A B C : Type 0} (p : Parser A) (k : Mark) (q : Parser B) (go : A → B → Parser C) (ts : Tokens)
    → (p >>= (λ x. expect k >> (q >>= go x))) ts ≡ (pair p k q >>= (λ both. go both.0 both.1)) ts
unfolding pair
pair_then {A = A} {B = B} {C = C} p k q go ts = after_none (p ts)
  where
    after_none : (o : Outcome A) → and_then o (λ x. expect k >> (q >>= go x)) ≡ and_then {A = A × B} (and_then o (λ x. then_read x k q)) (λ both. go both.0 both.1)
    after_none (Ok x) = after_then x.0 k q go x.1
    after_none (Err e) = refl

-- the same first step, and what continues the same way
pub alike : {A B : Type 0} (o : Outcome A) (f g : A → Parser B) → ((x : A) (ts : Tokens) → f x ts ≡ g x ts) → and_then o f ≡ and_then o g
alike (Ok x) f g same = same x.0 x.1
alike (Err e) f g same = refl

pub connection_is : (ts : Tokens) → connection ts ≡ (pair port mark.To port >>= (λ both. expect mark.Semicolon >> pure (connection_of both.0 both.1))) ts
unfolding connection
connection_is ts = pair_then port mark.To port (λ from to. expect mark.Semicolon >> pure (connection_of from to)) ts

pub parameter_is : (ts : Tokens) → parameter ts ≡ (pair name mark.Assign constant >>= (λ both. pure (parameter_of both.0 both.1))) ts
unfolding parameter
parameter_is ts = pair_then name mark.Assign constant (λ first given. pure (parameter_of first given)) ts

pub instance_is : (ts : Tokens)
    → instance ts ≡ (pair name mark.Colon name >>= (λ both. parameters >>= (λ given. expect mark.Semicolon >> pure (instance_of both.0 both.1 given)))) ts
unfolding instance
instance_is ts = pair_then name mark.Colon name (λ first block_type. parameters >>= (λ given. expect mark.Semicolon >> pure (instance_of first block_type given))) ts

pub transition_is : (ts : Tokens)
    → transition ts ≡ (pair name mark.To name >>= (λ both. then_read both mark.Assign condition >>= (λ all. expect mark.Semicolon >> pure (transition_of all.0.0 all.0.1 all.1)))) ts
unfolding transition
transition_is ts =
    pair_then name mark.To name (λ from to. expect mark.Assign >> (condition >>= (λ found. expect mark.Semicolon >> pure (transition_of from to found)))) ts
    ∙ alike (pair name mark.To name ts) (λ both. expect mark.Assign >> (condition >>= (λ found. expect mark.Semicolon >> pure (transition_of both.0 both.1 found))))
    (λ both. then_read both mark.Assign condition >>= (λ all. expect mark.Semicolon >> pure (transition_of all.0.0 all.0.1 all.1)))
    (λ both mid. after_then both mark.Assign condition (λ from found. expect mark.Semicolon >> pure (transition_of from.0 from.1 found)) mid)

pub declaration_is : (ts : Tokens)
    → declaration ts ≡ (separated name >>= (λ names. then_read names mark.Colon ty_name >>= (λ both. optional constant mark.Assign >>= (λ value. expect mark.Semicolon >> pure (declaration_of both.0 both.1 value))))) ts
unfolding declaration initial optional
declaration_is ts =
    alike (separated name ts) (λ names. expect mark.Colon >> (ty_name >>= (λ found. initial >>= (λ value. expect mark.Semicolon >> pure (declaration_of names found value)))))
    (λ names. then_read names mark.Colon ty_name >>= (λ both. initial >>= (λ value. expect mark.Semicolon >> pure (declaration_of both.0 both.1 value))))
    (λ names mid. after_then names mark.Colon ty_name (λ all found. initial >>= (λ value. expect mark.Semicolon >> pure (declaration_of all found value))) mid)

pub assignment_is : (ts : Tokens) → assignment ts ≡ (pair name mark.Assign expression >>= (λ both. expect mark.Semicolon >> pure (s.Assign both.0 both.1))) ts
unfolding assignment
assignment_is ts = pair_then name mark.Assign expression (λ target value. expect mark.Semicolon >> pure (s.Assign target value)) ts

-- FOR from its TO on, after its first part
for_to_is : (inner : Parser Stmt) (first : Name × Expr) (ts : Tokens)
    → for_to inner first.0 first.1 ts ≡ (then_read first mark.To expression >>= (λ all. optional expression mark.By >>= (λ by. loop_body inner mark.EndFor >>= (λ body. pure (s.For all.0.0 all.0.1 all.1 by body))))) ts
unfolding for_to for_end step optional then_read
for_to_is inner first ts = after_to (expect mark.To ts)
  where
    after_step : (end : Expr) (o : Outcome (Option Expr))
        → and_then (and_then o (λ by. pure (bounds end by))) (λ until. loop_body inner mark.EndFor >>= (λ body. pure (s.For first.0 first.1 until.0 until.1 body)))
        ≡ and_then o (λ by. loop_body inner mark.EndFor >>= (λ body. pure (s.For first.0 first.1 end by body)))
    after_step end (Ok y) = refl
    after_step end (Err e) = refl

    after_end : (o : Outcome Expr)
        → and_then (and_then o (λ end. optional expression mark.By >>= (λ by. pure (bounds end by)))) (λ until. loop_body inner mark.EndFor >>= (λ body. pure (s.For first.0 first.1 until.0 until.1 body)))
        ≡ and_then {A = (Name × Expr) × Expr} (and_then o (λ end. pure (first, end))) (λ all. optional expression mark.By >>= (λ by. loop_body inner mark.EndFor >>= (λ body. pure (s.For all.0.0 all.0.1 all.1 by body))))
    after_end (Ok y) = after_step y.0 (optional expression mark.By y.1)
    after_end (Err e) = refl

    after_to : (o : Outcome (Unit {0}))
        → and_then (and_then o (λ u. expression >>= (λ end. optional expression mark.By >>= (λ by. pure (bounds end by))))) (λ until. loop_body inner mark.EndFor >>= (λ body. pure (s.For first.0 first.1 until.0 until.1 body)))
        ≡ and_then {A = (Name × Expr) × Expr} (and_then o (λ u. expression >>= (λ end. pure (first, end)))) (λ all. optional expression mark.By >>= (λ by. loop_body inner mark.EndFor >>= (λ body. pure (s.For all.0.0 all.0.1 all.1 by body))))
    after_to (Ok u) = after_end (expression u.1)
    after_to (Err e) = refl

pub for_statement_is : (inner : Parser Stmt) (ts : Tokens)
    → for_statement inner ts ≡ (pair name mark.Assign expression >>= (λ first. then_read first mark.To expression >>= (λ all. optional expression mark.By >>= (λ by. loop_body inner mark.EndFor >>= (λ body. pure (s.For all.0.0 all.0.1 all.1 by body)))))) ts
unfolding for_statement
for_statement_is inner ts =
    pair_then name mark.Assign expression (λ variable start. for_to inner variable start) ts
    ∙ alike (pair name mark.Assign expression ts) (λ first. for_to inner first.0 first.1)
    (λ first. then_read first mark.To expression >>= (λ all. optional expression mark.By >>= (λ by. loop_body inner mark.EndFor >>= (λ body. pure (s.For all.0.0 all.0.1 all.1 by body)))))
    (for_to_is inner)

-- the branches of a CASE and its ELSE, after what selects one
case_body_is : (inner : Parser Stmt) (x : Expr) (ts : Tokens)
    → (case_body inner >>= (λ inside. pure (s.Case x inside.0 inside.1))) ts ≡ (expect mark.Of >> (branches inner >>= (λ found. others inner >>= (λ other. finished mark.EndCase (s.Case x found other))))) ts
unfolding case_body
case_body_is inner x ts = after_of (expect mark.Of ts)
  where
    after_both : (found : List Branch) (other : List Stmt) (o : Outcome (Unit {0}))
        → and_then (and_then o (λ u. pure (cases found other))) (λ inside. pure (s.Case x inside.0 inside.1)) ≡ and_then o (λ u. pure (s.Case x found other))
    after_both found other (Ok u) = refl
    after_both found other (Err e) = refl

    after_end : (found : List Branch) (other : List Stmt) (o : Outcome (Unit {0}))
        → and_then (and_then o (λ u. expect mark.Semicolon >> pure (cases found other))) (λ inside. pure (s.Case x inside.0 inside.1)) ≡ and_then o (λ u. expect mark.Semicolon >> pure (s.Case x found other))
    after_end found other (Ok u) = after_both found other (expect mark.Semicolon u.1)
    after_end found other (Err e) = refl

    after_others : (found : List Branch) (o : Outcome (List Stmt))
        → and_then (and_then o (λ other. finished mark.EndCase (cases found other))) (λ inside. pure (s.Case x inside.0 inside.1)) ≡ and_then o (λ other. finished mark.EndCase (s.Case x found other))
    after_others found (Ok y) = after_end found y.0 (expect mark.EndCase y.1)
    after_others found (Err e) = refl

    after_branches : (o : Outcome (List Branch))
        → and_then (and_then o (λ found. others inner >>= (λ other. finished mark.EndCase (cases found other)))) (λ inside. pure (s.Case x inside.0 inside.1))
        ≡ and_then o (λ found. others inner >>= (λ other. finished mark.EndCase (s.Case x found other)))
    after_branches (Ok y) = after_others y.0 (others inner y.1)
    after_branches (Err e) = refl

    after_of : (o : Outcome (Unit {0}))
        → and_then (and_then o (λ u. branches inner >>= (λ found. others inner >>= (λ other. finished mark.EndCase (cases found other))))) (λ inside. pure (s.Case x inside.0 inside.1))
        ≡ and_then o (λ u. branches inner >>= (λ found. others inner >>= (λ other. finished mark.EndCase (s.Case x found other))))
    after_of (Ok u) = after_branches (branches inner u.1)
    after_of (Err e) = refl

pub case_is : (inner : Parser Stmt) (ts : Tokens)
    → case_statement inner ts ≡ (expression >>= (λ x. expect mark.Of >> (branches inner >>= (λ found. others inner >>= (λ other. finished mark.EndCase (s.Case x found other)))))) ts
unfolding case_statement
case_is inner ts =
    alike (expression ts) (λ x. case_body inner >>= (λ inside. pure (s.Case x inside.0 inside.1)))
    (λ x. expect mark.Of >> (branches inner >>= (λ found. others inner >>= (λ other. finished mark.EndCase (s.Case x found other)))))
    (case_body_is inner)

-- a statement that begins with none of the three marks
pub simple_is : (ts a b c : Tokens) → sees mark.Semicolon ts ≡ false → after mark.Semicolon ts ≡ a → sees mark.Exit a ≡ false → after mark.Exit a ≡ b
    → sees mark.Return b ≡ false → after mark.Return b ≡ c → simple ts ≡ (pair name mark.Assign expression >>= (λ both. ended mark.Semicolon (s.Assign both.0 both.1))) c
unfolding simple
simple_is ts a b c no_semicolon after_a no_exit after_b no_return after_c = rw (no_semicolon, after_a, no_exit, after_b, no_return, after_c) (assignment_is c)
