use Rattle.fb_types.proofs.Common.{◌∙◌, ap, subst}
use Rattle.fb_types.specs.declared.text.Stmt.TheOpen.{Stmt-F}
use Rattle.fb_types.specs.declared.text.Stmt as read
use Rattle.fb_types.specs.declared.text.Stmt.TheViews.{out-Stmt}
use Rattle.fb_st.specs.Frames.{values_of}
use Rattle.fb_stop.specs.Statements.{AreOtherwise}
use Rattle.fb_stop.specs.Statements as spec
use Rattle.fb_stop.specs.declared.statement.Anchor.TheVariants.{Beginning, Until}
use Rattle.fb_stop.proofs.lemmas.numbers.Missing.{layer_assign, layer_case, layer_for, layer_if, layer_repeat, layer_while, own_otherwise}
use Rattle.fb_stop.proofs.lemmas.operations.FirstWithoutValue.{if_none_map}
use Rattle.fb_stop.proofs.lemmas.operations.OperationPlaces.{own_of, own_of_assigned, own_of_if}
use Rattle.fb_stop.proofs.statement.in_own.Goals as goal

pub returns-in-Assign-clause-found : goal.returns-in-Assign-clause-found
returns-in-Assign-clause-found c =
    own_of_assigned (values_of c.args.frame.now) c.args.reason c.args.statement.now c.in-Assign.field-0 c.in-Assign.expr c.in_assigned.result c.in-Assign.is
    c.in_assigned.ensures.anchor c.in_assigned.ensures.fault

pub returns-in-If-clause-found : goal.returns-in-If-clause-found
returns-in-If-clause-found c =
    own_of_if (values_of c.args.frame.now) c.args.reason c.args.statement.now c.in-If.choices c.as_slice.result.now c.in-If.field-1 c.in_conditions.result c.in-If.is c.as_slice.ensures c.in_conditions.ensures.found

pub returns-in-Case-clause-found : goal.returns-in-Case-clause-found
returns-in-Case-clause-found c =
    own_of (values_of c.args.frame.now) c.args.reason c.args.statement.now (read.Case c.in-Case.selector c.in-Case.field-1 c.in-Case.field-2) Beginning 1 c.in-Case.selector c.found_in.result c.in-Case.is
    (spec.selector c.in-Case.selector c.in-Case.field-1 c.in-Case.field-2) c.found_in.ensures.anchor c.found_in.ensures.fault

pub returns-in-While-clause-found : goal.returns-in-While-clause-found
returns-in-While-clause-found c =
    own_of (values_of c.args.frame.now) c.args.reason c.args.statement.now (read.While c.in-While.condition c.in-While.field-1) Beginning 1 c.in-While.condition c.found_in-in-While.result c.in-While.is
    (spec.while c.in-While.condition c.in-While.field-1) c.found_in-in-While.ensures.anchor c.found_in-in-While.ensures.fault

pub returns-in-Repeat-clause-found : goal.returns-in-Repeat-clause-found
returns-in-Repeat-clause-found c =
    own_of (values_of c.args.frame.now) c.args.reason c.args.statement.now (read.Repeat c.in-Repeat.field-0 c.in-Repeat.condition) Until 1 c.in-Repeat.condition c.found_in-in-Repeat.result c.in-Repeat.is
    (spec.until c.in-Repeat.field-0 c.in-Repeat.condition) c.found_in-in-Repeat.ensures.anchor c.found_in-in-Repeat.ensures.fault

-- ---- Where no operation is answered

pub returns-in-Assign-clause-none : goal.returns-in-Assign-clause-none
returns-in-Assign-clause-none c =
    if_none_map c.in_assigned.result
    (own_otherwise (values_of c.args.frame.now) c.args.reason c.args.statement.now (Stmt-F.Assign c.in-Assign.field-0 c.in-Assign.expr) (ap out-Stmt c.in-Assign.is ∙ layer_assign c.in-Assign.field-0 c.in-Assign.expr)) c.in_assigned.ensures.none

pub returns-in-If-clause-none : goal.returns-in-If-clause-none
returns-in-If-clause-none c =
    if_none_map c.in_conditions.result
    (λ none. own_otherwise (values_of c.args.frame.now) c.args.reason c.args.statement.now (Stmt-F.If c.in-If.choices c.in-If.field-1) (ap out-Stmt c.in-If.is ∙ layer_if c.in-If.choices c.in-If.field-1)
    (subst (AreOtherwise (values_of c.args.frame.now) c.args.reason) c.as_slice.ensures none)) c.in_conditions.ensures.none

pub returns-in-Case-clause-none : goal.returns-in-Case-clause-none
returns-in-Case-clause-none c =
    if_none_map c.found_in.result
    (own_otherwise (values_of c.args.frame.now) c.args.reason c.args.statement.now (Stmt-F.Case c.in-Case.selector c.in-Case.field-1 c.in-Case.field-2) (ap out-Stmt c.in-Case.is ∙ layer_case c.in-Case.selector c.in-Case.field-1 c.in-Case.field-2)) c.found_in.ensures.none

pub returns-in-For-clause-none : goal.returns-in-For-clause-none
returns-in-For-clause-none c =
    if_none_map c.in_bounds.result
    (λ none. own_otherwise (values_of c.args.frame.now) c.args.reason c.args.statement.now (Stmt-F.For c.in-For.field-0 c.in-For.start c.in-For.end c.in-For.step c.in-For.field-4)
    (ap out-Stmt c.in-For.is ∙ layer_for c.in-For.field-0 c.in-For.start c.in-For.end c.in-For.step c.in-For.field-4) none) c.in_bounds.ensures.none

pub returns-in-While-clause-none : goal.returns-in-While-clause-none
returns-in-While-clause-none c =
    if_none_map c.found_in-in-While.result
    (own_otherwise (values_of c.args.frame.now) c.args.reason c.args.statement.now (Stmt-F.While c.in-While.condition c.in-While.field-1) (ap out-Stmt c.in-While.is ∙ layer_while c.in-While.condition c.in-While.field-1)) c.found_in-in-While.ensures.none

pub returns-in-Repeat-clause-none : goal.returns-in-Repeat-clause-none
returns-in-Repeat-clause-none c =
    if_none_map c.found_in-in-Repeat.result
    (own_otherwise (values_of c.args.frame.now) c.args.reason c.args.statement.now (Stmt-F.Repeat c.in-Repeat.field-0 c.in-Repeat.condition) (ap out-Stmt c.in-Repeat.is ∙ layer_repeat c.in-Repeat.field-0 c.in-Repeat.condition)) c.found_in-in-Repeat.ensures.none
