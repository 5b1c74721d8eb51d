use Rattle.fb_types.proofs.Common.{List, IfSome, subst, IfNone}
use Rattle.fb_types.specs.declared.text.Stmt as read
use Rattle.fb_st.specs.Frames.{values_of}
use Rattle.fb_stop.specs.Statements.{IsInList, IsListOtherwise}
use Rattle.fb_stop.proofs.statement.operation_of.Goals as goal

pub returns-clause-found : goal.returns-clause-found
returns-clause-found c =
    subst (λ (l : List read.Stmt). IfSome c.in_list.result (IsInList (values_of c.args.frame.now) c.args.reason l 0 c.args.number)) c.as_slice.ensures c.in_list.ensures.found

pub returns-clause-none : goal.returns-clause-none
returns-clause-none c =
    subst (λ (l : List read.Stmt). IfNone c.in_list.result (IsListOtherwise (values_of c.args.frame.now) c.args.reason l 0 c.args.number)) c.as_slice.ensures c.in_list.ensures.none
