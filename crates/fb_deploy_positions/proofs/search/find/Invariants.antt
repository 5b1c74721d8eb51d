use Rattle.std.proofs.Common.{◌≡◌, [], take, drop}
use Rattle.fb_deploy_positions.specs.Entries.{found}
use Rattle.fb_deploy_positions.specs.Views.{IsPassed, array_sought, is_wanted, statements_view}
use Rattle.fb_deploy_positions.proofs.search.find.Given as goal

abbrev pub invariant-loop-statement : goal.invariant-loop-statement
invariant-loop-statement l = record {
  rest : found (is_wanted l.wanted) [] (statements_view l.statements)
      ≡ found (is_wanted l.wanted) (statements_view (take l.statement-index l.statements)) (statements_view (drop l.statement-index l.statements));
  passed : IsPassed (array_sought l.wanted) (statements_view (take l.statement-index l.statements)) l.passed;
}
