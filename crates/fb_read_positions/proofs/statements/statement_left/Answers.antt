use Rattle.fb_types.proofs.Common.{◌≡◌, ℕ, suc, ◌-◌, true, false, List, [], drop, sym, ap, ◌∙◌, arith, ◌&&◌, drop_all, length-drop}
use Rattle.fb_read.specs.Statements.{begins_statement}
use Rattle.fb_read.specs.Tokens.{tokens_of}
use Rattle.fb_read.specs.declared.token.Located.{Located}
use Rattle.fb_read_positions.specs.Walks.{to_statement}
use Rattle.fb_read_positions.proofs.lemmas.ClauseSteps.{left_from}
use Rattle.fb_read_positions.proofs.lemmas.StatementSteps.{begins_there, statement_passed, token_passed}
use Rattle.fb_read_positions.proofs.lemmas.ReadingLoops.{at_statement, begins_none, none_stated, not_ready}
use Rattle.fb_read_positions.proofs.statements.statement_left.Goals.{then-ready+then-begins+else-before-eq0, else-ready, else-ready-via-then-ready+else-begins, else-ready-via-else-ready}
use Rattle.fb_read_positions.proofs.statements.statement_left.Goals as goal

pub begins-requires : goal.begins-requires
begins-requires c = omega (arith, length-drop c.loop-index.index c.args.tokens.now, c.requires)

pub returns-then-before-eq0 : goal.returns-then-before-eq0
returns-then-before-eq0 c =
    let l = c.loop-index in
    let ps = c.args.tokens.now in
    let none : l.before ≡ 0 = omega arith in (
      tokens_of (drop l.index ps),
      l.invariant ∙ ap (λ (n : ℕ). to_statement (tokens_of (drop l.index ps)) l.ready n) none
          ∙ at_statement (tokens_of (drop l.index ps)) l.ready c.if-ready.true (begins_there ps l.index c.begins.result true c.begins.ensures c.if-begins.true),
      left_from ps l.index,
    )

pub loop-index-preserved : goal.loop-index-preserved
loop-index-preserved c =
    let l = c.loop-index in
    let ps = c.args.tokens.now in
    let i = l.index in
    let x = c.index-tokens-index.result in
    let b = c.opens-ready.result in
    elim c.if-ready.branch [
      | then-ready+then-begins+else-before-eq0 w ↦
          let some : l.before ≡ suc (l.before - 1) = omega (arith, w.if-before-eq0.false) in
          l.invariant ∙ ap (λ (n : ℕ). to_statement (tokens_of (drop i ps)) l.ready n) some
          ∙ statement_passed ps i x c.loop-index-test.true c.index-tokens-index.is l.ready b (l.before - 1) c.if-ready.before w.if-ready.true (begins_there ps i w.begins.result true w.begins.ensures w.if-begins.true) c.opens-ready.ensures w.before-is
      | else-ready w ↦
          let none : (l.ready && begins_statement (tokens_of (drop i ps))) ≡ false = elim w.else-ready.branch [
            | else-ready-via-then-ready+else-begins u ↦ begins_none l.ready (begins_statement (tokens_of (drop i ps))) (begins_there ps i u.begins.result false u.begins.ensures u.if-begins.false)
            | else-ready-via-else-ready u ↦ not_ready l.ready (begins_statement (tokens_of (drop i ps))) u.if-ready.false
          ] in
          l.invariant ∙ token_passed ps i x c.loop-index-test.true c.index-tokens-index.is l.ready b l.before c.if-ready.before none c.opens-ready.ensures w.before-is
    ]

pub returns : goal.returns
returns c = λ here e.
    let l = c.loop-index in
    let ps = c.args.tokens.now in
    let over : drop l.index ps ≡ [] = drop_all l.index ps c.loop-index-test.false in
    none_stated l.ready l.before here (sym (l.invariant ∙ ap (λ (qs : List Located). to_statement (tokens_of qs) l.ready l.before) over) ∙ e)
