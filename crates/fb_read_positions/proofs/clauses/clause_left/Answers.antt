use Rattle.std.proofs.Common.{◌≡◌, ◌≤◌, ℕ, suc, ◌-◌, ◌+◌, List, [], ◌∷◌, drop, sym, ap, ◌∙◌, arith}
use Rattle.fb_types.proofs.Common.{drop_all}
use Rattle.fb_read.specs.Tokens.{tokens_of}
use Rattle.fb_read.specs.declared.token.Located.{Located}
use Rattle.fb_read_positions.specs.Walks.{depth_after, to_clause}
use Rattle.fb_read_positions.proofs.lemmas.ClauseSteps.{clause_here, clause_passed, depth_at_most, left_from, moved_clause, no_clause_passed, other_passed}
use Rattle.fb_read_positions.proofs.lemmas.ReadingLoops.{depth_more, no_clause_begun}
use Rattle.fb_read_positions.proofs.clauses.clause_left.Goals.{then-is_of_clauses, then-begins_clause+else-before-eq0, else-begins_clause, else-is_of_clauses}
use Rattle.fb_read_positions.proofs.clauses.clause_left.Goals as goal

pub loop-index-init : goal.loop-index-init
loop-index-init c = (
  ap (λ (d : ℕ). to_clause (tokens_of c.args.tokens.now) d c.args.count) (sym c.depth_at-depth.ensures),
  omega (arith, c.depth_at-depth.ensures, depth_at_most (tokens_of c.args.tokens.now)),
)

pub returns-then-before-eq0 : goal.returns-then-before-eq0
returns-then-before-eq0 c =
    let l = c.loop-index in
    let ps = c.args.tokens.now in
    let x = c.index-tokens-index.result in
    let none : l.before ≡ 0 = omega arith in (
      tokens_of (drop l.index ps),
      l.invariant.0 ∙ ap (λ (n : ℕ). to_clause (tokens_of (drop l.index ps)) l.depth n) none
          ∙ clause_here ps l.index x c.loop-index-test.true c.index-tokens-index.is l.depth (sym c.begins_clause.ensures ∙ c.if-begins_clause.true),
      left_from ps l.index,
    )

pub loop-index-preserved : goal.loop-index-preserved
loop-index-preserved c =
    let l = c.loop-index in
    let ps = c.args.tokens.now in
    let i = l.index in
    let x = c.index-tokens-index.result in
    let next = tokens_of (drop (i + 1) ps) in
    elim c.if-is_of_clauses.branch [
      | then-is_of_clauses w ↦
          let deeper : c.if-is_of_clauses.depth ≡ depth_after (x.token ∷ []) l.depth = w.depth-is ∙ w.depth_after-depth.ensures in
          let below : c.if-is_of_clauses.depth ≤ i + 1 + 1 = omega (arith, deeper, depth_more (x.token ∷ []) l.depth, l.invariant.1) in
          elim w.if-begins_clause.branch [
            | then-begins_clause+else-before-eq0 u ↦
                let some : l.before ≡ suc (l.before - 1) = omega (arith, u.if-before-eq0.false) in (
                  l.invariant.0 ∙ ap (λ (n : ℕ). to_clause (tokens_of (drop i ps)) l.depth n) some
                      ∙ clause_passed ps i x c.loop-index-test.true c.index-tokens-index.is l.depth (l.before - 1) (sym w.begins_clause.ensures ∙ u.if-begins_clause.true)
                      ∙ moved_clause next _ _ _ _ deeper (w.before-is ∙ u.before-is),
                  below,
                )
            | else-begins_clause u ↦ (
              l.invariant.0
                  ∙ no_clause_passed ps i x c.loop-index-test.true c.index-tokens-index.is l.depth l.before (sym w.begins_clause.ensures ∙ u.if-begins_clause.false)
                  ∙ moved_clause next _ _ _ _ deeper (w.before-is ∙ u.before-is),
              below,
            )
          ]
      | else-is_of_clauses w ↦ (
        l.invariant.0 ∙ other_passed ps i x c.loop-index-test.true c.index-tokens-index.is l.depth l.before (sym c.is_of_clauses.ensures ∙ w.if-is_of_clauses.false)
            ∙ moved_clause next _ _ _ _ w.depth-is w.before-is,
        omega (arith, w.depth-is, l.invariant.1),
      )
    ]

pub returns : goal.returns
returns c = λ here e.
    let l = c.loop-index in
    let ps = c.args.tokens.now in
    let over : drop l.index ps ≡ [] = drop_all l.index ps c.loop-index-test.false in
    no_clause_begun l.depth l.before here (sym (l.invariant.0 ∙ ap (λ (qs : List Located). to_clause (tokens_of qs) l.depth l.before) over) ∙ e)
