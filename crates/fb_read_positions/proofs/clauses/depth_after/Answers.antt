use Rattle.fb_types.proofs.Common.{◌≡◌, ◌+◌, ◌-◌, suc, true, sym, ◌∙◌, arith, if◌then◌else◌, [], ◌∷◌}
use Rattle.fb_read_positions.specs.Walks.{begins_clauses, ends_clauses}
use Rattle.fb_read_positions.proofs.clauses.depth_after.Goals as goal

pub returns-then-begins_clauses : goal.returns-then-begins_clauses
returns-then-begins_clauses c =
    let d = c.args.depth in
    let t = c.args.token.now in
    let one : d + 1 ≡ suc d = omega arith in
    let goes : true ≡ begins_clauses (t ∷ []) = sym c.if-begins_clauses.true ∙ c.begins_clauses.ensures in
    one ∙ (λ i. if goes i then suc d else (if ends_clauses (t ∷ []) then d - 1 else d))
