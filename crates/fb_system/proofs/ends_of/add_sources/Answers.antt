use Rattle.fb_system.proofs.lemmas.Common.{◌≡◌, ℕ, ◌+◌, List, ◌++◌, ◌∷◌, [], length, length-append, ap, arith, subst, sym, system_of, IsSourceRowAt, HasRows, Keeps}
use Rattle.fb_system.specs.declared.ends.SourceRow.{SourceRow}
use Rattle.fb_system.proofs.lemmas.rows.InRanges.{keeps_push, rows_push}
use Rattle.fb_system.proofs.ends_of.add_sources.Goals as goal

pub loop-variable-preserved : goal.loop-variable-preserved
loop-variable-preserved c =
    let was = c.loop-variable.invariant in
    let sys = system_of c.args.system.now in
    let rows : List SourceRow = c.loop-variable.rows in
    let row : SourceRow = record { source = c.source-source.result } in
    let first : ℕ = length c.args.rows.now in
    let grown = sym c.in_ok-push.ensures.ok in
    let own : IsSourceRowAt sys c.args.instance c.args.is_output c.loop-variable.variable row = record { comes = c.source-source.ensures.comes; within = c.source-source.ensures.within } in
    record {
      kept = subst (λ (l : List SourceRow). Keeps c.args.rows.now l) grown (keeps_push c.args.rows.now rows row was.kept);
      count = (let long : length (rows ++ row ∷ []) ≡ length rows + 1 = length-append rows (row ∷ []) in omega (arith, ap length c.in_ok-push.ensures.ok, long, was.count));
      added =
          subst (λ (l : List SourceRow). HasRows (IsSourceRowAt sys c.args.instance c.args.is_output) l first (length l)) grown
          (rows_push (IsSourceRowAt sys c.args.instance c.args.is_output) rows row first c.loop-variable.variable was.count was.added own);
    }
