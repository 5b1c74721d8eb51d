use Rattle.fb_system.proofs.lemmas.Common.{◌≡◌, ℕ, ◌+◌, List, ◌++◌, ◌∷◌, [], length, length-append, ap, arith, subst, sym, system_of, IsRowAt, HasRows, Keeps}
use Rattle.fb_system.specs.declared.heads.Head.{Head}
use Rattle.fb_system.proofs.lemmas.rows.InRanges.{keeps_push, rows_push}
use Rattle.fb_system.proofs.heads_of.add_rows.Goals as goal

pub loop-event-preserved : goal.loop-event-preserved
loop-event-preserved c =
    let sys = system_of c.args.system.now in
    let was = c.loop-event.invariant in
    let rows : List Head = c.loop-event.rows in
    let row : Head = c.in_ok-row_of.field-0 in
    let first : ℕ = length c.args.rows.now in
    let grown = sym c.in_ok-push.ensures.ok in
    let own : IsRowAt sys c.args.instance c.args.taken c.loop-event.event row = c.in_ok-row_of.ensures in
    record {
      kept = subst (λ (l : List Head). Keeps c.args.rows.now l) grown (keeps_push c.args.rows.now rows row was.kept);
      count = (let long : length (rows ++ row ∷ []) ≡ length rows + 1 = length-append rows (row ∷ []) in omega (arith, ap length c.in_ok-push.ensures.ok, long, was.count));
      added =
          subst (λ (l : List Head). HasRows (IsRowAt sys c.args.instance c.args.taken) l first (length l)) grown
          (rows_push (IsRowAt sys c.args.instance c.args.taken) rows row first c.loop-event.event was.count was.added own);
    }
