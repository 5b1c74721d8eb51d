use Rattle.fb_system.proofs.lemmas.Common.{◌≡◌, ℕ, ◌+◌, List, ◌++◌, ◌∷◌, [], length, length-append, ap, arith, subst, sym, IsPortRowAt, HasRows, Keeps}
use Rattle.fb_system.specs.declared.port_row.PortRow.{PortRow}
use Rattle.fb_system.proofs.lemmas.rows.InRanges.{keeps_push, rows_push}
use Rattle.fb_system.proofs.ends_of.add_ports.Goals as goal

pub loop-event-preserved : goal.loop-event-preserved
loop-event-preserved c =
    let was = c.loop-event.invariant in
    let sys = c.args.system.now in
    let rows : List PortRow = c.loop-event.rows in
    let row : PortRow = c.port_by_tables.result in
    let first : ℕ = length c.args.rows.now in
    let grown = sym c.in_ok-push.ensures.ok in
    let own : IsPortRowAt sys c.args.instance c.args.is_output c.loop-event.event row = c.port_by_tables.ensures in
    record {
      kept = subst (λ (l : List PortRow). Keeps c.args.rows.now l) grown (keeps_push c.args.rows.now rows row was.kept);
      count = (let long : length (rows ++ row ∷ []) ≡ length rows + 1 = length-append rows (row ∷ []) in omega (arith, ap length c.in_ok-push.ensures.ok, long, was.count));
      added =
          subst (λ (l : List PortRow). HasRows (IsPortRowAt sys c.args.instance c.args.is_output) l first (length l)) grown
          (rows_push (IsPortRowAt sys c.args.instance c.args.is_output) rows row first c.loop-event.event was.count was.added own);
    }
