use Rattle.std.proofs.Common.{◌≡◌, length, arith}
use Rattle.fb_system.proofs.lemmas.rows.PortTables.{no_index, only_index}
use Rattle.fb_system.proofs.system.System.port_by_tables.Goals as goal
use Rattle.fb_system.proofs.system.System.port_by_tables.Goals.{in-empty, in-len1, in_default}

pub placed_source-requires : goal.placed_source-requires
placed_source-requires c =
    let one : length c.indexes_with.result.now ≡ 1 = omega (arith, c.in-len1.len_at_least, c.in-len1.len_below) in
    record { instance = c.requires.instance; variable = (only_index _ _ c.indexes_with.result.now one c.indexes_with.ensures).within 0 0 (omega arith) }

pub returns : goal.returns
returns c =
    record {
      with =
          elim c.if-indexes_with-lt1.branch [
            | in-empty w ↦ rw w.with-is (no_index _ _ c.indexes_with.result.now (omega (arith, w.in-empty.len_below)) c.indexes_with.ensures)
            | in-len1 w ↦
                rw w.with-is
                (let one : length c.indexes_with.result.now ≡ 1 = omega (arith, w.in-len1.len_at_least, w.in-len1.len_below) in
                record { indexes = only_index _ _ c.indexes_with.result.now one c.indexes_with.ensures; comes = w.placed_source.ensures })
            | in_default w ↦ rw w.with-is tt
          ];
      first = record { leads = c.reached.ensures.leads; within = c.reached.ensures.within; more = c.reached.ensures.more; here = c.reached.ensures.here; link = c.reached.ensures.link };
    }
