use Rattle.std.proofs.Common.{sym}
use Rattle.fb_check_names.proofs.lemmas.numbers.Lookups.{block_indexes}
use Rattle.fb_check_names.proofs.types.Types.port_of.Goals as goal

pub index_in-requires : goal.index_in-requires
index_in-requires c =
    block_indexes _ _ _ _ _ _ _ c.requires.has (sym c.in_ok-block-in-Declared.ensures.value) c.deref.ensures.value
    c.in_ok-indexes-in-Declared.ensures.lookup.3.0 c.in_ok-indexes-in-Declared.ensures.lookup.1 c.ports.ensures
