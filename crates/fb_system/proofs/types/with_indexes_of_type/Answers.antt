use Rattle.fb_system.proofs.lemmas.types.WithIndexesLaws.{declared_indexes}
use Rattle.fb_system.proofs.types.with_indexes_of_type.Goals as goal

pub returns-in-Declared : goal.returns-in-Declared
returns-in-Declared c = λ k known.
    declared_indexes c.args.tables.now.netlist _ _ _ k c.in-Declared.is (λ t there. c.of_block.ensures _ t c.requires.tables.interfaces there) known
