use Rattle.fb_types.specs.Headline.{system_of}
use Rattle.fb_system.proofs.lemmas.rows.KeptEnds.{source_read}
use Rattle.fb_system.proofs.lemmas.rows.KeptRows.{sources_seen}
use Rattle.fb_system.proofs.lemmas.inputs.TablesOfInputs.{comes_seen, variable_there}
use Rattle.fb_system.proofs.lemmas.inputs.TablesOfInputs as seen
use Rattle.fb_system.proofs.system.System.source.Goals as goal

pub returns-in-Some-clause-comes : goal.returns-in-Some-clause-comes
returns-in-Some-clause-comes c =
    (source_read (system_of c.args.self.now) c.args.to _ _ c.in-Some.is (c.source.ensures _ (sources_seen _ _ _ c.deref.ensures c.self.view_is c.self.invariant))).comes

pub returns-in-Some-clause-within : goal.returns-in-Some-clause-within
returns-in-Some-clause-within c =
    (source_read (system_of c.args.self.now) c.args.to _ _ c.in-Some.is (c.source.ensures _ (sources_seen _ _ _ c.deref.ensures c.self.view_is c.self.invariant))).within

pub source-requires : goal.source-requires
source-requires c = (system_of c.args.self.now, sources_seen _ _ _ c.deref.ensures c.self.view_is c.self.invariant)

pub source-requires-in-None : goal.source-requires-in-None
source-requires-in-None c = variable_there _ _ _ _ c.deref-in-None.ensures c.self.view_is c.requires

pub returns-in-None-clause-comes : goal.returns-in-None-clause-comes
returns-in-None-clause-comes c = comes_seen _ _ _ _ _ c.deref-in-None.ensures c.self.view_is c.source-in-None.ensures.comes

pub returns-in-None-clause-within : goal.returns-in-None-clause-within
returns-in-None-clause-within c = seen.sources_seen _ _ _ _ c.deref-in-None.ensures c.self.view_is c.source-in-None.ensures.within
