use Rattle.fb_inspect.proofs.covering.cover.Goals as goal

pub returns-clause-covered : goal.returns-clause-covered
returns-clause-covered g c = c.inspect_and_mark.ensures.covered

pub returns-clause-refused : goal.returns-clause-refused
returns-clause-refused g c = c.inspect_and_mark.ensures.refused

pub returns-clause-names : goal.returns-clause-names
returns-clause-names g c = c.inspect_and_mark.ensures.names

pub returns-clause-paths : goal.returns-clause-paths
returns-clause-paths g c = c.inspect_and_mark.ensures.paths

pub returns-clause-found : goal.returns-clause-found
returns-clause-found g c = c.inspect_and_mark.ensures.found

pub returns-clause-uncut : goal.returns-clause-uncut
returns-clause-uncut g c = c.inspect_and_mark.ensures.uncut
