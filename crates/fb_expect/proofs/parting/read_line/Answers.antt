use Rattle.fb_expect.proofs.parting.read_line.Goals as goal

pub returns-in-Err-clause-fault : goal.returns-in-Err-clause-fault
returns-in-Err-clause-fault g c = (c.in-Err.fault, c.part_fault.ensures)
