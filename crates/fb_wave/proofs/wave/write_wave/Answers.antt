use Rattle.fb_wave.proofs.wave.write_wave.Goals as goal

pub returns-clause-whole : goal.returns-clause-whole
returns-clause-whole g c = c.write_wave_with.ensures.whole

pub returns-clause-part : goal.returns-clause-part
returns-clause-part g c = c.write_wave_with.ensures.part

pub returns-clause-refused : goal.returns-clause-refused
returns-clause-refused g c = c.write_wave_with.ensures.refused

pub returns-clause-before : goal.returns-clause-before
returns-clause-before g c = c.write_wave_with.ensures.before
