use Rattle.std.proofs.Common.{refl}
use Rattle.fb_read.proofs.front.sign_of.Goals as goal

pub returns-in-59-clause-value : goal.returns-in-59-clause-value
returns-in-59-clause-value c = rw c.in-59.is refl

pub returns-in-44-clause-value : goal.returns-in-44-clause-value
returns-in-44-clause-value c = rw c.in-44.is refl

pub returns-in-40-clause-value : goal.returns-in-40-clause-value
returns-in-40-clause-value c = rw c.in-40.is refl

pub returns-in-41-clause-value : goal.returns-in-41-clause-value
returns-in-41-clause-value c = rw c.in-41.is refl

pub returns-in-91-clause-value : goal.returns-in-91-clause-value
returns-in-91-clause-value c = rw c.in-91.is refl

pub returns-in-93-clause-value : goal.returns-in-93-clause-value
returns-in-93-clause-value c = rw c.in-93.is refl

pub returns-in-61-clause-value : goal.returns-in-61-clause-value
returns-in-61-clause-value c = rw c.in-61.is refl

pub returns-in-43-clause-value : goal.returns-in-43-clause-value
returns-in-43-clause-value c = rw c.in-43.is refl

pub returns-in-42-clause-value : goal.returns-in-42-clause-value
returns-in-42-clause-value c = rw c.in-42.is refl

pub returns-in-47-clause-value : goal.returns-in-47-clause-value
returns-in-47-clause-value c = rw c.in-47.is refl

pub returns-in-38-clause-value : goal.returns-in-38-clause-value
returns-in-38-clause-value c = rw c.in-38.is refl
