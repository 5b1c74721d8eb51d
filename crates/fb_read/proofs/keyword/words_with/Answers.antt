use Rattle.std.proofs.Common.{refl}
use Rattle.fb_read.proofs.keyword.words_with.Goals as goal

pub returns-in-65 : goal.returns-in-65
returns-in-65 c = rw c.in-65.is refl

pub returns-in-66 : goal.returns-in-66
returns-in-66 c = rw c.in-66.is refl

pub returns-in-67 : goal.returns-in-67
returns-in-67 c = rw c.in-67.is refl

pub returns-in-68 : goal.returns-in-68
returns-in-68 c = rw c.in-68.is refl

pub returns-in-69 : goal.returns-in-69
returns-in-69 c = rw c.in-69.is refl

pub returns-in-70 : goal.returns-in-70
returns-in-70 c = rw c.in-70.is refl

pub returns-in-73 : goal.returns-in-73
returns-in-73 c = rw c.in-73.is refl

pub returns-in-76 : goal.returns-in-76
returns-in-76 c = rw c.in-76.is refl

pub returns-in-77 : goal.returns-in-77
returns-in-77 c = rw c.in-77.is refl

pub returns-in-78 : goal.returns-in-78
returns-in-78 c = rw c.in-78.is refl

pub returns-in-79 : goal.returns-in-79
returns-in-79 c = rw c.in-79.is refl

pub returns-in-82 : goal.returns-in-82
returns-in-82 c = rw c.in-82.is refl

pub returns-in-83 : goal.returns-in-83
returns-in-83 c = rw c.in-83.is refl

pub returns-in-84 : goal.returns-in-84
returns-in-84 c = rw c.in-84.is refl

pub returns-in-85 : goal.returns-in-85
returns-in-85 c = rw c.in-85.is refl

pub returns-in-86 : goal.returns-in-86
returns-in-86 c = rw c.in-86.is refl

pub returns-in-87 : goal.returns-in-87
returns-in-87 c = rw c.in-87.is refl

pub returns-in-88 : goal.returns-in-88
returns-in-88 c = rw c.in-88.is refl
