-- The numbers of the refusals (this project's profile).
use Rattle.std.specs.Prelude.{ℕ}
use Rattle.fb_check.specs.declared.fault.Fault.{Fault}
use Rattle.fb_check.specs.declared.fault.Fault.TheVariants.{NameTwice, NameUnknown, KindWrong, OutOfRange, TwoSources, TooHigh, NotMapped, NoLink, NoEvent, BadStimulus, OverLimit}

abbrev pub number_of : Fault → ℕ
number_of NameTwice = 20
number_of NameUnknown = 21
number_of KindWrong = 22
number_of OutOfRange = 23
number_of TwoSources = 24
number_of TooHigh = 25
number_of NotMapped = 26
number_of NoLink = 27
number_of NoEvent = 28
number_of BadStimulus = 29
number_of OverLimit = 30
