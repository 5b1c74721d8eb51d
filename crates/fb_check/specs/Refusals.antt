-- Why inputs are not accepted (this project's profile).
use Rattle.std.specs.Prelude.{◌≡◌, ◌≢◌, ℕ, List, [], ◌∷◌, All, Option, Some, None, map}
use Rattle.fb_types.specs.Accepted.{IsLeastFault}
use Rattle.fb_types.specs.Headline.{Inputs, inputs}
use Rattle.fb_types.specs.declared.library.Library.{Library}
use Rattle.fb_types.specs.declared.deploy.Plan.{Plan}
use Rattle.fb_types.specs.declared.deploy.Stimulus.{Stimulus}
use Rattle.fb_check_names.specs.TwiceLists.{twice_all}
use Rattle.fb_check.specs.types.KindWrongLists.{kinds_wrong_all}
use Rattle.fb_check.specs.types.Unknowns.{unknown_all}
use Rattle.fb_check.specs.networks.Heights.{IsTooHighAt}
use Rattle.fb_check.specs.networks.Links.{no_link_all}
use Rattle.fb_check.specs.networks.OutOfRange.{out_of_range_all}
use Rattle.fb_check.specs.networks.Sources.{two_sources_all}
use Rattle.fb_check.specs.networks.NotMapped.{not_mapped_all}
use Rattle.fb_check.specs.networks.NoEvent.{no_event_all}
use Rattle.fb_check.specs.Faults as fault
use Rattle.fb_check.specs.Stimuli.{AreAllBad, IsBadAt, IsOver}
use Rattle.fb_check.specs.declared.case.Case.{Case}
use Rattle.fb_check.specs.declared.error.CheckError.{CheckError}
use Rattle.fb_check.specs.declared.error.CheckError.TheVariants.{Memory, Refused}
use Rattle.fb_check.specs.declared.fault.Fault.{Fault}
use Rattle.fb_check.specs.declared.fault.Fault.TheVariants as of
use Rattle.fb_check.specs.declared.refusal.Refusal.{Refusal}
use Rattle.fb_check.specs.declared.refusal.CheckEnd.{CheckEnd}
use Rattle.fb_check.specs.declared.refusal.CheckEnd.TheVariants as end
use Rattle.fb_check.specs.declared.location.Limit.{Limit}
use Rattle.fb_check.specs.declared.location.Location.{Location}
use Rattle.fb_check.specs.declared.location.Location.TheVariants as at
use Rattle.fb_check.specs.declared.location.StimulusLocation.{StimulusLocation}
use Rattle.fb_check_names.specs.declared.location.TooHighAt.{TooHighAt}

-- the number of a refusal
abbrev pub number_of : CheckError → Option ℕ
number_of Memory = None
number_of (Refused f) = Some (fault.number_of f)

-- A refusal has the least number that applies.
abbrev pub IsRightly : Inputs → CheckError → Type 0
IsRightly i Memory = Unit {0}
IsRightly i (Refused f) = IsLeastFault (fault.number_of f) i.library i.plan i.stimuli

-- the inputs that are judged
abbrev pub inputs_in : Case → Inputs
inputs_in c = inputs c.library.now c.plan.now c.stimuli.now

-- ---- With locations

-- The one location of a composite type that is too high.
abbrev pub IsOneTooHigh : Library → List Location → Type 0
IsOneTooHigh lib locations = (d : TooHighAt) × (locations ≡ at.TooHigh d ∷ []) × IsTooHighAt lib d

-- Stimuli that the application can't take: each that it can't take is among them.
abbrev pub AreAllStimuli : Library → List Stimulus → List Location → Type 0
AreAllStimuli lib stimuli locations =
    (found : List StimulusLocation) × (locations ≡ map (λ p. at.BadStimulus p) found) × (found ≢ []) × All (IsBadAt lib stimuli) found × AreAllBad lib stimuli found

-- The one limit that is exceeded.
abbrev pub IsOneOver : Library → List Stimulus → List Location → Type 0
IsOneOver lib stimuli locations = (l : Limit) × (locations ≡ at.OverLimit l ∷ []) × IsOver lib stimuli l

-- these are all locations at which the fault applies; of types that are too high, and of limits, it is one
abbrev pub AreAll : Library → Plan → List Stimulus → Fault → List Location → Type 0
AreAll lib plan stimuli of.NameTwice locations = locations ≡ map (λ p. at.NameTwice p) (twice_all lib plan)
AreAll lib plan stimuli of.NameUnknown locations = locations ≡ map (λ p. at.NameUnknown p) (unknown_all lib plan)
AreAll lib plan stimuli of.KindWrong locations = locations ≡ map (λ p. at.KindWrong p) (kinds_wrong_all lib)
AreAll lib plan stimuli of.OutOfRange locations = locations ≡ map (λ p. at.OutOfRange p) (out_of_range_all lib)
AreAll lib plan stimuli of.TwoSources locations = locations ≡ map (λ p. at.TwoSources p) (two_sources_all lib)
AreAll lib plan stimuli of.TooHigh locations = IsOneTooHigh lib locations
AreAll lib plan stimuli of.NotMapped locations = locations ≡ map (λ p. at.NotMapped p) (not_mapped_all lib plan)
AreAll lib plan stimuli of.NoLink locations = locations ≡ map (λ p. at.NoLink p) (no_link_all lib plan)
AreAll lib plan stimuli of.NoEvent locations = locations ≡ map (λ p. at.NoEvent p) (no_event_all lib plan)
AreAll lib plan stimuli of.BadStimulus locations = AreAllStimuli lib stimuli locations
AreAll lib plan stimuli of.OverLimit locations = IsOneOver lib stimuli locations

-- A refusal has the least number that applies, and all locations at which it does.
pub record IsRefusal (i : Inputs) (r : Refusal) : Type 0 where
  pub least : IsLeastFault (fault.number_of r.fault) i.library i.plan i.stimuli
  pub all : AreAll i.library i.plan i.stimuli r.fault r.locations.items

-- the error of a check that ends so
abbrev pub error_of : CheckEnd → CheckError
error_of end.Memory = Memory
error_of (end.Refused r) = Refused r.fault

-- A check ends since memory runs out, or with such a refusal.
abbrev pub IsCheckEnd : Inputs → CheckEnd → Type 0
IsCheckEnd i end.Memory = Unit {0}
IsCheckEnd i (end.Refused r) = IsRefusal i r
