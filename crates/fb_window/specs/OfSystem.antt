-- What contracts say of the resources of a system: its value is the accepted inputs, and each of these is of the flat system.
use Rattle.std.specs.Prelude.{ℕ, List}
use Rattle.fb_types.specs.Cores.{Core}
use Rattle.fb_types.specs.Headline.{Inputs, system_of}
use Rattle.fb_types.specs.Parts.{machine}
use Rattle.fb_types.specs.declared.run.Message.{Message}
use Rattle.fb_laws.specs.Cuts as cuts
use Rattle.fb_resource.specs.declared.resource.Resource.{Resource}
use Rattle.fb_window.specs.Bounding as bounding
use Rattle.fb_window.specs.Mails as mails

-- a link allows a resource the ticks up to the least at which a message may arrive on it, where no event comes before `least`
abbrev pub LinkAllows : Inputs → List Resource → (least resource : ℕ) → (link tick : ℕ) → Type 0
LinkAllows i = cuts.LinkAllows (λ (x : Resource). x.clock) (λ (x : Resource). x.stopped) (system_of i)

abbrev pub AreGreatest : (i : Inputs) → (limit horizon cap : ℕ) → Core (machine (system_of i) limit) → List ℕ → Type 0
AreGreatest i = bounding.AreGreatest (system_of i)

abbrev pub ArePosted : Inputs → (all : List Message) → (before after : List Resource) → Type 0
ArePosted i = mails.ArePosted (system_of i)
