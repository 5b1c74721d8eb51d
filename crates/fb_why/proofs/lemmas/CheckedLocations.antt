-- The locations that the check lists, as those of a refusal.
use Rattle.std.proofs.Common.{Vec, not}
use Rattle.std.proofs.lemmas.List.Elements.{All-filter}
use Rattle.fb_types.proofs.Common.{Result, Ok, Err, IfOk, All-map, ◌≡◌, ◌≢◌, ℕ, ◌<◌, ◌≤◌, List, [], ◌∷◌, ◌∙◌, ap, length, map, refl, sym, subst, ⊎_elim, arith, All, eqb, if◌then◌else◌, cases_lt, All-cons, All-nil, inputs, NameTwice}
use Rattle.fb_types.specs.declared.deploy.Plan.{Plan}
use Rattle.fb_types.specs.declared.deploy.Stimulus.{Stimulus}
use Rattle.fb_types.specs.declared.library.Library.{Library}
use Rattle.fb_types.specs.Accepted.{IsAccepted, IsLeastFault}
use Rattle.fb_check_names.specs.declared.twice.GivenTwice.{GivenTwice}
use Rattle.fb_check_names.proofs.lemmas.Listing.{none_said}
use Rattle.fb_check_names.specs.Twice.{IsTwiceAt}
use Rattle.fb_check_names.specs.TwiceLists.{twice_all}
use Rattle.fb_check_names.proofs.lemmas.twice.AllTwice.{each_twice, none_twice}
use Rattle.fb_check_names.proofs.lemmas.numbers.Applying.{twice_applies}
use Rattle.fb_check_names.specs.declared.location.TwoSourcesAt.{TwoSourcesAt}
use Rattle.fb_check_names.specs.declared.location.KindWrongAt.{KindWrongAt}
use Rattle.fb_check_names.specs.declared.location.OutOfRangeAt.{OutOfRangeAt}
use Rattle.fb_check_names.specs.declared.location.UnknownName.{UnknownName}
use Rattle.fb_check_names.specs.declared.location.NoLinkAt.{NoLinkAt}
use Rattle.fb_check_names.specs.declared.location.NotMappedAt.{NotMappedAt}
use Rattle.fb_check.specs.types.Unknowns.{unknown_all}
use Rattle.fb_check.proofs.lemmas.types.UnknownWitnesses.{each_unknown, none_unknown}
use Rattle.fb_check.specs.types.KindWrongLists.{kinds_wrong_all}
use Rattle.fb_check.proofs.lemmas.types.KindWitnesses.{each_kind_wrong, none_kind_wrong}
use Rattle.fb_check.specs.networks.Links.{no_link_all}
use Rattle.fb_check.specs.networks.OutOfRange.{out_of_range_all}
use Rattle.fb_check.specs.networks.Sources.{two_sources_all}
use Rattle.fb_check.specs.networks.NotMapped.{not_mapped_all}
use Rattle.fb_check.specs.networks.NoEvent.{no_event_all}
use Rattle.fb_check.proofs.lemmas.networks.Ranges.{each_out_of_range, none_out_of_range}
use Rattle.fb_check.proofs.lemmas.networks.Mapped.{each_not_mapped, none_not_mapped}
use Rattle.fb_check.proofs.lemmas.networks.Targets.{each_two_sources, none_two_sources}
use Rattle.fb_check.proofs.lemmas.networks.NoLink.{each_no_link, none_no_link}
use Rattle.fb_check.proofs.lemmas.networks.NoEvent.{each_no_event, none_no_event}
use Rattle.fb_check.specs.Faults.{number_of}
use Rattle.fb_check.specs.Refusals as refusal
use Rattle.fb_check.specs.Refusals.{IsRefusal}
use Rattle.fb_check.specs.declared.location.StimulusLocation.{StimulusLocation}
use Rattle.fb_check.specs.declared.refusal.Refusal.{Refusal}
use Rattle.fb_check.proofs.lemmas.Verdict.{first, least_20, passes_21, passes_22, passes_23, passes_24, passes_26, passes_27, passes_28}
use Rattle.fb_why.specs.Findings.{AppliesAt, AppliesNowhere}
use Rattle.fb_why.specs.Listings.{AreAll, AreLocations}
use Rattle.fb_check.specs.declared.fault.Fault.{Fault}
use Rattle.fb_check.specs.declared.fault.Fault.TheVariants as check
use Rattle.fb_check.specs.declared.location.Location.{Location}
use Rattle.fb_check.specs.declared.location.Location.TheVariants as at
use Rattle.fb_check_names.proofs.lemmas.twice.Repeating.{none_mapped}
use Rattle.fb_why.specs.Roots.{follows, or_all, reported, roots_of, without_following}
use Rattle.fb_why.proofs.lemmas.FindingsOfNumbers.{list_locations}

-- ---- Another number

-- another number is the first that applies
other_least : (m n : ℕ) (lib : Library) (plan : Plan) (stimuli : List Stimulus) → IsLeastFault m lib plan stimuli → m ≢ n → ¬ (IsLeastFault n lib plan stimuli)
other_least m n lib plan stimuli a apart b =
    ⊎_elim (λ (l : m < n). b.least m l a.applies)
    (λ (h : n ≤ m). ⊎_elim (λ (l : n < m). a.least n l b.applies) (λ (g : m ≤ n). apart (omega arith)) (cases_lt n m))
    (cases_lt m n)

nothing :
    (f : Fault) (lib : Library) (plan : Plan) (stimuli : List Stimulus) (ss : List Location) → ss ≡ [] → AppliesNowhere f lib plan stimuli → AreAll f lib plan stimuli [] → AreLocations f lib plan stimuli ss
nothing f lib plan stimuli ss e nowhere all = record {
  each = subst (λ (ss : List Location). All (AppliesAt f lib plan stimuli) ss) (sym e) (All-nil (AppliesAt f lib plan stimuli));
  none = λ _. nowhere;
  all = subst (λ (ss : List Location). AreAll f lib plan stimuli ss) (sym e) all;
}

-- if it is not the first that applies, nothing is listed
absent :
    (f : Fault) (lib : Library) (plan : Plan) (stimuli : List Stimulus) (ss : List Location) → ¬ (IsLeastFault (number_of f) lib plan stimuli) → ss ≡ [] → AreLocations f lib plan stimuli ss
absent check.NameTwice lib plan stimuli ss other e =
    let once : ¬ (NameTwice lib plan) = λ t. other (least_20 lib plan stimuli (first lib plan stimuli) t) in
    nothing check.NameTwice lib plan stimuli ss e once
    (ap (map (λ (p : GivenTwice). at.NameTwice p)) (sym (none_said (IsTwiceAt lib plan) (twice_all lib plan) (λ p h. once (twice_applies lib plan p h)) (each_twice lib plan))))
absent check.NameUnknown lib plan stimuli ss other e = nothing check.NameUnknown lib plan stimuli ss e other (λ least. absurd (other least))
absent check.KindWrong lib plan stimuli ss other e = nothing check.KindWrong lib plan stimuli ss e other (λ least. absurd (other least))
absent check.OutOfRange lib plan stimuli ss other e = nothing check.OutOfRange lib plan stimuli ss e other (λ least. absurd (other least))
absent check.TwoSources lib plan stimuli ss other e = nothing check.TwoSources lib plan stimuli ss e other (λ least. absurd (other least))
absent check.TooHigh lib plan stimuli ss other e = nothing check.TooHigh lib plan stimuli ss e other (omega arith)
absent check.NotMapped lib plan stimuli ss other e = nothing check.NotMapped lib plan stimuli ss e other (λ least. absurd (other least))
absent check.NoLink lib plan stimuli ss other e = nothing check.NoLink lib plan stimuli ss e other (λ least. absurd (other least))
absent check.NoEvent lib plan stimuli ss other e = nothing check.NoEvent lib plan stimuli ss e other (λ least. absurd (other least))
absent check.BadStimulus lib plan stimuli ss other e = nothing check.BadStimulus lib plan stimuli ss e other (λ least. absurd (other least))
absent check.OverLimit lib plan stimuli ss other e = nothing check.OverLimit lib plan stimuli ss e other (omega arith)

-- ---- A refusal

-- one location
one :
    (f : Fault) (lib : Library) (plan : Plan) (stimuli : List Stimulus) (s : Location) (ss : List Location) → ss ≡ s ∷ [] → AppliesAt f lib plan stimuli s → AreAll f lib plan stimuli ss → AreLocations f lib plan stimuli ss
one f lib plan stimuli s ss e applies all =
    let P : Location → Type 0 = AppliesAt f lib plan stimuli in
    record {
      each = subst (λ (ss : List Location). All P ss) (sym e) (All-cons P s [] applies (All-nil P));
      none = λ h. absurd (let differ : s ∷ [] ≡ [] = sym e ∙ h in cc);
      all = all;
    }

-- what holds of each location holds of each that is reported
each_root : (P : Location → Type 0) (kept ss : List Location) → All P kept → All P ss → All P (or_all kept ss)
each_root P [] ss some all = all
each_root P (l ∷ ls) ss some all = some

-- none is reported only if there is none
none_root : (kept ss : List Location) → or_all kept ss ≡ [] → ss ≡ []
none_root [] ss h = h
none_root (l ∷ ls) ss h = absurd (let differ : l ∷ ls ≡ [] = h in cc)

-- the locations of a refusal that are reported
own :
    (f : Fault) (lib : Library) (plan : Plan) (stimuli : List Stimulus) (ss : List Location) → refusal.AreAll lib plan stimuli f ss → AreLocations f lib plan stimuli (reported f lib ss)
own check.NameTwice lib plan stimuli ss all =
    list_locations check.NameTwice lib plan stimuli (λ (p : GivenTwice). at.NameTwice p) (twice_all lib plan) ss all (each_twice lib plan) (none_twice lib plan) refl
own check.NameUnknown lib plan stimuli ss all =
    let P : Location → Type 0 = AppliesAt check.NameUnknown lib plan stimuli in
    let at_name : UnknownName → Location = λ p. at.NameUnknown p in
    let each : All P ss = subst (λ (ls : List Location). All P ls) (sym all) (All-map P at_name (unknown_all lib plan) (each_unknown lib plan)) in
    let kept = without_following lib ss in
    record {
      each = each_root P kept ss (All-filter (λ l. not (follows lib l)) P ss each) each;
      none = λ h least. passes_21 lib plan stimuli least.least (none_unknown lib plan (none_mapped at_name (unknown_all lib plan) (sym all ∙ none_root kept ss h))) 21 (omega arith) least.applies;
      all = λ _. ap (λ (ls : List Location). roots_of lib ls) all;
    }
own check.KindWrong lib plan stimuli ss all =
    list_locations check.KindWrong lib plan stimuli (λ (p : KindWrongAt). at.KindWrong p) (kinds_wrong_all lib) ss all (each_kind_wrong lib)
    (λ h least. passes_22 lib plan stimuli least.least (none_kind_wrong lib h) 22 (omega arith) least.applies) (λ _. refl)
own check.OutOfRange lib plan stimuli ss all =
    list_locations check.OutOfRange lib plan stimuli (λ (p : OutOfRangeAt). at.OutOfRange p) (out_of_range_all lib) ss all (each_out_of_range lib)
    (λ h least. passes_23 lib plan stimuli least.least (none_out_of_range lib h) 23 (omega arith) least.applies) (λ _. refl)
own check.TwoSources lib plan stimuli ss all =
    list_locations check.TwoSources lib plan stimuli (λ (p : TwoSourcesAt). at.TwoSources p) (two_sources_all lib) ss all (each_two_sources lib)
    (λ h least. passes_24 lib plan stimuli least.least (none_two_sources lib h) 24 (omega arith) least.applies) (λ _. refl)
own check.TooHigh lib plan stimuli ss all =
    one check.TooHigh lib plan stimuli (at.TooHigh all.0) ss all.1 all.2 (let size : length ss ≡ 1 = ap (λ (ss : List Location). length ss) all.1 in omega (arith, size))
own check.NotMapped lib plan stimuli ss all =
    list_locations check.NotMapped lib plan stimuli (λ (p : NotMappedAt). at.NotMapped p) (not_mapped_all lib plan) ss all (each_not_mapped lib plan)
    (λ h least. passes_26 lib plan stimuli least.least (none_not_mapped lib plan h) 26 (omega arith) least.applies) (λ _. refl)
own check.NoLink lib plan stimuli ss all =
    list_locations check.NoLink lib plan stimuli (λ (p : NoLinkAt). at.NoLink p) (no_link_all lib plan) ss all (each_no_link lib plan)
    (λ h least. passes_27 lib plan stimuli least.least (none_no_link lib plan h) 27 (omega arith) least.applies) (λ _. refl)
own check.NoEvent lib plan stimuli ss all =
    list_locations check.NoEvent lib plan stimuli (λ (p : ℕ). at.NoEvent p) (no_event_all lib plan) ss all (each_no_event lib plan)
    (λ h least. passes_28 lib plan stimuli least.least (none_no_event lib plan h) 28 (omega arith) least.applies) (λ _. refl)
own check.BadStimulus lib plan stimuli ss all =
    list_locations check.BadStimulus lib plan stimuli (λ (p : StimulusLocation). at.BadStimulus p) all.0 ss all.1 all.3
    (λ h. absurd (all.2 h)) (λ _. (all.0, refl, all.2, all.3, all.4))
own check.OverLimit lib plan stimuli ss all =
    one check.OverLimit lib plan stimuli (at.OverLimit all.0) ss all.1 all.2 (let size : length ss ≡ 1 = ap (λ (ss : List Location). length ss) all.1 in omega (arith, size))

-- the fault with a number
by_number : ℕ → Fault
by_number n =
    if eqb n 20 then check.NameTwice else
    if eqb n 21 then check.NameUnknown else
    if eqb n 22 then check.KindWrong else
    if eqb n 23 then check.OutOfRange else
    if eqb n 24 then check.TwoSources else
    if eqb n 25 then check.TooHigh else
    if eqb n 26 then check.NotMapped else
    if eqb n 27 then check.NoLink else
    if eqb n 28 then check.NoEvent else
    if eqb n 29 then check.BadStimulus else
    check.OverLimit

known : (f : Fault) → by_number (number_of f) ≡ f
unfolding by_number
known check.NameTwice = refl
known check.NameUnknown = refl
known check.KindWrong = refl
known check.OutOfRange = refl
known check.TwoSources = refl
known check.TooHigh = refl
known check.NotMapped = refl
known check.NoLink = refl
known check.NoEvent = refl
known check.BadStimulus = refl
known check.OverLimit = refl

refused_list :
    (f : Fault) (lib : Library) (plan : Plan) (stimuli : List Stimulus) (r : Refusal) (ss : List Location) → IsRefusal (inputs lib plan stimuli) r → number_of r.fault ≡ number_of f
    → ss ≡ reported f lib r.locations.items → AreLocations f lib plan stimuli ss
refused_list f lib plan stimuli r ss is same found =
    let said : AreLocations f lib plan stimuli (reported f lib r.locations.items) =
    subst (λ (g : Fault). AreLocations g lib plan stimuli (reported g lib r.locations.items)) (sym (known r.fault) ∙ ap by_number same ∙ known f)
    (own r.fault lib plan stimuli r.locations.items is.all) in
    subst (λ (ls : List Location). AreLocations f lib plan stimuli ls) (sym found) said

pub refused_answer :
    {E A : Type 0} (f : Fault) (lib : Library) (plan : Plan) (stimuli : List Stimulus) (r : Refusal) (all : List Location) (made : Result (Vec Location A) E) → IsRefusal (inputs lib plan stimuli) r
    → number_of r.fault ≡ number_of f → all ≡ r.locations.items → IfOk made (λ v. v.items ≡ reported f lib all) → IfOk made (λ v. AreLocations f lib plan stimuli v.items)
refused_answer f lib plan stimuli r all (Err e) is same these found = tt
refused_answer f lib plan stimuli r all (Ok v) is same these found =
    refused_list f lib plan stimuli r v.items is same (found ∙ ap (λ (ls : List Location). reported f lib ls) these)

pub other_answer :
    (f : Fault) (lib : Library) (plan : Plan) (stimuli : List Stimulus) (r : Refusal) (ss : List Location) → IsRefusal (inputs lib plan stimuli) r → number_of r.fault ≢ number_of f → ss ≡ []
    → AreLocations f lib plan stimuli ss
other_answer f lib plan stimuli r ss is differs e = absent f lib plan stimuli ss (other_least (number_of r.fault) (number_of f) lib plan stimuli is.least differs) e

pub accepted_answer :
    (f : Fault) (lib : Library) (plan : Plan) (stimuli : List Stimulus) (ss : List Location) → IsAccepted lib plan stimuli → ss ≡ [] → AreLocations f lib plan stimuli ss
accepted_answer f lib plan stimuli ss accepted e = absent f lib plan stimuli ss (λ least. accepted (number_of f) least.applies) e
