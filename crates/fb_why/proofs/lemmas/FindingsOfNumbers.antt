-- The findings of a number, from the locations of a library and a plan to the bytes that were read.
use Rattle.fb_types.proofs.Common.{◌≡◌, ℕ, suc, false, List, [], ◌∷◌, map, take, Option, Some, None, Result, Ok, Err, refl, sym, ◌∙◌, ap, subst, inl, inr, All, IfOk, IfSome, MatchOption, All-cons, All-map, All-nil, All-weaker}
use Rattle.fb_types.specs.declared.deploy.Plan.{Plan}
use Rattle.fb_types.specs.declared.deploy.Stimulus.{Stimulus}
use Rattle.fb_types.specs.declared.library.Library.{Library}
use Rattle.std.specs.Option.{option_to_list}
use Rattle.std.proofs.lemmas.List.Elements.{All-take}
use Rattle.fb_why.specs.Causes.{IsCause}
use Rattle.fb_why.specs.Findings.{AppliesAt, AppliesNowhere, Finds, FindsOf, IsSilent, IsSilentOf, IsUnread}
use Rattle.fb_why.specs.Listings.{AreAll, AreFlaws, AreFound, AreFoundBy, AreLocations, AreOne, locations_of, most_findings}
use Rattle.fb_why.specs.Places.{IsPlacedFinding}
use Rattle.fb_why.specs.declared.cause.Cause.{Cause}
use Rattle.fb_why.specs.declared.cause.Cause.TheVariants as cause
use Rattle.fb_check.specs.declared.fault.Fault.{Fault}
use Rattle.fb_why.specs.declared.listing.Findings.{Findings}
use Rattle.fb_why.specs.declared.place.PlacedFinding.{PlacedFinding}
use Rattle.fb_check.specs.declared.location.Location.{Location}
use Rattle.fb_why.specs.declared.location.FindingLocation.{FindingLocation}
use Rattle.fb_why.specs.declared.location.FindingLocation.TheVariants as found
use Rattle.fb_check_names.proofs.lemmas.twice.Repeating.{none_mapped}

-- ---- Locations of inputs

-- locations of one kind are those of a refusal
pub list_locations :
    {T : Type 0} (f : Fault) (lib : Library) (plan : Plan) (stimuli : List Stimulus) (at : T → Location) (xs : List T) (ls : List Location) → ls ≡ map at xs
    → All (λ p. AppliesAt f lib plan stimuli (at p)) xs → (xs ≡ [] → AppliesNowhere f lib plan stimuli) → AreAll f lib plan stimuli (map at xs)
    → AreLocations f lib plan stimuli ls
list_locations f lib plan stimuli at xs ls e each none all = record {
  each = subst (λ (ls : List Location). All (AppliesAt f lib plan stimuli) ls) (sym e) (All-map (AppliesAt f lib plan stimuli) at xs each);
  none = λ h. none (none_mapped at xs (sym e ∙ h));
  all = subst (λ (ls : List Location). AreAll f lib plan stimuli ls) (sym e) all;
}

-- ---- What is read

-- nothing is shown of what can't be read
pub unread_inputs :
    {E : Type 0} (f : Fault) (text : List ℕ) (bytes rows : Option (List ℕ)) (made : Result Findings E) → IfOk made (λ s. s.shown.items ≡ []) → IfOk made (λ s. s.more ≡ false)
    → IsUnread f text bytes rows → IfOk made (AreFlaws f text bytes rows)
unread_inputs f text bytes rows (Err e) nothing no_more why = tt
unread_inputs f text bytes rows (Ok s) nothing no_more why = inr (record { nothing = nothing; no_more = no_more; unread = why })

pub nothing_placed : {E : Type 0} (text : List ℕ) (made : Result Findings E) → IfOk made (λ s. s.shown.items ≡ []) → IfOk made (λ s. All (IsPlacedFinding text) s.shown.items)
nothing_placed text (Err e) nothing = tt
nothing_placed text (Ok s) nothing = subst (λ (rs : List PlacedFinding). All (IsPlacedFinding text) rs) (sym nothing) (All-nil (IsPlacedFinding text))

-- ---- One finding at most

pub once_found :
    {E : Type 0} (c : Cause) (n : ℕ) (text : List ℕ) (plan rows : Option (List ℕ)) (o : Option PlacedFinding) (made : Result Findings E)
    → MatchOption o (IsSilentOf c n text plan rows) (λ r. FindsOf c n text plan rows r.finding.location) → IfOk made (λ f. f.shown.items ≡ option_to_list o) → IfOk made (λ f. f.more ≡ false)
    → IfOk made (AreOne c n text plan rows)
once_found c n text plan rows o (Err e) finds is more = tt
once_found c n text plan rows o (Ok f) finds is more = record { found = o; shown = is; no_more = more; finds = finds }

one_placed : (text : List ℕ) (o : Option PlacedFinding) → IfSome o (IsPlacedFinding text) → All (IsPlacedFinding text) (option_to_list o)
one_placed text None h = All-nil (IsPlacedFinding text)
one_placed text (Some r) h = All-cons (IsPlacedFinding text) r [] h (All-nil (IsPlacedFinding text))

pub once_placed :
    {E : Type 0} (text : List ℕ) (o : Option PlacedFinding) (made : Result Findings E) → IfSome o (IsPlacedFinding text) → IfOk made (λ f. f.shown.items ≡ option_to_list o)
    → IfOk made (λ f. All (IsPlacedFinding text) f.shown.items)
once_placed text o (Err e) holds is = tt
once_placed text o (Ok f) holds is = subst (λ (rs : List PlacedFinding). All (IsPlacedFinding text) rs) (sym is) (one_placed text o holds)

pub by_cause :
    {E : Type 0} (c d : Cause) (n : ℕ) (text : List ℕ) (plan rows : Option (List ℕ)) (made : Result Findings E) → c ≡ d → IfOk made (AreFoundBy d n text plan rows)
    → IfOk made (AreFoundBy c n text plan rows)
by_cause c d n text plan rows made same holds = subst (λ (e : Cause). IfOk made (AreFoundBy e n text plan rows)) (sym same) holds

-- ---- By the number

none_taken : (n : ℕ) (ss : List Location) → take (suc n) ss ≡ [] → ss ≡ []
none_taken n [] h = refl
none_taken n (s ∷ ss) h = absurd (cc)

no_location : (f : Findings) → f.shown.items ≡ [] → locations_of f ≡ []
no_location f h = ap (map (λ (r : PlacedFinding). r.finding.location)) h

each_one :
    (c : Cause) (n : ℕ) (text : List ℕ) (plan rows : Option (List ℕ)) (f : Findings) → IsCause n c → AreOne c n text plan rows f → All (Finds text plan rows n) (locations_of f)
each_one c n text plan rows f is one =
    let P : FindingLocation → Type 0 = Finds text plan rows n in
    let at : PlacedFinding → FindingLocation = λ r. r.finding.location in
    subst (λ (rs : List PlacedFinding). All P (map at rs)) (sym one.shown)
    (elim one.found as (λ (o : Option PlacedFinding). MatchOption o (IsSilentOf c n text plan rows) (λ r. FindsOf c n text plan rows r.finding.location) → All P (map at (option_to_list o))) [
      | None ↦ λ h. All-nil P
      | Some r ↦ λ h. All-cons P (at r) [] (c, is, h) (All-nil P)
    ] one.finds)

none_one :
    (c : Cause) (n : ℕ) (text : List ℕ) (plan rows : Option (List ℕ)) (f : Findings) → IsCause n c → AreOne c n text plan rows f → f.shown.items ≡ [] → IsSilent text plan rows n
none_one c n text plan rows f is one h =
    elim one.found as
    (λ (o : Option PlacedFinding). option_to_list o ≡ [] → MatchOption o (IsSilentOf c n text plan rows) (λ r. FindsOf c n text plan rows r.finding.location) → IsSilent text plan rows n) [
      | None ↦ λ e s. (c, is, s)
      | Some r ↦ λ e s. absurd (cc)
    ] (sym one.shown ∙ h) one.finds

each_found :
    (c : Cause) (n : ℕ) (text : List ℕ) (plan rows : Option (List ℕ)) (f : Findings) → IsCause n c → AreFoundBy c n text plan rows f → All (Finds text plan rows n) (locations_of f)
each_found (cause.Check flaw) n text plan rows f is (inl s) =
    let P : FindingLocation → Type 0 = Finds text plan rows n in
    let at : Location → FindingLocation = λ p. found.Check p in
    subst (λ (ss : List FindingLocation). All P ss) (sym s.shown)
    (All-map P at (take most_findings s.locations)
    (All-take (λ p. P (at p)) most_findings s.locations
    (All-weaker (AppliesAt flaw s.library s.plan s.list) (λ p. P (at p))
    (λ p h. (cause.Check flaw, is, record { library = s.library; plan = s.plan; list = s.list; read = s.read; planned = s.planned; fed = s.fed; applies = h })) s.locations s.are.each)))
each_found (cause.Check flaw) n text plan rows f is (inr u) =
    subst (λ (ss : List FindingLocation). All (Finds text plan rows n) ss) (sym (no_location f u.nothing)) (All-nil (Finds text plan rows n))
each_found cause.Text n text plan rows f is one = each_one cause.Text n text plan rows f is one
each_found cause.Bytes n text plan rows f is one = each_one cause.Bytes n text plan rows f is one
each_found cause.Other n text plan rows f is one = each_one cause.Other n text plan rows f is one

none_found :
    (c : Cause) (n : ℕ) (text : List ℕ) (plan rows : Option (List ℕ)) (f : Findings) → IsCause n c → AreFoundBy c n text plan rows f → f.shown.items ≡ [] → IsSilent text plan rows n
none_found (cause.Check flaw) n text plan rows f is (inl s) h =
    let at : Location → FindingLocation = λ p. found.Check p in
    let nowhere = s.are.none (none_taken 19 s.locations (none_mapped at (take most_findings s.locations) (sym s.shown ∙ no_location f h))) in
    (cause.Check flaw, is, inl (record { library = s.library; plan = s.plan; list = s.list; read = s.read; planned = s.planned; fed = s.fed; nowhere = nowhere }))
none_found (cause.Check flaw) n text plan rows f is (inr u) h = (cause.Check flaw, is, inr u.unread)
none_found cause.Text n text plan rows f is one h = none_one cause.Text n text plan rows f is one h
none_found cause.Bytes n text plan rows f is one h = none_one cause.Bytes n text plan rows f is one h
none_found cause.Other n text plan rows f is one h = none_one cause.Other n text plan rows f is one h

pub numbered :
    {E : Type 0} (c : Cause) (n : ℕ) (text : List ℕ) (plan rows : Option (List ℕ)) (made : Result Findings E) → IsCause n c → IfOk made (AreFoundBy c n text plan rows)
    → IfOk made (AreFound text plan rows n)
numbered c n text plan rows (Err e) is holds = tt
numbered c n text plan rows (Ok f) is holds =
    record { by_cause = c; is_cause = is; found = holds; each = each_found c n text plan rows f is holds; none = none_found c n text plan rows f is holds }
