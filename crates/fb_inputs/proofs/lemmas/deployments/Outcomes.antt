-- Documents, and what a function returns for the bytes of a deployment.
use Rattle.fb_inputs.proofs.lemmas.Common.{◌≡◌, ◌≤◌, Bool, true, false, length, Some, None, Ok, Err, refl, ap, ◌∙◌, Result, option_map, le-leb, IfSome, DeployLocation, location_of, and_then, Text}
use Rattle.fb_types.proofs.Common.{lt-leb}
use Rattle.fb_types.specs.declared.deploy.Plan.{Plan}
use Rattle.std.proofs.Common.{IsUtf8}
use Rattle.std.specs.Str.{is_utf8}
use Rattle.std.proofs.lemmas.Str.{IsUtf8-from_is_utf8, is_utf8-from_IsUtf8}
use Rattle.toml.specs.Data.{Members}
use Rattle.toml.specs.Parse.{parse_document}
use Rattle.fb_inputs.specs.declared.deploy_location.DeployFault.{DeployFault}
use Rattle.fb_inputs.specs.declared.deploy_location.DeployFault.TheVariants as deploy_fault
use Rattle.fb_inputs.specs.declared.deploy_location.DeployLocation.TheVariants as location
use Rattle.fb_inputs.specs.declared.document.PlanDraft.{PlanDraft}
use Rattle.fb_inputs.specs.declared.error.InputError.{InputError}
use Rattle.fb_inputs.specs.DeployLocations.{AnswersInDocument, InDocument, number_at, numbered}
use Rattle.fb_inputs.specs.Deployments.{IsNoDocument, IsRefusedThere, Locates, deploy_of, deployment, deployment_of, document, in_document, judged, most_bytes, no_document, too_long}
use Rattle.fb_inputs.specs.Documents.{draft}
use Rattle.fb_inputs.specs.Refusals.{number_of}

pub is_document : (bytes : Text) (keys : Members) → IsUtf8 bytes → parse_document bytes ≡ Some keys → document bytes ≡ Some keys
unfolding document
is_document bytes keys text parsed = rw (is_utf8-from_IsUtf8 bytes text) parsed

pub is_no_document : (bytes : Text) → (IsUtf8 bytes → parse_document bytes ≡ None) → document bytes ≡ None
unfolding document
is_no_document bytes unparsed = by (is_utf8 bytes) refl
  where
    by : (t : Bool) → is_utf8 bytes ≡ t → document bytes ≡ None
    by true e = rw e (unparsed (IsUtf8-from_is_utf8 bytes e))
    by false e = rw e refl

-- ---- From the bytes to the plan

short_deploy : (bytes : Text) → length bytes ≤ most_bytes → deploy_of bytes ≡ deployment_of (document bytes)
unfolding deploy_of
short_deploy bytes le = rw (le-leb (length bytes) most_bytes le) refl

of_document : (bytes : Text) (keys : Members) → length bytes ≤ most_bytes → document bytes ≡ Some keys → deploy_of bytes ≡ numbered (deployment keys)
of_document bytes keys le read = short_deploy bytes le ∙ ap deployment_of read

drafted : (keys : Members) (d : PlanDraft) → draft keys ≡ Ok d → deployment keys ≡ judged d
unfolding deployment
drafted keys d found = ap (λ (o : InDocument PlanDraft). and_then o judged) found

undrafted : (keys : Members) (p : DeployLocation) → draft keys ≡ Err p → deployment keys ≡ Err p
unfolding deployment
undrafted keys p found = ap (λ (o : InDocument PlanDraft). and_then o judged) found

pub refused_document : {X : Type 0} (seen : X → Plan) (bytes : Text) (e : DeployFault) → length bytes ≤ most_bytes → IsNoDocument bytes e → Locates seen bytes (Err e)
refused_document seen bytes deploy_fault.Memory le h = tt
refused_document seen bytes (deploy_fault.At (location.Document at)) le h = no_document le h.0 h.1
refused_document seen bytes (deploy_fault.At location.Bytes) le h = absurd h
refused_document seen bytes (deploy_fault.At (location.Shape t why)) le h = absurd h
refused_document seen bytes (deploy_fault.At (location.Latency k i)) le h = absurd h
refused_document seen bytes (deploy_fault.At (location.NoEntry k)) le h = absurd h
refused_document seen bytes (deploy_fault.At (location.Entry k i)) le h = absurd h
refused_document seen bytes (deploy_fault.At location.Resources) le h = absurd h
refused_document seen bytes (deploy_fault.At location.Links) le h = absurd h
refused_document seen bytes (deploy_fault.At (location.Entries k)) le h = absurd h

pub refused_draft : {X : Type 0} (seen : X → Plan) (bytes : Text) (keys : Members) (e : DeployFault) → length bytes ≤ most_bytes → document bytes ≡ Some keys → IfSome (location_of e) (λ p. draft keys ≡ Err p)
    → Locates seen bytes (Err e)
refused_draft seen bytes keys deploy_fault.Memory le read h = tt
refused_draft seen bytes keys (deploy_fault.At p) le read h = in_document le read (undrafted keys p h)

pub judged_there : (bytes : Text) (keys : Members) (d : PlanDraft) (o : Result Plan DeployFault) → length bytes ≤ most_bytes → document bytes ≡ Some keys → draft keys ≡ Ok d
    → AnswersInDocument (λ x. x) (judged d) o → Locates (λ x. x) bytes o
judged_there bytes keys d (Ok plan) le read found h = of_document bytes keys le read ∙ ap (λ (r : InDocument Plan). numbered r) (drafted keys d found ∙ h)
judged_there bytes keys d (Err deploy_fault.Memory) le read found h = tt
judged_there bytes keys d (Err (deploy_fault.At p)) le read found h = in_document le read (drafted keys d found ∙ h)

-- ---- The number of a refusal

pub numbered_there : (bytes : Text) (p : DeployLocation) → IsRefusedThere bytes p → deploy_of bytes ≡ Err (number_at p)
unfolding deploy_of
numbered_there bytes p (too_long long) = rw (lt-leb (length bytes) most_bytes long) refl
numbered_there bytes p (no_document le none within) = short_deploy bytes le ∙ ap deployment_of none
numbered_there bytes p (in_document {keys = keys} le read refused) = of_document bytes keys le read ∙ ap (λ (r : InDocument Plan). numbered r) refused

pub deploy_number : (bytes : Text) (e : DeployFault) (g : InputError) → number_of g ≡ option_map number_at (location_of e) → Locates (λ x. x) bytes (Err e) → IfSome (number_of g) (λ n. deploy_of bytes ≡ Err n)
deploy_number bytes deploy_fault.Memory g is h = rw is tt
deploy_number bytes (deploy_fault.At p) g is h = rw is (numbered_there bytes p h)
