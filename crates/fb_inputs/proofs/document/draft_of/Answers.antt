use Rattle.fb_types.proofs.Common.{◌≡◌, Some, sym, ◌∙◌, length, eq-eqb, ne_eqb, err_from_is_err_and}
use Rattle.toml.specs.View.{table_view, view}
use Rattle.fb_inputs.specs.declared.deploy_location.DeployKey.TheVariants as key
use Rattle.fb_inputs.specs.declared.deploy_location.DeployLocation.{DeployLocation}
use Rattle.fb_inputs.specs.DeployLocations.{location_of, value_at}
use Rattle.fb_inputs.specs.Documents.{count_of, known_keys}
use Rattle.fb_inputs.proofs.lemmas.deployments.Drafts.{drafted, further_keys, no_resources, refused_links, refused_resources, resources_by, without_resource}
use Rattle.fb_inputs.proofs.lemmas.deployments.TableResults.{if-some}
use Rattle.fb_inputs.proofs.document.draft_of.Goals as goal

pub returns-in_default-clause-value : goal.returns-in_default-clause-value
returns-in_default-clause-value c = rw c.at_top.ensures (no_resources (table_view c.args.keys.now) (rw c.in_default.is at c.value_at.ensures))

pub returns-in_err-resources-clause-value : goal.returns-in_err-resources-clause-value
returns-in_err-resources-clause-value c =
    let keys = table_view c.args.keys.now in
    let found : Some (view c.in-Some.resources.now) ≡ value_at keys key.Resource = rw c.in-Some.is at c.value_at.ensures in
    let p = err_from_is_err_and c.from_residual.result c.from_residual.ensures.1 in
    rw (p.1, p.2) (if-some (location_of c.in_err-resources.field-0.0) _ _ (λ (q : DeployLocation) e. refused_resources keys q (resources_by keys (view c.in-Some.resources.now) found ∙ e)) c.in_err-resources.ensures)

pub returns-in_err-links-clause-value : goal.returns-in_err-links-clause-value
returns-in_err-links-clause-value c =
    let keys = table_view c.args.keys.now in
    let found : Some (view c.in-Some.resources.now) ≡ value_at keys key.Resource = rw c.in-Some.is at c.value_at.ensures in
    let read = resources_by keys (view c.in-Some.resources.now) found ∙ c.in_ok-resources.ensures in
    let p = err_from_is_err_and c.from_residual-in_err-links.result c.from_residual-in_err-links.ensures.1 in
    rw (p.1, p.2) (if-some (location_of c.in_err-links.field-0.0) _ _ (λ (q : DeployLocation) e. refused_links keys c.in_ok-resources.resources read q e) c.in_err-links.ensures)

pub returns-then-count_of-known_keys-clause-value : goal.returns-then-count_of-known_keys-clause-value
returns-then-count_of-known_keys-clause-value c =
    let keys = table_view c.args.keys.now in
    let found : Some (view c.in-Some.resources.now) ≡ value_at keys key.Resource = rw c.in-Some.is at c.value_at.ensures in
    let read = resources_by keys (view c.in-Some.resources.now) found ∙ c.in_ok-resources.ensures in
    rw c.at_top-then-count_of-known_keys.ensures
    (further_keys keys c.in_ok-resources.resources read c.in_ok-links.links c.in_ok-links.ensures
    (ne_eqb (count_of keys) (known_keys keys) (λ e. c.if-count_of-known_keys.true (c.count_of.ensures ∙ e ∙ sym c.known_keys.ensures))))

pub returns-then-len-eq0-clause-value : goal.returns-then-len-eq0-clause-value
returns-then-len-eq0-clause-value c =
    let keys = table_view c.args.keys.now in
    let found : Some (view c.in-Some.resources.now) ≡ value_at keys key.Resource = rw c.in-Some.is at c.value_at.ensures in
    let read = resources_by keys (view c.in-Some.resources.now) found ∙ c.in_ok-resources.ensures in
    rw c.at_top-then-len-eq0.ensures
    (without_resource keys c.in_ok-resources.resources read c.in_ok-links.links c.in_ok-links.ensures
    (eq-eqb (count_of keys) (known_keys keys) (sym c.count_of.ensures ∙ c.if-count_of-known_keys.false ∙ c.known_keys.ensures))
    (eq-eqb (length c.in_ok-resources.resources) 0 (sym c.len.ensures ∙ c.if-len-eq0.true)))

pub returns-clause-value : goal.returns-clause-value
returns-clause-value c =
    let keys = table_view c.args.keys.now in
    let found : Some (view c.in-Some.resources.now) ≡ value_at keys key.Resource = rw c.in-Some.is at c.value_at.ensures in
    let read = resources_by keys (view c.in-Some.resources.now) found ∙ c.in_ok-resources.ensures in
    drafted keys c.in_ok-resources.resources read c.in_ok-links.links c.in_ok-links.ensures
    (eq-eqb (count_of keys) (known_keys keys) (sym c.count_of.ensures ∙ c.if-count_of-known_keys.false ∙ c.known_keys.ensures))
    (ne_eqb (length c.in_ok-resources.resources) 0 (λ e. c.if-len-eq0.false (c.len.ensures ∙ e)))
