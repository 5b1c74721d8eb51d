-- What a document says of a deployment, by its two keys.
use Rattle.fb_inputs.proofs.lemmas.Common.{◌≡◌, true, false, List, length, ◌==◌, Some, None, Ok, Err, refl, DeployLocation, LinkDraft, count_of}
use Rattle.fb_types.specs.declared.deploy.ResourceEntry.{ResourceEntry}
use Rattle.toml.specs.Data.{Data, Members}
use Rattle.fb_inputs.specs.declared.deploy_location.DeployKey.TheVariants as key
use Rattle.fb_inputs.specs.declared.deploy_location.TableFault.TheVariants as fault
use Rattle.fb_inputs.specs.DeployLocations.{at_top, value_at}
use Rattle.fb_inputs.specs.Documents.{draft, known_keys, links_in, resource, resources_in, tables_of}

module _ (keys : Members) where
  pub no_resources : None ≡ value_at keys key.Resource → draft keys ≡ Err (at_top (fault.Missing key.Resource))
  unfolding draft
  no_resources h = rw (← h) refl

  pub resources_by : (d : Data) → Some d ≡ value_at keys key.Resource → resources_in (value_at keys key.Resource) ≡ tables_of key.Resource resource d
  resources_by d h = rw (← h) refl

  pub refused_resources : (p : DeployLocation) → resources_in (value_at keys key.Resource) ≡ Err p → draft keys ≡ Err p
  unfolding draft
  refused_resources p h = rw h refl

  module _ (rs : List ResourceEntry) (read : resources_in (value_at keys key.Resource) ≡ Ok rs) where
    pub refused_links : (p : DeployLocation) → links_in (value_at keys key.Link) ≡ Err p → draft keys ≡ Err p
    unfolding draft
    refused_links p h = rw (read, h) refl

    module _ (ls : List LinkDraft) (links : links_in (value_at keys key.Link) ≡ Ok ls) where
      pub further_keys : (count_of keys == known_keys keys) ≡ false → draft keys ≡ Err (at_top fault.Further)
      unfolding draft
      further_keys h = rw (read, links, h) refl

      pub without_resource : (count_of keys == known_keys keys) ≡ true → (length rs == 0) ≡ true → draft keys ≡ Err (at_top fault.Empty)
      unfolding draft
      without_resource h none = rw (read, links, h, none) refl

      pub drafted : (count_of keys == known_keys keys) ≡ true → (length rs == 0) ≡ false → draft keys ≡ Ok (record { resources = rs; links = ls })
      unfolding draft
      drafted h some = rw (read, links, h, some) refl
