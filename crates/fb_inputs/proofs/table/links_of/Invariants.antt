use Rattle.std.proofs.Common.{◌≡◌, ◌++◌, None, map, length}
use Rattle.fb_inputs.specs.Deployments.{among_links, entries_of_link, latency_of_link, link_of, start_of_link}
use Rattle.fb_inputs.proofs.table.links_of.Given as goal

abbrev pub invariant-loop-draft : goal.invariant-loop-draft
invariant-loop-draft l = record {
  links : l.found ++ map link_of l.draft-iterator.rest.items ≡ map link_of l.fn.drafts;
  latencies : among_links latency_of_link (length l.found) l.draft-iterator.rest.items ≡ None;
  rising : among_links start_of_link (length l.found) l.draft-iterator.rest.items ≡ None;
  short : among_links entries_of_link (length l.found) l.draft-iterator.rest.items ≡ None;
  counted : l.draft-iterator.rest.len ≡ length l.draft-iterator.rest.items;
}
