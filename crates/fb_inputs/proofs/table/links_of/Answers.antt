use Rattle.fb_inputs.proofs.lemmas.Common.{◌≡◌, ◌+◌, map, ap, ◌∙◌, length, arith, length_push, entries_of_link, entry, latency_of_link, start_of_link}
use Rattle.fb_inputs.proofs.lemmas.deployments.Tables.{latency_table, passes_first, passes_rest, links_more, links_done, right_count, right_latencies, right_starts}
use Rattle.fb_inputs.proofs.table.links_of.Goals as goal

pub new-latency-requires : goal.new-latency-requires
new-latency-requires c =
    let step = rw c.in-Some.is at c.next.ensures.steps in
    let here = c.loop-draft.invariant in
    let k = length c.loop-draft.found in
    let d = c.in-Some.draft in
    let rest = c.next.new.self.rest.items in
    let starts = right_starts k d (passes_first start_of_link k d rest _ step.0 here.rising) in
    rw (c.in_ok-entries.ensures, c.as_slice.ensures)
    (latency_table d.table (right_latencies k d (passes_first latency_of_link k d rest _ step.0 here.latencies)) starts.0 starts.1
    (right_count k d (passes_first entries_of_link k d rest _ step.0 here.short)))

pub loop-draft-preserved : goal.loop-draft-preserved
loop-draft-preserved c =
    let step = rw c.in-Some.is at c.next.ensures.steps in
    let here = c.loop-draft.invariant in
    let k = length c.loop-draft.found in
    let d = c.in-Some.draft in
    let same : c.new-latency.result ≡ map entry d.table = c.new-latency.ensures ∙ c.in_ok-entries.ensures ∙ ap (map entry) c.as_slice.ensures in
    let next : length c.push.new.self ≡ k + 1 = ap length c.in_ok-push.ensures.ok ∙ length_push c.loop-draft.found _ in
    record {
      links = rw (c.in_ok-push.ensures.ok, same) (links_more c.loop-draft.found d c.next.new.self.rest.items _ _ step.0 here.links);
      latencies = passes_rest latency_of_link k _ d c.next.new.self.rest.items _ next step.0 here.latencies;
      rising = passes_rest start_of_link k _ d c.next.new.self.rest.items _ next step.0 here.rising;
      short = passes_rest entries_of_link k _ d c.next.new.self.rest.items _ next step.0 here.short;
      counted = let before = here.counted in let sizes = ap length step.0 in omega arith;
    }

pub returns : goal.returns
returns c =
    let step = rw c.in-None.is at c.next.ensures.steps in
    links_done c.loop-draft.found c.loop-draft.draft-iterator.rest.items _ (omega (arith, c.loop-draft.invariant.counted, step.0)) c.loop-draft.invariant.links
