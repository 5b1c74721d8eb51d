use Rattle.fb_types.proofs.Common.{◌≡◌, ◌∙◌, ℕ, nat_eq, true, arith, nat_tests}
use Rattle.fb_check_names.proofs.lemmas.Listing.{added_unless, each_done, each_more}
use Rattle.fb_check.specs.networks.Links.{is_linked, no_link_at}
use Rattle.fb_check.proofs.lemmas.networks.NoLink.{linked_is, linked_same}
use Rattle.fb_check.proofs.networks.links.push_no_link.Goals as goal
use Rattle.fb_check.proofs.networks.links.push_no_link.Goals.{then-from-to, else-from-to}

-- two indexes that are the same
equal : (r s : ℕ) → r ≡ s → nat_eq r s ≡ true
equal r s same = grind (arith, nat_tests, same)

pub loop-connection-preserved : goal.loop-connection-preserved
loop-connection-preserved c =
    let plan = c.args.plan.now in
    let m = c.args.mapping.now in
    let i = c.loop-connection.connection in
    let x = c.index-connections-connection.result in
    let from = c.resource_of-from.ensures in
    let to = c.resource_of-to.ensures in
    let is : c.if-from-to.is_linked ≡ is_linked plan x =
    elim c.if-from-to.branch [
      | then-from-to w ↦ w.is_linked-is ∙ equal _ _ w.if-from-to.true ∙ linked_same plan m x _ _ c.requires.mapping from to w.if-from-to.true
      | else-from-to w ↦
          w.is_linked-is
          ∙ linked_is plan m x c.args.ways.now _ _ w.name_of.result w.name_of-else-from-to.result _ (record {
            holds = c.requires.mapping;
            ways_are = c.requires.ways;
            sends = from;
            receives = to;
            sender = w.name_of.ensures;
            receiver = w.name_of-else-from-to.ensures;
            found_is = w.contains-is_linked.ensures;
          }) w.if-from-to.false
    ] in
    each_more (no_link_at plan c.args.flow) c.args.connections.now i x c.loop-connection.found.items c.push_unless.new.found.items _ c.loop-connection-test.true
    c.index-connections-connection.is
    (added_unless c.loop-connection.found.items c.push_unless.new.found.items c.if-from-to.is_linked (is_linked plan x) (record { flow = c.args.flow; connection = i })
    is c.in_ok-push_unless.ensures) c.loop-connection.invariant

pub returns : goal.returns
returns c =
    each_done (no_link_at c.args.plan.now c.args.flow) c.args.connections.now c.loop-connection.connection c.loop-connection.found.items _ c.loop-connection-test.false c.loop-connection.invariant
