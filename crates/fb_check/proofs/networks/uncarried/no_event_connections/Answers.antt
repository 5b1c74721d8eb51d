use Rattle.fb_types.proofs.Common.{◌≡◌, ◌++◌, ℕ, nat_eq, true, List, Contains, refl, sym, ◌∙◌, ap, subst, arith, Contains-get_or, nat_tests}
use Rattle.fb_types.specs.declared.library.Connection.{Connection}
use Rattle.fb_check_names.specs.Listed.{each_at}
use Rattle.fb_check_names.proofs.lemmas.Listing.{added_unless, each_done, each_more}
use Rattle.fb_check.specs.networks.NoEvent.{is_served, no_event_at}
use Rattle.fb_check.proofs.lemmas.networks.NoEvent.{served_is, served_same}
use Rattle.fb_check.proofs.networks.uncarried.no_event_connections.Goals as goal
use Rattle.fb_check.proofs.networks.uncarried.no_event_connections.Goals.{then-from-to, else-from-to}

pub loop-connection-init : goal.loop-connection-init
loop-connection-init c =
    let xs = c.as_slice-connections.result.now in
    ap (λ (ps : List ℕ). ps ++ each_at (no_event_at c.args.library.now c.args.plan.now) xs) c.new-found.ensures.items

-- two indexes that are the same
equal : (r s : ℕ) → r ≡ s → nat_eq r s ≡ true
equal r s same = grind (arith, nat_tests, same)

pub loop-connection-preserved : goal.loop-connection-preserved
loop-connection-preserved c =
    let lib = c.args.library.now in
    let plan = c.args.plan.now in
    let m = c.args.mapping.now in
    let xs = c.as_slice-connections.result.now in
    let i = c.loop-connection.connection in
    let x = c.index-connections-connection.result in
    let from = c.resource_of-from.ensures in
    let to = c.resource_of-to.ensures in
    let there = subst (λ (ys : List Connection). Contains ys x) c.as_slice-connections.ensures
    (subst (λ (y : Connection). Contains xs y) (sym c.index-connections-connection.is) (Contains-get_or xs i x c.loop-connection-test.true)) in
    let is : c.if-from-to.is_served ≡ is_served lib plan x =
    elim c.if-from-to.branch [
      | then-from-to w ↦ w.is_served-is ∙ equal _ _ w.if-from-to.true ∙ served_same lib plan m x _ _ c.requires.mapping from to w.if-from-to.true
      | else-from-to w ↦
          w.is_served-is
          ∙ served_is lib plan m c.args.numbers.now x c.args.served.now c.component_of-component.result (record { ref_ptr = (0, 0); now = x.from.port }) _ _ _
          c.requires.once c.requires.mapping c.requires.numbers c.requires.served there from
          (record { at = c.component_of-component.ensures; name = refl; leads = to }) w.if-from-to.false w.contains-is_served.ensures
    ] in
    each_more (no_event_at lib plan) xs i x c.loop-connection.found.items c.push_unless.new.found.items _ c.loop-connection-test.true
    c.index-connections-connection.is
    (added_unless c.loop-connection.found.items c.push_unless.new.found.items c.if-from-to.is_served (is_served lib plan x) i is
    c.in_ok-push_unless.ensures) c.loop-connection.invariant

pub returns : goal.returns
returns c =
    let xs = c.as_slice-connections.result.now in
    each_done (no_event_at c.args.library.now c.args.plan.now) xs c.loop-connection.connection c.loop-connection.found.items _ c.loop-connection-test.false c.loop-connection.invariant
    ∙ ap (each_at (no_event_at c.args.library.now c.args.plan.now)) c.as_slice-connections.ensures
