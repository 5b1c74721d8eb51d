use Rattle.fb_check.proofs.lemmas.Common.{◌≡◌, refl, ◌∙◌, ap, List, ◌++◌, Option, sym, IfOk-equal, is_some, unless, From, To, UnknownName, connection_number, placed, each_some, some_of, unknown_ends}
use Rattle.fb_check_names.specs.Numbers.{both_ends}
use Rattle.fb_check_names.specs.declared.numbers.NumberedConnection.{NumberedConnection}
use Rattle.fb_check_names.specs.declared.location.UnknownName.TheVariants as location
use Rattle.fb_check_names.proofs.lemmas.Listing.{each_done, each_more}
use Rattle.fb_check.proofs.lemmas.types.GrowingLists.{and_added, and_first, and_last, list_added, of_ok, one_added}
use Rattle.fb_check.proofs.lemmas.types.NumbersOfNames.{side_met}
use Rattle.fb_check.proofs.types.ends.wires_of.Goals as goal

pub loop-connection-init : goal.loop-connection-init
loop-connection-init c =
    let f = connection_number c.args.types.now.library.now (placed c.args.scope.now) c.args.flow in
    (refl, ap (λ (ws : List NumberedConnection). ws ++ each_some f c.args.connections.now) c.new-wires.ensures)

pub loop-connection-preserved : goal.loop-connection-preserved
loop-connection-preserved c =
    let lib = c.args.types.now.library.now in
    let n = placed c.args.scope.now in
    let f = connection_number lib n c.args.flow in
    let k = c.loop-connection.connection in
    let x = c.index-connections-connection.result in
    let end = location.End c.args.site c.args.flow k in
    let f0 = c.loop-connection.found.items in
    let f1 = c.push_unless.new.found.items in
    let f2 = c.push_unless-in-loop-connection.new.found.items in
    let w1 = c.push_some.new.items in
    let starts = sym (c.is_some.ensures ∙ ap is_some c.side_of-from.ensures ∙ side_met lib n c.args.flow From x) in
    let ends = sym (c.is_some-in-loop-connection.ensures ∙ ap is_some c.side_of-to.ensures ∙ side_met lib n c.args.flow To x) in
    let p : List UnknownName = unless c.is_some.result (end From) in
    let q : List UnknownName = unless c.is_some-in-loop-connection.result (end To) in
    let listed = of_ok (f2 ≡ f0 ++ unknown_ends lib c.args.site n c.args.flow k x) c.and-in-loop-connection.result _ c.in_ok-and.was
    (and_first _ c.and-in-loop-connection.result c.and.result c.push_some.result c.and-in-loop-connection.ensures
    (and_added c.and.result c.push_unless.result c.push_unless-in-loop-connection.result f0 f1 f2 p q _
    (λ i. unless (starts i) (end From) ++ unless (ends i) (end To))
    c.and.ensures c.push_unless.ensures c.push_unless-in-loop-connection.ensures)) in
    let number = of_ok (w1 ≡ c.loop-connection.wires ++ some_of (f x)) c.and-in-loop-connection.result _ c.in_ok-and.was
    (and_last _ c.and-in-loop-connection.result c.and.result c.push_some.result c.and-in-loop-connection.ensures
    (IfOk-equal c.push_some.result w1 _ _ c.push_some.ensures
    (ap (λ (o : Option NumberedConnection). c.loop-connection.wires ++ some_of o) (c.connection_between.ensures ∙ (λ i. both_ends (c.side_of-from.ensures i) (c.side_of-to.ensures i)))))) in (
      each_more (unknown_ends lib c.args.site n c.args.flow) c.args.connections.now k x f0 f2 _
          c.loop-connection-test.true c.index-connections-connection.is listed c.loop-connection.invariant.0,
      one_added (each_some f) (λ x. some_of (f x)) c.args.connections.now k x c.loop-connection.wires w1 _ (λ y ys. refl)
          c.loop-connection-test.true c.index-connections-connection.is number c.loop-connection.invariant.1,
    )

pub returns-clause-listed : goal.returns-clause-listed
returns-clause-listed c =
    each_done (unknown_ends c.args.types.now.library.now c.args.site (placed c.args.scope.now) c.args.flow) c.args.connections.now c.loop-connection.connection c.loop-connection.found.items _ c.loop-connection-test.false c.loop-connection.invariant.0

pub returns-clause-numbers : goal.returns-clause-numbers
returns-clause-numbers c =
    list_added (each_some (connection_number c.args.types.now.library.now (placed c.args.scope.now) c.args.flow)) c.args.connections.now c.loop-connection.connection c.loop-connection.wires _ refl
    c.loop-connection-test.false c.loop-connection.invariant.1
