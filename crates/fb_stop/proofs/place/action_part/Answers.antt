use Rattle.fb_types.proofs.Common.{Option, refl, sym, subst, Name}
use Rattle.fb_types.specs.declared.library.Action.{Action}
use Rattle.fb_types.specs.declared.library.State.{State}
use Rattle.fb_read_positions.specs.declared.position.BasicPart.{BasicPart}
use Rattle.fb_read_positions.specs.declared.position.BasicPart.TheVariants as part
use Rattle.fb_stop.specs.Places.{IsActionPart, IsAlgorithmPart, IsPartOf}
use Rattle.fb_stop.proofs.lemmas.operations.Insides.{if_some_map}
use Rattle.fb_stop.proofs.place.action_part.Goals as goal

pub returns-in-Some-clause-found : goal.returns-in-Some-clause-found
returns-in-Some-clause-found c =
    let t = c.args.block.now in
    let state : State = c.in_ok-get.field-0.now in
    let action : Action = c.in_ok-name.field-0.now in
    if_some_map (IsAlgorithmPart t c.in-Some.name c.args.inside) (IsActionPart t c.args.state c.args.index c.args.inside) c.algorithm_part.result
    (λ x is. record {
      state = state;
      there = sym c.in_ok-get.ensures.value;
      action = action;
      at = sym c.in_ok-name.ensures.value;
      is = subst (λ (o : Option Name). IsPartOf t c.args.state c.args.index c.args.inside o x) (sym c.in-Some.is) is;
    })
    c.algorithm_part.ensures.found

pub returns-in-None-clause-found : goal.returns-in-None-clause-found
returns-in-None-clause-found c =
    let x : BasicPart = part.OutputAlone c.args.state c.args.index in
    record {
      state = c.in_ok-get.field-0.now;
      there = sym c.in_ok-get.ensures.value;
      action = c.in_ok-name.field-0.now;
      at = sym c.in_ok-name.ensures.value;
      is = subst (λ (o : Option Name). IsPartOf c.args.block.now c.args.state c.args.index c.args.inside o x) (sym c.in-None.is) refl;
    }
