use Rattle.std.proofs.Common.{Option, None, Some, refl, subst}
use Rattle.std.proofs.lemmas.Result.{IfOk-weaker}
use Rattle.fb_read.specs.Tokens.{after_mark}
use Rattle.fb_read_positions.specs.Places.{IsPlaceFor}
use Rattle.fb_read_positions.specs.declared.places.Place.{Place}
use Rattle.fb_why.specs.Marks.{HasNoRange, IsRange, no_expression}
use Rattle.fb_why.specs.Positions.{position_of}
use Rattle.fb_why.proofs.lemmas.Marking.{marked_if, no_begin, nothing_marked, of_none, of_some, position_placed}
use Rattle.fb_why.proofs.lemmas.TokenOrder.{in_order}
use Rattle.fb_why.proofs.marks.marked_place.Goals as goal

pub returns-in_default : goal.returns-in_default
returns-in_default c =
    let text = c.args.text.now in
    let lib = c.args.library.now in
    let none = subst (λ (o : Option Place). IsPlaceFor text lib (position_of lib c.args.location) o) c.in_default.is c.requires.place in
    nothing_marked text lib c.args.location (position_of lib c.args.location) c.requires.read refl none

pub returns-in_default-2 : goal.returns-in_default-2
returns-in_default-2 c =
    let lib = c.args.library.now in
    let none = of_none (HasNoRange lib c.args.location) (IsRange lib c.args.location) c.in_ok-range.field-0 c.in_default-2.is c.in_ok-range.ensures in
    record { library = lib; read = c.requires.read; unmarked = no_expression none }

pub token_at-requires : goal.token_at-requires
token_at-requires c = in_order c.args.text.now c.args.tokens.now (after_mark c.args.text.now) c.requires.located

pub returns-in-None : goal.returns-in-None
returns-in-None c =
    let text = c.args.text.now in
    let lib = c.args.library.now in
    let placed = subst (λ (o : Option Place). IsPlaceFor text lib (position_of lib c.args.location) o) c.in-Some.is c.requires.place in
    let range = of_some (HasNoRange lib c.args.location) (IsRange lib c.args.location) c.in_ok-range.field-0 c.in-Some-2.range c.in-Some-2.is c.in_ok-range.ensures in
    no_begin text lib c.args.location c.args.tokens.now c.in-Some-2.range c.in-Some.earlier c.requires.read c.requires.located placed range c.in-None.ensures

pub place_among-requires-clause-earlier : goal.place_among-requires-clause-earlier
place_among-requires-clause-earlier c =
    let text = c.args.text.now in
    let lib = c.args.library.now in
    let placed = subst (λ (o : Option Place). IsPlaceFor text lib (position_of lib c.args.location) o) c.in-Some.is c.requires.place in
    let at = position_placed text lib (position_of lib c.args.location) c.in-Some.earlier placed in
    at.2.located

pub returns-in-Some-token_at : goal.returns-in-Some-token_at
returns-in-Some-token_at c =
    let text = c.args.text.now in
    let lib = c.args.library.now in
    let placed = subst (λ (o : Option Place). IsPlaceFor text lib (position_of lib c.args.location) o) c.in-Some.is c.requires.place in
    let range = of_some (HasNoRange lib c.args.location) (IsRange lib c.args.location) c.in_ok-range.field-0 c.in-Some-2.range c.in-Some-2.is c.in_ok-range.ensures in
    IfOk-weaker c.place_among.result _ _
    (λ o among. marked_if text lib c.args.location c.args.tokens.now c.in-Some-2.range c.in-Some.earlier c.requires.read c.requires.located placed range c.in-Some-token_at.begin o c.in-Some-token_at.ensures among)
    c.place_among.ensures
