-- Each line of an event that an instance takes begins a taking.
use Rattle.fb_types.proofs.Common.{◌≡◌, ℕ, true, List, [], ◌++◌, Some, None, refl, inl, Kind, Basic, Event, Composite, Emission, Position, memory_of, state_of, with_values, InState}
use Rattle.fb_types.specs.EventBlocks as blocks
use Rattle.fb_types.specs.States.{Line}
use Rattle.fb_laws.proofs.lemmas.existence.ChartTotal.{chart_total}
use Rattle.fb_inspect.specs.walk.Looks.{IsTakingAt, Look, Seen, Taking, emissions_by, emits_pieces, memory_pieces, reacted, with_left, with_seen}
use Rattle.fb_inspect.proofs.lemmas.reactions.ShowingLaws.{reaction_shows}

pub taking_there : (left : ℕ) (look : Look) (k : Kind) (l : Line) → l.taken ≡ true → (x : Taking) × (x.first ≡ l) × IsTakingAt left look (Some k) x
taking_there left look (Basic t) l taken =
    let b : Seen = look.blocks l.at in
    let p : Position = record { state = state_of b.memory; vars = with_values l.values b.variables; left = left; emitted = [] } in
    let reacts = chart_total t l.event p in
    let q : Position = reacts.1 in
    let shown = reaction_shows t l.event p reacts.0 q reacts.2 in
    let x : Taking =
    record {
      first = l;
      emits = q.emitted;
      pieces = shown.0;
      stop = reacts.0;
      after = with_seen l.at (record b { memory = InState q.state; variables = q.vars }) (with_left l.key q.left look);
    }
    in
    (x, refl, record { taken = taken; end = q; shown = shown.1; emitted = refl; is = refl })
taking_there left look (Event kind) l taken =
    let b : Seen = look.blocks l.at in
    let vars = with_values l.values b.variables in
    let r : blocks.Reaction = blocks.reaction kind (memory_of b.memory) l.event l.key.tick vars in
    let c : Seen = reacted b r vars b.due in
    let es : List Emission = emissions_by kind r in
    let x : Taking = record { first = l; emits = es; pieces = memory_pieces b c ++ emits_pieces es; stop = None; after = with_seen l.at c (with_left l.key left look) } in
    (x, refl, inl (record { taken = taken; goes_on = refl; is = (refl, refl, refl) }))
taking_there left look (Composite t) l taken =
    let x : Taking = record { first = l; emits = []; pieces = []; stop = None; after = with_left l.key left look } in
    (x, refl, record { none = refl; silent = refl; goes_on = refl; is = refl })
