use Rattle.fb_window.proofs.lemmas.Common.{◌≡◌, ◌<◌, length, refl, sym, subst, ◌∙◌, arith, slice_set, length-set, slice_get_read, Resource, AreCurrent}
use Rattle.fb_laws.proofs.lemmas.lists.Indexes.{one_at}
use Rattle.fb_window.proofs.lemmas.messages.Receives.{set_same}
use Rattle.fb_window.proofs.turn_series.TurnSeries.hand.Goals as goal
use Rattle.fb_window.proofs.turn_series.TurnSeries.hand.Goals.{After-index}

-- the resource that has received them, where it is looked at again
looked : (c : After-index) → c.index.result.now ≡ c.receive.new.self
looked c =
    let xs = c.args.self.now.core.now.resources.items in
    let index = c.args.index in
    let after = c.receive.new.self in
    let within : index < length xs = c.requires.index in
    let same = length-set xs index after in
    one_at (slice_set xs index after) index c.index.result.now after (slice_get_read (slice_set xs index after) (length (slice_set xs index after)) index c.index.result.now refl (omega arith) c.index.ensures) (set_same xs index after within)

pub returns-in-Ok-clause-handed : goal.returns-in-Ok-clause-handed
returns-in-Ok-clause-handed c =
    let xs = c.args.self.now.core.now.resources.items in
    record {
      handed = record {
        before = c.index_mut.result.now;
        after = c.receive.new.self;
        was = slice_get_read xs (length xs) c.args.index c.index_mut.result.now refl c.requires.index c.index_mut.ensures.value;
        received = c.in-Ok.ensures.received;
        set = refl;
      };
      pending = refl;
    }

pub returns-in-Ok-clause-may : goal.returns-in-Ok-clause-may
returns-in-Ok-clause-may c =
    let d = (goal.at.returns-in-Ok-clause-may c).After-index in
    let may = c.requires.may in
    let xs = c.args.self.now.core.now.resources.items in
    let count = length-set xs c.args.index c.receive.new.self in
    record {
      of = may.of;
      few_steps = may.few_steps;
      counted = count ∙ may.counted;
      pending = may.pending ∙ sym count;
      current =
          subst (λ (z : Resource). AreCurrent c.look_again.new.self.horizon (slice_set xs c.args.index z) c.look_again.new.self.ticks.items) (looked d)
          (c.look_again.ensures.current xs may.current);
    }
