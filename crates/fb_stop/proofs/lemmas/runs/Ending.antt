-- How a run that was looked at event by event ends.
use Rattle.fb_types.proofs.Common.{◌≡◌, ◌<◌, ℕ, List, [], ◌∷◌, Some, None, refl, sym, ap, subst, ◌∙◌, option_map, Inputs, system_of, stimuli_of, NoneBelow, Precedes, Each, AtHorizon, Ending, RestsAt, Taken, TakesLeast, ending_by, ending_of, last, opening, Config}
use Rattle.fb_types.specs.declared.key.Key.{Key}
use Rattle.fb_types.specs.declared.run.Event.{Event}
use Rattle.fb_agenda.specs.Agendas.{Contents, waiting}
use Rattle.fb_net.specs.Events.{event_of}
use Rattle.fb_resource.specs.Waiting.{meaning}
use Rattle.fb_sim_machine.specs.Completions.{Reaches}
use Rattle.fb_stop.specs.Copies.{HasStopped}
use Rattle.fb_stop.specs.Found.{IsSite, IsStop, NeverStops}
use Rattle.fb_stop.specs.declared.found.FoundStop.{FoundStop}

ends_none : (horizon : ℕ) (ts : List Taken) → Each (λ (t : Taken). t.effect.stop ≡ None) ts → ending_of horizon ts ≡ AtHorizon horizon
ends_none horizon [] goes = refl
ends_none horizon (t ∷ ts) goes = ap (λ s. ending_by s t.key (ending_of horizon ts)) goes.0 ∙ ends_none horizon ts goes.1

module _ (i : Inputs) (horizon limit : ℕ) (d : Config) (taken : List Taken) (reaches : Reaches i horizon limit (opening (system_of i) (stimuli_of i)) d taken)
    (old : Contents) (agenda : (j : Key) → d.agenda j ≡ meaning i old j) where
  -- nothing is left below the horizon
  pub never_stops : ((j : Key) → j.tick < horizon → waiting old j ≡ None) → NeverStops i horizon limit
  never_stops none =
      let ends = ends_none horizon taken reaches.going in
      record {
        taken = taken;
        simulation = record {
          chain = reaches.chain;
          below = reaches.below;
          rests = subst (λ (e : Ending). RestsAt horizon e (last (opening (system_of i) (stimuli_of i)) taken).agenda) (sym ends)
              (subst (λ (c : Config). NoneBelow c.agenda horizon) (sym reaches.leads) (λ j lt. agenda j ∙ ap (option_map (event_of i)) (none j lt)));
        };
        ending = ends;
      }

  -- the least event stops the run
  pub is_stop : (k : Key) (e : Event) (f : FoundStop) → waiting old k ≡ Some e → ((q : Key) → Precedes q k → waiting old q ≡ None) → k.tick < horizon
      → HasStopped i limit d.state k (event_of i e) f → IsStop i horizon limit f
  is_stop k e f found least below stop = record {
    before = d;
    taken = taken;
    reaches = reaches;
    event = event_of i e;
    effect = stop.effect;
    takes = subst (λ (j : Key). TakesLeast (system_of i) limit d (record { key = j; event = event_of i e; effect = stop.effect })) (sym stop.key)
        (record {
          waits = agenda k ∙ ap (option_map (event_of i)) found;
          least = λ j pre. agenda j ∙ ap (option_map (event_of i)) (least j pre);
          takes = stop.takes;
        });
    below = subst (λ (j : Key). j.tick < horizon) (sym stop.key) below;
    stops = stop.stops;
    arrives = stop.arrives;
    site = subst (λ (j : Key). IsSite (system_of i) limit d.state j (event_of i e) f.reason f.at f.site) (sym stop.key) stop.site;
  }
