-- A run over one agenda, piece by piece.
use Rattle.fb_sim.proofs.lemmas.Common.{◌≡◌, ℕ, ◌+◌, ◌<◌, List, [], ◌++◌, length, map, Option, Some, None, Err, sym, ap, ◌∙◌, subst, arith, append-nil, Appends, Appends-nil, Inputs, system_of, stimuli_of, line_of, Ending, opening, StopMark, AreGood, IsPartWritten, bounded, AreAll, Begin, RunsOn, WritesPartOf, after_bytes, text_of, Options, RunError, Refused, Memory, Write, BadOption, Failed}
use Rattle.fb_types.proofs.Common.{Taken, lines_of, Config}
use Rattle.fb_types.specs.States.{Line}
use Rattle.fb_laws.proofs.lemmas.soundness.Accepting.{sound_of}
use Rattle.fb_sim_machine.specs.Completions.{Completes, Reaches, ending_at}
use Rattle.fb_sim_machine.specs.Machines.{IsAt}
use Rattle.fb_sim_machine.specs.Pauses.{Pauses}
use Rattle.fb_sim_machine.specs.declared.machine.Machine.{Machine}
use Rattle.fb_sim_machine.specs.declared.pause.Pause.{Pause}
use Rattle.fb_sim_machine.specs.declared.pause.Pause.TheVariants.{Lines, Horizon, Stop}
use Rattle.fb_sim_machine.proofs.lemmas.JoinedRuns.{reaches_after, reaches_none, joins, lines_of-append}
use Rattle.fb_laws.proofs.lemmas.machine.Bridge.{all_each}
use Rattle.fb_laws.proofs.lemmas.existence.Existence.{there_is}
use Rattle.fb_sim.specs.OneAgenda.{RunsThrough}
use Rattle.fb_sim.proofs.lemmas.rounds.RunIs.{both_counted, both_got, joined}
use Rattle.fb_sim_machine.proofs.lemmas.Simulations.{begins}
use Rattle.fb_sim.proofs.lemmas.text.Texts.{part-after}

-- From the opening the machine has come this far, and the writer has got the text of all lines, of this many bytes.
pub record Gone (i : Inputs) (o : Options) (m : Machine) (old now : Option (List ℕ)) (n : ℕ) : Type 0 where
  pub at : Config
  pub taken : List Taken
  pub is : IsAt i at.state at.agenda m
  pub goes : Reaches i o.horizon o.steps (opening (system_of i) (stimuli_of i)) at taken
  pub got : Appends old now (text_of i o.form (lines_of taken))
  pub counted : n ≡ bounded (length (text_of i o.form (lines_of taken)))

module _ (i : Inputs) (o : Options) where
  abbrev start : Config
  start = opening (system_of i) (stimuli_of i)

  pub gone_first : (m : Machine) (old : Option (List ℕ)) → IsAt i start.state start.agenda m → Gone i o m old old 0
  gone_first m old is = record {
    at = start;
    taken = [];
    is = is;
    goes = reaches_none i o.horizon o.steps start;
    got = Appends-nil old;
    counted = omega arith;
  }

  -- What was taken is what the simulation takes first.
  begin_of : AreGood i → (d : Config) (ts : List Taken) → Reaches i o.horizon o.steps start d ts → Begin i o.steps o.horizon (lines_of ts)
  begin_of good d ts goes =
      let x = there_is (system_of i) (sound_of i good) o.horizon o.steps (stimuli_of i) in
      let b = begins (system_of i) o.steps o.horizon o.horizon (omega arith) ts x.0 start goes.chain x.1.chain (all_each (λ (t : Taken). t.key.tick < o.horizon) ts goes.below) x.1.rests in
      record {
        takings = x.0;
        simulation = x.1;
        rest = lines_of b.0;
        split = ap lines_of b.1 ∙ lines_of-append ts b.0;
      }

  all_begin : (ls : List Line) (end : Ending) → AreAll i o.steps o.horizon ls end → Begin i o.steps o.horizon ls
  all_begin ls end all = record {
    takings = all.takings;
    simulation = all.simulation;
    rest = [];
    split = sym all.lines ∙ sym (append-nil ls);
  }

  module _ (m new : Machine) (old mid : Option (List ℕ)) (n : ℕ) (g : Gone i o m old mid n) (none : m.traffic.outbox.lines.items ≡ []) where
    -- the lines of the piece
    abbrev piece : List Line
    piece = map (line_of (system_of i)) new.traffic.outbox.lines.items

    after_none : (ts : List Taken) → piece ≡ map (line_of (system_of i)) m.traffic.outbox.lines.items ++ lines_of ts → piece ≡ lines_of ts
    after_none ts is = is ∙ ap (λ z. map (line_of (system_of i)) z ++ lines_of ts) none

    all_of : (stop : Option StopMark) → Completes i o.horizon o.steps g.at m.traffic.outbox.lines.items new.traffic.outbox.lines.items stop
        → AreAll i o.steps o.horizon (lines_of g.taken ++ piece) (ending_at o.horizon stop)
    all_of stop rest =
        let whole = joins i o.horizon o.steps start g.at g.taken m.traffic.outbox.lines.items new.traffic.outbox.lines.items stop g.goes rest in
        record {
          takings = g.taken ++ rest.taken;
          simulation = record { chain = whole.chain; below = whole.below; rests = whole.rests };
          lines = ap (λ z. lines_of g.taken ++ z) (after_none rest.taken rest.lines) ∙ sym (lines_of-append g.taken rest.taken);
          ending = whole.ending;
        }

    -- what was written before, and the piece
    both_begin : AreGood i → (p : Pause) → Pauses i o.horizon o.steps g.at m new p → Begin i o.steps o.horizon (lines_of g.taken ++ piece)
    both_begin good Lines p =
        let ts = p.1 in
        subst (λ (ls : List Line). Begin i o.steps o.horizon ls) (lines_of-append g.taken ts ∙ ap (λ z. lines_of g.taken ++ z) (sym (after_none ts p.4)))
        (begin_of good p.0 (g.taken ++ ts) (reaches_after i o.horizon o.steps start g.at p.0 g.taken ts g.goes p.3))
    both_begin good Horizon p = all_begin (lines_of g.taken ++ piece) (ending_at o.horizon None) (all_of None p)
    both_begin good (Stop k) p = all_begin (lines_of g.taken ++ piece) (ending_at o.horizon (Some k)) (all_of (Some k) p.1)

    module _ (now : Option (List ℕ)) (k : ℕ) (got : Appends mid now (text_of i o.form piece)) (counted : k ≡ bounded (length (text_of i o.form piece))) where
      got_both : Appends old now (text_of i o.form (lines_of g.taken ++ piece))
      got_both = both_got i o old mid now (lines_of g.taken) piece g.got got

      counted_both : bounded (n + k) ≡ bounded (length (text_of i o.form (lines_of g.taken ++ piece)))
      counted_both = both_counted i o (lines_of g.taken) piece n k g.counted counted

      pub gone_more : (next : Machine) → (p : Pauses i o.horizon o.steps g.at m new Lines) → (IsAt i p.0.state p.0.agenda new → IsAt i p.0.state p.0.agenda next)
          → Gone i o next old now (bounded (n + k))
      gone_more next p on =
          let ts = p.1 in
          let same : lines_of g.taken ++ piece ≡ lines_of (g.taken ++ ts) = ap (λ z. lines_of g.taken ++ z) (after_none ts p.4) ∙ sym (lines_of-append g.taken ts) in
          record {
            at = p.0;
            taken = g.taken ++ ts;
            is = on p.2;
            goes = reaches_after i o.horizon o.steps start g.at p.0 g.taken ts g.goes p.3;
            got = subst (λ (ls : List Line). Appends old now (text_of i o.form ls)) same got_both;
            counted = subst (λ (ls : List Line). bounded (n + k) ≡ bounded (length (text_of i o.form ls))) same counted_both;
          }

      through : (stop : Option StopMark) → Completes i o.horizon o.steps g.at m.traffic.outbox.lines.items new.traffic.outbox.lines.items stop
          → RunsThrough i o old now (ending_at o.horizon stop) (bounded (n + k))
      through stop rest = record {
        out = lines_of g.taken ++ piece;
        all = all_of stop rest;
        got = got_both;
        counted = counted_both;
      }

      pub through_horizon : Pauses i o.horizon o.steps g.at m new Horizon → RunsThrough i o old now (ending_at o.horizon None) (bounded (n + k))
      through_horizon p = through None p

      pub through_stop : (mark : StopMark) → Pauses i o.horizon o.steps g.at m new (Stop mark) → RunsThrough i o old now (ending_at o.horizon (Some mark)) (bounded (n + k))
      through_stop mark p = through (Some mark) p.1

    -- a writer that failed in the piece
    pub gone_short : AreGood i → (now : Option (List ℕ)) (p : Pause) → Pauses i o.horizon o.steps g.at m new p → (e : RunError) → WritesPartOf mid now (text_of i o.form piece) e
        → RunsOn i o [] old now (Err (after_bytes n e))
    gone_short good now p pauses (Write w) s = (
      lines_of g.taken ++ piece,
      both_begin good p pauses,
      subst (λ (t : List ℕ). IsPartWritten old now t (bounded (n + w))) (joined i o (lines_of g.taken) piece) (part-after (text_of i o.form (lines_of g.taken)) g.got g.counted s),
    )
    gone_short good now p pauses (Refused r) s = absurd s
    gone_short good now p pauses Memory s = absurd s
    gone_short good now p pauses BadOption s = absurd s
    gone_short good now p pauses Failed s = absurd s

  -- The next piece ran out of memory.
  pub gone_out_of_memory : AreGood i → (m : Machine) (old mid : Option (List ℕ)) (n : ℕ) → Gone i o m old mid n → RunsOn i o [] old mid (Err Memory)
  gone_out_of_memory good m old mid n g = (lines_of g.taken, begin_of good g.at g.taken g.goes, g.got)
