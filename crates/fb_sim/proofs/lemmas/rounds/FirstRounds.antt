-- The first rounds of a run, whose text waits in memory, and what comes after.
use Rattle.fb_sim.proofs.lemmas.Common.{◌≡◌, ◌≤◌, ◌<◌, ℕ, ◌+◌, List, [], ◌++◌, length, take, take-append-drop, append-nil, length-append, Option, Some, Ok, Err, sym, ap, ◌∙◌, subst, arith, Appends, Inputs, AtHorizon, AtStop, AreGood, IsPartWritten, bounded, CoreState, Begin, RunsOn, after_bytes, text_of, AtEnd, AtMark, Options, RunError, Refused, Memory, Write, BadOption, Failed, Written, Going}
use Rattle.std.proofs.Common.{drop_of_length-le}
use Rattle.fb_types.specs.States.{Line}
use Rattle.fb_sim.specs.Rounds.{HasBegun, HasRunOut, IsFinished, AreFirstRounds}
use Rattle.fb_sim.specs.declared.rounds.all_rounds.Finish.{Finish}
use Rattle.fb_sim.specs.declared.rounds.first_rounds.FirstRounds.{FirstRounds}
use Rattle.fb_sim.specs.declared.rounds.first_rounds.FirstRounds.TheVariants as legs
use Rattle.fb_sim.proofs.lemmas.rounds.RoundIs.{all_begin, come_begins}
use Rattle.fb_sim.proofs.lemmas.rounds.RunIs.{CameLast, both_counted, both_got, joined}
use Rattle.fb_sim.proofs.lemmas.text.Texts.{part-after}

module _ (i : Inputs) (o : Options) where
  -- what was written into memory that held nothing
  pub leg_going : (core : CoreState) (old new : List ℕ) (w : Written) → old ≡ [] → CameLast i o [] (Going core) (Some old) (Some new) w → HasBegun i o core w new
  leg_going core old new w none l =
      let is : new ≡ text_of i o.form l.out = l.wrote.got ∙ ap (λ z. z ++ text_of i o.form l.out) none in
      record {
        out = l.out;
        come = l.after.0;
        is = is;
        counted = l.wrote.counted ∙ ap (λ (t : List ℕ). bounded (length t)) (sym is);
        lined = l.wrote.lined;
      }

  pub leg_over : (finish : Finish) (old new : List ℕ) (w : Written) → old ≡ [] → RunsOn i o [] (Some old) (Some new) (Ok (finish, w)) → HasRunOut i o finish w new
  leg_over finish old new w none r =
      let is : new ≡ text_of i o.form r.0 = r.2 ∙ ap (λ z. z ++ text_of i o.form r.0) none in
      record {
        out = r.0;
        finished = r.1;
        is = is;
        counted = r.3 ∙ ap (λ (t : List ℕ). bounded (length t)) (sym is);
        lined = r.4;
      }

  -- ---- The text is written

  finished_begins : (finish : Finish) (ls : List Line) → IsFinished i o.steps o.horizon finish ls → AreGood i → Begin i o.steps o.horizon ls
  finished_begins (AtEnd core) ls f good = all_begin i good o.steps o.horizon ls (AtHorizon o.horizon) f.2
  finished_begins (AtMark mark) ls f good = all_begin i good o.steps o.horizon ls (AtStop mark.tick mark.resource mark.reason) f.1

  module _ (text : List ℕ) (w : Written) (count : ℕ) (old mid : Option (List ℕ)) (got : Appends old mid (take count text)) where
    -- a writer that failed in it
    part_of : (out : List Line) → text ≡ text_of i o.form out → count < length text → IsPartWritten old mid (text_of i o.form out) (bounded (0 + count))
    part_of out is short = subst (λ (t : List ℕ). IsPartWritten old mid t (bounded (0 + count))) is (record {
      count = count;
      short = short;
      got = got;
      counted = omega arith;
    })

    pub leg_short : AreGood i → (first_rounds : FirstRounds) → AreFirstRounds i o first_rounds w text → count < length text → RunsOn i o [] old mid (Err (after_bytes 0 (Write count)))
    leg_short good (legs.Going core) h short = (h.out, come_begins i good o.steps o.horizon core h.out h.come, part_of h.out h.is short)
    leg_short good (legs.Over finish) h short = (h.out, finished_begins finish h.out h.finished good, part_of h.out h.is short)

    module _ (all : length text ≤ count) where
      whole : take count text ≡ text
      whole = sym (append-nil (take count text)) ∙ ap (λ z. take count text ++ z) (sym (drop_of_length-le text {i = count} all)) ∙ take-append-drop count text

      got_whole : (out : List Line) → text ≡ text_of i o.form out → Appends old mid (text_of i o.form out)
      got_whole out is = subst (λ (t : List ℕ). Appends old mid t) (whole ∙ is) got

      counted_as : (out : List Line) → text ≡ text_of i o.form out → w.bytes ≡ bounded (length text) → w.bytes ≡ bounded (length (text_of i o.form out))
      counted_as out is counted = counted ∙ ap (λ (t : List ℕ). bounded (length t)) is

      -- there is nothing more to run
      pub leg_ended : (finish : Finish) → HasRunOut i o finish w text → RunsOn i o [] old mid (Ok (finish, w))
      leg_ended finish h = (h.out, h.finished, got_whole h.out h.is, counted_as h.out h.is h.counted, h.lined)

      both_lined : (ks ms : List Line) (n m : ℕ) → n ≡ bounded (length ks) → m ≡ bounded (length ms) → bounded (n + m) ≡ bounded (length (ks ++ ms))
      both_lined ks ms n m a b = rw length-append (omega (arith, a, b))

      module _ (core : CoreState) (h : HasBegun i o core w text) (new : Option (List ℕ)) where
        -- with what was written before
        abbrev with : Written → Written
        with m = record { bytes = bounded (w.bytes + m.bytes); lines = bounded (w.lines + m.lines) }

        pub leg_on : (finish : Finish) (m : Written) → RunsOn i o h.out mid new (Ok (finish, m)) → RunsOn i o [] old new (Ok (finish, with m))
        leg_on finish m r = (
          h.out ++ r.0,
          r.1,
          both_got i o old mid new h.out r.0 (got_whole h.out h.is) r.2,
          both_counted i o h.out r.0 w.bytes m.bytes (counted_as h.out h.is h.counted) r.3,
          both_lined h.out r.0 w.lines m.lines h.lined r.4,
        )

        pub leg_failed : (e : RunError) → RunsOn i o h.out mid new (Err e) → RunsOn i o [] old new (Err (after_bytes w.bytes e))
        leg_failed (Write n) r = (
          h.out ++ r.0,
          r.1,
          subst (λ (t : List ℕ). IsPartWritten old new t (bounded (w.bytes + n))) (joined i o h.out r.0)
              (part-after (text_of i o.form h.out) (got_whole h.out h.is) (counted_as h.out h.is h.counted) r.2),
        )
        leg_failed Memory r = (h.out ++ r.0, r.1, both_got i o old mid new h.out r.0 (got_whole h.out h.is) r.2)
        leg_failed (Refused x) bad = absurd bad
        leg_failed BadOption bad = absurd bad
        leg_failed Failed bad = absurd bad
