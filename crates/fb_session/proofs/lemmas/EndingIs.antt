-- What a session tells is the trace, or a beginning of it.
use Rattle.fb_types.proofs.Common.{◌≡◌, ℕ, ◌<◌, ◌≤◌, List, [], ◌∷◌, ◌++◌, All, None, Option, refl, sym, ap, ◌∙◌, subst, arith, append_assoc, append-nil, Inputs, IsTrace, system_of, stimuli_of, Each, AtHorizon, AtStop, Chain, Ending, RestsAt, Taken, ending_by, ending_of, last, last_line}
use Rattle.fb_types.specs.declared.run.Form.{Form}
use Rattle.fb_types.specs.declared.run.StopMark.{StopMark}
use Rattle.fb_types.specs.declared.value.Reason.{Reason}
use Rattle.fb_laws.specs.Sound.{AreGood}
use Rattle.fb_laws.proofs.lemmas.soundness.Accepting.{sound_of}
use Rattle.fb_laws.proofs.lemmas.machine.Bridge.{all_each}
use Rattle.fb_laws.proofs.lemmas.existence.Existence.{there_is}
use Rattle.fb_sim_machine.proofs.lemmas.Simulations.{begins}
use Rattle.fb_session.specs.Going.{IsFront, ToldIsFront}
use Rattle.fb_session.specs.Pasts.{EndsBy, Past, StandsBy, Talk, opening_with, stop_text, told, with_rows}
use Rattle.fb_session.specs.Running.{text_of}
use Rattle.fb_session.specs.declared.stage.Stage.{Stage}
use Rattle.fb_session.specs.declared.stage.Stage.TheVariants as stage
use Rattle.fb_session.proofs.lemmas.Texts.{text-append}

-- what ends at its horizon
pub ending_none : (h : ℕ) (ts : List Taken) → Each (λ (t : Taken). t.effect.stop ≡ None) ts → ending_of h ts ≡ AtHorizon h
ending_none h [] going = refl
ending_none h (t ∷ ts) going = ap (λ (s : Option Reason). ending_by s t.key (ending_of h ts)) going.0 ∙ ending_none h ts going.1

-- what was told, what comes, and the last line
joined_text : (i : Inputs) (form : Form) (ts more : List Taken) (end : List ℕ) → (text_of i form ts ++ []) ++ (text_of i form more ++ end) ≡ text_of i form (ts ++ more) ++ end
joined_text i form ts more end =
    ap (λ (x : List ℕ). x ++ (text_of i form more ++ end)) (append-nil (text_of i form ts)) ∙ sym (append_assoc (text_of i form ts) (text_of i form more) end)
    ∙ ap (λ (x : List ℕ). x ++ end) (sym (text-append i form ts more))

module _ (old : Talk) (p : Past) where
  abbrev i : Inputs
  i = old.inputs

  pub whole_on : old.stage ≡ stage.Running → (to : ℕ) (more : List Taken) (end : Ending) → Chain (system_of i) old.steps (opening_with i p.given) (p.taken ++ more)
      → All (λ (x : Taken). x.key.tick < to) (p.taken ++ more) → ending_of to (p.taken ++ more) ≡ end → RestsAt to end (last (opening_with i p.given) (p.taken ++ more)).agenda
      → IsTrace (with_rows i p.given) old.form to old.steps (told old p ++ (text_of i old.form more ++ last_line (system_of i) end)) end
  whole_on running to more end chain below is rests = record {
    takings = p.taken ++ more;
    simulation = record {
      chain = chain;
      below = below;
      rests = subst (λ (e : Ending). RestsAt to e (last (opening_with i p.given) (p.taken ++ more)).agenda) (sym is) rests;
    };
    ending = sym is;
    text =
        ap (λ (z : Stage). (text_of i old.form p.taken ++ stop_text (system_of i) z) ++ (text_of i old.form more ++ last_line (system_of i) end)) running
        ∙ joined_text i old.form p.taken more (last_line (system_of i) end);
  }

  pub whole_stopped : StandsBy old p → (to : ℕ) (s : StopMark) → old.stage ≡ stage.Stopped s → old.reached ≤ to
      → IsTrace (with_rows i p.given) old.form to old.steps (told old p) (AtStop s.tick s.resource s.reason)
  whole_stopped was to s stopped later =
      let ends = subst (λ (z : Stage). EndsBy z p.taken) stopped was.ends in
      record {
        takings = p.taken;
        simulation = record {
          chain = was.chain;
          below = λ j d less. let b = was.before j d less in omega (arith, b, later);
          rests = subst (λ (e : Ending). RestsAt to e (last (opening_with i p.given) p.taken).agenda) (sym (ends to)) tt;
        };
        ending = sym (ends to);
        text = ap (λ (z : Stage). text_of i old.form p.taken ++ stop_text (system_of i) z) stopped;
      }

  front_on : AreGood i → StandsBy old p → stop_text (system_of i) old.stage ≡ [] → IsFront old p (told old p)
  front_on good was none =
      let x = there_is (system_of i) (sound_of i good) old.reached old.steps (stimuli_of (with_rows i p.given)) in
      let b = begins (system_of i) old.steps old.reached old.reached (omega arith) p.taken x.0 (opening_with i p.given) was.chain x.1.chain
      (all_each (λ (t : Taken). t.key.tick < old.reached) p.taken was.before) x.1.rests in
      let end = last_line (system_of i) (ending_of old.reached x.0) in
      record {
        horizon = old.reached;
        end = ending_of old.reached x.0;
        rest = text_of i old.form b.0 ++ end;
        trace = record {
          takings = x.0;
          simulation = x.1;
          ending = refl;
          text =
              ap (λ (z : List ℕ). (text_of i old.form p.taken ++ z) ++ (text_of i old.form b.0 ++ end)) none
              ∙ joined_text i old.form p.taken b.0 end ∙ ap (λ ts. text_of i old.form ts ++ end) (sym b.1);
        };
      }

  front : AreGood i → StandsBy old p → (s : Stage) → old.stage ≡ s → IsFront old p (told old p)
  front good was stage.Running is = front_on good was (ap (stop_text (system_of i)) is)
  front good was (stage.Failed fault) is = front_on good was (ap (stop_text (system_of i)) is)
  front good was (stage.Stopped s) is = record {
    horizon = old.reached;
    end = AtStop s.tick s.resource s.reason;
    rest = [];
    trace =
        subst (λ (x : List ℕ). IsTrace (with_rows i p.given) old.form old.reached old.steps x (AtStop s.tick s.resource s.reason)) (sym (append-nil (told old p)))
        (whole_stopped was old.reached s is (omega arith));
  }

pub told_is_front : ToldIsFront
told_is_front t p good was = front t p good was t.stage refl
