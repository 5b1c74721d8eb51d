use Rattle.fb_types.proofs.Common.{◌∙◌, ℕ, List, Bor, Option, option_map, subst, sym, ap, codes, IfNone}
use Rattle.fb_types.specs.declared.run.Form.{Form}
use Rattle.clap.specs.Words.{found_of, rows_of}
use Rattle.clap.proofs.WalkLemmas.{first_value-rows}
use Rattle.fbsim_line.specs.Line.{IsForm, IsNumber}
use Rattle.fbsim_line.proofs.lemmas.LineLaws.{no_spoken, no_spoken_form, no_spoken_limit}
use Rattle.fbsim_line.proofs.session_line.session_of.Goals as goal
use Rattle.fbsim_line.proofs.session_line.session_of.Goals.{in_default-via-in-Some+in-Some+in_default, in_default-via-in-Some+in_default, in_default-via-in_default}

pub returns-clause-rows : goal.returns-clause-rows
returns-clause-rows c =
    let m = found_of c.args.found.now in
    let given = c.in-Some-Some-Some in (
      record {
        declaration = sym (first_value-rows m (codes "DECL")) ∙ sym given.ensures;
        deploy = sym (first_value-rows m (codes "deploy")) ∙ sym c.get_str-2.ensures;
        stimuli = sym (first_value-rows m (codes "stim")) ∙ sym c.get_str-3.ensures;
        steps = given.ensures'.number;
        form = given.ensures''.form;
      },
      c.in_ok-types.ensures,
    )

pub returns-in_default-clause-none : goal.returns-in_default-clause-none
returns-in_default-clause-none c =
    let m = found_of c.args.found.now in
    elim c.in_default.branch [
      | in_default-via-in-Some+in-Some+in_default w ↦
          no_spoken_form (rows_of m) (subst (λ (o : Option Form). IfNone o ((f : Form) → IsForm (rows_of m) f → ⊥)) w.in_default.is-2 c.form_of.ensures.none)
      | in_default-via-in-Some+in_default w ↦
          no_spoken_limit (rows_of m) (subst (λ (o : Option ℕ). IfNone o ((n : ℕ) → IsNumber (rows_of m) (codes "steps") n → ⊥)) w.in_default.is-1 c.number.ensures.none)
      | in_default-via-in_default w ↦
          no_spoken (rows_of m) (sym (first_value-rows m (codes "DECL")) ∙ sym c.get_str.ensures ∙ ap (option_map (λ (t : Bor (List ℕ)). t.now)) w.in_default.is-0)
    ]
