use Rattle.fb_types.proofs.Common.{◌∙◌, ℕ, List, Bor, Option, option_map, subst, sym, ap, codes, IfNone}
use Rattle.clap.specs.Words.{found_of, rows_of}
use Rattle.clap.proofs.WalkLemmas.{first_value-rows}
use Rattle.fbsim_line.specs.Line.{IsNumber}
use Rattle.fbsim_line.proofs.lemmas.LineLaws.{no_source, no_trace, no_wave_limit}
use Rattle.fbsim_line.proofs.line.wave_of.Goals as goal
use Rattle.fbsim_line.proofs.line.wave_of.Goals.{in_default-via-in-Some+in-Some+in_default, in_default-via-in-Some+in_default, in_default-via-in_default}

pub returns-clause-rows : goal.returns-clause-rows
returns-clause-rows c =
    let m = found_of c.args.found.now in
    let given = c.in-Some-Some-Some in (
      record {
        declaration = sym (first_value-rows m (codes "DECL")) ∙ sym given.ensures;
        deploy = sym (first_value-rows m (codes "deploy")) ∙ sym c.get_str-deploy.ensures;
        trace = sym (first_value-rows m (codes "TRACE")) ∙ sym given.ensures';
        cut = c.has_flag.ensures;
        states = c.has_flag-2.ensures;
        steps = given.ensures''.number;
        why = c.asks_why.ensures;
      },
      c.in_ok-types.ensures,
    )

pub returns-in_default-clause-none : goal.returns-in_default-clause-none
returns-in_default-clause-none c =
    let m = found_of c.args.found.now in
    elim c.in_default.branch [
      | in_default-via-in-Some+in-Some+in_default w ↦
          no_wave_limit (rows_of m) (subst (λ (o : Option ℕ). IfNone o ((n : ℕ) → IsNumber (rows_of m) (codes "steps") n → ⊥)) w.in_default.is-2 c.number.ensures.none)
      | in_default-via-in-Some+in_default w ↦
          no_trace (rows_of m) (sym (first_value-rows m (codes "TRACE")) ∙ sym c.get_str-2.ensures ∙ ap (option_map (λ (t : Bor (List ℕ)). t.now)) w.in_default.is-1)
      | in_default-via-in_default w ↦
          no_source (rows_of m) (sym (first_value-rows m (codes "DECL")) ∙ sym c.get_str.ensures ∙ ap (option_map (λ (t : Bor (List ℕ)). t.now)) w.in_default.is-0)
    ]
