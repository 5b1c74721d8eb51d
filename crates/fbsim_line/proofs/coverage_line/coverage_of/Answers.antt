use Rattle.fb_types.proofs.Common.{◌∙◌, ℕ, List, Bor, Option, option_map, subst, sym, ap, codes, Some, map, IfNone}
use Rattle.clap.specs.Words.{Text, found_of, rows_of}
use Rattle.clap.proofs.WalkLemmas.{first_value-rows, raw_values-rows}
use Rattle.fbsim_line.specs.Line.{IsNumber}
use Rattle.fbsim_line.proofs.lemmas.LineLaws.{may_be_number, no_covered, no_covered_limit, no_covered_traces}
use Rattle.fbsim_line.proofs.coverage_line.coverage_of.Goals as goal
use Rattle.fbsim_line.proofs.coverage_line.coverage_of.Goals.{in_default-via-in-Some+in-Some+in_default, in_default-via-in-Some+in_default, in_default-via-in_default}

abbrev texts : Option (Bor (List (Bor Text))) → Option (List Text)
texts o = option_map (λ (s : Bor (List (Bor Text))). map (λ (v : Bor Text). v.now) s.now) o

pub returns-clause-rows : goal.returns-clause-rows
returns-clause-rows c =
    let m = found_of c.args.found.now in
    let given = c.in-Some-Some-Some in (
      record {
        declaration = sym (first_value-rows m (codes "DECL")) ∙ sym given.ensures;
        deploy = sym (first_value-rows m (codes "deploy")) ∙ sym c.get_str-deploy.ensures;
        traces =
            sym (raw_values-rows m (codes "TRACE")) ∙ sym given.ensures'
            ∙ ap (λ (vs : List (Bor Text)). Some (map (λ (v : Bor Text). v.now) vs)) (sym c.in_ok-traces.ensures.items);
        steps = given.ensures''.number;
        least = may_be_number _ _ _ c.number-least.ensures.number c.number-least.ensures.none;
        cut = c.has_flag.ensures;
        why = c.asks_why.ensures;
      },
      c.in_ok-types.ensures,
    )

pub returns-in_default-clause-none : goal.returns-in_default-clause-none
returns-in_default-clause-none c =
    let m = found_of c.args.found.now in
    elim c.in_default.branch [
      | in_default-via-in-Some+in-Some+in_default w ↦
          no_covered_limit (rows_of m) (subst (λ (o : Option ℕ). IfNone o ((n : ℕ) → IsNumber (rows_of m) (codes "steps") n → ⊥)) w.in_default.is-2 c.number.ensures.none)
      | in_default-via-in-Some+in_default w ↦
          no_covered_traces (rows_of m) (sym (raw_values-rows m (codes "TRACE")) ∙ sym c.get_strs.ensures ∙ ap texts w.in_default.is-1)
      | in_default-via-in_default w ↦
          no_covered (rows_of m) (sym (first_value-rows m (codes "DECL")) ∙ sym c.get_str.ensures ∙ ap (option_map (λ (t : Bor (List ℕ)). t.now)) w.in_default.is-0)
    ]
