use Rattle.std.proofs.Common.{rules, ◌≡◌, sym, ◌∙◌, ap, codes, map, option_map, Bor, List, Option, Some, None}
use Rattle.clap.specs.Words.{Text, found_of, first_value, rows_of}
use Rattle.clap.proofs.WalkLemmas.{first_value-rows, raw_values-rows}
use Rattle.fbsim_line.specs.Line.{declares_nothing}
use Rattle.fbsim_line.proofs.lemmas.LineLaws.{declares_alone, no_rules, no_traces}
use Rattle.fbsim_line.proofs.bench_line.expect_of.Goals as goal

abbrev texts : Option (Bor (List (Bor Text))) → Option (List Text)
texts o = option_map (λ (s : Bor (List (Bor Text))). map (λ (v : Bor Text). v.now) s.now) o

pub returns-in_default-clause-none : goal.returns-in_default-clause-none
returns-in_default-clause-none c =
    let m = found_of c.args.found.now in
    let none : first_value m (codes "RULES") ≡ None = search rules in
    no_rules (rows_of m) (sym (first_value-rows m (codes "RULES")) ∙ none)

pub returns-in_default-get_strs-clause-none : goal.returns-in_default-get_strs-clause-none
returns-in_default-get_strs-clause-none c =
    let m = found_of c.args.found.now in
    no_traces (rows_of m) (sym (raw_values-rows m (codes "TRACE")) ∙ sym c.get_strs.ensures ∙ ap texts c.in_default-get_strs.is)

pub returns-then-declares_nothing-clause-none : goal.returns-then-declares_nothing-clause-none
returns-then-declares_nothing-clause-none c =
    let m = found_of c.args.found.now in
    declares_alone (rows_of m) _ _ _ (sym (first_value-rows m (codes "decl")) ∙ sym c.get_str-declaration.ensures) (sym (first_value-rows m (codes "deploy")) ∙ sym c.get_str-deploy.ensures)
    (c.in_ok-types.ensures ∙ ap (map (λ (v : Bor Text). v.now)) (sym c.as_slice.ensures.value)) (sym c.declares_nothing.ensures ∙ c.if-declares_nothing.true)

pub returns-clause-rows : goal.returns-clause-rows
returns-clause-rows c =
    let m = found_of c.args.found.now in
    let named : first_value m (codes "RULES") ≡ Some c.in-Some.rules.now = search rules in
    record {
      rules = sym (first_value-rows m (codes "RULES")) ∙ named;
      traces =
          sym (raw_values-rows m (codes "TRACE")) ∙ sym c.get_strs.ensures ∙ ap texts c.in-Some-get_strs.is
          ∙ ap (λ (vs : List (Bor Text)). Some (map (λ (v : Bor Text). v.now) vs)) (sym c.in_ok-traces.ensures.items);
      declaration = sym (first_value-rows m (codes "decl")) ∙ sym c.get_str-declaration.ensures;
      deploy = sym (first_value-rows m (codes "deploy")) ∙ sym c.get_str-deploy.ensures;
      types = c.in_ok-types.ensures;
      of_a_declaration =
          ap (λ (ns : List (Bor Text)). declares_nothing (option_map (λ (n : Bor Text). n.now) c.get_str-declaration.result) (option_map (λ (n : Bor Text). n.now) c.get_str-deploy.result) (map (λ (v : Bor Text). v.now) ns))
          (sym c.as_slice.ensures.value)
          ∙ sym c.declares_nothing.ensures ∙ c.if-declares_nothing.false;
      strict = c.has_flag.ensures;
      applied = c.has_flag-2.ensures;
      cut = c.has_flag-3.ensures;
      junit = c.has_flag-4.ensures;
      why = c.asks_why.ensures;
    }
