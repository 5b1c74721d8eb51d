use Rattle.std.proofs.Common.{rules, ◌≡◌, sym, ◌∙◌, codes, Some, None}
use Rattle.clap.specs.Words.{found_of, first_value, rows_of}
use Rattle.clap.proofs.WalkLemmas.{first_value-rows}
use Rattle.fbsim_line.proofs.lemmas.LineLaws.{no_drawing}
use Rattle.fbsim_line.proofs.draw_line.draw_of.Goals as goal

pub returns-clause-rows : goal.returns-clause-rows
returns-clause-rows c =
    let m = found_of c.args.found.now in
    let named : first_value m (codes "DECL") ≡ Some c.in-Some.declaration.now = search rules in (
      record {
        declaration = sym (first_value-rows m (codes "DECL")) ∙ named;
        deploy = sym (first_value-rows m (codes "deploy")) ∙ sym c.get_str-deploy.ensures;
        block_type = sym (first_value-rows m (codes "type")) ∙ sym c.get_str-block_type.ensures;
        why = c.asks_why.ensures;
      },
      c.in_ok-types.ensures,
    )

pub returns-in_default-clause-none : goal.returns-in_default-clause-none
returns-in_default-clause-none c =
    let m = found_of c.args.found.now in
    let none : first_value m (codes "DECL") ≡ None = search rules in
    no_drawing (rows_of m) (sym (first_value-rows m (codes "DECL")) ∙ none)
