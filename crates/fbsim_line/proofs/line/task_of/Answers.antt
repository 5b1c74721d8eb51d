use Rattle.fb_types.proofs.Common.{rules, ◌≡◌, Bool, Option, sym, subst, ◌∙◌, codes, Some, None, IfNone, IfSome}
use Rattle.clap.specs.Words.{found_of, first_value, rows_of}
use Rattle.clap.proofs.WalkLemmas.{first_value-rows}
use Rattle.fbsim_line.specs.Line.{AreLevels}
use Rattle.fbsim_line.specs.declared.levels.Levels.{Levels}
use Rattle.fbsim_line.proofs.lemmas.LineLaws.{no_action, no_declaration, no_levels}
use Rattle.fbsim_line.proofs.line.task_of.Goals as goal

pub returns-clause-rows : goal.returns-clause-rows
returns-clause-rows c =
    let m = found_of c.args.found.now in
    let given : first_value m (codes "DECL") ≡ Some c.in-Some.declaration.now = search rules in (
      record {
        declaration = sym (first_value-rows m (codes "DECL")) ∙ given;
        deploy = sym (first_value-rows m (codes "deploy")) ∙ sym c.get_str-deploy.ensures;
        stimuli = sym (first_value-rows m (codes "stim")) ∙ sym c.get_str-stimuli.ensures;
        why = c.asks_why-why.ensures;
        action = c.in-Some-action_of.ensures.options;
      },
      c.in_ok-types.ensures,
      subst (λ (b : Bool). AreLevels (rows_of m) b c.in-Some-2.levels) c.warns.ensures
          (subst (λ (o : Option Levels). IfSome o (AreLevels (rows_of m) c.warns.result)) c.in-Some-2.is c.in_ok-levels.ensures.levels),
    )

pub returns-in_default-clause-none : goal.returns-in_default-clause-none
returns-in_default-clause-none c =
    let m = found_of c.args.found.now in
    let none : first_value m (codes "DECL") ≡ None = search rules in
    no_declaration (rows_of m) c.args.name.now (sym (first_value-rows m (codes "DECL")) ∙ none)

pub returns-in_default-2-clause-none : goal.returns-in_default-2-clause-none
returns-in_default-2-clause-none c =
    let rows = rows_of (found_of c.args.found.now) in
    no_levels rows c.args.name.now c.in-Some-action_of.action c.in-Some-action_of.ensures.name c.in-Some-action_of.ensures.options
    (subst (λ (b : Bool). (l : Levels) → AreLevels rows b l → ⊥) c.warns.ensures
    (subst (λ (o : Option Levels). IfNone o ((l : Levels) → AreLevels rows c.warns.result l → ⊥)) c.in_default-2.is c.in_ok-levels.ensures.none))

pub returns-in_default-action_of-clause-none : goal.returns-in_default-action_of-clause-none
returns-in_default-action_of-clause-none c = no_action (rows_of (found_of c.args.found.now)) c.args.name.now c.in_default-action_of.ensures.none
