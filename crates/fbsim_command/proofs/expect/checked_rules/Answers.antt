use Rattle.fbsim_command.proofs.lemmas.Common.{◌∙◌, inr, option_map, ap, refl, subst, sym, system_of, Given, Declares, given_of, Refused}
use Rattle.fbsim_command.specs.Expecting.{IsUnnamed, RefusesFor}
use Rattle.fbsim_command.specs.Known.{has_names}
use Rattle.fbsim_command.specs.declared.failure.RefusalLine.TheVariants.{Numbered}
use Rattle.fbsim_command.proofs.lemmas.rules.HeldRules.{passed-on}
use Rattle.fbsim_command.proofs.lemmas.rules.RuleNames.{alone, named, refused-inputs, refused-rules, unnamed}
use Rattle.fbsim_command.proofs.expect.checked_rules.Goals as goal

pub returns-in_err-rules-clause-refused : goal.returns-in_err-rules-clause-refused
returns-in_err-rules-clause-refused c =
    let declared = option_map given_of c.args.declared.now in
    passed-on c.from_residual.result _ (RefusesFor c.args.bytes.now declared) c.from_residual.ensures.1
    (refused-rules c.args.bytes.now declared c.in_err-rules.field-0.0 c.in_err-rules.ensures)

pub returns-in_err-system-clause-refused : goal.returns-in_err-system-clause-refused
returns-in_err-system-clause-refused c =
    let declared = option_map given_of c.args.declared.now in
    let rs = c.in_ok-rules.rules in
    let f = c.in_err-system.field-0.0 in
    passed-on c.from_residual-in_err-system.result f (RefusesFor c.args.bytes.now declared) c.from_residual-in_err-system.ensures.1
    (unnamed c.args.bytes.now declared (given_of c.in-Some.texts) rs f (ap (option_map given_of) c.in-Some.is) c.in_ok-rules.ensures
    (subst (λ (g : Given). IsUnnamed g rs f) c.inputs.ensures (refused-inputs c.inputs.result rs f c.in_err-system.ensures.refused)))

pub returns-then-not-branch-clause-refused : goal.returns-then-not-branch-clause-refused
returns-then-not-branch-clause-refused c =
    let i = c.in_ok-system.system in
    unnamed c.args.bytes.now (option_map given_of c.args.declared.now) (given_of c.in-Some.texts) c.in_ok-rules.rules (Refused (Numbered 45)) (ap (option_map given_of) c.in-Some.is)
    c.in_ok-rules.ensures
    (inr (
      (
        i,
        subst (λ (g : Given). Declares g i) c.inputs.ensures c.in_ok-system.ensures.system,
        ap (has_names (system_of i)) (sym c.as_slice.ensures) ∙ sym c.in_ok-known.ensures ∙ c.if-not-branch.true,
      ),
      refl,
    ))

pub returns-clause-rules : goal.returns-clause-rules
returns-clause-rules c =
    let i = c.in_ok-system.system in
    named c.args.bytes.now (option_map given_of c.args.declared.now) (given_of c.in-Some.texts) c.in_ok-rules.rules (ap (option_map given_of) c.in-Some.is) c.in_ok-rules.ensures (
      i,
      subst (λ (g : Given). Declares g i) c.inputs.ensures c.in_ok-system.ensures.system,
      ap (has_names (system_of i)) (sym c.as_slice.ensures) ∙ sym c.in_ok-known.ensures ∙ c.if-not-branch.false,
    )

pub returns-in_default-clause-rules : goal.returns-in_default-clause-rules
returns-in_default-clause-rules c =
    alone c.args.bytes.now (option_map given_of c.args.declared.now) c.in_ok-rules.rules (ap (option_map given_of) c.in_default.is) c.in_ok-rules.ensures
