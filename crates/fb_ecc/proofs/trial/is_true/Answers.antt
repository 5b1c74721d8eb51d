use Rattle.fb_types.proofs.Common.{ℕ, Bool, true, false, if◌then◌else◌, Ok, sym, ◌∙◌, ap, arith, Option, Values}
use Rattle.fb_types.specs.declared.text.Expr.{Expr}
use Rattle.fb_types.specs.Charts.{guard_value}
use Rattle.fb_st.specs.Frames.{values_of}
use Rattle.fb_ecc.specs.Trials.{transition_at}
use Rattle.fb_ecc.proofs.lemmas.Trials.{transition_within, unguarded, guard_read}
use Rattle.fb_ecc.proofs.lemmas.Programs.{guard_says, transition_read}
use Rattle.fb_ecc.proofs.trial.is_true.Goals as goal

pub bounds-as_slice-exit : goal.bounds-as_slice-exit
bounds-as_slice-exit c = transition_within c.args.block.now c.args.exit.now c.as_slice.result.now c.requires.exit c.as_slice.ensures

pub returns-then-not-exit : goal.returns-then-not-exit
returns-then-not-exit c =
    let here = sym c.is_present.ensures ∙ c.if-not-is_present.false in
    sym (unguarded c.args.block.now c.args.exit.now (values_of c.args.frame.now) c.requires.exit c.if-not-exit.true)
    ∙ ap (λ (b : Bool). if b then guard_value (transition_at c.args.block.now c.args.exit.now.transition).condition.guard (values_of c.args.frame.now) else Ok false) (sym here)

pub returns-in-Some : goal.returns-in-Some
returns-in-Some c =
    let here = sym c.is_present.ensures ∙ c.if-not-is_present.false in
    let vars : Values = values_of c.args.frame.now in
    let within = transition_within c.args.block.now c.args.exit.now c.as_slice.result.now c.requires.exit c.as_slice.ensures in
    c.holds_compiled.ensures ∙ sym (ap (λ (o : Option Expr). guard_value o vars) c.in-Some.is)
    ∙ sym (guard_read c.args.block.now c.args.exit.now vars c.as_slice.result.now c.index-as_slice-exit.result c.as_slice.ensures within c.index-as_slice-exit.is)
    ∙ ap (λ (b : Bool). if b then guard_value (transition_at c.args.block.now c.args.exit.now.transition).condition.guard (values_of c.args.frame.now) else Ok false) (sym here)

pub returns-in-None : goal.returns-in-None
returns-in-None c =
    let here = sym c.is_present.ensures ∙ c.if-not-is_present.false in
    let vars : Values = values_of c.args.frame.now in
    let within = transition_within c.args.block.now c.args.exit.now c.as_slice.result.now c.requires.exit c.as_slice.ensures in
    sym (ap (λ (o : Option Expr). guard_value o vars) c.in-None.is)
    ∙ sym (guard_read c.args.block.now c.args.exit.now vars c.as_slice.result.now c.index-as_slice-exit.result c.as_slice.ensures within c.index-as_slice-exit.is)
    ∙ ap (λ (b : Bool). if b then guard_value (transition_at c.args.block.now c.args.exit.now.transition).condition.guard (values_of c.args.frame.now) else Ok false) (sym here)

pub offset_bounds-as_slice-exit : goal.offset_bounds-as_slice-exit
offset_bounds-as_slice-exit c =
    let h = transition_within c.args.block.now c.args.exit.now c.as_slice.result.now c.requires.exit c.as_slice.ensures in
    let fits = c.as_slice.type_inv.1 in
    omega arith

pub holds_compiled-requires : goal.holds_compiled-requires
holds_compiled-requires c =
    let t = c.args.block.now in
    let k : ℕ = c.args.exit.now.transition in
    let within = transition_within t c.args.exit.now c.as_slice.result.now c.requires.exit c.as_slice.ensures in
    record {
      layout = c.requires.program.layout ∙ sym c.requires.declared;
      says = guard_says c.args.program.now.layout t.transitions c.args.program.now.guards k c.index-as_slice-exit.result c.in-Some.guard c.guard-compiled.result c.requires.program.guards
          (transition_read t k c.as_slice.result.now c.index-as_slice-exit.result c.as_slice.ensures within c.index-as_slice-exit.is) c.in-Some.is c.guard-compiled.ensures;
    }

pub returns-then-not-is_present : goal.returns-then-not-is_present
returns-then-not-is_present c =
    let here = sym c.is_present.ensures ∙ c.if-not-is_present.true in
    ap (λ (b : Bool). if b then guard_value (transition_at c.args.block.now c.args.exit.now.transition).condition.guard (values_of c.args.frame.now) else Ok false) (sym here)
