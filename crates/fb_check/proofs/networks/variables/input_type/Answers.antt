use Rattle.fb_types.proofs.Common.{◌≡◌, Option, None, Some, sym, ◌∙◌, ap, option_and_then, option_map, Kind, ports_of, type_at, kind_of}
use Rattle.fb_types.specs.declared.library.Ports.{Ports}
use Rattle.fb_types.specs.declared.value.Ty.{Ty}
use Rattle.fb_check_names.specs.Numbers.{kind_of_number}
use Rattle.fb_check.proofs.networks.variables.input_type.Goals as goal

pub returns-in_err-get-in-Declared : goal.returns-in_err-get-in-Declared
returns-in_err-get-in-Declared c =
    let lib = c.args.library.now in
    let typed : Option Kind → Option Ty = option_and_then (λ k. type_at (ports_of k).inputs c.args.index) in
    let none : kind_of_number lib c.args.number ≡ None =
    ap (kind_of_number lib) c.in-Declared.is ∙ ap (option_map kind_of) (sym c.in_err-get-in-Declared.ensures.value) in
    c.from_residual.ensures ∙ sym (ap typed none)

pub returns-in_ok-get-in-Declared : goal.returns-in_ok-get-in-Declared
returns-in_ok-get-in-Declared c =
    let lib = c.args.library.now in
    let typed : Option Kind → Option Ty = option_and_then (λ k. type_at (ports_of k).inputs c.args.index) in
    let kind : kind_of_number lib c.args.number ≡ Some (kind_of c.in_ok-get-in-Declared.field-0.now) =
    ap (kind_of_number lib) c.in-Declared.is ∙ ap (option_map kind_of) (sym c.in_ok-get-in-Declared.ensures.value) in
    let its = c.as_slice.ensures ∙ ap (λ (p : Ports). p.inputs) c.ports-ports.ensures in
    c.type_at.ensures ∙ (λ i. type_at (its i) c.args.index) ∙ sym (ap typed kind)
