use Rattle.fb_types.proofs.Common.{◌≡◌, ◌-◌, ℕ, length, Some, None, sym, ◌∙◌, ap, arith, refl, slice_get, option_map, slice_get_read, slice_get_past}
use Rattle.fb_types.specs.declared.library.Variable.{Variable}
use Rattle.fb_check.specs.types.Roles.{Declared}
use Rattle.fb_check.specs.declared.types.interface.Role.TheVariants.{Internal}
use Rattle.fb_check.proofs.lemmas.types.Roles.{role_at, IsPast, at_event_input, at_event_output, is_past, at_input, at_output, at_internal, not_there}
use Rattle.fb_check.proofs.types.interface.Interface.role_at.Goals as goal

pub returns-in_default : goal.returns-in_default
returns-in_default c =
    let d : Declared = record { ports = c.self.inside.ports.now; internals = c.self.inside.internals.now } in
    at_event_input d c.args.index c.len.result c.len.ensures c.in_default.ensures ∙ ap (λ d. role_at d c.args.index) c.self.view_is

pub returns-in_default-checked_sub : goal.returns-in_default-checked_sub
returns-in_default-checked_sub c =
    let d : Declared = record { ports = c.self.inside.ports.now; internals = c.self.inside.internals.now } in
    let h = c.in-Some.ensures in
    at_event_output d c.args.index c.in-Some.index c.len.result c.len-2.result c.len.ensures h.0 h.1 c.len-2.ensures c.in_default-checked_sub.ensures
    ∙ ap (λ d. role_at d c.args.index) c.self.view_is

pub returns-in-Some-get : goal.returns-in-Some-get
returns-in-Some-get c =
    let d : Declared = record { ports = c.self.inside.ports.now; internals = c.self.inside.internals.now } in
    let h = c.in-Some.ensures in
    let g = c.in-Some-checked_sub.ensures in
    let p : IsPast d c.args.index c.in-Some-checked_sub.index =
    is_past d c.args.index c.in-Some.index c.in-Some-checked_sub.index c.len.result c.len-2.result c.len.ensures h.0 h.1 c.len-2.ensures g.0 g.1 in
    at_input d c.args.index c.in-Some-checked_sub.index c.in-Some-get.variable.now p (sym c.in-Some-get.ensures.value)
    ∙ ap (λ d. role_at d c.args.index) c.self.view_is

pub overflow_sub-index : goal.overflow_sub-index
overflow_sub-index c =
    let h = not_there c.self.inside.ports.now.inputs c.in-Some-checked_sub.index (sym c.in_default-get.ensures.value) in
    omega (arith, h, c.len-3.ensures)

pub returns-in-Some-get-2 : goal.returns-in-Some-get-2
returns-in-Some-get-2 c =
    let d : Declared = record { ports = c.self.inside.ports.now; internals = c.self.inside.internals.now } in
    let h = c.in-Some.ensures in
    let g = c.in-Some-checked_sub.ensures in
    let p : IsPast d c.args.index c.in-Some-checked_sub.index =
    is_past d c.args.index c.in-Some.index c.in-Some-checked_sub.index c.len.result c.len-2.result c.len.ensures h.0 h.1 c.len-2.ensures g.0 g.1 in
    at_output d c.args.index c.in-Some-checked_sub.index c.len-3.result c.in-Some-get-2.variable.now p (sym c.in_default-get.ensures.value) c.len-3.ensures
    (sym c.in-Some-get-2.ensures.value)
    ∙ ap (λ d. role_at d c.args.index) c.self.view_is

pub overflow_sub-index-2 : goal.overflow_sub-index-2
overflow_sub-index-2 c =
    let h = not_there c.self.inside.ports.now.outputs (c.in-Some-checked_sub.index - c.len-3.result) (sym c.in_default-get-2.ensures.value) in
    omega (arith, h, c.len-4.ensures)

pub returns-in-Some-get-3 : goal.returns-in-Some-get-3
returns-in-Some-get-3 c =
    let d : Declared = record { ports = c.self.inside.ports.now; internals = c.self.inside.internals.now } in
    let h = c.in-Some.ensures in
    let g = c.in-Some-checked_sub.ensures in
    let p : IsPast d c.args.index c.in-Some-checked_sub.index =
    is_past d c.args.index c.in-Some.index c.in-Some-checked_sub.index c.len.result c.len-2.result c.len.ensures h.0 h.1 c.len-2.ensures g.0 g.1 in
    let i : ℕ = (c.in-Some-checked_sub.index - c.len-3.result) - c.len-4.result in
    let v : Variable = c.in-Some-get-3.variable.now in
    let l = c.in-Some-get-3.ensures.lookup in
    let there : slice_get d.internals i ≡ Some v = slice_get_read d.internals (length d.internals) i v refl l.3.0 l.1 in
    ap (option_map (λ x. Internal x.ty)) (sym there)
    ∙ at_internal d c.args.index c.in-Some-checked_sub.index c.len-3.result c.len-4.result p (sym c.in_default-get.ensures.value) c.len-3.ensures
    (sym c.in_default-get-2.ensures.value) c.len-4.ensures
    ∙ ap (λ d. role_at d c.args.index) c.self.view_is

pub returns-in-None : goal.returns-in-None
returns-in-None c =
    let d : Declared = record { ports = c.self.inside.ports.now; internals = c.self.inside.internals.now } in
    let h = c.in-Some.ensures in
    let g = c.in-Some-checked_sub.ensures in
    let p : IsPast d c.args.index c.in-Some-checked_sub.index =
    is_past d c.args.index c.in-Some.index c.in-Some-checked_sub.index c.len.result c.len-2.result c.len.ensures h.0 h.1 c.len-2.ensures g.0 g.1 in
    let i : ℕ = (c.in-Some-checked_sub.index - c.len-3.result) - c.len-4.result in
    let l = c.in-None.ensures.lookup in
    let there : slice_get d.internals i ≡ None = slice_get_past d.internals i l.3 in
    ap (option_map (λ x. Internal x.ty)) (sym there)
    ∙ at_internal d c.args.index c.in-Some-checked_sub.index c.len-3.result c.len-4.result p (sym c.in_default-get.ensures.value) c.len-3.ensures
    (sym c.in_default-get-2.ensures.value) c.len-4.ensures
    ∙ ap (λ d. role_at d c.args.index) c.self.view_is
