use Rattle.fb_types.proofs.Common.{◌≡◌, ◌∷◌, [], ◌++◌, ℕ, List, length, map, Option, refl, sym, ◌∙◌, ap, subst, arith, All, outputs_with, Name}
use Rattle.fb_types.specs.declared.value.Value.{Value}
use Rattle.fb_st.specs.Frames.{declared_in, values_of}
use Rattle.fb_types.specs.declared.run.Emission.{Emission}
use Rattle.fb_ecc.specs.Actions.{IsOutput}
use Rattle.fb_ecc.specs.Indexes.{IsWellFormed}
use Rattle.fb_ecc.proofs.lemmas.Actions.{begins_push, begins_same, begins_unchanged, output_here, emitted_some, shown_here, shown_within, fit_some, on_ok, either}
use Rattle.fb_ecc.proofs.lemmas.Located.{alone, read_there}
use Rattle.fb_ecc.proofs.action.emit.Goals as goal

pub bounds-shown-event : goal.bounds-shown-event
bounds-shown-event c =
    let is = subst (λ (o : Option ℕ). IsOutput c.args.block.now o c.requires.event.0) c.in-Some.is c.requires.event.1 in
    shown_within c.args.block.now c.in-Some.event c.requires.event.0 (output_here c.args.block.now c.in-Some.event c.requires.event.0 is) c.args.shown.now c.requires.shown

pub returns-in-len1-clause-emitted : goal.returns-in-len1-clause-emitted
returns-in-len1-clause-emitted c =
    let t = c.args.block.now in
    let k : ℕ = c.in-Some.event in
    λ name state left here.
    let o = output_here t k name (subst (λ (n : Option ℕ). IsOutput t n name) c.in-Some.is here) in
    let within = shown_within t k name o c.args.shown.now c.requires.shown in
    let names : List Name = outputs_with t.ports o.event in
    let are = shown_here t k name o c.args.shown.now c.as_slice-slots.result.now c.index-shown-event.result _ c.requires.shown within (c.as_slice-slots.ensures ∙ c.index-shown-event.is) c.requires.declared in
    let vars = values_of c.args.frame.now in
    let one : length c.as_slice-slots.result.now ≡ 1 = omega (arith, c.in-len1.len_at_least, c.in-len1.len_below) in
    let at = alone (declared_in c.args.frame.now) names c.as_slice-slots.result.now are one in
    let value = read_there _ at.0 c.value_at.result vars c.value_at.ensures at.1 in
    let values : c.value_at.result ∷ [] ≡ map vars names = ap (λ (v : Value). v ∷ []) value ∙ ap (map vars) (sym at.2) in
    on_ok c.push_one.result c.push_one.ensures.ok
    (λ grown. emitted_some t k name o state left c.args.frame.now c.args.emits.now c.push_one.new.self names refl
    (grown ∙ ap (λ (vs : List Value). c.args.emits.now ++ record { event = k; values = vs } ∷ []) values))

pub returns-in-len1-clause-well_formed : goal.returns-in-len1-clause-well_formed
returns-in-len1-clause-well_formed c =
    let t = c.args.block.now in
    let k : ℕ = c.in-Some.event in
    let name = c.requires.event.0 in
    let o = output_here t k name (subst (λ (n : Option ℕ). IsOutput t n name) c.in-Some.is c.requires.event.1) in
    let within = shown_within t k name o c.args.shown.now c.requires.shown in
    let names : List Name = outputs_with t.ports o.event in
    let are = shown_here t k name o c.args.shown.now c.as_slice-slots.result.now c.index-shown-event.result _ c.requires.shown within (c.as_slice-slots.ensures ∙ c.index-shown-event.is) c.requires.declared in
    let vars = values_of c.args.frame.now in
    let one : length c.as_slice-slots.result.now ≡ 1 = omega (arith, c.in-len1.len_at_least, c.in-len1.len_below) in
    let at = alone (declared_in c.args.frame.now) names c.as_slice-slots.result.now are one in
    let value = read_there _ at.0 c.value_at.result vars c.value_at.ensures at.1 in
    let values : c.value_at.result ∷ [] ≡ map vars names = ap (λ (v : Value). v ∷ []) value ∙ ap (map vars) (sym at.2) in
    λ all.
    let P : List Emission → Type 0 = λ l. All (IsWellFormed t) l in
    either c.push_one.result c.push_one.ensures.ok c.push_one.ensures.err
    (λ grown. fit_some t k name o vars c.args.emits.now c.push_one.new.self names refl
    (grown ∙ ap (λ (vs : List Value). c.args.emits.now ++ record { event = k; values = vs } ∷ []) values) all)
    (λ kept. subst P (sym kept) all)

pub returns-after-slots-lt1-clause-emitted : goal.returns-after-slots-lt1-clause-emitted
returns-after-slots-lt1-clause-emitted c =
    let t = c.args.block.now in
    let k : ℕ = c.in-Some.event in
    λ name state left here.
    let o = output_here t k name (subst (λ (n : Option ℕ). IsOutput t n name) c.in-Some.is here) in
    let within = shown_within t k name o c.args.shown.now c.requires.shown in
    let are = shown_here t k name o c.args.shown.now c.as_slice-slots.result.now c.index-shown-event.result _ c.requires.shown within (c.as_slice-slots.ensures ∙ c.index-shown-event.is) c.requires.declared in
    on_ok c.emit_several.result c.emit_several.ensures.ok
    (λ grown. emitted_some t k name o state left c.args.frame.now c.args.emits.now c.emit_several.new.emits (outputs_with t.ports o.event) refl (grown (outputs_with t.ports o.event) are))

pub returns-after-slots-lt1-clause-well_formed : goal.returns-after-slots-lt1-clause-well_formed
returns-after-slots-lt1-clause-well_formed c =
    let t = c.args.block.now in
    let k : ℕ = c.in-Some.event in
    let name = c.requires.event.0 in
    let o = output_here t k name (subst (λ (n : Option ℕ). IsOutput t n name) c.in-Some.is c.requires.event.1) in
    let within = shown_within t k name o c.args.shown.now c.requires.shown in
    let are = shown_here t k name o c.args.shown.now c.as_slice-slots.result.now c.index-shown-event.result _ c.requires.shown within (c.as_slice-slots.ensures ∙ c.index-shown-event.is) c.requires.declared in
    λ all.
    let P : List Emission → Type 0 = λ l. All (IsWellFormed t) l in
    either c.emit_several.result c.emit_several.ensures.ok c.emit_several.ensures.err
    (λ grown. fit_some t k name o (values_of c.args.frame.now) c.args.emits.now c.emit_several.new.emits (outputs_with t.ports o.event) refl (grown (outputs_with t.ports o.event) are) all)
    (λ kept. subst P (sym kept) all)

-- ---- What was emitted before

pub returns-in-len1-clause-begins : goal.returns-in-len1-clause-begins
returns-in-len1-clause-begins c =
    either c.push_one.result c.push_one.ensures.ok c.push_one.ensures.err
    (λ grown. begins_push c.args.emits.now c.push_one.new.self _ grown)
    (λ kept. begins_unchanged c.args.emits.now c.push_one.new.self kept)

pub returns-after-slots-lt1-clause-begins : goal.returns-after-slots-lt1-clause-begins
returns-after-slots-lt1-clause-begins c =
    let t = c.args.block.now in
    let k : ℕ = c.in-Some.event in
    let name = c.requires.event.0 in
    let o = output_here t k name (subst (λ (n : Option ℕ). IsOutput t n name) c.in-Some.is c.requires.event.1) in
    let within = shown_within t k name o c.args.shown.now c.requires.shown in
    let are = shown_here t k name o c.args.shown.now c.as_slice-slots.result.now c.index-shown-event.result _ c.requires.shown within (c.as_slice-slots.ensures ∙ c.index-shown-event.is) c.requires.declared in
    either c.emit_several.result c.emit_several.ensures.ok c.emit_several.ensures.err
    (λ grown. begins_push c.args.emits.now c.emit_several.new.emits _ (grown (outputs_with t.ports o.event) are))
    (λ kept. begins_unchanged c.args.emits.now c.emit_several.new.emits kept)

pub returns-in-None-clause-begins : goal.returns-in-None-clause-begins
returns-in-None-clause-begins c = begins_same c.args.emits.now
