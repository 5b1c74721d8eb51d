use Rattle.fb_types.proofs.Common.{◌≡◌, ◌<◌, List, ℕ, get_or, length, refl, sym, subst, ◌∙◌, Decides-eqb, slice_eq-Decides}
use Rattle.fb_types.specs.declared.library.Variable.{Variable}
use Rattle.fb_wave.specs.Reading.{IsNoValue}
use Rattle.fb_inspect.specs.refused.LineFaults.{IsNamed}
use Rattle.fb_inspect.proofs.lemmas.words.BoundValues.{no_value_at, same_variable}
use Rattle.fb_inspect.proofs.lemmas.words.NamesApart.{alike}
use Rattle.fb_inspect.proofs.refused.fault_values.unbound_fault.Goals as goal

pub returns-in_default : goal.returns-in_default
returns-in_default c = λ all first.
    (c.args.number, c.args.text.now, record { listed = c.requires.number; is = refl; within = c.requires.within c.args.number 0 c.requires.number }, first, c.requires.unbound)

pub returns-then-not-is_known : goal.returns-then-not-is_known
returns-then-not-is_known c = λ all first.
    (c.args.number, c.args.text.now, c.in-Some.ensures.0, c.in-Some.named.1.now, first, c.in-Some.ensures.1, c.is_known.ensures c.if-not-is_known.true)

pub returns-then-ne : goal.returns-then-ne
returns-then-ne c = λ all first.
    (c.args.number, c.args.text.now, record { listed = c.requires.number; is = refl; within = c.requires.within c.args.number 0 c.requires.number }, first, c.requires.unbound)

pub returns-in-Some-value_of : goal.returns-in-Some-value_of
returns-in-Some-value_of c = λ all first.
    (c.args.number, c.args.text.now, record { listed = c.requires.number; is = refl; within = c.requires.within c.args.number 0 c.requires.number }, first, c.requires.unbound)

pub returns-in-None : goal.returns-in-None
returns-in-None c = λ all first.
    let us = c.args.variables.now in
    let ks = c.args.indexes.now in
    let p = c.args.number in
    let k = get_or ks p 0 in
    let d = c.index-variables-index.result in
    let within : k < length us = c.requires.within p 0 c.requires.number in
    let bytes : c.as_bytes.result.now ≡ c.in-Some.named.0.now =
    alike _ c.ne.result (slice_eq-Decides Decides-eqb c.as_bytes.result.now c.in-Some.named.0.now _ refl) c.ne.ensures c.if-ne.false
    in
    let spelled : c.as_bytes.result.now ≡ (get_or us k d).name = cc (c.as_bytes.ensures, c.index-variables-index.is) in
    let none : IsNoValue (get_or us k d).ty c.in-Some.named.1.now =
    first_of (search c.in-None.ensures, search (subst (λ (x : Variable). IsNoValue x.ty c.in-Some.named.1.now) c.index-variables-index.is c.in-None.ensures))
    in
    let named = sym bytes ∙ same_variable us k d c.as_bytes.result.now within spelled in (
      p,
      c.args.text.now,
      c.in-Some.ensures.0,
      record { listed = c.requires.number; is = refl; within = within },
      first,
      subst (λ (n : List ℕ). IsNamed c.args.text.now n c.in-Some.named.1.now c.in-Some.ensures.0) named c.in-Some.ensures.1,
      no_value_at us k d c.in-Some.named.1.now within none,
    )
