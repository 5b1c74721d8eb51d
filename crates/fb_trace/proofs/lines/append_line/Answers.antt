use Rattle.fb_types.proofs.Common.{◌≡◌, ◌≤◌, ◌++◌, List, [], ◌∷◌, ◌∙◌, get_or, length, refl, ap, append-nil, codes, decimal, arith, system_of, value_text}
use Rattle.fb_types.specs.declared.value.Value.{Value}
use Rattle.fb_system.specs.Heads.{head_text}
use Rattle.fb_trace.specs.Starts.{first_value, head_of_line}
use Rattle.fb_trace.proofs.lemmas.lines.LineStarts.{by_head_alone}
use Rattle.fb_trace.proofs.lines.append_line.Goals as goal

-- the text of a value that is alone
alone : (vs : List Value) (d : Value) → length vs ≡ 1 → value_text (get_or vs 0 d) ≡ first_value vs
alone [] d one = absurd (omega arith)
alone (v ∷ []) d one = refl
alone (v ∷ w ∷ vs) d one = absurd (omega arith)

pub returns-then-is_empty-clause-put : goal.returns-then-is_empty-clause-put
returns-then-is_empty-clause-put c = λ _.
    let sys = system_of c.args.system.now in
    let l = c.args.line.now in
    let empty : l.values ≡ [] = c.is_empty.ensures.0 c.if-is_empty.true in
    let tick = ap decimal c.requires.tick in
    let start = decimal l.key.tick ++ codes " " ++ head_text sys (head_of_line l) in
    let none : length l.values ≡ 0 = ap length empty in
    let bare : start ++ first_value l.values ≡ start = ap (λ (vs : List Value). start ++ first_value vs) empty ∙ append-nil start in
    let whole = rw (tick, c.in-Some.ensures.text, c.head_of.ensures) at c.append_bare.ensures in
    rw (c.in-One.is, ← by_head_alone sys l c.requires.belongs (omega (arith, none)), bare) whole

pub returns-clause-put : goal.returns-clause-put
returns-clause-put c = λ _.
    let sys = system_of c.args.system.now in
    let l = c.args.line.now in
    let tick = ap decimal c.requires.tick in
    let one : length c.as_slice.result.now ≡ 1 = omega (arith, c.in-len1.len_at_least, c.in-len1.len_below) in
    let few : length l.values ≤ 1 = omega (arith, ap (λ (vs : List Value). length vs) c.as_slice.ensures, one) in
    let text : (d : Value) → value_text (get_or c.as_slice.result.now 0 d) ≡ first_value l.values = λ d. alone c.as_slice.result.now d one ∙ ap first_value c.as_slice.ensures in
    let whole = rw (tick, c.in-Some-head.ensures.text, c.head_of-2.ensures, text) at c.append_with_one.ensures in
    rw (c.in-One.is, ← by_head_alone sys l c.requires.belongs few) whole
