use Rattle.fb_types.proofs.Common.{◌≡◌, ◌<◌, ℕ, List, Bool, below_more, get_or, length, sym, ap, ◌∙◌, arith, get_or_default, Name, same_name}
use Rattle.fb_types.specs.declared.library.Algorithm.{Algorithm}
use Rattle.fb_inspect.proofs.lemmas.words.NamesApart.{first_passing, none_passing}
use Rattle.fb_inspect.proofs.walk.charts.algorithm_number.Goals as goal

-- whether the algorithm at an index has a name, by what was read there
named_at :
    (gs read : List Algorithm) (i : ℕ) (d it : Algorithm) (name : Name) (r : Bool) → read ≡ gs → i < length gs → it ≡ get_or read i it → r ≡ same_name it.name name → same_name (get_or gs i d).name name ≡ r
named_at gs read i d it name r same within is tested =
    ap (λ (g : Algorithm). same_name g.name name) (get_or_default gs i d it within ∙ ap (λ (xs : List Algorithm). get_or xs i it) (sym same) ∙ sym is) ∙ sym tested

pub loop-index-preserved : goal.loop-index-preserved
loop-index-preserved c = λ d.
    let gs = c.args.block.now.algorithms in
    let i = c.loop-index.index in
    let same : length c.as_slice-algorithms.result.now ≡ length gs = ap length c.as_slice-algorithms.ensures in
    let within : i < length gs = omega arith in
    below_more _ _ (c.loop-index.invariant d)
    (named_at gs c.as_slice-algorithms.result.now i d c.index-algorithms-index.result c.args.algorithm.now c.is.result c.as_slice-algorithms.ensures within c.index-algorithms-index.is c.is.ensures ∙ c.if-is.false)

pub returns-then-is : goal.returns-then-is
returns-then-is c =
    let gs = c.args.block.now.algorithms in
    let i = c.loop-index.index in
    let it = c.index-algorithms-index.result in
    let same : length c.as_slice-algorithms.result.now ≡ length gs = ap length c.as_slice-algorithms.ensures in
    let within : i < length gs = omega arith in
    sym
    (first_passing (λ g. same_name g.name c.args.algorithm.now) gs i it within (c.loop-index.invariant it)
    (named_at gs c.as_slice-algorithms.result.now i it it c.args.algorithm.now c.is.result c.as_slice-algorithms.ensures within c.index-algorithms-index.is c.is.ensures ∙ c.if-is.true))

pub returns : goal.returns
returns c =
    let gs = c.args.block.now.algorithms in
    let same : length c.as_slice-algorithms.result.now ≡ length gs = ap length c.as_slice-algorithms.ensures in
    same ∙ sym (none_passing (λ g. same_name g.name c.args.algorithm.now) gs (λ d k lt. c.loop-index.invariant d k (omega (arith, lt, same))))
