use Rattle.std.proofs.Common.{◌≡◌, ◌-◌, length, take, sym, subst, ◌∙◌, arith}
use Rattle.fb_read.specs.Refusals.{IsDeepLen, IsTooDeep}
use Rattle.fb_read.proofs.lemmas.texts.RefusalLaws.{all-deep, deep-len}
use Rattle.fb_read.proofs.read.refused_len.Goals as goal

pub returns-then-left-eq0 : goal.returns-then-left-eq0
returns-then-left-eq0 c =
    let all : length c.args.tokens.now ≡ c.saturating_sub-len.result = omega (arith, c.saturating_sub-len.ensures, c.if-left-eq0.true) in
    subst (IsDeepLen c.args.tokens.now) all (all-deep c.args.tokens.now c.requires.deep)

pub returns-then-nests : goal.returns-then-nests
returns-then-nests c =
    let deep : IsTooDeep (take c.saturating_sub-len.result c.args.tokens.now) = rw c.front_of.ensures at (c.in_ok-nesting_left.ensures.0 (sym c.is_some-nests.ensures ∙ c.if-nests.true)) in
    deep-len c.args.tokens.now c.saturating_sub-len.result (omega (arith, c.saturating_sub-len.ensures)) deep

pub returns-else-nests : goal.returns-else-nests
returns-else-nests c = all-deep c.args.tokens.now c.requires.deep
