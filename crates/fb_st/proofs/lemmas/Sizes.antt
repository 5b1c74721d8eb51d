-- Statements are less deep than what holds them, so that their runs end.
use Rattle.fb_st.proofs.lemmas.Common.{◌≡◌, ◌<◌, ◌≤◌, ℕ, List, length, get_or, ap, rules, arith, CountExpr, CompiledStmt, TruthExpr, CompiledChoice}
use denote.Param.Weighed.{most, at_most}
use Rattle.fb_st.specs.declared.compiled.CompiledStmt.TheVariants as variants
use Rattle.fb_st.specs.declared.compiled.CompiledStmt.TheViews.{size_is-CompiledChoice, sized-For, sized-Repeat, sized-While}
use Rattle.fb_st.specs.declared.compiled.CompiledChoice.{out-CompiledChoice}
use Rattle.fb_st.proofs.compiled.CompiledStmt.TheLaws as stmt
use Rattle.fb_st.proofs.compiled.CompiledChoice.TheLaws as choice

pub statement_size : (ss : List CompiledStmt) (i : ℕ) (s : CompiledStmt) → i < length ss → s ≡ get_or ss i s → stmt.the_size s ≤ most stmt.the_size ss
statement_size ss i s within is =
    let one = at_most stmt.the_size ss i s within in
    let same = ap stmt.the_size is in
    omega arith

arm_size : (c : CompiledChoice) → most stmt.the_size (out-CompiledChoice c).body < choice.the_size c
arm_size c = search (rules, size_is-CompiledChoice)

pub body_of_arm_size : (cs : List CompiledChoice) (i : ℕ) (c : CompiledChoice) (body : List CompiledStmt) → i < length cs → c ≡ get_or cs i c → body ≡ (out-CompiledChoice c).body
    → most stmt.the_size body < most choice.the_size cs
body_of_arm_size cs i c body within is body_is =
    let one = at_most choice.the_size cs i c within in
    let same = ap choice.the_size is in
    let inside = arm_size c in
    let whole = ap (most stmt.the_size) body_is in
    omega arith

for_size : (k : CountExpr) (body : List CompiledStmt) → most stmt.the_size body < stmt.the_size (variants.For k body)
for_size k body = search (rules, sized-For)

pub body_of_for_size : (s : CompiledStmt) (k : CountExpr) (body same : List CompiledStmt) → s ≡ variants.For k body → same ≡ body → most stmt.the_size same < stmt.the_size s
body_of_for_size s k body same is body_is =
    let inside = for_size k body in
    let statement = ap stmt.the_size is in
    let whole = ap (most stmt.the_size) body_is in
    omega arith

while_size : (e : TruthExpr) (body : List CompiledStmt) → most stmt.the_size body < stmt.the_size (variants.While e body)
while_size e body = search (rules, sized-While)

repeat_size : (body : List CompiledStmt) (e : TruthExpr) → most stmt.the_size body < stmt.the_size (variants.Repeat body e)
repeat_size body e = search (rules, sized-Repeat)

pub body_of_while_size : (s : CompiledStmt) (e : TruthExpr) (body same : List CompiledStmt) → s ≡ variants.While e body → same ≡ body → most stmt.the_size same < stmt.the_size s
body_of_while_size s e body same is body_is =
    let inside = while_size e body in
    let statement = ap stmt.the_size is in
    let whole = ap (most stmt.the_size) body_is in
    omega arith

pub body_of_repeat_size : (s : CompiledStmt) (e : TruthExpr) (body same : List CompiledStmt) → s ≡ variants.Repeat body e → same ≡ body → most stmt.the_size same < stmt.the_size s
body_of_repeat_size s e body same is body_is =
    let inside = repeat_size body e in
    let statement = ap stmt.the_size is in
    let whole = ap (most stmt.the_size) body_is in
    omega arith
