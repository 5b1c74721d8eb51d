use Rattle.fb_types.proofs.Common.{◌<◌, ℕ, Bool, Bor, false, [], get_or, option_map, sym, ◌∙◌, ap, subst, ◌||◌, unwrap_or-slice_get, system_of, Path}
use Rattle.fb_types.specs.declared.library.BasicType.{BasicType}
use Rattle.std.proofs.lemmas.List.Folds.{list_any_at, list_any_more}
use Rattle.fb_coverage.specs.Openings.{has_type, is_named}
use Rattle.fb_coverage.proofs.part.is_used.Goals as goal

pub returns-then-is : goal.returns-then-is
returns-then-is c =
    let sys = system_of c.args.system.now in
    let p = λ (q : Path). has_type c.args.name.now (sys.kind q) in
    let i = c.loop-instance.instance in
    let within = subst (λ (n : ℕ). i < n) c.count-instance-end.ensures c.loop-instance-test.true in
    let there = ap (is_named c.args.name.now) (sym c.basic_of.ensures ∙ ap (option_map (λ (b : Bor BasicType). b.now)) c.in-Some.is) ∙ sym c.is.ensures ∙ c.if-is.true in
    sym (list_any_at p sys.paths i [] within (ap p (sym (unwrap_or-slice_get sys.paths i [])) ∙ there))

pub loop-instance-preserved-in_default : goal.loop-instance-preserved-in_default
loop-instance-preserved-in_default c =
    let sys = system_of c.args.system.now in
    let p = λ (q : Path). has_type c.args.name.now (sys.kind q) in
    let i = c.loop-instance.instance in
    let within = subst (λ (n : ℕ). i < n) c.count-instance-end.ensures c.loop-instance-test.true in
    let none = ap (is_named c.args.name.now) (sym c.basic_of.ensures ∙ ap (option_map (λ (b : Bor BasicType). b.now)) c.in_default.is) in
    list_any_more p sys.paths i [] within
    ∙ ap (λ (b : Bool). b || p (get_or sys.paths i [])) c.loop-instance.invariant
    ∙ ap (λ (b : Bool). false || b) (ap p (sym (unwrap_or-slice_get sys.paths i [])) ∙ none)

pub loop-instance-preserved : goal.loop-instance-preserved
loop-instance-preserved c =
    let sys = system_of c.args.system.now in
    let p = λ (q : Path). has_type c.args.name.now (sys.kind q) in
    let i = c.loop-instance.instance in
    let within = subst (λ (n : ℕ). i < n) c.count-instance-end.ensures c.loop-instance-test.true in
    let other = ap (is_named c.args.name.now) (sym c.basic_of.ensures ∙ ap (option_map (λ (b : Bor BasicType). b.now)) c.in-Some.is) ∙ sym c.is.ensures ∙ c.if-is.false in
    list_any_more p sys.paths i [] within
    ∙ ap (λ (b : Bool). b || p (get_or sys.paths i [])) c.loop-instance.invariant
    ∙ ap (λ (b : Bool). false || b) (ap p (sym (unwrap_or-slice_get sys.paths i [])) ∙ other)
