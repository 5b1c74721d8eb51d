use Rattle.fb_types.proofs.Common.{◌≡◌, ℕ, Bool, true, false, Option, Some, None, sym, ap, ◌∙◌, subst, not, Contains, IfNone, err_from_is_err_and, system_of}
use Rattle.std.specs.Prelude.{is_some}
use Rattle.std.proofs.lemmas.List.Elements.{Contains-get_or}
use Rattle.fb_inspect.specs.refused.LineFaults.{IsNoInstance}
use Rattle.fb_inspect.proofs.lemmas.walk.Ended.{front_none, front_nothing}
use Rattle.fb_inspect.proofs.lemmas.reactions.Placed.{err_any}
use Rattle.fb_inspect.specs.Selections.{selection_of}
use Rattle.fb_inspect.specs.Refusals.{IsNamesFault, IsPathFault}
use Rattle.fb_wave.proofs.lemmas.Handing.{on_passed}
use Rattle.fb_inspect.proofs.insides.inspect.Goals as goal

none_of : (o : Option ℕ) (b : Bool) (P : Type 0) → is_some o ≡ not b → b ≡ true → IfNone o P → P
none_of None b P is set h = h
none_of (Some x) b P is set h = let clash : true ≡ false = is ∙ ap not set in absurd (cc)

pub returns-then-is_none-clause-read : goal.returns-then-is_none-clause-read
returns-then-is_none-clause-read g c =
    front_none (system_of c.args.system.now) (selection_of c.args.inspection) c.args.inspection.terms.steps (g.R.Read.remaining c.args.input.now) (g.W.Write.contents c.args.out.now)

pub returns-then-is_none-clause-fault : goal.returns-then-is_none-clause-fault
returns-then-is_none-clause-fault g c = front_nothing (system_of c.args.system.now) (selection_of c.args.inspection) c.args.inspection.terms.steps (g.W.Write.contents c.args.out.now)

pub returns-clause-whole : goal.returns-clause-whole
returns-clause-whole g c = c.in_ok-inspect_and_mark.ensures.whole

pub returns-in_err-inspect_and_mark-clause-fault : goal.returns-in_err-inspect_and_mark-clause-fault
returns-in_err-inspect_and_mark-clause-fault g c = err_any c.from_residual.result _ c.in_err-inspect_and_mark.ensures.fault.front

pub returns-in_err-inspect_and_mark-clause-read : goal.returns-in_err-inspect_and_mark-clause-read
returns-in_err-inspect_and_mark-clause-read g c = err_any c.from_residual.result _ c.in_err-inspect_and_mark.ensures.fault

pub returns-in_err-inspect_and_mark-clause-refused : goal.returns-in_err-inspect_and_mark-clause-refused
returns-in_err-inspect_and_mark-clause-refused g c = λ names few.
    let q = err_from_is_err_and c.from_residual.result c.from_residual.ensures.1 in rw (q.1, q.2) (c.in_err-inspect_and_mark.ensures.refused names few)

-- ---- Names and paths

pub returns-then-is_none-clause-names : goal.returns-then-is_none-clause-names
returns-then-is_none-clause-names g c = λ same names. absurd (cc)

pub returns-in_err-inspect_and_mark-clause-names : goal.returns-in_err-inspect_and_mark-clause-names
returns-in_err-inspect_and_mark-clause-names g c =
    on_passed _ _ (IsNamesFault (system_of c.args.system.now)) c.from_residual.ensures.1 c.in_err-inspect_and_mark.ensures.names

pub returns-then-is_none-clause-paths : goal.returns-then-is_none-clause-paths
returns-then-is_none-clause-paths g c = λ same.
    let sys = system_of c.args.system.now in
    let only = c.args.inspection.only.now in
    let path = c.path-item.result in
    let none = none_of c.instance_of.result c.is_none.result _ c.is_none.ensures c.if-is_none.true c.instance_of.ensures.none in (
      path,
      subst (Contains only) (sym c.path-item.is) (Contains-get_or only c.loop-path.path-index path c.loop-path-test.true),
      subst (IsNoInstance sys) c.as_bytes.ensures none,
    )

pub returns-in_err-inspect_and_mark-clause-paths : goal.returns-in_err-inspect_and_mark-clause-paths
returns-in_err-inspect_and_mark-clause-paths g c =
    on_passed _ _ (IsPathFault (system_of c.args.system.now) c.args.inspection.only.now) c.from_residual.ensures.1
    (λ same. absurd (c.in_err-inspect_and_mark.ensures.paths same))

pub returns-in_err-inspect_and_mark-clause-found : goal.returns-in_err-inspect_and_mark-clause-found
returns-in_err-inspect_and_mark-clause-found g c = λ names few.
    let q = err_from_is_err_and c.from_residual.result c.from_residual.ensures.1 in rw (q.1, q.2) (c.in_err-inspect_and_mark.ensures.found names few)

-- ---- Where a trace may be cut off

pub returns-in_err-inspect_and_mark-clause-uncut : goal.returns-in_err-inspect_and_mark-clause-uncut
returns-in_err-inspect_and_mark-clause-uncut g c = λ names few allowed.
    let q = err_from_is_err_and c.from_residual.result c.from_residual.ensures.1 in rw (q.1, q.2) (c.in_err-inspect_and_mark.ensures.uncut names few allowed)

pub returns-in_err-inspect_and_mark-clause-before : goal.returns-in_err-inspect_and_mark-clause-before
returns-in_err-inspect_and_mark-clause-before g c = λ names few.
    let q = err_from_is_err_and c.from_residual.result c.from_residual.ensures.1 in rw (q.1, q.2) (c.in_err-inspect_and_mark.ensures.before names few)
