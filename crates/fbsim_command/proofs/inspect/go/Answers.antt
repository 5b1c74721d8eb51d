use Rattle.fbsim_command.proofs.lemmas.Common.{◌≡◌, ◌≤◌, Bor, List, map, subst, ap, ◌∙◌, IfErr, IfSome, OnErr, OnOk, system_of, Cut, IsWrongIn, OfRefusal}
use Rattle.clap.specs.Words.{Text}
use Rattle.fb_inspect.specs.Inspections.{IsShownBy, ShowsBefore, ShowsRead}
use Rattle.fb_inspect.specs.Selections.{Selection}
use Rattle.fb_inspect.specs.declared.filter.EventFilter.{EventFilter}
use Rattle.fb_inspect.proofs.lemmas.walk.Ended.{front_none}
use Rattle.fbsim_command.specs.Inspecting.{cut_of, selection_of, upper}
use Rattle.fbsim_command.proofs.lemmas.calls.Inspecting.{memory_is_known, memory_is_named, memory_only, no_names, no_refusal, on_err_any, wrong_so}
use Rattle.fb_inspect.specs.OfSystem.{IsWrongFor}
use Rattle.fbsim_command.specs.InsideNotes.{IsFoundAt}
use Rattle.fbsim_command.proofs.lemmas.notes.NotedLines.{found-so}
use Rattle.fb_inspect.specs.Refusals.{IsPathFault, IsWrongAt}
use Rattle.fb_inspect.specs.declared.error.InspectError.TheVariants as inspection
use Rattle.fb_inspect.specs.walk.Looks.{most}
use Rattle.fb_wave.specs.CutOff.{IsUncut}
use Rattle.fb_wave.specs.Named.{HasNames}
use Rattle.fb_wave.specs.declared.truncation.Cut.TheVariants as cut
use Rattle.fbsim_command.proofs.inspect.go.Goals as goal

pub returns-in_err-only-clause-fault : goal.returns-in_err-only-clause-fault
returns-in_err-only-clause-fault g c =
    let none = front_none (system_of c.args.system.now) (selection_of c.args.inspect.now) c.args.inspect.now.steps (g.R.Read.remaining c.args.trace.now) (g.W.Write.contents c.args.out.now) in
    on_err_any c.from_residual.result _ none

abbrev uppers : List (Bor Text) → List Text
uppers texts = map (λ t. upper t.now) texts

selects : {xs ys : List Text} {f g : EventFilter} → xs ≡ ys → f ≡ g → ◌≡◌ {A = Selection} (record { only = xs; events = f }) (record { only = ys; events = g })
selects {xs} {ys} {f} {g} only events = ap (λ (zs : List Text). record { only = zs; events = f }) only ∙ ap (λ (h : EventFilter). record { only = ys; events = h }) events

pub returns-clause-whole : goal.returns-clause-whole
returns-clause-whole g c =
    let x = c.args.inspect.now in
    let old = g.W.Write.contents c.args.out.now in
    let new = g.W.Write.contents c.inspect.new.out in
    subst (λ (m : Cut). OnOk c.inspect.result (IfSome (g.R.Read.remaining c.args.trace.now) (λ text. IsShownBy m (system_of c.args.system.now) (selection_of x) x.steps text old new))) c.cut_of.ensures
    (subst (λ (what : Selection). OnOk c.inspect.result (IfSome (g.R.Read.remaining c.args.trace.now) (λ text. IsShownBy c.cut_of.result (system_of c.args.system.now) what x.steps text old new)))
    (selects (c.as_slice-2.ensures.value ∙ c.in_ok-only.ensures ∙ ap uppers c.as_slice.ensures.value) c.filter_of.ensures) c.inspect.ensures.whole)

pub returns-clause-fault : goal.returns-clause-fault
returns-clause-fault g c =
    let x = c.args.inspect.now in
    let old = g.W.Write.contents c.args.out.now in
    let new = g.W.Write.contents c.inspect.new.out in
    subst (λ (what : Selection). OnErr c.inspect.result (ShowsRead (system_of c.args.system.now) what x.steps (g.R.Read.remaining c.args.trace.now) old new))
    (selects (c.as_slice-2.ensures.value ∙ c.in_ok-only.ensures ∙ ap uppers c.as_slice.ensures.value) c.filter_of.ensures) c.inspect.ensures.read

pub returns-in_err-only-clause-refused : goal.returns-in_err-only-clause-refused
returns-in_err-only-clause-refused g c =
    no_refusal c.from_residual.result (IsWrongIn (cut_of c.args.inspect.now) c.args.system.now c.args.inspect.now.steps (g.R.Read.remaining c.args.trace.now)) c.from_residual.ensures.1

pub returns-clause-refused : goal.returns-clause-refused
returns-clause-refused g c =
    let sys = system_of c.args.system.now in
    let x = c.args.inspect.now in
    let trace = g.R.Read.remaining c.args.trace.now in
    wrong_so (HasNames sys) (x.steps ≤ most) (cut_of x ≡ cut.Allowed) (λ n. IfSome trace (IsWrongAt sys x.steps n)) (λ n. IfSome trace (IsUncut sys n)) c.inspect.result c.requires
    c.inspect.ensures.refused (λ has few may. c.inspect.ensures.uncut has few (c.cut_of.ensures ∙ may))

pub returns-in_err-only-clause-names : goal.returns-in_err-only-clause-names
returns-in_err-only-clause-names g c = memory_only c.from_residual.result (λ e. e ≡ inspection.Names → ⊥) c.from_residual.ensures.1 memory_is_named

pub returns-in_err-only-clause-paths : goal.returns-in_err-only-clause-paths
returns-in_err-only-clause-paths g c =
    let sys = system_of c.args.system.now in
    let only = (selection_of c.args.inspect.now).only in
    memory_only c.from_residual.result (IsPathFault sys only) c.from_residual.ensures.1 (memory_is_known sys only)

pub returns-clause-names : goal.returns-clause-names
returns-clause-names g c = no_names (HasNames (system_of c.args.system.now)) c.requires c.inspect.result c.inspect.ensures.names

pub returns-clause-paths : goal.returns-clause-paths
returns-clause-paths g c =
    subst (λ (only : List Text). IfErr c.inspect.result (IsPathFault (system_of c.args.system.now) only)) (c.as_slice-2.ensures.value ∙ c.in_ok-only.ensures ∙ ap uppers c.as_slice.ensures.value)
    c.inspect.ensures.paths

pub returns-in_err-only-clause-found : goal.returns-in_err-only-clause-found
returns-in_err-only-clause-found g c =
    no_refusal c.from_residual.result (λ line. IsFoundAt c.args.system.now c.args.inspect.now.steps (g.R.Read.remaining c.args.trace.now) line c.args.refused.now) c.from_residual.ensures.1

pub returns-clause-found : goal.returns-clause-found
returns-clause-found g c =
    let sys = system_of c.args.system.now in
    let x = c.args.inspect.now in
    let r = c.inspect.new.refused in
    found-so (HasNames sys) (x.steps ≤ most)
    (λ n. IfSome (g.R.Read.remaining c.args.trace.now) (IsWrongFor c.args.system.now x.steps (record { number = n; finding = r.finding }) r.current.text.items)) c.inspect.result c.requires
    c.inspect.ensures.found

pub returns-in_err-only-clause-before : goal.returns-in_err-only-clause-before
returns-in_err-only-clause-before g c =
    let x = c.args.inspect.now in
    let out = g.W.Write.contents c.args.out.now in
    no_refusal c.from_residual.result
    (λ line. x.steps ≤ most → IfSome (g.R.Read.remaining c.args.trace.now) (λ text. ShowsBefore (system_of c.args.system.now) (selection_of x) line text out out)) c.from_residual.ensures.1

pub returns-clause-before : goal.returns-clause-before
returns-clause-before g c =
    let sys = system_of c.args.system.now in
    let x = c.args.inspect.now in
    let trace = g.R.Read.remaining c.args.trace.now in
    let old = g.W.Write.contents c.args.out.now in
    let new = g.W.Write.contents c.inspect.new.out in
    subst (λ (what : Selection). IfErr c.inspect.result (OfRefusal (λ line. x.steps ≤ most → IfSome trace (λ text. ShowsBefore sys what line text old new))))
    (selects (c.as_slice-2.ensures.value ∙ c.in_ok-only.ensures ∙ ap uppers c.as_slice.ensures.value) c.filter_of.ensures)
    (found-so (HasNames sys) (x.steps ≤ most)
    (λ line. IfSome trace (λ text. ShowsBefore sys (record { only = c.as_slice-2.result.now; events = c.filter_of.result }) line text old new)) c.inspect.result c.requires c.inspect.ensures.before)
