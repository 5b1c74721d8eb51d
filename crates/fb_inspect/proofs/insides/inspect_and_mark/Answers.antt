use Rattle.fb_inspect.proofs.lemmas.Common.{◌≡◌, subst, sym, ◌∙◌, IfSome, ◌≤◌, Inputs, system_of, HasNames, most, IsWrongAt, IsWrongFor, OfRefusal, Refuses, InspectError}
use Rattle.fb_inspect.specs.Faults.{error_of_walk}
use Rattle.fb_wave.specs.declared.current_line.CurrentLine.{CurrentLine}
use Rattle.fb_inspect.specs.Refusals.{IsNamesFault}
use Rattle.fb_inspect.specs.declared.error.InspectError.TheVariants as error
use Rattle.fb_wave.proofs.lemmas.Handing.{on_passed}
use Rattle.fb_inspect.specs.Covering.{Covers}
use Rattle.fb_inspect.specs.Inspections.{IsShownBy, ShowsRead, ShowsBefore}
use Rattle.fb_inspect.proofs.lemmas.walk.Ended.{front_none}
use Rattle.fb_inspect.proofs.lemmas.reactions.Placed.{err_any, no_table, of_table}
use Rattle.fb_inspect.proofs.lemmas.results.Joined.{ok_passed}
use Rattle.fb_inspect.proofs.lemmas.results.Refused.{found_wrong, memory_names, walk_found, walk_names, walk_paths, walk_refused}
use Rattle.fb_wave.specs.CutOff.{IsUncut}
use Rattle.fb_wave.specs.declared.truncation.Cut.TheVariants.{Allowed}
use Rattle.fb_inspect.specs.Selections.{selection_of}
use Rattle.fb_inspect.proofs.insides.inspect_and_mark.Goals as goal

pub returns-in_err-ports-clause-fault : goal.returns-in_err-ports-clause-fault
returns-in_err-ports-clause-fault g c =
    err_any c.from_residual.result _ (front_none (system_of c.args.system.now) (selection_of c.args.inspection) c.args.inspection.terms.steps (g.R.Read.remaining c.args.input.now) (g.W.Write.contents c.args.out.now))

pub returns-in_err-table-clause-fault : goal.returns-in_err-table-clause-fault
returns-in_err-table-clause-fault g c =
    err_any c.from_residual-in_err-table.result _ (front_none (system_of c.args.system.now) (selection_of c.args.inspection) c.args.inspection.terms.steps (g.R.Read.remaining c.args.input.now) (g.W.Write.contents c.args.out.now))

pub returns-in_default-clause-fault : goal.returns-in_default-clause-fault
returns-in_default-clause-fault g c = front_none (system_of c.args.system.now) (selection_of c.args.inspection) c.args.inspection.terms.steps (g.R.Read.remaining c.args.input.now) (g.W.Write.contents c.args.out.now)

pub returns-in-Ok-clause-whole : goal.returns-in-Ok-clause-whole
returns-in-Ok-clause-whole g c =
    let x = c.args.inspection in
    let old = g.W.Write.contents c.args.out.now in
    let new = g.W.Write.contents c.inspect_with.new.out in
    subst (λ (s : Inputs). IfSome (g.R.Read.remaining c.args.input.now) (λ text. IsShownBy x.terms.cut (system_of s) (selection_of x) x.terms.steps text old new))
    (of_table _ c.in-Some.table _ c.in-Some.is c.in_ok-table.ensures.system ∙ c.in_ok-ports.ensures) c.in-Ok.ensures.whole

pub returns-in-Ok-clause-covered : goal.returns-in-Ok-clause-covered
returns-in-Ok-clause-covered g c =
    let x = c.args.inspection in
    let covered = c.in-Ok.covered in
    subst (λ (i : Inputs). IfSome (g.R.Read.remaining c.args.input.now) (λ text. Covers x.terms.cut i x.terms.steps text c.args.marks covered.marks covered.extent))
    (of_table _ c.in-Some.table _ c.in-Some.is c.in_ok-table.ensures.system ∙ c.in_ok-ports.ensures) c.in-Ok.ensures.covered

pub returns-in_err-ports-clause-whole : goal.returns-in_err-ports-clause-whole
returns-in_err-ports-clause-whole g c = ok_passed c.from_residual.result _ _ c.from_residual.ensures.1

pub returns-in_err-ports-clause-covered : goal.returns-in_err-ports-clause-covered
returns-in_err-ports-clause-covered g c = ok_passed c.from_residual.result _ _ c.from_residual.ensures.1

pub returns-in_err-ports-clause-refused : goal.returns-in_err-ports-clause-refused
returns-in_err-ports-clause-refused g c = λ _ _. on_passed _ _ (OfRefusal _) c.from_residual.ensures.1 tt

pub returns-in_err-table-clause-whole : goal.returns-in_err-table-clause-whole
returns-in_err-table-clause-whole g c = ok_passed c.from_residual-in_err-table.result _ _ c.from_residual-in_err-table.ensures.1

pub returns-in_err-table-clause-covered : goal.returns-in_err-table-clause-covered
returns-in_err-table-clause-covered g c = ok_passed c.from_residual-in_err-table.result _ _ c.from_residual-in_err-table.ensures.1

pub returns-in_err-table-clause-refused : goal.returns-in_err-table-clause-refused
returns-in_err-table-clause-refused g c = λ _ _. on_passed _ _ (OfRefusal _) c.from_residual-in_err-table.ensures.1 tt

-- ---- Names and paths

pub returns-in_err-ports-clause-names : goal.returns-in_err-ports-clause-names
returns-in_err-ports-clause-names g c = on_passed _ _ (IsNamesFault (system_of c.args.system.now)) c.from_residual.ensures.1 (memory_names _)

pub returns-in_err-table-clause-names : goal.returns-in_err-table-clause-names
returns-in_err-table-clause-names g c = on_passed _ _ (IsNamesFault (system_of c.args.system.now)) c.from_residual-in_err-table.ensures.1 (memory_names _)

-- there is a table where there are names
pub returns-in_default-clause-names : goal.returns-in_default-clause-names
returns-in_default-clause-names g c = λ same names.
    no_table _ c.in_default.is (c.in_ok-table.ensures.some (subst (λ (s : Inputs). HasNames (system_of s)) (sym c.in_ok-ports.ensures) names))

pub returns-in_err-ports-clause-paths : goal.returns-in_err-ports-clause-paths
returns-in_err-ports-clause-paths g c = on_passed _ _ (λ e. e ≡ error.Unknown → ⊥) c.from_residual.ensures.1 (λ same. cc)

pub returns-in_err-table-clause-paths : goal.returns-in_err-table-clause-paths
returns-in_err-table-clause-paths g c = on_passed _ _ (λ e. e ≡ error.Unknown → ⊥) c.from_residual-in_err-table.ensures.1 (λ same. cc)

pub returns-in_default-clause-paths : goal.returns-in_default-clause-paths
returns-in_default-clause-paths g c = λ same. cc

-- ---- Where the walk does not come to its end

pub returns-clause-fault : goal.returns-clause-fault
returns-clause-fault g c =
    let x = c.args.inspection in
    let old = g.W.Write.contents c.args.out.now in
    let new = g.W.Write.contents c.inspect_with.new.out in
    subst (λ (s : Inputs). ShowsRead (system_of s) (selection_of x) x.terms.steps (g.R.Read.remaining c.args.input.now) old new) (of_table _ c.in-Some.table _ c.in-Some.is c.in_ok-table.ensures.system ∙ c.in_ok-ports.ensures) c.in-Err.ensures.fault

pub returns-clause-found : goal.returns-clause-found
returns-clause-found g c = λ names few.
    let sys = system_of c.args.system.now in
    let steps = c.args.inspection.terms.steps in
    let input = g.R.Read.remaining c.args.input.now in
    let wrong = subst (λ (s : Inputs). HasNames (system_of s) → steps ≤ most → Refuses (λ refusal. IfSome input (IsWrongFor (system_of s) steps refusal c.inspect_with.new.refused.current.text.items)) c.in-Err.error) (of_table _ c.in-Some.table _ c.in-Some.is c.in_ok-table.ensures.system ∙ c.in_ok-ports.ensures) c.in-Err.ensures.refused in
    subst (λ (r : CurrentLine). OfRefusal (λ n. IfSome input (IsWrongFor sys steps (record { number = n; finding = c.keep.new.self.finding }) r.text.items)) c.keep.result) (sym c.keep.ensures.current)
    (subst (OfRefusal (λ n. IfSome input (IsWrongFor sys steps (record { number = n; finding = c.keep.new.self.finding }) c.inspect_with.new.refused.current.text.items))) (sym c.keep.ensures.error)
    (walk_found sys steps input c.in-Err.error c.keep.new.self.finding c.inspect_with.new.refused.current.text.items (wrong names few) c.keep.ensures.found))

pub returns-clause-refused : goal.returns-clause-refused
returns-clause-refused g c = λ names few.
    let sys = system_of c.args.system.now in
    let steps = c.args.inspection.terms.steps in
    let input = g.R.Read.remaining c.args.input.now in
    let wrong = subst (λ (s : Inputs). HasNames (system_of s) → steps ≤ most → Refuses (λ refusal. IfSome input (IsWrongFor (system_of s) steps refusal c.inspect_with.new.refused.current.text.items)) c.in-Err.error) (of_table _ c.in-Some.table _ c.in-Some.is c.in_ok-table.ensures.system ∙ c.in_ok-ports.ensures) c.in-Err.ensures.refused in
    subst (OfRefusal (λ n. IfSome input (IsWrongAt sys steps n))) (sym c.keep.ensures.error)
    (found_wrong sys steps input c.keep.new.self.finding c.inspect_with.new.refused.current.text.items (error_of_walk c.in-Err.error)
    (walk_found sys steps input c.in-Err.error c.keep.new.self.finding c.inspect_with.new.refused.current.text.items (wrong names few) c.keep.ensures.found))

pub returns-clause-names : goal.returns-clause-names
returns-clause-names g c = subst (IsNamesFault (system_of c.args.system.now)) (sym c.keep.ensures.error) (walk_names (system_of c.args.system.now) c.in-Err.error)

pub returns-clause-paths : goal.returns-clause-paths
returns-clause-paths g c = subst (λ (e : InspectError). e ≡ error.Unknown → ⊥) (sym c.keep.ensures.error) (walk_paths c.in-Err.error)

pub returns-in_err-ports-clause-found : goal.returns-in_err-ports-clause-found
returns-in_err-ports-clause-found g c = λ _ _. on_passed _ _ (OfRefusal _) c.from_residual.ensures.1 tt

pub returns-in_err-table-clause-found : goal.returns-in_err-table-clause-found
returns-in_err-table-clause-found g c = λ _ _. on_passed _ _ (OfRefusal _) c.from_residual-in_err-table.ensures.1 tt

-- ---- Where a trace may be cut off

pub returns-in_err-ports-clause-uncut : goal.returns-in_err-ports-clause-uncut
returns-in_err-ports-clause-uncut g c = λ _ _ _. on_passed _ _ (OfRefusal _) c.from_residual.ensures.1 tt

pub returns-in_err-table-clause-uncut : goal.returns-in_err-table-clause-uncut
returns-in_err-table-clause-uncut g c = λ _ _ _. on_passed _ _ (OfRefusal _) c.from_residual-in_err-table.ensures.1 tt

pub returns-clause-uncut : goal.returns-clause-uncut
returns-clause-uncut g c = λ names few allowed.
    let terms = c.args.inspection.terms in
    let input = g.R.Read.remaining c.args.input.now in
    let uncut = subst (λ (s : Inputs). HasNames (system_of s) → terms.steps ≤ most → terms.cut ≡ Allowed → Refuses (λ refusal. IfSome input (IsUncut (system_of s) refusal.number)) c.in-Err.error) (of_table _ c.in-Some.table _ c.in-Some.is c.in_ok-table.ensures.system ∙ c.in_ok-ports.ensures) c.in-Err.ensures.uncut in
    subst (OfRefusal (λ n. IfSome input (IsUncut (system_of c.args.system.now) n))) (sym c.keep.ensures.error)
    (walk_refused (λ n. IfSome input (IsUncut (system_of c.args.system.now) n)) c.in-Err.error (uncut names few allowed))

-- ---- What was written before a line is refused

pub returns-in_err-ports-clause-before : goal.returns-in_err-ports-clause-before
returns-in_err-ports-clause-before g c = λ _ _. on_passed _ _ (OfRefusal _) c.from_residual.ensures.1 tt

pub returns-in_err-table-clause-before : goal.returns-in_err-table-clause-before
returns-in_err-table-clause-before g c = λ _ _. on_passed _ _ (OfRefusal _) c.from_residual-in_err-table.ensures.1 tt

pub returns-clause-before : goal.returns-clause-before
returns-clause-before g c = λ names few.
    let terms = c.args.inspection.terms in
    let what = selection_of c.args.inspection in
    let input = g.R.Read.remaining c.args.input.now in
    let old = g.W.Write.contents c.args.out.now in
    let new = g.W.Write.contents c.inspect_with.new.out in
    let before = subst (λ (s : Inputs). HasNames (system_of s) → terms.steps ≤ most → Refuses (λ refusal. IfSome input (λ text. ShowsBefore (system_of s) what refusal.number text old new)) c.in-Err.error) (of_table _ c.in-Some.table _ c.in-Some.is c.in_ok-table.ensures.system ∙ c.in_ok-ports.ensures) c.in-Err.ensures.before in
    subst (OfRefusal (λ n. IfSome input (λ text. ShowsBefore (system_of c.args.system.now) what n text old new))) (sym c.keep.ensures.error)
    (walk_refused (λ n. IfSome input (λ text. ShowsBefore (system_of c.args.system.now) what n text old new)) c.in-Err.error (before names few))
