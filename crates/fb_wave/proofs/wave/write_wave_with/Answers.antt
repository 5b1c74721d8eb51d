use Rattle.fb_wave.proofs.lemmas.Common.{◌≡◌, Bool, true, Option, Some, None, sym, subst, ◌∙◌, IfSome, Inputs, system_of, Names, HasNames, IsRefusedLine}
use Rattle.fb_types.proofs.Common.{IfErr, IsSome, IsTrue, OnOk}
use Rattle.fb_wave.specs.declared.current_line.CurrentLine.{CurrentLine}
use Rattle.fb_wave.specs.declared.table.PortTable.{PortTable}
use Rattle.fb_wave.specs.Fronts.{WritesBefore}
use Rattle.fb_wave.specs.CutOff.{BlamesShown, FailsShown, IsShown}
use Rattle.fb_wave.proofs.lemmas.Copied.{front_none}
use Rattle.fb_wave.proofs.lemmas.Severed.{blames_memory, blames_names, fails_in}
use Rattle.fb_wave.proofs.lemmas.Handing.{ok_passed, on_passed}
use Rattle.fb_wave.proofs.wave.write_wave_with.Goals as goal

of_table : (o : Option PortTable) (t : PortTable) (s : Inputs) → o ≡ Some t → IfSome o (λ t. t.system.now ≡ s) → t.system.now ≡ s
of_table o t s is are = subst (λ (o : Option PortTable). IfSome o (λ t. t.system.now ≡ s)) is are

some_of : (o : Option PortTable) → o ≡ None → IsSome o → ⊥
some_of None none some = absurd cc
some_of (Some t) none some = absurd cc

-- after the test of the names
names_so : {P : Type 0} (b : Bool) → b ≡ true → (IsTrue b → P) → P
names_so b is so = so is

pub copy-written-requires-clause-dump : goal.copy-written-requires-clause-dump
copy-written-requires-clause-dump g c = c.in_ok-progress.ensures.dump

pub copy-written-requires-clause-tick : goal.copy-written-requires-clause-tick
copy-written-requires-clause-tick g c = c.in_ok-progress.ensures.tick

pub copy-written-requires-clause-shown : goal.copy-written-requires-clause-shown
copy-written-requires-clause-shown g c = c.in_ok-progress.ensures.shown

pub copy-written-requires-clause-written : goal.copy-written-requires-clause-written
copy-written-requires-clause-written g c = c.in_ok-progress.ensures.written

pub returns-clause-whole : goal.returns-clause-whole
returns-clause-whole g c =
    subst
    (λ (s : Inputs).
    OnOk c.copy-written.result
    (IfSome (g.R.Read.remaining c.args.input.now) (λ text. IsShown c.args.cut (system_of s) text (g.W.Write.contents c.args.out.now) (g.W.Write.contents c.copy-written.new.out))))
    (of_table _ c.in-Some.table _ c.in-Some.is c.in_ok-table.ensures.system ∙ c.in_ok-ports.ensures) c.copy-written.ensures.whole

pub returns-clause-part : goal.returns-clause-part
returns-clause-part g c =
    subst
    (λ (s : Inputs). IfErr c.copy-written.result (FailsShown c.args.cut (system_of s) (g.W.Write.contents c.args.out.now) (g.W.Write.contents c.copy-written.new.out)))
    (of_table _ c.in-Some.table _ c.in-Some.is c.in_ok-table.ensures.system ∙ c.in_ok-ports.ensures) c.copy-written.ensures.part

pub returns-in_err-ports-clause-whole : goal.returns-in_err-ports-clause-whole
returns-in_err-ports-clause-whole g c = ok_passed c.from_residual.result _ _ c.from_residual.ensures.1

pub returns-in_err-table-clause-whole : goal.returns-in_err-table-clause-whole
returns-in_err-table-clause-whole g c = ok_passed c.from_residual-in_err-table.result _ _ c.from_residual-in_err-table.ensures.1

pub returns-in_err-progress-clause-whole : goal.returns-in_err-progress-clause-whole
returns-in_err-progress-clause-whole g c = ok_passed c.from_residual-in_err-progress.result _ _ c.from_residual-in_err-progress.ensures.1

pub returns-in_err-ports-clause-part : goal.returns-in_err-ports-clause-part
returns-in_err-ports-clause-part g c = on_passed _ _ _ c.from_residual.ensures.1 (fails_in c.args.cut (system_of c.args.system.now) _ _ _ (front_none _ _))

pub returns-in_err-table-clause-part : goal.returns-in_err-table-clause-part
returns-in_err-table-clause-part g c = on_passed _ _ _ c.from_residual-in_err-table.ensures.1 (fails_in c.args.cut (system_of c.args.system.now) _ _ _ (front_none _ _))

pub returns-then-not-has_names-clause-part : goal.returns-then-not-has_names-clause-part
returns-then-not-has_names-clause-part g c = fails_in c.args.cut (system_of c.args.system.now) _ _ Names (front_none _ _)

pub returns-then-not-has_names-clause-refused : goal.returns-then-not-has_names-clause-refused
returns-then-not-has_names-clause-refused g c = blames_names c.args.cut _ _ (c.has_names.ensures.unnamed c.if-not-has_names.true)

pub returns-in_err-progress-clause-part : goal.returns-in_err-progress-clause-part
returns-in_err-progress-clause-part g c = on_passed _ _ _ c.from_residual-in_err-progress.ensures.1 (fails_in c.args.cut (system_of c.args.system.now) _ _ _ (front_none _ _))

pub returns-clause-refused : goal.returns-clause-refused
returns-clause-refused g c =
    subst
    (λ (s : Inputs).
    HasNames (system_of s) → IfErr c.copy-written.result (BlamesShown c.args.cut (system_of s) (g.R.Read.remaining c.args.input.now)))
    (of_table _ c.in-Some.table _ c.in-Some.is c.in_ok-table.ensures.system ∙ c.in_ok-ports.ensures) c.copy-written.ensures.refused
    (names_so c.has_names.result c.if-not-has_names.false c.has_names.ensures.named)

pub returns-in_err-ports-clause-refused : goal.returns-in_err-ports-clause-refused
returns-in_err-ports-clause-refused g c = on_passed _ _ (BlamesShown c.args.cut (system_of c.args.system.now) (g.R.Read.remaining c.args.input.now)) c.from_residual.ensures.1 (blames_memory c.args.cut _ _)

pub returns-in_err-table-clause-refused : goal.returns-in_err-table-clause-refused
returns-in_err-table-clause-refused g c = on_passed _ _ (BlamesShown c.args.cut (system_of c.args.system.now) (g.R.Read.remaining c.args.input.now)) c.from_residual-in_err-table.ensures.1 (blames_memory c.args.cut _ _)

pub returns-in_err-progress-clause-refused : goal.returns-in_err-progress-clause-refused
returns-in_err-progress-clause-refused g c = on_passed _ _ (BlamesShown c.args.cut (system_of c.args.system.now) (g.R.Read.remaining c.args.input.now)) c.from_residual-in_err-progress.ensures.1 (blames_memory c.args.cut _ _)

-- there are names, so there is a table
pub unreachable-requires : goal.unreachable-requires
unreachable-requires g c =
    let named = names_so c.has_names.result c.if-not-has_names.false c.has_names.ensures.named in
    some_of _ c.in_default.is (c.in_ok-table.ensures.some (subst (λ (s : Inputs). HasNames (system_of s)) (sym c.in_ok-ports.ensures) named))

pub returns-clause-current : goal.returns-clause-current
returns-clause-current g c =
    subst (λ (x : CurrentLine). IfErr c.copy-written.result (IsRefusedLine (system_of c.args.system.now) (g.R.Read.remaining c.args.input.now) x)) (sym c.follow.ensures)
    (subst
    (λ (s : Inputs).
    HasNames (system_of s) → IfErr c.copy-written.result (IsRefusedLine (system_of s) (g.R.Read.remaining c.args.input.now) (record c.copy-written.new.current { tick = c.copy-written.new.self.tick })))
    (of_table _ c.in-Some.table _ c.in-Some.is c.in_ok-table.ensures.system ∙ c.in_ok-ports.ensures) c.copy-written.ensures.current
    (names_so c.has_names.result c.if-not-has_names.false c.has_names.ensures.named))

pub returns-in_err-ports-clause-current : goal.returns-in_err-ports-clause-current
returns-in_err-ports-clause-current g c = on_passed _ _ (IsRefusedLine (system_of c.args.system.now) (g.R.Read.remaining c.args.input.now) _) c.from_residual.ensures.1 tt

pub returns-in_err-table-clause-current : goal.returns-in_err-table-clause-current
returns-in_err-table-clause-current g c = on_passed _ _ (IsRefusedLine (system_of c.args.system.now) (g.R.Read.remaining c.args.input.now) _) c.from_residual-in_err-table.ensures.1 tt

pub returns-in_err-progress-clause-current : goal.returns-in_err-progress-clause-current
returns-in_err-progress-clause-current g c = on_passed _ _ (IsRefusedLine (system_of c.args.system.now) (g.R.Read.remaining c.args.input.now) _) c.from_residual-in_err-progress.ensures.1 tt

pub returns-clause-before : goal.returns-clause-before
returns-clause-before g c =
    subst
    (λ (s : Inputs).
    HasNames (system_of s) → IfErr c.copy-written.result (WritesBefore (system_of s) (g.R.Read.remaining c.args.input.now) (g.W.Write.contents c.args.out.now) (g.W.Write.contents c.copy-written.new.out)))
    (of_table _ c.in-Some.table _ c.in-Some.is c.in_ok-table.ensures.system ∙ c.in_ok-ports.ensures) c.copy-written.ensures.before
    (names_so c.has_names.result c.if-not-has_names.false c.has_names.ensures.named)

pub returns-in_err-ports-clause-before : goal.returns-in_err-ports-clause-before
returns-in_err-ports-clause-before g c = on_passed _ _ (WritesBefore (system_of c.args.system.now) _ _ _) c.from_residual.ensures.1 tt

pub returns-in_err-table-clause-before : goal.returns-in_err-table-clause-before
returns-in_err-table-clause-before g c = on_passed _ _ (WritesBefore (system_of c.args.system.now) _ _ _) c.from_residual-in_err-table.ensures.1 tt

pub returns-in_err-progress-clause-before : goal.returns-in_err-progress-clause-before
returns-in_err-progress-clause-before g c = on_passed _ _ (WritesBefore (system_of c.args.system.now) _ _ _) c.from_residual-in_err-progress.ensures.1 tt
