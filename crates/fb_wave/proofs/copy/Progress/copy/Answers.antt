use Rattle.fb_wave.proofs.lemmas.Common.{◌≡◌, ◌∙◌, ℕ, true, false, List, refl, subst, sym, arith, system_of, Read, IsLast, RefusesLine, IsRefusedLine}
use Rattle.fb_wave.specs.Lines.{IsNoLast}
use Rattle.fb_wave.specs.Copying.{IsTaken}
use Rattle.fb_wave.specs.Fronts.{WritesBefore}
use Rattle.fb_wave.specs.CutOff.{BlamesShown, FailsShown, is_cut, is_unended}
use Rattle.fb_wave.proofs.lemmas.Copied.{copied_all, copied_none, copied_one, fails_front, fails_taken, fails_unfinished, front_copied, front_flushed, front_none}
use Rattle.fb_wave.proofs.lemmas.Blaming.{end_blamed, line_blamed, some_resource}
use Rattle.fb_wave.proofs.lemmas.Forming.{ShowsForm, form_shown}
use Rattle.fb_wave.proofs.lemmas.Handing.{ok_passed, on_fault, on_faults, on_ok, on_passed}
use Rattle.fb_wave.proofs.lemmas.Severed.{blames_in, cut_blames, cut_fails, cut_shown, end_no_cut, fails_in, line_no_cut, read_blames, shown_in, uncut_line, write_blames}
use Rattle.fb_wave.proofs.lemmas.Current.{cut_current, end_current, line_current}
use Rattle.fb_wave.proofs.lemmas.Unread.{read_current, read_writes_none}
use Rattle.fb_wave.proofs.lemmas.Before.{cut_before, end_before, line_before, read_before}
use Rattle.fb_wave.proofs.copy.Progress.copy.Goals as goal

pub loop-number-init : goal.loop-number-init
loop-number-init g c =
    record {
      copied =
          copied_none (system_of c.args.table.now.system.now) _ _ c.args.self.now _ _ _ _ c.requires.tick c.requires.dump c.requires.shown c.requires.written
          c.in_ok-next_line.ensures.read c.in_ok-next_line.ensures.line refl
          (λ names f l is. form_shown (system_of c.args.table.now.system.now) c.form_of-form.result f l c.next_line.new.line.items names
          (subst (λ (t : List ℕ). ShowsForm c.form_of-form.result t) c.as_slice.ensures.value c.form_of-form.ensures.form) is);
      formed = refl;
      inside = c.requires.current;
    }

pub loop-number-preserved : goal.loop-number-preserved
loop-number-preserved g c =
    let sys = system_of c.args.table.now.system.now in
    let form = c.form_of-form.result in
    record {
      copied =
          copied_one sys form c.loop-number.number c.loop-number.self c.take.new.self _ c.loop-number.current.text.items c.next_line-in-loop-number.new.line.items _ _ _ _ _ _
          c.loop-number.invariant.copied
          (subst (λ (l : List ℕ). IsTaken sys form l c.loop-number.self c.take.new.self) c.as_slice-in-loop-number-3.ensures.value c.in_ok-take.ensures.taken) refl refl
          c.in_ok-flush_much.ensures.whole c.in_ok-next_line-2.ensures.read c.in_ok-next_line-2.ensures.line;
      formed = c.loop-number.invariant.formed;
      inside = c.loop-number.invariant.inside;
    }

pub take-requires : goal.take-requires
take-requires g c = c.loop-number.invariant.copied.numbers

pub finish-requires-clause-number : goal.finish-requires-clause-number
finish-requires-clause-number g c = omega (arith, c.loop-number-test.true)

pub finish-requires-clause-end : goal.finish-requires-clause-end
finish-requires-clause-end g c =
    subst (λ (l : List ℕ). IsLast (system_of c.args.table.now.system.now) l c.in-Some.end) c.as_slice-in-loop-number.ensures.value c.in-Some.ensures.last

pub returns-in-Some-clause-whole : goal.returns-in-Some-clause-whole
returns-in-Some-clause-whole g c =
    let sys = system_of c.args.table.now.system.now in
    on_ok c.finish.result _ _ c.finish.ensures.whole
    (λ finished.
    shown_in c.args.cut sys _ _ _
    (copied_all sys c.form_of-form.result c.loop-number.number c.loop-number.self c.loop-number.current.text.items _ _ _ _ _ c.in-Some.end c.loop-number.invariant.copied
    (subst (λ (l : List ℕ). IsLast sys l c.in-Some.end) c.as_slice-in-loop-number.ensures.value c.in-Some.ensures.last) finished))

pub returns-in_err-next_line-clause-whole : goal.returns-in_err-next_line-clause-whole
returns-in_err-next_line-clause-whole g c = ok_passed c.from_residual.result _ _ c.from_residual.ensures.1

pub returns-in_err-take-clause-whole : goal.returns-in_err-take-clause-whole
returns-in_err-take-clause-whole g c = ok_passed c.from_residual-in_err-take.result _ _ c.from_residual-in_err-take.ensures.1

pub returns-in_err-flush_much-clause-whole : goal.returns-in_err-flush_much-clause-whole
returns-in_err-flush_much-clause-whole g c = ok_passed c.from_residual-in_err-flush_much.result _ _ c.from_residual-in_err-flush_much.ensures.1

pub returns-in_err-next_line-2-clause-whole : goal.returns-in_err-next_line-2-clause-whole
returns-in_err-next_line-2-clause-whole g c = ok_passed c.from_residual-in_err-next_line-2.result _ _ c.from_residual-in_err-next_line-2.ensures.1

pub returns-in_err-next_line-clause-part : goal.returns-in_err-next_line-clause-part
returns-in_err-next_line-clause-part g c =
    on_passed _ _ (FailsShown c.args.cut (system_of c.args.table.now.system.now) _ _) c.from_residual.ensures.1
    (fails_in c.args.cut _ _ _ _ (fails_front _ _ _ _ (read_writes_none _ c.in_err-next_line.ensures.fault) (front_none _ _)))

pub returns-in-Some-clause-part : goal.returns-in-Some-clause-part
returns-in-Some-clause-part g c =
    on_fault c.finish.result _ _ c.finish.ensures.part (λ e unfinished. fails_in c.args.cut _ _ _ e (fails_unfinished _ _ _ _ _ _ _ _ _ _ c.loop-number.invariant.copied e unfinished))

pub returns-in_err-take-clause-part : goal.returns-in_err-take-clause-part
returns-in_err-take-clause-part g c =
    on_passed _ _ (FailsShown c.args.cut (system_of c.args.table.now.system.now) _ _) c.from_residual-in_err-take.ensures.1
    (fails_in c.args.cut _ _ _ _ (fails_front _ _ _ _ c.in_err-take.ensures.fault (front_copied _ _ _ _ _ _ _ _ _ c.loop-number.invariant.copied)))

pub returns-in_err-flush_much-clause-part : goal.returns-in_err-flush_much-clause-part
returns-in_err-flush_much-clause-part g c =
    let sys = system_of c.args.table.now.system.now in
    on_passed _ _ (FailsShown c.args.cut sys (g.W.Write.contents c.args.out.now) (g.W.Write.contents c.flush_much.new.out)) c.from_residual-in_err-flush_much.ensures.1
    (fails_in c.args.cut sys _ _ _
    (fails_taken sys _ _ _ _ _ _ _ _ _ _ c.loop-number.invariant.copied
    (subst (λ (l : List ℕ). IsTaken sys c.form_of-form.result l c.loop-number.self c.take.new.self) c.as_slice-in-loop-number-3.ensures.value c.in_ok-take.ensures.taken)
    c.in_err-flush_much.field-0.0 c.in_err-flush_much.ensures.part))

pub returns-in_err-next_line-2-clause-part : goal.returns-in_err-next_line-2-clause-part
returns-in_err-next_line-2-clause-part g c =
    let sys = system_of c.args.table.now.system.now in
    on_passed _ _ (FailsShown c.args.cut sys (g.W.Write.contents c.args.out.now) (g.W.Write.contents c.flush_much.new.out)) c.from_residual-in_err-next_line-2.ensures.1
    (fails_in c.args.cut sys _ _ _
    (fails_front _ _ _ _ (read_writes_none _ c.in_err-next_line-2.ensures.fault)
    (front_flushed sys _ _ _ _ _ _ _ _ _ _ _ c.loop-number.invariant.copied
    (subst (λ (l : List ℕ). IsTaken sys c.form_of-form.result l c.loop-number.self c.take.new.self) c.as_slice-in-loop-number-3.ensures.value c.in_ok-take.ensures.taken)
    c.in_ok-flush_much.ensures.whole)))

pub returns-clause-part : goal.returns-clause-part
returns-clause-part g c = fails_in c.args.cut _ _ _ _ (front_copied _ _ _ _ _ _ _ _ _ c.loop-number.invariant.copied)

pub returns-clause-whole : goal.returns-clause-whole
returns-clause-whole g c = tt

pub returns-clause-refused : goal.returns-clause-refused
returns-clause-refused g c names = read_blames c.args.cut (system_of c.args.table.now.system.now) (g.R.Read.remaining c.args.input.now) Read tt

pub returns-clause-current : goal.returns-clause-current
returns-clause-current g c names = tt

pub returns-in-Some-clause-refused : goal.returns-in-Some-clause-refused
returns-in-Some-clause-refused g c names =
    let sys = system_of c.args.table.now.system.now in
    let last : IsLast sys c.loop-number.current.text.items c.in-Some.end = subst (λ (l : List ℕ). IsLast sys l c.in-Some.end) c.as_slice-in-loop-number.ensures.value c.in-Some.ensures.last in
    on_fault c.finish.result _ _ c.finish.ensures.refused
    (λ e refuses.
    blames_in c.args.cut sys _ e
    (end_blamed sys c.form_of-form.result c.loop-number.number c.loop-number.self c.loop-number.current.text.items (g.R.Read.remaining c.args.input.now) (g.R.Read.remaining c.loop-number.input)
    (g.W.Write.contents c.args.out.now) (g.W.Write.contents c.loop-number.out) c.loop-number.invariant.copied names (some_resource c.args.table.now.system.now c.args.table.now.limits) c.in-Some.end last e refuses)
    (λ same. end_no_cut sys c.form_of-form.result c.loop-number.number c.loop-number.self c.loop-number.current.text.items (g.R.Read.remaining c.args.input.now) (g.R.Read.remaining c.loop-number.input)
    (g.W.Write.contents c.args.out.now) (g.W.Write.contents c.loop-number.out) c.loop-number.invariant.copied names c.in-Some.end last e refuses))

pub returns-in_err-take-clause-refused : goal.returns-in_err-take-clause-refused
returns-in_err-take-clause-refused g c names =
    let sys = system_of c.args.table.now.system.now in
    let e = c.in_err-take.field-0.0 in
    let refuses : RefusesLine sys c.form_of-form.result c.loop-number.self.tick c.loop-number.number c.loop-number.current.text.items e =
    subst (λ (l : List ℕ). RefusesLine sys c.form_of-form.result c.loop-number.self.tick c.loop-number.number l e) c.as_slice-in-loop-number-3.ensures.value (c.in_err-take.ensures.refused names)
    in
    on_passed _ _ _ c.from_residual-in_err-take.ensures.1
    (blames_in c.args.cut sys _ e
    (line_blamed sys c.form_of-form.result c.loop-number.number c.loop-number.self c.loop-number.current.text.items (g.R.Read.remaining c.args.input.now) (g.R.Read.remaining c.loop-number.input)
    (g.W.Write.contents c.args.out.now) (g.W.Write.contents c.loop-number.out) c.loop-number.invariant.copied names (some_resource c.args.table.now.system.now c.args.table.now.limits)
    (subst (λ (l : List ℕ). IsNoLast sys l) c.as_slice-in-loop-number.ensures.value (c.in_default.ensures.none names)) e refuses)
    (λ same.
    line_no_cut sys c.form_of-form.result c.loop-number.number c.loop-number.self c.loop-number.current.text.items (g.R.Read.remaining c.args.input.now) (g.R.Read.remaining c.loop-number.input)
    (g.W.Write.contents c.args.out.now) (g.W.Write.contents c.loop-number.out) c.loop-number.invariant.copied names
    (subst (λ (l : List ℕ). is_unended l ≡ false) c.as_slice-in-loop-number-2.ensures.value (uncut_line c.args.cut c.as_slice-in-loop-number-2.result.now (sym c.is_cut.ensures ∙ c.if-is_cut.false) same)) e refuses))

pub returns-in_err-next_line-clause-refused : goal.returns-in_err-next_line-clause-refused
returns-in_err-next_line-clause-refused g c names =
    let sys = system_of c.args.table.now.system.now in
    let input = g.R.Read.remaining c.args.input.now in
    on_passed _ _ (BlamesShown c.args.cut sys input) c.from_residual.ensures.1 (read_blames c.args.cut sys input _ c.in_err-next_line.ensures.fault)

pub returns-in_err-next_line-2-clause-refused : goal.returns-in_err-next_line-2-clause-refused
returns-in_err-next_line-2-clause-refused g c names =
    let sys = system_of c.args.table.now.system.now in
    let input = g.R.Read.remaining c.args.input.now in
    on_passed _ _ (BlamesShown c.args.cut sys input) c.from_residual-in_err-next_line-2.ensures.1 (read_blames c.args.cut sys input _ c.in_err-next_line-2.ensures.fault)

pub returns-in_err-flush_much-clause-refused : goal.returns-in_err-flush_much-clause-refused
returns-in_err-flush_much-clause-refused g c names =
    let sys = system_of c.args.table.now.system.now in
    let input = g.R.Read.remaining c.args.input.now in
    on_passed _ _ (BlamesShown c.args.cut sys input) c.from_residual-in_err-flush_much.ensures.1
    (write_blames c.args.cut sys input c.in_err-flush_much.field-0.0.written)

pub returns-then-is_cut-clause-whole : goal.returns-then-is_cut-clause-whole
returns-then-is_cut-clause-whole g c =
    let sys = system_of c.args.table.now.system.now in
    on_ok c.finish_cut.result _ _ (c.finish_cut.ensures.whole sys)
    (cut_shown sys c.form_of-form.result c.loop-number.number c.loop-number.self c.loop-number.current.text.items (g.R.Read.remaining c.args.input.now) (g.R.Read.remaining c.loop-number.input)
    (g.W.Write.contents c.args.out.now) (g.W.Write.contents c.loop-number.out) c.loop-number.invariant.copied _ c.args.cut
    (subst (λ (l : List ℕ). is_cut c.args.cut l ≡ true) c.as_slice-in-loop-number-2.ensures.value (sym c.is_cut.ensures ∙ c.if-is_cut.true)))

pub returns-then-is_cut-clause-part : goal.returns-then-is_cut-clause-part
returns-then-is_cut-clause-part g c =
    let sys = system_of c.args.table.now.system.now in
    on_fault c.finish_cut.result _ _ (c.finish_cut.ensures.part sys)
    (cut_fails sys c.form_of-form.result c.loop-number.number c.loop-number.self c.loop-number.current.text.items (g.R.Read.remaining c.args.input.now) (g.R.Read.remaining c.loop-number.input)
    (g.W.Write.contents c.args.out.now) (g.W.Write.contents c.loop-number.out) c.loop-number.invariant.copied _ c.args.cut
    (subst (λ (l : List ℕ). is_cut c.args.cut l ≡ true) c.as_slice-in-loop-number-2.ensures.value (sym c.is_cut.ensures ∙ c.if-is_cut.true)))

pub returns-then-is_cut-clause-refused : goal.returns-then-is_cut-clause-refused
returns-then-is_cut-clause-refused g c names =
    let sys = system_of c.args.table.now.system.now in
    on_fault c.finish_cut.result _ _ (c.finish_cut.ensures.part sys) (cut_blames sys c.form_of-form.result c.loop-number.number c.loop-number.self c.loop-number.current.text.items (g.R.Read.remaining c.args.input.now) (g.R.Read.remaining c.loop-number.input)
    (g.W.Write.contents c.args.out.now) (g.W.Write.contents c.loop-number.out) c.loop-number.invariant.copied _ c.args.cut)

-- ---- The line that was read last

pub returns-in-Some-clause-current : goal.returns-in-Some-clause-current
returns-in-Some-clause-current g c names =
    let sys = system_of c.args.table.now.system.now in
    let last : IsLast sys c.loop-number.current.text.items c.in-Some.end = subst (λ (l : List ℕ). IsLast sys l c.in-Some.end) c.as_slice-in-loop-number.ensures.value c.in-Some.ensures.last in
    on_fault c.finish.result _ _ c.finish.ensures.current
    (end_current sys c.form_of-form.result c.loop-number.number c.loop-number.self c.loop-number.current.text.items (g.R.Read.remaining c.args.input.now) (g.R.Read.remaining c.loop-number.input)
    (g.W.Write.contents c.args.out.now) (g.W.Write.contents c.loop-number.out) c.loop-number.invariant.copied c.loop-number.current c.finish.new.current c.finish.new.self.tick refl c.loop-number.invariant.formed c.loop-number.invariant.inside c.finish.ensures.tick c.in-Some.end last)

pub returns-in_err-take-clause-current : goal.returns-in_err-take-clause-current
returns-in_err-take-clause-current g c names =
    let sys = system_of c.args.table.now.system.now in
    let e = c.in_err-take.field-0.0 in
    let refuses : RefusesLine sys c.form_of-form.result c.loop-number.self.tick c.loop-number.number c.loop-number.current.text.items e =
    subst (λ (l : List ℕ). RefusesLine sys c.form_of-form.result c.loop-number.self.tick c.loop-number.number l e) c.as_slice-in-loop-number-3.ensures.value (c.in_err-take.ensures.refused names)
    in
    on_passed _ _ (IsRefusedLine sys (g.R.Read.remaining c.args.input.now) (record c.loop-number.current { tick = c.take.new.self.tick })) c.from_residual-in_err-take.ensures.1
    (line_current sys c.form_of-form.result c.loop-number.number c.loop-number.self c.loop-number.current.text.items (g.R.Read.remaining c.args.input.now) (g.R.Read.remaining c.loop-number.input)
    (g.W.Write.contents c.args.out.now) (g.W.Write.contents c.loop-number.out) c.loop-number.invariant.copied (record c.loop-number.current { tick = c.take.new.self.tick }) refl c.loop-number.invariant.formed c.in_err-take.ensures.tick c.loop-number.invariant.inside
    (subst (λ (l : List ℕ). IsNoLast sys l) c.as_slice-in-loop-number.ensures.value (c.in_default.ensures.none names)) e refuses)

pub returns-in_err-next_line-clause-current : goal.returns-in_err-next_line-clause-current
returns-in_err-next_line-clause-current g c names =
    let sys = system_of c.args.table.now.system.now in
    let input = g.R.Read.remaining c.args.input.now in
    on_passed _ _ (IsRefusedLine sys input _) c.from_residual.ensures.1 (read_current sys input _ _ c.in_err-next_line.ensures.fault)

pub returns-in_err-next_line-2-clause-current : goal.returns-in_err-next_line-2-clause-current
returns-in_err-next_line-2-clause-current g c names =
    let sys = system_of c.args.table.now.system.now in
    let input = g.R.Read.remaining c.args.input.now in
    on_passed _ _ (IsRefusedLine sys input _) c.from_residual-in_err-next_line-2.ensures.1 (read_current sys input _ _ c.in_err-next_line-2.ensures.fault)

pub returns-in_err-flush_much-clause-current : goal.returns-in_err-flush_much-clause-current
returns-in_err-flush_much-clause-current g c names =
    on_passed _ _ _ c.from_residual-in_err-flush_much.ensures.1 tt

pub returns-then-is_cut-clause-current : goal.returns-then-is_cut-clause-current
returns-then-is_cut-clause-current g c names =
    let sys = system_of c.args.table.now.system.now in
    on_fault c.finish_cut.result _ _ (c.finish_cut.ensures.part sys) (cut_current sys _ _ _ c.loop-number.self _)

-- ---- What was written before a refusal

pub returns-clause-before : goal.returns-clause-before
returns-clause-before g c names = tt

pub returns-in-Some-clause-before : goal.returns-in-Some-clause-before
returns-in-Some-clause-before g c names =
    let sys = system_of c.args.table.now.system.now in
    let last : IsLast sys c.loop-number.current.text.items c.in-Some.end = subst (λ (l : List ℕ). IsLast sys l c.in-Some.end) c.as_slice-in-loop-number.ensures.value c.in-Some.ensures.last in
    on_faults c.finish.result _ _ _ c.finish.ensures.refused c.finish.ensures.part
    (end_before sys c.form_of-form.result c.loop-number.number c.loop-number.self c.loop-number.current.text.items (g.R.Read.remaining c.args.input.now) (g.R.Read.remaining c.loop-number.input)
    (g.W.Write.contents c.args.out.now) (g.W.Write.contents c.loop-number.out) c.loop-number.invariant.copied c.in-Some.end last _)

pub returns-in_err-take-clause-before : goal.returns-in_err-take-clause-before
returns-in_err-take-clause-before g c names =
    let sys = system_of c.args.table.now.system.now in
    let e = c.in_err-take.field-0.0 in
    let refuses : RefusesLine sys c.form_of-form.result c.loop-number.self.tick c.loop-number.number c.loop-number.current.text.items e =
    subst (λ (l : List ℕ). RefusesLine sys c.form_of-form.result c.loop-number.self.tick c.loop-number.number l e) c.as_slice-in-loop-number-3.ensures.value (c.in_err-take.ensures.refused names)
    in
    on_passed _ _ (WritesBefore sys (g.R.Read.remaining c.args.input.now) (g.W.Write.contents c.args.out.now) (g.W.Write.contents c.loop-number.out)) c.from_residual-in_err-take.ensures.1
    (line_before sys c.form_of-form.result c.loop-number.number c.loop-number.self c.loop-number.current.text.items (g.R.Read.remaining c.args.input.now) (g.R.Read.remaining c.loop-number.input)
    (g.W.Write.contents c.args.out.now) (g.W.Write.contents c.loop-number.out) c.loop-number.invariant.copied _ refl e refuses)

pub returns-in_err-next_line-clause-before : goal.returns-in_err-next_line-clause-before
returns-in_err-next_line-clause-before g c names =
    on_passed _ _ (WritesBefore (system_of c.args.table.now.system.now) (g.R.Read.remaining c.args.input.now) (g.W.Write.contents c.args.out.now) (g.W.Write.contents c.args.out.now)) c.from_residual.ensures.1
    (read_before _ _ _ _ _ c.in_err-next_line.ensures.fault)

pub returns-in_err-next_line-2-clause-before : goal.returns-in_err-next_line-2-clause-before
returns-in_err-next_line-2-clause-before g c names =
    on_passed _ _ (WritesBefore (system_of c.args.table.now.system.now) (g.R.Read.remaining c.args.input.now) (g.W.Write.contents c.args.out.now) (g.W.Write.contents c.flush_much.new.out)) c.from_residual-in_err-next_line-2.ensures.1
    (read_before _ _ _ _ _ c.in_err-next_line-2.ensures.fault)

pub returns-in_err-flush_much-clause-before : goal.returns-in_err-flush_much-clause-before
returns-in_err-flush_much-clause-before g c names = on_passed _ _ _ c.from_residual-in_err-flush_much.ensures.1 tt

pub returns-then-is_cut-clause-before : goal.returns-then-is_cut-clause-before
returns-then-is_cut-clause-before g c names =
    let sys = system_of c.args.table.now.system.now in
    on_fault c.finish_cut.result _ _ (c.finish_cut.ensures.part sys) (cut_before sys c.loop-number.self _ _ _ _)
