use Rattle.fbsim_command.proofs.lemmas.Common.{refl, Memory}
use Rattle.fbsim_command.specs.Comparing.{IsReported}
use Rattle.fbsim_command.proofs.lemmas.calls.DifferenceCalls.{no_file_written, not_reported, parted, passed_no_file, reported-of, wrote}
use Rattle.fbsim_command.proofs.expect.show_parted.Goals as goal

pub returns-in_err-text-clause-shown : goal.returns-in_err-text-clause-shown
returns-in_err-text-clause-shown g c = λ first second part.
    parted c.args.diff.now first second _ _ c.from_residual.result Memory c.from_residual.ensures.1 refl

pub returns-in_err-write_text-clause-shown : goal.returns-in_err-write_text-clause-shown
returns-in_err-write_text-clause-shown g c = λ first second part.
    let d = c.args.diff.now in
    let reported : IsReported d first second c.in_ok-text.text.items =
    reported-of d first second c.args.found c.in-Some.difference c.in_ok-text.text.items c.in-Some.is part c.in_ok-text.ensures
    in
    parted d first second _ _ c.from_residual-in_err-write_text.result _ c.from_residual-in_err-write_text.ensures.1
    (not_reported d first second _ _ c.in_ok-text.text.items c.as_slice.result.now c.as_slice.ensures.value reported c.in_err-write_text.field-0.0 c.in_err-write_text.ensures.part)

pub returns-clause-shown : goal.returns-clause-shown
returns-clause-shown g c = λ first second part.
    let d = c.args.diff.now in
    let reported : IsReported d first second c.in_ok-text.text.items =
    reported-of d first second c.args.found c.in-Some.difference c.in_ok-text.text.items c.in-Some.is part c.in_ok-text.ensures
    in
    wrote d first second _ _ c.in_ok-text.text.items c.as_slice.result.now c.as_slice.ensures.value reported c.in_ok-write_text.ensures.whole

pub returns-in_err-text-clause-read : goal.returns-in_err-text-clause-read
returns-in_err-text-clause-read g c = passed_no_file c.from_residual.result Memory c.from_residual.ensures.1 (λ is. absurd cc)

pub returns-in_err-write_text-clause-read : goal.returns-in_err-write_text-clause-read
returns-in_err-write_text-clause-read g c =
    passed_no_file c.from_residual-in_err-write_text.result _ c.from_residual-in_err-write_text.ensures.1
    (no_file_written (g.W.Write.contents c.args.out.now) (g.W.Write.contents c.write_text.new.out) c.as_slice.result.now c.in_err-write_text.field-0.0 c.in_err-write_text.ensures.part)
