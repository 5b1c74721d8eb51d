use Rattle.std.specs.Str.{bytes_eq, str_to_ascii_lowercase}
use Rattle.std.proofs.lemmas.Bool.Decides.{same_from_decides}
use Rattle.std.proofs.lemmas.Slice.Eq.{bytes_eq-Decides}
use Rattle.fb_why.proofs.explanation.is_called.Goals as goal

pub returns : goal.returns
returns c =
    let n = str_to_ascii_lowercase c.args.name.now in
    let m = str_to_ascii_lowercase c.args.asked.now in
    same_from_decides c.eq_ignore_ascii_case.result (bytes_eq n m) c.eq_ignore_ascii_case.ensures.test (bytes_eq-Decides n m)
