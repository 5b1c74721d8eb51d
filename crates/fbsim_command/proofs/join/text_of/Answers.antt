use Rattle.fbsim_command.proofs.lemmas.Common.{◌∙◌, sym, ap, length, List, ℕ, nat_lt, texts_of}
use Rattle.fb_read.specs.Whole.{most_bytes}
use Rattle.fbsim_command.proofs.lemmas.files.OpenLaws.{text-long, text-ok}
use Rattle.fbsim_command.proofs.join.text_of.Goals as goal

pub returns-then-is_too_long : goal.returns-then-is_too_long
returns-then-is_too_long c =
    text-long (texts_of c.args.texts.now) c.in_ok-all.all.items c.in_ok-all.ensures
    (ap (λ (z : List ℕ). nat_lt most_bytes (length z)) (sym c.as_slice.ensures.value) ∙ sym c.is_too_long.ensures ∙ c.if-is_too_long.true)

pub returns : goal.returns
returns c =
    text-ok c.joined-2.result (texts_of c.args.texts.now) (texts_of c.up_to_open.result.now) c.in_ok-all.all.items c.in_ok-all.ensures
    (ap (λ (z : List ℕ). nat_lt most_bytes (length z)) (sym c.as_slice.ensures.value) ∙ sym c.is_too_long.ensures ∙ c.if-is_too_long.false) c.up_to_open.ensures c.joined-2.ensures
