use Rattle.fb_inspect.proofs.lemmas.Common.{◌<◌, arith, length}
use Rattle.std.specs.Prelude.{string_bytes}
use Rattle.fb_wave.proofs.lemmas.Handing.{on_put}
use Rattle.fb_inspect.proofs.lemmas.words.Texts.{variable_added}
use Rattle.fb_inspect.proofs.refused.line_words.put_variable.Goals as goal

pub returns : goal.returns
returns c =
    let vs = c.args.variables.now in
    let k = c.args.index in
    let less : k < length vs = omega arith in
    on_put c.push_str-3.result _ _ _ _ c.push_str-3.ensures.bytes
    (variable_added vs k c.index-variables-index.result (string_bytes c.args.text.now) (string_bytes c.put_shown.new.text) (string_bytes c.push_str.new.self) (string_bytes c.push_str-2.new.self)
    (string_bytes c.push_str-3.new.self) c.as_bytes.result.now c.type_word.result.now less (cc (c.as_bytes.ensures, c.index-variables-index.is)) (cc (c.type_word.ensures, c.index-variables-index.is))
    c.in_ok-put_shown.ensures c.in_ok-push_str.ensures.bytes c.in_ok-push_str-2.ensures.bytes)
