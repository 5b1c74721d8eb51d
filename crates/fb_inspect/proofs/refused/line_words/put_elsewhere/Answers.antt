use Rattle.fb_inspect.proofs.lemmas.Common.{◌<◌, arith, length, system_of}
use Rattle.std.specs.Prelude.{string_bytes}
use Rattle.fb_wave.proofs.lemmas.Handing.{on_ok}
use Rattle.fb_inspect.proofs.lemmas.words.Texts.{elsewhere_added}
use Rattle.fb_inspect.proofs.refused.line_words.put_elsewhere.Goals as goal

pub returns : goal.returns
returns c =
    let sys = system_of c.args.system.now in
    let counted = c.count.ensures in
    let held = c.resources.ensures in
    let less : c.args.instance < length sys.paths = omega (arith, counted) in
    let there : c.resource-resource.result < length sys.resource_names = omega (arith, held) in
    on_ok c.put_shown.result _ _ c.put_shown.ensures
    (elsewhere_added sys c.args.instance c.resource-resource.result (string_bytes c.args.text.now) (string_bytes c.put_instance.new.text) (string_bytes c.push_str.new.self)
    (string_bytes c.put_shown.new.text) c.resource_name.result.now less c.resource-resource.ensures there c.resource_name.ensures c.in_ok-put_instance.ensures c.in_ok-push_str.ensures.bytes)
