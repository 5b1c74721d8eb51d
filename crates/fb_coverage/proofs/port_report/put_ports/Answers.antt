use Rattle.fb_types.proofs.Common.{Bool, List, ◌++◌, codes, ap, ◌∙◌, system_of, path_at}
use Rattle.fb_types.specs.declared.library.EventPort.{EventPort}
use Rattle.fb_coverage.specs.Connected.{is_in}
use Rattle.fb_coverage.specs.Listed.{listed}
use Rattle.fb_coverage.specs.Reports.{port_line}
use Rattle.fb_coverage.specs.Tables.{row_of}
use Rattle.fb_coverage.proofs.lemmas.Listed.{put_two}
use Rattle.fb_coverage.proofs.port_report.put_ports.Goals as goal

pub returns : goal.returns
returns c =
    let i = c.args.of.now.system.now in
    let here = is_in c.args.of.now.group i.library (system_of i) (path_at (system_of i) c.args.of.now.instance) in
    let m = c.args.marks.now in
    let k = c.args.of.now.instance in
    let word = c.args.word.now in
    let taken = codes " was never taken\n" in
    let emitted = codes " was never emitted\n" in
    put_two c.put_side-2.result c.args.text.now.items _ _ _ c.put_side.new.text.items c.put_side-2.new.text.items
    (c.in_ok-put_side.ensures
    ∙ ap (λ (fs : List Bool). c.args.text.now.items ++ listed (port_line here word fs taken) 0 c.as_slice-inputs.result.now) c.row-taken.ensures
    ∙ ap (λ (es : List EventPort). c.args.text.now.items ++ listed (port_line here word (row_of m.ports.inputs k) taken) 0 es) c.as_slice-inputs.ensures)
    c.put_side-2.ensures
    (ap (λ (fs : List Bool). listed (port_line here word fs emitted) 0 c.as_slice-outputs.result.now) c.row-emitted.ensures
    ∙ ap (λ (es : List EventPort). listed (port_line here word (row_of m.ports.outputs k) emitted) 0 es) c.as_slice-outputs.ensures)
