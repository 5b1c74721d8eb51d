use Rattle.fb_types.proofs.Common.{Bool, List, sym, ap, ◌∙◌, system_of, path_at, ports_at}
use Rattle.fb_types.specs.declared.library.EventPort.{EventPort}
use Rattle.fb_types.specs.declared.library.Ports.{Ports}
use Rattle.fb_coverage.specs.Connected.{is_in}
use Rattle.fb_coverage.specs.Listed.{listed}
use Rattle.fb_coverage.specs.Shares.{added, flag_if, none_counted, port_flags, with_row}
use Rattle.fb_coverage.specs.Tables.{row_of}
use Rattle.fb_coverage.specs.declared.group.Group.TheVariants.{Connected}
use Rattle.fb_coverage.specs.declared.share.Share.{Share}
use Rattle.fb_coverage.proofs.lemmas.Basics.{none_unless, some_unless}
use Rattle.fb_coverage.proofs.lemmas.Counting.{both_added}
use Rattle.fb_coverage.proofs.share.instance_share.Goals as goal

pub returns-then-is_some : goal.returns-then-is_some
returns-then-is_some c = c.new.ensures ∙ sym (ap (with_row none_counted) (none_unless c.basic_of.result _ c.basic_of.ensures (sym c.is_some.ensures ∙ c.if-is_some.true) _))

pub returns : goal.returns
returns c =
    let i = c.args.system.now in
    let sys = system_of i in
    let k = c.args.instance in
    let p = path_at sys k in
    let m = c.args.marks.now in
    let counts = is_in Connected i.library sys p in
    let its = c.ports-ports.result.now in
    let ins = c.side_share-share.ensures
    ∙ ap (λ (fs : List Bool). with_row none_counted (listed (flag_if counts fs) 0 c.as_slice-inputs.result.now)) c.row-taken.ensures
    ∙ ap (λ (es : List EventPort). with_row none_counted (listed (flag_if counts (row_of m.ports.inputs k)) 0 es)) c.as_slice-inputs.ensures in
    let outs = c.side_share-others.ensures
    ∙ ap (λ (fs : List Bool). with_row none_counted (listed (flag_if counts fs) 0 c.as_slice-outputs.result.now)) c.row-emitted.ensures
    ∙ ap (λ (es : List EventPort). with_row none_counted (listed (flag_if counts (row_of m.ports.outputs k)) 0 es)) c.as_slice-outputs.ensures in
    c.add.ensures
    ∙ ap (λ (s : Share). added s c.side_share-others.result) ins
    ∙ ap (added (with_row none_counted (listed (flag_if counts (row_of m.ports.inputs k)) 0 its.event_inputs))) outs
    ∙ both_added (listed (flag_if counts (row_of m.ports.inputs k)) 0 its.event_inputs) (listed (flag_if counts (row_of m.ports.outputs k)) 0 its.event_outputs)
    ∙ ap (λ (q : Ports). with_row none_counted (port_flags counts m k q)) c.ports-ports.ensures
    ∙ sym (ap (with_row none_counted) (some_unless c.basic_of.result _ c.basic_of.ensures (sym c.is_some.ensures ∙ c.if-is_some.false) (port_flags counts m k (ports_at sys p))))
