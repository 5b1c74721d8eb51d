use Rattle.fb_types.proofs.Common.{[], ap, sym, ◌∙◌, decimal, unwrap_or-slice_get, system_of, line_of}
use Rattle.fb_types.specs.declared.run.Form.TheVariants.{One}
use Rattle.fb_trace.specs.Progress.{Puts}
use Rattle.fb_trace.proofs.lemmas.lines.LineParts.{after_event, after_values, until_event}
use Rattle.fb_trace.proofs.lemmas.lines.PutPieces.{Fails-after, Fails-before, Fails-first, Gathers-passed, Puts-appended, Puts-more}
use Rattle.fb_trace.proofs.lines.put_by_names.Given as given
use Rattle.fb_trace.proofs.lines.put_by_names.Goals as goal
use Rattle.fb_trace.proofs.lines.put_by_names.Goals.{In_ok-put_head}

pub returns-in_err-put_head : goal.returns-in_err-put_head
returns-in_err-put_head g c =
    let sys = system_of c.args.system.now in
    let l = line_of sys c.args.line.now in
    let tick = ap decimal c.requires.tick in
    let event = rw c.ports-ports.ensures at c.event_name.ensures in
    let name = c.resource_name.ensures ∙ sym (unwrap_or-slice_get sys.resource_names l.key.resource []) in
    Gathers-passed _ c.from_residual.ensures.1
    (Fails-first {x = until_event One sys l} (after_event l) (rw (tick, name, c.path.ensures, event) at c.in_err-put_head.ensures.part))

-- what was put up to the name of the event
put_until_event :
    (g : given.Over) (c : In_ok-put_head g)
    → let sys = system_of c.args.system.now in
    Puts (g.W.Write.contents c.args.out.now) (g.W.Write.contents c.put_head.new.out) c.args.page.now c.put_head.new.page
    (until_event One sys (line_of sys c.args.line.now))
put_until_event g c =
    let sys = system_of c.args.system.now in
    let l = line_of sys c.args.line.now in
    let tick = ap decimal c.requires.tick in
    let event = rw c.ports-ports.ensures at c.event_name.ensures in
    let name = c.resource_name.ensures ∙ sym (unwrap_or-slice_get sys.resource_names l.key.resource []) in
    rw (tick, name, c.path.ensures, event) at c.in_ok-put_head.ensures.whole

pub returns-in_err-put_bindings : goal.returns-in_err-put_bindings
returns-in_err-put_bindings g c =
    Gathers-passed _ c.from_residual-in_err-put_bindings.ensures.1
    (Fails-first after_values (Fails-after (put_until_event g (goal.at.returns-in_err-put_bindings g c).In_ok-put_head) c.in_err-put_bindings.ensures.part))

pub returns-in_err-make_room : goal.returns-in_err-make_room
returns-in_err-make_room g c =
    Gathers-passed _ c.from_residual-in_err-make_room.ensures.1
    (Fails-after (Puts-more (put_until_event g (goal.at.returns-in_err-make_room g c).In_ok-put_head) c.in_ok-put_bindings.ensures.whole)
    (Fails-before _ c.in_err-make_room.ensures.text.part))

pub returns : goal.returns
returns g c =
    record {
      whole =
          Puts-more (Puts-more (put_until_event g (goal.at.returns g c).In_ok-put_head) c.in_ok-put_bindings.ensures.whole)
          (Puts-more c.in_ok-make_room.ensures.text.whole (Puts-appended _ c.append_byte.ensures.text));
      part = tt;
    }
