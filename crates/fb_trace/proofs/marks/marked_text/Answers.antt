use Rattle.fb_types.proofs.Common.{◌+◌, List, sym, subst, All, arith, system_of}
use Rattle.fb_types.specs.declared.run.Line.{Line}
use Rattle.std.proofs.lemmas.List.Elements.{All-drop}
use Rattle.fb_system.specs.Lines.{BelongsTo}
use Rattle.fb_trace.specs.Marks.{IsRun}
use Rattle.fb_trace.specs.declared.marks.Mark.{Mark}
use Rattle.fb_trace.proofs.lemmas.lines.MarkedRuns.{is_marked_more}
use Rattle.fb_trace.proofs.marks.marked_text.Goals as goal

-- one run more
pub loop-first-preserved : goal.loop-first-preserved
loop-first-preserved c =
    let l = c.loop-first in
    let P = BelongsTo (system_of c.args.system.now) in
    let m : Mark = record { tick = c.in-Some.first.now.key.tick; end = c.len.result + c.waiting_count.result } in
    let cut = c.split_at.ensures in
    record {
      marked = is_marked_more c.args.system.now c.args.form c.args.lines.now l.marks.items c.add_mark.new.marks.items m
          l.text.items l.page.waiting c.put_run.new.text.items c.put_run.new.page.waiting l.rest.now c.split_at.result.0.now c.split_at.result.1.now
          l.invariant.marked cut.by_index.0 (subst (IsRun m.tick) (sym cut.front) c.run_length.ensures.run) c.in_ok-put_run.ensures
          (omega (arith, c.len.ensures, c.waiting_count.ensures.count)) c.in_ok-add_mark.ensures;
      belong = subst (λ (z : List Line). All P z) (sym cut.back) (All-drop P c.run_length.result l.rest.now l.invariant.belong);
    }

-- a vector has fewer than 2^63 bytes, and a page far fewer
pub add_mark-requires : goal.add_mark-requires
add_mark-requires c = omega (arith, c.len.ensures, c.waiting_count.ensures.few, c.put_run.new.text.ok.1, c.put_run.new.text.small)
