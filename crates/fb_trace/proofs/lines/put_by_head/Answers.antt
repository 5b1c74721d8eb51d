use Rattle.fb_types.proofs.Common.{◌++◌, ◌∷◌, [], ap, codes, decimal, system_of}
use Rattle.fb_system.specs.Heads.{head_text}
use Rattle.fb_trace.specs.Progress.{Puts}
use Rattle.fb_trace.specs.Starts.{first_value, head_of_line}
use Rattle.fb_trace.proofs.lemmas.lines.LineStarts.{by_head}
use Rattle.fb_trace.proofs.lemmas.lines.PutPieces.{Fails-after, Fails-before, Gathers-passed, Puts-appended, Puts-more}
use Rattle.fb_trace.proofs.lines.put_by_head.Given as given
use Rattle.fb_trace.proofs.lines.put_by_head.Goals as goal
use Rattle.fb_trace.proofs.lines.put_by_head.Goals.{After-append_start}

pub returns-in_err-make_room : goal.returns-in_err-make_room
returns-in_err-make_room g c = Gathers-passed _ c.from_residual.ensures.1 (Fails-before _ c.in_err-make_room.ensures.text.part)

-- what was put up to the first value
put_start :
    (g : given.Over) (c : After-append_start g)
    → let sys = system_of c.args.system.now in
    let l = c.args.line.now in
    Puts (g.W.Write.contents c.args.out.now) (g.W.Write.contents c.make_room.new.out) c.args.page.now c.append_start.new.page
    (decimal l.key.tick ++ codes " " ++ head_text sys (head_of_line l) ++ first_value l.values)
put_start g c =
    let tick = ap decimal c.requires.tick in
    Puts-more c.in_ok-make_room.ensures.text.whole (Puts-appended _ (rw (tick, c.requires.head.text, c.as_slice.ensures) at c.append_start.ensures.text))

pub returns-in_err-put_others : goal.returns-in_err-put_others
returns-in_err-put_others g c =
    let sys = system_of c.args.system.now in
    Gathers-passed _ c.from_residual-in_err-put_others.ensures.1
    (rw (← by_head sys c.args.line.now c.requires.belongs)
    (Fails-before (10 ∷ []) (Fails-after (put_start g (goal.at.returns-in_err-put_others g c).After-append_start) c.in_err-put_others.ensures.text.part)))

pub returns : goal.returns
returns g c =
    let sys = system_of c.args.system.now in
    record {
      whole =
          rw (← by_head sys c.args.line.now c.requires.belongs)
          (Puts-more (Puts-more (put_start g (goal.at.returns g c).After-append_start) c.in_ok-put_others.ensures.text.whole) (Puts-appended _ c.append_byte.ensures.text));
      part = tt;
    }
