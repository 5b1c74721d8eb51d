use Rattle.fb_inspect.proofs.lemmas.Common.{◌∷◌, ◌++◌, [], List, sym, subst, All, system_of, Line, BelongsTo, ShowsLines}
use Rattle.fb_wave.proofs.lemmas.Handing.{on_ok}
use Rattle.fb_inspect.specs.declared.walk.reading.Next.TheVariants as next
use Rattle.fb_inspect.specs.dump.Dumping.{ShowsUpTo}
use Rattle.fb_inspect.proofs.lemmas.dump.DumpSteps.{same_line}
use Rattle.fb_inspect.proofs.lemmas.dump.Growing.{shows_untaken}
use Rattle.fb_inspect.proofs.dump.state_wave.StateWave.show_untaken.Goals as goal

pub show_line-requires-clause-dump : goal.show_line-requires-clause-dump
show_line-requires-clause-dump c = c.in_ok-go_to.ensures.numbers (system_of c.args.system.now) c.requires.dump

pub show_line-requires-clause-line : goal.show_line-requires-clause-line
show_line-requires-clause-line c =
    subst (BelongsTo (system_of c.args.system.now)) (sym (same_line c.in-Event.line c.requires.next.0 c.args.self.now.walk.trail.reading.next (sym c.in-Event.is) c.requires.next.1)) c.requires.next.2

pub show_lines-requires-clause-dump : goal.show_lines-requires-clause-dump
show_lines-requires-clause-dump c = c.in_ok-show_line.ensures.numbers

pub show_lines-requires-clause-lines : goal.show_lines-requires-clause-lines
show_lines-requires-clause-lines c = subst (All (BelongsTo (system_of c.args.system.now))) (sym c.as_slice.ensures.value) c.requires.rows

pub returns-clause-shown : goal.returns-clause-shown
returns-clause-shown c = λ line xs sent is at shows.
    let sys = system_of c.args.system.now in
    let l : Line = c.in-Event.line in
    let same = same_line l line c.args.self.now.walk.trail.reading.next (sym c.in-Event.is) is in
    on_ok c.show_lines.result _ _ c.show_lines.ensures.shown
    (λ more.
    shows_untaken sys xs line c.args.ahead.now.rows.items (sent ++ c.go_to.new.text.items) c.go_to.new.self c.show_line.new.self c.show_lines.new.self
    (subst (λ (k : Line). ShowsUpTo sys xs (sent ++ c.go_to.new.text.items) k.key.tick c.go_to.new.self) same (c.in_ok-go_to.ensures.shown sys xs sent shows))
    (subst (λ (k : Line). ShowsLines sys (k ∷ []) c.go_to.new.self c.show_line.new.self) same c.in_ok-show_line.ensures.shown)
    (subst (λ (ls : List Line). ShowsLines sys ls c.show_line.new.self c.show_lines.new.self) c.as_slice.ensures.value more) at)
