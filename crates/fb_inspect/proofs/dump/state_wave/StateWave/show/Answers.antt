use Rattle.fb_inspect.proofs.lemmas.Common.{◌++◌, List, ℕ, sym, ap, subst, ◌∙◌, All, system_of, path_at, Line, BelongsTo, AreKept, Remembered, ShowsLines, lines_of}
use Rattle.fb_wave.proofs.lemmas.Handing.{on_ok}
use Rattle.fb_inspect.proofs.lemmas.dump.Changing.{taking_text}
use Rattle.fb_inspect.proofs.lemmas.dump.Growing.{here, shows_more}
use Rattle.fb_inspect.proofs.lemmas.dump.WithoutInside.{last_lines}
use Rattle.fb_inspect.proofs.lemmas.walk.Held.{grown_twice}
use Rattle.fb_inspect.proofs.dump.state_wave.StateWave.show.Goals as goal

pub put_changes-requires-clause-instance : goal.put_changes-requires-clause-instance
put_changes-requires-clause-instance c = c.requires.within

pub put_changes-requires-clause-kept : goal.put_changes-requires-clause-kept
put_changes-requires-clause-kept c =
    (c.requires.look, subst (λ (bs : List Remembered). AreKept (system_of c.args.system.now) bs c.requires.look) (sym c.as_slice-blocks.ensures.value) c.requires.kept)

pub put_changes-requires-clause-saved : goal.put_changes-requires-clause-saved
put_changes-requires-clause-saved c = (c.requires.seen, c.requires.saved)

pub show_lines-requires-clause-dump : goal.show_lines-requires-clause-dump
show_lines-requires-clause-dump c = c.in_ok-go_to.ensures.numbers (system_of c.args.system.now) c.requires.dump

pub show_lines-requires-clause-lines : goal.show_lines-requires-clause-lines
show_lines-requires-clause-lines c = subst (All (BelongsTo (system_of c.args.system.now))) (sym c.as_slice-lines.ensures.value) c.requires.lines

pub returns-clause-shown : goal.returns-clause-shown
returns-clause-shown c = λ look after before are.
    let sys = system_of c.args.system.now in
    let at = c.args.at in
    let p = path_at sys at.instance in
    on_ok c.show_lines.result _ _ c.show_lines.ensures.shown
    (λ lines. record {
      grows = λ xs sent shows.
          let first = c.in_ok-go_to.ensures.grows sys xs sent shows in
          let second = c.in_ok-put_changes.ensures (look.blocks p) after before (subst (λ (bs : List Remembered). AreKept sys bs after) (sym c.as_slice-blocks.ensures.value) are) in
          grown_twice _ _ _ _ first second;
      shown = λ xs y sent shows same first tick then own lost have.
          shows_more sys xs y sent c.go_to.new.text.items c.put_changes.new.text.items at.tick c.go_to.new.self c.show_lines.new.self (c.in_ok-go_to.ensures.shown sys xs sent shows) tick
          (c.in_ok-put_changes.ensures (look.blocks p) after before (subst (λ (bs : List Remembered). AreKept sys bs after) (sym c.as_slice-blocks.ensures.value) are)
          ∙ ap (λ (t : List ℕ). c.go_to.new.text.items ++ t)
          (taking_text sys (here sys xs) look after y.taking at.instance p c.args.self.now.walk.trail.marks.charts.lost same first then (c.facts.ensures.numbered at.instance c.requires.within) lost))
          (subst (λ (ls : List Line). ShowsLines sys ls c.go_to.new.self c.show_lines.new.self) (c.as_slice-lines.ensures.value ∙ sym own) lines)
          (last_lines sys 0 (lines_of xs) y.lines y.taking.first y.taking.emits have ∙ tick);
    })
