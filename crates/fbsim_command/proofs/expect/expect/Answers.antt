use Rattle.fbsim_command.proofs.lemmas.Common.{List, option_map, inl, inr, noted_of, subst, Holds, types_of, EndsIn, given_of}
use Rattle.clap.specs.Words.{Text}
use Rattle.fbsim_command.specs.Expecting.{NotesRules, own_of}
use Rattle.fbsim_command.specs.Notes.{Follows}
use Rattle.fbsim_command.specs.Texts.{may_lines_of}
use Rattle.fbsim_command.proofs.lemmas.rules.Declaring.{read-and-held, unread}
use Rattle.fbsim_command.specs.declared.join.FileLines.{FileLines}
use Rattle.fbsim_command.proofs.expect.expect.Goals as goal

pub returns-in-Err : goal.returns-in-Err
returns-in-Err g c =
    unread g.S.Source.gives g.S.Streams.opens c.args.expect.now (g.W.Write.contents c.args.out.now) c.args.source.now c.read.new.self c.in-Err.fault c.from.result
    (noted_of c.note_where_asked-note.result) (inl (c.in-Err.ensures.gives, c.note_where_asked-note.ensures)) c.from.ensures

pub returns-in-Err-read_declared : goal.returns-in-Err-read_declared
returns-in-Err-read_declared g c =
    unread g.S.Source.gives g.S.Streams.opens c.args.expect.now (g.W.Write.contents c.args.out.now) c.args.source.now c.read_declared.new.source c.in-Err-read_declared.unread.fault c.from-in-Err-read_declared.result
    (noted_of c.note_of_names-note.result)
    (inr (
      c.in-Err-read_declared.unread.part,
      record { between = c.read.new.self; bytes = c.in-Ok.bytes.items; rules = c.in-Ok.ensures.gives; declaration = c.in-Err-read_declared.ensures.unread },
      c.note_of_names-note.ensures,
    ))
    c.from-in-Err-read_declared.ensures

pub returns : goal.returns
returns g c =
    let x = c.args.expect.now in
    let declared = option_map given_of c.in-Ok-read_declared.declared in
    let lines = may_lines_of c.in-Ok-read_declared.declared in
    let note = noted_of c.note_to_held-note.result in
    let trace = noted_of c.hold_rules-end.new.note in
    let inner = c.hold_rules-end.result in
    read-and-held g.S.Source.gives g.S.Streams.opens x (g.W.Write.contents c.args.out.now) c.args.source.now c.read.new.self c.read_declared.new.source c.hold_rules-end.new.source _
    c.in-Ok.bytes.items lines declared inner c.end_of-end.result trace note c.in-Ok.ensures.gives c.in-Ok-read_declared.ensures.read
    (subst (λ (bytes : Text). Holds g.S.Streams.opens x c.read_declared.new.source c.hold_rules-end.new.source bytes declared
    (g.W.Write.contents c.args.out.now) (g.W.Write.contents c.hold_rules-end.new.out) trace inner) c.as_slice-bytes.ensures.value c.hold_rules-end.ensures)
    (subst (λ (bytes : Text). Follows trace (NotesRules x bytes lines declared inner) note) c.as_slice-bytes.ensures.value c.note_to_held-note.ensures)
    (subst (λ (ls : List FileLines). EndsIn (types_of x) (own_of x.declaration) ls inner c.end_of-end.result) c.lines_in.ensures c.end_of-end.ensures)
