use Rattle.fbsim_command.proofs.lemmas.Common.{map, texts_of}
use Rattle.fbsim_command.proofs.lemmas.files.Gathering.{one-more-is, own-unread, type-unread}
use Rattle.fbsim_command.proofs.texts.read_all.Goals as goal

pub returns-in-Ok-read_next-clause-read : goal.returns-in-Ok-read_next-clause-read
returns-in-Ok-read_next-clause-read g c =
    let read = c.in-Ok-read_next.ensures.read in
    one-more-is g.S.Source.gives (map (λ t. t.now) c.args.types.now) c.args.own.now c.args.source.now c.read_types.new.source c.read_next.new.source (texts_of c.read_types.new.texts.items)
    (texts_of c.read_next.new.texts.items) read.0 c.in-Ok.ensures.read read.1 read.2

pub returns-in-Err-read_next-clause-unread : goal.returns-in-Err-read_next-clause-unread
returns-in-Err-read_next-clause-unread g c =
    own-unread g.S.Source.gives c.args.types.now c.args.own.now c.args.source.now c.read_next.new.source c.in-Err-read_next.fault c.requires.several
    (record { between = c.read_types.new.source; texts = texts_of c.read_types.new.texts.items; read = c.in-Ok.ensures.read; unread = c.in-Err-read_next.ensures.unread })

pub returns-in-Err-clause-unread : goal.returns-in-Err-clause-unread
returns-in-Err-clause-unread g c =
    let unread = c.in-Err.ensures.unread in
    type-unread g.S.Source.gives (map (λ t. t.now) c.args.types.now) c.args.own.now c.args.source.now c.read_types.new.source c.in-Err.unread.part unread.0 c.in-Err.unread.fault unread.1 unread.2
