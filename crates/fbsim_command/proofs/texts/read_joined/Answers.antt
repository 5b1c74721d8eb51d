use Rattle.fbsim_command.proofs.lemmas.Common.{List, ℕ, map, ap, ◌∙◌, Vec, texts_of}
use Rattle.fbsim_command.specs.Joining.{lines_of_files, text_of}
use Rattle.fbsim_command.specs.declared.sources.SourceFault.TheVariants as source
use Rattle.fbsim_command.proofs.lemmas.files.Gathering.{joined-read, memory-after, own-unread}
use Rattle.fbsim_command.proofs.texts.read_joined.Goals as goal

pub returns-in-Ok-declared_in-clause-read : goal.returns-in-Ok-declared_in-clause-read
returns-in-Ok-declared_in-clause-read g c =
    joined-read g.S.Source.gives c.args.types.now c.args.own.now c.args.source.now c.read_all.new.source (texts_of c.read_all.new.texts.items) c.in-Ok-declared_in.declared.lines.items
    c.in-Ok-declared_in.declared.text.items c.requires.several c.in-Ok.ensures.read
    (c.in-Ok-declared_in.ensures.text ∙ ap (λ (ts : List (Vec ℕ)). text_of (texts_of ts)) c.as_slice.ensures.value)
    (c.in-Ok-declared_in.ensures.lines ∙ ap (λ (ts : List (Vec ℕ)). lines_of_files (texts_of ts)) c.as_slice.ensures.value)

pub returns-in-Err-declared_in-clause-unread : goal.returns-in-Err-declared_in-clause-unread
returns-in-Err-declared_in-clause-unread g c =
    own-unread g.S.Source.gives c.args.types.now c.args.own.now c.args.source.now c.read_all.new.source source.Memory c.requires.several
    (memory-after g.S.Source.gives (map (λ t. t.now) c.args.types.now) c.args.own.now c.args.source.now c.read_all.new.source (texts_of c.read_all.new.texts.items) c.in-Ok.ensures.read)
