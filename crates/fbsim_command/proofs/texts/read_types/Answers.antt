use Rattle.fbsim_command.proofs.lemmas.Common.{List, [], ℕ, refl, sym, subst, Vec, texts_of}
use Rattle.fbsim_command.specs.Reading.{AreTextsRead}
use Rattle.fbsim_command.proofs.lemmas.files.Gathering.{read-all, read-at, unread-at}
use Rattle.fbsim_command.proofs.texts.read_types.Goals as goal

pub loop-i-init : goal.loop-i-init
loop-i-init g c = subst (λ (ts : List (Vec ℕ)). AreTextsRead g.S.Source.gives [] c.args.source.now c.args.source.now (texts_of ts)) (sym c.requires) refl

pub loop-i-preserved : goal.loop-i-preserved
loop-i-preserved g c =
    let read = c.in-Ok.ensures.read in
    read-at g.S.Source.gives c.args.types.now c.loop-i.i _ c.args.source.now c.loop-i.source c.read_next.new.source (texts_of c.loop-i.texts.items) (texts_of c.read_next.new.texts.items) read.0
    c.loop-i-test.true c.loop-i.invariant read.1 read.2

pub returns-in-Err-clause-unread : goal.returns-in-Err-clause-unread
returns-in-Err-clause-unread g c = (
  c.loop-i.i,
  refl,
  unread-at g.S.Source.gives c.args.types.now c.loop-i.i _ c.args.source.now c.loop-i.source c.read_next.new.source (texts_of c.loop-i.texts.items) _ c.loop-i-test.true c.loop-i.invariant
      c.in-Err.ensures.unread,
)

pub returns-clause-read : goal.returns-clause-read
returns-clause-read g c = read-all g.S.Source.gives c.args.types.now c.loop-i.i c.args.source.now c.loop-i.source (texts_of c.loop-i.texts.items) c.loop-i-test.false c.loop-i.invariant
