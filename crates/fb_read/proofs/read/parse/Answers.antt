use Rattle.fb_read.proofs.lemmas.Common.{sym, ap, ◌∙◌, ended}
use Rattle.fb_read.proofs.lemmas.texts.RefusalLaws.{left-over, refused-rule, whole-declared}
use Rattle.fb_read.proofs.read.parse.Goals as goal

pub returns-then-left-eq0-clause-declared : goal.returns-then-left-eq0-clause-declared
returns-then-left-eq0-clause-declared c =
    whole-declared c.args.text.now c.args.tokens.now c.requires.short c.requires.located c.in-Ok.library c.read.new.cursor (rw c.new-cursor.ensures at c.in-Ok.ensures)
    (sym c.left-left.ensures ∙ c.if-left-eq0.true)

pub returns-else-left-eq0-clause-refused : goal.returns-else-left-eq0-clause-refused
returns-else-left-eq0-clause-refused c =
    left-over c.args.text.now c.args.tokens.now c.requires.short c.requires.located c.in-Ok.library c.read.new.cursor c.refused_before-fault.result (rw c.new-cursor.ensures at c.in-Ok.ensures)
    (λ none. c.if-left-eq0.false (c.left-left.ensures ∙ none)) (rw c.left-left.ensures at c.refused_before-fault.ensures)

pub returns-in-Err-Syntax-clause-refused : goal.returns-in-Err-Syntax-clause-refused
returns-in-Err-Syntax-clause-refused c =
    refused-rule c.args.text.now c.args.tokens.now c.requires.short c.requires.located c.read.new.cursor c.refused_before-fault-in-Err-Syntax.result (rw (c.in-Err-Syntax.field-0-is, c.new-cursor.ensures) at c.in-Err-Syntax.ensures)
    (rw c.left-left-in-Err-Syntax.ensures at c.refused_before-fault-in-Err-Syntax.ensures)

pub returns-in-Err-Nesting-clause-refused : goal.returns-in-Err-Nesting-clause-refused
returns-in-Err-Nesting-clause-refused c = record {
  short = c.requires.short;
  located = c.requires.located;
  refused = ap ended (rw (c.in-Err-Nesting.field-0-is, c.new-cursor.ensures) at c.in-Err-Nesting.ensures);
}
