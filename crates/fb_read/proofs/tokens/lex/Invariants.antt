use Rattle.std.proofs.Common.{◌+◌, ◌≤◌, length}
use Rattle.fb_read.specs.Located.{IsEnd}
use Rattle.fb_read.proofs.lemmas.tokens.TokenLaws.{Reading}
use Rattle.fb_read.proofs.tokens.lex.Given as goal

abbrev pub invariant-tokens : goal.invariant-tokens
invariant-tokens l = record {
  reading : Reading l.found l.text l.rest;
  end : IsEnd l.rest l.text;
  within : length l.rest ≤ length l.text;
  few : length l.found + length l.rest ≤ length l.text;
}

abbrev pub decreases-tokens : goal.decreases-tokens
decreases-tokens l = length l.rest
