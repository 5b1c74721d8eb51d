use Rattle.fb_read.proofs.lemmas.Common.{arith, bad_byte, bad_token}
use Rattle.fb_read.specs.declared.error.ReadError.TheVariants as error
use Rattle.fb_read.specs.declared.read.Unread.TheVariants as why
use Rattle.fb_read.proofs.lemmas.texts.WholeLaws.{is-byte, is-grammar, is-nesting, is-none, is-token, is-too-long, read-short, read-token, unread-of}
use Rattle.fb_read.proofs.read.read_library.Goals as goal

pub returns-in-Ok-parse-clause-byte : goal.returns-in-Ok-parse-clause-byte
returns-in-Ok-parse-clause-byte c = read-token c.args.text.now c.in-Ok-parse.library error.Byte bad_byte c.in-Ok-parse.ensures.declared

pub returns-in-Ok-parse-clause-token : goal.returns-in-Ok-parse-clause-token
returns-in-Ok-parse-clause-token c = read-token c.args.text.now c.in-Ok-parse.library error.Token bad_token c.in-Ok-parse.ensures.declared

pub returns-in-Ok-parse-clause-too_long : goal.returns-in-Ok-parse-clause-too_long
returns-in-Ok-parse-clause-too_long c = (λ e. absurd cc, λ long. absurd (read-short c.args.text.now c.in-Ok-parse.library c.in-Ok-parse.ensures.declared long))

-- What the contract says of a refusal it says of no library. A wrong body that refuses each text is refused here at once, with no search.
pub returns-in-Ok-parse-clause-none : goal.returns-in-Ok-parse-clause-none
returns-in-Ok-parse-clause-none c = tt

pub returns-in-Ok-parse-clause-nesting : goal.returns-in-Ok-parse-clause-nesting
returns-in-Ok-parse-clause-nesting c = tt

pub returns-in-Err-clause-none : goal.returns-in-Err-clause-none
returns-in-Err-clause-none c = is-none c.args.text.now (why.Fault c.in-Err.fault) c.error_for.result c.in-Err.ensures.refused c.error_for.ensures

pub returns-clause-none : goal.returns-clause-none
returns-clause-none c = is-none c.args.text.now c.in-Err-parse.unread c.error_for-in-Err-parse.result (unread-of c.args.text.now _ c.in-Err-parse.unread c.in-Err-parse.ensures.refused) c.error_for-in-Err-parse.ensures

pub returns-in-Err-clause-nesting : goal.returns-in-Err-clause-nesting
returns-in-Err-clause-nesting c = is-nesting c.args.text.now (why.Fault c.in-Err.fault) c.error_for.result c.in-Err.ensures.refused c.error_for.ensures

pub returns-clause-nesting : goal.returns-clause-nesting
returns-clause-nesting c = is-nesting c.args.text.now c.in-Err-parse.unread c.error_for-in-Err-parse.result (unread-of c.args.text.now _ c.in-Err-parse.unread c.in-Err-parse.ensures.refused) c.error_for-in-Err-parse.ensures

pub returns-in-Err-clause-grammar : goal.returns-in-Err-clause-grammar
returns-in-Err-clause-grammar c = is-grammar c.args.text.now (why.Fault c.in-Err.fault) c.error_for.result c.in-Err.ensures.refused c.error_for.ensures

pub returns-clause-grammar : goal.returns-clause-grammar
returns-clause-grammar c = is-grammar c.args.text.now c.in-Err-parse.unread c.error_for-in-Err-parse.result (unread-of c.args.text.now _ c.in-Err-parse.unread c.in-Err-parse.ensures.refused) c.error_for-in-Err-parse.ensures

pub returns-in-Err-clause-byte : goal.returns-in-Err-clause-byte
returns-in-Err-clause-byte c = is-byte c.args.text.now (why.Fault c.in-Err.fault) c.error_for.result c.in-Err.ensures.refused c.error_for.ensures

pub returns-clause-byte : goal.returns-clause-byte
returns-clause-byte c = is-byte c.args.text.now c.in-Err-parse.unread c.error_for-in-Err-parse.result (unread-of c.args.text.now _ c.in-Err-parse.unread c.in-Err-parse.ensures.refused) c.error_for-in-Err-parse.ensures

pub returns-in-Err-clause-token : goal.returns-in-Err-clause-token
returns-in-Err-clause-token c = is-token c.args.text.now (why.Fault c.in-Err.fault) c.error_for.result c.in-Err.ensures.refused c.error_for.ensures

pub returns-clause-token : goal.returns-clause-token
returns-clause-token c = is-token c.args.text.now c.in-Err-parse.unread c.error_for-in-Err-parse.result (unread-of c.args.text.now _ c.in-Err-parse.unread c.in-Err-parse.ensures.refused) c.error_for-in-Err-parse.ensures

pub returns-in-Err-clause-too_long : goal.returns-in-Err-clause-too_long
returns-in-Err-clause-too_long c =
    is-too-long c.args.text.now (why.Fault c.in-Err.fault) c.error_for.result c.in-Err.ensures.refused c.error_for.ensures (λ long. let e = c.in-Err.ensures.too_long long in cc)

pub returns-clause-too_long : goal.returns-clause-too_long
returns-clause-too_long c =
    is-too-long c.args.text.now c.in-Err-parse.unread c.error_for-in-Err-parse.result (unread-of c.args.text.now _ c.in-Err-parse.unread c.in-Err-parse.ensures.refused) c.error_for-in-Err-parse.ensures (λ long. absurd (omega (arith, long, c.in-Ok.ensures.short)))

pub returns-in-Ok-parse-clause-exact : goal.returns-in-Ok-parse-clause-exact
returns-in-Ok-parse-clause-exact c = tt

pub returns-in-Err-clause-exact : goal.returns-in-Err-clause-exact
returns-in-Err-clause-exact c = (why.Fault c.in-Err.fault, c.in-Err.ensures.refused, c.error_for.ensures)

pub returns-clause-exact : goal.returns-clause-exact
returns-clause-exact c = (c.in-Err-parse.unread, unread-of c.args.text.now _ c.in-Err-parse.unread c.in-Err-parse.ensures.refused, c.error_for-in-Err-parse.ensures)
