use Rattle.fb_types.proofs.Common.{string_bytes}
use Rattle.fbsim_command.proofs.lemmas.calls.Inspecting.{words_found, words_wrong}
use Rattle.fbsim_command.proofs.inside_notes.words_of.Goals as goal

pub returns-in-Some : goal.returns-in-Some
returns-in-Some c = words_wrong (λ s. string_bytes s) c.args.system.now c.args.refused.now c.in-Some.fault c.line_message.result c.in-Some.ensures c.line_message.ensures

pub returns-in-None : goal.returns-in-None
returns-in-None c = words_found (λ s. string_bytes s) c.args.system.now c.args.refused.now c.finding_message.result c.in-None.ensures c.finding_message.ensures
