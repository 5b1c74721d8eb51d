-- The names that most proofs of this crate cite, passed on from one place. Declares nothing.
pub use Rattle.fb_read.specs.Blank.{Text, at, may_end, start, step, stepped}
unfoldable pub use Rattle.fb_read.specs.Blank.{skip}
unfoldable pub use Rattle.fb_read.specs.Blocks.{basic, block, library}
pub use Rattle.fb_read.specs.BlocksGrammar.{IsLibrary}
unfoldable pub use Rattle.fb_read.specs.Charts.{action, actions, algorithm, algorithms, condition, state, states, structured_text, transition, transitions}
pub use Rattle.fb_read.specs.ExpressionGrammar.{AreArguments, IsChain, IsExpression, IsLevel, IsPrimary, IsUnary, another, ends, goes_on, inverted, is_bare_call, is_call, is_chain, is_duration, is_false, is_group, is_number, is_primary, is_true, is_unary, is_variable, negated}
unfoldable pub use Rattle.fb_read.specs.Expressions.{arguments, arguments_from, climb, level_at, primary, unary}
unfoldable pub use Rattle.fb_read.specs.Expressions.{around, expression, nested_expression}
pub use Rattle.fb_read.specs.Front.{Found, bad_byte, bad_token, sign_of}
unfoldable pub use Rattle.fb_read.specs.Front.{front, time}
pub use Rattle.fb_read.specs.Grammar.{AreAll, AreSeparated, IsMark, IsName, IsSection, and_next, is_mark, is_name, is_time, is_whole, last}
pub use Rattle.fb_read.specs.Located.{AreLocated}
pub use Rattle.fb_read.specs.Nesting.{deepest, most_nesting}
unfoldable pub use Rattle.fb_read.specs.Nesting.{nesting}
unfoldable pub use Rattle.fb_read.specs.Network.{application, connection, constant, instance, network, parameter, parameters, port}
pub use Rattle.fb_read.specs.Nodes.{transition_of}
pub use Rattle.fb_read.specs.Numbers.{are_digits, digit_of}
unfoldable pub use Rattle.fb_read.specs.Numbers.{number}
pub use Rattle.fb_read.specs.Operators.{Stops, begins_expression, loosest, next_operator, operator_of}
pub use Rattle.fb_read.specs.Parser.{Outcome, Parser, Reads, RuleFault, and_then, eat, pure, refuse, rest_of, sees, syntax, too_deep, ◌>>=◌}
unfoldable pub use Rattle.fb_read.specs.Parser.{after, expect, literal, many, many_after, many_from, name, name_if, one, run_after, run_from, same_mark, section, separated, separated_from, ty_name, whole, word}
unfoldable pub use Rattle.fb_read.specs.Ports.{declaration, event, initial, ports, variables, with_names}
pub use Rattle.fb_read.specs.Refusals.{IsDeepLen}
pub use Rattle.fb_read.specs.StatementGrammar.{IsBody}
pub use Rattle.fb_read.specs.StatementNodes.{branch_of, choice_of}
pub use Rattle.fb_read.specs.Statements.{begins_label, begins_statement}
unfoldable pub use Rattle.fb_read.specs.Statements.{branch, branches, case_body, case_statement, choice, choices, elsif, for_statement, for_to, if_statement, loop_body, others, repeat_statement, statement, while_statement}
unfoldable pub use Rattle.fb_read.specs.Statements.{assignment, body, for_end, nested_statement, several, several_from, simple}
pub use Rattle.fb_read.specs.Tokens.{Tokens, after_mark, tokens_of}
pub use Rattle.fb_read.specs.Whole.{ended}
pub use Rattle.fb_read.specs.Words.{in_upper, is_letter, is_word, word_len, word_of}
unfoldable pub use Rattle.fb_read.specs.Words.{keyword}
pub use Rattle.fb_read.specs.declared.blank.BlankState.{BlankState}
pub use Rattle.fb_read.specs.declared.expression.Nested.{Nested}
pub use Rattle.fb_read.specs.declared.fault.ParseFault.{ParseFault}
pub use Rattle.fb_read.specs.declared.token.Located.{Located}
pub use Rattle.fb_read.specs.declared.token.Mark.{Mark}
pub use Rattle.fb_read.specs.declared.token.Token.{Token}
pub use Rattle.fb_types.proofs.Common.{Bool, Err, List, Name, None, Ok, Option, Result, Some, [], and_parts, ap, append-nil, append_assoc, arith, bytes_eq, cases_Bool, cases_lt, codes, common_steps, cond, drop, drop_all, eq-eqb, eqb, eqb-true, err_from_is_err_and, false, false_from_ne_true, get_or, if◌then◌else◌, inl, inr, is_ascii_digit, le-leb, leb, leb-true, length, length-append, length-drop, length-take, lt-leb, map, max, pos, refl, rules, subst, suc, sym, take, take-append-drop, take_all, true, true≢false, zero, ℕ, ℤ, ◌&&◌, ◌++◌, ◌+◌, ◌-◌, ◌<◌, ◌∙◌, ◌∷◌, ◌≡◌, ◌≤◌}
pub use Rattle.fb_types.specs.declared.library.Action.{Action}
pub use Rattle.fb_types.specs.declared.text.BinaryOperator.{BinaryOperator}
pub use Rattle.fb_types.specs.declared.text.Branch.{Branch}
pub use Rattle.fb_types.specs.declared.text.Choice.{Choice}
pub use Rattle.fb_types.specs.declared.text.Expr.{Expr}
pub use Rattle.fb_types.specs.declared.text.Label.{Label}
pub use Rattle.fb_types.specs.declared.library.Library.{Library}
pub use Rattle.fb_types.specs.declared.library.Ports.{Ports}
pub use Rattle.fb_types.specs.declared.text.Stmt.{Stmt}
pub use Rattle.std.specs.List.{flat_map}
