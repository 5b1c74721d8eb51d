-- The names that most proofs of this crate cite, passed on from one place. Declares nothing.
pub use Rattle.fb_st.specs.Compiled.{fits_number, fits_truth, number_said, truth_said, word_at}
pub use Rattle.fb_st.specs.Fitting.{arm_right, code_right, codes_right, codes_said, expr_of_number, expr_of_truth, is_truth_type, is_within_type, kinds_number, kinds_truth, name_at, right_number, right_truth, spot, ty_or, value_of_word, values_at}
pub use Rattle.fb_st.specs.Flows.{all_of, branch_of, branches_of, choice_of, choices_of, end_of, point}
pub use Rattle.fb_st.specs.Frames.{Declared, declared_in, index_of, names_of, types_in, values_of}
pub use Rattle.fb_st.specs.Known.{AllKnown, BranchesKnown, ChoicesKnown}
pub use Rattle.fb_st.specs.Made.{SaysAll, SaysTruth}
pub use Rattle.fb_st.specs.Required.{as_whole, wholes}
pub use Rattle.fb_st.specs.declared.compiled.CompiledChoice.{CompiledChoice}
pub use Rattle.fb_st.specs.declared.compiled.CompiledStmt.{CompiledStmt}
pub use Rattle.fb_st.specs.declared.compiled.CountExpr.{CountExpr}
pub use Rattle.fb_st.specs.declared.compiled.TruthExpr.{TruthExpr}
pub use Rattle.fb_st.specs.declared.frame.Slot.{Slot}
pub use Rattle.fb_st.specs.declared.slot_list.Kept.{Kept}
pub use Rattle.fb_types.proofs.Common.{Advances, Assign, Bool, Case, End, Err, For, If, IfSome, Left, List, Name, None, Ok, Option, Point, Repeat, Result, Running, Runs, RunsAll, RunsBranch, RunsChoice, Some, Step, Stmt, Stmts, Stopped, Twice, Types, Values, Went, While, [], and_then, ap, arith, binary_value, cond, drop, err_from_is_err_and, expr_of, false, false≢true, fits, get_or, int_le, ints, length, list_any, map, max, neg_ℤ, not, passed, pos, refl, rules, same_name, set, slice_get, slice_get_read, slice_set, step_of, stmt_of, subst, suc, sym, take, to_z-of_z, true, true≢false, truth_of, value_of, whole, with_value, zero, ℕ, ℤ, ◌&&◌, ◌*◌, ◌++◌, ◌+ℤ◌, ◌+◌, ◌<◌, ◌||◌, ◌∙◌, ◌∷◌, ◌≡◌, ◌≤◌}
pub use Rattle.fb_types.specs.declared.text.Branch.{Branch}
pub use Rattle.fb_types.specs.declared.text.Choice.{Choice}
pub use Rattle.fb_types.specs.declared.text.Label.{Label}
pub use Rattle.fb_types.specs.declared.value.Reason.{Reason}
pub use Rattle.fb_types.specs.declared.value.Ty.{Ty}
pub use Rattle.fb_types.specs.declared.value.Value.{Value}
pub use Rattle.fb_types.specs.Syntax.{Expr}
