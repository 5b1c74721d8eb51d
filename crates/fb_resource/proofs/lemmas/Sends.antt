-- Resources, and what becomes of them, cross threads. Each lemma serves the types above it, since a search for all at once runs out of steps.
use denote.Param.Send.{IsSend, IsSync, sendable, view_send, recorded_send, recorded_sync, struct_send}
use denote.Struct.Declared.{shape}
use Rattle.std.proofs.Crossing.{crosses, Arc-send}
use Rattle.fb_types.proofs.items.Items.TheSendSync as items
use Rattle.fb_types.proofs.boxed.Boxed.TheSendSync as boxed
use Rattle.fb_types.proofs.name.Name.TheSendSync as name
use Rattle.fb_types.proofs.reference.Reference.TheSendSync as reference
use Rattle.fb_types.proofs.library.Application.TheSendSync as application
use Rattle.fb_types.proofs.library.CompositeType.TheSendSync as composite_type
use Rattle.fb_types.proofs.library.Ports.TheSendSync as ports
use Rattle.fb_types.proofs.library.State.TheSendSync as chart_state
use Rattle.fb_types.proofs.library.Variable.TheSendSync as variable
use Rattle.fb_types.proofs.deploy.Deploy.TheSendSync as deploy
use Rattle.fb_types.proofs.deploy.Stimulus.TheSendSync as stimulus
use Rattle.fb_types.proofs.run.Line.TheSendSync as line
use Rattle.fb_types.proofs.run.Message.TheSendSync as message
use Rattle.fb_types.proofs.run.StopMark.TheSendSync as mark
use Rattle.fb_types.proofs.value.Reason.TheSendSync as reason
use Rattle.fb_types.proofs.text.UnaryOperator.TheSendSync as unary
use Rattle.fb_types.proofs.text.BinaryOperator.TheSendSync as binary
use Rattle.fb_types.proofs.text.Label.TheSendSync as label
use Rattle.fb_system.proofs.wiring.Wiring.TheSendSync as wiring
use Rattle.fb_system.proofs.kept.Kept.TheSendSync as kept
use Rattle.fb_system.proofs.links.Links.TheSendSync as links
use Rattle.fb_system.proofs.interfaces.Interfaces.TheSendSync as interfaces
use Rattle.fb_system.proofs.rows.StimulusRow.TheSendSync as row
use Rattle.fb_st.proofs.frame.Frame.TheSendSync as frame
use Rattle.fb_st.proofs.layout.Layout.TheSendSync as layout
use Rattle.fb_ecc.proofs.chart.Chart.TheSendSync as chart
use Rattle.fb_event.proofs.state.EventState.TheSendSync as event
use Rattle.fb_net.proofs.held_copies.HeldCopies.TheSendSync as held
use Rattle.fb_net.proofs.shell.Shell.TheSendSync as shell
use Rattle.fb_agenda.proofs.agenda.Agenda.TheSendSync as agenda
use Rattle.fb_types.specs.contracts.text.Expr as Expr
use Rattle.fb_types.specs.contracts.text.Stmt as Stmt
use Rattle.fb_types.specs.contracts.library.Condition as Condition
use Rattle.fb_types.specs.contracts.library.Transition as Transition
use Rattle.fb_types.specs.contracts.library.Algorithm as Algorithm
use Rattle.fb_types.specs.contracts.text.Body as Body
use Rattle.fb_types.specs.contracts.library.BasicType as BasicType
use Rattle.fb_types.specs.contracts.library.BlockType as BlockType
use Rattle.fb_types.specs.contracts.library.Library as Library
use Rattle.fb_system.specs.contracts.tables.Tables as Tables
use Rattle.fb_system.specs.contracts.netlist.Netlist as Netlist
use Rattle.fb_system.specs.contracts.whole.Whole as Whole
use Rattle.fb_system.specs.contracts.system.System as System
use Rattle.fb_system.specs.contracts.system.System.TheInside as I
use Rattle.fb_st.specs.contracts.compiled.NumberExpr as NumberExpr
use Rattle.fb_st.specs.contracts.compiled.TruthExpr as TruthExpr
use Rattle.fb_st.specs.contracts.compiled.CompiledStmt as CompiledStmt
use Rattle.fb_ecc.specs.contracts.program.Program as Program
use Rattle.fb_ecc.specs.contracts.shared.Shared as Shared
use Rattle.fb_ecc.specs.contracts.shared.SharedChart as SharedChart
use Rattle.fb_ecc.specs.contracts.shared.SharedChart.TheInside as C
use Rattle.fb_ecc.specs.contracts.state.BasicState as BasicState
use Rattle.fb_net.specs.contracts.block.Block as Block
use Rattle.fb_net.specs.contracts.resource.Forest as Forest
use Rattle.fb_net.specs.contracts.tree.Tree as Tree
use Rattle.fb_types.proofs.text.Expr.TheLaws.TheKnot as expr
use Rattle.fb_types.proofs.text.Stmt.TheLaws.TheKnot as stmt
use Rattle.fb_st.proofs.compiled.NumberExpr.TheLaws.TheKnot as number
use Rattle.fb_st.proofs.compiled.CompiledStmt.TheLaws.TheKnot as compiled
use Rattle.fb_net.proofs.block.Block.TheLaws.TheKnot as block
use Rattle.fb_resource.specs.contracts.resource.Resource as Resource
use Rattle.fb_resource.specs.contracts.resource.WindowDone as WindowDone

pub expr_send : IsSend (Expr.the_field).row
expr_send = search (sendable, crosses, expr.crosses, items.the_send, boxed.the_send, name.the_send, reference.the_send, unary.the_field_send, binary.the_field_send) depth 40

pub expr_sync : IsSync (Expr.the_field).row
expr_sync = search (sendable, crosses, expr.crosses, items.the_sync, boxed.the_sync, name.the_sync, reference.the_sync, unary.the_field_sync, binary.the_field_sync) depth 40

pub stmt_send : IsSend (Stmt.the_field).row
stmt_send = search (sendable, crosses, stmt.crosses, expr_send, items.the_send, label.the_field_send, reference.the_send) depth 40

pub stmt_sync : IsSync (Stmt.the_field).row
stmt_sync = search (sendable, crosses, stmt.crosses, expr_sync, items.the_sync, label.the_field_sync, reference.the_sync) depth 40

pub body_send : IsSend (Body.the_field).row
body_send = search (sendable, crosses, stmt_send, items.the_send) depth 40

pub body_sync : IsSync (Body.the_field).row
body_sync = search (sendable, crosses, stmt_sync, items.the_sync) depth 40

pub condition_send : IsSend (Condition.the_field).row
condition_send = search (sendable, crosses, expr_send, name.the_send) depth 40

pub condition_sync : IsSync (Condition.the_field).row
condition_sync = search (sendable, crosses, expr_sync, name.the_sync) depth 40

pub transition_send : IsSend (Transition.the_field).row
transition_send = search (sendable, crosses, condition_send, name.the_send) depth 40

pub transition_sync : IsSync (Transition.the_field).row
transition_sync = search (sendable, crosses, condition_sync, name.the_sync) depth 40

pub algorithm_send : IsSend (Algorithm.the_field).row
algorithm_send = search (sendable, crosses, body_send, name.the_send) depth 40

pub algorithm_sync : IsSync (Algorithm.the_field).row
algorithm_sync = search (sendable, crosses, body_sync, name.the_sync) depth 40

pub basic_type_send : IsSend (BasicType.the_field).row
basic_type_send = search (sendable, crosses, ports.the_field_send, variable.the_field_send, chart_state.the_field_send, transition_send, algorithm_send, items.the_send, name.the_send) depth 40

pub basic_type_sync : IsSync (BasicType.the_field).row
basic_type_sync = search (sendable, crosses, ports.the_field_sync, variable.the_field_sync, chart_state.the_field_sync, transition_sync, algorithm_sync, items.the_sync, name.the_sync) depth 40

pub block_type_send : IsSend (BlockType.the_field).row
block_type_send = search (sendable, crosses, basic_type_send, composite_type.the_field_send) depth 40

pub block_type_sync : IsSync (BlockType.the_field).row
block_type_sync = search (sendable, crosses, basic_type_sync, composite_type.the_field_sync) depth 40

pub library_send : IsSend (Library.the_field).row
library_send = search (sendable, crosses, block_type_send, application.the_field_send, items.the_send) depth 40

pub library_sync : IsSync (Library.the_field).row
library_sync = search (sendable, crosses, block_type_sync, application.the_field_sync, items.the_sync) depth 40

pub tables_send : IsSend (Tables.the_field).row
tables_send = search (sendable, crosses, library_send, wiring.the_send, items.the_send) depth 40

pub tables_sync : IsSync (Tables.the_field).row
tables_sync = search (sendable, crosses, library_sync, wiring.the_sync, items.the_sync) depth 40

pub netlist_send : IsSend Netlist.the_row
netlist_send = search (sendable, crosses, tables_send) depth 40

pub netlist_sync : IsSync Netlist.the_row
netlist_sync = search (sendable, crosses, tables_sync) depth 40

pub whole_send : IsSend (Whole.the_field).row
whole_send = search (sendable, crosses, deploy.the_send, stimulus.the_field_send, netlist_send, links.the_send, ports.the_field_send, interfaces.the_field_send, row.the_field_send, kept.the_field_send, items.the_send) depth 40

pub whole_sync : IsSync (Whole.the_field).row
whole_sync = search (sendable, crosses, deploy.the_sync, stimulus.the_field_sync, netlist_sync, links.the_sync, ports.the_field_sync, interfaces.the_field_sync, row.the_field_sync, kept.the_field_sync, items.the_sync) depth 40

-- `search` finds no allocator's ghost members in a row, so the way to the `Arc` is written out
pub system_send : IsSend System.the_row
system_send =
    let whole = recorded_send (Whole.the_field).row _ _ (Whole.the_type).to_one whole_send in
    let whole_seen = recorded_sync (Whole.the_field).row _ _ (Whole.the_type).to_one whole_sync in
    view_send I.the_row _ _ _ _
    (recorded_send (I.the_field).row _ _ (I.the_type).to_one (struct_send (shape I.the_type) (Arc-send Whole.the_row whole whole_seen, tt)))

-- ---- Compiled algorithms and guards, which the blocks of a type share

pub number_send : IsSend (NumberExpr.the_field).row
number_send = search (sendable, crosses, number.crosses, items.the_send, boxed.the_send, binary.the_field_send) depth 40

pub number_sync : IsSync (NumberExpr.the_field).row
number_sync = search (sendable, crosses, number.crosses, items.the_sync, boxed.the_sync, binary.the_field_sync) depth 40

pub truth_send : IsSend (TruthExpr.the_field).row
truth_send = search (sendable, crosses, number.crosses, items.the_send, boxed.the_send, binary.the_field_send) depth 40

pub truth_sync : IsSync (TruthExpr.the_field).row
truth_sync = search (sendable, crosses, number.crosses, items.the_sync, boxed.the_sync, binary.the_field_sync) depth 40

pub compiled_send : IsSend (CompiledStmt.the_field).row
compiled_send = search (sendable, crosses, compiled.crosses, number_send, truth_send, items.the_send, boxed.the_send, label.the_field_send) depth 40

pub compiled_sync : IsSync (CompiledStmt.the_field).row
compiled_sync = search (sendable, crosses, compiled.crosses, number_sync, truth_sync, items.the_sync, boxed.the_sync, label.the_field_sync) depth 40

pub program_send : IsSend (Program.the_field).row
program_send = search (sendable, crosses, compiled_send, truth_send, layout.the_send, items.the_send) depth 40

pub program_sync : IsSync (Program.the_field).row
program_sync = search (sendable, crosses, compiled_sync, truth_sync, layout.the_sync, items.the_sync) depth 40

pub shared_send : IsSend (Shared.the_field).row
shared_send = search (sendable, crosses, chart.the_field_send, program_send) depth 40

pub shared_sync : IsSync (Shared.the_field).row
shared_sync = search (sendable, crosses, chart.the_field_sync, program_sync) depth 40

pub chart_send : IsSend SharedChart.the_row
chart_send =
    let all = recorded_send (Shared.the_field).row _ _ (Shared.the_type).to_one shared_send in
    let all_seen = recorded_sync (Shared.the_field).row _ _ (Shared.the_type).to_one shared_sync in
    view_send C.the_row _ _ _ _
    (recorded_send (C.the_field).row _ _ (C.the_type).to_one (struct_send (shape C.the_type) (Arc-send Shared.the_row all all_seen, tt)))

pub basic_send : IsSend (BasicState.the_field).row
basic_send = search (sendable, crosses, chart_send, frame.the_send) depth 40

-- ---- Blocks

pub block_send : IsSend (Block.the_field).row
block_send = search (sendable, crosses, block.crosses, basic_send, event.the_send, items.the_send) depth 40

pub forest_send : IsSend (Forest.the_field).row
forest_send = search (sendable, crosses, block_send, shell.the_field_send, held.the_field_send, items.the_send) depth 40

pub tree_send : IsSend Tree.the_row
tree_send = search (sendable, crosses, forest_send) depth 40

-- ---- Resources

pub resource_send : IsSend (Resource.the_field).row
resource_send = search (sendable, crosses, tree_send, agenda.the_send, reason.the_field_send) depth 40

pub done_send : IsSend (WindowDone.the_field).row
done_send = search (sendable, crosses, resource_send, line.the_field_send, message.the_field_send, mark.the_field_send) depth 40
