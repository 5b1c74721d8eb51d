use Rattle.fb_read_positions.specs.Walks.{take}
use Rattle.fb_read_positions.proofs.step.take.Goals as goal

pub returns-in-Mark : goal.returns-in-Mark
unfolding take
returns-in-Mark c = rw c.in-Mark.is c.expect.ensures

pub returns-in-In : goal.returns-in-In
unfolding take
returns-in-In c = rw c.in-In.is c.word.ensures

pub returns-in-St : goal.returns-in-St
unfolding take
returns-in-St c = rw c.in-St.is c.word-in-St.ensures

pub returns-in-Name : goal.returns-in-Name
unfolding take
returns-in-Name c = rw c.in-Name.is c.past_name.ensures

pub returns-in-Event : goal.returns-in-Event
unfolding take
returns-in-Event c = rw c.in-Event.is (c.passed.ensures _ c.name_if.new.self c.name_if.ensures)

pub returns-in-Port : goal.returns-in-Port
unfolding take
returns-in-Port c = rw c.in-Port.is c.past.ensures

pub returns-in-Ports : goal.returns-in-Ports
unfolding take
returns-in-Ports c = rw c.in-Ports.is c.past-in-Ports.ensures

pub returns-in-Events : goal.returns-in-Events
unfolding take
returns-in-Events c = rw c.in-Events.is (c.passed-in-Events.ensures _ c.section.new.cursor c.section.ensures)

pub returns-in-Variables : goal.returns-in-Variables
unfolding take
returns-in-Variables c = rw c.in-Variables.is (c.passed-in-Variables.ensures _ c.variables.new.cursor c.variables.ensures)

pub returns-in-Instances : goal.returns-in-Instances
unfolding take
returns-in-Instances c = rw c.in-Instances.is (c.passed-in-Instances.ensures _ c.many.new.cursor c.many.ensures)

pub returns-in-EventConnections : goal.returns-in-EventConnections
unfolding take
returns-in-EventConnections c = rw c.in-EventConnections.is (c.passed-in-EventConnections.ensures _ c.section-in-EventConnections.new.cursor c.section-in-EventConnections.ensures)

pub returns-in-States : goal.returns-in-States
unfolding take
returns-in-States c = rw c.in-States.is (c.passed-in-States.ensures _ c.states.new.cursor c.states.ensures)

pub returns-in-Transitions : goal.returns-in-Transitions
unfolding take
returns-in-Transitions c = rw c.in-Transitions.is (c.passed-in-Transitions.ensures _ c.transitions.new.cursor c.transitions.ensures)

pub returns-in-Blocks : goal.returns-in-Blocks
unfolding take
returns-in-Blocks c = rw c.in-Blocks.is c.past_blocks.ensures

pub returns-in-Application : goal.returns-in-Application
unfolding take
returns-in-Application c = rw c.in-Application.is c.past_application.ensures

pub returns-in-Block : goal.returns-in-Block
unfolding take
returns-in-Block c = rw c.in-Block.is c.past-in-Block.ensures

pub returns-in-EventPort : goal.returns-in-EventPort
unfolding take
returns-in-EventPort c = rw c.in-EventPort.is c.past-in-EventPort.ensures

pub returns-in-Variable : goal.returns-in-Variable
unfolding take
returns-in-Variable c = rw c.in-Variable.is c.past_variable.ensures

pub returns-in-Instance : goal.returns-in-Instance
unfolding take
returns-in-Instance c = rw c.in-Instance.is c.past-in-Instance.ensures

pub returns-in-Parameter : goal.returns-in-Parameter
unfolding take
returns-in-Parameter c = rw c.in-Parameter.is c.past-in-Parameter.ensures

pub returns-in-Connection : goal.returns-in-Connection
unfolding take
returns-in-Connection c = rw c.in-Connection.is c.past-in-Connection.ensures

pub returns-in-State : goal.returns-in-State
unfolding take
returns-in-State c = rw c.in-State.is c.past-in-State.ensures

pub returns-in-Action : goal.returns-in-Action
unfolding take
returns-in-Action c = rw c.in-Action.is c.past_action.ensures

pub returns-in-Transition : goal.returns-in-Transition
unfolding take
returns-in-Transition c = rw c.in-Transition.is c.past-in-Transition.ensures

pub returns-in-Algorithm : goal.returns-in-Algorithm
unfolding take
returns-in-Algorithm c = rw c.in-Algorithm.is c.past-in-Algorithm.ensures
