-- The command line (this project's own): the program's commands, and what a parse of the words asks for.
use Rattle.std.specs.Prelude.{◌≡◌, ◌⊎◌, ◌<◌, ◌^◌, ◌↔◌, ◌&&◌, ℕ, Bool, true, false, not, IsTrue, List, [], ◌∷◌, Option, Some, None, map, option_map, codes}
use Rattle.std.specs.Borrow.{Bor}
use Rattle.std.specs.Str.Parse.{IsNumeral, digits_value, without_leading_plus}
use Rattle.clap.specs.Words.{App, Rule, Row, Text, new_app, new_rule, with_rule, with_subcommand, subcommand_of, all_of, first_of, one_of, takes, fault_of, IsAmong}
use Rattle.clap.specs.declared.builder.action.ArgAction.TheVariants.{Append, SetTrue}
use Rattle.clap.specs.declared.error.kind.ErrorKind.{ErrorKind}
use Rattle.clap.specs.declared.error.kind.ErrorKind.TheVariants.{DisplayHelp, DisplayVersion}
use Rattle.clap.specs.declared.builder.value_parser.ValueParser.{ValueParser}
use Rattle.clap.specs.declared.builder.value_parser.ValueParser.TheVariants as parser
use Rattle.fb_types.specs.declared.run.Form.{Form}
use Rattle.fb_types.specs.declared.run.Form.TheVariants.{One, Two}
use Rattle.fbsim_line.specs.declared.arguments.Argument.{Argument}
use Rattle.fbsim_line.specs.declared.arguments.Argument.TheVariants as argument
use Rattle.fbsim_line.specs.declared.bench_line.Diff.{Diff}
use Rattle.fbsim_line.specs.declared.bench_line.Expect.{Expect}
use Rattle.fbsim_line.specs.declared.coverage_line.Coverage.{Coverage}
use Rattle.fbsim_line.specs.declared.draw_line.Draw.{Draw}
use Rattle.fbsim_line.specs.declared.inspect_line.Inspect.{Inspect}
use Rattle.fbsim_line.specs.declared.levels.Levels.{Levels}
use Rattle.fbsim_line.specs.declared.line.Action.{Action}
use Rattle.fbsim_line.specs.declared.line.Action.TheVariants.{Check, Run}
use Rattle.fbsim_line.specs.declared.line.Task.{Task}
use Rattle.fbsim_line.specs.declared.line.Call.{Call}
use Rattle.fbsim_line.specs.declared.line.Call.TheVariants as call
use Rattle.fbsim_line.specs.declared.line.Subcommand.{Subcommand}
use Rattle.fbsim_line.specs.declared.line.Subcommand.TheVariants as sub
use Rattle.fbsim_line.specs.declared.line.Wave.{Wave}
use Rattle.fbsim_line.specs.declared.line.LineFault.{LineFault}
use Rattle.fbsim_line.specs.declared.session_line.SessionCall.{SessionCall}
use Rattle.fbsim_line.specs.declared.line.LineFault.TheVariants.{Memory, Help, Fault}

-- ---- The commands

-- whole numbers from 1 to `most`
abbrev pub up_to : ℕ → ValueParser
up_to most = parser.Unsigned 1 most

-- the word that represents a form of the trace
abbrev pub word_of : Form → Text
word_of One = codes "1"
word_of Two = codes "2"

abbrev pub form_words : List Text
form_words = word_of One ∷ word_of Two ∷ []

-- the parser takes the words of the forms, and no others
abbrev pub AreForms : ValueParser → Type 0
AreForms (parser.Names words) = map (λ w. w.now) words.now ≡ form_words
AreForms _ = ⊥

-- A value as a parser refers to it. Where it is in memory changes no answer of the parser, so it may be anywhere.
abbrev pub placed : {X : Type 0} → X → Bor X
placed x = record { ref_ptr = (0, 0); now = x }

abbrev pub forms : ValueParser
forms = parser.Names (placed (map placed form_words))

-- an option with a value of this kind
abbrev pub limited : Text → ValueParser → Rule
limited id values = record (new_rule id) { long = Some id; parser = Some values }

-- an argument that has to be there, by its place
abbrev pub required : Text → Rule
required id = record (new_rule id) { required = true }

-- an argument of which there are one or more, by its place
abbrev pub several : Text → Rule
several id = record (required id) { action = Some Append }

-- an option that takes the name of a file
abbrev pub file : Text → Rule
file id = record (new_rule id) { long = Some id }

-- an option that takes the name of a file, and may be there several times
abbrev pub repeated : Text → Rule
repeated id = record (file id) { action = Some Append }

-- an option without a value
abbrev pub flag : Text → Rule
flag id = record (new_rule id) { long = Some id; action = Some SetTrue }

-- an option with a value of this kind, and with the text of that which is taken without it
abbrev pub preset : Text → ValueParser → Text → Rule
preset id values text = record (limited id values) { defaults = text ∷ [] }

-- the rule of an argument of a list
abbrev pub rule_for : Argument → Rule
rule_for (argument.Required id help) = required id.now
rule_for (argument.Several id help) = several id.now
rule_for (argument.Named id help) = file id.now
rule_for (argument.Repeated id help) = repeated id.now
rule_for (argument.Flag id help) = flag id.now
rule_for (argument.Limited id most help) = limited id.now (parser.Unsigned 0 most)
rule_for (argument.Needed id most help) = record (limited id.now (up_to most)) { required = true }
rule_for (argument.Number id most text help) = preset id.now (up_to most) text.now
rule_for (argument.Worded id words text help) = preset id.now words text.now

-- a command with the arguments of a list, one after another
abbrev pub with_arguments : App → List Argument → App
with_arguments a [] = a
with_arguments a (x ∷ xs) = with_arguments (with_rule a (rule_for x)) xs

-- a command with an argument that has to be there
abbrev pub begun : Text → Text → App
begun name id = with_rule (new_app name) (required id)

-- a command with the names of a declaration, of the files of block types before it, and of its deployment
abbrev pub deployed : Text → App
deployed name = with_rule (with_rule (begun name (codes "DECL")) (repeated (codes "types"))) (file (codes "deploy"))

-- a command that reports the place of a refusal, or not
abbrev pub with_why : App → App
with_why a = with_rule (with_rule a (flag (codes "why"))) (flag (codes "no-why"))

-- a command with the names of its files, and whether a refusal is reported with its place
abbrev pub files : Text → App
files name = with_why (with_rule (deployed name) (file (codes "stim")))

-- the command that checks, which may report warnings, leave some out and count others as faults
abbrev pub check : App
check =
    with_rule (with_rule (with_rule (files (codes "check"))
    (flag (codes "lint")))
    (repeated (codes "allow")))
    (repeated (codes "deny"))

-- how far a run goes, and by how many workers
abbrev pub with_numbers : App → App
with_numbers a = with_rule (with_rule (with_rule a
    (record (limited (codes "horizon") (up_to 1000000000000)) { required = true }))
    (record (limited (codes "steps") (up_to 10000000)) { defaults = codes "10000" ∷ [] }))
    (record (limited (codes "workers") (up_to 64)) { defaults = codes "1" ∷ [] })

-- these, whether it is run from one agenda, whether it reports its progress, and the form of its trace
abbrev pub with_run_options : ValueParser → App → App
with_run_options values a = with_rule (with_rule (with_rule (with_numbers a)
    (flag (codes "serial")))
    (flag (codes "progress")))
    (record (limited (codes "trace") values) { defaults = word_of One ∷ [] })

-- a command with the names of a declaration, of its deployment and of its trace, whether that may be cut off, whether the inside of
-- basic blocks is shown, with the limit of the run, and whether a refusal is reported with its place
abbrev pub wave : App
wave = with_why (
    with_rule (with_rule (with_rule (with_rule (deployed (codes "wave"))
    (required (codes "TRACE")))
    (flag (codes "cut")))
    (flag (codes "states")))
    (record (limited (codes "steps") (up_to 10000000)) { defaults = codes "10000" ∷ [] }))

-- a command with the names of rules and of traces, of a declaration with its files of block types and its deployment, and how
-- the rules are held
abbrev pub expect : App
expect = with_why (
    with_rule (with_rule (with_rule (with_rule (with_rule (with_rule (with_rule (with_rule (begun (codes "expect") (codes "RULES"))
    (several (codes "TRACE")))
    (file (codes "decl")))
    (repeated (codes "types")))
    (file (codes "deploy")))
    (flag (codes "strict")))
    (flag (codes "applied")))
    (flag (codes "cut")))
    (flag (codes "junit")))

-- a command with the names of two traces, whether their ticks are left out, and whether a file fault is reported with its file
abbrev pub diff : App
diff = with_why (with_rule (with_rule (begun (codes "diff") (codes "A")) (required (codes "B"))) (flag (codes "no-ticks")))

-- a command with the names of a declaration and of its deployment, and of a type, and whether a refusal is reported with its place
abbrev pub draw : App
draw = with_why (with_rule (deployed (codes "draw")) (file (codes "type")))

-- a command with the names of a declaration, of its deployment and of its trace, of the instances that are shown, the ticks
-- whose events are, whether only those are that cleared no transition, the limit of the run, whether the trace may be cut off,
-- and whether a refusal is reported with its place
abbrev pub inspect : App
inspect = with_why (
    with_rule (with_rule (with_rule (with_rule (with_rule (with_rule (with_rule (deployed (codes "inspect"))
    (required (codes "TRACE")))
    (repeated (codes "only")))
    (limited (codes "from") (parser.Unsigned 0 1000000000000)))
    (limited (codes "to") (parser.Unsigned 0 1000000000000)))
    (flag (codes "lost")))
    (record (limited (codes "steps") (up_to 10000000)) { defaults = codes "10000" ∷ [] }))
    (flag (codes "cut")))

-- a command with the names of a declaration, of its deployment and of traces, the limit of the runs, how much must be covered,
-- whether traces may be cut off, and whether a refusal is reported with its place
abbrev pub coverage : App
coverage = with_why (
    with_rule (with_rule (with_rule (with_rule (deployed (codes "coverage"))
    (several (codes "TRACE")))
    (record (limited (codes "steps") (up_to 10000000)) { defaults = codes "10000" ∷ [] }))
    (limited (codes "least") (parser.Unsigned 0 100)))
    (flag (codes "cut")))

-- a command with the names of a declaration, of its deployment and of its first stimuli, with the limit of the run and the form of
-- its trace
abbrev pub session_with : ValueParser → App
session_with values =
    with_rule (with_rule (with_rule (deployed (codes "session"))
    (file (codes "stim")))
    (record (limited (codes "steps") (up_to 10000000)) { defaults = codes "10000" ∷ [] }))
    (record (limited (codes "trace") values) { defaults = word_of One ∷ [] })

-- a command with the name of a refusal
abbrev pub explain : App
explain = begun (codes "explain") (codes "NAME")

-- the program's command, without its subcommands
abbrev pub program : App
program = record { top = record (new_app (codes "fbsim")).top { has_version = true; subcommand_required = true }; subs = [] }

-- the subcommand of a name
abbrev pub command_for : ValueParser → Subcommand → App
command_for values sub.Run = with_run_options values (files (codes "run"))
command_for values sub.Check = check
command_for values sub.Session = session_with values
command_for values sub.Wave = wave
command_for values sub.Expect = expect
command_for values sub.Diff = diff
command_for values sub.Draw = draw
command_for values sub.Inspect = inspect
command_for values sub.Coverage = coverage
command_for values sub.Explain = explain

-- the subcommands in the order in which the help lists them
abbrev pub kinds : List Subcommand
kinds = sub.Run ∷ sub.Check ∷ sub.Session ∷ sub.Wave ∷ sub.Expect ∷ sub.Diff ∷ sub.Draw ∷ sub.Inspect ∷ sub.Coverage ∷ sub.Explain ∷ []

-- a command with the subcommands of a list of names
abbrev pub with_kinds : ValueParser → App → List Subcommand → App
with_kinds values a [] = a
with_kinds values a (k ∷ ks) = with_kinds values (with_subcommand a (command_for values k).top) ks

-- the program's command, with this parser for the form of the trace
abbrev pub simulator_with : ValueParser → App
simulator_with values = with_kinds values program kinds

abbrev pub simulator : App
simulator = simulator_with forms

-- ---- What is asked for

abbrev pub command_name : Action → Text
command_name (Check lint) = codes "check"
command_name (Run horizon steps workers serial form progress) = codes "run"

abbrev pub call_name : Call → Text
call_name (call.Explain name) = codes "explain"
call_name (call.Task c types levels) = command_name c.action
call_name (call.Wave w types) = codes "wave"
call_name (call.Expect x) = codes "expect"
call_name (call.Diff d) = codes "diff"
call_name (call.Draw d types) = codes "draw"
call_name (call.Inspect x types) = codes "inspect"
call_name (call.Coverage x types) = codes "coverage"
call_name (call.Session x types) = codes "session"

-- the option has one text, a decimal numeral that may begin with a plus, and this is its number
pub record IsNumber (rows : List Row) (id : Text) (n : ℕ) : Type 0 where
  pub text : Text
  pub given : one_of id rows ≡ Some text
  pub numeral : IsNumeral 10 (without_leading_plus text)
  pub value : digits_value 10 (without_leading_plus text) ≡ n
  pub small : n < 2 ^ 64

-- the number of an option that may be absent
abbrev pub MayBeNumber : List Row → (id : Text) → Option ℕ → Type 0
MayBeNumber rows id (Some n) = IsNumber rows id n
MayBeNumber rows id None = (n : ℕ) → IsNumber rows id n → ⊥

-- the option for the form has the word of this form
abbrev pub IsForm : List Row → Form → Type 0
IsForm rows form = first_of (codes "trace") rows ≡ Some (word_of form)

-- the option is there exactly where this is true
abbrev pub IsFlag : List Row → Text → Bool → Type 0
IsFlag rows id here = IsTrue here ↔ (first_of id rows ≡ Some (codes "true"))

-- the places of refusals are asked for: `--why` is there, and `--no-why` is not
pub record IsAsked (rows : List Row) (asked : Bool) : Type 0 where
  pub given : Bool
  pub withdrawn : Bool
  pub is_given : IsFlag rows (codes "why") given
  pub is_withdrawn : IsFlag rows (codes "no-why") withdrawn
  pub is : asked ≡ (given && not withdrawn)

pub record IsRun (rows : List Row) (horizon steps workers : ℕ) (serial : Bool) (form : Form) (progress : Bool) : Type 0 where
  pub horizon_is : IsNumber rows (codes "horizon") horizon
  pub steps_is : IsNumber rows (codes "steps") steps
  pub workers_is : IsNumber rows (codes "workers") workers
  pub serial_is : IsFlag rows (codes "serial") serial
  pub form_is : IsForm rows form
  pub progress_is : IsFlag rows (codes "progress") progress

abbrev pub IsAction : List Row → Action → Type 0
IsAction rows (Check lint) = IsFlag rows (codes "lint") lint
IsAction rows (Run horizon steps workers serial form progress) = IsRun rows horizon steps workers serial form progress

-- the texts of an option that may be absent
abbrev pub or_none : Option (List Text) → List Text
or_none None = []
or_none (Some texts) = texts

-- these are the names of the files of block types, in their order
abbrev pub AreTypes : List Row → List (Bor Text) → Type 0
AreTypes rows types = or_none (all_of (codes "types") rows) ≡ map (λ t. t.now) types

-- whether warnings are asked for
abbrev pub warns : Action → Bool
warns (Check lint) = lint
warns (Run horizon steps workers serial form progress) = false

-- one of two lists has a name
abbrev pub has_any : (allow deny : List Text) → Bool
has_any [] [] = false
has_any [] (d ∷ more) = true
has_any (a ∷ more) deny = true

-- This is said of warnings. Where none are asked for, nothing can be said of them.
pub record AreLevels (rows : List Row) (warned : Bool) (l : Levels) : Type 0 where
  pub allow : or_none (all_of (codes "allow") rows) ≡ map (λ t. t.now) l.allow.items
  pub deny : or_none (all_of (codes "deny") rows) ≡ map (λ t. t.now) l.deny.items
  pub of_warnings : (has_any (map (λ t. t.now) l.allow.items) (map (λ t. t.now) l.deny.items) && not warned) ≡ false

-- the call has what the rows of its command say
pub record IsTask (rows : List Row) (c : Task) : Type 0 where
  pub declaration : first_of (codes "DECL") rows ≡ Some c.declaration.now
  pub deploy : first_of (codes "deploy") rows ≡ option_map (λ n. n.now) c.deploy
  pub stimuli : first_of (codes "stim") rows ≡ option_map (λ n. n.now) c.stimuli
  pub why : IsAsked rows c.why
  pub action : IsAction rows c.action

-- the rows of a command of this name are no run and no check
abbrev pub IsNoTask : List Row → (name : Text) → Type 0
IsNoTask rows name = (c : Task) (l : Levels) → name ≡ command_name c.action → IsTask rows c → AreLevels rows (warns c.action) l → ⊥

-- the waveforms of this trace are asked for
pub record AsksWave (rows : List Row) (w : Wave) : Type 0 where
  pub declaration : first_of (codes "DECL") rows ≡ Some w.declaration.now
  pub deploy : first_of (codes "deploy") rows ≡ option_map (λ n. n.now) w.deploy
  pub trace : first_of (codes "TRACE") rows ≡ Some w.trace.now
  pub cut : IsFlag rows (codes "cut") w.is_cut
  pub states : IsFlag rows (codes "states") w.has_states
  pub steps : IsNumber rows (codes "steps") w.steps
  pub why : IsAsked rows w.why

-- a deployment or block types are named, and no declaration
abbrev pub declares_nothing : (declaration deploy : Option Text) → (types : List Text) → Bool
declares_nothing (Some n) deploy types = false
declares_nothing None (Some d) types = true
declares_nothing None None [] = false
declares_nothing None None (t ∷ ts) = true

-- Rules must be held against these traces. A deployment and block types are those of a declaration.
pub record AsksExpect (rows : List Row) (x : Expect) : Type 0 where
  pub rules : first_of (codes "RULES") rows ≡ Some x.rules.now
  pub traces : all_of (codes "TRACE") rows ≡ Some (map (λ t. t.now) x.traces.items)
  pub declaration : first_of (codes "decl") rows ≡ option_map (λ n. n.now) x.declaration
  pub types : AreTypes rows x.types.items
  pub deploy : first_of (codes "deploy") rows ≡ option_map (λ n. n.now) x.deploy
  pub of_a_declaration : declares_nothing (option_map (λ n. n.now) x.declaration) (option_map (λ n. n.now) x.deploy) (map (λ t. t.now) x.types.items) ≡ false
  pub strict : IsFlag rows (codes "strict") x.is_strict
  pub applied : IsFlag rows (codes "applied") x.is_applied
  pub cut : IsFlag rows (codes "cut") x.is_cut
  pub junit : IsFlag rows (codes "junit") x.is_junit
  pub why : IsAsked rows x.why

-- these traces must be compared
pub record AsksDiff (rows : List Row) (d : Diff) : Type 0 where
  pub first : first_of (codes "A") rows ≡ Some d.first.now
  pub second : first_of (codes "B") rows ≡ Some d.second.now
  pub no_ticks : IsFlag rows (codes "no-ticks") d.is_without_ticks
  pub why : IsAsked rows d.why

-- the graph of this is asked for
pub record AsksDraw (rows : List Row) (d : Draw) : Type 0 where
  pub declaration : first_of (codes "DECL") rows ≡ Some d.declaration.now
  pub deploy : first_of (codes "deploy") rows ≡ option_map (λ n. n.now) d.deploy
  pub block_type : first_of (codes "type") rows ≡ option_map (λ n. n.now) d.block_type
  pub why : IsAsked rows d.why

-- it must be reported what these traces cover
pub record AsksCoverage (rows : List Row) (x : Coverage) : Type 0 where
  pub declaration : first_of (codes "DECL") rows ≡ Some x.declaration.now
  pub deploy : first_of (codes "deploy") rows ≡ option_map (λ n. n.now) x.deploy
  pub traces : all_of (codes "TRACE") rows ≡ Some (map (λ t. t.now) x.traces.items)
  pub steps : IsNumber rows (codes "steps") x.steps
  pub least : MayBeNumber rows (codes "least") x.least
  pub cut : IsFlag rows (codes "cut") x.is_cut
  pub why : IsAsked rows x.why

-- this trace must be inspected
pub record AsksInspect (rows : List Row) (x : Inspect) : Type 0 where
  pub declaration : first_of (codes "DECL") rows ≡ Some x.declaration.now
  pub deploy : first_of (codes "deploy") rows ≡ option_map (λ n. n.now) x.deploy
  pub trace : first_of (codes "TRACE") rows ≡ Some x.trace.now
  pub only : or_none (all_of (codes "only") rows) ≡ map (λ t. t.now) x.only.items
  pub from : MayBeNumber rows (codes "from") x.from
  pub to : MayBeNumber rows (codes "to") x.to
  pub lost : IsFlag rows (codes "lost") x.lost
  pub steps : IsNumber rows (codes "steps") x.steps
  pub cut : IsFlag rows (codes "cut") x.is_cut
  pub why : IsAsked rows x.why

-- a session of this application is asked for
pub record AsksSession (rows : List Row) (x : SessionCall) : Type 0 where
  pub declaration : first_of (codes "DECL") rows ≡ Some x.declaration.now
  pub deploy : first_of (codes "deploy") rows ≡ option_map (λ n. n.now) x.deploy
  pub stimuli : first_of (codes "stim") rows ≡ option_map (λ n. n.now) x.stimuli
  pub steps : IsNumber rows (codes "steps") x.steps
  pub form : IsForm rows x.form

abbrev pub IsCall : List Row → Call → Type 0
IsCall rows (call.Explain name) = first_of (codes "NAME") rows ≡ Some name.now
IsCall rows (call.Task c types levels) = IsTask rows c × AreTypes rows types.items × AreLevels rows (warns c.action) levels
IsCall rows (call.Wave w types) = AsksWave rows w × AreTypes rows types.items
IsCall rows (call.Expect x) = AsksExpect rows x
IsCall rows (call.Diff d) = AsksDiff rows d
IsCall rows (call.Draw d types) = AsksDraw rows d × AreTypes rows types.items
IsCall rows (call.Inspect x types) = AsksInspect rows x × AreTypes rows types.items
IsCall rows (call.Coverage x types) = AsksCoverage rows x × AreTypes rows types.items
IsCall rows (call.Session x types) = AsksSession rows x × AreTypes rows types.items

-- a command's name and its rows ask for this
pub record IsCallOf (found : Option (Text × List Row)) (r : Call) : Type 0 where
  pub rows : List Row
  pub is : found ≡ Some (call_name r, rows)
  pub call : IsCall rows r

-- the words ask for this
abbrev pub AreCall : List Text → Call → Type 0
AreCall words = IsCallOf (subcommand_of simulator words)

-- the parser finds no fault in the words: each value is one that its option takes, and what is required is there
abbrev pub IsTaken : List Text → Type 0
IsTaken words = fault_of simulator words ≡ []

-- ---- No call

abbrev pub IsHelp : LineFault → Type 0
IsHelp Memory = ⊥
IsHelp (Help text) = Unit {0}
IsHelp (Fault text) = ⊥

abbrev pub IsFault : LineFault → Type 0
IsFault Memory = ⊥
IsFault (Help text) = ⊥
IsFault (Fault text) = Unit {0}

-- the answer of the parser is the help or the version
abbrev pub IsText : ErrorKind → Type 0
IsText kind = (kind ≡ DisplayHelp) ⊎ (kind ≡ DisplayVersion)

-- the parser may answer these words with the help or the version
abbrev pub AskHelp : List Text → Type 0
AskHelp words = IsAmong DisplayHelp (fault_of simulator words) ⊎ IsAmong DisplayVersion (fault_of simulator words)

-- the parser finds this fault in the words, and it is not that help or the version is asked for
pub record IsRefused (words : List Text) (kind : ErrorKind) : Type 0 where
  pub among : IsAmong kind (fault_of simulator words)
  pub no_help : ¬ (IsText kind)

abbrev pub NameNoCall : List Text → Type 0
NameNoCall words = (r : Call) → AreCall words r → ⊥

-- the parser refuses these words, and not with the help or the version, or they name no call
pub record AreNoCall (words : List Text) : Type 0 where
  pub cause : ((kind : ErrorKind) × IsRefused words kind) ⊎ (IsTaken words × NameNoCall words)
  pub none : takes simulator words ≡ true → NameNoCall words
