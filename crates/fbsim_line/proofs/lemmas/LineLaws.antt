-- Where the words name no call.
use Rattle.fb_types.proofs.Common.{◌≡◌, ℕ, Bool, Bor, Option, Some, None, Result, Ok, Err, List, false, true, map, option_map, refl, sym, ap, ◌∙◌, subst, inl, inr, codes, Vec, bytes_eq, bytes_eq-Decides, ◌≢◌, IfNone, IfOk, IfErr, IfSome, OnOk, []}
use Rattle.fb_types.specs.declared.run.Form.{Form}
use Rattle.fb_types.specs.declared.run.Form.TheVariants.{One, Two}
use Rattle.clap.specs.Words.{App, Row, Text, HasKind, IsAmong, all_of, first_of, fault_of, kind_of, is_simple, is_simple_and_free, takes, matches_of, subcommand_of}
use Rattle.clap.specs.declared.error.Error.{Error}
use Rattle.clap.specs.declared.error.kind.ErrorKind.{ErrorKind}
use Rattle.clap.specs.declared.error.kind.ErrorKind.TheVariants.{DisplayHelp, DisplayVersion, OutOfMemory}
use Rattle.clap.specs.declared.builder.value_parser.ValueParser.{ValueParser}
use Rattle.fbsim_line.specs.Line.{AreCall, AreLevels, AreNoCall, IsNoTask, MayBeNumber, warns, AskHelp, IsTaken, NameNoCall, IsForm, AsksCoverage, AsksDiff, AsksDraw, AsksExpect, AsksInspect, AsksSession, AsksWave, IsNumber, IsAction, IsCall, IsCallOf, IsFault, IsFlag, IsText, command_name, call_name, declares_nothing, or_none, AreForms, simulator, simulator_with}
use Rattle.fbsim_line.proofs.lemmas.FormLaws.{same_fault, same_subcommand, same_takes}
use Rattle.fbsim_line.specs.declared.levels.Levels.{Levels}
use Rattle.fbsim_line.specs.declared.line.LineFault.{LineFault}
use Rattle.fbsim_line.specs.declared.line.Task.{Task}
use Rattle.fbsim_line.specs.declared.line.Action.{Action}
use Rattle.fbsim_line.specs.declared.line.Action.TheVariants.{Check, Run}
use Rattle.fbsim_line.specs.declared.line.Call.{Call}
use Rattle.fbsim_line.specs.declared.line.Call.TheVariants as call
use Rattle.fbsim_line.specs.declared.line.Wave.{Wave}
use Rattle.fbsim_line.specs.declared.bench_line.Diff.{Diff}
use Rattle.fbsim_line.specs.declared.bench_line.Expect.{Expect}
use Rattle.fbsim_line.specs.declared.coverage_line.Coverage.{Coverage}
use Rattle.fbsim_line.specs.declared.draw_line.Draw.{Draw}
use Rattle.fbsim_line.specs.declared.inspect_line.Inspect.{Inspect}
use Rattle.fbsim_line.specs.declared.session_line.SessionCall.{SessionCall}

pub if_none : {T : Type 0} (r : Option T) (P : Type 0) → P → IfNone r P
if_none (Some x) P p = tt
if_none None P p = p

pub when_none : {T : Type 0} (r : Option T) (P Q : Type 0) → (P → Q) → IfNone r P → IfNone r Q
when_none (Some x) P Q f p = tt
when_none None P Q f p = f p

-- the same of a call that may fail
pub ok_some : {T E : Type 0} (r : Result (Option T) E) (P Q : T → Type 0) → ((x : T) → P x → Q x) → IfOk r (λ o. IfSome o P) → IfOk r (λ o. IfSome o Q)
ok_some (Err e) P Q f p = tt
ok_some (Ok None) P Q f p = tt
ok_some (Ok (Some x)) P Q f p = f x p

pub ok_none : {T E : Type 0} (r : Result (Option T) E) (P Q : Type 0) → (P → Q) → IfOk r (λ o. IfNone o P) → IfOk r (λ o. IfNone o Q)
ok_none (Err e) P Q f p = tt
ok_none (Ok o) P Q f p = when_none o P Q f p

some_is : {T : Type 0} {x y : T} → Some x ≡ Some y → x ≡ y
some_is {T} {x} {y} e = ap (unwrap_or_of x) e
  where
    unwrap_or_of : T → Option T → T
    unwrap_or_of d (Some z) = z
    unwrap_or_of d None = d

-- ---- A run

pub no_horizon : (rows : List Row) → ((n : ℕ) → IsNumber rows (codes "horizon") n → ⊥) → (o : Action) → codes "run" ≡ command_name o → IsAction rows o → ⊥
no_horizon rows none (Check lint) named action = cc
no_horizon rows none (Run horizon steps workers serial form progress) named action = none horizon action.horizon_is

pub no_steps : (rows : List Row) → ((n : ℕ) → IsNumber rows (codes "steps") n → ⊥) → (o : Action) → codes "run" ≡ command_name o → IsAction rows o → ⊥
no_steps rows none (Check lint) named action = cc
no_steps rows none (Run horizon steps workers serial form progress) named action = none steps action.steps_is

pub no_workers : (rows : List Row) → ((n : ℕ) → IsNumber rows (codes "workers") n → ⊥) → (o : Action) → codes "run" ≡ command_name o → IsAction rows o → ⊥
no_workers rows none (Check lint) named action = cc
no_workers rows none (Run horizon steps workers serial form progress) named action = none workers action.workers_is

pub no_form : (rows : List Row) → ((f : Form) → IsForm rows f → ⊥) → (o : Action) → codes "run" ≡ command_name o → IsAction rows o → ⊥
no_form rows none (Check lint) named action = cc
no_form rows none (Run horizon steps workers serial form progress) named action = none form action.form_is

-- ---- The word of the form

pub no_word : (rows : List Row) → first_of (codes "trace") rows ≡ None → (f : Form) → IsForm rows f → ⊥
no_word rows none f is = absurd cc

pub other_word : (rows : List Row) (word : Text) → first_of (codes "trace") rows ≡ Some word → (word ≡ codes "1" → ⊥) → (word ≡ codes "2" → ⊥) → (f : Form) → IsForm rows f → ⊥
other_word rows word given not_one not_two One is = not_one (some_is (sym given ∙ is))
other_word rows word given not_one not_two Two is = not_two (some_is (sym given ∙ is))

-- ---- An option without a value

pub flag_there : (rows : List Row) (id : Text) → first_of id rows ≡ Some (codes "true") → IsFlag rows id true
flag_there rows id is = (λ t. is, λ e. refl)

pub flag_other : (rows : List Row) (id word : Text) → first_of id rows ≡ Some word → (word ≡ codes "true" → ⊥) → IsFlag rows id false
flag_other rows id word given other = (λ t. absurd (let f : false ≡ true = t in cc), λ is. absurd (other (some_is (sym given ∙ is))))

pub flag_none : (rows : List Row) (id : Text) → first_of id rows ≡ None → IsFlag rows id false
flag_none rows id none = (λ t. absurd (let f : false ≡ true = t in cc), λ is. absurd (let f : None ≡ Some (codes "true") = sym none ∙ is in cc))

-- ---- A number that may be absent

pub may_be_number : (rows : List Row) (id : Text) (o : Option ℕ) → IfSome o (IsNumber rows id) → IfNone o ((n : ℕ) → IsNumber rows id n → ⊥) → MayBeNumber rows id o
may_be_number rows id (Some n) number none = number
may_be_number rows id None number none = none

-- ---- A run or a check

pub no_declaration : (rows : List Row) (name : Text) → first_of (codes "DECL") rows ≡ None → IsNoTask rows name
no_declaration rows name none c l named is levels = let given = is.declaration in absurd cc

pub no_action : (rows : List Row) (name : Text) → ((o : Action) → name ≡ command_name o → IsAction rows o → ⊥) → IsNoTask rows name
no_action rows name none c l named is levels = none c.action named is.action

-- two flags of one name
same_flags : (rows : List Row) (id : Text) (a b : Bool) → IsFlag rows id a → IsFlag rows id b → a ≡ b
same_flags rows id true true one other = refl
same_flags rows id false false one other = refl
same_flags rows id true false one other = let bad : false ≡ true = other.1 (one.0 refl) in cc
same_flags rows id false true one other = let bad : false ≡ true = one.1 (other.0 refl) in cc

-- two actions of one name and the same rows ask for warnings, or neither does
same_warnings : (rows : List Row) (a b : Action) → command_name a ≡ command_name b → IsAction rows a → IsAction rows b → warns a ≡ warns b
same_warnings rows (Check l) (Check m) same one other = same_flags rows (codes "lint") l m one other
same_warnings rows (Check l) (Run horizon steps workers serial form progress) same one other = cc
same_warnings rows (Run horizon steps workers serial form progress) (Check l) same one other = cc
same_warnings rows (Run h s w r f p) (Run horizon steps workers serial form progress) same one other = refl

pub no_levels :
    (rows : List Row) (name : Text) (a : Action) → name ≡ command_name a → IsAction rows a → ((l : Levels) → AreLevels rows (warns a) l → ⊥) → IsNoTask rows name
no_levels rows name a named is none c l other given levels =
    none l (subst (λ (b : Bool). AreLevels rows b l) (same_warnings rows c.action a (sym other ∙ named) given.action is) levels)

-- ---- A command by its name

-- the name of a run or a check is no other one
own_name : (o : Action) (name : Text) → name ≡ command_name o → (name ≡ codes "check" → ⊥) → (name ≡ codes "run" → ⊥) → ⊥
own_name (Check lint) name named no_check no_run = no_check named
own_name (Run horizon steps workers serial form progress) name named no_check no_run = no_run named

-- two texts
differs : (a b : Text) → bytes_eq a b ≡ false → a ≡ b → ⊥
differs a b off same = let bad : false ≡ true = sym off ∙ (bytes_eq-Decides a b).1 same in cc

other_than : (name word other : Text) → name ≡ word → (word ≡ other → ⊥) → name ≡ other → ⊥
other_than name word other is differ same = differ (sym is ∙ same)

no_task : (o : Action) (name word : Text) → name ≡ word → (word ≡ codes "check" → ⊥) → (word ≡ codes "run" → ⊥) → name ≡ command_name o → ⊥
no_task o name word is no_check no_run named = own_name o name named (other_than name word (codes "check") is no_check) (other_than name word (codes "run") is no_run)

pub no_name : (rows : List Row) (name : Text) → name ≡ codes "explain" → first_of (codes "NAME") rows ≡ None → (r : Call) → name ≡ call_name r → IsCall rows r → ⊥
no_name rows name is none (call.Explain word) named given = let bad : None ≡ Some word.now = sym none ∙ given in cc
no_name rows name is none (call.Task c types levels) named given = no_task c.action name (codes "explain") is (λ e. cc) (λ e. cc) named
no_name rows name is none (call.Wave w types) named given = differs (codes "explain") (codes "wave") refl (sym is ∙ named)
no_name rows name is none (call.Expect x) named given = differs (codes "explain") (codes "expect") refl (sym is ∙ named)
no_name rows name is none (call.Diff d) named given = differs (codes "explain") (codes "diff") refl (sym is ∙ named)
no_name rows name is none (call.Draw d types) named given = differs (codes "explain") (codes "draw") refl (sym is ∙ named)
no_name rows name is none (call.Inspect x types) named given = differs (codes "explain") (codes "inspect") refl (sym is ∙ named)
no_name rows name is none (call.Coverage x types) named given = differs (codes "explain") (codes "coverage") refl (sym is ∙ named)
no_name rows name is none (call.Session x types) named given = differs (codes "explain") (codes "session") refl (sym is ∙ named)

pub no_wave : (rows : List Row) (name : Text) → name ≡ codes "wave" → ((w : Wave) → AsksWave rows w → ⊥) → (r : Call) → name ≡ call_name r → IsCall rows r → ⊥
no_wave rows name is none (call.Explain word) named given = differs (codes "wave") (codes "explain") refl (sym is ∙ named)
no_wave rows name is none (call.Task c types levels) named given = no_task c.action name (codes "wave") is (λ e. cc) (λ e. cc) named
no_wave rows name is none (call.Wave w types) named given = none w given.0
no_wave rows name is none (call.Expect x) named given = differs (codes "wave") (codes "expect") refl (sym is ∙ named)
no_wave rows name is none (call.Diff d) named given = differs (codes "wave") (codes "diff") refl (sym is ∙ named)
no_wave rows name is none (call.Draw d types) named given = differs (codes "wave") (codes "draw") refl (sym is ∙ named)
no_wave rows name is none (call.Inspect x types) named given = differs (codes "wave") (codes "inspect") refl (sym is ∙ named)
no_wave rows name is none (call.Coverage x types) named given = differs (codes "wave") (codes "coverage") refl (sym is ∙ named)
no_wave rows name is none (call.Session x types) named given = differs (codes "wave") (codes "session") refl (sym is ∙ named)

pub no_expect : (rows : List Row) (name : Text) → name ≡ codes "expect" → ((x : Expect) → AsksExpect rows x → ⊥) → (r : Call) → name ≡ call_name r → IsCall rows r → ⊥
no_expect rows name is none (call.Explain word) named given = differs (codes "expect") (codes "explain") refl (sym is ∙ named)
no_expect rows name is none (call.Task c types levels) named given = no_task c.action name (codes "expect") is (λ e. cc) (λ e. cc) named
no_expect rows name is none (call.Wave w types) named given = differs (codes "expect") (codes "wave") refl (sym is ∙ named)
no_expect rows name is none (call.Expect x) named given = none x given
no_expect rows name is none (call.Diff d) named given = differs (codes "expect") (codes "diff") refl (sym is ∙ named)
no_expect rows name is none (call.Draw d types) named given = differs (codes "expect") (codes "draw") refl (sym is ∙ named)
no_expect rows name is none (call.Inspect x types) named given = differs (codes "expect") (codes "inspect") refl (sym is ∙ named)
no_expect rows name is none (call.Coverage x types) named given = differs (codes "expect") (codes "coverage") refl (sym is ∙ named)
no_expect rows name is none (call.Session x types) named given = differs (codes "expect") (codes "session") refl (sym is ∙ named)

pub no_diff : (rows : List Row) (name : Text) → name ≡ codes "diff" → ((d : Diff) → AsksDiff rows d → ⊥) → (r : Call) → name ≡ call_name r → IsCall rows r → ⊥
no_diff rows name is none (call.Explain word) named given = differs (codes "diff") (codes "explain") refl (sym is ∙ named)
no_diff rows name is none (call.Task c types levels) named given = no_task c.action name (codes "diff") is (λ e. cc) (λ e. cc) named
no_diff rows name is none (call.Wave w types) named given = differs (codes "diff") (codes "wave") refl (sym is ∙ named)
no_diff rows name is none (call.Expect x) named given = differs (codes "diff") (codes "expect") refl (sym is ∙ named)
no_diff rows name is none (call.Diff d) named given = none d given
no_diff rows name is none (call.Draw d types) named given = differs (codes "diff") (codes "draw") refl (sym is ∙ named)
no_diff rows name is none (call.Inspect x types) named given = differs (codes "diff") (codes "inspect") refl (sym is ∙ named)
no_diff rows name is none (call.Coverage x types) named given = differs (codes "diff") (codes "coverage") refl (sym is ∙ named)
no_diff rows name is none (call.Session x types) named given = differs (codes "diff") (codes "session") refl (sym is ∙ named)

pub no_draw : (rows : List Row) (name : Text) → name ≡ codes "draw" → ((d : Draw) → AsksDraw rows d → ⊥) → (r : Call) → name ≡ call_name r → IsCall rows r → ⊥
no_draw rows name is none (call.Explain word) named given = differs (codes "draw") (codes "explain") refl (sym is ∙ named)
no_draw rows name is none (call.Task c types levels) named given = no_task c.action name (codes "draw") is (λ e. cc) (λ e. cc) named
no_draw rows name is none (call.Wave w types) named given = differs (codes "draw") (codes "wave") refl (sym is ∙ named)
no_draw rows name is none (call.Expect x) named given = differs (codes "draw") (codes "expect") refl (sym is ∙ named)
no_draw rows name is none (call.Diff d) named given = differs (codes "draw") (codes "diff") refl (sym is ∙ named)
no_draw rows name is none (call.Draw d types) named given = none d given.0
no_draw rows name is none (call.Inspect x types) named given = differs (codes "draw") (codes "inspect") refl (sym is ∙ named)
no_draw rows name is none (call.Coverage x types) named given = differs (codes "draw") (codes "coverage") refl (sym is ∙ named)
no_draw rows name is none (call.Session x types) named given = differs (codes "draw") (codes "session") refl (sym is ∙ named)

pub no_inspect : (rows : List Row) (name : Text) → name ≡ codes "inspect" → ((x : Inspect) → AsksInspect rows x → ⊥) → (r : Call) → name ≡ call_name r → IsCall rows r → ⊥
no_inspect rows name is none (call.Explain word) named given = differs (codes "inspect") (codes "explain") refl (sym is ∙ named)
no_inspect rows name is none (call.Task c types levels) named given = no_task c.action name (codes "inspect") is (λ e. cc) (λ e. cc) named
no_inspect rows name is none (call.Wave w types) named given = differs (codes "inspect") (codes "wave") refl (sym is ∙ named)
no_inspect rows name is none (call.Expect x) named given = differs (codes "inspect") (codes "expect") refl (sym is ∙ named)
no_inspect rows name is none (call.Diff d) named given = differs (codes "inspect") (codes "diff") refl (sym is ∙ named)
no_inspect rows name is none (call.Draw d types) named given = differs (codes "inspect") (codes "draw") refl (sym is ∙ named)
no_inspect rows name is none (call.Inspect x types) named given = none x given.0
no_inspect rows name is none (call.Coverage x types) named given = differs (codes "inspect") (codes "coverage") refl (sym is ∙ named)
no_inspect rows name is none (call.Session x types) named given = differs (codes "inspect") (codes "session") refl (sym is ∙ named)

pub no_coverage : (rows : List Row) (name : Text) → name ≡ codes "coverage" → ((x : Coverage) → AsksCoverage rows x → ⊥) → (r : Call) → name ≡ call_name r → IsCall rows r → ⊥
no_coverage rows name is none (call.Explain word) named given = differs (codes "coverage") (codes "explain") refl (sym is ∙ named)
no_coverage rows name is none (call.Task c types levels) named given = no_task c.action name (codes "coverage") is (λ e. cc) (λ e. cc) named
no_coverage rows name is none (call.Wave w types) named given = differs (codes "coverage") (codes "wave") refl (sym is ∙ named)
no_coverage rows name is none (call.Expect x) named given = differs (codes "coverage") (codes "expect") refl (sym is ∙ named)
no_coverage rows name is none (call.Diff d) named given = differs (codes "coverage") (codes "diff") refl (sym is ∙ named)
no_coverage rows name is none (call.Draw d types) named given = differs (codes "coverage") (codes "draw") refl (sym is ∙ named)
no_coverage rows name is none (call.Inspect x types) named given = differs (codes "coverage") (codes "inspect") refl (sym is ∙ named)
no_coverage rows name is none (call.Coverage x types) named given = none x given.0
no_coverage rows name is none (call.Session x types) named given = differs (codes "coverage") (codes "session") refl (sym is ∙ named)

pub no_session : (rows : List Row) (name : Text) → name ≡ codes "session" → ((x : SessionCall) → AsksSession rows x → ⊥) → (r : Call) → name ≡ call_name r → IsCall rows r → ⊥
no_session rows name is none (call.Explain word) named given = differs (codes "session") (codes "explain") refl (sym is ∙ named)
no_session rows name is none (call.Task c types levels) named given = no_task c.action name (codes "session") is (λ e. cc) (λ e. cc) named
no_session rows name is none (call.Wave w types) named given = differs (codes "session") (codes "wave") refl (sym is ∙ named)
no_session rows name is none (call.Expect x) named given = differs (codes "session") (codes "expect") refl (sym is ∙ named)
no_session rows name is none (call.Diff d) named given = differs (codes "session") (codes "diff") refl (sym is ∙ named)
no_session rows name is none (call.Draw d types) named given = differs (codes "session") (codes "draw") refl (sym is ∙ named)
no_session rows name is none (call.Inspect x types) named given = differs (codes "session") (codes "inspect") refl (sym is ∙ named)
no_session rows name is none (call.Coverage x types) named given = differs (codes "session") (codes "coverage") refl (sym is ∙ named)
no_session rows name is none (call.Session x types) named given = none x given.0

pub no_other_call :
    (rows : List Row) (name : Text) → (name ≡ codes "explain" → ⊥) → (name ≡ codes "wave" → ⊥) → (name ≡ codes "expect" → ⊥) → (name ≡ codes "diff" → ⊥) → (name ≡ codes "draw" → ⊥)
    → (name ≡ codes "inspect" → ⊥) → (name ≡ codes "coverage" → ⊥) → (name ≡ codes "session" → ⊥) → IsNoTask rows name → (r : Call) → name ≡ call_name r → IsCall rows r → ⊥
no_other_call rows name no_explain no_wave no_expect no_diff no_draw no_inspect no_coverage no_session none (call.Explain word) named given = no_explain named
no_other_call rows name no_explain no_wave no_expect no_diff no_draw no_inspect no_coverage no_session none (call.Task c types levels) named given = none c levels named given.0 given.2
no_other_call rows name no_explain no_wave no_expect no_diff no_draw no_inspect no_coverage no_session none (call.Wave w types) named given = no_wave named
no_other_call rows name no_explain no_wave no_expect no_diff no_draw no_inspect no_coverage no_session none (call.Expect x) named given = no_expect named
no_other_call rows name no_explain no_wave no_expect no_diff no_draw no_inspect no_coverage no_session none (call.Diff d) named given = no_diff named
no_other_call rows name no_explain no_wave no_expect no_diff no_draw no_inspect no_coverage no_session none (call.Draw d types) named given = no_draw named
no_other_call rows name no_explain no_wave no_expect no_diff no_draw no_inspect no_coverage no_session none (call.Inspect x types) named given = no_inspect named
no_other_call rows name no_explain no_wave no_expect no_diff no_draw no_inspect no_coverage no_session none (call.Coverage x types) named given = no_coverage named
no_other_call rows name no_explain no_wave no_expect no_diff no_draw no_inspect no_coverage no_session none (call.Session x types) named given = no_session named

-- ---- Rules and traces

pub no_rules : (rows : List Row) → first_of (codes "RULES") rows ≡ None → (x : Expect) → AsksExpect rows x → ⊥
no_rules rows none x is = let given = is.rules in absurd cc

pub no_traces : (rows : List Row) → all_of (codes "TRACE") rows ≡ None → (x : Expect) → AsksExpect rows x → ⊥
no_traces rows none x is = let given = is.traces in absurd cc

abbrev text : Bor Text → Text
text n = n.now

-- the texts of an option that may be there several times
pub texts-some :
    {E : Type 0} (rows : List Row) (id : Text) (names : List (Bor Text)) (r : Result (Vec (Bor Text)) E) → all_of id rows ≡ Some (map text names) → IfOk r (λ v. v.items ≡ names)
    → IfOk r (λ v. or_none (all_of id rows) ≡ map text v.items)
texts-some rows id names (Err e) is same = tt
texts-some rows id names (Ok v) is same = ap or_none is ∙ ap (map text) (sym same)

pub texts-none : (rows : List Row) (id : Text) (names : List (Bor Text)) → all_of id rows ≡ None → names ≡ [] → or_none (all_of id rows) ≡ map text names
texts-none rows id names is none = ap or_none is ∙ ap (map text) (sym none)

-- a deployment or block types of no declaration
pub declares_alone :
    (rows : List Row) (declaration deploy : Option Text) (types : List Text) → first_of (codes "decl") rows ≡ declaration → first_of (codes "deploy") rows ≡ deploy
    → or_none (all_of (codes "types") rows) ≡ types → declares_nothing declaration deploy types ≡ true → (x : Expect) → AsksExpect rows x → ⊥
declares_alone rows declaration deploy types is-declared is-deployed are-types on x is =
    let declared : declaration ≡ option_map text x.declaration = sym is-declared ∙ is.declaration in
    let deployed : deploy ≡ option_map text x.deploy = sym is-deployed ∙ is.deploy in
    let typed : types ≡ map text x.types.items = sym are-types ∙ is.types in
    let same : declares_nothing declaration deploy types ≡ declares_nothing (option_map text x.declaration) (option_map text x.deploy) (map text x.types.items) =
    λ k. declares_nothing (declared k) (deployed k) (typed k) in
    let bad : true ≡ false = sym on ∙ same ∙ is.of_a_declaration in
    cc

pub no_first : (rows : List Row) → first_of (codes "A") rows ≡ None → (d : Diff) → AsksDiff rows d → ⊥
no_first rows none d is = let given = is.first in absurd cc

pub no_second : (rows : List Row) → first_of (codes "B") rows ≡ None → (d : Diff) → AsksDiff rows d → ⊥
no_second rows none d is = let given = is.second in absurd cc

-- ---- What a trace is shown of

pub no_source : (rows : List Row) → first_of (codes "DECL") rows ≡ None → (w : Wave) → AsksWave rows w → ⊥
no_source rows none w is = let given = is.declaration in absurd cc

pub no_trace : (rows : List Row) → first_of (codes "TRACE") rows ≡ None → (w : Wave) → AsksWave rows w → ⊥
no_trace rows none w is = let given = is.trace in absurd cc

-- ---- What is drawn

pub no_drawing : (rows : List Row) → first_of (codes "DECL") rows ≡ None → (d : Draw) → AsksDraw rows d → ⊥
no_drawing rows none d is = let given = is.declaration in absurd cc

pub no_wave_limit : (rows : List Row) → ((n : ℕ) → IsNumber rows (codes "steps") n → ⊥) → (w : Wave) → AsksWave rows w → ⊥
no_wave_limit rows none w is = none w.steps is.steps

pub no_inspected : (rows : List Row) → first_of (codes "DECL") rows ≡ None → (x : Inspect) → AsksInspect rows x → ⊥
no_inspected rows none x is = let given = is.declaration in absurd cc

pub no_inspected_trace : (rows : List Row) → first_of (codes "TRACE") rows ≡ None → (x : Inspect) → AsksInspect rows x → ⊥
no_inspected_trace rows none x is = let given = is.trace in absurd cc

pub no_limit : (rows : List Row) → ((n : ℕ) → IsNumber rows (codes "steps") n → ⊥) → (x : Inspect) → AsksInspect rows x → ⊥
no_limit rows none x is = none x.steps is.steps

pub no_covered : (rows : List Row) → first_of (codes "DECL") rows ≡ None → (x : Coverage) → AsksCoverage rows x → ⊥
no_covered rows none x is = let given = is.declaration in absurd cc

pub no_covered_traces : (rows : List Row) → all_of (codes "TRACE") rows ≡ None → (x : Coverage) → AsksCoverage rows x → ⊥
no_covered_traces rows none x is = let given = is.traces in absurd cc

pub no_covered_limit : (rows : List Row) → ((n : ℕ) → IsNumber rows (codes "steps") n → ⊥) → (x : Coverage) → AsksCoverage rows x → ⊥
no_covered_limit rows none x is = none x.steps is.steps

-- ---- A session

pub no_spoken : (rows : List Row) → first_of (codes "DECL") rows ≡ None → (x : SessionCall) → AsksSession rows x → ⊥
no_spoken rows none x is = let given = is.declaration in absurd cc

pub no_spoken_limit : (rows : List Row) → ((n : ℕ) → IsNumber rows (codes "steps") n → ⊥) → (x : SessionCall) → AsksSession rows x → ⊥
no_spoken_limit rows none x is = none x.steps is.steps

pub no_spoken_form : (rows : List Row) → ((f : Form) → IsForm rows f → ⊥) → (x : SessionCall) → AsksSession rows x → ⊥
no_spoken_form rows none x is = none x.form is.form

-- ---- The words, by what the parser says of them

module _ (values : ValueParser) (are : AreForms values) (a : App) (words : List Text) (is : a ≡ simulator_with values) where
  asks : (k : ErrorKind) → OutOfMemory ≢ k → (e : Error) → (is_simple_and_free a ≡ true → HasKind (fault_of a words) e) → kind_of e ≡ k → IsAmong k (fault_of simulator words)
  asks k other e kinds same = go (subst (λ (x : App). is_simple_and_free x ≡ true → HasKind (fault_of x words) e) is kinds refl)
    where
      go : HasKind (fault_of (simulator_with values) words) e → IsAmong k (fault_of simulator words)
      go (inl memory) = absurd (other (sym memory ∙ same))
      go (inr among) = subst (IsAmong k) (same_fault values are words) (subst (λ (x : ErrorKind). IsAmong x (fault_of (simulator_with values) words)) same among)

  pub asks_help : (e : Error) → (is_simple_and_free a ≡ true → HasKind (fault_of a words) e) → IsText (kind_of e) → AskHelp words
  asks_help e kinds (inl help) = inl (asks DisplayHelp (λ bad. cc) e kinds help)
  asks_help e kinds (inr version) = inr (asks DisplayVersion (λ bad. cc) e kinds version)

  pub are_refused : (e : Error) → (is_simple_and_free a ≡ true → HasKind (fault_of a words) e) → (takes a words ≡ true → kind_of e ≡ OutOfMemory)
      → kind_of e ≢ OutOfMemory → ¬ (IsText (kind_of e)) → AreNoCall words
  are_refused e kinds passes other no_help = record { cause = inl (kind_of e, record { among = among; no_help = no_help }); none = none }
    where
      same : IsAmong (kind_of e) (fault_of (simulator_with values) words) → IsAmong (kind_of e) (fault_of simulator words)
      same = subst (IsAmong (kind_of e)) (same_fault values are words)

      pick : HasKind (fault_of (simulator_with values) words) e → IsAmong (kind_of e) (fault_of simulator words)
      pick (inl memory) = absurd (other memory)
      pick (inr here) = same here

      among : IsAmong (kind_of e) (fault_of simulator words)
      among = pick (subst (λ (x : App). is_simple_and_free x ≡ true → HasKind (fault_of x words) e) is kinds refl)

      none : takes simulator words ≡ true → NameNoCall words
      none taken c named = other (passes (ap (λ (x : App). takes x words) is ∙ same_takes values are words ∙ taken))

  pub is_taken : (is_simple_and_free a ≡ true → fault_of a words ≡ []) → IsTaken words
  is_taken kinds = sym (same_fault values are words) ∙ subst (λ (x : App). is_simple_and_free x ≡ true → fault_of x words ≡ []) is kinds refl

  module _ (rows : List Row) (found : Option (Text × List Row)) (matches : is_simple a ≡ true → (rows ≡ matches_of a words) × (found ≡ subcommand_of a words)) where
    found_is : found ≡ subcommand_of simulator words
    found_is = (subst (λ (x : App). is_simple x ≡ true → (rows ≡ matches_of x words) × (found ≡ subcommand_of x words)) is matches refl).1 ∙ same_subcommand values are words

    pub make_call : (r : Result Call LineFault) → IfOk r (IsCallOf found) → IfOk r (AreCall words)
    make_call (Err e) named = tt
    make_call (Ok c) named = subst (λ (x : Option (Text × List Row)). IsCallOf x c) found_is named

    pub make_no_call : (r : Result Call LineFault) → IsTaken words → IfErr r (λ e. IsFault e → (c : Call) → IsCallOf found c → ⊥) → IfErr r (λ e. IsFault e → AreNoCall words)
    make_no_call (Ok x) taken none = tt
    make_no_call (Err e) taken none = λ fault. record { cause = inr (taken, no_call fault); none = λ takes. no_call fault }
      where
        no_call : IsFault e → NameNoCall words
        no_call fault c named = none fault c (subst (λ (x : Option (Text × List Row)). IsCallOf x c) (sym found_is) named)

pub on_ok : (r : Result Call LineFault) (P : Type 0) → P → OnOk r P
on_ok (Ok x) P p = p
on_ok (Err e) P p = tt
