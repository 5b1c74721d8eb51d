-- Commands that are made argument by argument, none of them global.
use Rattle.fb_types.proofs.Common.{◌≡◌, ◌||◌, ◌<◌, ◌≤◌, ◌+◌, ℕ, Bool, List, Some, false, true, ap, ap₂, drop, get_or, length, refl, sym, ◌∙◌, drop_all, drop_more}
use Rattle.std.specs.Borrow.{Bor}
use Rattle.clap.specs.Words.{App, Rule, Text, AddsArg, AddsSubcommand, app_of, rule_of, with_rule, with_subcommand}
use Rattle.clap.specs.declared.builder.action.ArgAction.{ArgAction}
use Rattle.clap.specs.declared.builder.arg.Arg.{Arg}
use Rattle.clap.specs.declared.builder.command.Command.{Command}
use Rattle.fbsim_line.specs.Line.{command_for, rule_for, with_arguments, with_kinds}
use Rattle.fbsim_line.specs.declared.arguments.Argument.{Argument}
use Rattle.fbsim_line.specs.declared.line.Subcommand.{Subcommand}
use Rattle.clap.specs.declared.builder.value_parser.ValueParser.{ValueParser}
use Rattle.clap.specs.declared.builder.command.Command.TheViews.{out-Command as fields_of}

-- what a command represents, and that nothing in it is global
pub record Builds (c : Command) (a : App) : Type 0 where
  pub app : app_of c ≡ a
  pub local : (fields_of c).has_globals ≡ false

-- one more argument
pub grown : (old new : Command) (x : Arg) (a : App) (r : Rule) → AddsArg old x new → x.global ≡ false → rule_of x ≡ r → Builds old a → Builds new (with_rule a r)
grown old new x a r adds local is at =
    record {
      app = adds.shape local ∙ ap (λ (b : App). with_rule b (rule_of x)) at.app ∙ ap (with_rule a) is;
      local = adds.globals ∙ ap (λ (b : Bool). b || x.global) at.local ∙ local;
    }

-- one more subcommand
pub joined : (old new sub : Command) (a b : App) → AddsSubcommand old sub new → (fields_of sub).has_globals ≡ false → app_of old ≡ a → app_of sub ≡ b → app_of new ≡ with_subcommand a b.top
joined old new sub a b adds local is of = adds.shape local ∙ ap₂ with_subcommand is (ap (λ (x : App). x.top) of)

-- ---- An argument

-- one that has an action
pub acted : (old new : Arg) (action : ArgAction) → new ≡ record old { action = Some action } → rule_of new ≡ record (rule_of old) { action = Some action }
acted old new action is = ap rule_of is

-- one that has to be there
pub demanded : (old new : Arg) → new ≡ record old { required = true } → rule_of new ≡ record (rule_of old) { required = true }
demanded old new is = ap rule_of is

-- one that has a help text
pub helped : (old new : Arg) (help : Bor Text) → new ≡ record old { help = Some help } → rule_of new ≡ rule_of old
helped old new help is = ap rule_of is

-- one that is an option
pub called : (old new : Arg) (name : Bor Text) → new ≡ record old { long = Some name } → rule_of new ≡ record (rule_of old) { long = Some name.now }
called old new name is = ap rule_of is

-- ---- A list of arguments

-- with the arguments from here on this is the command that is asked for, and nothing in it is global
pub record Goes (a : App) (xs : List Argument) (i : ℕ) (c : Command) : Type 0 where
  pub app : with_arguments a xs ≡ with_arguments (app_of c) (drop i xs)
  pub local : (fields_of c).has_globals ≡ false

pub goes-first : (xs : List Argument) (c : Command) → (fields_of c).has_globals ≡ false → Goes (app_of c) xs 0 c
goes-first xs c local = record { app = refl; local = local }

pub goes-on :
    (a : App) (xs : List Argument) (i : ℕ) (d : Argument) (old new : Command) (x : Arg) → i < length xs → AddsArg old x new → x.global ≡ false
    → rule_of x ≡ rule_for (get_or xs i d) → Goes a xs i old → Goes a xs (i + 1) new
goes-on a xs i d old new x lt adds local is goes =
    let more : Builds new (with_rule (app_of old) (rule_for (get_or xs i d))) =
    grown old new x (app_of old) (rule_for (get_or xs i d)) adds local is (record { app = refl; local = goes.local }) in
    record {
      app = goes.app ∙ ap (with_arguments (app_of old)) (drop_more xs i d lt) ∙ ap (λ (b : App). with_arguments b (drop (i + 1) xs)) (sym more.app);
      local = more.local;
    }

pub goes-past : (a : App) (xs : List Argument) (i : ℕ) (c : Command) → length xs ≤ i → Goes a xs i c → app_of c ≡ with_arguments a xs
goes-past a xs i c end goes = sym (goes.app ∙ ap (with_arguments (app_of c)) (drop_all i xs end))

-- ---- A list of subcommands

-- with the subcommands from here on this is the command that is asked for
pub record Joins (values : ValueParser) (a : App) (ks : List Subcommand) (i : ℕ) (c : Command) : Type 0 where
  pub app : with_kinds values a ks ≡ with_kinds values (app_of c) (drop i ks)

pub joins-first : (values : ValueParser) (a : App) (ks : List Subcommand) (c : Command) → app_of c ≡ a → Joins values a ks 0 c
joins-first values a ks c is = record { app = ap (λ (b : App). with_kinds values b ks) (sym is) }

pub joins-on :
    (values : ValueParser) (a : App) (ks : List Subcommand) (i : ℕ) (d : Subcommand) (old sub new : Command) → i < length ks → AddsSubcommand old sub new → (fields_of sub).has_globals ≡ false
    → app_of sub ≡ command_for values (get_or ks i d) → Joins values a ks i old → Joins values a ks (i + 1) new
joins-on values a ks i d old sub new lt adds local is joins =
    record {
      app = joins.app ∙ ap (with_kinds values (app_of old)) (drop_more ks i d lt)
          ∙ ap (λ (b : App). with_kinds values b (drop (i + 1) ks)) (sym (joined old new sub (app_of old) (command_for values (get_or ks i d)) adds local refl is));
    }

pub joins-past : (values : ValueParser) (a : App) (ks : List Subcommand) (i : ℕ) (c : Command) → length ks ≤ i → Joins values a ks i c → app_of c ≡ with_kinds values a ks
joins-past values a ks i c end joins = sym (joins.app ∙ ap (with_kinds values (app_of c)) (drop_all i ks end))
