-- The grammar of block types and of whole libraries, a case for each production (this project's profile, in the manner of
-- IEC 61499-1, Annex B).
use Rattle.std.specs.Prelude.{List, ◌++◌}
use Rattle.fb_types.specs.Names.{Name}
use Rattle.fb_types.specs.declared.library.Ports.{Ports}
use Rattle.fb_types.specs.declared.library.Variable.{Variable}
use Rattle.fb_types.specs.declared.library.State.{State}
use Rattle.fb_types.specs.declared.library.Transition.{Transition}
use Rattle.fb_types.specs.declared.library.Algorithm.{Algorithm}
use Rattle.fb_types.specs.declared.library.BasicType.{BasicType}
use Rattle.fb_types.specs.declared.library.Network.{Network}
use Rattle.fb_types.specs.declared.library.BlockType.{BlockType}
use Rattle.fb_types.specs.declared.library.BlockType.TheVariants as block_type
use Rattle.fb_types.specs.declared.library.Application.{Application}
use Rattle.fb_types.specs.declared.library.Library.{Library}
use Rattle.fb_read.specs.declared.token.Mark.TheVariants as mark
use Rattle.fb_read.specs.Nodes.{basic_of, composite_of, library_of}
use Rattle.fb_read.specs.Tokens.{Tokens}
use Rattle.fb_read.specs.Grammar.{IsMark, IsName, AreAll}
use Rattle.fb_read.specs.NetworkGrammar.{IsNetwork, IsApplication}
use Rattle.fb_read.specs.PortsGrammar.{AreVariables, ArePorts}
use Rattle.fb_read.specs.ChartsGrammar.{AreStates, AreTransitions, IsAlgorithm}

-- basic = [ VAR { var } END_VAR ] EC_STATES state { state } END_STATES
--         [ EC_TRANSITIONS { transition } END_TRANSITIONS ] { algorithm }
-- after the name and the ports
pub data IsBasic (n : Name) (p : Ports) : BasicType → Tokens → Tokens → Type 0 where
  is_basic : {vs : List Variable} {ss : List State} {xs : List Transition} {ys : List Algorithm} {ts a b c rest : Tokens} → AreVariables mark.Var vs ts a → AreStates ss a b
      → AreTransitions xs b c → AreAll IsAlgorithm ys c rest → IsBasic n p (basic_of n p vs ss xs ys) ts rest

-- basic | network, after the name and the ports
pub data IsBody (n : Name) (p : Ports) : BlockType → Tokens → Tokens → Type 0 where
  of_basic : {x : BasicType} {ts rest : Tokens} → IsBasic n p x ts rest → IsBody n p (block_type.Basic x) ts rest
  of_composite : {w : Network} {ts rest : Tokens} → IsNetwork w ts rest → IsBody n p (block_type.Composite (composite_of n p w)) ts rest

-- block = FUNCTION_BLOCK name ports ( basic | network ) END_FUNCTION_BLOCK
pub data IsBlock : BlockType → Tokens → Tokens → Type 0 where
  is_block : {n : Name} {p : Ports} {x : BlockType} {ts a b c d rest : Tokens} → IsMark mark.FunctionBlock ts a → IsName n a b → ArePorts p b c
      → IsBody n p x c d → IsMark mark.EndFunctionBlock d rest → IsBlock x ts rest

-- library = { block } application { block }
pub data IsLibrary : Library → Tokens → Tokens → Type 0 where
  is_library : {xs ys : List BlockType} {x : Application} {ts a b rest : Tokens} → AreAll IsBlock xs ts a → IsApplication x a b → AreAll IsBlock ys b rest
      → IsLibrary (library_of (xs ++ ys) x) ts rest
