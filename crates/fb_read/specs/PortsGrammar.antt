-- The grammar of interfaces, a case for each production (this project's profile, in the manner of IEC 61499-1, Annex B).
use Rattle.std.specs.Prelude.{List, [], Option, Some, None}
use Rattle.std.specs.List.{flat_map}
use Rattle.fb_types.specs.Names.{Name}
use Rattle.fb_types.specs.declared.value.Value.{Value}
use Rattle.fb_types.specs.declared.value.Ty.{Ty}
use Rattle.fb_types.specs.declared.library.EventPort.{EventPort}
use Rattle.fb_types.specs.declared.library.Variable.{Variable}
use Rattle.fb_types.specs.declared.library.Ports.{Ports}
use Rattle.fb_read.specs.declared.ports.Declaration.{Declaration}
use Rattle.fb_read.specs.declared.token.Mark.{Mark}
use Rattle.fb_read.specs.declared.token.Mark.TheVariants as mark
use Rattle.fb_read.specs.Nodes.{event_of, declaration_of, ports_of}
use Rattle.fb_read.specs.Ports.{variables_of}
use Rattle.fb_read.specs.Tokens.{Tokens}
use Rattle.fb_read.specs.Grammar.{IsMark, IsName, IsType, AreSeparated, IsSection}
use Rattle.fb_read.specs.NetworkGrammar.{IsConstant}

-- [ WITH name { "," name } ]
pub data AreWith : List Name → Tokens → Tokens → Type 0 where
  no_with : {ts : Tokens} → AreWith [] ts ts
  some_with : {ns : List Name} {ts a rest : Tokens} → IsMark mark.With ts a → AreSeparated IsName ns a rest → AreWith ns ts rest

-- event = name [ WITH name { "," name } ] ";"
pub data IsEvent : EventPort → Tokens → Tokens → Type 0 where
  is_event : {n : Name} {ns : List Name} {ts a b rest : Tokens} → IsName n ts a → AreWith ns a b → IsMark mark.Semicolon b rest → IsEvent (event_of n ns) ts rest

-- [ ":=" constant ]
pub data IsInitial : Option Value → Tokens → Tokens → Type 0 where
  no_initial : {ts : Tokens} → IsInitial None ts ts
  some_initial : {v : Value} {ts a rest : Tokens} → IsMark mark.Assign ts a → IsConstant v a rest → IsInitial (Some v) ts rest

-- var = name { "," name } ":" type [ ":=" constant ] ";"
pub data IsDeclaration : Declaration → Tokens → Tokens → Type 0 where
  is_declaration : {ns : List Name} {t : Ty} {v : Option Value} {ts a b c d rest : Tokens} → AreSeparated IsName ns ts a → IsMark mark.Colon a b → IsType t b c
      → IsInitial v c d → IsMark mark.Semicolon d rest → IsDeclaration (declaration_of ns t v) ts rest

-- [ keyword { var } END_VAR ], where each name of a list is a variable of its own
pub data AreVariables (k : Mark) : List Variable → Tokens → Tokens → Type 0 where
  are_variables : {ds : List Declaration} {ts rest : Tokens} → IsSection IsDeclaration k mark.EndVar ds ts rest → AreVariables k (flat_map variables_of ds) ts rest

-- ports = [ EVENT_INPUT { event } END_EVENT ] [ EVENT_OUTPUT { event } END_EVENT ]
--         [ VAR_INPUT { var } END_VAR ] [ VAR_OUTPUT { var } END_VAR ]
pub data ArePorts : Ports → Tokens → Tokens → Type 0 where
  are_ports : {is os : List EventPort} {xs ys : List Variable} {ts a b c rest : Tokens} → IsSection IsEvent mark.EventInput mark.EndEvent is ts a
      → IsSection IsEvent mark.EventOutput mark.EndEvent os a b → AreVariables mark.VarInput xs b c → AreVariables mark.VarOutput ys c rest
      → ArePorts (ports_of is os xs ys) ts rest
