-- What the grammar of block types and of libraries derives is read.
use Rattle.fb_read.proofs.lemmas.Common.{◌≡◌, ◌<◌, true, false, List, ◌∷◌, [], ◌++◌, length, refl, ◌∙◌, arith, Name, Ports, Library, Mark, Tokens, same_mark, sees, name, expect, run_after, basic, block, library, is_mark, is_name, AreAll, IsLibrary}
use Rattle.fb_types.proofs.Common.{list_all-append}
use Rattle.fb_types.specs.declared.library.Network.{Network}
use Rattle.fb_types.specs.declared.library.BasicType.{BasicType}
use Rattle.fb_types.specs.declared.library.BlockType.{BlockType}
use Rattle.fb_types.specs.declared.library.BlockType.TheVariants as block_type
use Rattle.fb_read.specs.declared.token.Mark.TheVariants as mark
use Rattle.fb_read.specs.declared.token.Token.TheVariants as token
use Rattle.fb_read.specs.Nodes.{basic_of, composite_of, library_of}
use Rattle.fb_read.specs.Blocks.{composite, body, inside}
use Rattle.fb_read.specs.Fits.{fits_transition, fits_algorithm, fits_block, fits_library}
use Rattle.fb_read.specs.NetworkGrammar.{IsNetwork}
use Rattle.fb_read.specs.BlocksGrammar.{IsBasic, is_basic, IsBody, of_basic, of_composite, IsBlock, is_block, is_library}
use Rattle.fb_read.proofs.lemmas.rules.Steps.{done, mark-shorter, name-shorter}
use Rattle.fb_read.proofs.lemmas.rules.Lists.{IsComplete, IsShorter, Anything, all_fit, picked, bind-picked, pass-picked, run-complete}
use Rattle.fb_read.proofs.lemmas.declarations.NetworkComplete.{network-complete, network-starts, network-shorter, application-complete, application-starts}
use Rattle.fb_read.proofs.lemmas.declarations.PortsComplete.{variables-complete, variables-start, variables-shorter, EndsPorts, ports-complete, ports-shorter}
use Rattle.fb_read.proofs.lemmas.declarations.ChartsComplete.{states-complete, states-start, states-shorter, transitions-complete, transitions-shorter, algorithms-complete, algorithms-start, algorithms-shorter}

basic-complete : (n : Name) (p : Ports) (x : BasicType) (ts rest : Tokens) → IsBasic n p x ts (token.Mark mark.EndFunctionBlock ∷ rest)
    → basic n p ts ≡ picked (fits_block (block_type.Basic x)) (block_type.Basic x) (token.Mark mark.EndFunctionBlock ∷ rest)
unfolding basic same_mark
basic-complete n p x ts rest (is_basic {vs = vs} {ss = ss} {xs = xs} {ys = ys} {a = a} {b = b} {c = c} v s l m) =
    let whole : BlockType = block_type.Basic (basic_of n p vs ss xs ys) in
    let following : Tokens = token.Mark mark.EndFunctionBlock ∷ rest in
    rw (variables-complete mark.Var vs ts a v (states-start mark.Var s), states-complete ss a b s, transitions-complete xs b c l (algorithms-start mark.EcTransitions m refl refl))
    (bind-picked (all_fit fits_transition xs) (all_fit fits_algorithm ys) xs c _ whole following
    (rw (algorithms-complete ys c following m refl) (pass-picked (all_fit fits_algorithm ys) ys following _ whole following refl)))

basic-starts : {n : Name} {p : Ports} {x : BasicType} {ts rest : Tokens} (k : Mark) → IsBasic n p x ts rest → same_mark mark.Var k ≡ false → same_mark mark.EcStates k ≡ false → sees k ts ≡ false
basic-starts k (is_basic v s l m) no_var no_states = variables-start k v no_var (states-start k s ∙ no_states)

basic-shorter : {n : Name} {p : Ports} {x : BasicType} {ts rest : Tokens} → IsBasic n p x ts rest → length rest < length ts
basic-shorter (is_basic v s l m) = omega (arith, variables-shorter v, states-shorter s, transitions-shorter l, algorithms-shorter m)

composite-complete : (n : Name) (p : Ports) (w : Network) (ts rest : Tokens) → IsNetwork w ts (token.Mark mark.EndFunctionBlock ∷ rest)
    → composite n p ts ≡ done (block_type.Composite (composite_of n p w)) (token.Mark mark.EndFunctionBlock ∷ rest)
unfolding composite same_mark
composite-complete n p w ts rest l = rw (network-complete w ts (token.Mark mark.EndFunctionBlock ∷ rest) l refl refl) refl

body-complete : (n : Name) (p : Ports) (x : BlockType) (ts rest : Tokens) → IsBody n p x ts (token.Mark mark.EndFunctionBlock ∷ rest) → body n p ts ≡ picked (fits_block x) x (token.Mark mark.EndFunctionBlock ∷ rest)
unfolding body same_mark
body-complete n p x ts rest (of_basic {x = y} l) = rw (basic-starts mark.Fbs l refl refl) (basic-complete n p y ts rest l)
body-complete n p x ts rest (of_composite {w = w} l) = rw (network-starts mark.Fbs l) (composite-complete n p w ts rest l)

body-starts : {n : Name} {p : Ports} {x : BlockType} {ts rest : Tokens} → IsBody n p x ts rest → EndsPorts ts
unfolding same_mark
body-starts (of_basic l) = record {
  no_event_inputs = basic-starts mark.EventInput l refl refl;
  no_event_outputs = basic-starts mark.EventOutput l refl refl;
  no_inputs = basic-starts mark.VarInput l refl refl;
  no_outputs = basic-starts mark.VarOutput l refl refl;
}
body-starts (of_composite l) = record {
  no_event_inputs = network-starts mark.EventInput l;
  no_event_outputs = network-starts mark.EventOutput l;
  no_inputs = network-starts mark.VarInput l;
  no_outputs = network-starts mark.VarOutput l;
}

body-shorter : {n : Name} {p : Ports} {x : BlockType} {ts rest : Tokens} → IsBody n p x ts rest → length rest < length ts
body-shorter (of_basic l) = basic-shorter l
body-shorter (of_composite l) = network-shorter l

pub block-complete : IsComplete block IsBlock Anything fits_block
unfolding block inside name expect same_mark
block-complete x ts rest (is_block {n = n} {p = p} {b = b} {c = c} is_mark is_name l r is_mark) before =
    rw (ports-complete p b c l (body-starts r), body-complete n p x c rest r) (pass-picked (fits_block x) x (token.Mark mark.EndFunctionBlock ∷ rest) _ x rest refl)

block-shorter : IsShorter IsBlock
block-shorter x ts rest (is_block k n l r e) = omega (arith, mark-shorter k, name-shorter n, ports-shorter l, body-shorter r, mark-shorter e)

block-starts : (x : BlockType) (ts rest : Tokens) → IsBlock x ts rest → sees mark.FunctionBlock ts ≡ true
unfolding same_mark
block-starts x ts rest (is_block is_mark n l r e) = refl

abbrev blocks-complete : (found xs : List BlockType) (ts rest : Tokens) → AreAll IsBlock xs ts rest → sees mark.FunctionBlock rest ≡ false → run_after block mark.FunctionBlock found ts ≡ picked (all_fit fits_block xs) (found ++ xs) rest
blocks-complete = run-complete block IsBlock fits_block mark.FunctionBlock block-complete block-shorter block-starts

pub library-complete : (x : Library) (ts rest : Tokens) → IsLibrary x ts rest → sees mark.FunctionBlock rest ≡ false → library ts ≡ picked (fits_library x) x rest
unfolding library same_mark
library-complete x ts rest (is_library {xs = xs} {ys = ys} {x = y} {a = a} {b = b} before l following) ends =
    rw (blocks-complete [] xs ts a before (application-starts mark.FunctionBlock l), list_all-append fits_block xs ys)
    (bind-picked (all_fit fits_block xs) (all_fit fits_block ys) xs a _ (library_of (xs ++ ys) y) rest
    (rw (application-complete y a b l, blocks-complete xs ys b rest following ends) (pass-picked (all_fit fits_block ys) (xs ++ ys) rest _ (library_of (xs ++ ys) y) rest refl)))
