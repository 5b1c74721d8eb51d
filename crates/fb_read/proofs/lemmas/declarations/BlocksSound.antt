-- What the parser of block types and of libraries reads is in the grammar.
use Rattle.fb_read.proofs.lemmas.Common.{List, [], ◌++◌, Ok, sym, subst, inl, inr, Name, Ports, sees, name, expect, run_after, network, application, variables, ports, states, transitions, algorithms, basic, block, library, AreAll, IsLibrary}
use Rattle.fb_types.specs.declared.library.BlockType.{BlockType}
use Rattle.fb_types.specs.declared.library.BlockType.TheVariants as block_type
use Rattle.fb_read.specs.declared.token.Mark.TheVariants as mark
use Rattle.fb_read.specs.Nodes.{basic_of, composite_of, library_of}
use Rattle.fb_read.specs.Blocks.{composite, body, inside}
use Rattle.fb_read.specs.BlocksGrammar.{is_basic, IsBody, of_basic, of_composite, IsBlock, is_block, is_library}
use Rattle.fb_read.proofs.lemmas.rules.Steps.{both_ok, chosen, made, expected, named}
use Rattle.fb_read.proofs.lemmas.rules.Lists.{IsSound, run-sound, adds-all}
use Rattle.fb_read.proofs.lemmas.declarations.NetworkSound.{network-sound, application-sound}
use Rattle.fb_read.proofs.lemmas.declarations.PortsSound.{variables-sound, ports-sound}
use Rattle.fb_read.proofs.lemmas.declarations.ChartsSound.{states-sound, transitions-sound, algorithms-sound}

basic-sound : (n : Name) (p : Ports) → IsSound (basic n p) (IsBody n p)
unfolding basic
basic-sound n p ts x rest h =
    let a = both_ok (variables mark.Var ts) _ (x, rest) h in
    let b = both_ok (states a.1) _ (x, rest) a.3 in
    let c = both_ok (transitions b.1) _ (x, rest) b.3 in
    let d = both_ok (algorithms c.1) _ (x, rest) c.3 in
    made (IsBody n p) (block_type.Basic (basic_of n p a.0 b.0 c.0 d.0)) x ts d.1 rest d.3
    (of_basic (is_basic (variables-sound mark.Var ts a.0 a.1 a.2) (states-sound a.1 b.0 b.1 b.2) (transitions-sound b.1 c.0 c.1 c.2) (algorithms-sound c.1 d.0 d.1 d.2)))

composite-sound : (n : Name) (p : Ports) → IsSound (composite n p) (IsBody n p)
unfolding composite
composite-sound n p ts x rest h =
    let a = both_ok (network ts) _ (x, rest) h in
    made (IsBody n p) (block_type.Composite (composite_of n p a.0)) x ts a.1 rest a.3 (of_composite (network-sound ts a.0 a.1 a.2))

body-sound : (n : Name) (p : Ports) → IsSound (body n p) (IsBody n p)
unfolding body
body-sound n p ts x rest h =
    elim (chosen (sees mark.Fbs ts) (composite n p ts) (basic n p ts) (Ok (x, rest)) h) [
      | inl w ↦ composite-sound n p ts x rest w.1
      | inr w ↦ basic-sound n p ts x rest w.1
    ]

block-sound : IsSound block IsBlock
unfolding block inside
block-sound ts x rest h =
    let a = both_ok (expect mark.FunctionBlock ts) _ (x, rest) h in
    let d = both_ok (inside a.1) _ (x, rest) a.3 in
    let b = both_ok (name a.1) _ (d.0, d.1) d.2 in
    let c = both_ok (ports b.1) _ (d.0, d.1) b.3 in
    let e = both_ok (expect mark.EndFunctionBlock d.1) _ (x, rest) d.3 in
    made IsBlock d.0 x ts e.1 rest e.3
    (is_block (expected mark.FunctionBlock ts a.1 a.2) (named a.1 b.0 b.1 b.2) (ports-sound b.1 c.0 c.1 c.2) (body-sound b.0 c.0 c.1 d.0 d.1 c.3) (expected mark.EndFunctionBlock d.1 e.1 e.2))

pub library-sound : IsSound library IsLibrary
unfolding library
library-sound ts x rest h =
    let a = both_ok (run_after block mark.FunctionBlock [] ts) _ (x, rest) h in
    let b = both_ok (application a.1) _ (x, rest) a.3 in
    let c = both_ok (run_after block mark.FunctionBlock a.0 b.1) _ (x, rest) b.3 in
    let before = adds-all (AreAll IsBlock) a.0 ts a.1 (run-sound block IsBlock mark.FunctionBlock block-sound [] ts a.0 a.1 a.2) in
    let following = run-sound block IsBlock mark.FunctionBlock block-sound a.0 b.1 c.0 c.1 c.2 in
    let whole : IsLibrary (library_of (a.0 ++ following.more) b.0) ts c.1 = is_library before (application-sound a.1 b.0 b.1 b.2) following.derived in
    made IsLibrary (library_of c.0 b.0) x ts c.1 rest c.3 (subst (λ (all : List BlockType). IsLibrary (library_of all b.0) ts c.1) (sym following.read_is) whole)
