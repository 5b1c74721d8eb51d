use Rattle.fb_system.proofs.lemmas.Common.{◌≡◌, List, Option, subst, BlockType, NetworkNumbers, AreNarrow}
use Rattle.fb_system.specs.Layouts.{IsLayout}
use Rattle.fb_system.proofs.lemmas.rows.MadeTables.{ok_read, tables_made}
use Rattle.fb_system.proofs.netlist.Netlist.of.Goals as goal

pub invariant_of-result : goal.invariant_of-result
invariant_of-result c =
    let all = c.in_ok-library.ensures in
    tables_made c.args.library _ c.args.numbers _ _ _ c.requires.resolved c.requires.few
    (subst (λ (ts : List BlockType). AreNarrow ts) c.as_slice.ensures c.bound_all.ensures) (ok_read _ (IsLayout c.args.library) _ c.layout_of-layout.ensures all.first)
    (ok_read _ (λ (n : NetworkNumbers). n ≡ c.args.numbers.application) _ c.of-application.ensures all.second)
    (ok_read _ (λ (ns : List (Option NetworkNumbers)). ns ≡ c.args.numbers.blocks) _ c.wirings_of-blocks.ensures all.third) all.given
